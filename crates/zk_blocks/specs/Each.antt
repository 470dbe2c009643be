use Rattle.std.specs.Prelude.{Some, List, [], ◌∷◌, ◌++◌}
use Rattle.zk_blocks.specs.Blocks.{Reading, then_of, made_of}

-- one more in front
abbrev pub put_first : {A : Type 0} → A × List A → List A
put_first both = both.0 ∷ both.1

-- others in front
abbrev pub put_front : {A : Type 0} → List A → List A → List A
put_front front each = front ++ each

-- one thing for each of some, in their order
abbrev pub each_of : {L D A : Type 0} → (D → List L → Reading L A) → List D → List L → Reading L (List A)
each_of read [] lines = (Some [], lines)
each_of read (d ∷ ds) lines = made_of put_first (then_of (read d) (each_of read ds) lines)

-- their lines
abbrev pub each_lines : {L D A : Type 0} → (D → A → List L) → List D → List A → List L
each_lines lines_of [] each = []
each_lines lines_of (d ∷ ds) [] = []
each_lines lines_of (d ∷ ds) (a ∷ more) = lines_of d a ++ each_lines lines_of ds more

-- there are as many, and each fits
abbrev pub EachFits : {D A : Type 0} → (D → A → Type 0) → List D → List A → Type 0
EachFits Fits [] [] = Unit {0}
EachFits Fits [] (a ∷ more) = ⊥
EachFits Fits (d ∷ ds) [] = ⊥
EachFits Fits (d ∷ ds) (a ∷ more) = Fits d a × EachFits Fits ds more

-- the sort of line that opens one thing for each of some, or is behind them all, where each may be no line at all
abbrev pub EachOpens : {L D : Type 0} → (D → (L → Type 0) → L → Type 0) → (L → Type 0) → List D → L → Type 0
EachOpens Opens Behind [] = Behind
EachOpens Opens Behind (d ∷ ds) = Opens d (EachOpens Opens Behind ds)
