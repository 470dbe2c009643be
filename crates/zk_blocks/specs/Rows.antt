use Rattle.std.specs.Prelude.{◌≡◌, ℕ, zero, suc, Option, Some, None, List, [], ◌∷◌, ◌++◌, length}
use Rattle.zk_blocks.specs.Blocks.{Reading, made_of}

-- a row in front of others, where the line says one
abbrev pub put_row : {L X : Type 0} → Option X → L → List L → (X → List X × List L) → List X × List L
put_row None line lines more = ([], line ∷ lines)
put_row (Some x) line lines more = (x ∷ (more x).0, (more x).1)

-- as many rows as there are, and the lines behind them: what a line says may hang on the row before it
abbrev pub rows_of : {L X : Type 0} → (Option X → L → Option X) → Option X → List L → List X × List L
rows_of says last [] = ([], [])
rows_of says last (line ∷ lines) = put_row (says last line) line lines (λ x. rows_of says (Some x) lines)

-- these rows, of which there may be none
abbrev pub all_rows : {L X : Type 0} → (Option X → L → Option X) → List L → Reading L (List X)
all_rows says lines = (Some (rows_of says None lines).0, (rows_of says None lines).1)

-- a row in front of those that are still to come, where the line says one
abbrev pub put_just : {L X : Type 0} → Option X → L → List L → (X → Reading L (List X)) → Reading L (List X)
put_just None line lines more = (None, line ∷ lines)
put_just (Some x) line lines more = made_of (λ xs. x ∷ xs) (more x)

-- just so many rows
abbrev pub just_rows : {L X : Type 0} → (Option X → L → Option X) → ℕ → Option X → List L → Reading L (List X)
just_rows says zero last lines = (Some [], lines)
just_rows says (suc n) last [] = (None, [])
just_rows says (suc n) last (line ∷ lines) = put_just (says last line) line lines (λ x. just_rows says n (Some x) lines)

-- just so many rows where a number is given, and else as many as there are
abbrev pub counted_rows : {L X : Type 0} → (Option X → L → Option X) → Option ℕ → Option X → List L → Reading L (List X)
counted_rows says None last lines = (Some (rows_of says last lines).0, (rows_of says last lines).1)
counted_rows says (Some n) last lines = just_rows says n last lines

-- there are so many where a number is given
abbrev pub IsCount : Option ℕ → ℕ → Type 0
IsCount None n = Unit {0}
IsCount (Some m) n = n ≡ m

-- these are so many
abbrev pub AreCounted : {X : Type 0} → Option ℕ → List X → Type 0
AreCounted count xs = IsCount count (length xs)

-- others in front of these rows
abbrev pub put_rows : {L X : Type 0} → List X → List X × List L → List X × List L
put_rows front rows = (front ++ rows.0, rows.1)

-- each row fits behind the one before it
abbrev pub AllFit : {X : Type 0} → (Option X → X → Type 0) → Option X → List X → Type 0
AllFit Fits last [] = Unit {0}
AllFit Fits last (x ∷ xs) = Fits last x × AllFit Fits (Some x) xs

-- they fit, and their number can be told
abbrev pub FitRows : {X : Type 0} → (ℕ → Type 0) → (Option X → X → Type 0) → List X → Type 0
FitRows Can Fits xs = AllFit Fits None xs × Can (length xs)

-- a line is read exactly as a row, whichever row is before it
pub record IsRow {L X : Type 0} (text : X → L) (Fits : Option X → X → Type 0) (says : Option X → L → Option X) : Type 0 where
  pub again : (last : Option X) (x : X) → Fits last x → says last (text x) ≡ Some x
  pub spelled : (last : Option X) (line : L) (x : X) → says last line ≡ Some x → (line ≡ text x) × Fits last x
