use Rattle.std.specs.Prelude.{◌≡◌, ℕ, ◌==◌, false, Some, List, [], ◌∷◌, ◌++◌, length, if◌then◌else◌}
use Rattle.std.specs.List.{AllByRecursion, flat_map}
use Rattle.zk_blocks.specs.Blocks.{Reading}

-- a line with its feed
abbrev pub fed : ℕ → List ℕ → List ℕ
fed feed line = line ++ feed ∷ []

-- lines, each with its feed
abbrev pub fed_lines : ℕ → List (List ℕ) → List ℕ
fed_lines feed lines = flat_map (fed feed) lines

-- a byte in front of the first line, or of the piece behind where there is none
abbrev pub put_byte : ℕ → List (List ℕ) × List ℕ → List (List ℕ) × List ℕ
put_byte b ([], piece) = ([], b ∷ piece)
put_byte b ((line ∷ lines), piece) = ((b ∷ line) ∷ lines, piece)

-- an empty line in front
abbrev pub put_feed : List (List ℕ) × List ℕ → List (List ℕ) × List ℕ
put_feed cut = ([] ∷ cut.0, cut.1)

-- the lines of a text that have their feed, without it, and the piece behind the last feed
abbrev pub cut_of : ℕ → List ℕ → List (List ℕ) × List ℕ
cut_of feed [] = ([], [])
cut_of feed (b ∷ bs) = if b == feed then put_feed (cut_of feed bs) else put_byte b (cut_of feed bs)

-- no feed is in it
abbrev pub IsUnfed : ℕ → List ℕ → Type 0
IsUnfed feed line = AllByRecursion (λ b. (b == feed) ≡ false) line

-- nor in any of these
abbrev pub AreUnfed : ℕ → List (List ℕ) → Type 0
AreUnfed feed lines = AllByRecursion (IsUnfed feed) lines

-- a text is read to its end as this: no line is left, and no piece without a feed
abbrev pub IsRead : {A : Type 0} → ℕ → (List (List ℕ) → Reading (List ℕ) A) → List ℕ → A → Type 0
IsRead feed read text a = (read (cut_of feed text).0 ≡ (Some a, [])) × ((cut_of feed text).1 ≡ [])

-- it is the text of something that fits
abbrev pub IsTextOf : {A : Type 0} → ℕ → (A → List (List ℕ)) → (A → Type 0) → List ℕ → Type 0
IsTextOf {A} feed lines_of Fits text = (a : A) × Fits a × (text ≡ fed_lines feed (lines_of a))

-- no right text begins as this one does, up to its line at this place
pub record FailsAt (feed : ℕ) (IsRight : List ℕ → Type 0) (text : List ℕ) (place : ℕ) : Type 0 where
  pub front : List (List ℕ)
  pub line : List ℕ
  pub rest : List ℕ
  pub whole : text ≡ fed_lines feed (front ++ line ∷ []) ++ rest
  pub at : length front ≡ place
  pub never : (other : List ℕ) → IsRight (fed_lines feed (front ++ line ∷ []) ++ other) → ⊥
