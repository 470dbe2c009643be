-- Inner: no contract of a top call is made of this file.
use Rattle.std.specs.Prelude.{◌≡◌, ℕ, Bool, true, false, Option, Some, None, List, [], ◌∷◌, length, map, if◌then◌else◌}
use Rattle.zk_blocks.specs.Blocks.{Reading, told_of, told_lines, then_of, then_lines, FitsThen, made_of, kept_of}
use Rattle.zk_blocks.specs.Rows.{counted_rows, AreCounted, FitRows}

-- what stands behind a head: something. A head isn't passed where nothing may stand behind it
abbrev pub behind_of : {L A : Type 0} → Bool → (A → Bool) → (List L → Reading L A) → L → List L → Reading L A
behind_of true stands read head lines = kept_of stands (read lines)
behind_of false stands read head lines = (None, head ∷ lines)

-- what a head tells of stands behind it; without a head it is nothing
abbrev pub headed_by : {H L A : Type 0} → Bool → A → (A → Bool) → (H → List L → Reading L A) →
    Option H → L → List L → Reading L A
headed_by may none stands read None line lines = (Some none, line ∷ lines)
headed_by may none stands read (Some h) line lines = behind_of may stands (read h) line lines

-- a head and what it tells of; without a head it is nothing
abbrev pub headed_of : {H L A : Type 0} → Bool → (L → Option H) → A → (A → Bool) → (H → List L → Reading L A) →
    List L → Reading L A
headed_of may head_of none stands read [] = (Some none, [])
headed_of may head_of none stands read (line ∷ lines) = headed_by may none stands read (head_of line) line lines

-- its lines: a head, where anything stands behind it
abbrev pub headed_lines : {L A : Type 0} → (A → L) → (A → Bool) → (A → List L) → A → List L
headed_lines head stands lines_of a = if stands a then head a ∷ lines_of a else []

-- it fits, and is nothing where nothing may stand
abbrev pub FitsHeaded : {A : Type 0} → Bool → A → (A → Type 0) → A → Type 0
FitsHeaded may none Fits a = Fits a × (may ≡ false → a ≡ none)

-- this fits, and it alone is nothing
pub record IsNothing {A : Type 0} (none : A) (stands : A → Bool) (Fits : A → Type 0) : Type 0 where
  pub fits : Fits none
  pub absent : stands none ≡ false
  pub only : (a : A) → stands a ≡ false → a ≡ none

-- whether there is a row
abbrev pub has_row : {X : Type 0} → List X → Bool
has_row [] = false
has_row (x ∷ xs) = true

-- a section of rows, of which the head may tell the number
abbrev pub plain_section_of : {L X : Type 0} → Bool → (L → Option (Option ℕ)) → (Option X → L → Option X) →
    List L → Reading L (List X)
plain_section_of may head_of says lines = headed_of may head_of [] has_row (λ count. counted_rows says count None) lines

-- its lines
abbrev pub plain_section_lines : {L X : Type 0} → (ℕ → L) → (X → L) → List X → List L
plain_section_lines head text xs = headed_lines (λ rows. head (length rows)) has_row (map text) xs

-- its rows fit, and there are none where none may be
abbrev pub FitsPlainSection : {X : Type 0} → Bool → (ℕ → Type 0) → (Option X → X → Type 0) → List X → Type 0
FitsPlainSection may Can Fits xs = FitsHeaded may [] (FitRows Can Fits) xs

-- rows of one kind, and then rows of another, where the number of each may be given
abbrev pub two_rows : {L E K : Type 0} → (Option E → L → Option E) → (Option K → L → Option K) →
    Option ℕ × Option ℕ → List L → Reading L (List E × List K)
two_rows first second counts lines = then_of (counted_rows first counts.0 None) (counted_rows second counts.1 None) lines

-- their lines
abbrev pub two_lines : {L E K : Type 0} → (E → L) → (K → L) → List E × List K → List L
two_lines first second both = then_lines (map first) (map second) both

-- they fit
abbrev pub FitTwo : {E K : Type 0} → (ℕ → Type 0) → (Option E → E → Type 0) → (Option K → K → Type 0) →
    List E × List K → Type 0
FitTwo Can First Second both = FitsThen (FitRows Can First) (FitRows Can Second) both

-- of each kind there are so many, where a number is given
abbrev pub AreTwoCounted : {E K : Type 0} → Option ℕ × Option ℕ → List E × List K → Type 0
AreTwoCounted counts both = AreCounted counts.0 both.0 × AreCounted counts.1 both.1

-- no row of either kind
abbrev pub neither : {E K : Type 0} → List E × List K
neither = ([], [])

-- whether there is a row of one kind or the other
abbrev pub has_rows : {E K : Type 0} → List E × List K → Bool
has_rows ([], seconds) = has_row seconds
has_rows ((first ∷ firsts), seconds) = true

-- a section of rows of two kinds, of which the head may tell the numbers
abbrev pub section_of : {L E K : Type 0} → Bool → (L → Option (Option ℕ × Option ℕ)) →
    (Option E → L → Option E) → (Option K → L → Option K) → List L → Reading L (List E × List K)
section_of may head_of first second lines = headed_of may head_of neither has_rows (two_rows first second) lines

-- its lines
abbrev pub section_lines : {L E K : Type 0} → (ℕ → ℕ → L) → (E → L) → (K → L) → List E × List K → List L
section_lines head first second both =
    headed_lines (λ rows. head (length rows.0) (length rows.1)) has_rows (two_lines first second) both

-- its rows fit, and there are none where none may be
abbrev pub FitsSection : {E K : Type 0} → Bool → (ℕ → Type 0) → (Option E → E → Type 0) → (Option K → K → Type 0) →
    List E × List K → Type 0
FitsSection may Can First Second both = FitsHeaded may neither (FitTwo Can First Second) both

-- the rows under a title, of which it may tell the number
abbrev pub rows_under : {L S X : Type 0} → (Option X → L → Option X) → S × Option ℕ → List L → Reading L (S × List X)
rows_under says told lines = made_of (λ xs. (told.0, xs)) (counted_rows says told.1 None lines)

-- a title, and the rows under it, of which there may be none
abbrev pub titled_of : {L S X : Type 0} → (L → Option (S × Option ℕ)) → (Option X → L → Option X) →
    List L → Reading L (S × List X)
titled_of title says lines = told_of title (rows_under says) lines

-- the line of a title that stands alone
abbrev pub title_line : {L S : Type 0} → (S → L) → S → List L
title_line title s = title s ∷ []

-- the lines of a title and of the rows under it
abbrev pub titled_lines : {L S X : Type 0} → (S → ℕ → L) → (X → L) → S × List X → List L
titled_lines title text titled = told_lines (λ all. title all.0 (length all.1)) (λ all. map text all.1) titled

-- the rows under a title fit
abbrev pub FitsTitled : {S X : Type 0} → (ℕ → Type 0) → (Option X → X → Type 0) → S × List X → Type 0
FitsTitled Can Fits titled = FitRows Can Fits titled.1

-- a title tells of these
abbrev pub IsTitled : {S X : Type 0} → S × Option ℕ → S × List X → Type 0
IsTitled told titled = (titled.0 ≡ told.0) × AreCounted told.1 titled.1
