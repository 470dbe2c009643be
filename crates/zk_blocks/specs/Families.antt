-- Inner: no contract of a top call is made of this file.
use Rattle.std.specs.Prelude.{ℕ, Bool, Option, None, List, [], ◌∷◌, length, map, if◌then◌else◌}
use Rattle.zk_blocks.specs.Blocks.{Reading, given_of, given_lines, FitsGiven}
use Rattle.zk_blocks.specs.Each.{each_of, each_lines, EachFits}
use Rattle.zk_blocks.specs.Rows.{counted_rows, FitRows}
use Rattle.zk_blocks.specs.Sections.{headed_of, headed_lines, FitsHeaded, has_row, neither, has_rows, two_rows, two_lines, FitTwo}

-- the names of those of a kind, before later names
abbrev pub kind_names : {N D : Type 0} → (D → Bool) → (D → N) → List N → List D → List N
kind_names of_kind name_of names [] = names
kind_names of_kind name_of names (d ∷ ds) =
    if of_kind d then name_of d ∷ kind_names of_kind name_of names ds else kind_names of_kind name_of names ds

module _ {N H L D A : Type 0} (of_kind : D → Bool) (name_of : D → N) where
  -- one for each of some: of those of a kind what stands under its name, and of the others nothing
  abbrev pub family_of : Bool → (N → L → Option H) → A → (A → Bool) → (D → H → List L → Reading L A) →
      List D → List L → Reading L (List A)
  family_of may head_of none stands read ds lines =
      each_of (λ d. given_of (of_kind d) none (headed_of may (head_of (name_of d)) none stands (read d))) ds lines

module _ {N L D A : Type 0} (of_kind : D → Bool) (name_of : D → N) where
  -- their lines
  abbrev pub family_lines : (N → A → L) → (A → Bool) → (D → A → List L) → List D → List A → List L
  family_lines head stands lines_of ds each =
      each_lines (λ d. given_lines (of_kind d) (headed_lines (head (name_of d)) stands (lines_of d))) ds each

-- there are as many, each of the kind fits, and each other is nothing
abbrev pub FitsFamily : {D A : Type 0} → (D → Bool) → Bool → A → (D → A → Type 0) → List D → List A → Type 0
FitsFamily of_kind may none Fits ds each = EachFits (λ d. FitsGiven (of_kind d) none (FitsHeaded may none (Fits d))) ds each

module _ {N L D X : Type 0} (of_kind : D → Bool) (name_of : D → N) where
  -- for each of a kind a section of rows
  abbrev pub plain_family_of : Bool → (N → L → Option (Option ℕ)) → (D → Option X → L → Option X) →
      List D → List L → Reading L (List (List X))
  plain_family_of may head_of says ds lines =
      family_of of_kind name_of may head_of [] has_row (λ d count. counted_rows (says d) count None) ds lines

  -- their lines
  abbrev pub plain_family_lines : (N → ℕ → L) → (D → X → L) → List D → List (List X) → List L
  plain_family_lines head text ds each =
      family_lines of_kind name_of (λ name rows. head name (length rows)) has_row (λ d. map (text d)) ds each

-- their rows fit
abbrev pub FitsPlainFamily : {D X : Type 0} → (D → Bool) → Bool → (ℕ → Type 0) → (D → Option X → X → Type 0) →
    List D → List (List X) → Type 0
FitsPlainFamily of_kind may Can Fits ds each = FitsFamily of_kind may [] (λ d. FitRows Can (Fits d)) ds each

module _ {N L D E K : Type 0} (of_kind : D → Bool) (name_of : D → N) where
  -- for each of a kind a section of rows of two kinds
  abbrev pub section_family_of : Bool → (N → L → Option (Option ℕ × Option ℕ)) →
      (D → Option E → L → Option E) → (D → Option K → L → Option K) → List D → List L → Reading L (List (List E × List K))
  section_family_of may head_of first second ds lines =
      family_of of_kind name_of may head_of neither has_rows (λ d. two_rows (first d) (second d)) ds lines

  -- their lines
  abbrev pub section_family_lines : (N → ℕ → ℕ → L) → (D → E → L) → (D → K → L) → List D → List (List E × List K) → List L
  section_family_lines head first second ds each =
      family_lines of_kind name_of (λ name rows. head name (length rows.0) (length rows.1)) has_rows
      (λ d. two_lines (first d) (second d)) ds each

-- their rows fit
abbrev pub FitsSectionFamily : {D E K : Type 0} → (D → Bool) → Bool → (ℕ → Type 0) →
    (D → Option E → E → Type 0) → (D → Option K → K → Type 0) → List D → List (List E × List K) → Type 0
FitsSectionFamily of_kind may Can First Second ds each =
    FitsFamily of_kind may neither (λ d. FitTwo Can (First d) (Second d)) ds each
