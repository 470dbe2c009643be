-- Sections under names, each before the heads of later names, are read exactly: one of a service, and those of a family of things.
use Rattle.std.proofs.Common.{◌≡◌, ℕ, Bool, true, false, if◌then◌else◌, Option, Some, None, List, [], ◌∷◌, length, inl, inr}
use Rattle.std.specs.List.{AllByRecursion}
use Rattle.zk_blocks.specs.Apart.{IsNone, AreApart}
use Rattle.zk_blocks.specs.Blocks.{Reading, IsBlock, FitsKept, given_of, given_lines, FitsGiven}
use Rattle.zk_blocks.specs.Families.{kind_names, family_of, family_lines, FitsFamily, plain_family_of, plain_family_lines, FitsPlainFamily, section_family_of, section_family_lines, FitsSectionFamily}
use Rattle.zk_blocks.specs.Heads.{IsHead, IsHeadOr, IsAnyHead, IsLater, EndsRows, AreHeads}
use Rattle.zk_blocks.specs.Rows.{IsCount, AreCounted, FitRows, IsRow}
use Rattle.zk_blocks.specs.Sections.{IsNothing, headed_of, headed_lines, FitsHeaded, has_row, plain_section_of, plain_section_lines, FitsPlainSection, has_rows, FitTwo, AreTwoCounted, section_of, section_lines, FitsSection}
use Rattle.zk_blocks.proofs.Blocks.{looser}
use Rattle.zk_blocks.proofs.Each.{each}
use Rattle.zk_blocks.proofs.Headed.{headed}
use Rattle.zk_blocks.proofs.Made.{absent}
use Rattle.zk_blocks.proofs.Sections.{no_row, no_row_of_two, any_rows, rows_of_two}

-- names that differ also differ without the first, where that is one of them
fewer : {N : Type 0} (b : Bool) (name : N) (names : List N) → AreApart (if b then name ∷ names else names) → AreApart names
fewer true name names are = are.1
fewer false name names are = are

-- names that differ also differ without those of a kind
pub later_apart : {N D : Type 0} (of_kind : D → Bool) (name_of : D → N) (names : List N) (ds : List D) → AreApart (kind_names of_kind name_of names ds) → AreApart names
later_apart of_kind name_of names [] are = are
later_apart of_kind name_of names (d ∷ ds) are = later_apart of_kind name_of names ds (fewer (of_kind d) (name_of d) (kind_names of_kind name_of names ds) are)

-- what is no head, and not of the sort behind all sections, is no later line either
pub rows_end : {N H L X : Type 0} {head_of : N → L → Option H} {Behind : L → Type 0} (says : Option X → L → Option X) →
    ((name : N) (line : L) → IsAnyHead (head_of name) line → (last : Option X) → says last line ≡ None) →
    ((line : L) → Behind line → (last : Option X) → says last line ≡ None) →
    (line : L) → EndsRows head_of Behind line → (last : Option X) → says last line ≡ None
rows_end says no_head none_behind line (inl (name, is)) last = no_head name line is last
rows_end says no_head none_behind line (inr behind) last = none_behind line behind last

module _ {N H L : Type 0} {head_of : N → L → Option H} {Behind : L → Type 0} (heads : AreHeads head_of Behind) where
  later_ends : (names : List N) (line : L) → IsLater head_of Behind names line → EndsRows head_of Behind line
  later_ends [] line is = inr is
  later_ends (name ∷ names) line (inl is) = inl (name, is)
  later_ends (name ∷ names) line (inr is) = later_ends names line is

  not_later : (name : N) (names : List N) → IsNone name names → (line : L) (h : H) → head_of name line ≡ Some h → IsLater head_of Behind names line → ⊥
  not_later name [] none line h known is = heads.not_behind name line h known is
  not_later name (other ∷ names) none line h known (inl (g, is)) = none.0 (heads.one_name name other line h g known is)
  not_later name (other ∷ names) none line h known (inr is) = not_later name names none.1 line h known is

  -- a section under a name is read exactly before the sections of other names. It may take fewer lines as its head than there are of its name
  pub headed_before : {G A : Type 0} {head : A → L} {lines_of : A → List L} {Fits : A → Type 0} {head_in : L → Option G} {Tells : G → A → Type 0}
      {read : G → List L → Reading L A} {Inner : L → Type 0} {none : A} {stands : A → Bool} →
      ((line : L) (g : G) → head_in line ≡ Some g → IsBlock lines_of (λ a. Fits a × Tells g a) (read g) Inner (EndsRows head_of Behind)) → IsNothing none stands Fits →
      IsHead head (FitsKept stands Fits) head_in Tells → (may : Bool) (name : N) → ((line : L) (g : G) → head_in line ≡ Some g → IsAnyHead (head_of name) line) →
      (names : List N) → IsNone name names →
      IsBlock (headed_lines head stands lines_of) (FitsHeaded may none Fits) (headed_of may head_in none stands read) (IsLater head_of Behind (name ∷ names)) (IsLater head_of Behind names)
  headed_before {head_in = head_in} inner empty is_head may name narrower names apart =
      looser
      (headed (λ line g known. looser (inner line g known) (λ line is. is) (later_ends names)) empty is_head
      (λ line g known behind. let there = narrower line g known in not_later name names apart line there.0 there.1 behind) may)
      opens (λ line is. is) where
        opens : (line : L) → IsHeadOr head_in (IsLater head_of Behind names) line → IsHeadOr (head_of name) (IsLater head_of Behind names) line
        opens line (inl (g, known)) = inl (narrower line g known)
        opens line (inr behind) = inr behind

  -- the sections of a family are read exactly, where their names and all later ones differ
  pub family : {G D A : Type 0} (head : N → A → L) {lines_of : D → A → List L} {Fits : D → A → Type 0} {head_in : N → L → Option G} {Tells : G → A → Type 0}
      {read : D → G → List L → Reading L A} {Inner : L → Type 0} {none : A} {stands : A → Bool} (of_kind : D → Bool) (name_of : D → N) →
      ((d : D) (line : L) (g : G) → head_in (name_of d) line ≡ Some g → IsBlock (lines_of d) (λ a. Fits d a × Tells g a) (read d g) Inner (EndsRows head_of Behind)) →
      ((d : D) → IsNothing none stands (Fits d)) → ((name : N) (line : L) (g : G) → head_in name line ≡ Some g → IsAnyHead (head_of name) line) →
      (may : Bool) (names : List N) (ds : List D) → AllByRecursion (λ d. IsHead (head (name_of d)) (FitsKept stands (Fits d)) (head_in (name_of d)) Tells) ds →
      AreApart (kind_names of_kind name_of names ds) →
      IsBlock (family_lines of_kind name_of head stands lines_of ds) (FitsFamily of_kind may none Fits ds) (family_of of_kind name_of may head_in none stands read ds)
      (IsLater head_of Behind (kind_names of_kind name_of names ds)) (IsLater head_of Behind names)
  family {D = D} {A = A} head {lines_of = lines_of} {Fits = Fits} {head_in = head_in} {Tells = Tells} {read = read} {none = none} {stands = stands}
      of_kind name_of inner empty narrower may names ds are_heads are =
      each (λ ds. IsLater head_of Behind (kind_names of_kind name_of names ds))
      (λ ds. AllByRecursion (λ d. IsHead (head (name_of d)) (FitsKept stands (Fits d)) (head_in (name_of d)) Tells) ds × AreApart (kind_names of_kind name_of names ds))
      (λ d more are. (are.0.1, fewer (of_kind d) (name_of d) (kind_names of_kind name_of names more) are.1))
      (λ d more are. member d (kind_names of_kind name_of names more) are.0.0 (of_kind d) are.1) ds (are_heads, are) where
        member : (d : D) (rest : List N) → IsHead (head (name_of d)) (FitsKept stands (Fits d)) (head_in (name_of d)) Tells → (b : Bool) → AreApart (if b then name_of d ∷ rest else rest) →
            IsBlock (given_lines b (headed_lines (head (name_of d)) stands (lines_of d))) (FitsGiven b none (FitsHeaded may none (Fits d)))
            (given_of b none (headed_of may (head_in (name_of d)) none stands (read d)))
            (IsLater head_of Behind (if b then name_of d ∷ rest else rest)) (IsLater head_of Behind rest)
        member d rest is_head true are = headed_before (inner d) (empty d) is_head may (name_of d) (narrower (name_of d)) rest are.0
        member d rest is_head false are = absent none (IsLater head_of Behind rest)

  -- the same of sections of rows: one, and those of a family
  module _ (Can : ℕ → Type 0) (can_none : Can 0) (head : N → ℕ → L) {head_in : N → L → Option (Option ℕ)}
      (narrower : (name : N) (line : L) (count : Option ℕ) → head_in name line ≡ Some count → IsAnyHead (head_of name) line)
      (can : (name : N) (line : L) (count : Option ℕ) → head_in name line ≡ Some count → (n : ℕ) → IsCount count n → Can n) where
    -- the head of a name tells how many rows there are
    abbrev pub IsPlainHead : {X : Type 0} → N → (Option X → X → Type 0) → Type 0
    IsPlainHead {X} name Fits = IsHead (λ (xs : List X). head name (length xs)) (FitsKept has_row (FitRows Can Fits)) (head_in name) AreCounted

    pub plain_section_before : {X : Type 0} {text : X → L} {Fits : Option X → X → Type 0} {says : Option X → L → Option X} →
        IsRow text Fits says → ((line : L) → EndsRows head_of Behind line → (last : Option X) → says last line ≡ None) →
        (may : Bool) (name : N) (names : List N) → IsPlainHead name Fits → IsNone name names →
        IsBlock (plain_section_lines (head name) text) (FitsPlainSection may Can Fits) (plain_section_of may (head_in name) says)
        (IsLater head_of Behind (name ∷ names)) (IsLater head_of Behind names)
    plain_section_before {Fits = Fits} row over may name names is_head apart =
        headed_before (λ line count known. any_rows row over Can count (can name line count known)) (no_row Can Fits can_none) is_head may name (narrower name) names apart

    pub plain_family : {D X : Type 0} {text : D → X → L} {Fits : D → Option X → X → Type 0} {says : D → Option X → L → Option X} (of_kind : D → Bool) (name_of : D → N) →
        ((d : D) → IsRow (text d) (Fits d) (says d)) → ((d : D) (line : L) → EndsRows head_of Behind line → (last : Option X) → says d last line ≡ None) →
        (may : Bool) (names : List N) (ds : List D) → AllByRecursion (λ d. IsPlainHead (name_of d) (Fits d)) ds → AreApart (kind_names of_kind name_of names ds) →
        IsBlock (plain_family_lines of_kind name_of head text ds) (FitsPlainFamily of_kind may Can Fits ds) (plain_family_of of_kind name_of may head_in says ds)
        (IsLater head_of Behind (kind_names of_kind name_of names ds)) (IsLater head_of Behind names)
    plain_family {Fits = Fits} of_kind name_of row over may names ds are_heads are =
        family (λ name rows. head name (length rows)) of_kind name_of (λ d line count known. any_rows (row d) (over d) Can count (can (name_of d) line count known)) (λ d. no_row Can (Fits d) can_none) narrower
        may names ds are_heads are

  -- the same of sections of rows of two kinds
  module _ (Can : ℕ → Type 0) (can_none : Can 0) (head : N → ℕ → ℕ → L) {head_in : N → L → Option (Option ℕ × Option ℕ)}
      (narrower : (name : N) (line : L) (counts : Option ℕ × Option ℕ) → head_in name line ≡ Some counts → IsAnyHead (head_of name) line)
      (can : (name : N) (line : L) (counts : Option ℕ × Option ℕ) → head_in name line ≡ Some counts →
      ((n : ℕ) → IsCount counts.0 n → Can n) × ((n : ℕ) → IsCount counts.1 n → Can n)) where
    -- the head of a name tells how many rows of each kind there are
    abbrev pub IsTwoHead : {E K : Type 0} → N → (Option E → E → Type 0) → (Option K → K → Type 0) → Type 0
    IsTwoHead {E} {K} name First Second =
        IsHead (λ (both : List E × List K). head name (length both.0) (length both.1)) (FitsKept has_rows (FitTwo Can First Second)) (head_in name) AreTwoCounted

    pub section_before : {E K : Type 0} {first_text : E → L} {First : Option E → E → Type 0} {first : Option E → L → Option E}
        {second_text : K → L} {Second : Option K → K → Type 0} {second : Option K → L → Option K} →
        IsRow first_text First first → IsRow second_text Second second →
        ((k : K) → Second None k → (last : Option E) → first last (second_text k) ≡ None) →
        ((line : L) → EndsRows head_of Behind line → (last : Option E) → first last line ≡ None) →
        ((line : L) → EndsRows head_of Behind line → (last : Option K) → second last line ≡ None) →
        (may : Bool) (name : N) (names : List N) → IsTwoHead name First Second → IsNone name names →
        IsBlock (section_lines (head name) first_text second_text) (FitsSection may Can First Second) (section_of may (head_in name) first second)
        (IsLater head_of Behind (name ∷ names)) (IsLater head_of Behind names)
    section_before {First = First} {Second = Second} firsts seconds apart no_first no_second may name names is_head other =
        headed_before (λ line counts known. let told = can name line counts known in rows_of_two firsts seconds apart no_first no_second Can counts told.0 told.1)
        (no_row_of_two Can First Second can_none) is_head may name (narrower name) names other

    pub section_family : {D E K : Type 0} {first_text : D → E → L} {First : D → Option E → E → Type 0} {first : D → Option E → L → Option E}
        {second_text : D → K → L} {Second : D → Option K → K → Type 0} {second : D → Option K → L → Option K} (of_kind : D → Bool) (name_of : D → N) →
        ((d : D) → IsRow (first_text d) (First d) (first d)) → ((d : D) → IsRow (second_text d) (Second d) (second d)) →
        ((d : D) (k : K) → Second d None k → (last : Option E) → first d last (second_text d k) ≡ None) →
        ((d : D) (line : L) → EndsRows head_of Behind line → (last : Option E) → first d last line ≡ None) →
        ((d : D) (line : L) → EndsRows head_of Behind line → (last : Option K) → second d last line ≡ None) →
        (may : Bool) (names : List N) (ds : List D) → AllByRecursion (λ d. IsTwoHead (name_of d) (First d) (Second d)) ds → AreApart (kind_names of_kind name_of names ds) →
        IsBlock (section_family_lines of_kind name_of head first_text second_text ds) (FitsSectionFamily of_kind may Can First Second ds)
        (section_family_of of_kind name_of may head_in first second ds)
        (IsLater head_of Behind (kind_names of_kind name_of names ds)) (IsLater head_of Behind names)
    section_family {First = First} {Second = Second} of_kind name_of firsts seconds apart no_first no_second may names ds are_heads are =
        family (λ name rows. head name (length rows.0) (length rows.1)) of_kind name_of
        (λ d line counts known. let told = can (name_of d) line counts known in
        rows_of_two (firsts d) (seconds d) (apart d) (no_first d) (no_second d) Can counts told.0 told.1)
        (λ d. no_row_of_two Can (First d) (Second d) can_none) narrower may names ds are_heads are
