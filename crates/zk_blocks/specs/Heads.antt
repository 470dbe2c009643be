-- Inner: no contract of a top call is made of this file.
use Rattle.std.specs.Prelude.{◌≡◌, ◌⊎◌, Option, Some, List, [], ◌∷◌}

-- a line tells of what stands behind it: what fits has a line that tells of it, and what a line tells of has that line
pub record IsHead {H L A : Type 0} (head : A → L) (Fits : A → Type 0) (head_of : L → Option H)
    (Tells : H → A → Type 0) : Type 0 where
  pub again : (a : A) → Fits a → (h : H) × (head_of (head a) ≡ Some h) × Tells h a
  pub spelled : (line : L) (h : H) (a : A) → head_of line ≡ Some h → Tells h a → line ≡ head a

-- the line is a head
abbrev pub IsAnyHead : {H L : Type 0} → (L → Option H) → L → Type 0
IsAnyHead {H} head_of line = (h : H) × (head_of line ≡ Some h)

-- the line is a head, or of the sort behind its section
abbrev pub IsHeadOr : {H L : Type 0} → (L → Option H) → (L → Type 0) → L → Type 0
IsHeadOr head_of Behind line = IsAnyHead head_of line ⊎ Behind line

-- the line is the head of one of these names, or of the sort behind all their sections
abbrev pub IsLater : {N H L : Type 0} → (N → L → Option H) → (L → Type 0) → List N → L → Type 0
IsLater head_of Behind [] line = Behind line
IsLater head_of Behind (name ∷ names) line = IsHeadOr (head_of name) (IsLater head_of Behind names) line

-- the line is the head of any name, or of the sort behind all sections
abbrev pub EndsRows : {N H L : Type 0} → (N → L → Option H) → (L → Type 0) → L → Type 0
EndsRows {N} head_of Behind line = ((name : N) × IsAnyHead (head_of name) line) ⊎ Behind line

-- no line is the head of two names; and no head stands behind all sections
pub record AreHeads {N H L : Type 0} (head_of : N → L → Option H) (Behind : L → Type 0) : Type 0 where
  pub one_name : (name other : N) (line : L) (h g : H) → head_of name line ≡ Some h → head_of other line ≡ Some g → name ≡ other
  pub not_behind : (name : N) (line : L) (h : H) → head_of name line ≡ Some h → Behind line → ⊥
