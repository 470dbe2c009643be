use Rattle.std.specs.Prelude.{◌≡◌, Bool, true, false, Option, Some, None, List, [], ◌∷◌, ◌++◌, option_map, if◌then◌else◌}

-- the first of some lines is such a one, where there is a first
abbrev pub FirstIs : {L : Type 0} → (L → Type 0) → List L → Type 0
FirstIs Such [] = Unit {0}
FirstIs Such (line ∷ lines) = Such line

-- what was read at the front of some lines, nothing where they don't go on so; and the lines from there on
abbrev pub Reading : Type 0 → Type 0 → Type 0
Reading L A = Option A × List L

-- a block of lines is read exactly. It opens with lines of one sort, and stands before lines of another
pub record IsBlock {L A : Type 0} (lines_of : A → List L) (Fits : A → Type 0) (read : List L → Reading L A)
    (Opens Behind : L → Type 0) : Type 0 where
  -- what fits is read again from its lines, where those behind them are of their sort
  pub again : (a : A) (more : List L) → Fits a → FirstIs Behind more → read (lines_of a ++ more) ≡ (Some a, more)
  -- what is read has these lines, and fits
  pub spelled : (lines more : List L) (a : A) → read lines ≡ (Some a, more) → (lines ≡ lines_of a ++ more) × Fits a
  -- its lines, and those behind them, begin with a line of their sort
  pub opens : (a : A) (more : List L) → Fits a → FirstIs Behind more → FirstIs Opens (lines_of a ++ more)
  -- what is left is the end of the lines
  pub left : (lines : List L) → (before : List L) × (lines ≡ before ++ (read lines).1)
  -- what is read, and where that ends, is known by the lines up to the first that is left
  pub one_ahead : (before more other : List L) (line : L) (o : Option A) →
      read (before ++ line ∷ more) ≡ (o, line ∷ more) → read (before ++ line ∷ other) ≡ (o, line ∷ other)

-- what a function returned, seen by its view, and the lines that it left are what reading gives
abbrev pub Gives : {L A B : Type 0} → (B → A) → Option B → List L → Reading L A → Type 0
Gives view result left read = read ≡ (option_map view result, left)

-- no lines, which are always there
abbrev pub nothing_of : {L : Type 0} → List L → Reading L (Unit {0})
nothing_of lines = (Some tt, lines)

-- a line is passed where it says something
abbrev pub said : {L A : Type 0} → Option A → L → List L → Reading L A
said None line lines = (None, line ∷ lines)
said (Some a) line lines = (Some a, lines)

-- one line
abbrev pub line_of : {L A : Type 0} → (L → Option A) → List L → Reading L A
line_of says [] = (None, [])
line_of says (line ∷ lines) = said (says line) line lines

-- what a line tells of is read behind it, where it tells of something
abbrev pub told_by : {H L A : Type 0} → (H → List L → Reading L A) → Option H → L → List L → Reading L A
told_by read None line lines = (None, line ∷ lines)
told_by read (Some h) line lines = read h lines

-- a line, and what it tells of
abbrev pub told_of : {H L A : Type 0} → (L → Option H) → (H → List L → Reading L A) → List L → Reading L A
told_of head_of read [] = (None, [])
told_of head_of read (line ∷ lines) = told_by read (head_of line) line lines

-- its lines
abbrev pub told_lines : {L A : Type 0} → (A → L) → (A → List L) → A → List L
told_lines head lines_of a = head a ∷ lines_of a

-- what was read before this
abbrev pub beside : {L A B : Type 0} → A → Reading L B → Reading L (A × B)
beside a (None, left) = (None, left)
beside a (Some b, left) = (Some (a, b), left)

-- what is read behind this
abbrev pub onward : {L A B : Type 0} → (List L → Reading L B) → Reading L A → Reading L (A × B)
onward read (None, left) = (None, left)
onward read (Some a, left) = beside a (read left)

-- one thing, and then another
abbrev pub then_of : {L A B : Type 0} → (List L → Reading L A) → (List L → Reading L B) → List L → Reading L (A × B)
then_of first second lines = onward second (first lines)

-- the lines of both
abbrev pub then_lines : {L A B : Type 0} → (A → List L) → (B → List L) → A × B → List L
then_lines first second both = first both.0 ++ second both.1

-- both fit
abbrev pub FitsThen : {A B : Type 0} → (A → Type 0) → (B → Type 0) → A × B → Type 0
FitsThen First Second both = First both.0 × Second both.1

-- what is made of what is read, where something can be
abbrev pub checked_of : {L A B : Type 0} → (A → Option B) → Reading L A → Reading L B
checked_of make (None, left) = (None, left)
checked_of make (Some a, left) = (make a, left)

-- what is made of what is read
abbrev pub made_of : {L A B : Type 0} → (A → B) → Reading L A → Reading L B
made_of make (None, left) = (None, left)
made_of make (Some a, left) = (Some (make a), left)

-- what is read, where it passes a test
abbrev pub kept_of : {L A : Type 0} → (A → Bool) → Reading L A → Reading L A
kept_of passes (None, left) = (None, left)
kept_of passes (Some a, left) = (if passes a then Some a else None, left)

-- it fits and passes
abbrev pub FitsKept : {A : Type 0} → (A → Bool) → (A → Type 0) → A → Type 0
FitsKept passes Fits a = Fits a × (passes a ≡ true)

-- what is there where a test says so; else it is nothing, without a line
abbrev pub given_of : {L A : Type 0} → Bool → A → (List L → Reading L A) → List L → Reading L A
given_of true none read lines = read lines
given_of false none read lines = (Some none, lines)

-- its lines
abbrev pub given_lines : {L A : Type 0} → Bool → (A → List L) → A → List L
given_lines true lines_of a = lines_of a
given_lines false lines_of a = []

-- it fits where it is there, and else is nothing
abbrev pub FitsGiven : {A : Type 0} → Bool → A → (A → Type 0) → A → Type 0
FitsGiven true none Fits a = Fits a
FitsGiven false none Fits a = a ≡ none
