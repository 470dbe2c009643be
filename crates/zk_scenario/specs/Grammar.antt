use Rattle.std.specs.Prelude.{◌≡◌, ℕ, ◌+◌, nat_lt, Bool, true, false, Option, None, Some, Result, Ok, Err, List, [], ◌∷◌, length, is_some, codes, if◌then◌else◌}
use Rattle.std.specs.Str.{bytes_eq}
use Rattle.zk_words.specs.Bytes.{line_feed}
use Rattle.zk_words.specs.declared.line.Line.{Line}
use Rattle.zk_words.specs.declared.line.Line.TheVariants as line
use Rattle.zk_scenario.specs.declared.limits.TheConstants.{LONGEST_SCENARIO}
use Rattle.zk_scenario.specs.declared.refused.Why.{Why}
use Rattle.zk_scenario.specs.declared.refused.Why.TheVariants as why
use Rattle.zk_scenario.specs.declared.refused.ScenarioRefused.{ScenarioRefused}
use Rattle.zk_scenario.specs.declared.refused.ScenarioRefused.TheVariants.{At, NoMemory}
use Rattle.zk_words.specs.Lines.{line_of}
use Rattle.zk_words.specs.Pieces.{pieces_between}
use Rattle.zk_scenario.specs.Content.{Content}
use Rattle.zk_scenario.specs.Reading.{Reading, start}
use Rattle.zk_scenario.specs.Spelling.{text_of}
use Rattle.zk_scenario.specs.Verdict.{verdict, after}

-- what the lines said with one line more, where no reason applies to it; then it always says something (`AlwaysSays`)
abbrev pub told : Option Why → Option Reading → Result Reading Why
told (Some reason) next = Err reason
told None (Some r) = Ok r
told None None = Err why.Line

-- what is answered of a line: the reason why it is refused, or what was said with it
abbrev pub answered : Option Why → Reading → Result Reading Why
answered None r = Ok r
answered (Some reason) r = Err reason

-- what was said with a line that was taken
abbrev pub accepted : Bool → Reading → Option Reading
accepted true r = Some r
accepted false r = None

-- a line behind those before it, by what its spelling says
abbrev pub taken : Reading → Line → Result Reading Why
taken r line.Misspelled = Err why.Line
taken r (line.Formed head parts) = told (verdict r head parts) (after r head parts)

-- a line behind those before it
abbrev pub read_line : Reading → List ℕ → Result Reading Why
read_line r text = taken r (line_of text)

-- the scenario of what was read, where no script is open
abbrev pub ended_parts : Reading → Content
ended_parts r = record { decls = r.decls; written = r.written; scripts = r.scripts }

-- the end of the input behind a line feed; n is the number after the last line
abbrev pub ended : ℕ → Reading → Result Content ScenarioRefused
ended n r = (if is_some r.current then Err (At n why.Order) else Ok (ended_parts r))

-- what stands behind the last line feed: nothing, or a line without its feed
abbrev pub at_end : ℕ → Reading → List ℕ → Result Content ScenarioRefused
at_end n r [] = ended n r
at_end n r (b ∷ bs) = Err (At n why.Line)

-- what follows a line, where that is accepted
abbrev pub behind : ℕ → Result Reading Why → (Reading → Result Content ScenarioRefused) → Result Content ScenarioRefused
behind n (Ok r) next = next r
behind n (Err reason) next = Err (At n reason)

-- the pieces between the line feeds, from the one of number n on
abbrev pub read_lines : ℕ → Reading → List ℕ → List (List ℕ) → Result Content ScenarioRefused
read_lines n r piece [] = at_end n r piece
read_lines n r piece (next ∷ more) = behind n (read_line r piece) (λ s. read_lines (n + 1) s next more)

-- what stands behind the header's line feed, if it has one
abbrev pub behind_header : List (List ℕ) → Result Content ScenarioRefused
behind_header [] = Err (At 1 why.Line)
behind_header (piece ∷ more) = read_lines 2 start piece more

-- the pieces between the line feeds, the header first
abbrev pub read_pieces : List (List ℕ) → Result Content ScenarioRefused
read_pieces [] = Err (At 1 why.Header)
read_pieces (first ∷ more) = (if bytes_eq first (codes "zk 1") then behind_header more else Err (At 1 why.Header))

-- the pieces between the line feeds of a text: its lines, and what stands behind the last feed
abbrev pub pieces_of : List ℕ → List (List ℕ)
pieces_of text = pieces_between line_feed text

-- the scenario of a text, or the first failing line and the first reason that applies there
abbrev pub scenario_of : List ℕ → Result Content ScenarioRefused
scenario_of text = (if nat_lt LONGEST_SCENARIO (length text) then Err (At 0 why.Length) else read_pieces (pieces_of text))

-- an answer that is what the grammar says, or want of memory
abbrev pub Answers : Result Content ScenarioRefused → Result Content ScenarioRefused → Type 0
Answers (Ok parts) said = said ≡ Ok parts
Answers (Err (At n reason)) said = said ≡ Err (At n reason)
Answers (Err NoMemory) said = Unit {0}

-- what was read to the end as the grammar says, or want of memory
abbrev pub AnswersReading : Result Reading ScenarioRefused → Result Content ScenarioRefused → Type 0
AnswersReading (Ok r) said = said ≡ Ok (ended_parts r)
AnswersReading (Err (At n reason)) said = said ≡ Err (At n reason)
AnswersReading (Err NoMemory) said = Unit {0}

-- the text of a scenario is read as the scenario
pub record IsReadable (p : Content) : Type 0 where
  pub read_back : scenario_of (text_of p) ≡ Ok p
