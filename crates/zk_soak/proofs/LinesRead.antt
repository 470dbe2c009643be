-- Lines that are read one behind the other, and the text of them.
use Rattle.std.proofs.Common.{◌≡◌, ℕ, ◌+◌, ◌*◌, ◌≤◌, nat_lt, cond, is_some, Option, None, Result, Ok, Err, List, [], ◌∷◌, ◌++◌, length, codes, arith, refl, sym, ap, ◌∙◌}
use Rattle.std.specs.List.{AllByRecursion}
use Rattle.std.proofs.lemmas.Bool.{cond-false, le-ltb}
use Rattle.zk_scenario.specs.declared.limits.TheConstants.{LONGEST_SCENARIO}
use Rattle.zk_scenario.specs.declared.types.Script.{Script}
use Rattle.zk_scenario.specs.declared.refused.Why.{Why}
use Rattle.zk_scenario.specs.declared.refused.Why.TheVariants as why
use Rattle.zk_scenario.specs.declared.refused.ScenarioRefused.{ScenarioRefused}
use Rattle.zk_scenario.specs.declared.refused.ScenarioRefused.TheVariants.{At}
use Rattle.zk_scenario.specs.Content.{Content}
use Rattle.zk_scenario.specs.Grammar.{read_line, ended_parts, behind, read_lines, behind_header, read_pieces, pieces_of, scenario_of}
use Rattle.zk_scenario.specs.Reading.{Reading, start}
use Rattle.zk_scenario.specs.Spelling.{lines_text}
use Rattle.zk_soak.proofs.Pieces.{IsLine, pieces-lines, length-lines}

-- a line behind what was read
abbrev next_line : Result Reading Why → List ℕ → Result Reading Why
next_line (Ok r) line = read_line r line
next_line (Err reason) line = Err reason

-- lines behind what was read
abbrev read_each : Result Reading Why → List (List ℕ) → Result Reading Why
read_each read [] = read
read_each read (line ∷ lines) = read_each (next_line read line) lines

-- these lines are taken, and lead from the one reading to the other
pub record IsRead (r : Reading) (lines : List (List ℕ)) (s : Reading) : Type 0 where
  pub read : read_each (Ok r) lines ≡ Ok s
  pub each : AllByRecursion IsLine lines

each_both : (ls ms : List (List ℕ)) → AllByRecursion IsLine ls → AllByRecursion IsLine ms → AllByRecursion IsLine (ls ++ ms)
each_both [] ms first second = second
each_both (l ∷ ls) ms first second = (first.0, each_both ls ms first.1 second)

read_both : (o : Result Reading Why) (ls ms : List (List ℕ)) → read_each o (ls ++ ms) ≡ read_each (read_each o ls) ms
read_both o [] ms = refl
read_both o (l ∷ ls) ms = read_both (next_line o l) ls ms

-- lines that follow lines
pub joined : (r s t : Reading) (ls ms : List (List ℕ)) → IsRead r ls s → IsRead s ms t → IsRead r (ls ++ ms) t
joined r s t ls ms first second = record {
  read = read_both (Ok r) ls ms ∙ ap (λ o. read_each o ms) first.read ∙ second.read;
  each = each_both ls ms first.each second.each;
}

-- no line
pub no_line : (r : Reading) → IsRead r [] r
no_line r = record { read = refl; each = tt }

-- a line in front of lines
pub line_first : (r s t : Reading) (line : List ℕ) (lines : List (List ℕ)) → read_line r line ≡ Ok s → IsLine line → IsRead s lines t → IsRead r (line ∷ lines) t
line_first r s t line lines first is rest = record { read = ap (λ o. read_each o lines) first ∙ rest.read; each = (is, rest.each) }

refused : (reason : Why) (lines : List (List ℕ)) → read_each (Err reason) lines ≡ Err reason
refused reason [] = refl
refused reason (line ∷ lines) = refused reason lines

-- the pieces from a line of this number on
abbrev pieces_read : ℕ → Reading → List (List ℕ) → Result Content ScenarioRefused
pieces_read n r [] = Err (At n why.Line)
pieces_read n r (piece ∷ more) = read_lines n r piece more

-- a piece with others behind it is a line
first_piece : (n : ℕ) (r : Reading) (line : List ℕ) (lines : List (List ℕ)) → pieces_read n r (line ∷ (lines ++ [] ∷ [])) ≡ behind n (read_line r line) (λ s. pieces_read (n + 1) s (lines ++ [] ∷ []))
first_piece n r line [] = refl
first_piece n r line (next ∷ lines) = refl

read_to_end : (n : ℕ) (r s : Reading) (lines : List (List ℕ)) → read_each (Ok r) lines ≡ Ok s → s.current ≡ None → pieces_read n r (lines ++ [] ∷ []) ≡ Ok (ended_parts s)
read_to_end n r s [] read closed =
    let same : r ≡ s = cc in
    ap (λ x. pieces_read n x ([] ∷ [])) same ∙ ap (λ (o : Option Script). cond (is_some o) (Err (At n why.Order)) (Ok (ended_parts s))) closed
read_to_end n r s (line ∷ lines) read closed = by_line (read_line r line) refl read (λ t here. read_to_end (n + 1) t s lines here closed) where
  by_line : (o : Result Reading Why) → read_line r line ≡ o → read_each o lines ≡ Ok s → ((t : Reading) → read_each (Ok t) lines ≡ Ok s → pieces_read (n + 1) t (lines ++ [] ∷ []) ≡ Ok (ended_parts s))
      → pieces_read n r (line ∷ (lines ++ [] ∷ [])) ≡ Ok (ended_parts s)
  by_line (Ok t) taken here rest =
      first_piece n r line lines ∙ ap (λ o. behind n o (λ x. pieces_read (n + 1) x (lines ++ [] ∷ []))) taken ∙ rest t here
  by_line (Err reason) taken here rest = let never : Err reason ≡ Ok s = sym (refused reason lines) ∙ here in absurd (cc)

header_first : (more : List (List ℕ)) → read_pieces (codes "zk 1" ∷ more) ≡ behind_header more
header_first more = refl

behind_is : (lines : List (List ℕ)) → behind_header (lines ++ [] ∷ []) ≡ pieces_read 2 start (lines ++ [] ∷ [])
behind_is [] = refl
behind_is (line ∷ lines) = refl

header_is : IsLine (codes "zk 1")
header_is = record { unfed = refl; short = omega arith }

-- the text of lines that are taken to the end is a scenario's
pub scenario-read : (lines : List (List ℕ)) (s : Reading) → IsRead start lines s → s.current ≡ None → 65 * (1 + length lines) ≤ LONGEST_SCENARIO → scenario_of (lines_text (codes "zk 1" ∷ lines)) ≡ Ok (ended_parts s)
scenario-read lines s is closed short =
    let all : List (List ℕ) = codes "zk 1" ∷ lines in
    let each : AllByRecursion IsLine all = (header_is, is.each) in
    cond-false (nat_lt LONGEST_SCENARIO (length (lines_text all))) (Err (At 0 why.Length)) (read_pieces (pieces_of (lines_text all))) (le-ltb LONGEST_SCENARIO (length (lines_text all)) (omega (arith, length-lines all each)))
    ∙ ap read_pieces (pieces-lines all each) ∙ header_first (lines ++ [] ∷ []) ∙ behind_is lines ∙ read_to_end 2 start s lines is.read closed
