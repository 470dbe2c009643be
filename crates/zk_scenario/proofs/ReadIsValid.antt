-- What is read is valid.
use Rattle.std.proofs.Common.{◌≡◌, ℕ, ◌+◌, Bool, true, false, cond, nat_lt, Option, None, Some, Result, Ok, Err, List, [], ◌∷◌, length, is_some, codes, refl, sym, ap, subst, ◌∙◌, arith}
use Rattle.std.specs.Str.{bytes_eq}
use Rattle.zk_scenario.specs.declared.limits.TheConstants.{LONGEST_SCENARIO}
use Rattle.zk_scenario.specs.declared.types.Script.{Script}
use Rattle.zk_words.specs.declared.word.Head.{Head}
use Rattle.zk_words.specs.declared.line.Line.{Line}
use Rattle.zk_words.specs.declared.line.Line.TheVariants as line
use Rattle.zk_scenario.specs.declared.refused.Why.{Why}
use Rattle.zk_scenario.specs.declared.refused.Why.TheVariants as why
use Rattle.zk_scenario.specs.declared.refused.ScenarioRefused.{ScenarioRefused}
use Rattle.zk_scenario.specs.declared.refused.ScenarioRefused.TheVariants.{At}
use Rattle.zk_words.specs.Lines.{line_of}
use Rattle.zk_words.specs.Parts.{Placed}
use Rattle.zk_words.proofs.Formed.{line_is_form}
use Rattle.zk_scenario.specs.Grammar.{told, taken, read_line, ended_parts, at_end, behind, read_lines, behind_header, read_pieces, pieces_of, scenario_of, IsReadable}
use Rattle.zk_scenario.specs.Content.{Content}
use Rattle.zk_scenario.specs.Reading.{Reading, start, parts_of}
use Rattle.zk_scenario.specs.Spelling.{text_of}
use Rattle.zk_scenario.specs.Valid.{IsValid}
use Rattle.zk_scenario.specs.Verdict.{verdict, after}
use Rattle.zk_scenario.proofs.AcceptedLines.{IsValid-after, all_scripts-none}

pub valid-line : (r s : Reading) (text : List ℕ) → read_line r text ≡ Ok s → IsValid (parts_of r) → IsValid (parts_of s)
valid-line r s text e valid = by_line (line_of text) refl e where
  by_next : (h : Head) (parts : List Placed) → line_of text ≡ line.Formed h parts → verdict r h parts ≡ None → (o : Option Reading) → after r h parts ≡ o → told None o ≡ Ok s → IsValid (parts_of s)
  by_next h parts same passes None made here = absurd (cc)
  by_next h parts same passes (Some t) made here =
      let is : t ≡ s = cc in subst (λ x. IsValid (parts_of x)) is (IsValid-after r t h parts (line_is_form text h parts same) passes made valid)

  by_verdict : (h : Head) (parts : List Placed) → line_of text ≡ line.Formed h parts → (o : Option Why) → verdict r h parts ≡ o → told o (after r h parts) ≡ Ok s → IsValid (parts_of s)
  by_verdict h parts same None passes here = by_next h parts same passes (after r h parts) refl here
  by_verdict h parts same (Some reason) passes here = absurd (cc)

  by_line : (l : Line) → line_of text ≡ l → taken r l ≡ Ok s → IsValid (parts_of s)
  by_line line.Misspelled same here = absurd (cc)
  by_line (line.Formed h parts) same here = by_verdict h parts same (verdict r h parts) refl here

valid-at_end : (n : ℕ) (r : Reading) (p : Content) (piece : List ℕ) → at_end n r piece ≡ Ok p → IsValid (parts_of r) → IsValid p
valid-at_end n r p [] e valid = by_current r.current refl e where
  by_current : (o : Option Script) → r.current ≡ o → cond (is_some o) (Err (At n why.Order)) (Ok (ended_parts r)) ≡ Ok p → IsValid p
  by_current None none here =
      let same : ended_parts r ≡ p = cc in
      subst IsValid same (subst (λ ss. IsValid (record { decls = r.decls; written = r.written; scripts = ss })) (all_scripts-none r none) valid)
  by_current (Some script) none here = absurd (cc)
valid-at_end n r p (b ∷ bs) e valid = absurd (cc)

valid-rest : (n : ℕ) (r : Reading) (p : Content) (piece : List ℕ) (more : List (List ℕ)) → read_lines n r piece more ≡ Ok p → IsValid (parts_of r) → IsValid p
valid-rest n r p piece [] e valid = valid-at_end n r p piece e valid
valid-rest n r p piece (next ∷ more) e valid = by_result (read_line r piece) refl e (λ s. valid-rest (n + 1) s p next more) where
  by_result : (o : Result Reading Why) → read_line r piece ≡ o → behind n o (λ s. read_lines (n + 1) s next more) ≡ Ok p
      → ((s : Reading) → read_lines (n + 1) s next more ≡ Ok p → IsValid (parts_of s) → IsValid p) → IsValid p
  by_result (Ok s) same here rest = rest s here (valid-line r s piece same valid)
  by_result (Err reason) same here rest = absurd (cc)

pub valid-start : IsValid (parts_of start)
valid-start = record { players = omega arith; queues = omega arith; items = omega arith; sems = omega arith; msgqs = omega arith; signals = omega arith; chans = omega arith; observers = omega arith; calls = omega arith; named = record { formed = λ object d e. absurd (cc); distinct = λ object d e. absurd (cc) }; in_range = refl; observed = λ object d e. absurd (cc); in_order = record { all = refl; each = λ n line e. absurd (cc) }; fit = refl; stand = refl; one_each = λ n script e. absurd (cc) }

valid-pieces : (p : Content) (pieces : List (List ℕ)) → read_pieces pieces ≡ Ok p → IsValid p
valid-pieces p [] e = absurd (cc)
valid-pieces p (first ∷ more) e = by_header (bytes_eq first (codes "zk 1")) e where
  by_more : (more : List (List ℕ)) → behind_header more ≡ Ok p → IsValid p
  by_more [] here = absurd (cc)
  by_more (piece ∷ more) here = valid-rest 2 start p piece more here valid-start

  by_header : (b : Bool) → cond b (behind_header more) (Err (At 1 why.Header)) ≡ Ok p → IsValid p
  by_header true here = by_more more here
  by_header false here = absurd (cc)

-- what is read is valid
pub IsValid-read : (text : List ℕ) (p : Content) → scenario_of text ≡ Ok p → IsValid p
IsValid-read text p e = by_length (nat_lt LONGEST_SCENARIO (length text)) e where
  by_length : (b : Bool) → cond b (Err (At 0 why.Length)) (read_pieces (pieces_of text)) ≡ Ok p → IsValid p
  by_length true here = absurd (cc)
  by_length false here = valid-pieces p (pieces_of text) here

-- a scenario whose text is read as it is valid
pub IsValid-readable : (p : Content) → IsReadable p → IsValid p
IsValid-readable p readable = IsValid-read (text_of p) p readable.read_back

-- scenarios with one text are equal
pub one_scenario : (p q : Content) → IsReadable p → IsReadable q → text_of p ≡ text_of q → p ≡ q
one_scenario p q first second same = let read : ◌≡◌ {A = Result Content ScenarioRefused} (Ok p) (Ok q) = sym first.read_back ∙ ap scenario_of same ∙ second.read_back in cc
