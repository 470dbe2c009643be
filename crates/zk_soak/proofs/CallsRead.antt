-- Calls that are read from their lines are taken, one behind the other, by the script that is open.
use Rattle.std.proofs.Common.{◌≡◌, ℕ, ◌+◌, ◌<◌, ◌≤◌, Bool, true, false, nat_le, ◌&&◌, ◌||◌, Option, None, Some, Ok, List, [], ◌∷◌, ◌++◌, length, map, arith, refl, sym, ap, ◌∙◌, subst, append-nil, append_assoc, length-append}
use Rattle.std.specs.Prelude.{option_map, option_and_then}
use Rattle.std.specs.List.{list_any}
use Rattle.std.proofs.lemmas.Bool.{lt-leb}
use Rattle.std.proofs.lemmas.List.Sums.{sum_by-append}
use Rattle.zk_words.specs.declared.word.Head.TheVariants as head
use Rattle.zk_words.specs.Table.{row_of}
use Rattle.zk_words.specs.Text.{line_text}
use Rattle.zk_line.specs.declared.types.Call.{Call}
use Rattle.zk_line.specs.declared.types.Decl.{Decl}
use Rattle.zk_line.specs.declared.types.Declared.{Declared}
use Rattle.zk_line.specs.Args.{arg_text}
use Rattle.zk_line.specs.Calls.{call_of, said_of, word_of, is_user_call}
use Rattle.zk_line.specs.Checks.{size_said, has_many_events}
use Rattle.zk_line.specs.Objects.{is_at, is_user}
use Rattle.zk_line.specs.Text.{call_line}
use Rattle.zk_scenario.specs.declared.limits.TheConstants.{MOST_CALLS}
use Rattle.zk_scenario.specs.declared.types.Script.{Script}
use Rattle.zk_scenario.specs.Free.{next_is_free}
use Rattle.zk_scenario.specs.Grammar.{told, taken, read_line}
use Rattle.zk_scenario.specs.Reading.{Reading, called}
use Rattle.zk_scenario.specs.Valid.{is_supervisors, makes_user, call_count}
use Rattle.zk_scenario.specs.Verdict.{is_misplaced, is_past_limit, after}
use Rattle.zk_scenario.proofs.Verdicts.{verdict_right}
use Rattle.zk_soak.proofs.WordsRead.{Said, AreSaid, IsRow, IsFormed, args_in, texts_in, parts_in, formed_by}
use Rattle.zk_soak.proofs.LinesRead.{IsRead, no_line, line_first}

-- a call is read from what its line says, in a line that isn't free, and isn't a supervisor's
pub record IsTaken (decls : List Decl) (c : Call) : Type 0 where
  pub saying : List Said
  pub row : IsRow decls (head.Call (word_of c)) saying
  pub said : AreSaid decls (size_said decls (args_in saying)) saying
  pub written : args_in saying ≡ (said_of c).args
  pub made : call_of (word_of c) (args_in saying) ≡ Some c
  pub few : has_many_events (parts_in decls saying) ≡ false
  pub mere : is_supervisors (word_of c) ≡ false
  pub stays : makes_user (word_of c) ≡ false
  pub other : is_user_call c ≡ false

-- each of the calls is
abbrev pub AreTaken : List Decl → List Call → Type 0
AreTaken decls [] = Unit {0}
AreTaken decls (c ∷ cs) = IsTaken decls c × AreTaken decls cs

-- what was read, part by part
abbrev pub reading : List Decl → List Declared → List Script → Option Script → Reading
reading decls written scripts current = record { decls = decls; written = written; scripts = scripts; current = current }

-- a script, part by part
abbrev pub script : ℕ → List Call → Script
script owner calls = record { owner = owner; calls = calls }

texts_are : (decls : List Decl) (ps : List Said) → texts_in decls ps ≡ map (arg_text decls) (args_in ps)
texts_are decls [] = refl
texts_are decls (p ∷ ps) = ap (λ ts. arg_text decls p.1 ∷ ts) (texts_are decls ps)

-- how many calls there are with one script more
pub call_count-push : (ss : List Script) (s : Script) → call_count (ss ++ s ∷ []) ≡ call_count ss + length s.calls
call_count-push ss s = sum_by-append (λ (x : Script). length x.calls) ss (s ∷ []) ∙ ap (λ n. call_count ss + n) (omega arith)

pub call_count-cons : (s : Script) (ss : List Script) → call_count (s ∷ ss) ≡ length s.calls + call_count ss
call_count-cons s ss = sum_by-append (λ (x : Script). length x.calls) (s ∷ []) ss ∙ ap (λ n. n + call_count ss) (omega arith)

any-push : (calls : List Call) (c : Call) → list_any is_user_call calls ≡ false → is_user_call c ≡ false → list_any is_user_call (calls ++ c ∷ []) ≡ false
any-push [] c none other = ap (λ b. b || false) other
any-push (x ∷ calls) c none other = by (is_user_call x) none (λ rest. any-push calls c rest other) where
  by : (b : Bool) → (b || list_any is_user_call calls) ≡ false → (list_any is_user_call calls ≡ false → list_any is_user_call (calls ++ c ∷ []) ≡ false) → (b || list_any is_user_call (calls ++ c ∷ [])) ≡ false
  by true here rest = absurd (cc)
  by false here rest = rest here

not_barred : (supervisors user first second : Bool) → supervisors ≡ false → user ≡ false → (supervisors && first || user && second) ≡ false
not_barred false false first second e f = refl
not_barred true user first second e f = absurd (cc)
not_barred false true first second e f = absurd (cc)

neither : (a b : Bool) → a ≡ false → b ≡ false → (a || b) ≡ false
neither false false e f = refl
neither true b e f = absurd (cc)
neither false true e f = absurd (cc)

-- the line of a call is formed of its words
formed_call : (decls : List Decl) (c : Call) (is : IsTaken decls c) → IsFormed decls (head.Call (word_of c)) is.saying (call_line decls c)
formed_call decls c is =
    subst (λ texts. IsFormed decls (head.Call (word_of c)) is.saying (line_text ((row_of (head.Call (word_of c))).first ∷ texts)))
    (texts_are decls is.saying ∙ ap (map (arg_text decls)) is.written) (formed_by decls (head.Call (word_of c)) is.saying is.row is.said)

module _ (decls : List Decl) (written : List Declared) (ss : List Script) (owner : ℕ) (super : is_at is_user decls owner ≡ false) where
  -- a call is taken by the script that is open
  call_read : (calls : List Call) (c : Call) → IsTaken decls c → list_any is_user_call calls ≡ false → call_count ss + length calls < MOST_CALLS
      → read_line (reading decls written ss (Some (script owner calls))) (call_line decls c) ≡ Ok (reading decls written ss (Some (script owner (calls ++ c ∷ []))))
  call_read calls c is none room =
      let h = head.Call (word_of c) in
      let before = reading decls written ss (Some (script owner calls)) in
      let parts = parts_in decls is.saying in
      let formed = formed_call decls c is in
      let bound : next_is_free before ≡ false = neither (is_at is_user decls owner) (list_any is_user_call calls) super none in
      let placed : is_misplaced before h parts ≡ false = not_barred (is_supervisors (word_of c)) (makes_user (word_of c)) _ _ is.mere is.stays in
      let count = call_count-push ss (script owner calls) in
      let full : is_past_limit before h parts ≡ false = neither (nat_le MOST_CALLS (call_count (ss ++ script owner calls ∷ []))) (has_many_events parts) (lt-leb MOST_CALLS (call_count (ss ++ script owner calls ∷ [])) (omega (arith, count, room))) is.few in
      let right = verdict_right before decls h parts None (args_in is.saying) refl false (sym bound) (formed.in_range, formed.named, formed.said) placed false false refl refl full in
      ap (taken before) formed.formed ∙ ap (λ o. told o (after before h parts)) right.0
      ∙ ap (λ o. told None (option_map (called before) (option_and_then (call_of (word_of c)) o))) formed.said ∙ ap (λ o. told None (option_map (called before) o)) is.made

  -- so are calls, one behind the other
  pub calls_read : (calls more : List Call) → AreTaken decls more → list_any is_user_call calls ≡ false → call_count ss + length calls + length more ≤ MOST_CALLS
      → IsRead (reading decls written ss (Some (script owner calls))) (map (call_line decls) more) (reading decls written ss (Some (script owner (calls ++ more))))
  calls_read calls [] are none room =
      subst (λ (cs : List Call). IsRead (reading decls written ss (Some (script owner calls))) [] (reading decls written ss (Some (script owner cs)))) (sym (append-nil calls)) (no_line _)
  calls_read calls (c ∷ more) are none room =
      let one = call_read calls c are.0 none (omega arith) in
      let longer = length-append calls (c ∷ []) in
      let rest = calls_read (calls ++ c ∷ []) more are.1 (any-push calls c none are.0.other) (omega (arith, longer, room)) in
      line_first (reading decls written ss (Some (script owner calls))) (reading decls written ss (Some (script owner (calls ++ c ∷ [])))) (reading decls written ss (Some (script owner (calls ++ c ∷ more)))) (call_line decls c) (map (call_line decls) more)
      one (formed_call decls c are.0).is_line
      (subst (λ (cs : List Call). IsRead (reading decls written ss (Some (script owner (calls ++ c ∷ [])))) (map (call_line decls) more) (reading decls written ss (Some (script owner cs)))) (append_assoc calls (c ∷ []) more) rest)
