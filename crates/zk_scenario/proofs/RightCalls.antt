-- A line that makes a call, and is right in all, is taken.
use Rattle.std.proofs.Common.{◌≡◌, ℕ, Bool, true, false, not, cond, ◌&&◌, ◌||◌, nat_le, nat_lt, List, [], None, Some, Ok, is_some, refl, sym, ap, subst, ◌∙◌, arith}
use Rattle.std.specs.Prelude.{option_map, option_and_then}
use Rattle.std.specs.List.{list_all}
use Rattle.std.proofs.lemmas.Bool.{and_parts, and_from, leb-true, ltb-true, not-true}
use Rattle.zk_words.specs.declared.line.Line.TheVariants.{Misspelled, Formed}
use Rattle.zk_words.specs.declared.word.Word.{Word}
use Rattle.zk_words.specs.declared.word.Head.TheVariants as head
use Rattle.zk_words.specs.Lines.{line_behind, IsForm}
use Rattle.zk_words.specs.Parts.{Placed, fits, parts_of as placed_of}
use Rattle.zk_words.specs.Spelled.{part_is_spelled}
use Rattle.zk_words.specs.Table.{call_row}
use Rattle.zk_line.specs.declared.types.Arg.{Arg}
use Rattle.zk_line.specs.declared.types.Call.{Call}
use Rattle.zk_line.specs.declared.types.Decl.{Decl}
use Rattle.zk_line.specs.Args.{args_of}
use Rattle.zk_line.specs.Calls.{call_of}
use Rattle.zk_line.specs.Checks.{message_size, each_in_range, go_together, are_in_range, each_well_named, name_once, are_well_named, has_many_events}
use Rattle.zk_line.specs.Right.{AreRight}
use Rattle.zk_line.proofs.CallRows.{name_once-call, few_events-call}
use Rattle.zk_scenario.specs.Free.{next_is_free}
use Rattle.zk_scenario.specs.Grammar.{told, taken}
use Rattle.zk_scenario.specs.Reading.{Reading, all_scripts, called, parts_of}
use Rattle.zk_scenario.specs.Valid.{IsValid, call_count}
use Rattle.zk_scenario.specs.Verdict.{is_barred, may_call, is_past_limit, verdict, after}
use Rattle.zk_scenario.specs.declared.limits.TheConstants.{MOST_CALLS}
use Rattle.zk_scenario.proofs.AcceptedLines.{IsValid-after}
use Rattle.zk_scenario.proofs.Verdicts.{verdict_right}

few_calls : (n m : ℕ) → nat_lt n m ≡ true → nat_le m n ≡ false
few_calls n m below = by_test (nat_le m n) refl where
  by_test : (b : Bool) → nat_le m n ≡ b → nat_le m n ≡ false
  by_test false is = is
  by_test true is = let high = leb-true m n is in let low = ltb-true n m below in absurd (omega (arith, high, low))

-- words behind the first of a call that are right, and say a call that may stand there
pub record IsRightCall (r : Reading) (w : Word) (words : List (List ℕ)) (args : List Arg) (c : Call) : Type 0 where
  pub may : may_call r w ≡ true
  pub fitting : fits (call_row w).slots (call_row w).rest words ≡ true
  pub right : AreRight (next_is_free r) r.decls [] (placed_of (call_row w).slots (call_row w).rest words) args
  pub made : call_of w args ≡ Some c

-- the same, by what is known of it where it is read
pub right_call : (r : Reading) (w : Word) (words : List (List ℕ)) (decls : List Decl) (free : Bool) (none args : List Arg) (c : Call) → may_call r w ≡ true → decls ≡ r.decls → free ≡ next_is_free r → none ≡ []
    → (fits (call_row w).slots (call_row w).rest words ≡ true) × AreRight free decls none (placed_of (call_row w).slots (call_row w).rest words) args → call_of w args ≡ Some c → IsRightCall r w words args c
right_call r w words decls free none args c may same loose empty right made =
    let parts = placed_of (call_row w).slots (call_row w).rest words in record {
      may = may;
      fitting = right.0;
      right = subst (λ ds. AreRight (next_is_free r) ds [] parts args) same (subst (λ f. AreRight f decls [] parts args) loose (subst (λ xs. AreRight free decls xs parts args) empty right.1));
      made = made;
    }

module _ (r : Reading) (w : Word) (words : List (List ℕ)) (args : List Arg) (c : Call) (is : IsRightCall r w words args c) where
  abbrev parts : List Placed
  parts = placed_of (call_row w).slots (call_row w).rest words

  said : args_of r.decls parts ≡ Some args
  said = is.right.saying ∙ ap Some (sym is.right.joined)

  unbarred : (is_some r.current && not (is_barred r w)) ≡ true
  unbarred = (and_parts (is_some r.current && not (is_barred r w)) (nat_lt (call_count (all_scripts r)) MOST_CALLS) is.may).0

  -- a script is open
  pub inside : is_some r.current ≡ true
  inside = (and_parts (is_some r.current) (not (is_barred r w)) unbarred).0

  placed_right : (not (is_some r.current) || is_barred r w) ≡ false
  placed_right =
      ap (λ b. not b || is_barred r w) inside ∙ not-true (is_barred r w) (and_parts (is_some r.current) (not (is_barred r w)) unbarred).1

  within : is_past_limit r (head.Call w) parts ≡ false
  within =
      let below = (and_parts (is_some r.current && not (is_barred r w)) (nat_lt (call_count (all_scripts r)) MOST_CALLS) is.may).1 in
      ap (λ b. b || has_many_events parts) (few_calls (call_count (all_scripts r)) MOST_CALLS below) ∙ few_events-call r.decls w words args c said is.made

  ranged : are_in_range r.decls (head.Call w) parts ≡ true
  ranged = and_from (each_in_range (message_size r.decls parts) parts) (go_together (head.Call w) parts) is.right.in_range refl

  named : are_well_named (next_is_free r) r.decls parts ≡ true
  named = and_from (each_well_named (next_is_free r) r.decls parts) (name_once parts) is.right.named (name_once-call w words)

  passes : verdict r (head.Call w) parts ≡ None
  passes = (verdict_right r r.decls (head.Call w) parts None args refl (next_is_free r) refl (ranged, named, said) placed_right false false refl refl within).0

  form : IsForm (head.Call w) parts
  form = record { words = words; fitting = is.fitting; placed = refl; spelled = is.right.spelled }

  makes : after r (head.Call w) parts ≡ Some (called r c)
  makes = ap (λ o. option_map (called r) (option_and_then (call_of w) o)) said ∙ ap (option_map (called r)) is.made

  -- what was read stays valid with it
  pub IsValid-right : IsValid (parts_of r) → IsValid (parts_of (called r c))
  IsValid-right valid = IsValid-after r (called r c) (head.Call w) parts form passes makes valid

  -- and the line is taken so
  pub taken-right : taken r (line_behind (head.Call w) words) ≡ Ok (called r c)
  taken-right =
      let spelled : (fits (call_row w).slots (call_row w).rest words && list_all part_is_spelled parts) ≡ true = and_from (fits (call_row w).slots (call_row w).rest words) (list_all part_is_spelled parts) is.fitting is.right.spelled in
      let formed : line_behind (head.Call w) words ≡ Formed (head.Call w) parts = ap (λ b. cond b (Formed (head.Call w) parts) Misspelled) spelled in
      ap (taken r) formed ∙ ap (λ v. told v (after r (head.Call w) parts)) passes ∙ ap (told None) makes
