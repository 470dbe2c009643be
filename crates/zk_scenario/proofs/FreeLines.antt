-- Calls one behind the other: those behind a call that makes its caller a user stand in free lines.
use Rattle.std.proofs.Common.{◌≡◌, ℕ, zero, suc, Bool, true, false, ◌&&◌, ◌||◌, Some, List, [], ◌∷◌, ◌++◌, take, slice_get, refl, sym, ap, ◌∙◌}
use Rattle.std.specs.List.{list_any}
use Rattle.std.proofs.lemmas.Bool.{and_parts}
use Rattle.std.proofs.lemmas.Option.{same_Some}
use Rattle.std.proofs.Math.Bool.{or-false}
use Rattle.zk_line.specs.declared.types.Call.{Call}
use Rattle.zk_line.specs.Calls.{is_user_call}
use Rattle.zk_scenario.specs.Valid.{calls_pass}

and_true : (b : Bool) → (b && true) ≡ b
and_true true = refl
and_true false = refl

and_both : (a b c : Bool) → (a && (b && c)) ≡ ((a && b) && c)
and_both true b c = refl
and_both false b c = refl

or_both : (a b c : Bool) → ((a || b) || c) ≡ (a || (b || c))
or_both true b c = refl
or_both false b c = refl

-- calls that pass a test, with one more
pub calls_pass-push : (test : Bool → Call → Bool) (free : Bool) (calls : List Call) (c : Call) → calls_pass test free (calls ++ c ∷ []) ≡ (calls_pass test free calls && test (free || list_any is_user_call calls) c)
calls_pass-push test free [] c = and_true (test free c) ∙ ap (λ f. test f c) (sym (or-false free))
calls_pass-push test free (x ∷ calls) c =
    let next = free || is_user_call x in
    ap (λ b. test free x && b) (calls_pass-push test next calls c)
    ∙ and_both (test free x) (calls_pass test next calls) (test (next || list_any is_user_call calls) c)
    ∙ ap (λ f. (test free x && calls_pass test next calls) && test f c) (or_both free (is_user_call x) (list_any is_user_call calls))

-- each of them passes it, in a line that is free or not as those before it say
pub calls_pass-at : (test : Bool → Call → Bool) (free : Bool) (calls : List Call) (k : ℕ) (c : Call) → calls_pass test free calls ≡ true → slice_get calls k ≡ Some c
    → test (free || list_any is_user_call (take k calls)) c ≡ true
calls_pass-at test free [] k c pass e = absurd (cc)
calls_pass-at test free (x ∷ calls) zero c pass e =
    let same : x ≡ c = same_Some x c e in
    ap (λ f. test f c) (or-false free) ∙ ap (test free) (sym same) ∙ (and_parts (test free x) (calls_pass test (free || is_user_call x) calls) pass).0
calls_pass-at test free (x ∷ calls) (suc k) c pass e =
    let both = and_parts (test free x) (calls_pass test (free || is_user_call x) calls) pass in
    ap (λ f. test f c) (sym (or_both free (is_user_call x) (list_any is_user_call (take k calls)))) ∙ calls_pass-at test (free || is_user_call x) calls k c both.1 e
