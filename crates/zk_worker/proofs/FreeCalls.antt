-- A call of a free line makes another step only where it has the objects that it needs.
use Rattle.std.proofs.Common.{◌≡◌, ℕ, zero, suc, Bool, true, false, ◌||◌, Option, Some, None, List, [], ◌∷◌, take, All, refl, sym, ap, subst, ◌∙◌}
use Rattle.std.specs.List.{slice_get, list_any}
use Rattle.std.specs.Option.{option_map, option_and_then}
use Rattle.std.proofs.lemmas.Bool.{and_parts}
use Rattle.std.proofs.lemmas.Option.{same_Some}
use Rattle.zk_line.specs.declared.needs.Needed.{Needed}
use Rattle.zk_line.specs.declared.types.Call.{Call}
use Rattle.zk_line.specs.declared.types.Decl.{Decl}
use Rattle.zk_line.specs.Calls.{is_user_call}
use Rattle.zk_line.specs.Fits.{call_fits}
use Rattle.zk_line.specs.Needs.{needs_of, IsMet, IsThere}
use Rattle.zk_line.specs.Objects.{is_at, is_user}
use Rattle.zk_line.proofs.NeedsMet.{needs-met}
use Rattle.zk_line.proofs.NeedsThere.{needs-there}
use Rattle.zk_scenario.specs.Content.{Content}
use Rattle.zk_scenario.specs.Players.{calls_of}
use Rattle.zk_scenario.specs.Valid.{IsValid, calls_fit}
use Rattle.zk_scenario.proofs.Valid.{calls_fit-calls_of}
use Rattle.zk_worker.specs.declared.checks.Mode.{Mode}
use Rattle.zk_worker.specs.declared.checks.Mode.TheVariants.{User}
use Rattle.zk_worker.specs.declared.frames.Frame.{Frame}
use Rattle.zk_worker.specs.declared.frames.Role.{Role}
use Rattle.zk_worker.specs.declared.frames.Role.TheVariants.{Script, Worker}
use Rattle.zk_worker.specs.declared.frames.Stage.{Stage}
use Rattle.zk_worker.specs.declared.frames.Stage.TheVariants.{Start}
use Rattle.zk_worker.specs.Checks.{check_of, call_check, next_check}
use Rattle.zk_worker.specs.Ranges.{HasObjects, is_start, is_free_at, ArePassedAt}

-- a call among others fits by whether its line is free
calls_fit-at : (free : Bool) (decls : List Decl) (calls : List Call) (next : ℕ) (call : Call) → calls_fit free decls calls ≡ true → slice_get calls next ≡ Some call →
    call_fits (free || list_any is_user_call (take next calls)) decls call ≡ true
calls_fit-at free decls [] next call fits there = absurd (cc)
calls_fit-at free decls (c ∷ cs) zero call fits there =
    let both = and_parts (call_fits free decls c) (calls_fit (free || is_user_call c) decls cs) fits in
    subst (λ (b : Bool). call_fits b decls call ≡ true) (sym (or-none free)) (subst (λ (x : Call). call_fits free decls x ≡ true) (same_Some c call there) both.0)
  where
    or-none : (b : Bool) → (b || false) ≡ b
    or-none true = refl
    or-none false = refl
calls_fit-at free decls (c ∷ cs) (suc next) call fits there =
    let both = and_parts (call_fits free decls c) (calls_fit (free || is_user_call c) decls cs) fits in
    subst (λ (b : Bool). call_fits b decls call ≡ true) (or-both free (is_user_call c) (list_any is_user_call (take next cs))) (calls_fit-at (free || is_user_call c) decls cs next call both.1 there)
  where
    or-both : (a b c : Bool) → ((a || b) || c) ≡ (a || (b || c))
    or-both true b c = refl
    or-both false b c = refl

-- the next call of a script fits by whether it stands in a free line
pub call_fits-next : (s : Content) (owner next : ℕ) (call : Call) → IsValid s → slice_get (calls_of s.scripts owner) next ≡ Some call →
    call_fits (is_free_at s (Script owner) next) s.decls call ≡ true
call_fits-next s owner next call valid there =
    calls_fit-at (is_at is_user s.decls owner) s.decls (calls_of s.scripts owner) next call (calls_fit-calls_of s owner valid) there

-- so the objects that it names by their numbers are declared
pub next-there : (s : Content) (owner next : ℕ) (call : Call) → IsValid s → slice_get (calls_of s.scripts owner) next ≡ Some call → All (IsThere s.decls) (needs_of call)
next-there s owner next call valid there = needs-there (is_free_at s (Script owner) next) s.decls call (call_fits-next s owner next call valid there)

-- where nothing is left to check all is checked
pub all-taken : {A : Type 0} (xs : List A) (n : ℕ) → slice_get xs n ≡ None → take n xs ≡ xs
all-taken [] zero none = refl
all-taken [] (suc n) none = refl
all-taken (x ∷ xs) zero none = absurd (cc)
all-taken (x ∷ xs) (suc n) none = ap (λ (l : List _). x ∷ l) (all-taken xs n none)

-- and no need is left
pub none-left : (call : Call) (needs : List Needed) (passed : ℕ) → option_map (check_of call) (slice_get needs passed) ≡ None → slice_get needs passed ≡ None
none-left call needs passed none = by (slice_get needs passed) none where
  by : (o : Option Needed) → option_map (check_of call) o ≡ None → o ≡ None
  by None none = refl
  by (Some n) none = absurd (cc)

-- a call that makes another step than a check has the objects that it needs
pub own-objects : (s : Content) (mode : Mode) (passed : ℕ) (frame : Frame) (below : List Frame) → IsValid s → (is_free_at s frame.role frame.next ≡ true → mode ≡ User) →
    (is_start frame.stage ≡ false → HasObjects s frame.role frame.next) → ArePassedAt s passed frame.role frame.next → next_check s mode passed (frame ∷ below) ≡ None →
    HasObjects s frame.role frame.next
own-objects s mode passed frame below valid users begun are none = by_role frame.role frame.stage users begun are none where
  of_call : (owner : ℕ) (call : Call) → slice_get (calls_of s.scripts owner) frame.next ≡ Some call → (free : Bool) → is_free_at s (Script owner) frame.next ≡ free →
      call_fits free s.decls call ≡ true → (free ≡ true → mode ≡ User) → All (IsMet s.decls) (take passed (needs_of call)) →
      (mode ≡ User → call_check passed call ≡ None) → call_fits false s.decls call ≡ true
  of_call owner call there false is fits users are none = fits
  of_call owner call there true is fits users are none =
      let left = none-left call (needs_of call) passed (none (users refl)) in
      needs-met s.decls call fits (subst (All (IsMet s.decls)) (all-taken (needs_of call) passed left) are)

  unchecked : (owner : ℕ) (call : Call) → slice_get (calls_of s.scripts owner) frame.next ≡ Some call → (mode : Mode) →
      next_check s mode passed (record { role = Script owner; next = frame.next; stage = Start } ∷ below) ≡ None → mode ≡ User → call_check passed call ≡ None
  unchecked owner call there User none is = ap (option_and_then (call_check passed)) (sym there) ∙ none
  unchecked owner call there mode none is = absurd (cc)

  by_stage : (owner : ℕ) (stage : Stage) → (is_free_at s (Script owner) frame.next ≡ true → mode ≡ User) → (is_start stage ≡ false → HasObjects s (Script owner) frame.next) →
      ArePassedAt s passed (Script owner) frame.next → next_check s mode passed (record { role = Script owner; next = frame.next; stage = stage } ∷ below) ≡ None → HasObjects s (Script owner) frame.next
  by_stage owner Start users begun are none = λ call there.
      of_call owner call there (is_free_at s (Script owner) frame.next) refl (call_fits-next s owner frame.next call valid there) users (are call there) (unchecked owner call there mode none)
  by_stage owner stage users begun are none = begun refl

  by_role : (role : Role) (stage : Stage) → (is_free_at s role frame.next ≡ true → mode ≡ User) → (is_start stage ≡ false → HasObjects s role frame.next) →
      ArePassedAt s passed role frame.next → next_check s mode passed (record { role = role; next = frame.next; stage = stage } ∷ below) ≡ None → HasObjects s role frame.next
  by_role (Script owner) stage users begun are none = by_stage owner stage users begun are none
  by_role (Worker queue) stage users begun are none = tt
