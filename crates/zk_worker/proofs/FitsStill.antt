-- All that a player of a valid scenario attempts is in range, and stays so with each step.
use Rattle.std.proofs.Common.{◌≡◌, ◌⊎◌, inl, inr, ℕ, zero, suc, ◌+◌, Bool, true, false, ◌||◌, Option, Some, None, List, [], ◌∷◌, take, All, refl, sym, ap, subst, ◌∙◌, arith}
use Rattle.std.specs.List.{slice_get, list_any}
use Rattle.std.specs.Option.{option_map, option_map_or, option_and_then}
use Rattle.std.proofs.lemmas.List.Elements.{All-nil, All-cons, All-head, All-tail, All-weaker}
use Rattle.std.proofs.lemmas.Option.{option_and_then_some, same_Some}
use Rattle.zk_base.proofs.Lists.{All-at}
use Rattle.zk_line.specs.declared.needs.Needed.{Needed}
use Rattle.zk_line.specs.declared.types.Call.{Call}
use Rattle.zk_line.specs.declared.types.Call.TheVariants as calls
use Rattle.zk_line.specs.declared.types.Decl.{Decl}
use Rattle.zk_line.specs.declared.types.Decl.TheVariants as decls_of
use Rattle.zk_line.specs.declared.types.Ref.{Ref}
use Rattle.zk_line.specs.declared.types.Ref.TheVariants.{Known, Unknown}
use Rattle.zk_line.specs.Calls.{is_user_call}
use Rattle.zk_line.specs.Needs.{needs_of, is_there, IsThere, IsMet}
use Rattle.zk_line.specs.Objects.{is_at, is_thread, is_user}
use Rattle.zk_base.specs.declared.kinds.Need.{Need}
use Rattle.zk_model_bus.specs.declared.table.OopsWhy.{OopsWhy}
use Rattle.zk_model_bus.specs.declared.table.TableOp.TheVariants as table_ops
use Rattle.zk_scenario.specs.Content.{Content}
use Rattle.zk_scenario.specs.Players.{players, calls_of}
use Rattle.zk_scenario.specs.Valid.{IsValid}
use Rattle.zk_worker.specs.declared.checks.Check.{Check}
use Rattle.zk_worker.specs.declared.checks.Mode.{Mode}
use Rattle.zk_worker.specs.declared.checks.Mode.TheVariants.{User}
use Rattle.zk_worker.specs.declared.frames.Frame.{Frame}
use Rattle.zk_worker.specs.declared.frames.Progress.{Progress}
use Rattle.zk_worker.specs.declared.frames.Progress.TheVariants.{Goes, Answers, Enters}
use Rattle.zk_worker.specs.declared.frames.Role.{Role}
use Rattle.zk_worker.specs.declared.frames.Role.TheVariants.{Script, Worker}
use Rattle.zk_worker.specs.declared.frames.Stage.{Stage}
use Rattle.zk_worker.specs.declared.frames.Stage.TheVariants.{Start}
use Rattle.zk_worker.specs.declared.steps.Step.{Step}
use Rattle.zk_worker.specs.declared.steps.Step.TheVariants as steps
use Rattle.zk_worker.specs.declared.steps.StepReply.{StepReply}
use Rattle.zk_worker.specs.Checks.{check_of, call_check, role_check, top_check, next_check, check_step, oops_in, mode_after, start_mode}
use Rattle.zk_worker.specs.Places.{PlayerPlace}
use Rattle.zk_worker.specs.Protocol.{IsAhead, after, checked, moved, call_attempts, frames_attempts, frames_progress, frames_after, entered, first_frame, role_at, spot_of, starting, start_at}
use Rattle.zk_worker.specs.Ranges.{step_fits, ReplyFits, HasBegun, is_free_at, IsUsers, ArePassedAt, ArePassed, IsFit, IsAsked, PassesFit}
use Rattle.zk_worker.specs.Refs.{ref_declared}
use Rattle.zk_worker.specs.TableSetup.{names_declared}
use Rattle.zk_worker.proofs.CheckedSteps.{IsCheck, IsOwn, one-or-other, turn, check-of-top}
use Rattle.zk_worker.proofs.Fits.{TopHasObjects, frames_attempts-fit, frames_after-fit, starting-fits}
use Rattle.zk_worker.proofs.FreeCalls.{next-there, own-objects}
use Rattle.zk_worker.proofs.Limits.{settled-all, entered-all}
use Rattle.zk_worker.proofs.StageFits.{ProgressFits, frames_progress-fits}

-- A check.

-- it is of what is declared
check-fits : (s : Content) (passed : ℕ) (frames : List Frame) (check : Check) → IsValid s → top_check s passed frames ≡ Some check → step_fits s.decls (check_step check) ≡ true
check-fits s passed [] check valid is = absurd (cc)
check-fits s passed (frame ∷ below) check valid is = by_role frame.role frame.stage is where
  of_needed : (call : Call) (n : Needed) → IsThere s.decls n → step_fits s.decls (check_step (check_of call n)) ≡ true
  of_needed call n there = by n.object n.need there where
    by : (object : Ref) (need : Need) → is_there s.decls object ≡ true → names_declared s.decls (table_ops.Check (ref_declared object) need) ≡ true
    by (Known object) need there = there
    by (Unknown name) need there = refl

  by_need : (call : Call) → All (IsThere s.decls) (needs_of call) → (o : Option Needed) → slice_get (needs_of call) passed ≡ o → option_map (check_of call) o ≡ Some check →
      step_fits s.decls (check_step check) ≡ true
  by_need call all None at is = absurd (cc)
  by_need call all (Some n) at is = subst (λ (c : Check). step_fits s.decls (check_step c) ≡ true) (same_Some (check_of call n) check is)
      (of_needed call n (All-at (IsThere s.decls) (needs_of call) passed n all at))

  by_role : (role : Role) (stage : Stage) → role_check s passed role frame.next stage ≡ Some check → step_fits s.decls (check_step check) ≡ true
  by_role (Script owner) Start is =
      option_and_then_some {P = step_fits s.decls (check_step check) ≡ true} (call_check passed) (slice_get (calls_of s.scripts owner) frame.next) check is
      (λ call there comes. by_need call (next-there s owner frame.next call valid there) (slice_get (needs_of call) passed) refl comes)
  by_role role stage is = absurd (cc)

-- Another step.

-- it is of a call that has the objects that it needs
own-top : (s : Content) (mode : Mode) (passed : ℕ) (frames : List Frame) → IsValid s → All (IsUsers s mode) frames → All (HasBegun s) frames → ArePassed s passed frames →
    next_check s mode passed frames ≡ None → TopHasObjects s frames
own-top s mode passed [] valid users begun are none = tt
own-top s mode passed (frame ∷ below) valid users begun are none =
    own-objects s mode passed frame below valid (All-head (IsUsers s mode) frame below users) (All-head (HasBegun s) frame below begun) are none

-- each attempt of a player of a valid scenario names what is declared
pub ahead-fits : (s : Content) (at : PlayerPlace) (step : Step) → IsValid s → IsFit s at → IsAhead s at step → step_fits s.decls step ≡ true
ahead-fits s at step valid fit ahead = by (one-or-other s at step ahead) where
  by : IsCheck s at step ⊎ IsOwn s at step → step_fits s.decls step ≡ true
  by (inl is) = subst (λ (x : Step). step_fits s.decls x ≡ true) is.is_step
      (check-fits s at.passed at.frames is.check valid (check-of-top s at.mode at.passed at.frames is.check is.comes))
  by (inr is) = frames_attempts-fit s at.frames is.index step (own-top s at.mode at.passed at.frames valid fit.free fit.begun fit.passed is.none) fit.frames is.ahead

-- What holds after a check that was passed.

all-next : {A : Type 0} (P : A → Type 0) (xs : List A) (n : ℕ) (x : A) → All P (take n xs) → slice_get xs n ≡ Some x → P x → All P (take (suc n) xs)
all-next P [] n x all there holds = absurd (cc)
all-next P (y ∷ ys) zero x all there holds = All-cons P y [] (subst P (sym (same_Some y x there)) holds) (All-nil P)
all-next P (y ∷ ys) (suc n) x all there holds =
    All-cons P y (take (suc n) ys) (All-head P y (take n ys) all) (all-next P ys n x (All-tail P y (take n ys) all) there holds)

met-asked : (decls : List Decl) (n : Needed) → IsAsked decls (ref_declared n.object) n.need → IsMet decls n
met-asked decls n asked = by n.object n.need asked where
  by : (object : Ref) (need : Need) → IsAsked decls (ref_declared object) need → IsMet decls (record { object = object; need = need })
  by (Known object) need asked = asked
  by (Unknown name) need asked = absurd asked

passed-more : (s : Content) (passed : ℕ) (frames : List Frame) (check : Check) → top_check s passed frames ≡ Some check → IsAsked s.decls check.object check.need → ArePassed s passed frames →
    ArePassed s (passed + 1) frames
passed-more s passed [] check is asked are = tt
passed-more s passed (frame ∷ below) check is asked are = by_role frame.role frame.stage is are where
  by_need : (call : Call) → All (IsMet s.decls) (take passed (needs_of call)) → (o : Option Needed) → slice_get (needs_of call) passed ≡ o → option_map (check_of call) o ≡ Some check →
      All (IsMet s.decls) (take (passed + 1) (needs_of call))
  by_need call all None at comes = absurd (cc)
  by_need call all (Some n) at comes =
      let same : check_of call n ≡ check = same_Some (check_of call n) check comes in
      let met = met-asked s.decls n (subst (λ (c : Check). IsAsked s.decls c.object c.need) (sym same) asked) in
      let next : suc passed ≡ passed + 1 = omega arith in
      subst (λ (k : ℕ). All (IsMet s.decls) (take k (needs_of call))) next (all-next (IsMet s.decls) (needs_of call) passed n all at met)

  by_role : (role : Role) (stage : Stage) → role_check s passed role frame.next stage ≡ Some check → ArePassedAt s passed role frame.next → ArePassedAt s (passed + 1) role frame.next
  by_role (Script owner) Start is are = λ call there.
      by_need call (are call there) (slice_get (needs_of call) passed) refl (ap (option_and_then (call_check passed)) (sym there) ∙ is)
  by_role role stage is are = absurd (cc)

passed-none : (s : Content) (frames : List Frame) → ArePassed s 0 frames
passed-none s [] = tt
passed-none s (frame ∷ below) = by frame.role where
  by : (role : Role) → ArePassedAt s 0 role frame.next
  by (Script owner) = λ call there. All-nil (IsMet s.decls)
  by (Worker queue) = tt

-- What holds after another step.

mode-still : (mode : Mode) (made : Step) → mode ≡ User → mode_after mode made ≡ User
mode-still mode (steps.Table table_ops.EnterUser) is = refl
mode-still mode made is = is

-- what is free with one call more was free before, or the call makes its caller a user
free-next : (calls : List Call) (next : ℕ) → list_any is_user_call (take (suc next) calls) ≡ true →
    (list_any is_user_call (take next calls) ≡ true) ⊎ ((call : Call) × (slice_get calls next ≡ Some call) × (is_user_call call ≡ true))
free-next [] next free = absurd (cc)
free-next (call ∷ more) zero free = by (is_user_call call) refl free where
  by : (b : Bool) → is_user_call call ≡ b → (b || false) ≡ true → (list_any is_user_call (take zero (call ∷ more)) ≡ true) ⊎ ((c : Call) × (slice_get (call ∷ more) zero ≡ Some c) × (is_user_call c ≡ true))
  by true is any = inr (call, refl, is)
  by false is any = absurd (cc)
free-next (call ∷ more) (suc next) free = by (is_user_call call) free (free-next more next) where
  by : (b : Bool) → (b || list_any is_user_call (take (suc next) more)) ≡ true →
      (list_any is_user_call (take (suc next) more) ≡ true → (list_any is_user_call (take next more) ≡ true) ⊎ ((c : Call) × (slice_get more next ≡ Some c) × (is_user_call c ≡ true))) →
      ((b || list_any is_user_call (take next more)) ≡ true) ⊎ ((c : Call) × (slice_get more next ≡ Some c) × (is_user_call c ≡ true))
  by true any further = inl refl
  by false any further = further any

-- whose step does so
user-step : (decls : List Decl) (call : Call) (stage : Stage) (k : ℕ) (made : Step) → is_user_call call ≡ true → slice_get (call_attempts decls (Some call) stage) k ≡ Some made →
    made ≡ steps.Table table_ops.EnterUser
user-step decls calls.User Start zero made is there = sym (same_Some (steps.Table table_ops.EnterUser) made there)
user-step decls calls.User Start (suc k) made is there = absurd (cc)
user-step decls calls.User stage k made is there = absurd (cc)
user-step decls call stage k made is there = absurd (cc)

-- only threads are users
no-user : (decls : List Decl) (object : ℕ) → is_at is_thread decls object ≡ false → is_at is_user decls object ≡ false
no-user [] object none = refl
no-user (decls_of.Thread name prio user ∷ ds) zero none = absurd (cc)
no-user (d ∷ ds) zero none = refl
no-user (d ∷ ds) (suc object) none = no-user ds object none

module _ (s : Content) (mode : Mode) (made : Step) where
  abbrev later : Mode
  later = mode_after mode made

  -- the next call of a script that was answered
  users-next : (role : Role) (next : ℕ) (stage : Stage) (k : ℕ) → slice_get (frames_attempts s (record { role = role; next = next; stage = stage } ∷ [])) k ≡ Some made →
      (is_free_at s role next ≡ true → mode ≡ User) → is_free_at s role (next + 1) ≡ true → later ≡ User
  users-next (Worker queue) next stage k ahead users free = absurd (cc)
  users-next (Script owner) next stage k ahead users free = by_user (is_at is_user s.decls owner) refl
      (let same : next + 1 ≡ suc next = omega arith in subst (λ (n : ℕ). is_free_at s (Script owner) n ≡ true) same free)
    where
      by_call : (list_any is_user_call (take next (calls_of s.scripts owner)) ≡ true)
          ⊎ ((call : Call) × (slice_get (calls_of s.scripts owner) next ≡ Some call) × (is_user_call call ≡ true)) → is_at is_user s.decls owner ≡ false → later ≡ User
      by_call (inl before) not = mode-still mode made (users (ap (λ (b : Bool). b || list_any is_user_call (take next (calls_of s.scripts owner))) not ∙ before))
      by_call (inr here) not =
          let enters = user-step s.decls here.0 stage k made here.2 (ap (λ (c : Option Call). slice_get (call_attempts s.decls c stage) k) (sym here.1) ∙ ahead) in
          ap (mode_after mode) enters

      by_user : (b : Bool) → is_at is_user s.decls owner ≡ b → (b || list_any is_user_call (take (suc next) (calls_of s.scripts owner))) ≡ true → later ≡ User
      by_user true is free = mode-still mode made (users (ap (λ (b : Bool). b || list_any is_user_call (take next (calls_of s.scripts owner))) is))
      by_user false is free = by_call (free-next (calls_of s.scripts owner) next free) is

  users-after : (frames : List Frame) (progress : Progress) (k : ℕ) → slice_get (frames_attempts s frames) k ≡ Some made → ProgressFits s.decls progress →
      All (IsUsers s mode) frames → All (IsUsers s later) (frames_after s frames progress)
  users-after [] progress k ahead fits users = All-nil (IsUsers s later)
  users-after (frame ∷ below) progress k ahead fits users = by progress fits
    where
      still : All (IsUsers s later) (frame ∷ below)
      still = All-weaker (IsUsers s mode) (IsUsers s later) (λ f own free. mode-still mode made (own free)) (frame ∷ below) users

      with_stage : (stage : Stage) → All (IsUsers s later) (record frame { stage = stage } ∷ below)
      with_stage stage = All-cons (IsUsers s later) (record frame { stage = stage }) below (All-head (IsUsers s later) frame below still) (All-tail (IsUsers s later) frame below still)

      by : (progress : Progress) → ProgressFits s.decls progress → All (IsUsers s later) (frames_after s (frame ∷ below) progress)
      by (Goes stage) fits = with_stage stage
      by (Answers word answer) fits =
          let next = record frame { next = frame.next + 1; stage = Start } in
          settled-all (IsUsers s later) s (next ∷ below) (All-cons (IsUsers s later) next below
          (users-next frame.role frame.next frame.stage k ahead (All-head (IsUsers s mode) frame below users)) (All-tail (IsUsers s later) frame below still))
      by (Enters owner stage) fits =
          let next = record frame { stage = stage } in
          settled-all (IsUsers s later) s (entered (next ∷ below) owner) (entered-all (IsUsers s later) (next ∷ below) owner
          (λ free. absurd (let not = no-user s.decls owner fits.1 in let none : (is_at is_user s.decls owner || false) ≡ true = free in cc)) (with_stage stage))

-- a call that goes on has begun
begun-after : (s : Content) (frames : List Frame) (progress : Progress) → TopHasObjects s frames → All (HasBegun s) frames → All (HasBegun s) (frames_after s frames progress)
begun-after s [] progress objects begun = All-nil (HasBegun s)
begun-after s (frame ∷ below) progress objects begun = by progress
  where
    with_stage : (stage : Stage) → All (HasBegun s) (record frame { stage = stage } ∷ below)
    with_stage stage = All-cons (HasBegun s) (record frame { stage = stage }) below (λ started. objects) (All-tail (HasBegun s) frame below begun)

    by : (progress : Progress) → All (HasBegun s) (frames_after s (frame ∷ below) progress)
    by (Goes stage) = with_stage stage
    by (Answers word answer) =
        let next = record frame { next = frame.next + 1; stage = Start } in
        settled-all (HasBegun s) s (next ∷ below) (All-cons (HasBegun s) next below (λ started. absurd (cc)) (All-tail (HasBegun s) frame below begun))
    by (Enters owner stage) =
        let next = record frame { stage = stage } in
        settled-all (HasBegun s) s (entered (next ∷ below) owner) (entered-all (HasBegun s) (next ∷ below) owner (λ started. absurd (cc)) (with_stage stage))

-- a step keeps all of it
pub after-fits : (s : Content) (at : PlayerPlace) (made : Step) (reply : StepReply) → IsValid s → IsFit s at → IsAhead s at made → ReplyFits s.decls reply → PassesFit s.decls made reply →
    IsFit s (after s at made reply)
after-fits s at made reply valid fit ahead told passes = turn (IsFit s) s at made reply ahead (λ is. by_why is (oops_in reply) refl) by_own where
  by_why : (is : IsCheck s at made) (why : Option OopsWhy) → oops_in reply ≡ why → IsFit s (checked at is.check.word why (spot_of made reply))
  by_why is None none =
      let asked : IsAsked s.decls is.check.object is.check.need = subst (λ (x : Step). PassesFit s.decls x reply) (sym is.is_step) passes none in record {
        frames = fit.frames;
        free = fit.free;
        begun = fit.begun;
        passed = passed-more s at.passed at.frames is.check (check-of-top s at.mode at.passed at.frames is.check is.comes) asked fit.passed;
        room = fit.room;
      }
  by_why is (Some why) some = record { frames = All-nil _; free = All-nil _; begun = All-nil (HasBegun s); passed = tt; room = fit.room }

  by_own : IsOwn s at made → IsFit s (moved s at made (frames_progress s at.frames made reply) (spot_of made reply))
  by_own is =
      let progress = frames_progress s at.frames made reply in
      let fits = frames_progress-fits s at.frames made reply fit.frames told in
      let objects = own-top s at.mode at.passed at.frames valid fit.free fit.begun fit.passed is.none in record {
        frames = frames_after-fit s at.frames progress fit.frames fits;
        free = users-after s at.mode made at.frames progress is.index is.ahead fits fit.free;
        begun = begun-after s at.frames progress objects fit.begun;
        passed = passed-none s (frames_after s at.frames progress);
        room = fit.room;
      }

-- A player from its start.

starts-user : (s : Content) (object : ℕ) (decl : Decl) → slice_get s.decls object ≡ Some decl → is_free_at s (role_at decl object) 0 ≡ true → start_mode decl ≡ User
starts-user s object (decls_of.Thread name prio true) there free = refl
starts-user s object (decls_of.Thread name prio false) there free = absurd (let not = ap (λ (o : Option Decl). option_map_or is_user o false) there in cc)
starts-user s object (decls_of.Queue name prio on) there free = absurd (cc)
starts-user s object decl there free = absurd (let not = ap (λ (o : Option Decl). option_map_or is_user o false) there in cc)

starting-fit : (s : Content) (number object : ℕ) (decl : Decl) → slice_get s.decls object ≡ Some decl → IsFit s (starting s number object decl)
starting-fit s number object decl is =
    let first = first_frame (role_at decl object) in record {
      frames = starting-fits s number object decl is;
      free = settled-all (IsUsers s (start_mode decl)) s (first ∷ []) (All-cons (IsUsers s (start_mode decl)) first [] (starts-user s object decl is) (All-nil (IsUsers s (start_mode decl))));
      begun = settled-all (HasBegun s) s (first ∷ []) (All-cons (HasBegun s) first [] (λ started. absurd (cc)) (All-nil (HasBegun s)));
      passed = passed-none s (starting s number object decl).frames;
      room = refl;
    }

-- a player that has made no step fits
pub start_at-fits : (s : Content) (number : ℕ) (at : PlayerPlace) → start_at s number ≡ Some at → IsFit s at
start_at-fits s number at is =
    let inner : ℕ → Option PlayerPlace = λ object. option_map (starting s number object) (slice_get s.decls object) in
    option_and_then_some inner (slice_get (players s.decls) number) at is
    (λ object found made. from_decl s number object (slice_get s.decls object) refl at made)
  where
    from_decl : (s : Content) (number object : ℕ) (decl : Option Decl) → slice_get s.decls object ≡ decl → (at : PlayerPlace) →
        option_map (starting s number object) decl ≡ Some at → IsFit s at
    from_decl s number object None is at made = absurd (cc)
    from_decl s number object (Some decl) is at made =
        let same : starting s number object decl ≡ at = cc in
        subst (IsFit s) same (starting-fit s number object decl is)
