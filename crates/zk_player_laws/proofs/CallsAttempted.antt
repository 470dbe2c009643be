-- At each moment a player attempts what comes next of its innermost script or run.
use Rattle.std.proofs.Common.{◌≡◌, ◌⊎◌, inl, inr, ℕ, suc, ◌+◌, ◌<◌, Bool, true, false, cond, eqb, nat_lt, Option, Some, None, List, [], ◌∷◌, ◌++◌, length, All, append-nil, append_assoc, refl, sym, ap, subst, ◌∙◌, arith}
use Rattle.std.specs.List.{slice_get}
use Rattle.std.specs.Option.{option_map}
use Rattle.std.proofs.lemmas.Bool.{lt-ltb, le-ltb, leb-true, leb-false}
use Rattle.std.proofs.lemmas.Bool.Decides.{nat_tests}
use Rattle.std.proofs.lemmas.List.Elements.{All-head, All-tail}
use Rattle.std.proofs.lemmas.Option.{option_and_then_some, same_Some}
use Rattle.zk_base.proofs.Lists.{slice_get-one}
use Rattle.zk_line.specs.Calls.{word_of}
use Rattle.zk_line.specs.Objects.{places, is_item, number_of}
use Rattle.zk_line.specs.declared.types.Call.{Call}
use Rattle.zk_line.specs.declared.types.Decl.{Decl}
use Rattle.zk_model_bus.specs.declared.table.OopsWhy.{OopsWhy}
use Rattle.zk_model_work.specs.declared.ops.WorkOp.TheVariants as work_ops
use Rattle.zk_model_work.specs.declared.ops.WorkReply.TheVariants as work_replies
use Rattle.zk_scenario.specs.Content.{Content}
use Rattle.zk_scenario.specs.Players.{players, calls_of}
use Rattle.zk_worker.specs.declared.checks.Check.{Check}
use Rattle.zk_worker.specs.declared.checks.Mode.{Mode}
use Rattle.zk_worker.specs.declared.checks.Mode.TheVariants.{Dead}
use Rattle.zk_worker.specs.declared.frames.Frame.{Frame}
use Rattle.zk_worker.specs.declared.frames.Progress.{Progress}
use Rattle.zk_worker.specs.declared.frames.Progress.TheVariants.{Goes, Answers, Enters}
use Rattle.zk_worker.specs.declared.frames.Role.{Role}
use Rattle.zk_worker.specs.declared.frames.Role.TheVariants.{Script, Worker}
use Rattle.zk_worker.specs.declared.frames.Stage.{Stage}
use Rattle.zk_worker.specs.declared.frames.Stage.TheVariants as stages
use Rattle.zk_worker.specs.declared.frames.TheConstants.{MOST_FRAMES}
use Rattle.zk_worker.specs.declared.steps.Step.{Step}
use Rattle.zk_worker.specs.declared.steps.Step.TheVariants as steps
use Rattle.zk_worker.specs.declared.steps.StepReply.{StepReply}
use Rattle.zk_worker.specs.declared.steps.StepReply.TheVariants as step_replies
use Rattle.zk_scenario.specs.Steps.{steps_of}
use Rattle.zk_worker.specs.Calls.{plan_of}
use Rattle.zk_worker.specs.Checks.{check_step, oops_in, top_check, next_check}
use Rattle.zk_worker.specs.Follows.{StepMade, IsPlayed, is_spent_at}
use Rattle.zk_worker.specs.Places.{PlayerPlace}
use Rattle.zk_worker.specs.Protocol.{IsAhead, attempts, checks_first, after, after_by, checked, moved, call_attempts, call_progress, role_attempts, role_progress, worker_attempts, worker_progress, run_progress, frames_attempts, frames_progress, frames_after, is_over, settled, entered, first_frame, role_at, spot_of, starting, start_at}
use Rattle.zk_worker.proofs.CheckedSteps.{IsCheck, IsOwn, check_at, one-or-other, check-of-top, check-starts}
use Rattle.zk_worker.proofs.Following.{played-more}
use Rattle.zk_player_laws.specs.AttemptLaws.{steps_at, begins_run, is_in_run, ComeToRole, ComeTo, AttemptsItsNext, AlwaysGoesOn, EachCallGoesOn}
use Rattle.zk_player_laws.specs.CheckLaws.{IsLed, is_user_behind}
use Rattle.zk_player_laws.specs.ScriptLaws.{HasNoneLeft, HasCallsLeft}
use Rattle.zk_player_laws.proofs.CallLogs.{all-fit}
use Rattle.zk_player_laws.proofs.CallsGoOn.{StandsAt, stands-first, comes-of, stage_of, stands-more}
use Rattle.zk_player_laws.proofs.CallsMade.{IsFit}
use Rattle.zk_player_laws.proofs.CallsPlayed.{worker-answers}
use Rattle.zk_player_laws.proofs.ScriptsPlayed.{settled-left, first-place}
use Rattle.zk_player_laws.proofs.UsersChecked.{TopChecks, Holds, mode-user, next-checked, check-script, checks-user, own-holds, passed-holds, no-more, starts-holding}

-- The steps made at a depth.

steps_at-more : (s : Content) (depth : ℕ) (at now : PlayerPlace) (made : List StepMade) (m : StepMade) → IsPlayed s at made now →
    steps_at s depth at (made ++ m ∷ []) ≡ steps_at s depth at made ++ cond (eqb (length now.frames) depth) (m ∷ []) []
steps_at-more s depth at now [] m led = ap (λ (a : PlayerPlace). cond (eqb (length a.frames) depth) (m ∷ []) []) led
steps_at-more s depth at now (x ∷ made) m led =
    by (eqb (length at.frames) depth) (steps_at s depth (after s at x.0 x.1) (made ++ m ∷ [])) (steps_at s depth (after s at x.0 x.1) made)
    (steps_at-more s depth (after s at x.0 x.1) now made m led.1)
  where
    by : (b : Bool) (longer rest : List StepMade) → longer ≡ rest ++ cond (eqb (length now.frames) depth) (m ∷ []) [] →
        cond b (x ∷ longer) longer ≡ cond b (x ∷ rest) rest ++ cond (eqb (length now.frames) depth) (m ∷ []) []
    by true longer rest same = ap (λ (l : List StepMade). x ∷ l) same
    by false longer rest same = same

-- a step at this depth is one of them, and one deeper isn't
steps-here : (s : Content) (depth : ℕ) (at now : PlayerPlace) (made : List StepMade) (m : StepMade) → IsPlayed s at made now → length now.frames ≡ depth →
    steps_at s depth at (made ++ m ∷ []) ≡ steps_at s depth at made ++ m ∷ []
steps-here s depth at now made m led same =
    steps_at-more s depth at now made m led ∙ ap (λ (b : Bool). steps_at s depth at made ++ cond b (m ∷ []) []) (let is : eqb (length now.frames) depth ≡ true = grind (arith, nat_tests) in is)

steps-deeper : (s : Content) (depth : ℕ) (at now : PlayerPlace) (made : List StepMade) (m : StepMade) → IsPlayed s at made now → depth < length now.frames →
    steps_at s depth at (made ++ m ∷ []) ≡ steps_at s depth at made
steps-deeper s depth at now made m led deeper =
    steps_at-more s depth at now made m led
    ∙ (ap (λ (b : Bool). steps_at s depth at made ++ cond b (m ∷ []) []) (let isnt : eqb (length now.frames) depth ≡ false = grind (arith, nat_tests) in isnt)
    ∙ append-nil (steps_at s depth at made))

in_run-last : (made : List StepMade) (m : StepMade) → is_in_run (made ++ m ∷ []) ≡ begins_run m
in_run-last [] m = refl
in_run-last (x ∷ []) m = refl
in_run-last (x ∷ y ∷ made) m = in_run-last (y ∷ made) m

-- What holds of what is open.

-- a script is where the steps that its call made have led it
record StandsIn (s : Content) (number : ℕ) (front : List StepMade) (now : PlayerPlace) (owner next depth : ℕ) (below : List Frame) (stage : Stage) : Type 0 where
  before : List StepMade
  since : List StepMade
  whole : front ≡ before ++ since
  at : PlayerPlace
  led : IsLed s number before at
  stood : at.frames ≡ record { role = Script owner; next = next; stage = stages.Start } ∷ below
  on : IsPlayed s at since now
  stands : (call : Call) → slice_get (calls_of s.scripts owner) next ≡ Some call → StandsAt (word_of call) (plan_of s.decls call) (steps_at s depth at since) stage

-- a worker is in a run, or between two
abbrev RunsAs : Stage → Bool → Type 0
RunsAs stages.Start runs = runs ≡ false
RunsAs stages.Runs runs = runs ≡ true
RunsAs stage runs = ⊥

abbrev RoleStands : Content → ℕ → PlayerPlace → List StepMade → PlayerPlace → ℕ → List Frame → Role → ℕ → Stage → Type 0
RoleStands s number start front now depth below (Worker queue) next stage = RunsAs stage (is_in_run (steps_at s depth start front))
RoleStands s number start front now depth below (Script owner) next stage = StandsIn s number front now owner next depth below stage

abbrev AllStand : Content → ℕ → PlayerPlace → List StepMade → PlayerPlace → List Frame → Type 0
AllStand s number start front now [] = Unit {0}
AllStand s number start front now (frame ∷ below) =
    RoleStands s number start front now (length (frame ∷ below)) below frame.role frame.next frame.stage × AllStand s number start front now below

-- where a call begins, so does what stands
fresh-stands : (s : Content) (number : ℕ) (front : List StepMade) (now : PlayerPlace) (owner next depth : ℕ) (below : List Frame) → IsLed s number front now →
    now.frames ≡ record { role = Script owner; next = next; stage = stages.Start } ∷ below → StandsIn s number front now owner next depth below stages.Start
fresh-stands s number front now owner next depth below led same = record {
  before = front;
  since = [];
  whole = sym (append-nil front);
  at = now;
  led = led;
  stood = same;
  on = refl;
  stands = λ call there. stands-first (word_of call) (plan_of s.decls call);
}

settled-stand : (s : Content) (number : ℕ) (start : PlayerPlace) (front : List StepMade) (now : PlayerPlace) (frames : List Frame) → AllStand s number start front now frames → AllStand s number start front now (settled s frames)
settled-stand s number start front now [] all = tt
settled-stand s number start front now (frame ∷ below) all = by (is_over s frame.role frame.next) (settled-stand s number start front now below all.1) where
  by : (b : Bool) → AllStand s number start front now (settled s below) → AllStand s number start front now (cond b (settled s below) (frame ∷ below))
  by true rest = rest
  by false rest = all

-- a script at the beginning of a call, on what stands
fresh-settled : (s : Content) (number : ℕ) (start : PlayerPlace) (front : List StepMade) (now : PlayerPlace) (owner next : ℕ) (below : List Frame) → IsLed s number front now →
    now.frames ≡ settled s (record { role = Script owner; next = next; stage = stages.Start } ∷ below) → AllStand s number start front now below →
    AllStand s number start front now (settled s (record { role = Script owner; next = next; stage = stages.Start } ∷ below))
fresh-settled s number start front now owner next below led same all = by (is_over s (Script owner) next) same (settled-stand s number start front now below all) where
  by : (b : Bool) → now.frames ≡ cond b (settled s below) (record { role = Script owner; next = next; stage = stages.Start } ∷ below) → AllStand s number start front now (settled s below) →
      AllStand s number start front now (cond b (settled s below) (record { role = Script owner; next = next; stage = stages.Start } ∷ below))
  by true same rest = rest
  by false same rest = (fresh-stands s number front now owner next (suc (length below)) below led same, all)

-- What a step leads to.

module _ (s : Content) (number : ℕ) (start : PlayerPlace) (front : List StepMade) (now : PlayerPlace) (m : StepMade) (led : IsPlayed s start front now) (ahead : IsAhead s now m.0) where
  abbrev longer : List StepMade
  longer = front ++ m ∷ []

  abbrev then : PlayerPlace
  then = after s now m.0 m.1

  -- a script more made a step
  on-more : (owner next depth : ℕ) (below : List Frame) (stage end : Stage) (was : StandsIn s number front now owner next depth below stage) →
      ((call : Call) → slice_get (calls_of s.scripts owner) next ≡ Some call → StandsAt (word_of call) (plan_of s.decls call) (steps_at s depth was.at (was.since ++ m ∷ [])) end) →
      StandsIn s number longer then owner next depth below end
  on-more owner next depth below stage end was stands = record {
    before = was.before;
    since = was.since ++ m ∷ [];
    whole = ap (λ (l : List StepMade). l ++ m ∷ []) was.whole ∙ append_assoc was.before was.since (m ∷ []);
    at = was.at;
    led = was.led;
    stood = was.stood;
    on = played-more s was.at was.since now m was.on ahead;
    stands = stands;
  }

  -- what is below the innermost stands as before
  still-stands : (depth : ℕ) (below : List Frame) (role : Role) (next : ℕ) (stage : Stage) → depth < length now.frames → RoleStands s number start front now depth below role next stage →
      RoleStands s number start longer then depth below role next stage
  still-stands depth below (Worker queue) next stage deeper was =
      subst (λ (l : List StepMade). RunsAs stage (is_in_run l)) (sym (steps-deeper s depth start now front m led deeper)) was
  still-stands depth below (Script owner) next stage deeper was =
      on-more owner next depth below stage stage was (λ call there.
      subst (λ (l : List StepMade). StandsAt (word_of call) (plan_of s.decls call) l stage) (sym (steps-deeper s depth was.at now was.since m was.on deeper)) (was.stands call there))

  all-still : (frames : List Frame) → length frames < length now.frames → AllStand s number start front now frames → AllStand s number start longer then frames
  all-still [] deeper all = tt
  all-still (frame ∷ below) deeper all =
      (still-stands (suc (length below)) below frame.role frame.next frame.stage deeper all.0, all-still below (omega (arith, deeper)) all.1)

  -- the innermost stands where its step led it
  worker-on : (decls : List Decl) (queue : ℕ) (stage end : Stage) (index : ℕ) → slice_get (worker_attempts queue stage) index ≡ Some m.0 → stage_of (worker_progress decls stage m.1) ≡ Some end →
      RunsAs end (begins_run m)
  worker-on decls queue stages.Start end index there comes =
      subst (λ (x : Step). RunsAs end (begins_run (x, m.1))) (slice_get-one (steps.Work (work_ops.Begin queue)) m.0 index there) (by m.1 comes)
    where
      run : (o : Option ℕ) → stage_of (run_progress o) ≡ Some stages.Runs
      run None = refl
      run (Some owner) = refl

      by : (reply : StepReply) → stage_of (worker_progress decls stages.Start reply) ≡ Some end → RunsAs end (begins_run (steps.Work (work_ops.Begin queue), reply))
      by (step_replies.Work (work_replies.Run item admission) place) comes =
          subst (λ (t : Stage). RunsAs t true) (same_Some stages.Runs end (sym (run (slice_get (places is_item decls) item)) ∙ comes)) refl
      by reply comes = subst (λ (t : Stage). RunsAs t false) (same_Some stages.Start end comes) refl
  worker-on decls queue stages.Runs end index there comes =
      subst (λ (x : Step). RunsAs end (begins_run (x, m.1))) (slice_get-one (steps.Work (work_ops.End queue)) m.0 index there)
      (subst (λ (t : Stage). RunsAs t false) (same_Some stages.Start end comes) refl)
  worker-on decls queue stage end index there comes = absurd (cc)

  top-on : (depth : ℕ) (below : List Frame) (role : Role) (next : ℕ) (stage end : Stage) (index : ℕ) → length now.frames ≡ depth → RoleStands s number start front now depth below role next stage →
      slice_get (role_attempts s role next stage) index ≡ Some m.0 → IsFit m → stage_of (role_progress s role next stage m.0 m.1) ≡ Some end → RoleStands s number start longer then depth below role next end
  top-on depth below (Worker queue) next stage end index deep was there fit comes =
      subst (λ (b : Bool). RunsAs end b) (sym (ap is_in_run (steps-here s depth start now front m led deep) ∙ in_run-last (steps_at s depth start front) m))
      (worker-on s.decls (number_of s.decls queue) stage end index there comes)
  top-on depth below (Script owner) next stage end index deep was there fit comes =
      on-more owner next depth below stage end was (λ call is.
      subst (λ (l : List StepMade). StandsAt (word_of call) (plan_of s.decls call) l end) (sym (steps-here s depth was.at now was.since m was.on deep))
      (stands-more (word_of call) (plan_of s.decls call) (steps_at s depth was.at was.since) stage index m end (was.stands call is)
      (ap (λ (o : Option Call). slice_get (call_attempts s.decls o stage) index) (sym is) ∙ there) fit
      (ap (λ (o : Option Call). stage_of (call_progress s.decls o stage m.0 m.1)) (sym is) ∙ comes)))

  -- what stands after a step of the innermost
  step-stands : (frames : List Frame) (index : ℕ) → now.frames ≡ frames → IsLed s number longer then → then.frames ≡ frames_after s frames (frames_progress s frames m.0 m.1) →
      slice_get (frames_attempts s frames) index ≡ Some m.0 → IsFit m → AllStand s number start front now frames → AllStand s number start longer then (frames_after s frames (frames_progress s frames m.0 m.1))
  step-stands [] index here leads same there fit all = tt
  step-stands (frame ∷ below) index here leads same there fit all = by (role_progress s frame.role frame.next frame.stage m.0 m.1) refl same where
    deep : length now.frames ≡ suc (length below)
    deep = ap (λ (l : List Frame). length l) here

    rest : AllStand s number start longer then below
    rest = all-still below (omega (arith, deep)) all.1

    top : (end : Stage) → stage_of (role_progress s frame.role frame.next frame.stage m.0 m.1) ≡ Some end → AllStand s number start longer then (record frame { stage = end } ∷ below)
    top end comes = (top-on (suc (length below)) below frame.role frame.next frame.stage end index deep all.0 there fit comes, rest)

    answered : (role : Role) (next : ℕ) → ((queue : ℕ) → role ≡ Worker queue → ⊥) → then.frames ≡ settled s (record { role = role; next = next; stage = stages.Start } ∷ below) →
        AllStand s number start longer then (settled s (record { role = role; next = next; stage = stages.Start } ∷ below))
    answered (Worker queue) next script same = absurd (script queue refl)
    answered (Script owner) next script same = fresh-settled s number start longer then owner next below leads same rest

    by : (p : Progress) → role_progress s frame.role frame.next frame.stage m.0 m.1 ≡ p → then.frames ≡ frames_after s (frame ∷ below) p → AllStand s number start longer then (frames_after s (frame ∷ below) p)
    by (Goes end) is same = top end (ap stage_of is)
    by (Answers word answer) is same = answered frame.role (frame.next + 1) (λ queue role.
        worker-answers s.decls frame.stage m.1 word answer (ap (λ (r : Role). role_progress s r frame.next frame.stage m.0 m.1) (sym role) ∙ is)) same
    by (Enters owner end) is same = room (nat_lt (length (record frame { stage = end } ∷ below)) MOST_FRAMES) same where
      room : (b : Bool) → then.frames ≡ settled s (cond b (first_frame (Script owner) ∷ record frame { stage = end } ∷ below) (record frame { stage = end } ∷ below)) →
          AllStand s number start longer then (settled s (cond b (first_frame (Script owner) ∷ record frame { stage = end } ∷ below) (record frame { stage = end } ∷ below)))
      room true same = fresh-settled s number start longer then owner 0 (record frame { stage = end } ∷ below) leads same (top end (ap stage_of is))
      room false same = settled-stand s number start longer then (record frame { stage = end } ∷ below) (top end (ap stage_of is))

  -- what stands after a check that is passed
  check-stands : (frames : List Frame) (check : Check) → now.frames ≡ frames → IsLed s number longer then → then.frames ≡ frames → top_check s now.passed frames ≡ Some check →
      AllStand s number start front now frames → AllStand s number start longer then frames
  check-stands [] check here leads same is all = tt
  check-stands (frame ∷ below) check here leads same is all = (
    by frame.role frame.stage (check-script s now.passed frame.role frame.next frame.stage check is).1 (check-starts s now.passed frame.role frame.next frame.stage check is) same,
    all-still below (omega (arith, (ap (λ (l : List Frame). length l) here))) all.1,
  )
    where
      by : (role : Role) (stage : Stage) → role ≡ Script (check-script s now.passed frame.role frame.next frame.stage check is).0 → stage ≡ stages.Start →
          then.frames ≡ record { role = role; next = frame.next; stage = stage } ∷ below → RoleStands s number start longer then (suc (length below)) below role frame.next stage
      by (Script owner) stages.Start role begins same = fresh-stands s number longer then owner frame.next (suc (length below)) below leads same
      by (Script owner) stage role begins same = absurd (cc)
      by (Worker queue) stage role begins same = absurd (cc)

-- What is attempted.

next-of-worker : (queue : ℕ) (stage : Stage) (runs : Bool) → RunsAs stage runs →
    (runs ≡ false → worker_attempts queue stage ≡ steps.Work (work_ops.Begin queue) ∷ []) × (runs ≡ true → worker_attempts queue stage ≡ steps.Work (work_ops.End queue) ∷ [])
next-of-worker queue stages.Start runs is = (λ between. refl, λ within. absurd (let never = sym is ∙ within in cc))
next-of-worker queue stages.Runs runs is = (λ between. absurd (let never = sym is ∙ between in cc), λ within. refl)
next-of-worker queue stage runs is = absurd is

module _ (s : Content) (number : ℕ) (start : PlayerPlace) (front : List StepMade) (now : PlayerPlace) where
  -- of the innermost, where no check comes
  own-next : (depth : ℕ) (below : List Frame) (role : Role) (next : ℕ) (stage : Stage) → (HasNoneLeft s role next → ⊥) → RoleStands s number start front now depth below role next stage →
      ComeToRole s number start front role next below depth (role_attempts s role next stage)
  own-next depth below (Worker queue) next stage left was = next-of-worker (number_of s.decls queue) stage (is_in_run (steps_at s depth start front)) was
  own-next depth below (Script owner) next stage left was = by (slice_get (calls_of s.scripts owner) next) refl where
    by : (o : Option Call) → slice_get (calls_of s.scripts owner) next ≡ o → ComeToRole s number start front (Script owner) next below depth (call_attempts s.decls o stage)
    by None none = absurd (left none)
    by (Some call) there = inr (record {
      before = was.before;
      since = was.since;
      whole = was.whole;
      of = call;
      begins = record { at = was.at; led = was.led; is_call = there; stood = was.stood };
      come = comes-of (word_of call) (plan_of s.decls call) (steps_at s depth was.at was.since) stage (was.stands call there);
    })

  own-frames : (frames : List Frame) → HasCallsLeft s frames → AllStand s number start front now frames → ComeTo s number start front frames (frames_attempts s frames)
  own-frames [] left all = refl
  own-frames (frame ∷ below) left all = own-next (suc (length below)) below frame.role frame.next frame.stage left all.0

  -- where a check comes
  check-frames : (frames : List Frame) (check : Check) → is_user_behind s number front ≡ true → top_check s now.passed frames ≡ Some check → TopChecks s number front now frames →
      ComeTo s number start front frames (check_step check ∷ [])
  check-frames [] check user is top = absurd (cc)
  check-frames (frame ∷ below) check user is top =
      let script = check-script s now.passed frame.role frame.next frame.stage check is in
      subst (λ (r : Role). ComeToRole s number start front r frame.next below (suc (length below)) (check_step check ∷ [])) (sym script.1)
      (inl (check_step check, refl, λ reply. (next-checked s number front now frame below check (check_step check, reply) user is refl top script.0 script.1).0))

  -- of a player that no check has ended
  attempts-next : Holds s number front now → HasCallsLeft s now.frames → AllStand s number start front now now.frames → AttemptsItsNext s number start front now
  attempts-next holds left all = record {
    next = own;
    comes = by (check_at s now) refl;
    goes_on = λ isnt. ap (λ (b : Bool). cond b own []) (unspent isnt);
    spent = λ is. ap (λ (b : Bool). cond b own []) (spent-none is);
  } where
    own : List Step
    own = checks_first (check_at s now) (frames_attempts s now.frames)

    spent-none : is_spent_at s now ≡ true → nat_lt (length now.spots) (steps_of s) ≡ false
    spent-none is = le-ltb (length now.spots) (steps_of s) (leb-true (steps_of s) (length now.spots) is)

    unspent : is_spent_at s now ≡ false → nat_lt (length now.spots) (steps_of s) ≡ true
    unspent is = lt-ltb (length now.spots) (steps_of s) (leb-false (steps_of s) (length now.spots) is)

    by : (o : Option Check) → check_at s now ≡ o → ComeTo s number start front now.frames (checks_first o (frames_attempts s now.frames))
    by None none = own-frames now.frames left all
    by (Some check) is =
        check-frames now.frames check (mode-user (is_user_behind s number front) now.mode holds.mode (checks-user s now.mode now.passed now.frames check is))
        (check-of-top s now.mode now.passed now.frames check is) holds.top

-- no steps
abbrev no_steps : List Step
no_steps = []

-- who has ended attempts nothing
ended-next : (s : Content) (number : ℕ) (start : PlayerPlace) (front : List StepMade) (now : PlayerPlace) → now.frames ≡ [] → now.mode ≡ Dead → AttemptsItsNext s number start front now
ended-next s number start front now none dead =
    let nothing : attempts s now ≡ [] = ap (λ (c : Option Check). cond (nat_lt (length now.spots) (steps_of s)) (checks_first c (frames_attempts s now.frames)) []) (ap (λ (mode : Mode). next_check s mode now.passed now.frames) dead)
    ∙ ap (λ (l : List Frame). cond (nat_lt (length now.spots) (steps_of s)) (frames_attempts s l) []) none ∙ either (nat_lt (length now.spots) (steps_of s)) in
    record { next = no_steps; comes = subst (λ (l : List Frame). ComeTo s number start front l no_steps) (sym none) refl; goes_on = λ isnt. nothing; spent = λ is. nothing }
  where
    either : (b : Bool) → cond b no_steps no_steps ≡ no_steps
    either true = refl
    either false = refl

-- Each player.

-- what is left behind a step has calls left
left-more : (s : Content) (frames : List Frame) (progress : Progress) → HasCallsLeft s frames → HasCallsLeft s (frames_after s frames progress)
left-more s [] progress left = tt
left-more s (frame ∷ below) (Goes stage) left = left
left-more s (frame ∷ below) (Answers word answer) left = (settled-left s (record frame { next = frame.next + 1; stage = stages.Start } ∷ below)).stands
left-more s (frame ∷ below) (Enters owner stage) left = (settled-left s (entered (record frame { stage = stage } ∷ below) owner)).stands

-- what goes on where that holds behind the next step
abbrev Further : Content → ℕ → PlayerPlace → PlayerPlace → List StepMade → StepMade → List StepMade → Type 0
Further s number start now front m more = Holds s number (front ++ m ∷ []) (after s now m.0 m.1) → HasCallsLeft s (after s now m.0 m.1).frames →
    AllStand s number start (front ++ m ∷ []) (after s now m.0 m.1) (after s now m.0 m.1).frames → AlwaysGoesOn s number start (front ++ m ∷ []) (after s now m.0 m.1) more

always-goes-on : (s : Content) (number : ℕ) (start now end : PlayerPlace) (front made : List StepMade) → All IsFit made → Holds s number front now → HasCallsLeft s now.frames → AllStand s number start front now now.frames →
    IsPlayed s start front now → IsPlayed s now made end → AlwaysGoesOn s number start front now made
always-goes-on s number start now end front [] fit holds left all led played = attempts-next s number start front now holds left all
always-goes-on s number start now end front (m ∷ more) fit holds left all led played = (
  attempts-next s number start front now holds left all,
  by (λ next left all.
      always-goes-on s number start (after s now m.0 m.1) end (front ++ m ∷ []) more (All-tail IsFit m more fit) next left all (played-more s start front now m led played.0) played.1)
      (one-or-other s now m.0 played.0),
)
  where
    by_why : Further s number start now front m more → (is : IsCheck s now m.0) (why : Option OopsWhy) → oops_in m.1 ≡ why → AlwaysGoesOn s number start (front ++ m ∷ []) (after s now m.0 m.1) more
    by_why goes is None none =
        let same : after s now m.0 m.1 ≡ checked now is.check.word None (spot_of m.0 m.1) =
        ap (after_by s now m.0 m.1) is.comes ∙ ap (λ (w : Option OopsWhy). checked now is.check.word w (spot_of m.0 m.1)) none in
        let frames : (after s now m.0 m.1).frames ≡ now.frames = ap (λ (a : PlayerPlace). a.frames) same in
        let next = passed-holds s number front m now holds played.0 is none in
        goes next (subst (HasCallsLeft s) (sym frames) left)
        (subst (AllStand s number start (front ++ m ∷ []) (after s now m.0 m.1)) (sym frames)
        (check-stands s number start front now m led played.0 now.frames is.check refl next.led frames (check-of-top s now.mode now.passed now.frames is.check is.comes) all))
    by_why goes is (Some why) failed =
        let same : after s now m.0 m.1 ≡ checked now is.check.word (Some why) (spot_of m.0 m.1) =
        ap (after_by s now m.0 m.1) is.comes ∙ ap (λ (w : Option OopsWhy). checked now is.check.word w (spot_of m.0 m.1)) failed in
        let none = ap (λ (a : PlayerPlace). a.frames) same in
        let dead = ap (λ (a : PlayerPlace). a.mode) same in
        subst (AlwaysGoesOn s number start (front ++ m ∷ []) (after s now m.0 m.1)) (sym (no-more s (after s now m.0 m.1) end more none dead played.1).0)
        (ended-next s number start (front ++ m ∷ []) (after s now m.0 m.1) none dead)

    by : Further s number start now front m more → IsCheck s now m.0 ⊎ IsOwn s now m.0 → AlwaysGoesOn s number start (front ++ m ∷ []) (after s now m.0 m.1) more
    by goes (inl is) = by_why goes is (oops_in m.1) refl
    by goes (inr is) =
        let same : after s now m.0 m.1 ≡ moved s now m.0 (frames_progress s now.frames m.0 m.1) (spot_of m.0 m.1) = ap (after_by s now m.0 m.1) is.none in
        let frames : (after s now m.0 m.1).frames ≡ frames_after s now.frames (frames_progress s now.frames m.0 m.1) = ap (λ (a : PlayerPlace). a.frames) same in
        let next = (own-holds s number front m now holds played.0 is).1 in
        goes next (subst (HasCallsLeft s) (sym frames) (left-more s now.frames (frames_progress s now.frames m.0 m.1) left))
        (subst (AllStand s number start (front ++ m ∷ []) (after s now m.0 m.1)) (sym frames)
        (step-stands s number start front now m led played.0 now.frames is.index refl next.led frames is.ahead (All-head IsFit m more fit) all))

first-stands : (s : Content) (number : ℕ) (at : PlayerPlace) → start_at s number ≡ Some at → AllStand s number at [] at at.frames
first-stands s number at is =
    let inner : ℕ → Option PlayerPlace = λ object. option_map (starting s number object) (slice_get s.decls object) in
    option_and_then_some inner (slice_get (players s.decls) number) at is (λ object found made. by_decl object (slice_get s.decls object) made)
  where
    by_role : (first : PlayerPlace) (role : Role) → IsLed s number [] first → first.frames ≡ settled s (first_frame role ∷ []) → AllStand s number first [] first (settled s (first_frame role ∷ []))
    by_role first (Script owner) led same = fresh-settled s number first [] first owner 0 [] led same tt
    by_role first (Worker queue) led same = (refl, tt)

    by_decl : (object : ℕ) (decl : Option Decl) → option_map (starting s number object) decl ≡ Some at → AllStand s number at [] at at.frames
    by_decl object None made = absurd (cc)
    by_decl object (Some decl) made =
        let same : starting s number object decl ≡ at = same_Some (starting s number object decl) at made in
        subst (λ (a : PlayerPlace). AllStand s number a [] a a.frames) same (by_role (starting s number object decl) (role_at decl object) (at, is, sym same) refl)

-- at each moment each player attempts what comes next
pub each_call_goes_on : EachCallGoesOn
each_call_goes_on s number shown at is timed =
    always-goes-on s number is.start is.start at [] is.made (all-fit shown timed at.spots is.made is.stands) (starts-holding s number is.start is.starts).0
    (first-place s number is.start is.starts).left.stands (first-stands s number is.start is.starts) refl is.played
