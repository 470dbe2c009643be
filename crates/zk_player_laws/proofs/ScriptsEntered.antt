-- A player enters each script that it is to enter: it has never more open than there may be.
use Rattle.std.proofs.Common.{◌≡◌, ◌⊎◌, inl, inr, ℕ, zero, suc, ◌+◌, ◌<◌, ◌≤◌, Bool, true, false, eqb, cond, nat_lt, ◌||◌, Option, Some, None, is_some, option_to_list, List, [], ◌∷◌, ◌++◌, map, length, length-append, All, refl, sym, ap, subst, ◌∙◌, arith}
use Rattle.std.specs.Cmp.{IsEquivalence}
use Rattle.std.specs.List.{slice_get, list_any, IsDistinct}
use Rattle.std.specs.Option.{option_map, option_and_then}
use Rattle.std.proofs.lemmas.Bool.Decides.{nat_tests}
use Rattle.std.proofs.lemmas.Option.{option_and_then_some, slice_get_past, same_Some}
use Rattle.std.proofs.lemmas.Map.Made.{length-le_from_is_member}
use Rattle.std.proofs.lemmas.List.Elements.{All-nil, All-cons, All-head, All-tail}
use Rattle.zk_base.specs.declared.ids.Who.{Who}
use Rattle.zk_base.specs.Legal.{state_after}
use Rattle.zk_base.proofs.WaitsOnce.{eqb-same}
use Rattle.zk_line.proofs.Tables.{length-places}
use Rattle.zk_line.specs.Objects.{places, places_from, is_chan}
use Rattle.zk_line.specs.declared.types.Decl.TheVariants as decls
use Rattle.zk_model_bus.specs.Channel.{Channel, chan_machine}
use Rattle.zk_line.specs.Calls.{word_of}
use Rattle.zk_line.specs.declared.types.Call.{Call}
use Rattle.zk_line.specs.declared.types.Decl.{Decl}
use Rattle.zk_scenario.specs.Content.{Content}
use Rattle.zk_scenario.specs.Players.{players, calls_of}
use Rattle.zk_scenario.specs.Valid.{IsValid}
use Rattle.zk_words.specs.declared.word.Word.{Word}
use Rattle.zk_model_work.specs.declared.ops.WorkReply.TheVariants as work_replies
use Rattle.zk_worker.specs.Follows.{StepMade}
use Rattle.zk_worker.specs.declared.answers.Answer.{Answer}
use Rattle.zk_worker.specs.declared.steps.Step.{Step}
use Rattle.zk_worker.specs.declared.steps.StepReply.{StepReply}
use Rattle.zk_worker.specs.declared.steps.StepReply.TheVariants as step_replies
use Rattle.zk_worker.specs.declared.frames.TheConstants.{MOST_FRAMES}
use Rattle.zk_worker.specs.declared.frames.Frame.{Frame}
use Rattle.zk_worker.specs.declared.frames.Plan.{Plan}
use Rattle.zk_worker.specs.declared.frames.Plan.TheVariants as plans
use Rattle.zk_worker.specs.declared.frames.Role.{Role}
use Rattle.zk_worker.specs.declared.frames.Role.TheVariants.{Script, Worker}
use Rattle.zk_worker.specs.declared.frames.Stage.{Stage}
use Rattle.zk_worker.specs.declared.frames.Stage.TheVariants as stages
use Rattle.zk_worker.specs.declared.frames.Progress.{Progress}
use Rattle.zk_worker.specs.declared.frames.Progress.TheVariants.{Goes, Answers, Enters}
use Rattle.zk_worker.specs.Calls.{plan_of, plan_attempts, plan_progress}
use Rattle.zk_worker.specs.Publishes.{channel_progress}
use Rattle.zk_worker.specs.Families.{start_of}
use Rattle.zk_worker.specs.Machines.{machines_of, chan_start}
use Rattle.zk_worker.specs.Places.{PlayerPlace}
use Rattle.zk_worker.specs.Protocol.{call_attempts, call_progress, role_attempts, role_progress, worker_progress, run_progress, frames_attempts, frames_progress, is_over, settled, entered, first_frame, frames_after, after, role_at, starting, start_at}
use Rattle.zk_player_laws.specs.StackLaws.{ChanHistories, IsReplied, chans_after, IsPlayedAmong, HasRoomFor, AlwaysHasRoom, EachScriptIsEntered}
use Rattle.zk_model_bus.specs.declared.table.OopsWhy.{OopsWhy}
use Rattle.zk_worker.specs.Checks.{oops_in}
use Rattle.zk_worker.specs.Protocol.{IsAhead, checked, spot_of}
use Rattle.zk_worker.proofs.CheckedSteps.{IsCheck, turn, after-spots}
use Rattle.zk_player_laws.proofs.HeldCalls.{channel-kept}
use Rattle.zk_player_laws.proofs.OpenScripts.{plan_got, plan_waits, of_call, frame_got, frame_waits, got, is_worker, AreLayered, IsHeld, HoldsAll, IsKept, IsKeptBy, AreKept, kept-among, length-one, layered-length}
use Rattle.zk_player_laws.proofs.OwnEntries.{or-behind}
use Rattle.zk_player_laws.proofs.OtherCalls.{is_channel, EntersNone, plan-plain, channel-plain, other-kept}

-- A script that is over holds nothing, and none below the innermost waits.

over-none : {A : Type 0} (known : Plan → Stage → Option A) (s : Content) (role : Role) (next : ℕ) (stage : Stage) → is_over s role next ≡ true → of_call known s role next stage ≡ None
over-none known s (Script owner) next stage over =
    ap (option_and_then (λ (call : Call). known (plan_of s.decls call) stage))
    (slice_get_past (calls_of s.scripts owner) next (let past : length (calls_of s.scripts owner) ≤ next = grind (arith, nat_tests) in past))
over-none known s (Worker queue) next stage over = absurd (cc)

layered-tail : (s : Content) (frame : Frame) (below : List Frame) → AreLayered s (frame ∷ below) → AreLayered s below
layered-tail s frame [] layers = tt
layered-tail s frame (next ∷ below) layers = by_side layers.1
  where
    by_side : ((is_worker next.role ≡ true) × (below ≡ [])) ⊎ ((is_some (frame_got s next) ≡ true) × AreLayered s (next ∷ below)) → AreLayered s (next ∷ below)
    by_side (inl run) = subst (λ (l : List Frame). AreLayered s (next ∷ l)) (sym run.1) tt
    by_side (inr more) = more.1

-- another frame of the same role on the same scripts
layered-top : (s : Content) (frame frame' : Frame) (below : List Frame) → frame'.role ≡ frame.role → AreLayered s (frame ∷ below) → AreLayered s (frame' ∷ below)
layered-top s frame frame' [] same layers = tt
layered-top s frame frame' (next ∷ below) same layers = (ap is_worker same ∙ layers.0, layers.1)

-- the script waits for no channel
abbrev WaitsForNone : Content → Frame → Type 0
WaitsForNone s frame = frame_waits s frame ≡ None

plan-waitless : (plan : Plan) (stage : Stage) → is_some (plan_got plan stage) ≡ true → plan_waits plan stage ≡ None
plan-waitless (plans.Channel chan using_ timeout) stages.Holds is = refl
plan-waitless (plans.Channel chan using_ timeout) (stages.Visits left full) is = refl
plan-waitless (plans.Channel chan using_ timeout) (stages.Reads message) is = refl
plan-waitless plan stage is = absurd (cc)

call-waitless : (decls : List Decl) (call : Option Call) (stage : Stage) → is_some (option_and_then (λ (call : Call). plan_got (plan_of decls call) stage) call) ≡ true →
    option_and_then (λ (call : Call). plan_waits (plan_of decls call) stage) call ≡ None
call-waitless decls None stage is = absurd (cc)
call-waitless decls (Some call) stage is = plan-waitless (plan_of decls call) stage is

role-waitless : (s : Content) (role : Role) (next : ℕ) (stage : Stage) → is_some (of_call plan_got s role next stage) ≡ true → of_call plan_waits s role next stage ≡ None
role-waitless s (Script owner) next stage is = call-waitless s.decls (slice_get (calls_of s.scripts owner) next) stage is
role-waitless s (Worker queue) next stage is = refl

worker-waitless : (s : Content) (role : Role) (next : ℕ) (stage : Stage) → is_worker role ≡ true → of_call plan_waits s role next stage ≡ None
worker-waitless s (Script owner) next stage is = absurd (cc)
worker-waitless s (Worker queue) next stage is = refl

below-waitless : (s : Content) (frame : Frame) (below : List Frame) → AreLayered s (frame ∷ below) → All (WaitsForNone s) below
below-waitless s frame [] layers = All-nil (WaitsForNone s)
below-waitless s frame (next ∷ below) layers = by_side (λ more. below-waitless s next below more) layers.1
  where
    by_side : (AreLayered s (next ∷ below) → All (WaitsForNone s) below) →
        ((is_worker next.role ≡ true) × (below ≡ [])) ⊎ ((is_some (frame_got s next) ≡ true) × AreLayered s (next ∷ below)) → All (WaitsForNone s) (next ∷ below)
    by_side rest (inl run) =
        subst (λ (l : List Frame). All (WaitsForNone s) (next ∷ l)) (sym run.1)
        (All-cons (WaitsForNone s) next [] (worker-waitless s next.role next.next next.stage run.0) (All-nil (WaitsForNone s)))
    by_side rest (inr more) = All-cons (WaitsForNone s) next below (role-waitless s next.role next.next next.stage more.0) (rest more.1)

-- a call at its start holds nothing and waits for nothing
plan-start : (plan : Plan) → (plan_got plan stages.Start ≡ None) × (plan_waits plan stages.Start ≡ None)
plan-start (plans.Channel chan using_ timeout) = (refl, refl)
plan-start plan = (refl, refl)

call-start : (decls : List Decl) (call : Option Call) → (option_and_then (λ (call : Call). plan_got (plan_of decls call) stages.Start) call ≡ None)
    × (option_and_then (λ (call : Call). plan_waits (plan_of decls call) stages.Start) call ≡ None)
call-start decls None = (refl, refl)
call-start decls (Some call) = plan-start (plan_of decls call)

role-start : (s : Content) (role : Role) (next : ℕ) → (of_call plan_got s role next stages.Start ≡ None) × (of_call plan_waits s role next stages.Start ≡ None)
role-start s (Script owner) next = call-start s.decls (slice_get (calls_of s.scripts owner) next)
role-start s (Worker queue) next = (refl, refl)

-- What is kept of the open scripts after a step.

module _ (s : Content) (chans : ChanHistories) (number : ℕ) where
  -- the scripts that are left where those that are over are taken off
  settled-kept : (frames : List Frame) → AreLayered s frames → IsDistinct eqb (got s frames) → HoldsAll s chans number (got s frames) → All (WaitsForNone s) frames →
      AreKept s chans number (settled s frames)
  settled-kept [] layers apart held none = tt
  settled-kept (frame ∷ below) layers apart held none =
      by_test (is_over s frame.role frame.next) refl
      (λ over. (
      let same : got s (frame ∷ below) ≡ got s below = ap (λ (o : Option ℕ). option_to_list o ++ got s below) (over-none plan_got s frame.role frame.next frame.stage over) in
      settled-kept below (layered-tail s frame below layers) (subst (λ (l : List ℕ). IsDistinct eqb l) same apart)
      (λ chan among. held chan (ap (list_any (eqb chan)) same ∙ among)) (All-tail (WaitsForNone s) frame below none)))
    where
      by_test : (b : Bool) → is_over s frame.role frame.next ≡ b → (is_over s frame.role frame.next ≡ true → AreKept s chans number (settled s below)) →
          AreKept s chans number (cond b (settled s below) (frame ∷ below))
      by_test true over rest = rest over
      by_test false over rest = (
        layers,
        record {
          apart = apart;
          held = held;
          awaited = λ wait waits. absurd (let nothing = All-head (WaitsForNone s) frame below none in cc);
        },
      )

  -- an answered call holds nothing any more
  answered-kept : (frame : Frame) (below : List Frame) (word : Word) (answer : Answer) → AreLayered s (frame ∷ below) → IsKept s chans number (got s below) None None →
      AreKept s chans number (frames_after s (frame ∷ below) (Answers word answer))
  answered-kept frame below word answer layers was =
      let next = record frame { next = frame.next + 1; stage = stages.Start } in
      let none = role-start s frame.role (frame.next + 1) in
      let same : got s (next ∷ below) ≡ got s below = ap (λ (o : Option ℕ). option_to_list o ++ got s below) none.0 in
      settled-kept (next ∷ below) (layered-top s frame next below refl layers)
      (subst (λ (l : List ℕ). IsDistinct eqb l) (sym same) was.apart)
      (λ chan among. was.held chan (ap (list_any (eqb chan)) (sym same) ∙ among))
      (All-cons (WaitsForNone s) next below none.1 (below-waitless s frame below layers))

  -- a script that is entered stands on one that holds its channel, or on the run of a worker
  entered-kept : (frame : Frame) (below : List Frame) (owner : ℕ) → AreLayered s (frame ∷ below) → IsKept s chans number (got s below) (frame_got s frame) None →
      ((is_worker frame.role ≡ true) × (below ≡ [])) ⊎ (is_some (frame_got s frame) ≡ true) → frame_waits s frame ≡ None →
      AreKept s chans number (settled s (entered (frame ∷ below) owner))
  entered-kept frame below owner layers was stands none =
      elim (nat_lt (length (frame ∷ below)) MOST_FRAMES) as (λ b. AreKept s chans number (settled s (cond b (first_frame (Script owner) ∷ frame ∷ below) (frame ∷ below)))) [
        | true ↦ settled-kept (first_frame (Script owner) ∷ frame ∷ below) (refl, on_top stands)
            (subst (λ (l : List ℕ). IsDistinct eqb l) (sym same) was.apart)
            (λ chan among. was.held chan (ap (list_any (eqb chan)) (sym same) ∙ among))
            (All-cons (WaitsForNone s) (first_frame (Script owner)) (frame ∷ below) (role-start s (Script owner) 0).1 waitless)
        | false ↦ settled-kept (frame ∷ below) layers was.apart was.held waitless
      ]
    where
      waitless : All (WaitsForNone s) (frame ∷ below)
      waitless = All-cons (WaitsForNone s) frame below none (below-waitless s frame below layers)

      same : got s (first_frame (Script owner) ∷ frame ∷ below) ≡ got s (frame ∷ below)
      same = ap (λ (o : Option ℕ). option_to_list o ++ got s (frame ∷ below)) (role-start s (Script owner) 0).0

      on_top : ((is_worker frame.role ≡ true) × (below ≡ [])) ⊎ (is_some (frame_got s frame) ≡ true) →
          ((is_worker frame.role ≡ true) × (below ≡ [])) ⊎ ((is_some (frame_got s frame) ≡ true) × AreLayered s (frame ∷ below))
      on_top (inl run) = inl run
      on_top (inr holds) = inr (holds, layers)

  -- after the progress of a script's call
  progress-kept : (frame : Frame) (below : List Frame) (progress : Progress) → AreLayered s (frame ∷ below) →
      IsKeptBy s chans number (got s below) (of_call plan_got s frame.role frame.next) (of_call plan_waits s frame.role frame.next) progress →
      AreKept s chans number (frames_after s (frame ∷ below) progress)
  progress-kept frame below (Goes stage) layers was = (layered-top s frame (record frame { stage = stage }) below refl layers, was)
  progress-kept frame below (Answers word answer) layers was = answered-kept frame below word answer layers was
  progress-kept frame below (Enters owner stage) layers was =
      entered-kept (record frame { stage = stage }) below owner (layered-top s frame (record frame { stage = stage }) below refl layers) was.0 (inr was.1)
      (role-waitless s frame.role frame.next stage was.1)

  nothing-kept : IsKept s chans number [] None None
  unfolding IsDistinct
  nothing-kept = record { apart = tt; held = λ chan among. absurd (cc); awaited = λ wait is. absurd (cc) }

  -- a worker holds nothing, and is alone where it makes a step
  worker-kept : (queue next : ℕ) (stage : Stage) (progress : Progress) →
      ((word : Word) (answer : Answer) → progress ≡ Answers word answer → ⊥) →
      AreKept s chans number (frames_after s (record { role = Worker queue; next = next; stage = stage } ∷ []) progress)
  worker-kept queue next stage (Goes stage') never = (tt, nothing-kept)
  worker-kept queue next stage (Answers word answer) never = absurd (never word answer refl)
  worker-kept queue next stage (Enters owner stage') never =
      entered-kept (record { role = Worker queue; next = next; stage = stage' }) [] owner tt nothing-kept (inl (refl, refl)) refl

run-never : (owner : Option ℕ) (word : Word) (answer : Answer) → run_progress owner ≡ Answers word answer → ⊥
run-never None word answer is = cc
run-never (Some owner) word answer is = cc

pub worker-never : (decls : List Decl) (stage : Stage) (reply : StepReply) (word : Word) (answer : Answer) → worker_progress decls stage reply ≡ Answers word answer → ⊥
worker-never decls stages.Start (step_replies.Work (work_replies.Run item admission) place) word answer is = run-never _ word answer is
worker-never decls stage reply word answer is = cc

module _ (s : Content) (chans : ChanHistories) (who : Who) (n : ℕ) where
  -- a step of a script's call
  plan-kept : (below : List ℕ) (call : Call) (word : Word) (stage : Stage) (k : ℕ) (step : Step) (reply : StepReply) (plan : Plan) → plan_of s.decls call ≡ plan →
      slice_get (plan_attempts (plan_of s.decls call) stage) k ≡ Some step →
      IsKept s chans who.number below (plan_got (plan_of s.decls call) stage) (plan_waits (plan_of s.decls call) stage) → IsReplied s chans who step reply →
      IsKeptBy s (chans_after chans who n step reply) who.number below (plan_got (plan_of s.decls call)) (plan_waits (plan_of s.decls call))
      (plan_progress word (plan_of s.decls call) stage step reply)
  plan-kept below call word stage k step reply (plans.Channel chan using_ timeout) is there was replied =
      subst (λ (p : Plan). slice_get (plan_attempts p stage) k ≡ Some step → IsKept s chans who.number below (plan_got p stage) (plan_waits p stage) →
      IsKeptBy s (chans_after chans who n step reply) who.number below (plan_got p) (plan_waits p) (plan_progress word p stage step reply)) (sym is)
      (λ at kept. channel-kept s chans who n below chan using_ timeout word stage k step reply at kept replied) there was
  plan-kept below call word stage k step reply plan is there was replied =
      other-kept s chans who n below call word stage k step reply (ap is_channel is) there was replied

  call-kept : (below : List ℕ) (call : Option Call) (stage : Stage) (k : ℕ) (step : Step) (reply : StepReply) → slice_get (call_attempts s.decls call stage) k ≡ Some step →
      IsKept s chans who.number below (option_and_then (λ (call : Call). plan_got (plan_of s.decls call) stage) call)
      (option_and_then (λ (call : Call). plan_waits (plan_of s.decls call) stage) call) → IsReplied s chans who step reply →
      IsKeptBy s (chans_after chans who n step reply) who.number below (λ (stage : Stage). option_and_then (λ (call : Call). plan_got (plan_of s.decls call) stage) call)
      (λ (stage : Stage). option_and_then (λ (call : Call). plan_waits (plan_of s.decls call) stage) call) (call_progress s.decls call stage step reply)
  call-kept below None stage k step reply there was replied = absurd (cc)
  call-kept below (Some call) stage k step reply there was replied = plan-kept below call (word_of call) stage k step reply (plan_of s.decls call) refl there was replied

  -- a step of a player
  pub frames-kept : (frames : List Frame) (k : ℕ) (step : Step) (reply : StepReply) → slice_get (frames_attempts s frames) k ≡ Some step → IsReplied s chans who step reply →
      AreKept s chans who.number frames → AreKept s (chans_after chans who n step reply) who.number (frames_after s frames (frames_progress s frames step reply))
  frames-kept [] k step reply there replied was = absurd (cc)
  frames-kept (frame ∷ below) k step reply there replied was = by_role frame.role refl there was
    where
      P : Frame → Type 0
      P f = slice_get (role_attempts s f.role f.next f.stage) k ≡ Some step → AreKept s chans who.number (f ∷ below) →
          AreKept s (chans_after chans who n step reply) who.number (frames_after s (f ∷ below) (role_progress s f.role f.next f.stage step reply))

      alone : (queue : ℕ) (below : List Frame) → AreLayered s (record { role = Worker queue; next = frame.next; stage = frame.stage } ∷ below) → below ≡ []
      alone queue [] layers = refl
      alone queue (next ∷ more) layers = absurd (let not_worker = layers.0 in cc)

      of_role : (role : Role) → P (record { role = role; next = frame.next; stage = frame.stage })
      of_role (Script owner) there was =
          progress-kept s (chans_after chans who n step reply) who.number (record { role = Script owner; next = frame.next; stage = frame.stage }) below _ was.0
          (call-kept (got s below) (slice_get (calls_of s.scripts owner) frame.next) frame.stage k step reply there was.1 replied)
      of_role (Worker queue) there was =
          subst (λ (l : List Frame). AreKept s (chans_after chans who n step reply) who.number
          (frames_after s (record { role = Worker queue; next = frame.next; stage = frame.stage } ∷ l) (worker_progress s.decls frame.stage reply))) (sym_of (alone queue below was.0))
          (worker-kept s (chans_after chans who n step reply) who.number queue frame.next frame.stage (worker_progress s.decls frame.stage reply)
          (λ word answer is. worker-never s.decls frame.stage reply word answer is))
        where
          sym_of : {A : Type 0} {a b : A} → a ≡ b → b ≡ a
          sym_of same = cc

      by_role : (role : Role) → frame.role ≡ role → P frame
      by_role role is = of_role frame.role

-- The channels that a player holds are few.

eqb-is : (a b : ℕ) → eqb a b ≡ true → a ≡ b
eqb-is a b is = grind (arith, nat_tests)

symmetric : (x y : ℕ) (a b : Bool) → eqb x y ≡ a → eqb y x ≡ b → a ≡ b
symmetric x y true true first second = refl
symmetric x y false false first second = refl
symmetric x y true false first second = absurd (let same = eqb-is x y first in let itself = eqb-same x in cc)
symmetric x y false true first second = absurd (let same = eqb-is y x second in let itself = eqb-same x in cc)

eqb-laws : IsEquivalence eqb
eqb-laws = record {
  refl = eqb-same;
  symm = λ x y. symmetric x y (eqb x y) (eqb y x) refl refl;
  congr = λ x y z same. ap (λ (k : ℕ). eqb k z) (eqb-is x y same);
}

starts-chan : (decl : Decl) → is_some (chan_start decl) ≡ true → is_chan decl ≡ true
starts-chan (decls.Chan name message valid observers) is = refl
starts-chan decl is = absurd (cc)

among-places : (n : ℕ) (decls : List Decl) (object : ℕ) → is_some (option_and_then (λ (o : Option Channel). o) (slice_get (map chan_start decls) object)) ≡ true →
    list_any (eqb (n + object)) (places_from n is_chan decls) ≡ true
among-places n [] object is = absurd (cc)
among-places n (d ∷ ds) zero is =
    subst (λ (b : Bool). list_any (eqb (n + 0)) (cond b (n ∷ places_from (n + 1) is_chan ds) (places_from (n + 1) is_chan ds)) ≡ true) (sym (starts-chan d is))
    (ap (λ (b : Bool). b || list_any (eqb (n + 0)) (places_from (n + 1) is_chan ds)) (let same : n + 0 ≡ n = omega arith in ap (λ (k : ℕ). eqb k n) same ∙ eqb-same n))
among-places n (d ∷ ds) (suc object) is =
    let rest = among-places (n + 1) ds object is in
    let same : n + 1 + object ≡ n + suc object = omega arith in
    let here : list_any (eqb (n + suc object)) (places_from (n + 1) is_chan ds) ≡ true =
    subst (λ (k : ℕ). list_any (eqb k) (places_from (n + 1) is_chan ds) ≡ true) same rest in
    elim (is_chan d) as (λ b. list_any (eqb (n + suc object)) (cond b (n ∷ places_from (n + 1) is_chan ds) (places_from (n + 1) is_chan ds)) ≡ true)
    [ true ↦ or-behind (eqb (n + suc object) n) (list_any (eqb (n + suc object)) (places_from (n + 1) is_chan ds)) here | false ↦ here ]

there-is : {A B : Type 0} (f : A → Option B) (o : Option A) (b : B) → option_and_then f o ≡ Some b → is_some o ≡ true
there-is f None b is = absurd (cc)
there-is f (Some a) b is = refl

-- different channels that a player holds are at most 16
few-held : (s : Content) (chans : ChanHistories) (number : ℕ) (held : List ℕ) → IsValid s → IsDistinct eqb held → HoldsAll s chans number held → length held ≤ 16
few-held s chans number held valid apart all =
    omega (
      arith,
      valid.chans,
      length-places is_chan s.decls,
      length-le_from_is_member eqb-laws held (places is_chan s.decls) apart (λ chan among. declared chan (all chan among)),
    )
  where
    declared : (chan : ℕ) → IsHeld s chans number chan → list_any (eqb chan) (places is_chan s.decls) ≡ true
    declared chan is =
        let start = there-is (λ (start : Channel). option_map (state_after chan_machine start) (slice_get chans chan)) (start_of (machines_of s).chans chan) is.state is.is_state in
        let same : 0 + chan ≡ chan = omega arith in
        subst (λ (k : ℕ). list_any (eqb k) (places is_chan s.decls) ≡ true) same (among-places 0 s.decls chan start)

-- so a call that holds its channel can enter a listener's script
room-held : (s : Content) (chans : ChanHistories) (number : ℕ) (frame : Frame) (below : List Frame) → IsValid s → AreKept s chans number (frame ∷ below) →
    is_some (frame_got s frame) ≡ true → length (frame ∷ below) < MOST_FRAMES
room-held s chans number frame below valid kept holds =
    omega (
      arith,
      layered-length s frame below kept.0,
      length-one (frame_got s frame) holds,
      length-append (option_to_list (frame_got s frame)) (got s below),
      few-held s chans number (got s (frame ∷ below)) valid kept.1.apart kept.1.held,
    )

room-any : (frames : List Frame) (progress : Progress) → length frames < MOST_FRAMES → HasRoomFor frames progress
room-any frames (Enters owner stage) room = room
room-any frames (Goes stage) room = tt
room-any frames (Answers word answer) room = tt

room-none : (frames : List Frame) (progress : Progress) → EntersNone progress → HasRoomFor frames progress
room-none frames (Enters owner stage) none = absurd none
room-none frames (Goes stage) none = tt
room-none frames (Answers word answer) none = tt

-- of a call that uses a channel: it enters scripts only while it holds that
room-channel : (frames : List Frame) (word : Word) (stage : Stage) (reply : StepReply) → ((left : List ℕ) (full : Bool) → stage ≡ stages.Visits left full → length frames < MOST_FRAMES) →
    HasRoomFor frames (channel_progress word stage reply)
room-channel frames word (stages.Visits left full) reply room = room-any frames (channel_progress word (stages.Visits left full) reply) (room left full refl)
room-channel frames word stages.Holds reply room = room-none frames (channel_progress word stages.Holds reply) (channel-plain word stages.Holds reply (λ left full is. cc))
room-channel frames word (stages.Reads message) reply room =
    room-none frames (channel_progress word (stages.Reads message) reply) (channel-plain word (stages.Reads message) reply (λ left full is. cc))
room-channel frames word stage reply room = room-none frames (channel_progress word stage reply) (channel-plain word stage reply (λ left full is. cc))

room-plan : (frames : List Frame) (word : Word) (plan : Plan) (stage : Stage) (made : Step) (reply : StepReply) → (is_some (plan_got plan stage) ≡ true → length frames < MOST_FRAMES) →
    HasRoomFor frames (plan_progress word plan stage made reply)
room-plan frames word (plans.Channel chan using_ timeout) stage made reply room =
    room-channel frames word stage reply (λ left full is. room (subst (λ (x : Stage). is_some (plan_got (plans.Channel chan using_ timeout) x) ≡ true) (sym is) refl))
room-plan frames word plan stage made reply room = room-none frames (plan_progress word plan stage made reply) (plan-plain word plan stage made reply refl)

room-call : (frames : List Frame) (decls : List Decl) (call : Option Call) (stage : Stage) (made : Step) (reply : StepReply) →
    (is_some (option_and_then (λ (call : Call). plan_got (plan_of decls call) stage) call) ≡ true → length frames < MOST_FRAMES) →
    HasRoomFor frames (call_progress decls call stage made reply)
room-call frames decls None stage made reply room = tt
room-call frames decls (Some call) stage made reply room = room-plan frames (word_of call) (plan_of decls call) stage made reply room

-- each script that is to be entered has room
room-now : (s : Content) (chans : ChanHistories) (number : ℕ) (frames : List Frame) (made : Step) (reply : StepReply) → IsValid s → AreKept s chans number frames →
    HasRoomFor frames (frames_progress s frames made reply)
room-now s chans number [] made reply valid kept = tt
room-now s chans number (frame ∷ below) made reply valid kept = of_role frame.role kept
  where
    P : Role → Type 0
    P role = AreKept s chans number (record { role = role; next = frame.next; stage = frame.stage } ∷ below) →
        HasRoomFor (record { role = role; next = frame.next; stage = frame.stage } ∷ below) (role_progress s role frame.next frame.stage made reply)

    single : (queue : ℕ) (below : List Frame) → AreLayered s (record { role = Worker queue; next = frame.next; stage = frame.stage } ∷ below) →
        length (record { role = Worker queue; next = frame.next; stage = frame.stage } ∷ below) < MOST_FRAMES
    single queue [] layers = omega arith
    single queue (next ∷ more) layers = absurd (let not_worker = layers.0 in cc)

    of_role : (role : Role) → P role
    of_role (Script owner) kept =
        let top : Frame = record { role = Script owner; next = frame.next; stage = frame.stage } in
        room-call (top ∷ below) s.decls (slice_get (calls_of s.scripts owner) frame.next) frame.stage made reply (λ holds. room-held s chans number top below valid kept holds)
    of_role (Worker queue) kept =
        let top : Frame = record { role = Worker queue; next = frame.next; stage = frame.stage } in
        room-any (top ∷ below) (worker_progress s.decls frame.stage reply) (single queue below kept.0)

-- A player from its start.

first-kept : (s : Content) (chans : ChanHistories) (number : ℕ) (role : Role) → AreKept s chans number (settled s (first_frame role ∷ []))
unfolding IsDistinct
first-kept s chans number role =
    let none = role-start s role 0 in
    let same : got s (first_frame role ∷ []) ≡ [] = ap (λ (o : Option ℕ). option_to_list o ++ []) none.0 in
    settled-kept s chans number (first_frame role ∷ []) tt (subst (λ (l : List ℕ). IsDistinct eqb l) (sym same) tt)
    (λ chan among. absurd (let nothing = ap (list_any (eqb chan)) same in cc))
    (All-cons (WaitsForNone s) (first_frame role) [] none.1 (All-nil (WaitsForNone s)))

pub start-kept : (s : Content) (chans : ChanHistories) (number : ℕ) (at : PlayerPlace) → start_at s number ≡ Some at → AreKept s chans at.who.number at.frames
start-kept s chans number at is =
    let inner : ℕ → Option PlayerPlace = λ object. option_map (starting s number object) (slice_get s.decls object) in
    option_and_then_some inner (slice_get (players s.decls) number) at is
    (λ object found made. from_decl s chans number object (slice_get s.decls object) at made)
  where
    from_decl : (s : Content) (chans : ChanHistories) (number object : ℕ) (decl : Option Decl) (at : PlayerPlace) → option_map (starting s number object) decl ≡ Some at →
        AreKept s chans at.who.number at.frames
    from_decl s chans number object None at made = absurd (cc)
    from_decl s chans number object (Some decl) at made =
        subst (λ (a : PlayerPlace). AreKept s chans a.who.number a.frames) (same_Some (starting s number object decl) at made) (first-kept s chans number (role_at decl object))

-- a check uses no channel, and leaves what is open, or nothing
pub kept-more : (s : Content) (chans : ChanHistories) (who : Who) (at : PlayerPlace) (step : Step) (reply : StepReply) → IsAhead s at step → IsReplied s chans who step reply →
    AreKept s chans who.number at.frames → AreKept s (chans_after chans who (length at.spots) step reply) who.number (after s at step reply).frames
kept-more s chans who at step reply ahead replied kept =
    turn (λ (a : PlayerPlace). AreKept s later who.number a.frames) s at step reply ahead (λ is. by_why is (oops_in reply)) (λ is.
    frames-kept s chans who (length at.spots) at.frames is.index step reply is.ahead replied kept)
  where
    later : ChanHistories
    later = chans_after chans who (length at.spots) step reply

    same : IsCheck s at step → later ≡ chans
    same is = ap (λ (x : Step). chans_after chans who (length at.spots) x reply) (sym is.is_step)

    by_why : (is : IsCheck s at step) (why : Option OopsWhy) → AreKept s later who.number (checked at is.check.word why (spot_of step reply)).frames
    by_why is None = subst (λ (c : ChanHistories). AreKept s c who.number at.frames) (sym (same is)) kept
    by_why is (Some why) = tt

always-room : (s : Content) (chans : ChanHistories) (at : PlayerPlace) (made : List StepMade) → IsValid s → AreKept s chans at.who.number at.frames →
    IsPlayedAmong s chans at made → AlwaysHasRoom s at made
always-room s chans at [] valid kept plays = tt
always-room s chans at (made ∷ more) valid kept plays =
    let found = plays.0 in
    let who = plays.1 in
    let own = plays.2 in
    let now = kept-among s at.who.number chans found at.frames plays.3 kept in
    let next = kept-more s found who at made.0 made.1 plays.4 plays.5 (subst (λ (k : ℕ). AreKept s found k at.frames) (sym own) now) in (
      room-now s found at.who.number at.frames made.0 made.1 valid now,
      always-room s (chans_after found who (length at.spots) made.0 made.1) (after s at made.0 made.1) more valid
          (subst (λ (k : ℕ). AreKept s (chans_after found who (length at.spots) made.0 made.1) k (after s at made.0 made.1).frames)
          (own ∙ ap (λ (w : Who). w.number) (sym (after-spots s at made.0 made.1).0)) next) plays.6,
    )

-- however a player of a valid scenario plays, and whatever comes to the channels meanwhile: each script that it is to enter is entered
pub each_script_is_entered : EachScriptIsEntered
each_script_is_entered s chans number at made valid starts plays = always-room s chans at made valid (start-kept s chans number at starts) plays
