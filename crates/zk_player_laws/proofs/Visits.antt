-- A publish or notify that came to its end has visited the observers that it was told, and a read has read; no step uses a channel that its player doesn't own, and each freeing ends such a call.
use Rattle.std.proofs.Common.{◌≡◌, ℕ, ◌+◌, Bool, true, false, eqb, ◌||◌, Option, Some, None, option_to_list, List, [], ◌∷◌, ◌++◌, length, length-append, append_assoc, append-nil, All, refl, sym, ap, subst, ◌∙◌, arith}
use Rattle.std.specs.List.{slice_get, list_any, IsDistinct}
use Rattle.std.specs.Option.{option_map, option_map_or, option_and_then}
use Rattle.std.proofs.lemmas.Bool.Decides.{nat_tests}
use Rattle.std.proofs.lemmas.List.Elements.{All-nil, All-cons, All-append, All-head, All-tail}
use Rattle.std.proofs.lemmas.Option.{option_and_then_some, same_Some}
use Rattle.zk_base.specs.declared.ids.Who.{Who}
use Rattle.zk_base.proofs.Lists.{slice_get-one}
use Rattle.zk_line.specs.Calls.{word_of}
use Rattle.zk_line.specs.declared.types.Call.{Call}
use Rattle.zk_line.specs.declared.types.Call.TheVariants as calls
use Rattle.zk_line.specs.declared.types.Decl.{Decl}
use Rattle.zk_line.specs.Objects.{number_of}
use Rattle.zk_scenario.specs.Content.{Content}
use Rattle.zk_scenario.specs.Players.{players, calls_of}
use Rattle.zk_model_work.specs.declared.ops.WorkOp.TheVariants as work_ops
use Rattle.zk_words.specs.declared.word.Word.{Word}
use Rattle.zk_worker.specs.declared.answers.Answer.{Answer}
use Rattle.zk_worker.specs.declared.answers.Answered.{Answered}
use Rattle.zk_worker.specs.declared.frames.Frame.{Frame}
use Rattle.zk_worker.specs.declared.frames.Plan.{Plan}
use Rattle.zk_worker.specs.declared.frames.Plan.TheVariants as plans
use Rattle.zk_worker.specs.declared.frames.Progress.{Progress}
use Rattle.zk_worker.specs.declared.frames.Progress.TheVariants.{Goes, Answers, Enters}
use Rattle.zk_worker.specs.declared.frames.Role.{Role}
use Rattle.zk_worker.specs.declared.frames.Role.TheVariants.{Script, Worker}
use Rattle.zk_worker.specs.declared.frames.Stage.{Stage}
use Rattle.zk_worker.specs.declared.frames.Stage.TheVariants as stages
use Rattle.zk_worker.specs.declared.steps.Step.{Step}
use Rattle.zk_worker.specs.declared.steps.Step.TheVariants as steps
use Rattle.zk_worker.specs.declared.steps.StepReply.{StepReply}
use Rattle.zk_worker.specs.Calls.{plan_of, plan_attempts, plan_progress}
use Rattle.zk_worker.specs.Follows.{StepMade, IsPlayed}
use Rattle.zk_worker.specs.Places.{PlayerPlace}
use Rattle.zk_worker.specs.Protocol.{call_attempts, call_progress, role_attempts, role_progress, frames_attempts, frames_progress, frames_after, answers_after, worker_attempts, worker_progress, settled, entered, first_frame, role_at, spot_of, starting, start_at, after}
use Rattle.zk_player_laws.specs.StackLaws.{ChanHistories, IsReplied, chans_after, IsPlayedAmong}
use Rattle.zk_player_laws.specs.VisitLaws.{used_chan, is_use, is_free, OwnsChan, IsOwned, AreOwned, CallsChannel, is_publish, is_read, UsesOrIsRefused, IsAnswered, AreAnswered, EachPublishVisits}
use Rattle.zk_player_laws.proofs.ChannelCalls.{CallVisits, VisitsBy, has-still, has-owns, used-got, all-through-more, channel-visits}
use Rattle.zk_player_laws.proofs.ChannelsFreed.{free-answers, answered-still}
use Rattle.zk_worker.proofs.Limits.{settled-all, entered-all}
use Rattle.zk_player_laws.proofs.LogsPlayed.{cuts, start-of, log-played}
use Rattle.zk_player_laws.proofs.OpenScripts.{plan_got, of_call, frame_got, got, AreKept, kept-among}
use Rattle.zk_player_laws.proofs.OtherCalls.{is_channel, is_with_channel, GoesWith, uses-none, plan-goes, call-calm}
use Rattle.zk_player_laws.proofs.OwnEntries.{or-behind, not-again}
use Rattle.zk_model_bus.specs.declared.table.OopsWhy.{OopsWhy}
use Rattle.zk_worker.specs.declared.answers.Answer.TheVariants.{Oops}
use Rattle.zk_worker.specs.declared.steps.Spot.{Spot}
use Rattle.zk_worker.specs.Checks.{oops_in}
use Rattle.zk_worker.specs.Protocol.{checked, moved, IsAhead}
use Rattle.zk_worker.proofs.CheckedSteps.{IsCheck, IsOwn, turn, after-spots}
use Rattle.zk_player_laws.proofs.ScriptsEntered.{kept-more, start-kept, worker-never}

-- What is known of the open scripts.

abbrev pub RoleVisits : Content → List StepMade → Role → ℕ → Stage → Type 0
RoleVisits s done (Script owner) next stage = CallVisits s done owner next stage
RoleVisits s done (Worker queue) next stage = Unit {0}

abbrev pub FrameVisits : Content → List StepMade → Frame → Type 0
FrameVisits s done frame = RoleVisits s done frame.role frame.next frame.stage

-- A step of a call that uses no channel.

-- the words of such calls
abbrev pub UsesNoChannel : Word → Type 0
UsesNoChannel word = (is_publish word ≡ false) × (is_read word ≡ false)

other-word : (decls : List Decl) (call : Call) → is_channel (plan_of decls call) ≡ false → UsesNoChannel (word_of call)
other-word decls (calls.Publish channel message timeout) other = absurd (cc)
other-word decls (calls.Notify channel timeout) other = absurd (cc)
other-word decls (calls.Read channel timeout) other = absurd (cc)
other-word decls call other = (refl, refl)

module _ (s : Content) (done : List StepMade) (number owner next : ℕ) (call : Call) (is_call : slice_get (calls_of s.scripts owner) next ≡ Some call)
    (other : is_channel (plan_of s.decls call) ≡ false) where
  never-with : CallsChannel s owner next → ⊥
  never-with by =
      let one = same_Some by.call call (sym by.is_call ∙ is_call) in
      let so : is_channel (plan_of s.decls call) ≡ true = ap (λ (c : Call). is_channel (plan_of s.decls c)) (sym one) ∙ ap is_channel by.is_plan in
      cc

  never-visits : (stage : Stage) → CallVisits s done owner next stage
  never-visits stage by = absurd (never-with by)

  by_progress : (progress : Progress) → GoesWith (CallVisits s done owner next) (λ word answer. UsesNoChannel word) progress → VisitsBy s done owner next number progress
  by_progress (Goes stage) goes = goes
  by_progress (Answers word answer) none = λ passed. let visits = none.0 in let reads = none.1 in (λ publish. absurd (cc), λ read. absurd (cc))
  by_progress (Enters object stage) goes = absurd goes

  pub other-visits : (stage : Stage) (step : Step) (reply : StepReply) →
      VisitsBy s done owner next number (plan_progress (word_of call) (plan_of s.decls call) stage step reply)
  other-visits stage step reply =
      by_progress (plan_progress (word_of call) (plan_of s.decls call) stage step reply)
      (plan-goes (CallVisits s done owner next) (λ word answer. UsesNoChannel word) (λ stage plain. never-visits stage) (word_of call)
      (λ answer is. other-word s.decls call other) (plan_of s.decls call)
      stage step reply other (never-visits stage))

-- The channel that a step uses is the one that the innermost script has.

plan-used : (decls : List Decl) (call : Call) (plan : Plan) → plan_of decls call ≡ plan → (stage : Stage) (k : ℕ) (step : Step) (c : ℕ) →
    slice_get (plan_attempts (plan_of decls call) stage) k ≡ Some step → used_chan step ≡ Some c → plan_got (plan_of decls call) stage ≡ Some c
plan-used decls call (plans.Channel chan using_ timeout) is stage k step c there used =
    ap (λ (p : Plan). plan_got p stage) is
    ∙ used-got chan using_ timeout stage k step c (sym (ap (λ (p : Plan). slice_get (plan_attempts p stage) k) is) ∙ there) used
plan-used decls call plan is stage k step c there used = let none = uses-none step (call-calm decls call stage k step (ap is_channel is) there) in absurd (cc)

call-used : (s : Content) (call : Option Call) (stage : Stage) (k : ℕ) (step : Step) (c : ℕ) → slice_get (call_attempts s.decls call stage) k ≡ Some step → used_chan step ≡ Some c →
    option_and_then (λ (call : Call). plan_got (plan_of s.decls call) stage) call ≡ Some c
call-used s None stage k step c there used = absurd (cc)
call-used s (Some call) stage k step c there used = plan-used s.decls call (plan_of s.decls call) refl stage k step c there used

worker-used : (queue : ℕ) (stage : Stage) (k : ℕ) (step : Step) (c : ℕ) → slice_get (worker_attempts queue stage) k ≡ Some step → used_chan step ≡ Some c → ⊥
worker-used queue stages.Start k step c there used = let one = ap used_chan (slice_get-one (steps.Work (work_ops.Begin queue)) step k there) in cc
worker-used queue stages.Runs k step c there used = let one = ap used_chan (slice_get-one (steps.Work (work_ops.End queue)) step k there) in cc
worker-used queue stage k step c there used = cc

role-used : (s : Content) (role : Role) (next : ℕ) (stage : Stage) (k : ℕ) (step : Step) (c : ℕ) → slice_get (role_attempts s role next stage) k ≡ Some step → used_chan step ≡ Some c →
    of_call plan_got s role next stage ≡ Some c
role-used s (Script owner) next stage k step c there used = call-used s (slice_get (calls_of s.scripts owner) next) stage k step c there used
role-used s (Worker queue) next stage k step c there used = absurd (worker-used (number_of s.decls queue) stage k step c there used)

-- a script that has a channel is at a call that uses it
plan-calls : (s : Content) (owner next : ℕ) (call : Call) → slice_get (calls_of s.scripts owner) next ≡ Some call → (plan : Plan) → plan_of s.decls call ≡ plan →
    (stage : Stage) (c : ℕ) → plan_got plan stage ≡ Some c → (by : CallsChannel s owner next) × (by.chan ≡ c) × (is_with_channel stage ≡ true)
plan-calls s owner next call is_call (plans.Channel chan using_ timeout) is stage c has =
    let by : CallsChannel s owner next = record { call = call; chan = chan; using_ = using_; timeout = timeout; is_call = is_call; is_plan = is } in
    let so = by_stage stage has in (by, so.0, so.1)
  where
    by_stage : (stage : Stage) → plan_got (plans.Channel chan using_ timeout) stage ≡ Some c → (chan ≡ c) × (is_with_channel stage ≡ true)
    by_stage stages.Holds has = (same_Some chan c has, refl)
    by_stage (stages.Visits left full) has = (same_Some chan c has, refl)
    by_stage (stages.Reads message) has = (same_Some chan c has, refl)
    by_stage stage has = absurd (cc)
plan-calls s owner next call is_call plan is stage c has = absurd (cc)

call-calls : (s : Content) (owner next : ℕ) (call : Option Call) → slice_get (calls_of s.scripts owner) next ≡ call → (stage : Stage) (c : ℕ) →
    option_and_then (λ (call : Call). plan_got (plan_of s.decls call) stage) call ≡ Some c → (by : CallsChannel s owner next) × (by.chan ≡ c) × (is_with_channel stage ≡ true)
call-calls s owner next None is_call stage c has = absurd (cc)
call-calls s owner next (Some call) is_call stage c has = plan-calls s owner next call is_call (plan_of s.decls call) refl stage c has

-- so its player owns it
role-owns : (s : Content) (done : List StepMade) (role : Role) (next : ℕ) (stage : Stage) (c : ℕ) → of_call plan_got s role next stage ≡ Some c → RoleVisits s done role next stage → OwnsChan c done
role-owns s done (Script owner) next stage c has v =
    let calls = call-calls s owner next (slice_get (calls_of s.scripts owner) next) refl stage c has in
    subst (λ (c : ℕ). OwnsChan c done) calls.1 (has-owns calls.0.chan calls.0.using_ done stage calls.2 (v calls.0))
role-owns s done (Worker queue) next stage c has v = absurd (cc)

-- The scripts below.

-- the step uses none of these channels
abbrev pub UsesNone : List ℕ → StepMade → Type 0
UsesNone held made = (chan : ℕ) → list_any (eqb chan) held ≡ true → is_use chan made ≡ false

eqb-is : (a b : ℕ) → eqb a b ≡ true → a ≡ b
eqb-is a b is = grind (arith, nat_tests)

eqb-itself : (a : ℕ) → eqb a a ≡ true
eqb-itself a = grind (arith, nat_tests)

-- it uses only the channel that the innermost script has
uses-apart : (has : Option ℕ) (below : List ℕ) (made : StepMade) → ((c : ℕ) → used_chan made.0 ≡ Some c → has ≡ Some c) → IsDistinct eqb (option_to_list has ++ below) → UsesNone below made
uses-apart has below made own apart chan among = by_used (used_chan made.0) refl
  where
    by_test : (c : ℕ) (b : Bool) → eqb c chan ≡ b → used_chan made.0 ≡ Some c → b ≡ false
    by_test c true same used =
        let distinct = subst (λ (o : Option ℕ). IsDistinct eqb (option_to_list o ++ below)) (own c used) apart in
        absurd (not-again c below distinct (ap (λ (x : ℕ). list_any (eqb x) below) (eqb-is c chan same) ∙ among))
    by_test c false isnt used = refl

    by_used : (used : Option ℕ) → used_chan made.0 ≡ used → option_map_or (λ used. eqb used chan) (used_chan made.0) false ≡ false
    by_used None is = ap (λ (o : Option ℕ). option_map_or (λ used. eqb used chan) o false) is
    by_used (Some c) is = ap (λ (o : Option ℕ). option_map_or (λ used. eqb used chan) o false) is ∙ by_test c (eqb c chan) refl is

got-calls : (s : Content) (owner next : ℕ) (by : CallsChannel s owner next) (stage : Stage) → is_with_channel stage ≡ true → of_call plan_got s (Script owner) next stage ≡ Some by.chan
got-calls s owner next by stage with_ =
    ap (option_and_then (λ (call : Call). plan_got (plan_of s.decls call) stage)) by.is_call ∙ ap (λ (plan : Plan). plan_got plan stage) by.is_plan ∙ by_stage stage with_
  where
    by_stage : (stage : Stage) → is_with_channel stage ≡ true → plan_got (plans.Channel by.chan by.using_ by.timeout) stage ≡ Some by.chan
    by_stage stages.Holds with_ = refl
    by_stage (stages.Visits left full) with_ = refl
    by_stage (stages.Reads message) with_ = refl
    by_stage stage with_ = absurd (cc)

-- a script whose channel the step doesn't use
role-more : (s : Content) (done : List StepMade) (made : StepMade) (role : Role) (next : ℕ) (stage : Stage) →
    ((chan : ℕ) → of_call plan_got s role next stage ≡ Some chan → is_use chan made ≡ false) → RoleVisits s done role next stage → RoleVisits s (done ++ made ∷ []) role next stage
role-more s done made (Script owner) next stage none v = λ by.
    has-still by.chan by.using_ done made stage (λ with_. none by.chan (got-calls s owner next by stage with_)) (v by)
role-more s done made (Worker queue) next stage none v = tt

among-behind : (chan : ℕ) (o : Option ℕ) (below : List ℕ) → list_any (eqb chan) below ≡ true → list_any (eqb chan) (option_to_list o ++ below) ≡ true
among-behind chan None below among = among
among-behind chan (Some c) below among = or-behind (eqb chan c) (list_any (eqb chan) below) among

frames-more : (s : Content) (done : List StepMade) (made : StepMade) (frames : List Frame) → UsesNone (got s frames) made → All (FrameVisits s done) frames → All (FrameVisits s (done ++ made ∷ [])) frames
frames-more s done made [] none all = All-nil (FrameVisits s (done ++ made ∷ []))
frames-more s done made (frame ∷ below) none all =
    All-cons (FrameVisits s (done ++ made ∷ [])) frame below
    (role-more s done made frame.role frame.next frame.stage
    (λ chan is. none chan (ap (λ (o : Option ℕ). list_any (eqb chan) (option_to_list o ++ got s below)) is ∙ ap (λ (b : Bool). b || list_any (eqb chan) (got s below)) (eqb-itself chan)))
    (All-head (FrameVisits s done) frame below all))
    (frames-more s done made below (λ chan among. none chan (among-behind chan (frame_got s frame) (got s below) among)) (All-tail (FrameVisits s done) frame below all))

-- A step of a player.

-- the open scripts and the answers after a step
abbrev AllVisit : Content → List StepMade → List Frame → List Answered → Type 0
AllVisit s done frames answers = All (FrameVisits s done) frames × All (UsesOrIsRefused s done) answers

started-role : (s : Content) (done : List StepMade) (role : Role) (next : ℕ) → RoleVisits s done role next stages.Start
started-role s done (Script owner) next = λ by. tt
started-role s done (Worker queue) next = tt

module _ (s : Content) (done : List StepMade) (number : ℕ) (answers : List Answered) (told : All (UsesOrIsRefused s done) answers) (below : List Frame) (all : All (FrameVisits s done) below) where
  abbrev P : Frame → Type 0
  P = FrameVisits s done

  script-after : (owner next : ℕ) (stage : Stage) (progress : Progress) → VisitsBy s done owner next number progress →
      AllVisit s done (frames_after s (record { role = Script owner; next = next; stage = stage } ∷ below) progress) (answers_after answers number progress)
  script-after owner next stage (Goes stage') v = (All-cons P (record { role = Script owner; next = next; stage = stage' }) below v all, told)
  script-after owner next stage (Answers word answer) v =
      let frame : Frame = record { role = Script owner; next = next + 1; stage = stages.Start } in
      let new : Answered = record { step = number; word = word; answer = answer } in (
        settled-all P s (frame ∷ below) (All-cons P frame below (λ by. tt) all),
        All-append (UsesOrIsRefused s done) answers (new ∷ []) told (All-cons (UsesOrIsRefused s done) new [] v (All-nil (UsesOrIsRefused s done))),
      )
  script-after owner next stage (Enters object stage') v =
      let frame : Frame = record { role = Script owner; next = next; stage = stage' } in (
        settled-all P s (entered (frame ∷ below) object) (entered-all P (frame ∷ below) object (λ by. tt) (All-cons P frame below v all)),
        told,
      )

  worker-after : (queue next : ℕ) (stage : Stage) (progress : Progress) → ((word : Word) (answer : Answer) → progress ≡ Answers word answer → ⊥) →
      AllVisit s done (frames_after s (record { role = Worker queue; next = next; stage = stage } ∷ below) progress) (answers_after answers number progress)
  worker-after queue next stage (Goes stage') never = (All-cons P (record { role = Worker queue; next = next; stage = stage' }) below tt all, told)
  worker-after queue next stage (Answers word answer) never = absurd (never word answer refl)
  worker-after queue next stage (Enters object stage') never =
      let frame : Frame = record { role = Worker queue; next = next; stage = stage' } in (
        settled-all P s (entered (frame ∷ below) object) (entered-all P (frame ∷ below) object (λ by. tt) (All-cons P frame below tt all)),
        told,
      )

module _ (s : Content) (chans : ChanHistories) (who : Who) (done : List StepMade) (number : ℕ) (long : number ≡ length done) (step : Step) (reply : StepReply) where
  abbrev later : List StepMade
  later = done ++ (step, reply) ∷ []

  plan-visits : (owner next : ℕ) (call : Call) (is_call : slice_get (calls_of s.scripts owner) next ≡ Some call) (plan : Plan) → plan_of s.decls call ≡ plan → (stage : Stage) (k : ℕ) →
      slice_get (plan_attempts (plan_of s.decls call) stage) k ≡ Some step → CallVisits s done owner next stage → IsReplied s chans who step reply →
      VisitsBy s later owner next number (plan_progress (word_of call) (plan_of s.decls call) stage step reply)
  plan-visits owner next call is_call (plans.Channel chan using_ timeout) is stage k there v replied =
      let here : CallsChannel s owner next = record { call = call; chan = chan; using_ = using_; timeout = timeout; is_call = is_call; is_plan = is } in
      subst (λ (p : Plan). VisitsBy s later owner next number (plan_progress (word_of call) p stage step reply)) (sym is)
      (channel-visits s chans who done number long owner next here stage k step reply (sym (ap (λ (p : Plan). slice_get (plan_attempts p stage) k) is) ∙ there) v replied)
  plan-visits owner next call is_call plan is stage k there v replied = other-visits s later number owner next call is_call (ap is_channel is) stage step reply

  call-visits : (owner next : ℕ) (call : Option Call) → slice_get (calls_of s.scripts owner) next ≡ call → (stage : Stage) (k : ℕ) → slice_get (call_attempts s.decls call stage) k ≡ Some step →
      CallVisits s done owner next stage → IsReplied s chans who step reply → VisitsBy s later owner next number (call_progress s.decls call stage step reply)
  call-visits owner next None is_call stage k there v replied = absurd (cc)
  call-visits owner next (Some call) is_call stage k there v replied = plan-visits owner next call is_call (plan_of s.decls call) refl stage k there v replied

  pub frames-visit : (frames : List Frame) (k : ℕ) (answers : List Answered) → slice_get (frames_attempts s frames) k ≡ Some step → IsReplied s chans who step reply →
      AreKept s chans who.number frames → AllVisit s done frames answers →
      AllVisit s later (frames_after s frames (frames_progress s frames step reply)) (answers_after answers number (frames_progress s frames step reply)) × IsOwned done (step, reply)
  frames-visit [] k answers there replied kept was = absurd (cc)
  frames-visit (frame ∷ below) k answers there replied kept was =
      let own = λ (c : ℕ) (used : used_chan step ≡ Some c). role-used s frame.role frame.next frame.stage k step c there used in (
        of_role frame.role there was (frames-more s done (step, reply) below (uses-apart (frame_got s frame) (got s below) (step, reply) own kept.1.apart) (All-tail (FrameVisits s done) frame below was.0)),
        λ c used. role-owns s done frame.role frame.next frame.stage c (own c used) (All-head (FrameVisits s done) frame below was.0),
      )
    where
      Q : Role → Type 0
      Q role = let f : Frame = record { role = role; next = frame.next; stage = frame.stage } in
          slice_get (role_attempts s role frame.next frame.stage) k ≡ Some step → AllVisit s done (f ∷ below) answers → All (FrameVisits s later) below →
          AllVisit s later (frames_after s (f ∷ below) (role_progress s role frame.next frame.stage step reply))
          (answers_after answers number (role_progress s role frame.next frame.stage step reply))

      of_role : (role : Role) → Q role
      of_role (Script owner) there was more =
          let f : Frame = record { role = Script owner; next = frame.next; stage = frame.stage } in
          script-after s later number answers (all-through-more s done (step, reply) answers was.1) below more
          owner frame.next frame.stage (call_progress s.decls (slice_get (calls_of s.scripts owner) frame.next) frame.stage step reply)
          (call-visits owner frame.next (slice_get (calls_of s.scripts owner) frame.next) refl frame.stage k there (All-head (FrameVisits s done) f below was.0) replied)
      of_role (Worker queue) there was more =
          worker-after s later number answers (all-through-more s done (step, reply) answers was.1) below more
          queue frame.next frame.stage (worker_progress s.decls frame.stage reply) (λ word answer is. worker-never s.decls frame.stage reply word answer is)

-- a check uses no channel
step-visits : (s : Content) (chans : ChanHistories) (who : Who) (done : List StepMade) (at : PlayerPlace) → length at.spots ≡ length done → (step : Step) (reply : StepReply) → IsAhead s at step → IsReplied s chans who step reply →
    AreKept s chans who.number at.frames → AllVisit s done at.frames at.answers →
    AllVisit s (done ++ (step, reply) ∷ []) (after s at step reply).frames (after s at step reply).answers × IsOwned done (step, reply)
step-visits s chans who done at long step reply ahead replied kept was = turn P s at step reply ahead (λ is. by_why is (oops_in reply)) by_own where
  later : List StepMade
  later = done ++ (step, reply) ∷ []

  P : PlayerPlace → Type 0
  P a = AllVisit s later a.frames a.answers × IsOwned done (step, reply)

  never : {A : Type 0} (is : IsCheck s at step) (chan : ℕ) → used_chan step ≡ Some chan → A
  never is chan used = absurd (let none : None ≡ Some chan = ap used_chan is.is_step ∙ used in cc)

  told : All (UsesOrIsRefused s later) at.answers
  told = all-through-more s done (step, reply) at.answers was.1

  by_why : (is : IsCheck s at step) (why : Option OopsWhy) → P (checked at is.check.word why (spot_of step reply))
  by_why is None = ((frames-more s done (step, reply) at.frames (λ chan among. none-used is chan) was.0, told), λ chan used. never is chan used)
    where
      none-used : (is : IsCheck s at step) (chan : ℕ) → is_use chan (step, reply) ≡ false
      none-used is chan = ap (λ (x : Step). is_use chan (x, reply)) (sym is.is_step)
  by_why is (Some why) =
      let new : Answered = record { step = length at.spots; word = is.check.word; answer = Oops why } in (
        (
          All-nil (FrameVisits s later),
          All-append (UsesOrIsRefused s later) at.answers (new ∷ []) told
              (All-cons (UsesOrIsRefused s later) new [] (λ passed. absurd (cc)) (All-nil (UsesOrIsRefused s later))),
        ),
        λ chan used. never is chan used,
      )

  by_own : IsOwn s at step → P (moved s at step (frames_progress s at.frames step reply) (spot_of step reply))
  by_own is = frames-visit s chans who done (length at.spots) long step reply at.frames is.index at.answers is.ahead replied kept was

-- and frees none
step-answers : (s : Content) (chans : ChanHistories) (who : Who) (at : PlayerPlace) (step : Step) (reply : StepReply) → IsAhead s at step → is_free (step, reply) ≡ true → IsReplied s chans who step reply →
    IsAnswered (after s at step reply).answers (length at.spots)
step-answers s chans who at step reply ahead frees replied = turn (λ (a : PlayerPlace). IsAnswered a.answers (length at.spots)) s at step reply ahead
    (λ is. absurd (let freed : false ≡ true = ap (λ (x : Step). is_free (x, reply)) is.is_step ∙ frees in cc))
    (λ is. free-answers s chans who step reply frees replied at.frames is.index at.answers (length at.spots) is.ahead)

-- A player from its start.

played-visits : (s : Content) (chans : ChanHistories) (at end : PlayerPlace) (made done : List StepMade) → AreKept s chans at.who.number at.frames → IsPlayedAmong s chans at made → IsPlayed s at made end →
    length at.spots ≡ length done → AllVisit s done at.frames at.answers → All (UsesOrIsRefused s (done ++ made)) end.answers × AreOwned done made × AreAnswered end.answers (length done) made
played-visits s chans at end [] done kept plays ends long was =
    (subst (λ (l : List StepMade). All (UsesOrIsRefused s l) end.answers) (sym (append-nil done)) (subst (λ (x : PlayerPlace). All (UsesOrIsRefused s done) x.answers) ends was.1), tt, tt)
played-visits s chans at end (made ∷ more) done kept plays ends long was =
    let found = plays.0 in
    let who = plays.1 in
    let own = plays.2 in
    let now = subst (λ (n : ℕ). AreKept s found n at.frames) (sym own) (kept-among s at.who.number chans found at.frames plays.3 kept) in
    let next = kept-more s found who at made.0 made.1 plays.4 plays.5 now in
    let visit = step-visits s found who done at long made.0 made.1 plays.4 plays.5 now was in
    let further = played-visits s (chans_after found who (length at.spots) made.0 made.1) (after s at made.0 made.1) end more (done ++ made ∷ [])
    (subst (λ (n : ℕ). AreKept s (chans_after found who (length at.spots) made.0 made.1) n (after s at made.0 made.1).frames)
    (own ∙ ap (λ (w : Who). w.number) (sym (after-spots s at made.0 made.1).0)) next) plays.6 ends.1
    (ap (λ (l : List Spot). length l) (after-spots s at made.0 made.1).1 ∙ (let spots = length-append at.spots (spot_of made.0 made.1 ∷ []) in let all = length-append done (made ∷ []) in omega arith)) visit.0 in
    let count : length done + 1 ≡ length (done ++ made ∷ []) = (let all = length-append done (made ∷ []) in omega arith) in (
      subst (λ (l : List StepMade). All (UsesOrIsRefused s l) end.answers) (append_assoc done (made ∷ []) more) further.0,
      (visit.1, further.1),
      (
        λ frees. answered-still s (after s at made.0 made.1) end more (length done) ends.1
            (subst (λ (n : ℕ). IsAnswered (after s at made.0 made.1).answers n) long
            (step-answers s found who at made.0 made.1 plays.4 frees plays.5)),
        subst (λ (n : ℕ). AreAnswered end.answers n more) (sym count) further.2,
      ),
    )

-- at its start a player has visited nothing
start-visits : (s : Content) (number : ℕ) (at : PlayerPlace) → start_at s number ≡ Some at → AllVisit s [] at.frames at.answers
start-visits s number at is =
    let inner : ℕ → Option PlayerPlace = λ object. option_map (starting s number object) (slice_get s.decls object) in
    option_and_then_some inner (slice_get (players s.decls) number) at is (λ object found made. by_decl object (slice_get s.decls object) made)
  where
    first : (role : Role) → All (FrameVisits s []) (settled s (first_frame role ∷ []))
    first role = settled-all (FrameVisits s []) s (first_frame role ∷ []) (All-cons (FrameVisits s []) (first_frame role) [] (started-role s [] role 0) (All-nil (FrameVisits s [])))

    by_decl : (object : ℕ) (decl : Option Decl) → option_map (starting s number object) decl ≡ Some at → AllVisit s [] at.frames at.answers
    by_decl object None made = absurd (cc)
    by_decl object (Some decl) made =
        subst (λ (a : PlayerPlace). AllVisit s [] a.frames a.answers) (same_Some (starting s number object decl) at made) (first (role_at decl object), All-nil (UsesOrIsRefused s []))

-- each publish or notify that came to its end has visited its observers
pub each_publish_visits : EachPublishVisits
each_publish_visits s number shown at is valid shows timed legal =
    let start = start-of s number is.start is.starts in
    played-visits s (cuts number 0 shown.chans) is.start at is.made [] (start-kept s (cuts number 0 shown.chans) number is.start is.starts)
    (log-played s number shown at is shows timed legal) is.played (ap length start.1) (start-visits s number is.start is.starts)
