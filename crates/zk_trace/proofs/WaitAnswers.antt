-- What calls that may wait answer is of their words: waits, polls, and calls that use a channel.
use Rattle.std.proofs.Common.{◌≡◌, inl, inr, ℕ, zero, suc, ◌+◌, ◌≤◌, Bool, true, false, cond, Option, Some, None, List, [], ◌∷◌, length, refl, sym, subst, ◌∙◌, arith}
use Rattle.std.specs.List.{slice_get, list_any}
use Rattle.std.proofs.lemmas.Bool.{le-leb}
use Rattle.std.proofs.lemmas.List.{length-set}
use Rattle.std.proofs.lemmas.Option.{same_Some}
use Rattle.zk_base.proofs.Lists.{slice_get-one}
use Rattle.zk_base.specs.declared.errors.Errno.TheVariants.{Busy, Again, NoMsg}
use Rattle.zk_line.specs.declared.events.Event.{Event}
use Rattle.zk_line.specs.declared.events.TheConstants.{MOST_EVENTS}
use Rattle.zk_line.specs.declared.types.Decl.{Decl}
use Rattle.zk_words.specs.declared.timeout.Timeout.{Timeout}
use Rattle.zk_words.specs.declared.timeout.Timeout.TheVariants.{No, Forever, Ticks}
use Rattle.zk_words.specs.declared.word.Word.{Word}
use Rattle.zk_words.specs.declared.word.Word.TheVariants as words
use Rattle.zk_model_bus.specs.declared.channel.ChanOp.TheVariants as chan_ops
use Rattle.zk_model_bus.specs.declared.channel.ChanReply.{ChanReply}
use Rattle.zk_model_bus.specs.declared.channel.ChanReply.TheVariants as chan_replies
use Rattle.zk_model_bus.specs.declared.observer.ObsOp.TheVariants as obs_ops
use Rattle.zk_model_bus.specs.declared.observer.ObsReply.{ObsReply}
use Rattle.zk_model_bus.specs.declared.observer.ObsReply.TheVariants as obs_replies
use Rattle.zk_model_wait.specs.declared.clock.ClockOp.TheVariants as clock_ops
use Rattle.zk_model_wait.specs.declared.clock.ClockReply.TheVariants as clock_replies
use Rattle.zk_model_wait.specs.declared.msgq.MsgqOp.TheVariants as msgq_ops
use Rattle.zk_model_wait.specs.declared.msgq.MsgqReply.{MsgqReply}
use Rattle.zk_model_wait.specs.declared.msgq.MsgqReply.TheVariants as msgq_replies
use Rattle.zk_model_wait.specs.declared.sem.SemOp.TheVariants as sem_ops
use Rattle.zk_worker.specs.declared.answers.Answer.TheVariants as answers
use Rattle.zk_worker.specs.declared.frames.Alarm.{Alarm}
use Rattle.zk_worker.specs.declared.frames.Alarm.TheVariants.{Unset}
use Rattle.zk_worker.specs.declared.frames.Mark.{Mark}
use Rattle.zk_worker.specs.declared.frames.Plan.{Plan}
use Rattle.zk_worker.specs.declared.frames.Plan.TheVariants.{Poll, Channel}
use Rattle.zk_worker.specs.declared.frames.Progress.{Progress}
use Rattle.zk_worker.specs.declared.frames.Progress.TheVariants.{Goes, Answers, Enters}
use Rattle.zk_worker.specs.declared.frames.Stage.{Stage}
use Rattle.zk_worker.specs.declared.frames.Stage.TheVariants as stages
use Rattle.zk_worker.specs.declared.frames.Using.{Using}
use Rattle.zk_worker.specs.declared.frames.Using.TheVariants.{Publish, Notify, Read}
use Rattle.zk_worker.specs.declared.frames.Waiting.{Waiting}
use Rattle.zk_worker.specs.declared.frames.Waiting.TheVariants.{Take, Put, Get, Claim, SubWait, Offer, Enter}
use Rattle.zk_worker.specs.declared.steps.Step.{Step}
use Rattle.zk_worker.specs.declared.steps.Step.TheVariants as steps
use Rattle.zk_worker.specs.declared.steps.StepReply.{StepReply}
use Rattle.zk_worker.specs.declared.steps.StepReply.TheVariants as step_replies
use Rattle.zk_worker.specs.Polls.{fresh, is_ready, is_answered, ready_from, poll_answer, poll_goes, poll_progress, event_of, marked, mark_of, alarm_after}
use Rattle.zk_worker.specs.Publishes.{rest_of, asks_for, use_step, channel_attempts, visits_answer, holds_progress, visit_progress, asking_progress, channel_progress}
use Rattle.zk_worker.specs.Replies.{sem_answer, msgq_answer, chan_answer, obs_answer, answer_of}
use Rattle.zk_worker.specs.Waits.{open_step, end_step, quit_step, first_step, wait_attempts, opening_progress, with_alarm, wait_progress}
use Rattle.zk_trace.specs.AnswerRead.{FitsAnswer}
use Rattle.zk_trace.specs.SemRead as sem_read
use Rattle.zk_trace.specs.MsgqRead as msgq_read
use Rattle.zk_trace.specs.ChanRead as chan_read
use Rattle.zk_trace.specs.ObsRead as obs_read
use Rattle.zk_trace.specs.declared.chan.Verb.TheVariants as chan_verbs
use Rattle.zk_trace.specs.declared.msgq.Verb.TheVariants as msgq_verbs
use Rattle.zk_trace.specs.declared.obs.Verb.TheVariants as obs_verbs
use Rattle.zk_trace.specs.declared.sem.Verb.TheVariants as sem_verbs
use Rattle.zk_trace.proofs.Suited.{in-each, Told, Suits, StageSuits, ProgressSuits}

module _ (decls : List Decl) where
  -- Calls that may wait.

  -- such a call waits, or is answered
  abbrev pub WaitsWell : Progress → Type 0
  WaitsWell (Goes (stages.Waits place)) = Unit {0}
  WaitsWell (Goes (stages.Alarmed moment)) = Unit {0}
  WaitsWell (Goes (stages.WaitsUntil place moment)) = Unit {0}
  WaitsWell (Goes (stages.Quits place)) = Unit {0}
  WaitsWell (Goes stage) = ⊥
  WaitsWell (Answers word answer) = Suits decls word answer
  WaitsWell (Enters owner stage) = ⊥

  pub waits-suits : (plan : Plan) (progress : Progress) → WaitsWell progress → ProgressSuits decls plan progress
  waits-suits plan (Goes (stages.Waits place)) well = tt
  waits-suits plan (Goes (stages.Alarmed moment)) well = tt
  waits-suits plan (Goes (stages.WaitsUntil place moment)) well = tt
  waits-suits plan (Goes (stages.Quits place)) well = tt
  waits-suits plan (Goes stage) well = absurd well
  waits-suits plan (Answers word answer) well = well
  waits-suits plan (Enters owner stage) well = absurd well

  -- what its steps are answered: some replies aren't asked for
  pub record WaitFits (Such : StepReply → Type 0) (word : Word) (waiting : Waiting) : Type 0 where
    opens : (waits : Bool) (r : StepReply) → Such r → Told decls (open_step waiting waits) r → WaitsWell (opening_progress word r)
    ends : (place : ℕ) (r : StepReply) → Such r → Told decls (end_step waiting place) r → Suits decls word (answer_of r)
    quits : (place : ℕ) (r : StepReply) → Such r → Told decls (quit_step waiting place) r → Suits decls word (answer_of r)

  start-well : (word : Word) (reply : StepReply) → WaitsWell (opening_progress word reply) → WaitsWell (wait_progress word stages.Start reply)
  start-well word (step_replies.Clock (clock_replies.At moment) place) well = tt
  start-well word reply well = well

  alarm-well : (moment : ℕ) (progress : Progress) → WaitsWell progress → WaitsWell (with_alarm moment progress)
  alarm-well moment (Goes (stages.Waits place)) well = tt
  alarm-well moment progress well = well

  alarmed-well : (word : Word) (ticks : ℕ) (reply : StepReply) → Told decls (steps.Clock (clock_ops.Alarm ticks)) reply → WaitsWell (wait_progress word stages.Start reply)
  alarmed-well word ticks (step_replies.Clock (clock_replies.At moment) place) told = tt
  alarmed-well word ticks (step_replies.Clock r place) (inl is) = absurd is
  alarmed-well word ticks (step_replies.Clock r place) (inr fits) = absurd fits
  alarmed-well word ticks reply told = absurd told

  until-well : (word : Word) (place moment : ℕ) (reply : StepReply) → Suits decls word (answer_of reply) → WaitsWell (wait_progress word (stages.WaitsUntil place moment) reply)
  until-well word place moment (step_replies.Clock r at) suits = tt
  until-well word place moment reply suits = suits

  ended-well : (word : Word) (place moment other : ℕ) (reply : StepReply) → Told decls (steps.Clock (clock_ops.AlarmEnd other)) reply → WaitsWell (wait_progress word (stages.WaitsUntil place moment) reply)
  ended-well word place moment other (step_replies.Clock r at) told = tt
  ended-well word place moment other reply told = absurd told

  module _ (Such : StepReply → Type 0) (word : Word) (waiting : Waiting) (fits : WaitFits Such word waiting) where
    first-well : (timeout : Timeout) (reply : StepReply) → Such reply → Told decls (first_step waiting timeout) reply → WaitsWell (wait_progress word stages.Start reply)
    first-well No reply such told = start-well word reply (fits.opens false reply such told)
    first-well Forever reply such told = start-well word reply (fits.opens true reply such told)
    first-well (Ticks ticks) reply such told = alarmed-well word ticks reply told

    pub wait-well : (timeout : Timeout) (stage : Stage) (k : ℕ) (made : Step) (reply : StepReply) → Such reply → slice_get (wait_attempts waiting timeout stage) k ≡ Some made → Told decls made reply →
        WaitsWell (wait_progress word stage reply)
    wait-well timeout stages.Start k made reply such ahead told = first-well timeout reply such (subst (λ (x : Step). Told decls x reply) (sym (slice_get-one (first_step waiting timeout) made k ahead)) told)
    wait-well timeout (stages.Alarmed moment) k made reply such ahead told =
        alarm-well moment (opening_progress word reply) (fits.opens true reply such (subst (λ (x : Step). Told decls x reply) (sym (slice_get-one (open_step waiting true) made k ahead)) told))
    wait-well timeout (stages.Waits place) k made reply such ahead told = fits.ends place reply such (subst (λ (x : Step). Told decls x reply) (sym (slice_get-one (end_step waiting place) made k ahead)) told)
    wait-well timeout (stages.WaitsUntil place moment) zero made reply such ahead told =
        let same : end_step waiting place ≡ made = same_Some (end_step waiting place) made ahead in
        until-well word place moment reply (fits.ends place reply such (subst (λ (x : Step). Told decls x reply) (sym same) told))
    wait-well timeout (stages.WaitsUntil place moment) (suc k) made reply such ahead told =
        ended-well word place moment moment reply (subst (λ (x : Step). Told decls x reply) (sym (slice_get-one (steps.Clock (clock_ops.AlarmEnd moment)) made k ahead)) told)
    wait-well timeout (stages.Quits place) k made reply such ahead told = fits.quits place reply such (subst (λ (x : Step). Told decls x reply) (sym (slice_get-one (quit_step waiting place) made k ahead)) told)
    wait-well timeout stage k made reply such ahead told = absurd (cc)

  -- nothing is left out
  abbrev pub Any : StepReply → Type 0
  Any r = Unit {0}

  pub take-fits : (object : ℕ) → WaitFits Any words.Take (Take object)
  take-fits object = record { opens = opens; ends = ends; quits = ends } where
    opens : (waits : Bool) (r : StepReply) → Any r → Told decls (steps.Sem object (sem_ops.Take waits)) r → WaitsWell (opening_progress words.Take r)
    opens waits (step_replies.Sem at r place) such (inl is) =
        in-each (λ r. WaitsWell (opening_progress words.Take (step_replies.Sem at r place))) (sem_read.fixed_replies sem_verbs.Take)
        (λ sized. inr (inr sized), (λ sized. inl (inl refl), (tt, tt))) r is
    opens waits (step_replies.Sem at r place) such (inr fits) = absurd fits
    opens waits r such told = absurd told

    ends : (place : ℕ) (r : StepReply) → Any r → Told decls (steps.Sem object (sem_ops.TakeEnd place)) r → Suits decls words.Take (answer_of r)
    ends place (step_replies.Sem at r since) such (inl is) =
        in-each (λ r. Suits decls words.Take (sem_answer r)) (sem_read.fixed_replies sem_verbs.TakeEnd) (λ sized. inr (inr sized), (λ sized. inl (inr (inl refl)), tt)) r is
    ends place (step_replies.Sem at r since) such (inr fits) = absurd fits
    ends place r such told = absurd told

  pub put-fits : (object : ℕ) (message : List ℕ) → WaitFits Any words.Put (Put object message)
  put-fits object message = record { opens = opens; ends = ends; quits = quits } where
    opens : (waits : Bool) (r : StepReply) → Any r → Told decls (steps.Msgq object (msgq_ops.Put message waits)) r → WaitsWell (opening_progress words.Put r)
    opens waits (step_replies.Msgq at r place) such (inl is) =
        in-each (λ r. WaitsWell (opening_progress words.Put (step_replies.Msgq at r place))) (msgq_read.fixed_replies msgq_verbs.Put)
        (λ sized. inr (inr sized), (λ sized. inl (inl refl), (tt, tt))) r is
    opens waits (step_replies.Msgq at r place) such (inr fits) = absurd fits
    opens waits r such told = absurd told

    ends : (place : ℕ) (r : StepReply) → Any r → Told decls (steps.Msgq object (msgq_ops.PutEnd place)) r → Suits decls words.Put (answer_of r)
    ends place (step_replies.Msgq at r since) such (inl is) =
        in-each (λ r. Suits decls words.Put (msgq_answer r)) (msgq_read.fixed_replies msgq_verbs.PutEnd) (λ sized. inr (inr sized), (λ sized. inl (inl refl), tt)) r is
    ends place (step_replies.Msgq at r since) such (inr fits) = absurd fits
    ends place r such told = absurd told

    quits : (place : ℕ) (r : StepReply) → Any r → Told decls (steps.Msgq object (msgq_ops.PutQuit place)) r → Suits decls words.Put (answer_of r)
    quits place (step_replies.Msgq at r since) such (inl is) =
        in-each (λ r. Suits decls words.Put (msgq_answer r)) (msgq_read.fixed_replies msgq_verbs.PutQuit) (λ sized. inr (inr sized), (λ sized. inl (inl refl), (λ sized. inl (inr (inl refl)), tt))) r is
    quits place (step_replies.Msgq at r since) such (inr fits) = absurd fits
    quits place r such told = absurd told

  -- a message that was got
  got-bytes : (r : MsgqReply) → msgq_read.IsBytes r → Suits decls words.Get (msgq_answer r)
  got-bytes (msgq_replies.Bytes message) fits = λ sized. inr (inr fits)
  got-bytes r fits = absurd fits

  get-opened : (at place : ℕ) (r : MsgqReply) → msgq_read.IsBytes r → WaitsWell (opening_progress words.Get (step_replies.Msgq at r place))
  get-opened at place (msgq_replies.Bytes message) fits = λ sized. inr (inr fits)
  get-opened at place r fits = absurd fits

  pub get-fits : (object : ℕ) → WaitFits Any words.Get (Get object)
  get-fits object = record { opens = opens; ends = ends; quits = quits } where
    opens : (waits : Bool) (r : StepReply) → Any r → Told decls (steps.Msgq object (msgq_ops.Get waits)) r → WaitsWell (opening_progress words.Get r)
    opens waits (step_replies.Msgq at r place) such (inl is) =
        in-each (λ r. WaitsWell (opening_progress words.Get (step_replies.Msgq at r place))) (msgq_read.fixed_replies msgq_verbs.Get) (λ sized. inl (inl refl), (tt, tt)) r is
    opens waits (step_replies.Msgq at r place) such (inr fits) = get-opened at place r fits
    opens waits r such told = absurd told

    ends : (place : ℕ) (r : StepReply) → Any r → Told decls (steps.Msgq object (msgq_ops.GetEnd place)) r → Suits decls words.Get (answer_of r)
    ends place (step_replies.Msgq at r since) such (inl is) = absurd is
    ends place (step_replies.Msgq at r since) such (inr fits) = got-bytes r fits
    ends place r such told = absurd told

    quits : (place : ℕ) (r : StepReply) → Any r → Told decls (steps.Msgq object (msgq_ops.GetQuit place)) r → Suits decls words.Get (answer_of r)
    quits place (step_replies.Msgq at r since) such (inl is) =
        in-each (λ r. Suits decls words.Get (msgq_answer r)) (msgq_read.fixed_replies msgq_verbs.GetQuit) (λ sized. inl (inr (inl refl)), tt) r is
    quits place (step_replies.Msgq at r since) such (inr fits) = got-bytes r fits
    quits place r such told = absurd told

  pub claim-fits : (object : ℕ) → WaitFits Any words.Claim (Claim object)
  claim-fits object = record { opens = opens; ends = ends; quits = quits } where
    opens : (waits : Bool) (r : StepReply) → Any r → Told decls (steps.Chan object (chan_ops.Claim waits)) r → WaitsWell (opening_progress words.Claim r)
    opens waits (step_replies.Chan at r place) such (inl is) =
        in-each (λ r. WaitsWell (opening_progress words.Claim (step_replies.Chan at r place))) (chan_read.fixed_replies chan_verbs.Claim)
        (λ sized. inr (inr sized), (λ sized. inl (inl refl), (tt, tt))) r is
    opens waits (step_replies.Chan at r place) such (inr fits) = absurd fits
    opens waits r such told = absurd told

    ends : (place : ℕ) (r : StepReply) → Any r → Told decls (steps.Chan object (chan_ops.ClaimEnd place)) r → Suits decls words.Claim (answer_of r)
    ends place (step_replies.Chan at r since) such (inl is) =
        in-each (λ r. Suits decls words.Claim (chan_answer r)) (chan_read.fixed_replies chan_verbs.ClaimEnd) (λ sized. inr (inr sized), tt) r is
    ends place (step_replies.Chan at r since) such (inr fits) = absurd fits
    ends place r such told = absurd told

    quits : (place : ℕ) (r : StepReply) → Any r → Told decls (steps.Chan object (chan_ops.ClaimQuit place)) r → Suits decls words.Claim (answer_of r)
    quits place (step_replies.Chan at r since) such (inl is) =
        in-each (λ r. Suits decls words.Claim (chan_answer r)) (chan_read.fixed_replies chan_verbs.ClaimQuit) (λ sized. inr (inr sized), (λ sized. inl (inr (inl refl)), tt)) r is
    quits place (step_replies.Chan at r since) such (inr fits) = absurd fits
    quits place r such told = absurd told

  -- a channel that was taken
  got-channel : (r : ObsReply) → obs_read.IsChannel decls r → Suits decls words.SubWait (obs_answer r)
  got-channel (obs_replies.Channel channel) fits = λ sized. inr (inr fits)
  got-channel r fits = absurd fits

  sub-opened : (at place : ℕ) (r : ObsReply) → obs_read.IsChannel decls r → WaitsWell (opening_progress words.SubWait (step_replies.Obs at r place))
  sub-opened at place (obs_replies.Channel channel) fits = λ sized. inr (inr fits)
  sub-opened at place r fits = absurd fits

  pub sub-fits : (object : ℕ) → WaitFits Any words.SubWait (SubWait object)
  sub-fits object = record { opens = opens; ends = ends; quits = quits } where
    opens : (waits : Bool) (r : StepReply) → Any r → Told decls (steps.Obs object (obs_ops.Take waits)) r → WaitsWell (opening_progress words.SubWait r)
    opens waits (step_replies.Obs at r place) such (inl is) =
        in-each (λ r. WaitsWell (opening_progress words.SubWait (step_replies.Obs at r place))) (obs_read.fixed_replies obs_verbs.Take) (λ sized. inl (inl refl), (tt, tt)) r is
    opens waits (step_replies.Obs at r place) such (inr fits) = sub-opened at place r fits
    opens waits r such told = absurd told

    ends : (place : ℕ) (r : StepReply) → Any r → Told decls (steps.Obs object (obs_ops.TakeEnd place)) r → Suits decls words.SubWait (answer_of r)
    ends place (step_replies.Obs at r since) such (inl is) = absurd is
    ends place (step_replies.Obs at r since) such (inr fits) = got-channel r fits
    ends place r such told = absurd told

    quits : (place : ℕ) (r : StepReply) → Any r → Told decls (steps.Obs object (obs_ops.TakeQuit place)) r → Suits decls words.SubWait (answer_of r)
    quits place (step_replies.Obs at r since) such (inl is) =
        in-each (λ r. Suits decls words.SubWait (obs_answer r)) (obs_read.fixed_replies obs_verbs.TakeQuit) (λ sized. inl (inr (inl refl)), tt) r is
    quits place (step_replies.Obs at r since) such (inr fits) = got-channel r fits
    quits place r such told = absurd told

  -- Calls that use a channel. That they got it is none of their answers.

  abbrev NotGot : StepReply → Type 0
  NotGot (step_replies.Chan at chan_replies.Got place) = ⊥
  NotGot r = Unit {0}

  module _ (word : Word) (busy : FitsAnswer decls word (answers.Refused Busy)) (again : FitsAnswer decls word (answers.Refused Again)) where
    asked-ends : (object place : ℕ) (r : StepReply) → NotGot r → Told decls (steps.Chan object (chan_ops.ClaimEnd place)) r → Suits decls word (answer_of r)
    asked-ends object place (step_replies.Chan at r since) such (inl is) =
        in-each (λ r. NotGot (step_replies.Chan at r since) → Suits decls word (chan_answer r)) (chan_read.fixed_replies chan_verbs.ClaimEnd) (λ got. absurd got, tt) r is such
    asked-ends object place (step_replies.Chan at r since) such (inr fits) = absurd fits
    asked-ends object place r such told = absurd told

    asked-quits : (object place : ℕ) (r : StepReply) → NotGot r → Told decls (steps.Chan object (chan_ops.ClaimQuit place)) r → Suits decls word (answer_of r)
    asked-quits object place (step_replies.Chan at r since) such (inl is) =
        in-each (λ r. NotGot (step_replies.Chan at r since) → Suits decls word (chan_answer r)) (chan_read.fixed_replies chan_verbs.ClaimQuit) (λ got. absurd got, (λ other sized. again, tt)) r is such
    asked-quits object place (step_replies.Chan at r since) such (inr fits) = absurd fits
    asked-quits object place r such told = absurd told

    enter-fits : (object : ℕ) → WaitFits NotGot word (Enter object)
    enter-fits object = record { opens = opens; ends = asked-ends object; quits = asked-quits object } where
      opens : (waits : Bool) (r : StepReply) → NotGot r → Told decls (steps.Chan object (chan_ops.Enter waits)) r → WaitsWell (opening_progress word r)
      opens waits (step_replies.Chan at r place) such (inl is) =
          in-each (λ r. NotGot (step_replies.Chan at r place) → WaitsWell (opening_progress word (step_replies.Chan at r place))) (chan_read.fixed_replies chan_verbs.Enter)
          (λ got. absurd got, (λ other sized. busy, (λ other. tt, tt))) r is such
      opens waits (step_replies.Chan at r place) such (inr fits) = absurd fits
      opens waits r such told = absurd told

    offer-fits : (object : ℕ) (message : List ℕ) → FitsAnswer decls word (answers.Refused NoMsg) → WaitFits NotGot word (Offer object message)
    offer-fits object message none = record { opens = opens; ends = asked-ends object; quits = asked-quits object } where
      opens : (waits : Bool) (r : StepReply) → NotGot r → Told decls (steps.Chan object (chan_ops.Offer message waits)) r → WaitsWell (opening_progress word r)
      opens waits (step_replies.Chan at r place) such (inl is) =
          in-each (λ r. NotGot (step_replies.Chan at r place) → WaitsWell (opening_progress word (step_replies.Chan at r place))) (chan_read.fixed_replies chan_verbs.Offer)
          (λ got. absurd got, (λ other sized. busy, (λ other. tt, (λ other sized. none, tt)))) r is such
      opens waits (step_replies.Chan at r place) such (inr fits) = absurd fits
      opens waits r such told = absurd told

  -- what its other steps are answered
  pub record UseFits (word : Word) (chan : ℕ) (using_ : Using) (timeout : Timeout) : Type 0 where
    asks : WaitFits NotGot word (asks_for chan using_)
    uses : (r : StepReply) → Told decls (use_step chan using_) r → ProgressSuits decls (Channel chan using_ timeout) (holds_progress word r)
    still : (left more : List ℕ) (full later : Bool) → StageSuits decls (stages.Visits left full) (Channel chan using_ timeout) → StageSuits decls (stages.Visits more later) (Channel chan using_ timeout)
    visits : (left : List ℕ) (full : Bool) → StageSuits decls (stages.Visits left full) (Channel chan using_ timeout) → Suits decls word (visits_answer full)
    reads : (message : List ℕ) → StageSuits decls (stages.Reads message) (Channel chan using_ timeout) → Suits decls word (answers.Bytes message)

  asking-suits : (plan : Plan) (word : Word) (stage : Stage) (reply : StepReply) → (NotGot reply → WaitsWell (wait_progress word stage reply)) → ProgressSuits decls plan (asking_progress word stage reply)
  asking-suits plan word stage (step_replies.Chan at chan_replies.Got place) else_ = tt
  asking-suits plan word stage reply else_ = waits-suits plan (wait_progress word stage reply) (else_ tt)

  module _ (word : Word) (chan : ℕ) (using_ : Using) (timeout : Timeout) (fits : UseFits word chan using_ timeout) where
    abbrev own : Plan
    own = Channel chan using_ timeout

    visit-suits : (left : List ℕ) (full : Bool) (reply : StepReply) → StageSuits decls (stages.Visits left full) own → ProgressSuits decls own (visit_progress word left full reply)
    visit-suits left full (step_replies.Obs observer obs_replies.Run place) suits = fits.still left (rest_of left) full full suits
    visit-suits left full (step_replies.Obs observer obs_replies.Full place) suits = fits.still left (rest_of left) full true suits
    visit-suits left full (step_replies.Obs observer reply place) suits = fits.still left (rest_of left) full full suits
    visit-suits left full reply suits = fits.visits left full suits

    pub channel-suits : (stage : Stage) (k : ℕ) (made : Step) (reply : StepReply) → StageSuits decls stage own → slice_get (channel_attempts chan using_ timeout stage) k ≡ Some made → Told decls made reply →
        ProgressSuits decls own (channel_progress word stage reply)
    channel-suits stages.Holds k made reply suits ahead told = fits.uses reply (subst (λ (x : Step). Told decls x reply) (sym (slice_get-one (use_step chan using_) made k ahead)) told)
    channel-suits (stages.Visits left full) k made reply suits ahead told = visit-suits left full reply suits
    channel-suits (stages.Reads message) k made reply suits ahead told = fits.reads message suits
    channel-suits stage k made reply suits ahead told =
        asking-suits own word stage reply (λ such. wait-well NotGot word (asks_for chan using_) fits.asks timeout stage k made reply such ahead told)

  told-goes : (plan : Plan) (word : Word) → ((left : List ℕ) (full : Bool) → StageSuits decls (stages.Visits left full) plan) → (r : ChanReply) (at place : ℕ) → chan_read.IsTold decls r →
      ProgressSuits decls plan (holds_progress word (step_replies.Chan at r place))
  told-goes plan word visits (chan_replies.Observers told) at place is = visits told false
  told-goes plan word visits r at place is = absurd is

  pub publish-fits : (chan : ℕ) (message : List ℕ) (timeout : Timeout) → UseFits words.Publish chan (Publish message) timeout
  publish-fits chan message timeout = record {
    asks = offer-fits words.Publish (inl (inr (inl refl))) (inl (inr (inr (inl refl)))) chan message (inl (inl refl));
    uses = uses;
    still = λ left more full later suits. tt;
    visits = λ left full suits. visits full;
    reads = λ message suits. absurd suits;
  }
    where
      uses : (r : StepReply) → Told decls (steps.Chan chan (chan_ops.Set message)) r → ProgressSuits decls (Channel chan (Publish message) timeout) (holds_progress words.Publish r)
      uses (step_replies.Chan at r place) (inl is) = absurd is
      uses (step_replies.Chan at r place) (inr fits) = told-goes (Channel chan (Publish message) timeout) words.Publish (λ left full. tt) r at place fits
      uses r told = absurd told

      visits : (full : Bool) → Suits decls words.Publish (visits_answer full)
      visits true = λ sized. inl (inr (inr (inr (inl refl))))
      visits false = λ sized. inr (inr sized)

  pub notify-fits : (chan : ℕ) (timeout : Timeout) → UseFits words.Notify chan Notify timeout
  notify-fits chan timeout = record {
    asks = enter-fits words.Notify (inl (inl refl)) (inl (inr (inl refl))) chan;
    uses = uses;
    still = λ left more full later suits. tt;
    visits = λ left full suits. visits full;
    reads = λ message suits. absurd suits;
  }
    where
      uses : (r : StepReply) → Told decls (steps.Chan chan chan_ops.List) r → ProgressSuits decls (Channel chan Notify timeout) (holds_progress words.Notify r)
      uses (step_replies.Chan at r place) (inl is) = absurd is
      uses (step_replies.Chan at r place) (inr fits) = told-goes (Channel chan Notify timeout) words.Notify (λ left full. tt) r at place fits
      uses r told = absurd told

      visits : (full : Bool) → Suits decls words.Notify (visits_answer full)
      visits true = λ sized. inl (inr (inr (inl refl)))
      visits false = λ sized. inr (inr sized)

  pub read-fits : (chan : ℕ) (timeout : Timeout) → UseFits words.Read chan Read timeout
  read-fits chan timeout = record {
    asks = enter-fits words.Read (inl (inl refl)) (inl (inr (inl refl))) chan;
    uses = uses;
    still = λ left more full later suits. absurd suits;
    visits = λ left full suits. absurd suits;
    reads = λ message suits sized. inr (inr (record { size = suits; bytes = sized }));
  }
    where
      got : (r : ChanReply) (at place : ℕ) → chan_read.IsBytes r → ProgressSuits decls (Channel chan Read timeout) (holds_progress words.Read (step_replies.Chan at r place))
      got (chan_replies.Bytes message) at place fits = fits.size
      got r at place fits = absurd fits

      uses : (r : StepReply) → Told decls (steps.Chan chan chan_ops.Get) r → ProgressSuits decls (Channel chan Read timeout) (holds_progress words.Read r)
      uses (step_replies.Chan at r place) (inl is) = absurd is
      uses (step_replies.Chan at r place) (inr fits) = got r at place fits
      uses r told = absurd told

  -- Polls.

  ready-few : (n : ℕ) (marks : List Mark) → length (ready_from n marks) ≤ length marks
  ready-few n [] = omega arith
  ready-few n (mark ∷ marks) = by (is_ready mark) (ready-few (n + 1) marks) where
    by : (b : Bool) → length (ready_from (n + 1) marks) ≤ length marks → length (cond b (n ∷ ready_from (n + 1) marks) (ready_from (n + 1) marks)) ≤ suc (length marks)
    by true more = omega arith
    by false more = omega arith

  ready-suits : (marks : List Mark) → length marks ≡ MOST_EVENTS → Suits decls words.Poll (poll_answer marks)
  ready-suits marks long = by (list_any is_ready marks) where
    by : (b : Bool) → Suits decls words.Poll (cond b (answers.Ready (ready_from 0 marks)) (answers.Refused Again))
    by true = λ sized. inr (inr (record { few = le-leb (length (ready_from 0 marks)) MOST_EVENTS (omega (arith, ready-few 0 marks)); each = sized }))
    by false = λ sized. inl (inl refl)

  marked-long : (marks : List Mark) (place : Option ℕ) (mark : Mark) → length marks ≡ MOST_EVENTS → length (marked marks place mark) ≡ MOST_EVENTS
  marked-long marks None mark long = long
  marked-long marks (Some place) mark long = length-set marks place mark ∙ long

  poll-goes : (timeout : Timeout) (events : List Event) (alarm : Alarm) (marks : List Mark) → length marks ≡ MOST_EVENTS →
      ProgressSuits decls (Poll timeout events) (poll_goes words.Poll timeout events alarm marks)
  poll-goes timeout events alarm marks long = by (is_answered timeout events alarm marks) where
    by : (b : Bool) → ProgressSuits decls (Poll timeout events) (cond b (Answers words.Poll (poll_answer marks)) (Goes (stages.Polls alarm marks)))
    by true = ready-suits marks long
    by false = long

  pub poll-suits : (timeout : Timeout) (events : List Event) (stage : Stage) (made : Step) (reply : StepReply) → StageSuits decls stage (Poll timeout events) →
      ProgressSuits decls (Poll timeout events) (poll_progress words.Poll timeout events stage made reply)
  poll-suits timeout events stages.Start made (step_replies.Clock (clock_replies.At moment) place) suits = refl
  poll-suits timeout events stages.Start made reply suits =
      poll-goes timeout events (alarm_after Unset reply) (marked fresh (event_of events Unset fresh made) (mark_of reply)) (marked-long fresh (event_of events Unset fresh made) (mark_of reply) refl)
  poll-suits timeout events (stages.Polls alarm marks) made reply suits =
      poll-goes timeout events (alarm_after alarm reply) (marked marks (event_of events alarm marks made) (mark_of reply)) (marked-long marks (event_of events alarm marks made) (mark_of reply) suits)
  poll-suits timeout events stage made reply suits = suits
