-- Each call that a player answers, but those that use a channel, made the steps that its form says, and no other.
use Rattle.std.proofs.Common.{◌≡◌, ◌⊎◌, inl, inr, ℕ, zero, suc, Bool, true, false, Option, Some, None, List, [], ◌∷◌, ◌++◌, All, refl, sym, ap, subst, ◌∙◌}
use Rattle.std.specs.List.{slice_get}
use Rattle.std.proofs.lemmas.List.Elements.{All-head, All-tail}
use Rattle.std.proofs.lemmas.Option.{same_Some}
use Rattle.zk_base.proofs.Lists.{slice_get-one}
use Rattle.zk_line.specs.Calls.{word_of}
use Rattle.zk_line.specs.declared.types.Call.{Call}
use Rattle.zk_line.specs.declared.types.Call.TheVariants as calls
use Rattle.zk_line.specs.declared.types.Decl.{Decl}
use Rattle.zk_model_bus.specs.declared.channel.ChanReply.TheVariants as chan_replies
use Rattle.zk_model_bus.specs.declared.observer.ObsReply.TheVariants as obs_replies
use Rattle.zk_model_wait.specs.declared.clock.ClockOp.TheVariants as clock_ops
use Rattle.zk_model_wait.specs.declared.clock.ClockReply.TheVariants as clock_replies
use Rattle.zk_model_wait.specs.declared.msgq.MsgqReply.TheVariants as msgq_replies
use Rattle.zk_model_wait.specs.declared.sem.SemReply.TheVariants as sem_replies
use Rattle.zk_model_work.specs.declared.ops.WorkReply.TheVariants as work_replies
use Rattle.zk_words.specs.declared.timeout.Timeout.{Timeout}
use Rattle.zk_words.specs.declared.timeout.Timeout.TheVariants.{No, Forever, Ticks}
use Rattle.zk_words.specs.declared.word.Word.{Word}
use Rattle.zk_words.specs.declared.word.Word.TheVariants as words
use Rattle.zk_worker.specs.Follows.{StepMade}
use Rattle.zk_worker.specs.declared.answers.Answer.{Answer}
use Rattle.zk_worker.specs.declared.frames.Closing.{Closing}
use Rattle.zk_worker.specs.declared.frames.Plan.{Plan}
use Rattle.zk_worker.specs.declared.frames.Plan.TheVariants.{One, Pair, Twice, Wait, Poll, Channel}
use Rattle.zk_worker.specs.declared.frames.Progress.{Progress}
use Rattle.zk_worker.specs.declared.frames.Progress.TheVariants.{Goes, Answers}
use Rattle.zk_worker.specs.declared.frames.Stage.{Stage}
use Rattle.zk_worker.specs.declared.frames.Stage.TheVariants as stages
use Rattle.zk_worker.specs.declared.frames.Using.{Using}
use Rattle.zk_worker.specs.declared.frames.Waiting.{Waiting}
use Rattle.zk_worker.specs.declared.frames.Waiting.TheVariants as waitings
use Rattle.zk_worker.specs.declared.steps.Step.{Step}
use Rattle.zk_worker.specs.declared.steps.Step.TheVariants as steps
use Rattle.zk_worker.specs.declared.steps.StepReply.{StepReply}
use Rattle.zk_worker.specs.declared.steps.StepReply.TheVariants as step_replies
use Rattle.zk_player_laws.specs.CallLaws.{waits_at, IsToldBy, IsToldByBoth, IsTold, IsGivenUp, IsToldWithin, IsServed, IsMadeBy, MayComeIn, MayQuit, MayAsk, MayCome}
use Rattle.zk_worker.specs.Calls.{plan_of, closing_step, plan_attempts, plan_progress}
use Rattle.zk_player_laws.specs.PollLaws as polls
use Rattle.zk_worker.specs.Publishes.{asks_for, channel_attempts, asking_progress, channel_progress}
use Rattle.zk_worker.specs.Replies.{answer_of}
use Rattle.zk_player_laws.specs.StackLaws.{is_reply_to}
use Rattle.zk_worker.specs.Waits.{open_step, end_step, quit_step, wait_attempts, opening_progress, with_alarm, wait_progress}
use Rattle.zk_player_laws.proofs.CallsPlayed.{Leads, LeadsOn, IsDone, plan-stays}
use Rattle.zk_player_laws.proofs.OtherCalls.{is_with_channel}
use Rattle.zk_player_laws.proofs.PollLogs.{poll-leads}

-- the reply is of the step's service
abbrev pub IsFit : StepMade → Type 0
IsFit made = is_reply_to made.0 made.1 ≡ true

-- A reply that may begin a wait.

pub record Opens (word : Word) (reply : StepReply) (progress : Progress) : Type 0 where
  pub waits : (place : ℕ) → waits_at reply ≡ Some place → progress ≡ Goes (stages.Waits place)
  pub served : waits_at reply ≡ None → progress ≡ Answers word (answer_of reply)

pub opens : (word : Word) (reply : StepReply) → Opens word reply (opening_progress word reply)
opens word (step_replies.Work work_replies.Wait place) = record { waits = λ p is. ap (λ (k : ℕ). Goes (stages.Waits k)) (same_Some place p is); served = λ is. absurd (cc) }
opens word (step_replies.Work (work_replies.WaitFor admission) place) = record { waits = λ p is. ap (λ (k : ℕ). Goes (stages.Waits k)) (same_Some place p is); served = λ is. absurd (cc) }
opens word (step_replies.Sem object sem_replies.Wait place) = record { waits = λ p is. ap (λ (k : ℕ). Goes (stages.Waits k)) (same_Some place p is); served = λ is. absurd (cc) }
opens word (step_replies.Msgq object msgq_replies.Wait place) = record { waits = λ p is. ap (λ (k : ℕ). Goes (stages.Waits k)) (same_Some place p is); served = λ is. absurd (cc) }
opens word (step_replies.Chan object chan_replies.Wait place) = record { waits = λ p is. ap (λ (k : ℕ). Goes (stages.Waits k)) (same_Some place p is); served = λ is. absurd (cc) }
opens word (step_replies.Obs object obs_replies.Wait place) = record { waits = λ p is. ap (λ (k : ℕ). Goes (stages.Waits k)) (same_Some place p is); served = λ is. absurd (cc) }
opens word reply = record { waits = λ p is. absurd (cc); served = λ is. refl }

-- where it goes on the call waits, and where it is answered it doesn't
opens-goes : (word : Word) (reply : StepReply) (stage : Stage) → opening_progress word reply ≡ Goes stage → (place : ℕ) × (waits_at reply ≡ Some place) × (stages.Waits place ≡ stage)
opens-goes word reply stage comes = by (waits_at reply) refl where
  by : (o : Option ℕ) → waits_at reply ≡ o → (place : ℕ) × (waits_at reply ≡ Some place) × (stages.Waits place ≡ stage)
  by (Some place) is = (place, is, (let goes = sym ((opens word reply).waits place is) ∙ comes in cc))
  by None is = absurd (let served = sym ((opens word reply).served is) ∙ comes in cc)

opens-answers : (word : Word) (reply : StepReply) (answer : Answer) → opening_progress word reply ≡ Answers word answer → (waits_at reply ≡ None) × (answer ≡ answer_of reply)
opens-answers word reply answer comes = by (waits_at reply) refl where
  by : (o : Option ℕ) → waits_at reply ≡ o → (waits_at reply ≡ None) × (answer ≡ answer_of reply)
  by (Some place) is = absurd (let goes = sym ((opens word reply).waits place is) ∙ comes in cc)
  by None is = (is, (let served = sym ((opens word reply).served is) ∙ comes in cc))

-- an answer is the one that comes
answer-same : {word : Word} (reply : StepReply) (answer : Answer) → Answers word (answer_of reply) ≡ Answers word answer → answer ≡ answer_of reply
answer-same reply answer same = cc

-- the one attempt there is was made
pub made-one : (step : Step) (index : ℕ) (made : StepMade) → slice_get (step ∷ []) index ≡ Some made.0 → made ≡ (step, made.1)
made-one step index made is = ap (λ (x : Step). (x, made.1)) (sym (slice_get-one step made.0 index is))

one-play : (step : Step) (made : StepMade) (play : List StepMade) → play ≡ made ∷ [] → made ≡ (step, made.1) → play ≡ (step, made.1) ∷ []
one-play step made play whole same = whole ∙ ap (λ (x : StepMade). x ∷ []) same

-- One step, and two.

told-one : (word : Word) (step : Step) (front : List StepMade) (last : StepMade) (stage : Stage) (play : List StepMade) (answer : Answer) → play ≡ front ++ last ∷ [] → LeadsOn word (One step) stages.Start front stage →
    Leads word (One step) stage last (Answers word answer) → IsToldBy step play answer
told-one word step [] last stage play answer whole led answered =
    let ahead : slice_get (step ∷ []) answered.index ≡ Some last.0 = ap (λ (t : Stage). slice_get (plan_attempts (One step) t) answered.index) led ∙ answered.ahead in
    (last.1, one-play step last play whole (made-one step answered.index last ahead), answer-same last.1 answer answered.comes)
told-one word step (m ∷ more) last stage play answer whole led answered = absurd (let goes = led.1.comes in cc)

told-both : (word : Word) (first second : Step) (front : List StepMade) (last : StepMade) (stage : Stage) (play : List StepMade) (answer : Answer) → play ≡ front ++ last ∷ [] →
    LeadsOn word (Twice first second) stages.Start front stage → Leads word (Twice first second) stage last (Answers word answer) → IsToldByBoth first second play answer
told-both word first second [] last stage play answer whole led answered =
    absurd (let comes = ap (λ (t : Stage). plan_progress word (Twice first second) t last.0 last.1) led ∙ answered.comes in cc)
told-both word first second (m ∷ []) last stage play answer whole led answered =
    let half : stages.Halfway ≡ stage = (let goes = led.1.comes in let end = led.2 in cc) in
    let earlier : m ≡ (first, m.1) = made-one first led.1.index m led.1.ahead in
    let ahead : slice_get (second ∷ []) answered.index ≡ Some last.0 = ap (λ (t : Stage). slice_get (plan_attempts (Twice first second) t) answered.index) half ∙ answered.ahead in
    let later : last ≡ (second, last.1) = made-one second answered.index last ahead in
    let comes : Answers word (answer_of last.1) ≡ Answers word answer = ap (λ (t : Stage). plan_progress word (Twice first second) t last.0 last.1) half ∙ answered.comes in (
      m.1,
      last.1,
      whole ∙ ap (λ (x : StepMade). x ∷ last ∷ []) earlier ∙ ap (λ (x : StepMade). (first, m.1) ∷ x ∷ []) later,
      answer-same last.1 answer comes,
    )
told-both word first second (m ∷ n ∷ more) last stage play answer whole led answered =
    absurd (let half : stages.Halfway ≡ led.0 = (let goes = led.1.comes in cc) in
    let comes = ap (λ (t : Stage). plan_progress word (Twice first second) t n.0 n.1) half ∙ led.2.1.comes in cc)

-- A call that may wait, from the step that may begin its wait on.

module _ (word : Word) (plan : Plan) (start : Stage) (opening : Step) (closing : ℕ → Step) (waiting_at : ℕ → Stage) (opens_so : plan_attempts plan start ≡ opening ∷ []) where
  -- what is so of the step that may begin the wait
  Begins : Type 0
  Begins = (made : StepMade) (progress : Progress) → IsFit made → made ≡ (opening, made.1) → plan_progress word plan start made.0 made.1 ≡ progress →
      ((stage : Stage) → progress ≡ Goes stage → (place : ℕ) × (waits_at made.1 ≡ Some place) × (waiting_at place ≡ stage))
      × ((answer : Answer) → progress ≡ Answers word answer → (waits_at made.1 ≡ None) × (answer ≡ answer_of made.1))

  -- the steps of a call from there on, where it waits for one thing alone
  record Ends : Type 0 where
    attempts : (place : ℕ) → plan_attempts plan (waiting_at place) ≡ closing place ∷ []
    comes : (place : ℕ) (made : StepMade) → IsFit made → made ≡ (closing place, made.1) → plan_progress word plan (waiting_at place) made.0 made.1 ≡ Answers word (answer_of made.1)

  told-wait : Begins → Ends → (front : List StepMade) (last : StepMade) (stage : Stage) (play : List StepMade) (answer : Answer) → play ≡ front ++ last ∷ [] → LeadsOn word plan start front stage →
      Leads word plan stage last (Answers word answer) → All IsFit (front ++ last ∷ []) → IsTold opening closing play answer
  unfolding Begins
  told-wait begins ends [] last stage play answer whole led answered fit =
      let ahead : slice_get (opening ∷ []) answered.index ≡ Some last.0 =
      ap (λ (l : List Step). slice_get l answered.index) (sym opens_so) ∙ ap (λ (t : Stage). slice_get (plan_attempts plan t) answered.index) led ∙ answered.ahead in
      let same : last ≡ (opening, last.1) = made-one opening answered.index last ahead in
      let comes = ap (λ (t : Stage). plan_progress word plan t last.0 last.1) led ∙ answered.comes in
      let told = (begins last (Answers word answer) (All-head IsFit last [] fit) same comes).1 answer refl in
      inl (last.1, told.0, one-play opening last play whole same, told.1)
  told-wait begins ends (m ∷ []) last stage play answer whole led answered fit =
      let first : m ≡ (opening, m.1) = made-one opening led.1.index m (ap (λ (l : List Step). slice_get l led.1.index) (sym opens_so) ∙ led.1.ahead) in
      let waits = (begins m (Goes led.0) (All-head IsFit m (last ∷ []) fit) first led.1.comes).0 led.0 refl in
      let at : waiting_at waits.0 ≡ stage = waits.2 ∙ led.2 in
      let ahead : slice_get (closing waits.0 ∷ []) answered.index ≡ Some last.0 =
      ap (λ (l : List Step). slice_get l answered.index) (sym (ends.attempts waits.0)) ∙ ap (λ (t : Stage). slice_get (plan_attempts plan t) answered.index) at ∙ answered.ahead in
      let second : last ≡ (closing waits.0, last.1) = made-one (closing waits.0) answered.index last ahead in
      let comes : Answers word (answer_of last.1) ≡ Answers word answer =
      sym (ends.comes waits.0 last (All-head IsFit last [] (All-tail IsFit m (last ∷ []) fit)) second) ∙ ap (λ (t : Stage). plan_progress word plan t last.0 last.1) at ∙ answered.comes in
      inr (m.1, last.1, waits.0, waits.1, whole ∙ ap (λ (x : StepMade). x ∷ last ∷ []) first ∙ ap (λ (x : StepMade). (opening, m.1) ∷ x ∷ []) second, answer-same last.1 answer comes)
  told-wait begins ends (m ∷ n ∷ more) last stage play answer whole led answered fit =
      absurd (let first : m ≡ (opening, m.1) = made-one opening led.1.index m (ap (λ (l : List Step). slice_get l led.1.index) (sym opens_so) ∙ led.1.ahead) in
      let waits = (begins m (Goes led.0) (All-head IsFit m (n ∷ (more ++ last ∷ [])) fit) first led.1.comes).0 led.0 refl in
      let then = led.2 in
      let ahead : slice_get (closing waits.0 ∷ []) then.1.index ≡ Some n.0 =
      ap (λ (l : List Step). slice_get l then.1.index) (sym (ends.attempts waits.0)) ∙ ap (λ (t : Stage). slice_get (plan_attempts plan t) then.1.index) waits.2 ∙ then.1.ahead in
      let second : n ≡ (closing waits.0, n.1) = made-one (closing waits.0) then.1.index n ahead in
      let comes : Answers word (answer_of n.1) ≡ Goes then.0 =
      sym (ends.comes waits.0 n (All-head IsFit n (more ++ last ∷ []) (All-tail IsFit m (n ∷ (more ++ last ∷ [])) fit)) second) ∙ ap (λ (t : Stage). plan_progress word plan t n.0 n.1) waits.2 ∙ then.1.comes in
      cc)

-- what a reply that may begin a wait does, where the step leads as it says
opens-so : (word : Word) (reply : StepReply) (progress : Progress) → opening_progress word reply ≡ progress →
    ((stage : Stage) → progress ≡ Goes stage → (place : ℕ) × (waits_at reply ≡ Some place) × (stages.Waits place ≡ stage))
    × ((answer : Answer) → progress ≡ Answers word answer → (waits_at reply ≡ None) × (answer ≡ answer_of reply))
opens-so word reply progress comes = (λ stage goes. opens-goes word reply stage (comes ∙ goes), λ answer answers. opens-answers word reply answer (comes ∙ answers))

pub fits-step : (step : Step) (made : StepMade) → IsFit made → made ≡ (step, made.1) → is_reply_to step made.1 ≡ true
fits-step step made fit same = subst (λ (m : StepMade). is_reply_to m.0 m.1 ≡ true) same fit

told-pair : (word : Word) (opening : Step) (closing : Closing) (done : (play : List StepMade) × (answer : Answer) × IsDone word (Pair opening closing) play answer) → All IsFit done.0 →
    IsTold opening (closing_step closing) done.0 done.1
unfolding Begins
told-pair word opening closing done fit =
    told-wait word (Pair opening closing) stages.Start opening (closing_step closing) stages.Waits refl
    (λ made progress fits same comes. opens-so word made.1 progress comes)
    (record { attempts = λ place. refl; comes = λ place made fits same. refl }) done.2.front done.2.last done.2.stage done.0 done.1 done.2.whole done.2.led done.2.answered
    (subst (All IsFit) done.2.whole fit)

-- the step that opens a wait is at no clock, nor is its end
pub starts-so : (word : Word) (waiting : Waiting) (waits : Bool) (reply : StepReply) → is_reply_to (open_step waiting waits) reply ≡ true → wait_progress word stages.Start reply ≡ opening_progress word reply
starts-so word waiting waits (step_replies.Clock reply place) fit = absurd (by waiting fit) where
  by : (waiting : Waiting) → is_reply_to (open_step waiting waits) (step_replies.Clock reply place) ≡ true → ⊥
  by (waitings.Take object) fit = cc
  by (waitings.Put object message) fit = cc
  by (waitings.Get object) fit = cc
  by (waitings.Claim object) fit = cc
  by (waitings.SubWait object) fit = cc
  by (waitings.Offer object message) fit = cc
  by (waitings.Enter object) fit = cc
starts-so word waiting waits reply fit = refl

pub ends-so : (word : Word) (waiting : Waiting) (moment place : ℕ) (reply : StepReply) → is_reply_to (end_step waiting place) reply ≡ true →
    wait_progress word (stages.WaitsUntil place moment) reply ≡ Answers word (answer_of reply)
ends-so word waiting moment place (step_replies.Clock reply at) fit = absurd (by waiting fit) where
  by : (waiting : Waiting) → is_reply_to (end_step waiting place) (step_replies.Clock reply at) ≡ true → ⊥
  by (waitings.Take object) fit = cc
  by (waitings.Put object message) fit = cc
  by (waitings.Get object) fit = cc
  by (waitings.Claim object) fit = cc
  by (waitings.SubWait object) fit = cc
  by (waitings.Offer object message) fit = cc
  by (waitings.Enter object) fit = cc
ends-so word waiting moment place reply fit = refl

told-no : (word : Word) (waiting : Waiting) (play : List StepMade) (answer : Answer) (done : IsDone word (Wait waiting No) play answer) → All IsFit play → IsTold (open_step waiting false) (end_step waiting) play answer
unfolding Begins
told-no word waiting play answer done fit =
    told-wait word (Wait waiting No) stages.Start (open_step waiting false) (end_step waiting) stages.Waits refl
    (λ made progress fits same comes. opens-so word made.1 progress (sym (starts-so word waiting false made.1 (fits-step (open_step waiting false) made fits same)) ∙ comes))
    (record { attempts = λ place. refl; comes = λ place made fits same. refl }) done.front done.last done.stage play answer done.whole done.led done.answered (subst (All IsFit) done.whole fit)

told-forever : (word : Word) (waiting : Waiting) (play : List StepMade) (answer : Answer) (done : IsDone word (Wait waiting Forever) play answer) → All IsFit play →
    IsTold (open_step waiting true) (end_step waiting) play answer
unfolding Begins
told-forever word waiting play answer done fit =
    told-wait word (Wait waiting Forever) stages.Start (open_step waiting true) (end_step waiting) stages.Waits refl
    (λ made progress fits same comes. opens-so word made.1 progress (sym (starts-so word waiting true made.1 (fits-step (open_step waiting true) made fits same)) ∙ comes))
    (record { attempts = λ place. refl; comes = λ place made fits same. refl }) done.front done.last done.stage play answer done.whole done.led done.answered (subst (All IsFit) done.whole fit)

-- A call that waits with ticks.

pub alarm-at : (ticks : ℕ) (reply : StepReply) → is_reply_to (steps.Clock (clock_ops.Alarm ticks)) reply ≡ true → (moment place : ℕ) × (reply ≡ step_replies.Clock (clock_replies.At moment) place)
alarm-at ticks (step_replies.Clock (clock_replies.At moment) place) fit = (moment, place, refl)
alarm-at ticks (step_replies.Clock reply place) fit = absurd (cc)
alarm-at ticks reply fit = absurd (cc)

pub due-quits : (word : Word) (moment place : ℕ) (reply : StepReply) → is_reply_to (steps.Clock (clock_ops.AlarmEnd moment)) reply ≡ true →
    wait_progress word (stages.WaitsUntil place moment) reply ≡ Goes (stages.Quits place)
due-quits word moment place (step_replies.Clock reply at) fit = refl
due-quits word moment place reply fit = absurd (cc)

until-goes : (word : Word) (moment : ℕ) (reply : StepReply) (stage : Stage) → with_alarm moment (opening_progress word reply) ≡ Goes stage →
    (place : ℕ) × (waits_at reply ≡ Some place) × (stages.WaitsUntil place moment ≡ stage)
until-goes word moment reply stage comes = by (waits_at reply) refl where
  by : (o : Option ℕ) → waits_at reply ≡ o → (place : ℕ) × (waits_at reply ≡ Some place) × (stages.WaitsUntil place moment ≡ stage)
  by (Some place) is = (place, is, (let goes = sym (ap (with_alarm moment) ((opens word reply).waits place is)) ∙ comes in cc))
  by None is = absurd (let served = sym (ap (with_alarm moment) ((opens word reply).served is)) ∙ comes in cc)

until-answers : (word : Word) (moment : ℕ) (reply : StepReply) (answer : Answer) → with_alarm moment (opening_progress word reply) ≡ Answers word answer → (waits_at reply ≡ None) × (answer ≡ answer_of reply)
until-answers word moment reply answer comes = by (waits_at reply) refl where
  by : (o : Option ℕ) → waits_at reply ≡ o → (waits_at reply ≡ None) × (answer ≡ answer_of reply)
  by (Some place) is = absurd (let goes = sym (ap (with_alarm moment) ((opens word reply).waits place is)) ∙ comes in cc)
  by None is = (is, (let served = sym (ap (with_alarm moment) ((opens word reply).served is)) ∙ comes in cc))

module _ (word : Word) (waiting : Waiting) (ticks moment : ℕ) where
  abbrev plan : Plan
  plan = Wait waiting (Ticks ticks)

  -- a step of a call that waits until the moment of its alarm: the end of its wait, which answers it, or the end of its alarm
  ends-or-due : (place : ℕ) (made : StepMade) (progress : Progress) → Leads word plan (stages.WaitsUntil place moment) made progress → IsFit made →
      ((made ≡ (end_step waiting place, made.1)) × (progress ≡ Answers word (answer_of made.1)))
      ⊎ ((made ≡ (steps.Clock (clock_ops.AlarmEnd moment), made.1)) × (progress ≡ Goes (stages.Quits place)))
  ends-or-due place made progress leads fit = by leads.index leads.ahead where
    by : (index : ℕ) → slice_get (end_step waiting place ∷ steps.Clock (clock_ops.AlarmEnd moment) ∷ []) index ≡ Some made.0 →
        ((made ≡ (end_step waiting place, made.1)) × (progress ≡ Answers word (answer_of made.1)))
        ⊎ ((made ≡ (steps.Clock (clock_ops.AlarmEnd moment), made.1)) × (progress ≡ Goes (stages.Quits place)))
    by zero ahead =
        let same : made ≡ (end_step waiting place, made.1) = ap (λ (x : Step). (x, made.1)) (sym (same_Some (end_step waiting place) made.0 ahead)) in
        inl (same, sym leads.comes ∙ ends-so word waiting moment place made.1 (fits-step (end_step waiting place) made fit same))
    by (suc index) ahead =
        let same : made ≡ (steps.Clock (clock_ops.AlarmEnd moment), made.1) = made-one (steps.Clock (clock_ops.AlarmEnd moment)) index made ahead in
        inr (same, sym leads.comes ∙ due-quits word moment place made.1 (fits-step (steps.Clock (clock_ops.AlarmEnd moment)) made fit same))

  opened : (made : StepMade) (progress : Progress) → Leads word plan (stages.Alarmed moment) made progress → made ≡ (open_step waiting true, made.1)
  opened made progress leads = made-one (open_step waiting true) leads.index made leads.ahead

  quits : (place : ℕ) (made : StepMade) (progress : Progress) → Leads word plan (stages.Quits place) made progress → made ≡ (quit_step waiting place, made.1)
  quits place made progress leads = made-one (quit_step waiting place) leads.index made leads.ahead

  leads-at : (stage other : Stage) (made : StepMade) (progress : Progress) → other ≡ stage → Leads word plan stage made progress → Leads word plan other made progress
  leads-at stage other made progress same leads = subst (λ (t : Stage). Leads word plan t made progress) (sym same) leads

  -- from the alarm on
  told-alarmed : (front : List StepMade) (last : StepMade) (stage : Stage) (answer : Answer) → LeadsOn word plan (stages.Alarmed moment) front stage → Leads word plan stage last (Answers word answer) →
      All IsFit (front ++ last ∷ []) → IsTold (open_step waiting true) (end_step waiting) (front ++ last ∷ []) answer ⊎ IsGivenUp waiting moment (front ++ last ∷ []) answer
  told-alarmed [] last stage answer led answered fit =
      let here = leads-at stage (stages.Alarmed moment) last (Answers word answer) led answered in
      let told = until-answers word moment last.1 answer here.comes in
      inl (inl (last.1, told.0, ap (λ (x : StepMade). x ∷ []) (opened last (Answers word answer) here), told.1))
  told-alarmed (o ∷ []) last stage answer led answered fit =
      let first = opened o (Goes led.0) led.1 in
      let waits = until-goes word moment o.1 led.0 led.1.comes in
      let here = leads-at stage (stages.WaitsUntil waits.0 moment) last (Answers word answer) (waits.2 ∙ led.2) answered in
      by waits.0 waits.1 first (ends-or-due waits.0 last (Answers word answer) here (All-head IsFit last [] (All-tail IsFit o (last ∷ []) fit)))
    where
      by : (place : ℕ) → waits_at o.1 ≡ Some place → o ≡ (open_step waiting true, o.1) →
          ((last ≡ (end_step waiting place, last.1)) × (Answers word answer ≡ Answers word (answer_of last.1)))
          ⊎ ((last ≡ (steps.Clock (clock_ops.AlarmEnd moment), last.1)) × (Answers word answer ≡ Goes (stages.Quits place))) →
          IsTold (open_step waiting true) (end_step waiting) (o ∷ last ∷ []) answer ⊎ IsGivenUp waiting moment (o ∷ last ∷ []) answer
      by place waits first (inl ends) =
          inl (inr (o.1, last.1, place, waits, ap (λ (x : StepMade). x ∷ last ∷ []) first ∙ ap (λ (x : StepMade). (open_step waiting true, o.1) ∷ x ∷ []) ends.0, answer-same last.1 answer (sym ends.1)))
      by place waits first (inr due) = absurd (let never = due.1 in cc)
  told-alarmed (o ∷ c ∷ more) last stage answer led answered fit =
      let first = opened o (Goes led.0) led.1 in
      let waits = until-goes word moment o.1 led.0 led.1.comes in
      let then = led.2 in
      let here = leads-at led.0 (stages.WaitsUntil waits.0 moment) c (Goes then.0) waits.2 then.1 in
      by more waits.0 waits.1 first then.0 (ends-or-due waits.0 c (Goes then.0) here (All-head IsFit c (more ++ last ∷ []) (All-tail IsFit o (c ∷ (more ++ last ∷ [])) fit))) then.2
    where
      by : (more : List StepMade) (place : ℕ) → waits_at o.1 ≡ Some place → o ≡ (open_step waiting true, o.1) → (end : Stage) →
          ((c ≡ (end_step waiting place, c.1)) × (Goes end ≡ Answers word (answer_of c.1)))
          ⊎ ((c ≡ (steps.Clock (clock_ops.AlarmEnd moment), c.1)) × (Goes end ≡ Goes (stages.Quits place))) → LeadsOn word plan end more stage →
          IsTold (open_step waiting true) (end_step waiting) (o ∷ c ∷ (more ++ last ∷ [])) answer ⊎ IsGivenUp waiting moment (o ∷ c ∷ (more ++ last ∷ [])) answer
      by more place waits first end (inl ends) rest = absurd (let never = ends.1 in cc)
      by [] place waits first end (inr due) rest =
          let at : stages.Quits place ≡ stage = (let goes = due.1 in cc) in
          let here = leads-at stage (stages.Quits place) last (Answers word answer) at answered in
          inr (
            o.1,
            c.1,
            last.1,
            place,
            waits,
            ap (λ (x : StepMade). x ∷ c ∷ last ∷ []) first ∙ ap (λ (x : StepMade). (open_step waiting true, o.1) ∷ x ∷ last ∷ []) due.0
                ∙ ap (λ (x : StepMade). (open_step waiting true, o.1) ∷ (steps.Clock (clock_ops.AlarmEnd moment), c.1) ∷ x ∷ []) (quits place last (Answers word answer) here),
            answer-same last.1 answer here.comes,
          )
      by (d ∷ others) place waits first end (inr due) rest =
          absurd (let at : stages.Quits place ≡ end = (let goes = due.1 in cc) in
          let here = leads-at end (stages.Quits place) d (Goes rest.0) at rest.1 in
          let never = here.comes in cc)

told-within : (word : Word) (waiting : Waiting) (ticks : ℕ) (front : List StepMade) (last : StepMade) (stage : Stage) (play : List StepMade) (answer : Answer) → play ≡ front ++ last ∷ [] →
    LeadsOn word (Wait waiting (Ticks ticks)) stages.Start front stage → Leads word (Wait waiting (Ticks ticks)) stage last (Answers word answer) → All IsFit (front ++ last ∷ []) →
    IsToldWithin waiting ticks play answer
told-within word waiting ticks [] last stage play answer whole led answered fit =
    absurd (let here = subst (λ (t : Stage). Leads word (Wait waiting (Ticks ticks)) t last (Answers word answer)) (sym led) answered in
    let same : last ≡ (steps.Clock (clock_ops.Alarm ticks), last.1) = made-one (steps.Clock (clock_ops.Alarm ticks)) here.index last here.ahead in
    let at = alarm-at ticks last.1 (fits-step (steps.Clock (clock_ops.Alarm ticks)) last (All-head IsFit last [] fit) same) in
    let never = ap (wait_progress word stages.Start) (sym at.2) ∙ here.comes in cc)
told-within word waiting ticks (m ∷ more) last stage play answer whole led answered fit =
    let same : m ≡ (steps.Clock (clock_ops.Alarm ticks), m.1) = made-one (steps.Clock (clock_ops.Alarm ticks)) led.1.index m led.1.ahead in
    let at = alarm-at ticks m.1 (fits-step (steps.Clock (clock_ops.Alarm ticks)) m (All-head IsFit m (more ++ last ∷ []) fit) same) in
    let goes : stages.Alarmed at.0 ≡ led.0 = (let comes = ap (wait_progress word stages.Start) (sym at.2) ∙ led.1.comes in cc) in
    let rest : LeadsOn word (Wait waiting (Ticks ticks)) (stages.Alarmed at.0) more stage = subst (λ (t : Stage). LeadsOn word (Wait waiting (Ticks ticks)) t more stage) (sym goes) led.2 in (
      at.0,
      at.1,
      more ++ last ∷ [],
      whole ∙ ap (λ (x : StepMade). x ∷ (more ++ last ∷ [])) same ∙ ap (λ (r : StepReply). (steps.Clock (clock_ops.Alarm ticks), r) ∷ (more ++ last ∷ [])) at.2,
      told-alarmed word waiting ticks at.0 more last stage answer rest answered (All-tail IsFit m (more ++ last ∷ []) fit),
    )

-- A call that asks for its channel.

-- until it has that, it makes the steps of a wait
pub ask-attempts : (chan : ℕ) (using_ : Using) (timeout : Timeout) (stage : Stage) → is_with_channel stage ≡ false → channel_attempts chan using_ timeout stage ≡ wait_attempts (asks_for chan using_) timeout stage
ask-attempts chan using_ timeout stages.Holds asks = absurd (cc)
ask-attempts chan using_ timeout (stages.Visits left full) asks = absurd (cc)
ask-attempts chan using_ timeout (stages.Reads message) asks = absurd (cc)
ask-attempts chan using_ timeout stage asks = refl

pub ask-progress : (word : Word) (stage : Stage) (reply : StepReply) → is_with_channel stage ≡ false → channel_progress word stage reply ≡ asking_progress word stage reply
ask-progress word stages.Holds reply asks = absurd (cc)
ask-progress word (stages.Visits left full) reply asks = absurd (cc)
ask-progress word (stages.Reads message) reply asks = absurd (cc)
ask-progress word stage reply asks = refl

asking-waits : (word : Word) (stage : Stage) (reply : StepReply) (progress : Progress) → asking_progress word stage reply ≡ progress → (progress ≡ Goes stages.Holds → ⊥) → wait_progress word stage reply ≡ progress
asking-waits word stage (step_replies.Chan chan chan_replies.Got place) progress comes other = absurd (other (sym comes))
asking-waits word stage reply progress comes other = comes

as-wait : (word : Word) (chan : ℕ) (using_ : Using) (timeout : Timeout) (stage : Stage) (made : StepMade) (progress : Progress) → is_with_channel stage ≡ false → (progress ≡ Goes stages.Holds → ⊥) →
    Leads word (Channel chan using_ timeout) stage made progress → Leads word (Wait (asks_for chan using_) timeout) stage made progress
as-wait word chan using_ timeout stage made progress asks other leads = record {
  index = leads.index;
  ahead = ap (λ (l : List Step). slice_get l leads.index) (sym (ask-attempts chan using_ timeout stage asks)) ∙ leads.ahead;
  comes = asking-waits word stage made.1 progress (sym (ask-progress word stage made.1 asks) ∙ leads.comes) other;
}

-- before a stage without its channel it hadn't that either
asks-first : (word : Word) (form : Plan) (stage : Stage) (play : List StepMade) (end : Stage) → LeadsOn word form stage play end → is_with_channel end ≡ false → is_with_channel stage ≡ false
asks-first word form stage [] end led asks = ap is_with_channel led ∙ asks
asks-first word form stage (m ∷ more) end led asks =
    plan-stays word form stage led.1.index m led.0 led.1.ahead led.1.comes (asks-first word form led.0 more end led.2 asks)

waits-on : (word : Word) (chan : ℕ) (using_ : Using) (timeout : Timeout) (stage : Stage) (play : List StepMade) (end : Stage) → LeadsOn word (Channel chan using_ timeout) stage play end →
    is_with_channel end ≡ false → LeadsOn word (Wait (asks_for chan using_) timeout) stage play end
waits-on word chan using_ timeout stage [] end led asks = led
waits-on word chan using_ timeout stage (m ∷ more) end led asks =
    let next = asks-first word (Channel chan using_ timeout) led.0 more end led.2 asks in
    let here = asks-first word (Channel chan using_ timeout) stage (m ∷ more) end led asks in (
      led.0,
      as-wait word chan using_ timeout stage m (Goes led.0) here (λ holds. let with : led.0 ≡ stages.Holds = cc in let never = ap is_with_channel with in cc) led.1,
      waits-on word chan using_ timeout led.0 more end led.2 asks,
    )

asked : (word : Word) (chan : ℕ) (using_ : Using) (timeout : Timeout) (play : List StepMade) (answer : Answer) → IsDone word (Channel chan using_ timeout) play answer →
    IsDone word (Wait (asks_for chan using_) timeout) play answer
asked word chan using_ timeout play answer done = record {
  front = done.front;
  last = done.last;
  stage = done.stage;
  whole = done.whole;
  led = waits-on word chan using_ timeout stages.Start done.front done.stage done.led done.asks;
  asks = done.asks;
  answered = as-wait word chan using_ timeout done.stage done.last (Answers word answer) done.asks (λ is. cc) done.answered;
}

-- By the form of the call.

served : (word : Word) (waiting : Waiting) (timeout : Timeout) (play : List StepMade) (answer : Answer) → IsDone word (Wait waiting timeout) play answer → All IsFit play → IsServed waiting timeout play answer
served word waiting No play answer done fit = told-no word waiting play answer done fit
served word waiting Forever play answer done fit = told-forever word waiting play answer done fit
served word waiting (Ticks ticks) play answer done fit =
    told-within word waiting ticks done.front done.last done.stage play answer done.whole done.led done.answered (subst (All IsFit) done.whole fit)

pub made-so : (word : Word) (plan : Plan) (play : List StepMade) (answer : Answer) → IsDone word plan play answer → All IsFit play → IsMadeBy plan play answer
made-so word (One step) play answer done fit = told-one word step done.front done.last done.stage play answer done.whole done.led done.answered
made-so word (Pair opening closing) play answer done fit = told-pair word opening closing (play, answer, done) fit
made-so word (Twice first second) play answer done fit = told-both word first second done.front done.last done.stage play answer done.whole done.led done.answered
made-so word (Wait waiting timeout) play answer done fit = served word waiting timeout play answer done fit
made-so word (Poll timeout events) play answer done fit = tt
made-so word (Channel chan using_ timeout) play answer done fit = served word (asks_for chan using_) timeout play answer (asked word chan using_ timeout play answer done) fit

-- The step that comes next.

-- the one attempt there is comes next
comes-one : (first : Step) (index : ℕ) (step : Step) → slice_get (first ∷ []) index ≡ Some step → step ≡ first
comes-one first index step is = sym (slice_get-one first step index is)

next-one : (word : Word) (first : Step) (play : List StepMade) (stage : Stage) (index : ℕ) (step : Step) → LeadsOn word (One first) stages.Start play stage →
    slice_get (plan_attempts (One first) stage) index ≡ Some step → (play ≡ []) × (step ≡ first)
next-one word first [] stage index step led ahead = (refl, comes-one first index step (ap (λ (t : Stage). slice_get (plan_attempts (One first) t) index) led ∙ ahead))
next-one word first (m ∷ more) stage index step led ahead = absurd (let goes = led.1.comes in cc)

next-both : (word : Word) (first second : Step) (play : List StepMade) (stage : Stage) (index : ℕ) (step : Step) → LeadsOn word (Twice first second) stages.Start play stage →
    slice_get (plan_attempts (Twice first second) stage) index ≡ Some step → MayCome (Twice first second) play step
next-both word first second [] stage index step led ahead = inl (refl, comes-one first index step (ap (λ (t : Stage). slice_get (plan_attempts (Twice first second) t) index) led ∙ ahead))
next-both word first second (m ∷ []) stage index step led ahead =
    let half : stages.Halfway ≡ stage = (let goes = led.1.comes in let end = led.2 in cc) in
    let earlier : m ≡ (first, m.1) = made-one first led.1.index m led.1.ahead in
    inr (m.1, ap (λ (x : StepMade). x ∷ []) earlier, comes-one second index step (ap (λ (t : Stage). slice_get (plan_attempts (Twice first second) t) index) half ∙ ahead))
next-both word first second (m ∷ n ∷ more) stage index step led ahead =
    absurd (let half : stages.Halfway ≡ led.0 = (let goes = led.1.comes in cc) in
    let comes = ap (λ (t : Stage). plan_progress word (Twice first second) t n.0 n.1) half ∙ led.2.1.comes in cc)

module _ (word : Word) (plan : Plan) (start : Stage) (opening : Step) (closing : ℕ → Step) (waiting_at : ℕ → Stage) (opens_so : plan_attempts plan start ≡ opening ∷ [])
    (begins : Begins word plan start opening closing waiting_at opens_so) (ends : Ends word plan start opening closing waiting_at opens_so) where
  next-wait : (play : List StepMade) (stage : Stage) (index : ℕ) (step : Step) → LeadsOn word plan start play stage → slice_get (plan_attempts plan stage) index ≡ Some step → All IsFit play →
      MayComeIn opening closing play step
  unfolding Begins
  next-wait [] stage index step led ahead fit =
      inl (refl, comes-one opening index step (ap (λ (l : List Step). slice_get l index) (sym opens_so) ∙ ap (λ (t : Stage). slice_get (plan_attempts plan t) index) led ∙ ahead))
  next-wait (m ∷ []) stage index step led ahead fit =
      let first : m ≡ (opening, m.1) = made-one opening led.1.index m (ap (λ (l : List Step). slice_get l led.1.index) (sym opens_so) ∙ led.1.ahead) in
      let waits = (begins m (Goes led.0) (All-head IsFit m [] fit) first led.1.comes).0 led.0 refl in
      let at : waiting_at waits.0 ≡ stage = waits.2 ∙ led.2 in
      inr (
        m.1,
        waits.0,
        waits.1,
        ap (λ (x : StepMade). x ∷ []) first,
        comes-one (closing waits.0) index step (ap (λ (l : List Step). slice_get l index) (sym (ends.attempts waits.0)) ∙ ap (λ (t : Stage). slice_get (plan_attempts plan t) index) at ∙ ahead),
      )
  next-wait (m ∷ n ∷ more) stage index step led ahead fit =
      absurd (let first : m ≡ (opening, m.1) = made-one opening led.1.index m (ap (λ (l : List Step). slice_get l led.1.index) (sym opens_so) ∙ led.1.ahead) in
      let waits = (begins m (Goes led.0) (All-head IsFit m (n ∷ more) fit) first led.1.comes).0 led.0 refl in
      let then = led.2 in
      let at : slice_get (closing waits.0 ∷ []) then.1.index ≡ Some n.0 =
      ap (λ (l : List Step). slice_get l then.1.index) (sym (ends.attempts waits.0)) ∙ ap (λ (t : Stage). slice_get (plan_attempts plan t) then.1.index) waits.2 ∙ then.1.ahead in
      let second : n ≡ (closing waits.0, n.1) = made-one (closing waits.0) then.1.index n at in
      let comes : Answers word (answer_of n.1) ≡ Goes then.0 =
      sym (ends.comes waits.0 n (All-head IsFit n more (All-tail IsFit m (n ∷ more) fit)) second) ∙ ap (λ (t : Stage). plan_progress word plan t n.0 n.1) waits.2 ∙ then.1.comes in
      cc)

module _ (word : Word) (waiting : Waiting) (ticks moment : ℕ) where
  abbrev timed : Plan
  timed = Wait waiting (Ticks ticks)

  next-alarmed : (play : List StepMade) (stage : Stage) (index : ℕ) (step : Step) → LeadsOn word timed (stages.Alarmed moment) play stage → slice_get (plan_attempts timed stage) index ≡ Some step →
      All IsFit play → MayComeIn (open_step waiting true) (end_step waiting) play step ⊎ MayQuit waiting moment play step
  next-alarmed [] stage index step led ahead fit =
      inl (inl (refl, comes-one (open_step waiting true) index step (ap (λ (t : Stage). slice_get (plan_attempts timed t) index) led ∙ ahead)))
  next-alarmed (o ∷ []) stage index step led ahead fit =
      let first = opened word waiting ticks moment o (Goes led.0) led.1 in
      let waits = until-goes word moment o.1 led.0 led.1.comes in
      by waits.0 waits.1 first index (ap (λ (t : Stage). slice_get (plan_attempts timed t) index) (waits.2 ∙ led.2) ∙ ahead)
    where
      by : (place : ℕ) → waits_at o.1 ≡ Some place → o ≡ (open_step waiting true, o.1) → (index : ℕ) →
          slice_get (end_step waiting place ∷ steps.Clock (clock_ops.AlarmEnd moment) ∷ []) index ≡ Some step →
          MayComeIn (open_step waiting true) (end_step waiting) (o ∷ []) step ⊎ MayQuit waiting moment (o ∷ []) step
      by place waits first zero at = inl (inr (o.1, place, waits, ap (λ (x : StepMade). x ∷ []) first, sym (same_Some (end_step waiting place) step at)))
      by place waits first (suc index) at = inr (o.1, place, waits, inl (ap (λ (x : StepMade). x ∷ []) first, comes-one (steps.Clock (clock_ops.AlarmEnd moment)) index step at))
  next-alarmed (o ∷ c ∷ more) stage index step led ahead fit =
      let first = opened word waiting ticks moment o (Goes led.0) led.1 in
      let waits = until-goes word moment o.1 led.0 led.1.comes in
      let then = led.2 in
      let here = leads-at word waiting ticks moment led.0 (stages.WaitsUntil waits.0 moment) c (Goes then.0) waits.2 then.1 in
      by more waits.0 waits.1 first then.0 (ends-or-due word waiting ticks moment waits.0 c (Goes then.0) here (All-head IsFit c more (All-tail IsFit o (c ∷ more) fit))) then.2
    where
      by : (more : List StepMade) (place : ℕ) → waits_at o.1 ≡ Some place → o ≡ (open_step waiting true, o.1) → (end : Stage) →
          ((c ≡ (end_step waiting place, c.1)) × (Goes end ≡ Answers word (answer_of c.1)))
          ⊎ ((c ≡ (steps.Clock (clock_ops.AlarmEnd moment), c.1)) × (Goes end ≡ Goes (stages.Quits place))) → LeadsOn word timed end more stage →
          MayComeIn (open_step waiting true) (end_step waiting) (o ∷ c ∷ more) step ⊎ MayQuit waiting moment (o ∷ c ∷ more) step
      by more place waits first end (inl ends) rest = absurd (let never = ends.1 in cc)
      by [] place waits first end (inr due) rest =
          let at : stages.Quits place ≡ stage = (let goes = due.1 in cc) in
          inr (
            o.1,
            place,
            waits,
            inr (
              c.1,
              ap (λ (x : StepMade). x ∷ c ∷ []) first ∙ ap (λ (x : StepMade). (open_step waiting true, o.1) ∷ x ∷ []) due.0,
              comes-one (quit_step waiting place) index step (ap (λ (t : Stage). slice_get (plan_attempts timed t) index) at ∙ ahead),
            ),
          )
      by (d ∷ others) place waits first end (inr due) rest =
          absurd (let at : stages.Quits place ≡ end = (let goes = due.1 in cc) in
          let here = leads-at word waiting ticks moment end (stages.Quits place) d (Goes rest.0) at rest.1 in
          let never = here.comes in cc)

next-within : (word : Word) (waiting : Waiting) (ticks : ℕ) (play : List StepMade) (stage : Stage) (index : ℕ) (step : Step) → LeadsOn word (Wait waiting (Ticks ticks)) stages.Start play stage →
    slice_get (plan_attempts (Wait waiting (Ticks ticks)) stage) index ≡ Some step → All IsFit play → MayAsk waiting (Ticks ticks) play step
next-within word waiting ticks [] stage index step led ahead fit =
    inl (refl, comes-one (steps.Clock (clock_ops.Alarm ticks)) index step (ap (λ (t : Stage). slice_get (plan_attempts (Wait waiting (Ticks ticks)) t) index) led ∙ ahead))
next-within word waiting ticks (m ∷ more) stage index step led ahead fit =
    let same : m ≡ (steps.Clock (clock_ops.Alarm ticks), m.1) = made-one (steps.Clock (clock_ops.Alarm ticks)) led.1.index m led.1.ahead in
    let at = alarm-at ticks m.1 (fits-step (steps.Clock (clock_ops.Alarm ticks)) m (All-head IsFit m more fit) same) in
    let goes : stages.Alarmed at.0 ≡ led.0 = (let comes = ap (wait_progress word stages.Start) (sym at.2) ∙ led.1.comes in cc) in
    let rest : LeadsOn word (Wait waiting (Ticks ticks)) (stages.Alarmed at.0) more stage = subst (λ (t : Stage). LeadsOn word (Wait waiting (Ticks ticks)) t more stage) (sym goes) led.2 in
    inr (
      at.0,
      at.1,
      more,
      ap (λ (x : StepMade). x ∷ more) same ∙ ap (λ (r : StepReply). (steps.Clock (clock_ops.Alarm ticks), r) ∷ more) at.2,
      next-alarmed word waiting ticks at.0 more stage index step rest ahead (All-tail IsFit m more fit),
    )

may-ask : (word : Word) (waiting : Waiting) (timeout : Timeout) (play : List StepMade) (stage : Stage) (index : ℕ) (step : Step) → LeadsOn word (Wait waiting timeout) stages.Start play stage →
    slice_get (plan_attempts (Wait waiting timeout) stage) index ≡ Some step → All IsFit play → MayAsk waiting timeout play step
unfolding Begins
may-ask word waiting No play stage index step led ahead fit =
    next-wait word (Wait waiting No) stages.Start (open_step waiting false) (end_step waiting) stages.Waits refl
    (λ made progress fits same comes. opens-so word made.1 progress (sym (starts-so word waiting false made.1 (fits-step (open_step waiting false) made fits same)) ∙ comes))
    (record { attempts = λ place. refl; comes = λ place made fits same. refl }) play stage index step led ahead fit
may-ask word waiting Forever play stage index step led ahead fit =
    next-wait word (Wait waiting Forever) stages.Start (open_step waiting true) (end_step waiting) stages.Waits refl
    (λ made progress fits same comes. opens-so word made.1 progress (sym (starts-so word waiting true made.1 (fits-step (open_step waiting true) made fits same)) ∙ comes))
    (record { attempts = λ place. refl; comes = λ place made fits same. refl }) play stage index step led ahead fit
may-ask word waiting (Ticks ticks) play stage index step led ahead fit = next-within word waiting ticks play stage index step led ahead fit

-- a call that goes by the plan of a poll is one
abbrev pub IsPollWord : Word → Plan → Type 0
IsPollWord word (Poll timeout events) = word ≡ words.Poll
IsPollWord word other = Unit {0}

pub poll-plan : (decls : List Decl) (call : Call) → IsPollWord (word_of call) (plan_of decls call)
poll-plan decls (calls.Poll timeout events) = refl
poll-plan decls call = tt

-- an attempt of a call that hasn't a channel may come behind the steps that led it there
pub may-come : (word : Word) (plan : Plan) (play : List StepMade) (stage : Stage) (index : ℕ) (step : Step) → IsPollWord word plan → LeadsOn word plan stages.Start play stage → is_with_channel stage ≡ false →
    slice_get (plan_attempts plan stage) index ≡ Some step → All IsFit play → MayCome plan play step
unfolding Begins
may-come word (One first) play stage index step is_word led asks ahead fit = next-one word first play stage index step led ahead
may-come word (Pair opening closing) play stage index step is_word led asks ahead fit =
    next-wait word (Pair opening closing) stages.Start opening (closing_step closing) stages.Waits refl (λ made progress fits same comes. opens-so word made.1 progress comes)
    (record { attempts = λ place. refl; comes = λ place made fits same. refl }) play stage index step led ahead fit
may-come word (Twice first second) play stage index step is_word led asks ahead fit = next-both word first second play stage index step led ahead
may-come word (Wait waiting timeout) play stage index step is_word led asks ahead fit = may-ask word waiting timeout play stage index step led ahead fit
may-come word (Poll timeout events) play stage index step is_word led asks ahead fit =
    (stage, index, subst (λ (w : Word). polls.LeadsOn w timeout events stages.Start play stage) is_word (poll-leads word timeout events stages.Start play stage led), ahead)
may-come word (Channel chan using_ timeout) play stage index step is_word led asks ahead fit =
    may-ask word (asks_for chan using_) timeout play stage index step (waits-on word chan using_ timeout stages.Start play stage led asks)
    (ap (λ (l : List Step). slice_get l index) (sym (ask-attempts chan using_ timeout stage asks)) ∙ ahead) fit
