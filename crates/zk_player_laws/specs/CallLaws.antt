use Rattle.std.specs.Prelude.{◌≡◌, ◌⊎◌, ℕ, ◌+◌, ◌&&◌, ◌||◌, Bool, true, false, is_some, Option, Some, None, List, [], ◌∷◌, ◌++◌, length, slice_get, All}
use Rattle.zk_line.specs.Calls.{word_of}
use Rattle.zk_line.specs.Objects.{number_of}
use Rattle.zk_line.specs.declared.events.Event.{Event}
use Rattle.zk_line.specs.declared.types.Call.{Call}
use Rattle.zk_model_bus.specs.declared.channel.ChanReply.TheVariants as chan_replies
use Rattle.zk_model_bus.specs.declared.observer.ObsReply.TheVariants as obs_replies
use Rattle.zk_model_wait.specs.declared.clock.ClockOp.TheVariants as clock_ops
use Rattle.zk_model_wait.specs.declared.clock.ClockReply.TheVariants as clock_replies
use Rattle.zk_model_wait.specs.declared.msgq.MsgqReply.TheVariants as msgq_replies
use Rattle.zk_model_wait.specs.declared.sem.SemReply.TheVariants as sem_replies
use Rattle.zk_model_work.specs.declared.ops.WorkOp.TheVariants as work_ops
use Rattle.zk_model_work.specs.declared.ops.WorkReply.TheVariants as work_replies
use Rattle.zk_scenario.specs.Content.{Content}
use Rattle.zk_scenario.specs.Players.{calls_of}
use Rattle.zk_words.specs.declared.timeout.Timeout.{Timeout}
use Rattle.zk_words.specs.declared.timeout.Timeout.TheVariants.{No, Forever, Ticks}
use Rattle.zk_words.specs.declared.word.Word.{Word}
use Rattle.zk_words.specs.declared.word.Word.TheVariants as words
use Rattle.zk_worker.specs.declared.answers.Answer.{Answer}
use Rattle.zk_worker.specs.declared.answers.Answered.{Answered}
use Rattle.zk_worker.specs.declared.frames.Frame.{Frame}
use Rattle.zk_worker.specs.declared.frames.Plan.{Plan}
use Rattle.zk_worker.specs.declared.frames.Plan.TheVariants.{One, Pair, Twice, Wait, Poll, Channel}
use Rattle.zk_worker.specs.declared.frames.Role.{Role}
use Rattle.zk_worker.specs.declared.frames.Role.TheVariants.{Script, Worker}
use Rattle.zk_worker.specs.declared.frames.Stage.{Stage}
use Rattle.zk_worker.specs.declared.frames.Stage.TheVariants.{Start}
use Rattle.zk_worker.specs.declared.frames.Waiting.{Waiting}
use Rattle.zk_worker.specs.declared.steps.Step.{Step}
use Rattle.zk_worker.specs.declared.steps.Step.TheVariants as steps
use Rattle.zk_worker.specs.declared.steps.StepReply.{StepReply}
use Rattle.zk_worker.specs.declared.steps.StepReply.TheVariants as step_replies
use Rattle.zk_worker.specs.Calls.{plan_of, closing_step}
use Rattle.zk_player_laws.specs.CheckLaws.{is_check, BeginsCall}
use Rattle.zk_worker.specs.Checks.{is_oops}
use Rattle.zk_worker.specs.Follows.{StepMade, IsFollowing}
use Rattle.zk_worker.specs.Places.{PlayerPlace}
use Rattle.zk_player_laws.specs.PollLaws.{LeadsOn}
use Rattle.zk_worker.specs.Polls.{poll_attempts}
use Rattle.zk_worker.specs.Protocol.{after}
use Rattle.zk_worker.specs.Publishes.{asks_for}
use Rattle.zk_worker.specs.Replies.{answer_of}
use Rattle.zk_worker.specs.Shown.{Shown}
use Rattle.zk_player_laws.specs.StackLogs.{ShowsLegalClock}
use Rattle.zk_player_laws.specs.VisitLaws.{used_chan, is_publish, is_read}
use Rattle.zk_worker.specs.Waits.{open_step, end_step, quit_step}

-- the place of the entry by which a call waits, where this reply tells it to
abbrev pub waits_at : StepReply → Option ℕ
waits_at (step_replies.Work work_replies.Wait place) = Some place
waits_at (step_replies.Work (work_replies.WaitFor admission) place) = Some place
waits_at (step_replies.Sem object sem_replies.Wait place) = Some place
waits_at (step_replies.Msgq object msgq_replies.Wait place) = Some place
waits_at (step_replies.Chan object chan_replies.Wait place) = Some place
waits_at (step_replies.Obs object obs_replies.Wait place) = Some place
waits_at reply = None

-- this step alone was made, and its reply is the answer
abbrev pub IsToldBy : Step → List StepMade → Answer → Type 0
IsToldBy step play answer = (reply : StepReply) × (play ≡ (step, reply) ∷ []) × (answer ≡ answer_of reply)

-- these two were made, and the reply to the second is the answer
abbrev pub IsToldByBoth : Step → Step → List StepMade → Answer → Type 0
IsToldByBoth first second play answer =
    (earlier reply : StepReply) × (play ≡ (first, earlier) ∷ (second, reply) ∷ []) × (answer ≡ answer_of reply)

-- the step that may begin a wait began none, and its reply is the answer
abbrev pub IsToldAtOnce : Step → List StepMade → Answer → Type 0
IsToldAtOnce opening play answer =
    (reply : StepReply) × (waits_at reply ≡ None) × (play ≡ (opening, reply) ∷ []) × (answer ≡ answer_of reply)

-- it began a wait, the next step was the end of that wait, and the reply to this is the answer
abbrev pub IsToldAtTheEnd : Step → (ℕ → Step) → List StepMade → Answer → Type 0
IsToldAtTheEnd opening closing play answer =
    (waited reply : StepReply) × (place : ℕ) × (waits_at waited ≡ Some place)
    × (play ≡ (opening, waited) ∷ (closing place, reply) ∷ []) × (answer ≡ answer_of reply)

-- one of the two
abbrev pub IsTold : Step → (ℕ → Step) → List StepMade → Answer → Type 0
IsTold opening closing play answer =
    IsToldAtOnce opening play answer ⊎ IsToldAtTheEnd opening closing play answer

-- it began a wait, the alarm of this moment ended, then the wait was given up, and the reply to that is the answer
abbrev pub IsGivenUp : Waiting → ℕ → List StepMade → Answer → Type 0
IsGivenUp waiting moment play answer =
    (waited due reply : StepReply) × (place : ℕ) × (waits_at waited ≡ Some place)
    × (play ≡ (open_step waiting true, waited) ∷ (steps.Clock (clock_ops.AlarmEnd moment), due)
    ∷ (quit_step waiting place, reply) ∷ [])
    × (answer ≡ answer_of reply)

-- an alarm was set first, for so many ticks; then the call was told as one that waits forever is, or gave its wait up
abbrev pub IsToldWithin : Waiting → ℕ → List StepMade → Answer → Type 0
IsToldWithin waiting ticks play answer =
    (moment place : ℕ) × (more : List StepMade)
    × (play ≡ (steps.Clock (clock_ops.Alarm ticks), step_replies.Clock (clock_replies.At moment) place) ∷ more)
    × (IsTold (open_step waiting true) (end_step waiting) more answer ⊎ IsGivenUp waiting moment more answer)

-- a call that asks for this and waits so long, if it has to, made just these steps, and was answered so
abbrev pub IsServed : Waiting → Timeout → List StepMade → Answer → Type 0
IsServed waiting No play answer = IsTold (open_step waiting false) (end_step waiting) play answer
IsServed waiting Forever play answer = IsTold (open_step waiting true) (end_step waiting) play answer
IsServed waiting (Ticks ticks) play answer = IsToldWithin waiting ticks play answer

-- a call that goes by this plan made just these steps, and was answered so: one that uses a channel only asked for it; of polls
-- other laws speak
abbrev pub IsMadeBy : Plan → List StepMade → Answer → Type 0
IsMadeBy (One step) play answer = IsToldBy step play answer
IsMadeBy (Pair opening closing) play answer = IsTold opening (closing_step closing) play answer
IsMadeBy (Twice first second) play answer = IsToldByBoth first second play answer
IsMadeBy (Wait waiting timeout) play answer = IsServed waiting timeout play answer
IsMadeBy (Poll timeout events) play answer = Unit {0}
IsMadeBy (Channel chan using_ timeout) play answer = IsServed (asks_for chan using_) timeout play answer

-- of a call that may begin a wait with this step, and end it so, this step may come behind these
abbrev pub MayComeIn : Step → (ℕ → Step) → List StepMade → Step → Type 0
MayComeIn opening closing play step =
    ((play ≡ []) × (step ≡ opening))
    ⊎ ((waited : StepReply) × (place : ℕ) × (waits_at waited ≡ Some place) × (play ≡ (opening, waited) ∷ [])
    × (step ≡ closing place))

-- of a call that waits until this moment, the end of its alarm may come, and then that it gives its wait up
abbrev pub MayQuit : Waiting → ℕ → List StepMade → Step → Type 0
MayQuit waiting moment play step =
    (waited : StepReply) × (place : ℕ) × (waits_at waited ≡ Some place)
    × (((play ≡ (open_step waiting true, waited) ∷ []) × (step ≡ steps.Clock (clock_ops.AlarmEnd moment)))
    ⊎ ((due : StepReply) × (play ≡ (open_step waiting true, waited) ∷ (steps.Clock (clock_ops.AlarmEnd moment), due) ∷ [])
    × (step ≡ quit_step waiting place)))

-- of a call that asks for this and waits so long, if it has to, this step may come behind these
abbrev pub MayAsk : Waiting → Timeout → List StepMade → Step → Type 0
MayAsk waiting No play step = MayComeIn (open_step waiting false) (end_step waiting) play step
MayAsk waiting Forever play step = MayComeIn (open_step waiting true) (end_step waiting) play step
MayAsk waiting (Ticks ticks) play step =
    ((play ≡ []) × (step ≡ steps.Clock (clock_ops.Alarm ticks)))
    ⊎ ((moment place : ℕ) × (more : List StepMade)
    × (play ≡ (steps.Clock (clock_ops.Alarm ticks), step_replies.Clock (clock_replies.At moment) place) ∷ more)
    × (MayComeIn (open_step waiting true) (end_step waiting) more step ⊎ MayQuit waiting moment more step))

-- of a poll this step may come behind these: they are its play so far, and this is one of the next attempts there
abbrev pub MayPoll : Timeout → List Event → List StepMade → Step → Type 0
MayPoll timeout events play step =
    (stage : Stage) × (index : ℕ) × LeadsOn words.Poll timeout events Start play stage
    × (slice_get (poll_attempts timeout events stage) index ≡ Some step)

-- of a call that goes by this plan this step may come behind these, which were made for it: one that uses a channel asks for it
abbrev pub MayCome : Plan → List StepMade → Step → Type 0
MayCome (One first) play step = (play ≡ []) × (step ≡ first)
MayCome (Pair opening closing) play step = MayComeIn opening (closing_step closing) play step
MayCome (Twice first second) play step =
    ((play ≡ []) × (step ≡ first)) ⊎ ((earlier : StepReply) × (play ≡ (first, earlier) ∷ []) × (step ≡ second))
MayCome (Wait waiting timeout) play step = MayAsk waiting timeout play step
MayCome (Poll timeout events) play step = MayPoll timeout events play step
MayCome (Channel chan using_ timeout) play step = MayAsk (asks_for chan using_) timeout play step

-- a publish, a notify or a read makes a step that uses a channel
abbrev pub is_in_use : Word → Step → Bool
is_in_use word step = (is_publish word || is_read word) && is_some (used_chan step)

-- the step may come behind those that were made for a call since its player stood at its beginning
pub record IsStepOf (s : Content) (number : ℕ) (front : List StepMade) (owner next : ℕ) (call : Call) (below : List Frame)
    (step : Step) : Type 0 where
  pub before : List StepMade
  pub play : List StepMade
  pub whole : front ≡ before ++ play
  pub begins : BeginsCall s number before owner next call below
  pub may : MayCome (plan_of s.decls call) play step

-- a worker begins and ends runs of its queue. A script makes checks, and the steps of its next call: those that use the channel
-- of a publish, a notify or a read, and each other only where it may come behind those of this call
abbrev pub IsOfIts : Content → ℕ → List StepMade → Role → ℕ → List Frame → Step → Type 0
IsOfIts s number front (Worker queue) next below step =
    (step ≡ steps.Work (work_ops.Begin (number_of s.decls queue))) ⊎ (step ≡ steps.Work (work_ops.End (number_of s.decls queue)))
IsOfIts s number front (Script owner) next below step = is_check step ≡ false →
    (call : Call) × (slice_get (calls_of s.scripts owner) next ≡ Some call)
    × (is_in_use (word_of call) step ≡ false → IsStepOf s number front owner next call below step)

-- so it is with the step of a player's innermost open script or run
abbrev pub IsOfCall : Content → ℕ → List StepMade → List Frame → Step → Type 0
IsOfCall s number front [] step = ⊥
IsOfCall s number front (frame ∷ below) step = IsOfIts s number front frame.role frame.next below step

-- and with each of these steps, which go on from a place of the player, behind those in front
abbrev pub AreOfCalls : Content → ℕ → List StepMade → PlayerPlace → List StepMade → Type 0
AreOfCalls s number front at [] = Unit {0}
AreOfCalls s number front at (made ∷ more) =
    IsOfCall s number front at.frames made.0 × AreOfCalls s number (front ++ made ∷ []) (after s at made.0 made.1) more

-- an answered call: the player stood at its beginning, it was the next call of the innermost open script, and these steps,
-- side by side, were made for it, up to the one that was answered
pub record IsCallOf (s : Content) (number : ℕ) (made : List StepMade) (a : Answered) : Type 0 where
  pub owner : ℕ
  pub next : ℕ
  pub call : Call
  pub below : List Frame
  pub is_word : a.word ≡ word_of call
  pub before : List StepMade
  pub play : List StepMade
  pub rest : List StepMade
  pub whole : made ≡ before ++ (play ++ rest)
  pub last : a.step + 1 ≡ length before + length play
  pub begins : BeginsCall s number before owner next call below
  pub made_so : IsMadeBy (plan_of s.decls call) play a.answer

-- the answer came with a step by which a publish, a notify or a read used a channel
pub record IsUseOf (made : List StepMade) (a : Answered) : Type 0 where
  pub front : List StepMade
  pub step : StepMade
  pub rest : List StepMade
  pub whole : made ≡ front ++ step ∷ rest
  pub last : a.step ≡ length front
  pub in_use : is_in_use a.word step.0 ≡ true

-- of each player that follows a scenario, where what is shown of the clock is legal: each of its steps is of a call or a run, and
-- each call that is answered, but those that a failed check ended, made the steps that it is to make, or its last one used a
-- channel
abbrev pub EachCallIsMade : Type 0
EachCallIsMade = (s : Content) (number : ℕ) (shown : Shown) (at : PlayerPlace) (is : IsFollowing s number shown at) → ShowsLegalClock shown →
    AreOfCalls s number [] is.start is.made
    × All (λ a. is_oops a.answer ≡ false → IsCallOf s number is.made a ⊎ IsUseOf is.made a) at.answers
