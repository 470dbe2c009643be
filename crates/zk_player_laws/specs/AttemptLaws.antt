use Rattle.std.specs.Prelude.{◌≡◌, ◌⊎◌, ℕ, ◌==◌, if◌then◌else◌, Bool, true, false, Some, List, [], ◌∷◌, ◌++◌, map, length}
use Rattle.zk_line.specs.Calls.{word_of}
use Rattle.zk_line.specs.Objects.{number_of}
use Rattle.zk_line.specs.declared.types.Call.{Call}
use Rattle.zk_model_bus.specs.declared.channel.ChanOp.TheVariants as chan_ops
use Rattle.zk_model_bus.specs.declared.channel.ChanReply.TheVariants as chan_replies
use Rattle.zk_model_wait.specs.declared.clock.ClockOp.TheVariants as clock_ops
use Rattle.zk_model_wait.specs.declared.clock.ClockReply.TheVariants as clock_replies
use Rattle.zk_model_work.specs.declared.ops.WorkOp.TheVariants as work_ops
use Rattle.zk_model_work.specs.declared.ops.WorkReply.TheVariants as work_replies
use Rattle.zk_scenario.specs.Content.{Content}
use Rattle.zk_words.specs.declared.timeout.Timeout.{Timeout}
use Rattle.zk_words.specs.declared.timeout.Timeout.TheVariants.{No, Forever, Ticks}
use Rattle.zk_words.specs.declared.word.Word.{Word}
use Rattle.zk_worker.specs.declared.frames.Frame.{Frame}
use Rattle.zk_worker.specs.declared.frames.Plan.{Plan}
use Rattle.zk_worker.specs.declared.frames.Plan.TheVariants.{One, Pair, Twice, Wait, Poll, Channel}
use Rattle.zk_worker.specs.declared.frames.Role.{Role}
use Rattle.zk_worker.specs.declared.frames.Role.TheVariants.{Script, Worker}
use Rattle.zk_worker.specs.declared.frames.Stage.{Stage}
use Rattle.zk_worker.specs.declared.frames.Stage.TheVariants.{Start}
use Rattle.zk_worker.specs.declared.frames.Using.{Using}
use Rattle.zk_worker.specs.declared.frames.Waiting.{Waiting}
use Rattle.zk_worker.specs.declared.steps.Step.{Step}
use Rattle.zk_worker.specs.declared.steps.Step.TheVariants as steps
use Rattle.zk_worker.specs.declared.steps.StepReply.{StepReply}
use Rattle.zk_worker.specs.declared.steps.StepReply.TheVariants as step_replies
use Rattle.zk_worker.specs.Calls.{plan_of, closing_step}
use Rattle.zk_worker.specs.Follows.{StepMade, is_spent_at, IsFollowing}
use Rattle.zk_worker.specs.Places.{PlayerPlace}
use Rattle.zk_worker.specs.Polls.{poll_attempts}
use Rattle.zk_worker.specs.Protocol.{attempts, after}
use Rattle.zk_worker.specs.Publishes.{asks_for, use_step}
use Rattle.zk_worker.specs.Shown.{Shown}
use Rattle.zk_worker.specs.Waits.{open_step, end_step, quit_step}
use Rattle.zk_player_laws.specs.CallLaws.{waits_at}
use Rattle.zk_player_laws.specs.CheckLaws.{BeginsCall, IsNextCheck}
use Rattle.zk_player_laws.specs.PollLaws.{LeadsOn}
use Rattle.zk_player_laws.specs.StackLogs.{ShowsLegalClock}
use Rattle.zk_player_laws.specs.VisitLaws.{visit_of}

-- of a call that may begin a wait with this step, and end it so, behind its steps these come next, and no others: first that step;
-- where it waits, the end of that wait
abbrev pub ComeIn : Step → (ℕ → Step) → List StepMade → List Step → Type 0
ComeIn opening closing play next =
    ((play ≡ []) × (next ≡ opening ∷ []))
    ⊎ ((waited : StepReply) × (place : ℕ) × (waits_at waited ≡ Some place) × (play ≡ (opening, waited) ∷ [])
    × (next ≡ closing place ∷ []))

-- of a call that has set its alarm, for this moment: first the step that may begin its wait; where it waits, the end of that wait
-- or else that of the alarm; and where the alarm has ended, that it gives the wait up
abbrev pub ComeWithin : Waiting → ℕ → List StepMade → List Step → Type 0
ComeWithin waiting moment play next =
    ((play ≡ []) × (next ≡ open_step waiting true ∷ []))
    ⊎ ((waited : StepReply) × (place : ℕ) × (waits_at waited ≡ Some place)
    × (((play ≡ (open_step waiting true, waited) ∷ [])
    × (next ≡ end_step waiting place ∷ steps.Clock (clock_ops.AlarmEnd moment) ∷ []))
    ⊎ ((due : StepReply) × (play ≡ (open_step waiting true, waited) ∷ (steps.Clock (clock_ops.AlarmEnd moment), due) ∷ [])
    × (next ≡ quit_step waiting place ∷ []))))

-- of a call that asks for this and waits so long, if it has to: with ticks the alarm comes first
abbrev pub ComeFor : Waiting → Timeout → List StepMade → List Step → Type 0
ComeFor waiting No play next = ComeIn (open_step waiting false) (end_step waiting) play next
ComeFor waiting Forever play next = ComeIn (open_step waiting true) (end_step waiting) play next
ComeFor waiting (Ticks ticks) play next =
    ((play ≡ []) × (next ≡ steps.Clock (clock_ops.Alarm ticks) ∷ []))
    ⊎ ((moment place : ℕ) × (more : List StepMade)
    × (play ≡ (steps.Clock (clock_ops.Alarm ticks), step_replies.Clock (clock_replies.At moment) place) ∷ more)
    × ComeWithin waiting moment more next)

-- the first of the observers that are left is visited, and where none is the channel is freed
abbrev pub ComeToVisit : ℕ → List ℕ → List Step → Type 0
ComeToVisit chan [] next = next ≡ steps.Chan chan chan_ops.Free ∷ []
ComeToVisit chan (observer ∷ left) next = next ≡ visit_of chan observer ∷ []

-- of a call that has its channel, and since then made these steps: first the use of it; of observers that this tells, those of
-- which it has visited the first ones, the visit of the next; and behind the last, or with the message, its freeing
abbrev pub ComeInUse : ℕ → Using → List StepMade → List Step → Type 0
ComeInUse chan using_ [] next = next ≡ use_step chan using_ ∷ []
ComeInUse chan using_ (use_ ∷ visits) next =
    (use_.0 ≡ use_step chan using_)
    × (((at place : ℕ) × (told left : List ℕ) × (use_.1 ≡ step_replies.Chan at (chan_replies.Observers told) place)
    × (map (visit_of chan) told ≡ map (λ m. m.0) visits ++ map (visit_of chan) left) × ComeToVisit chan left next)
    ⊎ ((at place : ℕ) × (message : List ℕ) × (use_.1 ≡ step_replies.Chan at (chan_replies.Bytes message) place)
    × (visits ≡ []) × (next ≡ steps.Chan chan chan_ops.Free ∷ [])))

-- of a call that goes by this plan: behind the steps that were made for it these come next, and no others; of a poll those of
-- which the law of polls speaks
abbrev pub ComeOf : Word → Plan → List StepMade → List Step → Type 0
ComeOf word (One first) play next = (play ≡ []) × (next ≡ first ∷ [])
ComeOf word (Pair opening closing) play next = ComeIn opening (closing_step closing) play next
ComeOf word (Twice first second) play next =
    ((play ≡ []) × (next ≡ first ∷ [])) ⊎ ((earlier : StepReply) × (play ≡ (first, earlier) ∷ []) × (next ≡ second ∷ []))
ComeOf word (Wait waiting timeout) play next = ComeFor waiting timeout play next
ComeOf word (Poll timeout events) play next =
    (stage : Stage) × LeadsOn word timeout events Start play stage × (next ≡ poll_attempts timeout events stage)
ComeOf word (Channel chan using_ timeout) play next =
    ComeFor (asks_for chan using_) timeout play next
    ⊎ ((front : List StepMade) × (gained : StepMade) × (since : List StepMade) × (play ≡ front ++ gained ∷ since)
    × (at place : ℕ) × (gained.1 ≡ step_replies.Chan at chan_replies.Got place) × ComeInUse chan using_ since next)

-- of these steps, from a place of the player on, those at which so many scripts and runs were open
abbrev pub steps_at : Content → ℕ → PlayerPlace → List StepMade → List StepMade
steps_at s depth at [] = []
steps_at s depth at (made ∷ more) =
    if length at.frames == depth
    then made ∷ steps_at s depth (after s at made.0 made.1) more
    else steps_at s depth (after s at made.0 made.1) more

-- the step has begun a run
abbrev pub begins_run : StepMade → Bool
begins_run (steps.Work (work_ops.Begin queue), step_replies.Work (work_replies.Run item admission) place) = true
begins_run made = false

-- the last of these steps has; so a worker is in a run, where these are its own
abbrev pub is_in_run : List StepMade → Bool
is_in_run [] = false
is_in_run (made ∷ []) = begins_run made
is_in_run (made ∷ more) = is_in_run more

-- the next check of a user's call comes, and nothing else
abbrev pub CheckComes : Content → ℕ → List StepMade → ℕ → ℕ → List Frame → List Step → Type 0
CheckComes s number front owner call below next =
    (check : Step) × (next ≡ check ∷ []) × ((reply : StepReply) → IsNextCheck s number front owner call below (check, reply))

-- or the player has begun the next call of its innermost script, and behind the steps that it made for it since then, those at
-- which as many were open as are now, these come next by the plan of the call
pub record CallComes (s : Content) (number : ℕ) (front : List StepMade) (owner call : ℕ) (below : List Frame) (depth : ℕ)
    (next : List Step) : Type 0 where
  pub before : List StepMade
  pub since : List StepMade
  pub whole : front ≡ before ++ since
  pub of : Call
  pub begins : BeginsCall s number before owner call of below
  pub come : ComeOf (word_of of) (plan_of s.decls of) (steps_at s depth begins.at since) next

-- a worker between two runs begins one, and in a run whose script is through it ends that; of a script a check or its call comes
abbrev pub ComeToRole : Content → ℕ → PlayerPlace → List StepMade → Role → ℕ → List Frame → ℕ → List Step → Type 0
ComeToRole s number start front (Worker queue) call below depth next =
    (is_in_run (steps_at s depth start front) ≡ false → next ≡ steps.Work (work_ops.Begin (number_of s.decls queue)) ∷ [])
    × (is_in_run (steps_at s depth start front) ≡ true → next ≡ steps.Work (work_ops.End (number_of s.decls queue)) ∷ [])
ComeToRole s number start front (Script owner) call below depth next =
    CheckComes s number front owner call below next ⊎ CallComes s number front owner call below depth next

-- what comes next of the innermost open script or run; where none is open nothing does
abbrev pub ComeTo : Content → ℕ → PlayerPlace → List StepMade → List Frame → List Step → Type 0
ComeTo s number start front [] next = next ≡ []
ComeTo s number start front (frame ∷ below) next =
    ComeToRole s number start front frame.role frame.next below (length (frame ∷ below)) next

-- behind these steps, from its start on, this comes next of what is open, whether or not the player may make a step more; it
-- attempts just that, in that order, and once it has made all its steps nothing
pub record AttemptsItsNext (s : Content) (number : ℕ) (start : PlayerPlace) (front : List StepMade) (at : PlayerPlace) : Type 0 where
  pub next : List Step
  pub comes : ComeTo s number start front at.frames next
  pub goes_on : is_spent_at s at ≡ false → attempts s at ≡ next
  pub spent : is_spent_at s at ≡ true → attempts s at ≡ []

-- so it does before each of these steps, which go on from a place of the player, and behind the last
abbrev pub AlwaysGoesOn : Content → ℕ → PlayerPlace → List StepMade → PlayerPlace → List StepMade → Type 0
AlwaysGoesOn s number start front at [] = AttemptsItsNext s number start front at
AlwaysGoesOn s number start front at (made ∷ more) =
    AttemptsItsNext s number start front at
    × AlwaysGoesOn s number start (front ++ made ∷ []) (after s at made.0 made.1) more

-- of each player that follows a scenario, where what is shown of the clock is legal: at each moment it attempts what comes next
abbrev pub EachCallGoesOn : Type 0
EachCallGoesOn = (s : Content) (number : ℕ) (shown : Shown) (at : PlayerPlace) (is : IsFollowing s number shown at) → ShowsLegalClock shown →
    AlwaysGoesOn s number is.start [] is.start is.made
