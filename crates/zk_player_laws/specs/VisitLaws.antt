use Rattle.std.specs.Prelude.{◌≡◌, ◌⊎◌, ℕ, ◌+◌, ◌||◌, Bool, true, false, ◌==◌, Option, Some, None, List, [], ◌∷◌, ◌++◌, map, length, slice_get, All}
use Rattle.std.specs.List.{Contains, filter, list_any}
use Rattle.std.specs.Option.{option_map_or}
use Rattle.zk_line.specs.Calls.{word_of}
use Rattle.zk_line.specs.declared.types.Call.{Call}
use Rattle.zk_model_bus.specs.declared.channel.ChanOp.TheVariants as chan_ops
use Rattle.zk_model_bus.specs.declared.channel.ChanReply.{ChanReply}
use Rattle.zk_model_bus.specs.declared.channel.ChanReply.TheVariants as chan_replies
use Rattle.zk_model_bus.specs.declared.observer.ObsOp.TheVariants as obs_ops
use Rattle.zk_model_bus.specs.declared.observer.ObsReply.TheVariants as obs_replies
use Rattle.zk_scenario.specs.Content.{Content}
use Rattle.zk_scenario.specs.Players.{calls_of}
use Rattle.zk_scenario.specs.Valid.{IsValid}
use Rattle.zk_words.specs.declared.timeout.Timeout.{Timeout}
use Rattle.zk_words.specs.declared.word.Word.{Word}
use Rattle.zk_words.specs.declared.word.Word.TheVariants as words
use Rattle.zk_worker.specs.declared.answers.Answer.TheVariants as answers
use Rattle.zk_worker.specs.declared.answers.Answered.{Answered}
use Rattle.zk_worker.specs.declared.frames.Plan.TheVariants.{Channel}
use Rattle.zk_worker.specs.declared.frames.Using.{Using}
use Rattle.zk_worker.specs.declared.steps.Step.{Step}
use Rattle.zk_worker.specs.declared.steps.Step.TheVariants as steps
use Rattle.zk_worker.specs.declared.steps.StepReply.TheVariants as step_replies
use Rattle.zk_worker.specs.Calls.{plan_of}
use Rattle.zk_worker.specs.Checks.{is_oops}
use Rattle.zk_worker.specs.Follows.{StepMade, IsFollowing}
use Rattle.zk_worker.specs.Places.{PlayerPlace}
use Rattle.zk_worker.specs.Publishes.{asks_for, use_step, visits_answer}
use Rattle.zk_worker.specs.Replies.{answer_of}
use Rattle.zk_worker.specs.Shown.{Shown, ShowsLog}
use Rattle.zk_player_laws.specs.StackLogs.{ShowsLegalClock, ShowsLegalChans}
use Rattle.zk_worker.specs.Waits.{open_step, end_step, quit_step}

-- the channel that a step uses: it sets, lists, gets or frees it, or visits an observer for it
abbrev pub used_chan : Step → Option ℕ
used_chan (steps.Chan chan (chan_ops.Set message)) = Some chan
used_chan (steps.Chan chan chan_ops.List) = Some chan
used_chan (steps.Chan chan chan_ops.Get) = Some chan
used_chan (steps.Chan chan chan_ops.Free) = Some chan
used_chan (steps.Obs observer (obs_ops.Visit chan)) = Some chan
used_chan step = None

-- the step uses this channel
abbrev pub is_use : ℕ → StepMade → Bool
is_use chan made = option_map_or (λ used. used == chan) (used_chan made.0) false

-- the step frees a channel
abbrev pub is_free : StepMade → Bool
is_free (steps.Chan chan chan_ops.Free, reply) = true
is_free made = false

-- an observer's list was full
abbrev pub is_full : StepMade → Bool
is_full (step, step_replies.Obs at obs_replies.Full place) = true
is_full made = false

-- the visit of an observer for a channel
abbrev pub visit_of : ℕ → ℕ → Step
visit_of chan observer = steps.Obs observer (obs_ops.Visit chan)

-- a call that uses a channel so asked for it, and was told to wait, by the entry of this place
abbrev pub HasWaitedFor : ℕ → Using → List StepMade → ℕ → Type 0
HasWaitedFor chan using_ made place =
    (waits : Bool) × Contains made (open_step (asks_for chan using_) waits, step_replies.Chan chan chan_replies.Wait place)

-- behind these steps, this one asks for a channel as a call that uses it so does, or ends such a wait, or gives it up
abbrev pub Asks : ℕ → Using → List StepMade → Step → Type 0
Asks chan using_ made step =
    ((waits : Bool) × (step ≡ open_step (asks_for chan using_) waits))
    ⊎ ((place : ℕ) × HasWaitedFor chan using_ made place
    × ((step ≡ end_step (asks_for chan using_) place) ⊎ (step ≡ quit_step (asks_for chan using_) place)))

-- among the steps that were made a channel was given for such a use, and since then these used it
pub record HasGained (chan : ℕ) (using_ : Using) (made uses : List StepMade) : Type 0 where
  pub before : List StepMade
  pub gained : StepMade
  pub since : List StepMade
  pub whole : made ≡ before ++ gained ∷ since
  pub asks : Asks chan using_ before gained.0
  pub got : (place : ℕ) × (gained.1 ≡ step_replies.Chan chan chan_replies.Got place)
  pub used : filter (is_use chan) since ≡ uses

-- behind these steps their player owns the channel: it was given it for some use, and hasn't freed it since
abbrev pub OwnsChan : ℕ → List StepMade → Type 0
OwnsChan chan made =
    (using_ : Using) × (uses : List StepMade) × HasGained chan using_ made uses × (list_any is_free uses ≡ false)

-- the step uses no channel but one that its player owns
abbrev pub IsOwned : List StepMade → StepMade → Type 0
IsOwned front made = (chan : ℕ) → used_chan made.0 ≡ Some chan → OwnsChan chan front

-- and so does each of these, behind those before it
abbrev pub AreOwned : List StepMade → List StepMade → Type 0
AreOwned front [] = Unit {0}
AreOwned front (made ∷ more) = IsOwned front made × AreOwned (front ++ made ∷ []) more

-- a call of a script that uses a channel
pub record CallsChannel (s : Content) (owner next : ℕ) : Type 0 where
  pub call : Call
  pub chan : ℕ
  pub using_ : Using
  pub timeout : Timeout
  pub is_call : slice_get (calls_of s.scripts owner) next ≡ Some call
  pub is_plan : plan_of s.decls call ≡ Channel chan using_ timeout

-- a call that used its channel, from being given it to freeing it, for its set, list or get, and then for these other steps
pub record HasUsed (s : Content) (made : List StepMade) (a : Answered) : Type 0 where
  pub owner : ℕ
  pub next : ℕ
  pub by : CallsChannel s owner next
  pub is_word : a.word ≡ word_of by.call
  -- its free, which is the step that was answered
  pub front : List StepMade
  pub free : StepMade
  pub rest : List StepMade
  pub whole : made ≡ front ++ free ∷ rest
  pub last : a.step ≡ length front
  pub frees : free.0 ≡ steps.Chan by.chan chan_ops.Free
  -- what it used the channel for
  pub use_ : StepMade
  pub others : List StepMade
  pub gained : HasGained by.chan by.using_ front (use_ ∷ others)
  pub uses : use_.0 ≡ use_step by.chan by.using_

-- a call that visited just the observers that its set or list was told, in that order, each once: it was answered fault where one
-- of these visits found a full list, else 0
pub record HasVisited (s : Content) (made : List StepMade) (a : Answered) : Type 0 where
  pub used : HasUsed s made a
  pub told : List ℕ
  pub tells : (place : ℕ) × (used.use_.1 ≡ step_replies.Chan used.by.chan (chan_replies.Observers told) place)
  pub visits : map (λ m. m.0) used.others ≡ map (visit_of used.by.chan) told
  pub answer : a.answer ≡ visits_answer (list_any is_full used.others)

-- a call that got the channel's message, and did nothing else: it was answered that message
pub record HasRead (s : Content) (made : List StepMade) (a : Answered) : Type 0 where
  pub used : HasUsed s made a
  pub message : List ℕ
  pub tells : (place : ℕ) × (used.use_.1 ≡ step_replies.Chan used.by.chan (chan_replies.Bytes message) place)
  pub alone : used.others ≡ []
  pub answer : a.answer ≡ answers.Bytes message

-- the replies of a channel that refuse it
abbrev pub refuses : ChanReply → Bool
refuses chan_replies.Busy = true
refuses chan_replies.NoMsg = true
refuses chan_replies.Again = true
refuses reply = false

-- a call that wasn't given its channel: the step that was answered asks for it and is refused, and the call answered why
pub record WasRefused (s : Content) (made : List StepMade) (a : Answered) : Type 0 where
  pub owner : ℕ
  pub next : ℕ
  pub by : CallsChannel s owner next
  pub is_word : a.word ≡ word_of by.call
  -- the step
  pub front : List StepMade
  pub step : StepMade
  pub rest : List StepMade
  pub whole : made ≡ front ++ step ∷ rest
  pub last : a.step ≡ length front
  pub asks : Asks by.chan by.using_ front step.0
  pub refused : (r : ChanReply) × (place : ℕ) × (step.1 ≡ step_replies.Chan by.chan r place) × (refuses r ≡ true)
  pub answer : a.answer ≡ answer_of step.1

-- the call publishes or notifies
abbrev pub is_publish : Word → Bool
is_publish words.Publish = true
is_publish words.Notify = true
is_publish word = false

-- the call reads
abbrev pub is_read : Word → Bool
is_read words.Read = true
is_read word = false

-- a publish or notify that is answered has visited its observers, or was refused its channel
abbrev pub VisitsOrIsRefused : Content → List StepMade → Answered → Type 0
VisitsOrIsRefused s made a = is_publish a.word ≡ true → HasVisited s made a ⊎ WasRefused s made a

-- a read that is answered has read, or was refused its channel
abbrev pub ReadsOrIsRefused : Content → List StepMade → Answered → Type 0
ReadsOrIsRefused s made a = is_read a.word ≡ true → HasRead s made a ⊎ WasRefused s made a

-- both, where its checks were passed
abbrev pub UsesOrIsRefused : Content → List StepMade → Answered → Type 0
UsesOrIsRefused s made a = is_oops a.answer ≡ false → VisitsOrIsRefused s made a × ReadsOrIsRefused s made a

-- at the step of this number one of these calls was answered
pub record IsAnswered (answers : List Answered) (number : ℕ) : Type 0 where
  pub answered : Answered
  pub is_there : Contains answers answered
  pub is_step : answered.step ≡ number
  pub is_word : (is_publish answered.word || is_read answered.word) ≡ true

-- and so it is at each step that frees a channel; the first of these steps has this number
abbrev pub AreAnswered : List Answered → ℕ → List StepMade → Type 0
AreAnswered answers number [] = Unit {0}
AreAnswered answers number (made ∷ more) =
    (is_free made ≡ true → IsAnswered answers number) × AreAnswered answers (number + 1) more

-- of each player that follows a valid scenario, by what is shown with legal histories of the clock and of channels: each of its
-- calls that is answered has used its channel as it ought to, no step uses a channel that the player doesn't own, and each
-- freeing ends such a call
abbrev pub EachPublishVisits : Type 0
EachPublishVisits = (s : Content) (number : ℕ) (shown : Shown) (at : PlayerPlace) (is : IsFollowing s number shown at) →
    IsValid s → ShowsLog shown number at.spots → ShowsLegalClock shown → ShowsLegalChans s shown →
    All (UsesOrIsRefused s is.made) at.answers × AreOwned [] is.made × AreAnswered at.answers 0 is.made
