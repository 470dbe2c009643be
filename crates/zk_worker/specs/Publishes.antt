use Rattle.std.specs.Prelude.{ℕ, Bool, true, false, List, [], ◌∷◌}
use Rattle.zk_base.specs.declared.errors.Errno.TheVariants.{Fault}
use Rattle.zk_model_bus.specs.declared.channel.ChanOp.TheVariants as chan_ops
use Rattle.zk_model_bus.specs.declared.channel.ChanReply.TheVariants as chan_replies
use Rattle.zk_model_bus.specs.declared.observer.ObsOp.TheVariants as obs_ops
use Rattle.zk_model_bus.specs.declared.observer.ObsReply.TheVariants as obs_replies
use Rattle.zk_words.specs.declared.timeout.Timeout.{Timeout}
use Rattle.zk_words.specs.declared.word.Word.{Word}
use Rattle.zk_worker.specs.declared.answers.Answer.{Answer}
use Rattle.zk_worker.specs.declared.answers.Answer.TheVariants as answers
use Rattle.zk_worker.specs.declared.frames.Waiting.{Waiting}
use Rattle.zk_worker.specs.declared.frames.Waiting.TheVariants.{Offer, Enter}
use Rattle.zk_worker.specs.declared.frames.Using.{Using}
use Rattle.zk_worker.specs.declared.frames.Using.TheVariants.{Publish, Notify, Read}
use Rattle.zk_worker.specs.declared.frames.Stage.{Stage}
use Rattle.zk_worker.specs.declared.frames.Stage.TheVariants.{Holds, Visits, Reads}
use Rattle.zk_worker.specs.declared.frames.Progress.{Progress}
use Rattle.zk_worker.specs.declared.frames.Progress.TheVariants.{Goes, Answers, Enters}
use Rattle.zk_worker.specs.declared.steps.Step.{Step}
use Rattle.zk_worker.specs.declared.steps.Step.TheVariants as steps
use Rattle.zk_worker.specs.declared.steps.StepReply.{StepReply}
use Rattle.zk_worker.specs.declared.steps.StepReply.TheVariants as step_replies
use Rattle.zk_worker.specs.Replies.{answer_of}
use Rattle.zk_worker.specs.Waits.{wait_attempts, wait_progress}

-- how a call asks for the channel that it uses: a publish offers its message
abbrev pub asks_for : ℕ → Using → Waiting
asks_for chan (Publish message) = Offer chan message
asks_for chan Notify = Enter chan
asks_for chan Read = Enter chan

-- what a call does first with the channel that it has got
abbrev pub use_step : ℕ → Using → Step
use_step chan (Publish message) = steps.Chan chan (chan_ops.Set message)
use_step chan Notify = steps.Chan chan chan_ops.List
use_step chan Read = steps.Chan chan chan_ops.Get

-- the next step of a call that visits observers: the first of those that are left, and behind the last the channel is freed
abbrev pub visit_step : ℕ → List ℕ → Step
visit_step chan [] = steps.Chan chan chan_ops.Free
visit_step chan (observer ∷ left) = steps.Obs observer (obs_ops.Visit chan)

-- the next attempts of a call that uses a channel: it waits for it, uses it, visits the observers, and frees it
abbrev pub channel_attempts : ℕ → Using → Timeout → Stage → List Step
channel_attempts chan using timeout Holds = use_step chan using ∷ []
channel_attempts chan using timeout (Visits left full) = visit_step chan left ∷ []
channel_attempts chan using timeout (Reads message) = steps.Chan chan chan_ops.Free ∷ []
channel_attempts chan using timeout stage = wait_attempts (asks_for chan using) timeout stage

-- what the first reply at the channel does to a call that holds it
abbrev pub holds_progress : Word → StepReply → Progress
holds_progress word (step_replies.Chan chan (chan_replies.Observers told) place) = Goes (Visits told false)
holds_progress word (step_replies.Chan chan (chan_replies.Bytes message) place) = Goes (Reads message)
holds_progress word reply = Answers word (answer_of reply)

-- the observers that are left behind the first one
abbrev pub rest_of : List ℕ → List ℕ
rest_of [] = []
rest_of (observer ∷ left) = left

-- what a call answers that has visited all observers, by whether one was full
abbrev pub visits_answer : Bool → Answer
visits_answer true = answers.Refused Fault
visits_answer false = answers.Number 0

-- what the reply to a visit does to its call: a listener that runs has its script played before the next visit; and what the
-- reply to the freeing does
abbrev pub visit_progress : Word → List ℕ → Bool → StepReply → Progress
visit_progress word left full (step_replies.Obs observer obs_replies.Run place) =
    Enters observer (Visits (rest_of left) full)
visit_progress word left full (step_replies.Obs observer obs_replies.Full place) = Goes (Visits (rest_of left) true)
visit_progress word left full (step_replies.Obs observer reply place) = Goes (Visits (rest_of left) full)
visit_progress word left full reply = Answers word (visits_answer full)

-- what the reply to a step does to a call that waits for its channel: it may get it
abbrev pub asking_progress : Word → Stage → StepReply → Progress
asking_progress word stage (step_replies.Chan chan chan_replies.Got place) = Goes Holds
asking_progress word stage reply = wait_progress word stage reply

-- what the reply to a step does to a call that uses a channel
abbrev pub channel_progress : Word → Stage → StepReply → Progress
channel_progress word Holds reply = holds_progress word reply
channel_progress word (Visits left full) reply = visit_progress word left full reply
channel_progress word (Reads message) reply = Answers word (answers.Bytes message)
channel_progress word stage reply = asking_progress word stage reply
