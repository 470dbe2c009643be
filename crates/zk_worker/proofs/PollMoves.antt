-- What a reply does to a poll, done to its stage and to the answers.
use Rattle.std.proofs.Common.{◌≡◌, ℕ, Bool, true, cond, not, ◌&&◌, ◌||◌, Option, List, refl, sym, ap, subst}
use Rattle.std.specs.List.{list_any}
use Rattle.zk_line.specs.declared.events.Event.{Event}
use Rattle.zk_words.specs.declared.timeout.Timeout.{Timeout}
use Rattle.zk_words.specs.declared.timeout.Timeout.TheVariants.{Ticks}
use Rattle.zk_words.specs.declared.word.Word.{Word}
use Rattle.zk_worker.specs.declared.answers.Answered.{Answered}
use Rattle.zk_worker.specs.declared.frames.Alarm.{Alarm}
use Rattle.zk_worker.specs.declared.frames.Alarm.TheVariants.{Unset}
use Rattle.zk_worker.specs.declared.frames.Mark.{Mark}
use Rattle.zk_worker.specs.declared.frames.Moved.{Moved}
use Rattle.zk_worker.specs.declared.frames.Progress.TheVariants.{Goes, Answers}
use Rattle.zk_worker.specs.declared.frames.Stage.{Stage}
use Rattle.zk_worker.specs.declared.frames.Stage.TheVariants.{Polls}
use Rattle.zk_worker.specs.declared.steps.Step.{Step}
use Rattle.zk_worker.specs.declared.steps.StepReply.{StepReply}
use Rattle.zk_worker.specs.Moves.{IsDone, poll_further}
use Rattle.zk_worker.specs.Polls.{fresh, waits, is_armed, asks_more, is_closing, polling, poll_start, mark_of, event_of, marked, alarm_after, poll_answer, poll_goes}

-- a poll that sets no alarm asks at once
pub start-polls : (timeout : Timeout) (events : List Event) → ((ticks : ℕ) → timeout ≡ Ticks ticks → ⊥) → poll_start timeout events ≡ polling timeout events Unset fresh
start-polls (Ticks ticks) events none = absurd (none ticks refl)
start-polls timeout events none = refl

-- while an event is to be asked, a poll goes on
pub poll-asks : (word : Word) (timeout : Timeout) (events : List Event) (alarm : Alarm) (marks : List Mark) → asks_more events marks ≡ true →
    poll_goes word timeout events alarm marks ≡ Goes (Polls alarm marks)
poll-asks word timeout events alarm marks more =
    ap (λ (b : Bool). cond (not b && ((is_closing alarm marks || not (waits timeout)) && not (list_any is_armed marks))) (Answers word (poll_answer marks)) (Goes (Polls alarm marks))) more

-- a poll that hasn't begun stays as it is
pub poll-unbegun : (word : Word) (timeout : Timeout) (events : List Event) (stage : Stage) (made : Step) (reply : StepReply) → ((alarm : Alarm) (marks : List Mark) → stage ≡ Polls alarm marks → ⊥) →
    poll_further word timeout events stage made reply ≡ Goes stage
poll-unbegun word timeout events (Polls alarm marks) made reply none = absurd (none alarm marks refl)
poll-unbegun word timeout events stage made reply none = refl

-- a poll that has begun, once the event that the step is for has its mark, and the alarm is what the reply leaves
pub poll-marked : (number : ℕ) (word : Word) (timeout : Timeout) (events : List Event) (alarm alarm' : Alarm) (marks : List Mark) (place : Option ℕ) (mark : Mark) (made : Step) (reply : StepReply)
    (stage at : Stage) (told : Moved) (old new : List Answered) → stage ≡ Polls alarm marks → place ≡ event_of events alarm marks made → mark ≡ mark_of reply → alarm' ≡ alarm_after alarm reply →
    IsDone number (poll_goes word timeout events alarm' (marked marks place mark)) told at old new → IsDone number (poll_further word timeout events stage made reply) told at old new
poll-marked number word timeout events alarm alarm' marks place mark made reply stage at told old new begun here is ended done =
    subst (λ (x : Stage). IsDone number (poll_further word timeout events x made reply) told at old new) (sym begun)
    (subst (λ (a : Alarm). IsDone number (poll_goes word timeout events a (marked marks (event_of events alarm marks made) (mark_of reply))) told at old new) ended
    (subst (λ (m : Mark). IsDone number (poll_goes word timeout events alarm' (marked marks (event_of events alarm marks made) m)) told at old new) is
    (subst (λ (p : Option ℕ). IsDone number (poll_goes word timeout events alarm' (marked marks p mark)) told at old new) here done)))
