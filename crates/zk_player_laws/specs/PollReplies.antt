-- Inner: no contract of a top call is made of this file.
use Rattle.std.specs.Prelude.{◌≡◌, ℕ, Bool, true, false, Some}
use Rattle.zk_base.specs.declared.ids.Who.{Who}
use Rattle.zk_base.specs.declared.ids.Entry.{Entry}
use Rattle.zk_base.specs.History.{IsEntry}
use Rattle.zk_model_wait.specs.declared.clock.ClockOp.{ClockOp}
use Rattle.zk_model_wait.specs.declared.clock.ClockOp.TheVariants as clock_ops
use Rattle.zk_model_wait.specs.declared.clock.ClockReply.{ClockReply}
use Rattle.zk_model_wait.specs.declared.msgq.MsgqOp.{MsgqOp}
use Rattle.zk_model_wait.specs.declared.msgq.MsgqReply.{MsgqReply}
use Rattle.zk_model_wait.specs.declared.sem.SemOp.{SemOp}
use Rattle.zk_model_wait.specs.declared.sem.SemReply.{SemReply}
use Rattle.zk_model_wait.specs.Clock.{Clock, clock_reply}
use Rattle.zk_model_wait.specs.Msgq.{Msgq}
use Rattle.zk_model_wait.specs.MsgqLaws.{MsgqHistory, polls as polls_msgq}
use Rattle.zk_model_wait.specs.Sem.{Sem}
use Rattle.zk_model_wait.specs.SemLaws.{SemHistory, polls as polls_sem}
use Rattle.zk_worker.specs.declared.steps.Step.TheVariants as steps
use Rattle.zk_worker.specs.declared.steps.StepReply.TheVariants as step_replies
use Rattle.zk_player_laws.specs.PollLaws.{may_reply, sem_may_tell, msgq_may_tell}

-- each entry of a poll at a semaphore has a reply that a poll can be told
abbrev pub SemTellsPolls : Sem → SemHistory → Type 0
SemTellsPolls s h = (front : SemHistory) (e : Entry SemOp SemReply) → IsEntry h front e →
    polls_sem e.op ≡ true → sem_may_tell e.op e.reply ≡ true

-- and each at a message queue
abbrev pub MsgqTellsPolls : Msgq → MsgqHistory → Type 0
MsgqTellsPolls q h = (front : MsgqHistory) (e : Entry MsgqOp MsgqReply) → IsEntry h front e →
    polls_msgq e.op ≡ true → msgq_may_tell e.op e.reply ≡ true

-- the operation is of an alarm
abbrev pub is_of_alarm : ClockOp → Bool
is_of_alarm (clock_ops.Announce ticks) = false
is_of_alarm op = true

-- and so has each reply of the clock to an alarm
abbrev pub ClockTellsPolls : Type 0
ClockTellsPolls = (c : Clock) (who : Who) (op : ClockOp) (reply : ClockReply) (place : ℕ) →
    clock_reply c who op ≡ Some reply → is_of_alarm op ≡ true →
    may_reply (steps.Clock op, step_replies.Clock reply place) ≡ true
