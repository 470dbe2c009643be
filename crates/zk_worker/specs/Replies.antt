use Rattle.zk_model_bus.specs.declared.channel.ChanReply.{ChanReply}
use Rattle.zk_model_bus.specs.declared.channel.ChanReply.TheVariants as chan_replies
use Rattle.zk_model_bus.specs.declared.observer.ObsReply.{ObsReply}
use Rattle.zk_model_bus.specs.declared.observer.ObsReply.TheVariants as obs_replies
use Rattle.zk_model_bus.specs.declared.table.TableReply.{TableReply}
use Rattle.zk_model_bus.specs.declared.table.TableReply.TheVariants as table_replies
use Rattle.zk_model_wait.specs.declared.msgq.MsgqReply.{MsgqReply}
use Rattle.zk_model_wait.specs.declared.msgq.MsgqReply.TheVariants as msgq_replies
use Rattle.zk_model_wait.specs.declared.sem.SemReply.{SemReply}
use Rattle.zk_model_wait.specs.declared.sem.SemReply.TheVariants as sem_replies
use Rattle.zk_model_work.specs.declared.ops.WorkReply.{WorkReply}
use Rattle.zk_model_work.specs.declared.ops.WorkReply.TheVariants as replies
use Rattle.zk_model_work.specs.declared.ops.Submitted.{Submitted}
use Rattle.zk_model_work.specs.declared.ops.Submitted.TheVariants as submissions
use Rattle.zk_base.specs.declared.errors.Errno.TheVariants.{Busy, Again, NoMsg, Already, Inval}
use Rattle.zk_worker.specs.declared.steps.StepReply.{StepReply}
use Rattle.zk_worker.specs.declared.steps.StepReply.TheVariants as step_replies
use Rattle.zk_worker.specs.declared.answers.Answer.{Answer}
use Rattle.zk_worker.specs.declared.answers.Answer.TheVariants.{Number, Flags, Truth, Refused, Bytes, Signal, Channel}

-- what a submission answers
abbrev pub submission_answer : Submitted → Answer
submission_answer submissions.Already = Number 0
submission_answer (submissions.Fresh admission queue) = Number 1
submission_answer (submissions.Rerun admission queue) = Number 2
submission_answer (submissions.Refused errno) = Refused errno

-- what a reply of the work service answers to a call
abbrev pub work_answer : WorkReply → Answer
work_answer (replies.Sub submitted) = submission_answer submitted
work_answer replies.Armed = Number 1
work_answer (replies.Flags flags) = Flags flags
work_answer (replies.Truth truth) = Truth truth
work_answer (replies.Number number) = Number number
work_answer replies.Already = Refused Already
work_answer replies.Busy = Refused Busy
work_answer reply = Number 0

-- what a reply of a semaphore answers to a call
abbrev pub sem_answer : SemReply → Answer
sem_answer sem_replies.Busy = Refused Busy
sem_answer sem_replies.Again = Refused Again
sem_answer (sem_replies.Number number) = Number number
sem_answer reply = Number 0

-- what a reply of a message queue answers to a call
abbrev pub msgq_answer : MsgqReply → Answer
msgq_answer msgq_replies.NoMsg = Refused NoMsg
msgq_answer msgq_replies.Again = Refused Again
msgq_answer (msgq_replies.Bytes message) = Bytes message
msgq_answer (msgq_replies.Number number) = Number number
msgq_answer reply = Number 0

-- what a reply of a channel answers to a call
abbrev pub chan_answer : ChanReply → Answer
chan_answer chan_replies.Busy = Refused Busy
chan_answer chan_replies.Again = Refused Again
chan_answer chan_replies.NoMsg = Refused NoMsg
chan_answer chan_replies.Inval = Refused Inval
chan_answer (chan_replies.Bytes message) = Bytes message
chan_answer reply = Number 0

-- what a reply of an observer answers to a call
abbrev pub obs_answer : ObsReply → Answer
obs_answer obs_replies.NoMsg = Refused NoMsg
obs_answer obs_replies.Again = Refused Again
obs_answer (obs_replies.Channel channel) = Channel channel
obs_answer reply = Number 0

-- what a reply of the object table answers to a call, other than to its checks
abbrev pub table_answer : TableReply → Answer
table_answer table_replies.Already = Refused Already
table_answer reply = Number 0

-- what the reply to a step answers to its call
abbrev pub answer_of : StepReply → Answer
answer_of (step_replies.Work reply place) = work_answer reply
answer_of (step_replies.Clock reply place) = Number 0
answer_of (step_replies.Table reply place) = table_answer reply
answer_of (step_replies.Sem object reply place) = sem_answer reply
answer_of (step_replies.Msgq object reply place) = msgq_answer reply
answer_of (step_replies.Signal object reply place) = Number 0
answer_of (step_replies.Chan object reply place) = chan_answer reply
answer_of (step_replies.Obs object reply place) = obs_answer reply
answer_of (step_replies.Flags flags at) = Flags flags
answer_of (step_replies.Seen seen) = Signal seen.raised seen.result
