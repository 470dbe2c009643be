use Rattle.std.specs.Prelude.{ℕ, false, List, [], ◌∷◌, option_map}
use Rattle.zk_line.specs.declared.types.Decl.{Decl}
use Rattle.zk_line.specs.declared.types.Call.{Call}
use Rattle.zk_line.specs.declared.types.Call.TheVariants as calls
use Rattle.zk_model_bus.specs.declared.channel.ChanOp.TheVariants as chan_ops
use Rattle.zk_model_bus.specs.declared.observer.ObsOp.TheVariants as obs_ops
use Rattle.zk_model_bus.specs.declared.table.TableOp.TheVariants as table_ops
use Rattle.zk_model_wait.specs.declared.clock.ClockOp.TheVariants as clock_ops
use Rattle.zk_model_wait.specs.declared.msgq.MsgqOp.TheVariants as msgq_ops
use Rattle.zk_model_wait.specs.declared.sem.SemOp.TheVariants as sem_ops
use Rattle.zk_model_wait.specs.declared.signal.SignalOp.TheVariants as signal_ops
use Rattle.zk_model_work.specs.declared.ops.WorkOp.TheVariants as ops
use Rattle.zk_worker.specs.declared.steps.Step.{Step}
use Rattle.zk_worker.specs.declared.steps.Step.TheVariants as steps
use Rattle.zk_worker.specs.declared.steps.StepReply.{StepReply}
use Rattle.zk_words.specs.declared.word.Word.{Word}
use Rattle.zk_worker.specs.declared.frames.Closing.{Closing}
use Rattle.zk_worker.specs.declared.frames.Closing.TheVariants as closings
use Rattle.zk_worker.specs.declared.frames.Plan.{Plan}
use Rattle.zk_worker.specs.declared.frames.Plan.TheVariants.{One, Pair, Twice, Wait, Poll, Channel}
use Rattle.zk_worker.specs.declared.frames.Using.TheVariants.{Publish, Notify, Read}
use Rattle.zk_worker.specs.declared.frames.Waiting.TheVariants.{Take, Put, Get, Claim, SubWait}
use Rattle.zk_worker.specs.declared.frames.Stage.{Stage}
use Rattle.zk_worker.specs.declared.frames.Stage.TheVariants.{Start, Waits, Halfway}
use Rattle.zk_worker.specs.declared.frames.Progress.{Progress}
use Rattle.zk_worker.specs.declared.frames.Progress.TheVariants.{Goes, Answers}
use Rattle.zk_worker.specs.Polls.{poll_attempts, poll_progress}
use Rattle.zk_worker.specs.Publishes.{channel_attempts, channel_progress}
use Rattle.zk_worker.specs.Refs.{ref_object, ref_number}
use Rattle.zk_worker.specs.Replies.{answer_of}
use Rattle.zk_worker.specs.Waits.{wait_attempts, opening_progress, wait_progress}

-- how a call goes
abbrev pub plan_of : List Decl → Call → Plan
plan_of decls (calls.Submit item queue) =
    One (steps.Work (ops.Submit (ref_number decls item) (option_map (ref_number decls) queue)))
plan_of decls (calls.Cancel item) = One (steps.Work (ops.Cancel (ref_number decls item)))
plan_of decls (calls.CancelSync item) =
    Pair (steps.Work (ops.CancelStart (ref_number decls item))) closings.Cancel
plan_of decls (calls.Flush item) =
    Pair (steps.Work (ops.FlushStart (ref_number decls item))) closings.Flush
plan_of decls (calls.Schedule item queue delay) =
    One (steps.Work (ops.Schedule (ref_number decls item) (ref_number decls queue) delay))
plan_of decls (calls.Reschedule item queue delay) =
    One (steps.Work (ops.Reschedule (ref_number decls item) (ref_number decls queue) delay))
plan_of decls (calls.Remaining item) = One (steps.Work (ops.Remaining (ref_number decls item)))
plan_of decls (calls.Busy item) = One (steps.LookItem (ref_object item))
plan_of decls (calls.Start queue) = One (steps.Work (ops.Start (ref_number decls queue)))
plan_of decls (calls.Drain queue plug) =
    Pair (steps.Work (ops.DrainStart (ref_number decls queue) plug)) closings.Drain
plan_of decls (calls.Unplug queue) = One (steps.Work (ops.Unplug (ref_number decls queue)))
plan_of decls (calls.Stop queue) = One (steps.Work (ops.Stop (ref_number decls queue)))
plan_of decls (calls.Tick ticks) =
    Twice (steps.Work (ops.Announce ticks)) (steps.Clock (clock_ops.Announce ticks))
plan_of decls (calls.Take sem timeout) = Wait (Take (ref_object sem)) timeout
plan_of decls (calls.Give sem) = One (steps.Sem (ref_object sem) sem_ops.Give)
plan_of decls (calls.Reset sem) = One (steps.Sem (ref_object sem) sem_ops.Reset)
plan_of decls (calls.Count sem) = One (steps.Sem (ref_object sem) sem_ops.Count)
plan_of decls (calls.Put queue message timeout) = Wait (Put (ref_object queue) message) timeout
plan_of decls (calls.PutFront queue message) = One (steps.Msgq (ref_object queue) (msgq_ops.PutFront message))
plan_of decls (calls.Get queue timeout) = Wait (Get (ref_object queue)) timeout
plan_of decls (calls.Peek queue) = One (steps.Msgq (ref_object queue) msgq_ops.Peek)
plan_of decls (calls.PeekAt queue index) =
    One (steps.Msgq (ref_object queue) (msgq_ops.PeekAt index))
plan_of decls (calls.Purge queue) = One (steps.Msgq (ref_object queue) msgq_ops.Purge)
plan_of decls (calls.Used queue) = One (steps.Msgq (ref_object queue) msgq_ops.Used)
plan_of decls (calls.Free queue) = One (steps.Msgq (ref_object queue) msgq_ops.Free)
plan_of decls (calls.Raise signal value) =
    One (steps.Signal (ref_object signal) (signal_ops.Raise value))
plan_of decls (calls.Clear signal) = One (steps.Signal (ref_object signal) signal_ops.Clear)
plan_of decls (calls.Check signal) = One (steps.LookSignal (ref_object signal) false)
plan_of decls (calls.Poll timeout events) = Poll timeout events
plan_of decls (calls.Claim chan timeout) = Wait (Claim (ref_object chan)) timeout
plan_of decls (calls.Finish chan) = One (steps.Chan (ref_object chan) chan_ops.Finish)
plan_of decls (calls.Mask chan observer on) =
    One (steps.Chan (ref_object chan) (chan_ops.Mask (ref_object observer) on))
plan_of decls (calls.Enable observer on) =
    One (steps.Obs (ref_object observer) (obs_ops.Enable on))
plan_of decls (calls.SubWait sub timeout) = Wait (SubWait (ref_object sub)) timeout
plan_of decls (calls.Publish chan message timeout) =
    Channel (ref_object chan) (Publish message) timeout
plan_of decls (calls.Notify chan timeout) = Channel (ref_object chan) Notify timeout
plan_of decls (calls.Read chan timeout) = Channel (ref_object chan) Read timeout
plan_of decls (calls.Grant thread object) =
    One (steps.Table (table_ops.Grant (ref_object thread) (ref_object object)))
plan_of decls (calls.Release object) = One (steps.Table (table_ops.Release (ref_object object)))
plan_of decls (calls.Revoke thread object) =
    One (steps.Table (table_ops.Revoke (ref_object thread) (ref_object object)))
plan_of decls (calls.Public object) = One (steps.Table (table_ops.Public (ref_object object)))
plan_of decls (calls.Init object) = One (steps.Table (table_ops.Init (ref_object object)))
plan_of decls calls.User = One (steps.Table table_ops.EnterUser)

-- the step that ends a wait begun by the entry of this place
abbrev pub closing_step : Closing → ℕ → Step
closing_step closings.Cancel place = steps.Work (ops.CancelDone place)
closing_step closings.Flush place = steps.Work (ops.FlushDone place)
closing_step closings.Drain place = steps.Work (ops.DrainDone place)

-- the next attempts of a call, in order
abbrev pub plan_attempts : Plan → Stage → List Step
plan_attempts (One step) Start = step ∷ []
plan_attempts (Pair opening closing) Start = opening ∷ []
plan_attempts (Pair opening closing) (Waits place) = closing_step closing place ∷ []
plan_attempts (Twice first second) Start = first ∷ []
plan_attempts (Twice first second) Halfway = second ∷ []
plan_attempts (Wait waiting timeout) stage = wait_attempts waiting timeout stage
plan_attempts (Poll timeout events) stage = poll_attempts timeout events stage
plan_attempts (Channel chan using timeout) stage = channel_attempts chan using timeout stage
plan_attempts plan stage = []

-- what the reply to a step does to its call
abbrev pub plan_progress : Word → Plan → Stage → Step → StepReply → Progress
plan_progress word (One step) stage made reply = Answers word (answer_of reply)
plan_progress word (Pair opening closing) Start made reply = opening_progress word reply
plan_progress word (Pair opening closing) stage made reply = Answers word (answer_of reply)
plan_progress word (Twice first second) Start made reply = Goes Halfway
plan_progress word (Twice first second) stage made reply = Answers word (answer_of reply)
plan_progress word (Wait waiting timeout) stage made reply = wait_progress word stage reply
plan_progress word (Poll timeout events) stage made reply =
    poll_progress word timeout events stage made reply
plan_progress word (Channel chan using timeout) stage made reply = channel_progress word stage reply
