-- Wrong work services, with two queues and two items. Of each a short history that it lets stand, and the law that is false of it.
use Rattle.std.proofs.Common.{◌≡◌, refl, ap, arith, ⊎_elim}
use Rattle.std.specs.Option.{option_map_or}
use Rattle.std.specs.Prelude.{suc, ◌≤◌, ◌<◌, true, false, Option, Some, None, [], ◌∷◌}
use Rattle.zk_base.specs.declared.ids.Who.{Who}
use Rattle.zk_base.specs.History.{entry}
use Rattle.zk_base.specs.Legal.{Machine, Replays}
use Rattle.zk_model_work.specs.declared.ops.WorkOp.{WorkOp}
use Rattle.zk_model_work.specs.declared.ops.WorkOp.TheVariants.{Submit, Cancel, CancelStart, CancelDone, FlushStart, Start, DrainStart, DrainDone, Stop, Begin}
use Rattle.zk_model_work.specs.declared.ops.Submitted.TheVariants.{Fresh, Rerun}
use Rattle.zk_model_work.specs.declared.ops.WorkReply.{WorkReply}
use Rattle.zk_model_work.specs.declared.ops.WorkReply.TheVariants as replies
use Rattle.zk_model_work.specs.declared.parts.Life.{Life}
use Rattle.zk_model_work.specs.declared.parts.Life.TheVariants.{Running, Ended, Waiting}
use Rattle.zk_model_work.specs.declared.parts.Admission.{Admission}
use Rattle.zk_model_work.specs.declared.parts.Queue.{Queue}
use Rattle.zk_model_work.specs.declared.parts.Change.TheVariants as changes
use Rattle.zk_model_work.specs.Machine.{change, work_machine, work_reply, work_next, flags_of}
use Rattle.zk_model_work.specs.State.{State, start_of}
use Rattle.zk_model_work.specs.Histories.{WorkEntry, WorkHistory}
use Rattle.zk_model_work.specs.Laws.{CancelTellsTheRun, AnsweredIsMade, FlushWaitsForNewest, NoneWaitsBefore, CancelDoneAfterRun, DrainDoneAfterItsEnd, StartTells, StopTells}
use Rattle.zk_wrong_machines.proofs.Players.{one, other, worker}

-- two items and two queues, both started; their workers are the players behind the two threads
abbrev pub start : State
start = start_of 2 (2 ∷ 3 ∷ []) (true ∷ true ∷ [])

-- the first submission of all, of the first item to the first queue
abbrev pub submitted : WorkEntry
submitted = entry one 0 (Submit 0 (Some 0)) (replies.Sub (Fresh 0 0))

-- the begin of its run
abbrev pub begun : WorkEntry
begun = entry worker 0 (Begin 0) (replies.Run 0 0)

-- a machine with one reply of its own: that to an operation which the first test finds
abbrev pub replying : (State → Who → WorkOp → Option WorkReply) → Machine State WorkOp WorkReply
replying reply = record work_machine { reply_of = reply }

-- a cancel that tells the flags from before it
abbrev pub reply_from_before : State → Who → WorkOp → Option WorkReply
reply_from_before s who (Cancel item) = Some (replies.Flags (flags_of s item))
reply_from_before s who op = work_reply s who op

abbrev pub cancelled : WorkEntry
cancelled = entry one 1 (Cancel 0) (replies.Flags 4)

pub cancel_tells_the_flags_from_before-replays : Replays (replying reply_from_before) start (submitted ∷ cancelled ∷ [])
cancel_tells_the_flags_from_before-replays = (refl, (refl, tt))

pub cancel_tells_the_flags_from_before-refused : CancelTellsTheRun start (submitted ∷ cancelled ∷ []) → ⊥
cancel_tells_the_flags_from_before-refused tells =
    let is : ◌≡◌ {A = WorkReply} (replies.Flags 4) (replies.Flags 0) = tells (submitted ∷ []) [] cancelled 0 refl refl in
    cc is

-- a drain that lets others in: a thread submits the second item while the queue drains
abbrev pub reply_letting_in : State → Who → WorkOp → Option WorkReply
reply_letting_in s who (Submit (suc item) (Some queue)) = Some (replies.Sub (Fresh 1 queue))
reply_letting_in s who op = work_reply s who op

abbrev pub draining : WorkEntry
draining = entry one 1 (DrainStart 0 false) replies.Wait

abbrev pub let_in : WorkEntry
let_in = entry other 0 (Submit 1 (Some 0)) (replies.Sub (Fresh 1 0))

pub drain_admits_others-replays : Replays (replying reply_letting_in) start (submitted ∷ draining ∷ let_in ∷ [])
drain_admits_others-replays = (refl, (refl, (refl, tt)))

pub drain_admits_others-refused : AnsweredIsMade start (submitted ∷ draining ∷ let_in ∷ []) → ⊥
drain_admits_others-refused so =
    let made = so.each (submitted ∷ draining ∷ []) [] let_in refl 1 (Fresh 1 0) (refl, refl) in
    let is : ◌≡◌ {A = Option Admission} None (Some (record { item = 1; queue = 0; life = Waiting })) = made.0.1 in
    cc is

-- a submission of an item that runs goes to the queue that it names
abbrev pub reply_named : State → Who → WorkOp → Option WorkReply
reply_named s who (Submit item (Some (suc queue))) = Some (replies.Sub (Rerun 1 (suc queue)))
reply_named s who op = work_reply s who op

abbrev pub rerun : WorkEntry
rerun = entry one 1 (Submit 0 (Some 1)) (replies.Sub (Rerun 1 1))

pub rerun_on_the_named_queue-replays : Replays (replying reply_named) start (submitted ∷ begun ∷ rerun ∷ [])
rerun_on_the_named_queue-replays = (refl, (refl, (refl, tt)))

-- an admission to the one queue is none to the other
queues_differ : ◌≡◌ {A = Option Admission} (Some (record { item = 0; queue = 0; life = Waiting }))
    (Some (record { item = 0; queue = 1; life = Waiting })) → ⊥
queues_differ is =
    let same : 0 ≡ 1 = ap (λ (o : Option Admission). option_map_or (λ (a : Admission). a.queue) o 0) is in
    omega (arith, same)

pub rerun_on_the_named_queue-refused : AnsweredIsMade start (submitted ∷ begun ∷ rerun ∷ []) → ⊥
rerun_on_the_named_queue-refused so =
    queues_differ (so.each (submitted ∷ begun ∷ []) [] rerun refl 0 (Rerun 1 1) (refl, refl)).0.1

-- a flush that waits for the run, though one is admitted behind it
abbrev pub reply_for_the_run : State → Who → WorkOp → Option WorkReply
reply_for_the_run s who (FlushStart item) = Some (replies.WaitFor 0)
reply_for_the_run s who op = work_reply s who op

abbrev pub resubmitted : WorkEntry
resubmitted = entry one 1 (Submit 0 (Some 0)) (replies.Sub (Rerun 1 0))

abbrev pub flushing : WorkEntry
flushing = entry one 2 (FlushStart 0) (replies.WaitFor 0)

abbrev pub flushed : WorkHistory
flushed = submitted ∷ begun ∷ resubmitted ∷ flushing ∷ []

pub flush_waits_for_the_run-replays : Replays (replying reply_for_the_run) start flushed
flush_waits_for_the_run-replays = (refl, (refl, (refl, (refl, tt))))

pub flush_waits_for_the_run-refused : FlushWaitsForNewest start flushed → ⊥
flush_waits_for_the_run-refused newest =
    ⊎_elim
    (λ told.
    let number : ◌≡◌ {A = WorkReply} (replies.WaitFor 0) (replies.WaitFor told.0) = told.1 in
    let least : 1 ≤ told.0 = told.2.4 1 (record { item = 0; queue = 0; life = Waiting }) refl refl refl in
    let same : 0 ≡ told.0 = cc number in
    omega (arith, least, same))
    (λ told. cc told.0)
    (newest.each (submitted ∷ begun ∷ resubmitted ∷ []) [] flushing refl 0 refl)

-- a worker that takes up the last of its queue's line
abbrev pub reply_last : State → Who → WorkOp → Option WorkReply
reply_last s who (Begin queue) = Some (replies.Run 1 1)
reply_last s who op = work_reply s who op

abbrev pub second : WorkEntry
second = entry one 1 (Submit 1 (Some 0)) (replies.Sub (Fresh 1 0))

abbrev pub last : WorkEntry
last = entry worker 0 (Begin 0) (replies.Run 1 1)

pub begins_the_last-replays : Replays (replying reply_last) start (submitted ∷ second ∷ last ∷ [])
begins_the_last-replays = (refl, (refl, (refl, tt)))

pub begins_the_last-refused : NoneWaitsBefore start (submitted ∷ second ∷ last ∷ []) → ⊥
begins_the_last-refused none =
    let a : Admission = record { item = 0; queue = 0; life = Waiting } in
    let is : ◌≡◌ true false =
    none.each (submitted ∷ second ∷ []) [] last refl 0 1 1 0 a refl refl (omega arith) refl refl in
    cc is

-- a sync cancel that is told to be done while the run goes on
abbrev pub reply_done_early : State → Who → WorkOp → Option WorkReply
reply_done_early s who (CancelDone place) = Some (replies.Truth true)
reply_done_early s who op = work_reply s who op

abbrev pub cancelling : WorkEntry
cancelling = entry one 1 (CancelStart 0) replies.Wait

abbrev pub told_early : WorkEntry
told_early = entry one 2 (CancelDone 2) (replies.Truth true)

abbrev pub early : WorkHistory
early = submitted ∷ begun ∷ cancelling ∷ told_early ∷ []

pub cancel_answers_during_the_run-replays : Replays (replying reply_done_early) start early
cancel_answers_during_the_run-replays = (refl, (refl, (refl, (refl, tt))))

pub cancel_answers_during_the_run-refused : CancelDoneAfterRun start early → ⊥
cancel_answers_during_the_run-refused done =
    let is : ◌≡◌ {A = Option Life} (Some Running) (Some Ended) =
    done (submitted ∷ begun ∷ []) [] [] cancelling told_early 0 0 refl refl refl refl in
    cc is

-- a drain that is told to be done while something waits
abbrev pub reply_drained : State → Who → WorkOp → Option WorkReply
reply_drained s who (DrainDone place) = Some (replies.Number 1)
reply_drained s who op = work_reply s who op

abbrev pub drained_early : WorkEntry
drained_early = entry one 2 (DrainDone 1) (replies.Number 1)

pub drain_done_early-replays : Replays (replying reply_drained) start (submitted ∷ draining ∷ drained_early ∷ [])
drain_done_early-replays = (refl, (refl, (refl, tt)))

pub drain_done_early-refused : DrainDoneAfterItsEnd start (submitted ∷ draining ∷ drained_early ∷ []) → ⊥
drain_done_early-refused done =
    let is : 0 < 0 = done (submitted ∷ []) [] [] draining drained_early 0 false refl refl refl in
    omega (arith, is)

-- a start that says of a started queue that it has just been started
abbrev pub reply_started_again : State → Who → WorkOp → Option WorkReply
reply_started_again s who (Start queue) = Some replies.Done
reply_started_again s who op = work_reply s who op

abbrev pub started_again : WorkEntry
started_again = entry one 0 (Start 0) replies.Done

pub start_is_always_done-replays : Replays (replying reply_started_again) start (started_again ∷ [])
start_is_always_done-replays = (refl, tt)

pub start_is_always_done-refused : StartTells start (started_again ∷ []) → ⊥
start_is_always_done-refused tells =
    let q : Queue = record { worker = 2; started = true; draining = false; plugged = false; drained = 0 } in
    let is : ◌≡◌ {A = WorkReply} replies.Done replies.Already = (tells.each [] [] started_again refl 0 q refl).0 refl in
    cc is

-- a stop that takes the plug too
abbrev pub next_unplugged : State → Who → WorkOp → State
next_unplugged s who (Stop queue) =
    let t = work_next s who (Stop queue) in record t { queues = change changes.Unplug t.queues queue }
next_unplugged s who op = work_next s who op

abbrev pub unplugging : Machine State WorkOp WorkReply
unplugging = record work_machine { next = next_unplugged }

abbrev pub plugged : WorkEntry
plugged = entry one 0 (DrainStart 0 true) (replies.Number 0)

abbrev pub stopped : WorkEntry
stopped = entry one 1 (Stop 0) replies.Done

abbrev pub restarted : WorkEntry
restarted = entry one 2 (Start 0) replies.Done

abbrev pub let_past : WorkEntry
let_past = entry one 3 (Submit 0 (Some 0)) (replies.Sub (Fresh 0 0))

pub stop_forgets_the_plug-replays : Replays unplugging start (plugged ∷ stopped ∷ restarted ∷ let_past ∷ [])
stop_forgets_the_plug-replays = (refl, (refl, (refl, (refl, tt))))

pub stop_forgets_the_plug-refused : AnsweredIsMade start (plugged ∷ stopped ∷ restarted ∷ let_past ∷ []) → ⊥
stop_forgets_the_plug-refused so =
    let made = so.each (plugged ∷ stopped ∷ restarted ∷ []) [] let_past refl 0 (Fresh 0 0) (refl, refl) in
    let is : ◌≡◌ {A = Option Admission} None (Some (record { item = 0; queue = 0; life = Waiting })) = made.0.1 in
    cc is

-- a stop of a queue that could run something, since it drains still
abbrev pub reply_stopped : State → Who → WorkOp → Option WorkReply
reply_stopped s who (Stop queue) = Some replies.Done
reply_stopped s who op = work_reply s who op

abbrev pub plugging : WorkEntry
plugging = entry one 1 (DrainStart 0 true) replies.Wait

abbrev pub stopped_early : WorkEntry
stopped_early = entry one 2 (Stop 0) replies.Done

pub stops_a_busy_queue-replays : Replays (replying reply_stopped) start (submitted ∷ plugging ∷ stopped_early ∷ [])
stops_a_busy_queue-replays = (refl, (refl, (refl, tt)))

pub stops_a_busy_queue-refused : StopTells start (submitted ∷ plugging ∷ stopped_early ∷ []) → ⊥
stops_a_busy_queue-refused tells =
    let q : Queue = record { worker = 2; started = true; draining = true; plugged = true; drained = 0 } in
    let is : ◌≡◌ {A = WorkReply} replies.Done replies.Busy =
    tells.each (submitted ∷ plugging ∷ []) [] stopped_early refl 0 q refl refl in
    cc is
