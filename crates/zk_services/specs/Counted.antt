-- Inner: no contract of a top call is made of this file.
use Rattle.std.specs.Prelude.{ℕ, ◌-◌, Bool, true, false, List, length, slice_get}
use Rattle.std.specs.Option.{option_map_or}
use Rattle.zk_base.specs.declared.ids.Entry.{Entry}
use Rattle.zk_model_bus.specs.declared.channel.ChanOp.{ChanOp}
use Rattle.zk_model_bus.specs.declared.channel.ChanOp.TheVariants as ops
use Rattle.zk_model_bus.specs.declared.channel.ChanReply.{ChanReply}
use Rattle.zk_worker.specs.declared.steps.Step.{Step}
use Rattle.zk_worker.specs.declared.steps.Step.TheVariants as steps
use Rattle.zk_worker.specs.Shown.{Shown}
use Rattle.zk_services.specs.declared.counted.ServiceId.{ServiceId}
use Rattle.zk_services.specs.declared.counted.ServiceId.TheVariants as ids

-- the service that a step asks: a look at an item asks the work service, one at a signal that signal
abbrev pub service_of : Step → ServiceId
service_of (steps.Work op) = ids.Work
service_of (steps.Clock op) = ids.Clock
service_of (steps.Table op) = ids.Table
service_of (steps.Sem object op) = ids.Sem object
service_of (steps.Msgq object op) = ids.Msgq object
service_of (steps.Signal object op) = ids.Signal object
service_of (steps.Chan object op) = ids.Chan object
service_of (steps.Obs object op) = ids.Obs object
service_of (steps.LookItem object) = ids.Work
service_of (steps.LookSignal object must) = ids.Signal object

-- how many entries an object has, by these histories
abbrev pub count_at : {E : Type 0} → List (List E) → ℕ → ℕ
count_at histories object = option_map_or (λ h. length h) (slice_get histories object) 0

-- how many entries are shown of a service
abbrev pub entries_at : Shown → ServiceId → ℕ
entries_at shown ids.Work = length shown.work
entries_at shown ids.Clock = length shown.clock
entries_at shown ids.Table = length shown.table
entries_at shown (ids.Sem object) = count_at shown.sems object
entries_at shown (ids.Msgq object) = count_at shown.msgqs object
entries_at shown (ids.Signal object) = count_at shown.signals object
entries_at shown (ids.Chan object) = count_at shown.chans object
entries_at shown (ids.Obs object) = count_at shown.observers object

-- an operation by which a channel may go to somebody who waits
abbrev pub frees : ChanOp → Bool
frees ops.Free = true
frees ops.Finish = true
frees op = false

-- the last entry of a channel may be one by which it went to somebody who waits
abbrev pub freed_last : List (List (Entry ChanOp ChanReply)) → ℕ → Bool
freed_last histories object =
    option_map_or (λ h. option_map_or (λ e. frees e.op) (slice_get h (length h - 1)) true) (slice_get histories object) true

-- whether the last entry of a service may have made a step of another player possible
abbrev pub may_serve : Shown → ServiceId → Bool
may_serve shown (ids.Chan object) = freed_last shown.chans object
may_serve shown service = true
