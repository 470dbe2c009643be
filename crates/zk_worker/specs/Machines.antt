use Rattle.std.specs.Prelude.{ℕ, Bool, false, if◌then◌else◌, Option, Some, None, List, length, map, slice_get, option_map, option_and_then}
use Rattle.std.specs.List.{range_with_len}
use Rattle.std.specs.Option.{option_map_or}
use Rattle.zk_base.specs.declared.ids.Entry.{Entry}
use Rattle.zk_base.specs.Legal.{Machine, state_after}
use Rattle.zk_line.specs.declared.types.Decl.{Decl}
use Rattle.zk_line.specs.declared.types.Decl.TheVariants as decls
use Rattle.zk_scenario.specs.Content.{Content}
use Rattle.zk_scenario.specs.Steps.{steps_of}
use Rattle.zk_line.specs.Objects.{places, number_of, is_at, is_thread, is_queue, is_item}
use Rattle.zk_model_bus.specs.declared.channel.ChanOp.{ChanOp}
use Rattle.zk_model_bus.specs.declared.channel.ChanReply.{ChanReply}
use Rattle.zk_model_bus.specs.declared.observer.ObsOp.{ObsOp}
use Rattle.zk_model_bus.specs.declared.observer.ObsReply.{ObsReply}
use Rattle.zk_model_bus.specs.Channel.{Channel, new_chan, chan_machine}
use Rattle.zk_model_bus.specs.Observer.{Observer, new_obs, obs_machine}
use Rattle.zk_model_bus.specs.declared.table.TableOp.{TableOp}
use Rattle.zk_model_bus.specs.declared.table.TableReply.{TableReply}
use Rattle.zk_model_bus.specs.Table.{Table, new_table, table_machine}
use Rattle.zk_model_wait.specs.declared.clock.ClockOp.{ClockOp}
use Rattle.zk_model_wait.specs.declared.clock.ClockReply.{ClockReply}
use Rattle.zk_model_wait.specs.Clock.{Clock, new_clock, clock_machine}
use Rattle.zk_model_wait.specs.declared.msgq.MsgqOp.{MsgqOp}
use Rattle.zk_model_wait.specs.declared.msgq.MsgqReply.{MsgqReply}
use Rattle.zk_model_wait.specs.declared.sem.SemOp.{SemOp}
use Rattle.zk_model_wait.specs.declared.sem.SemReply.{SemReply}
use Rattle.zk_model_wait.specs.declared.signal.SignalOp.{SignalOp}
use Rattle.zk_model_wait.specs.declared.signal.SignalReply.{SignalReply}
use Rattle.zk_model_wait.specs.Msgq.{Msgq, new_msgq, msgq_machine}
use Rattle.zk_model_wait.specs.Sem.{Sem, new_sem, sem_machine}
use Rattle.zk_model_wait.specs.Signal.{Signal, new_signal, signal_machine}
use Rattle.zk_model_work.specs.declared.ops.WorkOp.{WorkOp}
use Rattle.zk_model_work.specs.declared.ops.WorkReply.{WorkReply}
use Rattle.zk_model_work.specs.State.{State, start_of}
use Rattle.zk_model_work.specs.Machine.{work_machine, flags_of}
use Rattle.zk_worker.specs.Families.{Family}
use Rattle.zk_worker.specs.TableSetup.{setup_of}

-- the numbers of the workers as players, in the order of their queues
abbrev pub workers : List Decl → List ℕ
workers decls = range_with_len (length (places is_thread decls)) (length (places is_queue decls))

-- whether a declaration is of a queue that is started at first
abbrev pub is_started : Decl → Bool
is_started (decls.Queue name prio on) = on
is_started decl = false

-- whether an object is a queue that is started at first
abbrev pub is_on : List Decl → ℕ → Bool
is_on decls object = option_map_or is_started (slice_get decls object) false

-- the work service of a scenario in its first state
abbrev pub work_start_of : Content → State
work_start_of s =
    start_of (length (places is_item s.decls)) (workers s.decls)
    (map (is_on s.decls) (places is_queue s.decls))

-- the number of an item at the work service, by its object number; an object of another kind has none
abbrev pub item_number : List Decl → ℕ → Option ℕ
item_number decls object =
    if is_at is_item decls object then Some (number_of decls object) else None

-- that of each object
abbrev pub items_of : List Decl → List (Option ℕ)
items_of decls = map (item_number decls) (range_with_len 0 (length decls))

-- the state that a declaration starts a semaphore in, if it declares one
abbrev pub sem_start : Decl → Option Sem
sem_start (decls.Sem name initial limit raw) = Some (new_sem initial limit)
sem_start decl = None

-- the state that a declaration starts a message queue in, if it declares one
abbrev pub msgq_start : Decl → Option Msgq
msgq_start (decls.Msgq name size capacity raw) = Some (new_msgq capacity)
msgq_start decl = None

-- the state that a declaration starts a signal in, if it declares one
abbrev pub signal_start : Decl → Option Signal
signal_start (decls.Signal name raw) = Some new_signal
signal_start decl = None

-- the state that a declaration starts a channel in, if it declares one
abbrev pub chan_start : Decl → Option Channel
chan_start (decls.Chan name message valid observers) = Some (new_chan message valid observers)
chan_start decl = None

-- the state that a declaration starts an observer in, if it declares one: a listener or a subscriber
abbrev pub observer_start : Decl → Option Observer
observer_start (decls.Listener name) = Some (new_obs None)
observer_start (decls.Sub name capacity) = Some (new_obs (Some capacity))
observer_start decl = None

-- the machine of each service, and the state that it starts in; by object number the number of each item at the work service;
-- and how many steps of a player they have room for
pub record Machines : Type 0 where
  pub work : Machine State WorkOp WorkReply
  pub work_start : State
  pub items : List (Option ℕ)
  pub most : ℕ
  pub clock : Machine Clock ClockOp ClockReply
  pub clock_start : Clock
  pub table : Machine Table TableOp TableReply
  pub table_start : Table
  pub sems : Family Sem SemOp SemReply
  pub msgqs : Family Msgq MsgqOp MsgqReply
  pub signals : Family Signal SignalOp SignalReply
  pub chans : Family Channel ChanOp ChanReply
  pub observers : Family Observer ObsOp ObsReply

-- the number of an item at the work service, by its object number
abbrev pub item_of : Machines → ℕ → Option ℕ
item_of m object = option_and_then (λ item. item) (slice_get m.items object)

-- the busy flags of an item after a history of the work service
abbrev pub flags_after : Machines → List (Entry WorkOp WorkReply) → ℕ → Option ℕ
flags_after m h object =
    option_map (flags_of (state_after m.work m.work_start h)) (item_of m object)

-- the machines of a scenario
abbrev pub machines_of : Content → Machines
machines_of s = record {
  work = work_machine;
  work_start = work_start_of s;
  items = items_of s.decls;
  most = steps_of s;
  clock = clock_machine;
  clock_start = new_clock;
  table = table_machine;
  table_start = new_table (setup_of s);
  sems = record { machine = sem_machine; starts = map sem_start s.decls };
  msgqs = record { machine = msgq_machine; starts = map msgq_start s.decls };
  signals = record { machine = signal_machine; starts = map signal_start s.decls };
  chans = record { machine = chan_machine; starts = map chan_start s.decls };
  observers = record { machine = obs_machine; starts = map observer_start s.decls };
}
