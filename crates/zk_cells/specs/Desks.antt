-- Inner: no contract of a top call is made of this file.
-- A caller at the cells of a kernel, as the services that it plays on.
use Rattle.std.specs.Prelude.{ℕ, ◌-◌, ◌^◌, ◌<◌, ◌≤◌, min, Some, vec_capacity}
use Rattle.zk_base.specs.declared.ids.Who.{Who}
use Rattle.zk_base.specs.Legal.{IsLegal}
use Rattle.zk_model_wait.specs.Clock.{clock_machine}
use Rattle.zk_model_wait.specs.Sem.{sem_machine}
use Rattle.zk_model_wait.specs.Msgq.{msgq_machine}
use Rattle.zk_model_bus.specs.Channel.{chan_machine}
use Rattle.zk_model_bus.specs.Observer.{obs_machine}
use Rattle.zk_model_bus.specs.Table.{table_machine}
use Rattle.zk_model_work.specs.Machine.{work_machine}
use Rattle.zk_bus.specs.Seen.{chan_start}
use Rattle.zk_msgq.specs.Seen.{msgq_start}
use Rattle.zk_objects.specs.Seen.{objects_start}
use Rattle.zk_sem.specs.Seen.{sem_start}
use Rattle.zk_subq.specs.Seen.{obs_start}
use Rattle.zk_time.specs.ClockSeen.{clock_start}
use Rattle.zk_work.specs.Seen.{work_start}
use Rattle.zk_work.specs.Words.{most_items}
use Rattle.zk_turn.specs.Passes.{given_to}
use Rattle.zk_worker.specs.declared.steps.Step.TheVariants as steps
use Rattle.zk_worker.specs.Machines.{Machines}
use Rattle.zk_worker.specs.Shown.{Shown}
use Rattle.zk_worker.specs.Attempt.{Counts}
use Rattle.zk_cells.specs.declared.cells.Cells.{Cells}
use Rattle.zk_cells.specs.declared.passes.Passes.{Passes}
use Rattle.zk_visit.specs.Seats.{IsAt, seen_at, holds_at}
use Rattle.zk_cells.specs.Rows.{family, seen_all, holds_in, AreSeats}
use Rattle.zk_cells.specs.Notes.{writes_at}
use Rattle.zk_cells.specs.Signals.{signal_family, signals_by, all_looks, looks_in, HaveOwn, AreNoted}

-- the machine of each service, and the state that it was made in, with how many steps a player may make
abbrev pub cells_machines : Cells → Machines
cells_machines k = record {
  work = work_machine;
  work_start = work_start (given_to k.work);
  items = k.items.items;
  most = k.most;
  clock = clock_machine;
  clock_start = clock_start (given_to k.clock);
  table = table_machine;
  table_start = objects_start (given_to k.table);
  sems = family sem_machine sem_start k.sems.items;
  msgqs = family msgq_machine msgq_start k.msgqs.items;
  signals = signal_family k.signals.items;
  chans = family chan_machine chan_start k.chans.items;
  observers = family obs_machine obs_start k.observers.items;
}

-- the passes are this player's, one of each service, its writes at signals are noted, with room for all that it may make, and
-- each item has a word
pub record IsServed (k : Cells) (p : Passes) (who : Who) : Type 0 where
  pub work : IsAt (IsLegal work_machine) work_start k.work who p.looked p.work
  pub clock : IsAt (IsLegal clock_machine) clock_start k.clock who 0 p.clock
  pub table : IsAt (IsLegal table_machine) objects_start k.table who 0 p.table
  pub sems : AreSeats (IsLegal sem_machine) sem_start who k.sems.items p.sems.items
  pub msgqs : AreSeats (IsLegal msgq_machine) msgq_start who k.msgqs.items p.msgqs.items
  pub signals : HaveOwn who (writes_at p.notes.items) k.signals.items p.signals.items
  pub chans : AreSeats (IsLegal chan_machine) chan_start who k.chans.items p.chans.items
  pub observers : AreSeats (IsLegal obs_machine) obs_start who k.observers.items p.observers.items
  pub noted : AreNoted who p.notes.items (signals_by (writes_at p.notes.items) p.signals.items)
  pub capacity : k.most ≤ vec_capacity p.notes
  pub number : who.number < 2 ^ 32
  pub items : (work_start (given_to k.work)).items ≤ most_items

-- what the passes have seen of each service, what they have found at the signals, and the first number above those of their
-- looks at items
abbrev pub desk_shown : Passes → Shown
desk_shown p = record {
  work = seen_at p.work;
  clock = seen_at p.clock;
  table = seen_at p.table;
  sems = seen_all p.sems.items;
  msgqs = seen_all p.msgqs.items;
  signals = signals_by (writes_at p.notes.items) p.signals.items;
  chans = seen_all p.chans.items;
  observers = seen_all p.observers.items;
  looks = Some (all_looks p.signals.items);
  looked = Some p.looked;
}

-- a count as far as 64 bits hold it
abbrev pub capped : ℕ → ℕ
capped n = min n (2 ^ 64 - 1)

-- how many turns the passes had, and how many looks they made at a signal
abbrev pub desk_counts : Passes → Counts
desk_counts p (steps.Work op) = capped (holds_at p.work)
desk_counts p (steps.Clock op) = capped (holds_at p.clock)
desk_counts p (steps.Table op) = capped (holds_at p.table)
desk_counts p (steps.Sem object op) = capped (holds_in p.sems.items object)
desk_counts p (steps.Msgq object op) = capped (holds_in p.msgqs.items object)
desk_counts p (steps.Signal object op) = capped (looks_in p.signals.items object)
desk_counts p (steps.Chan object op) = capped (holds_in p.chans.items object)
desk_counts p (steps.Obs object op) = capped (holds_in p.observers.items object)
desk_counts p (steps.LookItem object) = capped (holds_at p.work)
desk_counts p (steps.LookSignal object must) = capped (looks_in p.signals.items object)
