use Rattle.std.proofs.Common.{rules, ◌≡◌, ℕ, false, Ok, refl, ap, subst, arith}
use Rattle.std.specs.Option.{option_map}
use Rattle.zk_model_wait.specs.Clock.{clock_machine}
use Rattle.zk_model_wait.specs.Sem.{sem_machine, sem_closes}
use Rattle.zk_model_wait.specs.Msgq.{msgq_machine, msgq_closes}
use Rattle.zk_model_bus.specs.Channel.{chan_machine, chan_closes}
use Rattle.zk_model_bus.specs.Observer.{obs_machine, obs_closes}
use Rattle.zk_model_bus.specs.Table.{table_machine}
use Rattle.zk_model_work.specs.Machine.{work_machine}
use Rattle.zk_model_wait.specs.declared.clock.ClockReply.{ClockReply}
use Rattle.zk_model_wait.specs.declared.sem.SemReply.{SemReply}
use Rattle.zk_model_wait.specs.declared.msgq.MsgqReply.{MsgqReply}
use Rattle.zk_model_work.specs.declared.ops.WorkReply.{WorkReply}
use Rattle.zk_model_bus.specs.declared.table.TableReply.{TableReply}
use Rattle.zk_model_bus.specs.declared.channel.ChanReply.{ChanReply}
use Rattle.zk_model_bus.specs.declared.observer.ObsReply.{ObsReply}
use Rattle.zk_bus.specs.Seen.{chan_start}
use Rattle.zk_msgq.specs.Seen.{msgq_start}
use Rattle.zk_objects.specs.Seen.{objects_start}
use Rattle.zk_sem.specs.Seen.{sem_start}
use Rattle.zk_subq.specs.Seen.{obs_start}
use Rattle.zk_time.specs.ClockSeen.{clock_start}
use Rattle.zk_work.specs.Seen.{work_start}
use Rattle.zk_turn.specs.Passes.{given_to}
use Rattle.zk_worker.specs.declared.steps.Step.TheVariants as steps
use Rattle.zk_worker.specs.declared.steps.StepReply.TheVariants as step_replies
use Rattle.zk_worker.specs.Families.{closes_at}
use Rattle.zk_worker.proofs.Between.{above-work, above-clock, above-table, above-sems, above-msgqs, above-chans, above-observers}
use Rattle.zk_cells.specs.Desks.{cells_machines, desk_shown, desk_counts}
use Rattle.zk_visit.specs.Seats.{seen_at, holds_at}
use Rattle.zk_base.specs.Legal.{IsLegal}
use Rattle.zk_cells.specs.Rows.{family, seen_all, holds_in, AreSeats, VisitedAt}
use Rattle.zk_cells.proofs.Attempts.{attempted-one, attempted-many, when-err, none-wanted, kept-elsewhere, counted-once}
use Rattle.zk_cells.proofs.Desks.{same-players, grows-work, grows-clock, grows-table, grows-sems, grows-msgqs, grows-chans, grows-observers}
use Rattle.zk_cells.proofs.SignalSteps.{capped-once}
use Rattle.zk_cells.proofs.desk.DeskServices.attempt.Goals as goal

pub visit-requires-clause-at : goal.visit-requires-clause-at
visit-requires-clause-at g c = (c.args.self.now.passes.looked, c.requires.served.work, c.requires.later.looked)

pub visit-requires-clause-later : goal.visit-requires-clause-later
visit-requires-clause-later g c = above-work (desk_shown c.args.self.now.passes) c.args.who.number c.args.number c.requires.later

pub returns-in_err-made-in-Work-clause-attempted : goal.returns-in_err-made-in-Work-clause-attempted
returns-in_err-made-in-Work-clause-attempted g c =
    let p = c.args.self.now.passes in
    when-err (cells_machines c.args.self.now.cells.now) c.args.who c.args.number c.args.step.now (desk_shown p) (desk_shown (record p { work = c.visit.new.seat })) c.from_residual.result c.from_residual.ensures.0
    (grows-work c.args.who.number (desk_shown p) (seen_at c.visit.new.seat) c.in_err-made-in-Work.ensures.visited)

pub returns-in_ok-made-in-Work-clause-attempted : goal.returns-in_ok-made-in-Work-clause-attempted
returns-in_ok-made-in-Work-clause-attempted g c =
    let k = c.args.self.now.cells.now in
    let old = desk_shown c.args.self.now.passes in
    let made = c.in_ok-made-in-Work in
    let told : option_map (λ (m : WorkReply × ℕ). step_replies.Work m.0 m.1) made.made ≡ c.map.result = search rules in
    attempted-one work_machine (work_start (given_to k.work)) (cells_machines k) c.args.who c.args.number c.in-Work.op (steps.Work c.in-Work.op) step_replies.Work old
    (λ h. record old { work = h }) old.work (grows-work c.args.who.number old) (λ h. refl) (λ h r place. tt) (λ h r place. refl)
    (seen_at c.visit.new.seat) made.made _ _ made.ensures.visited c.in-Work.is told

pub returns-in_err-made-in-Work-clause-serves : goal.returns-in_err-made-in-Work-clause-serves
returns-in_err-made-in-Work-clause-serves g c =
    let p = c.args.self.now.passes in
    same-players c.args.self.now.cells.now p (record p { work = c.visit.new.seat }) c.args.who c.requires.served
    (record { work = c.visit.ensures.at c.args.self.now.passes.looked c.requires.served.work c.requires.later.looked; clock = c.requires.served.clock; table = c.requires.served.table; sems = c.requires.served.sems; msgqs = c.requires.served.msgqs; signals = c.requires.served.signals; chans = c.requires.served.chans; observers = c.requires.served.observers; noted = c.requires.served.noted; capacity = c.requires.served.capacity; number = c.requires.served.number; items = c.requires.served.items })

pub returns-in_ok-made-in-Work-clause-serves : goal.returns-in_ok-made-in-Work-clause-serves
returns-in_ok-made-in-Work-clause-serves g c =
    let p = c.args.self.now.passes in
    same-players c.args.self.now.cells.now p (record p { work = c.visit.new.seat }) c.args.who c.requires.served
    (record { work = c.visit.ensures.at c.args.self.now.passes.looked c.requires.served.work c.requires.later.looked; clock = c.requires.served.clock; table = c.requires.served.table; sems = c.requires.served.sems; msgqs = c.requires.served.msgqs; signals = c.requires.served.signals; chans = c.requires.served.chans; observers = c.requires.served.observers; noted = c.requires.served.noted; capacity = c.requires.served.capacity; number = c.requires.served.number; items = c.requires.served.items })

pub visit-requires-in-Clock-clause-at : goal.visit-requires-in-Clock-clause-at
visit-requires-in-Clock-clause-at g c = (0, c.requires.served.clock, omega arith)

pub visit-requires-in-Clock-clause-later : goal.visit-requires-in-Clock-clause-later
visit-requires-in-Clock-clause-later g c = above-clock (desk_shown c.args.self.now.passes) c.args.who.number c.args.number c.requires.later

pub returns-in_err-made-in-Clock-clause-attempted : goal.returns-in_err-made-in-Clock-clause-attempted
returns-in_err-made-in-Clock-clause-attempted g c =
    let p = c.args.self.now.passes in
    when-err (cells_machines c.args.self.now.cells.now) c.args.who c.args.number c.args.step.now (desk_shown p) (desk_shown (record p { clock = c.visit-in-Clock.new.seat })) c.from_residual-in_err-made-in-Clock.result c.from_residual-in_err-made-in-Clock.ensures.0
    (grows-clock c.args.who.number (desk_shown p) (seen_at c.visit-in-Clock.new.seat) c.in_err-made-in-Clock.ensures.visited)

pub returns-in_ok-made-in-Clock-clause-attempted : goal.returns-in_ok-made-in-Clock-clause-attempted
returns-in_ok-made-in-Clock-clause-attempted g c =
    let k = c.args.self.now.cells.now in
    let old = desk_shown c.args.self.now.passes in
    let made = c.in_ok-made-in-Clock in
    let told : option_map (λ (m : ClockReply × ℕ). step_replies.Clock m.0 m.1) made.made ≡ c.map-in-Clock.result = search rules in
    attempted-one clock_machine (clock_start (given_to k.clock)) (cells_machines k) c.args.who c.args.number c.in-Clock.op (steps.Clock c.in-Clock.op) step_replies.Clock old
    (λ h. record old { clock = h }) old.clock (grows-clock c.args.who.number old) (λ h. refl) (λ h r place. tt) (λ h r place. refl)
    (seen_at c.visit-in-Clock.new.seat) made.made _ _ made.ensures.visited c.in-Clock.is told

pub returns-in_err-made-in-Clock-clause-serves : goal.returns-in_err-made-in-Clock-clause-serves
returns-in_err-made-in-Clock-clause-serves g c =
    let p = c.args.self.now.passes in
    same-players c.args.self.now.cells.now p (record p { clock = c.visit-in-Clock.new.seat }) c.args.who c.requires.served
    (record { work = c.requires.served.work; clock = c.visit-in-Clock.ensures.at 0 c.requires.served.clock (omega arith); table = c.requires.served.table; sems = c.requires.served.sems; msgqs = c.requires.served.msgqs; signals = c.requires.served.signals; chans = c.requires.served.chans; observers = c.requires.served.observers; noted = c.requires.served.noted; capacity = c.requires.served.capacity; number = c.requires.served.number; items = c.requires.served.items })

pub returns-in_ok-made-in-Clock-clause-serves : goal.returns-in_ok-made-in-Clock-clause-serves
returns-in_ok-made-in-Clock-clause-serves g c =
    let p = c.args.self.now.passes in
    same-players c.args.self.now.cells.now p (record p { clock = c.visit-in-Clock.new.seat }) c.args.who c.requires.served
    (record { work = c.requires.served.work; clock = c.visit-in-Clock.ensures.at 0 c.requires.served.clock (omega arith); table = c.requires.served.table; sems = c.requires.served.sems; msgqs = c.requires.served.msgqs; signals = c.requires.served.signals; chans = c.requires.served.chans; observers = c.requires.served.observers; noted = c.requires.served.noted; capacity = c.requires.served.capacity; number = c.requires.served.number; items = c.requires.served.items })

pub visit-requires-in-Table-clause-at : goal.visit-requires-in-Table-clause-at
visit-requires-in-Table-clause-at g c = (0, c.requires.served.table, omega arith)

pub visit-requires-in-Table-clause-later : goal.visit-requires-in-Table-clause-later
visit-requires-in-Table-clause-later g c = above-table (desk_shown c.args.self.now.passes) c.args.who.number c.args.number c.requires.later

pub returns-in_err-made-in-Table-clause-attempted : goal.returns-in_err-made-in-Table-clause-attempted
returns-in_err-made-in-Table-clause-attempted g c =
    let p = c.args.self.now.passes in
    when-err (cells_machines c.args.self.now.cells.now) c.args.who c.args.number c.args.step.now (desk_shown p) (desk_shown (record p { table = c.visit-in-Table.new.seat })) c.from_residual-in_err-made-in-Table.result c.from_residual-in_err-made-in-Table.ensures.0
    (grows-table c.args.who.number (desk_shown p) (seen_at c.visit-in-Table.new.seat) c.in_err-made-in-Table.ensures.visited)

pub returns-in_ok-made-in-Table-clause-attempted : goal.returns-in_ok-made-in-Table-clause-attempted
returns-in_ok-made-in-Table-clause-attempted g c =
    let k = c.args.self.now.cells.now in
    let old = desk_shown c.args.self.now.passes in
    let made = c.in_ok-made-in-Table in
    let told : option_map (λ (m : TableReply × ℕ). step_replies.Table m.0 m.1) made.made ≡ c.map-in-Table.result = search rules in
    attempted-one table_machine (objects_start (given_to k.table)) (cells_machines k) c.args.who c.args.number c.in-Table.op (steps.Table c.in-Table.op) step_replies.Table old
    (λ h. record old { table = h }) old.table (grows-table c.args.who.number old) (λ h. refl) (λ h r place. tt) (λ h r place. refl)
    (seen_at c.visit-in-Table.new.seat) made.made _ _ made.ensures.visited c.in-Table.is told

pub returns-in_err-made-in-Table-clause-serves : goal.returns-in_err-made-in-Table-clause-serves
returns-in_err-made-in-Table-clause-serves g c =
    let p = c.args.self.now.passes in
    same-players c.args.self.now.cells.now p (record p { table = c.visit-in-Table.new.seat }) c.args.who c.requires.served
    (record { work = c.requires.served.work; clock = c.requires.served.clock; table = c.visit-in-Table.ensures.at 0 c.requires.served.table (omega arith); sems = c.requires.served.sems; msgqs = c.requires.served.msgqs; signals = c.requires.served.signals; chans = c.requires.served.chans; observers = c.requires.served.observers; noted = c.requires.served.noted; capacity = c.requires.served.capacity; number = c.requires.served.number; items = c.requires.served.items })

pub returns-in_ok-made-in-Table-clause-serves : goal.returns-in_ok-made-in-Table-clause-serves
returns-in_ok-made-in-Table-clause-serves g c =
    let p = c.args.self.now.passes in
    same-players c.args.self.now.cells.now p (record p { table = c.visit-in-Table.new.seat }) c.args.who c.requires.served
    (record { work = c.requires.served.work; clock = c.requires.served.clock; table = c.visit-in-Table.ensures.at 0 c.requires.served.table (omega arith); sems = c.requires.served.sems; msgqs = c.requires.served.msgqs; signals = c.requires.served.signals; chans = c.requires.served.chans; observers = c.requires.served.observers; noted = c.requires.served.noted; capacity = c.requires.served.capacity; number = c.requires.served.number; items = c.requires.served.items })

pub visit_at-requires-clause-later : goal.visit_at-requires-clause-later
visit_at-requires-clause-later g c = λ h there.
    above-sems (desk_shown c.args.self.now.passes) c.args.who.number c.args.number c.in-Sem.object h there c.requires.later

pub returns-in_err-made-in-Sem-clause-attempted : goal.returns-in_err-made-in-Sem-clause-attempted
returns-in_err-made-in-Sem-clause-attempted g c =
    let p = c.args.self.now.passes in
    when-err (cells_machines c.args.self.now.cells.now) c.args.who c.args.number c.args.step.now (desk_shown p) (desk_shown (record p { sems = c.visit_at.new.seats })) c.from_residual-in_err-made-in-Sem.result c.from_residual-in_err-made-in-Sem.ensures.0
    (grows-sems c.args.who.number (desk_shown p) (seen_all c.visit_at.new.seats.items) c.in_err-made-in-Sem.ensures.visited)

pub returns-in_err-made-in-Sem-clause-serves : goal.returns-in_err-made-in-Sem-clause-serves
returns-in_err-made-in-Sem-clause-serves g c =
    let p = c.args.self.now.passes in
    same-players c.args.self.now.cells.now p (record p { sems = c.visit_at.new.seats }) c.args.who c.requires.served
    (record { work = c.requires.served.work; clock = c.requires.served.clock; table = c.requires.served.table; sems = subst (λ cs. AreSeats (IsLegal sem_machine) sem_start c.args.who cs c.visit_at.new.seats.items) c.deref.ensures.value c.visit_at.ensures.seats; msgqs = c.requires.served.msgqs; signals = c.requires.served.signals; chans = c.requires.served.chans; observers = c.requires.served.observers; noted = c.requires.served.noted; capacity = c.requires.served.capacity; number = c.requires.served.number; items = c.requires.served.items })

pub returns-in_ok-made-in-Sem-clause-attempted : goal.returns-in_ok-made-in-Sem-clause-attempted
returns-in_ok-made-in-Sem-clause-attempted g c =
    let k = c.args.self.now.cells.now in
    let old = desk_shown c.args.self.now.passes in
    let object = c.in-Sem.object in
    let made = c.in_ok-made-in-Sem in
    let told : option_map (λ (m : SemReply × ℕ). step_replies.Sem object m.0 m.1) made.made ≡ c.map-in-Sem.result = search rules in
    attempted-many (family sem_machine sem_start k.sems.items) (cells_machines k) c.args.who c.args.number object c.in-Sem.op (steps.Sem object c.in-Sem.op) step_replies.Sem old
    (λ hs. record old { sems = hs }) old.sems (grows-sems c.args.who.number old) (λ hs. refl) (λ hs r place. tt) (λ hs r place. refl)
    (seen_all c.visit_at.new.seats.items) made.made _ _ (subst (λ cs. VisitedAt (family sem_machine sem_start cs) c.args.who c.args.number object c.in-Sem.op old.sems (seen_all c.visit_at.new.seats.items) (Ok made.made)) c.deref.ensures.value made.ensures.visited) c.in-Sem.is told

pub returns-in_ok-made-in-Sem-clause-serves : goal.returns-in_ok-made-in-Sem-clause-serves
returns-in_ok-made-in-Sem-clause-serves g c =
    let p = c.args.self.now.passes in
    same-players c.args.self.now.cells.now p (record p { sems = c.visit_at.new.seats }) c.args.who c.requires.served
    (record { work = c.requires.served.work; clock = c.requires.served.clock; table = c.requires.served.table; sems = subst (λ cs. AreSeats (IsLegal sem_machine) sem_start c.args.who cs c.visit_at.new.seats.items) c.deref.ensures.value c.visit_at.ensures.seats; msgqs = c.requires.served.msgqs; signals = c.requires.served.signals; chans = c.requires.served.chans; observers = c.requires.served.observers; noted = c.requires.served.noted; capacity = c.requires.served.capacity; number = c.requires.served.number; items = c.requires.served.items })

pub visit_at-requires-in-Msgq-clause-later : goal.visit_at-requires-in-Msgq-clause-later
visit_at-requires-in-Msgq-clause-later g c = λ h there.
    above-msgqs (desk_shown c.args.self.now.passes) c.args.who.number c.args.number c.in-Msgq.object h there c.requires.later

pub returns-in_err-made-in-Msgq-clause-attempted : goal.returns-in_err-made-in-Msgq-clause-attempted
returns-in_err-made-in-Msgq-clause-attempted g c =
    let p = c.args.self.now.passes in
    when-err (cells_machines c.args.self.now.cells.now) c.args.who c.args.number c.args.step.now (desk_shown p) (desk_shown (record p { msgqs = c.visit_at-in-Msgq.new.seats })) c.from_residual-in_err-made-in-Msgq.result c.from_residual-in_err-made-in-Msgq.ensures.0
    (grows-msgqs c.args.who.number (desk_shown p) (seen_all c.visit_at-in-Msgq.new.seats.items) c.in_err-made-in-Msgq.ensures.visited)

pub returns-in_err-made-in-Msgq-clause-serves : goal.returns-in_err-made-in-Msgq-clause-serves
returns-in_err-made-in-Msgq-clause-serves g c =
    let p = c.args.self.now.passes in
    same-players c.args.self.now.cells.now p (record p { msgqs = c.visit_at-in-Msgq.new.seats }) c.args.who c.requires.served
    (record { work = c.requires.served.work; clock = c.requires.served.clock; table = c.requires.served.table; sems = c.requires.served.sems; msgqs = subst (λ cs. AreSeats (IsLegal msgq_machine) msgq_start c.args.who cs c.visit_at-in-Msgq.new.seats.items) c.deref-in-Msgq.ensures.value c.visit_at-in-Msgq.ensures.seats; signals = c.requires.served.signals; chans = c.requires.served.chans; observers = c.requires.served.observers; noted = c.requires.served.noted; capacity = c.requires.served.capacity; number = c.requires.served.number; items = c.requires.served.items })

pub returns-in_ok-made-in-Msgq-clause-attempted : goal.returns-in_ok-made-in-Msgq-clause-attempted
returns-in_ok-made-in-Msgq-clause-attempted g c =
    let k = c.args.self.now.cells.now in
    let old = desk_shown c.args.self.now.passes in
    let object = c.in-Msgq.object in
    let made = c.in_ok-made-in-Msgq in
    let told : option_map (λ (m : MsgqReply × ℕ). step_replies.Msgq object m.0 m.1) made.made ≡ c.map-in-Msgq.result = search rules in
    attempted-many (family msgq_machine msgq_start k.msgqs.items) (cells_machines k) c.args.who c.args.number object c.in-Msgq.op (steps.Msgq object c.in-Msgq.op) step_replies.Msgq old
    (λ hs. record old { msgqs = hs }) old.msgqs (grows-msgqs c.args.who.number old) (λ hs. refl) (λ hs r place. tt) (λ hs r place. refl)
    (seen_all c.visit_at-in-Msgq.new.seats.items) made.made _ _ (subst (λ cs. VisitedAt (family msgq_machine msgq_start cs) c.args.who c.args.number object c.in-Msgq.op old.msgqs (seen_all c.visit_at-in-Msgq.new.seats.items) (Ok made.made)) c.deref-in-Msgq.ensures.value made.ensures.visited) c.in-Msgq.is told

pub returns-in_ok-made-in-Msgq-clause-serves : goal.returns-in_ok-made-in-Msgq-clause-serves
returns-in_ok-made-in-Msgq-clause-serves g c =
    let p = c.args.self.now.passes in
    same-players c.args.self.now.cells.now p (record p { msgqs = c.visit_at-in-Msgq.new.seats }) c.args.who c.requires.served
    (record { work = c.requires.served.work; clock = c.requires.served.clock; table = c.requires.served.table; sems = c.requires.served.sems; msgqs = subst (λ cs. AreSeats (IsLegal msgq_machine) msgq_start c.args.who cs c.visit_at-in-Msgq.new.seats.items) c.deref-in-Msgq.ensures.value c.visit_at-in-Msgq.ensures.seats; signals = c.requires.served.signals; chans = c.requires.served.chans; observers = c.requires.served.observers; noted = c.requires.served.noted; capacity = c.requires.served.capacity; number = c.requires.served.number; items = c.requires.served.items })

pub visit_at-requires-in-Chan-clause-later : goal.visit_at-requires-in-Chan-clause-later
visit_at-requires-in-Chan-clause-later g c = λ h there.
    above-chans (desk_shown c.args.self.now.passes) c.args.who.number c.args.number c.in-Chan.object h there c.requires.later

pub returns-in_err-made-in-Chan-clause-attempted : goal.returns-in_err-made-in-Chan-clause-attempted
returns-in_err-made-in-Chan-clause-attempted g c =
    let p = c.args.self.now.passes in
    when-err (cells_machines c.args.self.now.cells.now) c.args.who c.args.number c.args.step.now (desk_shown p) (desk_shown (record p { chans = c.visit_at-in-Chan.new.seats })) c.from_residual-in_err-made-in-Chan.result c.from_residual-in_err-made-in-Chan.ensures.0
    (grows-chans c.args.who.number (desk_shown p) (seen_all c.visit_at-in-Chan.new.seats.items) c.in_err-made-in-Chan.ensures.visited)

pub returns-in_err-made-in-Chan-clause-serves : goal.returns-in_err-made-in-Chan-clause-serves
returns-in_err-made-in-Chan-clause-serves g c =
    let p = c.args.self.now.passes in
    same-players c.args.self.now.cells.now p (record p { chans = c.visit_at-in-Chan.new.seats }) c.args.who c.requires.served
    (record { work = c.requires.served.work; clock = c.requires.served.clock; table = c.requires.served.table; sems = c.requires.served.sems; msgqs = c.requires.served.msgqs; signals = c.requires.served.signals; chans = subst (λ cs. AreSeats (IsLegal chan_machine) chan_start c.args.who cs c.visit_at-in-Chan.new.seats.items) c.deref-in-Chan.ensures.value c.visit_at-in-Chan.ensures.seats; observers = c.requires.served.observers; noted = c.requires.served.noted; capacity = c.requires.served.capacity; number = c.requires.served.number; items = c.requires.served.items })

pub returns-in_ok-made-in-Chan-clause-attempted : goal.returns-in_ok-made-in-Chan-clause-attempted
returns-in_ok-made-in-Chan-clause-attempted g c =
    let k = c.args.self.now.cells.now in
    let old = desk_shown c.args.self.now.passes in
    let object = c.in-Chan.object in
    let made = c.in_ok-made-in-Chan in
    let told : option_map (λ (m : ChanReply × ℕ). step_replies.Chan object m.0 m.1) made.made ≡ c.map-in-Chan.result = search rules in
    attempted-many (family chan_machine chan_start k.chans.items) (cells_machines k) c.args.who c.args.number object c.in-Chan.op (steps.Chan object c.in-Chan.op) step_replies.Chan old
    (λ hs. record old { chans = hs }) old.chans (grows-chans c.args.who.number old) (λ hs. refl) (λ hs r place. tt) (λ hs r place. refl)
    (seen_all c.visit_at-in-Chan.new.seats.items) made.made _ _ (subst (λ cs. VisitedAt (family chan_machine chan_start cs) c.args.who c.args.number object c.in-Chan.op old.chans (seen_all c.visit_at-in-Chan.new.seats.items) (Ok made.made)) c.deref-in-Chan.ensures.value made.ensures.visited) c.in-Chan.is told

pub returns-in_ok-made-in-Chan-clause-serves : goal.returns-in_ok-made-in-Chan-clause-serves
returns-in_ok-made-in-Chan-clause-serves g c =
    let p = c.args.self.now.passes in
    same-players c.args.self.now.cells.now p (record p { chans = c.visit_at-in-Chan.new.seats }) c.args.who c.requires.served
    (record { work = c.requires.served.work; clock = c.requires.served.clock; table = c.requires.served.table; sems = c.requires.served.sems; msgqs = c.requires.served.msgqs; signals = c.requires.served.signals; chans = subst (λ cs. AreSeats (IsLegal chan_machine) chan_start c.args.who cs c.visit_at-in-Chan.new.seats.items) c.deref-in-Chan.ensures.value c.visit_at-in-Chan.ensures.seats; observers = c.requires.served.observers; noted = c.requires.served.noted; capacity = c.requires.served.capacity; number = c.requires.served.number; items = c.requires.served.items })

pub visit_at-requires-in-Obs-clause-later : goal.visit_at-requires-in-Obs-clause-later
visit_at-requires-in-Obs-clause-later g c = λ h there.
    above-observers (desk_shown c.args.self.now.passes) c.args.who.number c.args.number c.in-Obs.object h there c.requires.later

pub returns-in_err-made-in-Obs-clause-attempted : goal.returns-in_err-made-in-Obs-clause-attempted
returns-in_err-made-in-Obs-clause-attempted g c =
    let p = c.args.self.now.passes in
    when-err (cells_machines c.args.self.now.cells.now) c.args.who c.args.number c.args.step.now (desk_shown p) (desk_shown (record p { observers = c.visit_at-in-Obs.new.seats })) c.from_residual-in_err-made-in-Obs.result c.from_residual-in_err-made-in-Obs.ensures.0
    (grows-observers c.args.who.number (desk_shown p) (seen_all c.visit_at-in-Obs.new.seats.items) c.in_err-made-in-Obs.ensures.visited)

pub returns-in_err-made-in-Obs-clause-serves : goal.returns-in_err-made-in-Obs-clause-serves
returns-in_err-made-in-Obs-clause-serves g c =
    let p = c.args.self.now.passes in
    same-players c.args.self.now.cells.now p (record p { observers = c.visit_at-in-Obs.new.seats }) c.args.who c.requires.served
    (record { work = c.requires.served.work; clock = c.requires.served.clock; table = c.requires.served.table; sems = c.requires.served.sems; msgqs = c.requires.served.msgqs; signals = c.requires.served.signals; chans = c.requires.served.chans; observers = subst (λ cs. AreSeats (IsLegal obs_machine) obs_start c.args.who cs c.visit_at-in-Obs.new.seats.items) c.deref-in-Obs.ensures.value c.visit_at-in-Obs.ensures.seats; noted = c.requires.served.noted; capacity = c.requires.served.capacity; number = c.requires.served.number; items = c.requires.served.items })

pub returns-in_ok-made-in-Obs-clause-attempted : goal.returns-in_ok-made-in-Obs-clause-attempted
returns-in_ok-made-in-Obs-clause-attempted g c =
    let k = c.args.self.now.cells.now in
    let old = desk_shown c.args.self.now.passes in
    let object = c.in-Obs.object in
    let made = c.in_ok-made-in-Obs in
    let told : option_map (λ (m : ObsReply × ℕ). step_replies.Obs object m.0 m.1) made.made ≡ c.map-in-Obs.result = search rules in
    attempted-many (family obs_machine obs_start k.observers.items) (cells_machines k) c.args.who c.args.number object c.in-Obs.op (steps.Obs object c.in-Obs.op) step_replies.Obs old
    (λ hs. record old { observers = hs }) old.observers (grows-observers c.args.who.number old) (λ hs. refl) (λ hs r place. tt) (λ hs r place. refl)
    (seen_all c.visit_at-in-Obs.new.seats.items) made.made _ _ (subst (λ cs. VisitedAt (family obs_machine obs_start cs) c.args.who c.args.number object c.in-Obs.op old.observers (seen_all c.visit_at-in-Obs.new.seats.items) (Ok made.made)) c.deref-in-Obs.ensures.value made.ensures.visited) c.in-Obs.is told

pub returns-in_ok-made-in-Obs-clause-serves : goal.returns-in_ok-made-in-Obs-clause-serves
returns-in_ok-made-in-Obs-clause-serves g c =
    let p = c.args.self.now.passes in
    same-players c.args.self.now.cells.now p (record p { observers = c.visit_at-in-Obs.new.seats }) c.args.who c.requires.served
    (record { work = c.requires.served.work; clock = c.requires.served.clock; table = c.requires.served.table; sems = c.requires.served.sems; msgqs = c.requires.served.msgqs; signals = c.requires.served.signals; chans = c.requires.served.chans; observers = subst (λ cs. AreSeats (IsLegal obs_machine) obs_start c.args.who cs c.visit_at-in-Obs.new.seats.items) c.deref-in-Obs.ensures.value c.visit_at-in-Obs.ensures.seats; noted = c.requires.served.noted; capacity = c.requires.served.capacity; number = c.requires.served.number; items = c.requires.served.items })

pub returns-in-Signal-clause-serves : goal.returns-in-Signal-clause-serves
returns-in-Signal-clause-serves g c =
    same-players c.args.self.now.cells.now c.args.self.now.passes c.quick_attempt.new.passes c.args.who c.requires.served c.quick_attempt.ensures.served

pub returns-in_err-made-in-Work-clause-memory : goal.returns-in_err-made-in-Work-clause-memory
returns-in_err-made-in-Work-clause-memory g c =
    none-wanted (cells_machines c.args.self.now.cells.now) (desk_shown (record c.args.self.now.passes { work = c.visit.new.seat })) c.args.who (steps.Work c.in-Work.op) c.args.step.now
    c.from_residual.result c.in-Work.is c.in_err-made-in-Work.ensures.memory

pub returns-in_err-made-in-Clock-clause-memory : goal.returns-in_err-made-in-Clock-clause-memory
returns-in_err-made-in-Clock-clause-memory g c =
    none-wanted (cells_machines c.args.self.now.cells.now) (desk_shown (record c.args.self.now.passes { clock = c.visit-in-Clock.new.seat })) c.args.who (steps.Clock c.in-Clock.op) c.args.step.now
    c.from_residual-in_err-made-in-Clock.result c.in-Clock.is c.in_err-made-in-Clock.ensures.memory

pub returns-in_err-made-in-Table-clause-memory : goal.returns-in_err-made-in-Table-clause-memory
returns-in_err-made-in-Table-clause-memory g c =
    none-wanted (cells_machines c.args.self.now.cells.now) (desk_shown (record c.args.self.now.passes { table = c.visit-in-Table.new.seat })) c.args.who (steps.Table c.in-Table.op) c.args.step.now
    c.from_residual-in_err-made-in-Table.result c.in-Table.is c.in_err-made-in-Table.ensures.memory

pub returns-in_err-made-in-Sem-clause-memory : goal.returns-in_err-made-in-Sem-clause-memory
returns-in_err-made-in-Sem-clause-memory g c =
    let object = c.in-Sem.object in
    let seats = c.visit_at.new.seats in
    none-wanted (cells_machines c.args.self.now.cells.now) (desk_shown (record c.args.self.now.passes { sems = seats })) c.args.who (steps.Sem object c.in-Sem.op) c.args.step.now
    c.from_residual-in_err-made-in-Sem.result c.in-Sem.is
    (subst (λ cs. closes_at (λ s who op. sem_closes op) (family sem_machine sem_start cs) (seen_all seats.items) c.args.who object c.in-Sem.op ≡ false) c.deref.ensures.value c.in_err-made-in-Sem.ensures.memory)

pub returns-in_err-made-in-Msgq-clause-memory : goal.returns-in_err-made-in-Msgq-clause-memory
returns-in_err-made-in-Msgq-clause-memory g c =
    let object = c.in-Msgq.object in
    let seats = c.visit_at-in-Msgq.new.seats in
    none-wanted (cells_machines c.args.self.now.cells.now) (desk_shown (record c.args.self.now.passes { msgqs = seats })) c.args.who (steps.Msgq object c.in-Msgq.op) c.args.step.now
    c.from_residual-in_err-made-in-Msgq.result c.in-Msgq.is
    (subst (λ cs. closes_at (λ s who op. msgq_closes op) (family msgq_machine msgq_start cs) (seen_all seats.items) c.args.who object c.in-Msgq.op ≡ false) c.deref-in-Msgq.ensures.value c.in_err-made-in-Msgq.ensures.memory)

pub returns-in_err-made-in-Chan-clause-memory : goal.returns-in_err-made-in-Chan-clause-memory
returns-in_err-made-in-Chan-clause-memory g c =
    let object = c.in-Chan.object in
    let seats = c.visit_at-in-Chan.new.seats in
    none-wanted (cells_machines c.args.self.now.cells.now) (desk_shown (record c.args.self.now.passes { chans = seats })) c.args.who (steps.Chan object c.in-Chan.op) c.args.step.now
    c.from_residual-in_err-made-in-Chan.result c.in-Chan.is
    (subst (λ cs. closes_at chan_closes (family chan_machine chan_start cs) (seen_all seats.items) c.args.who object c.in-Chan.op ≡ false) c.deref-in-Chan.ensures.value c.in_err-made-in-Chan.ensures.memory)

pub returns-in_err-made-in-Obs-clause-memory : goal.returns-in_err-made-in-Obs-clause-memory
returns-in_err-made-in-Obs-clause-memory g c =
    let object = c.in-Obs.object in
    let seats = c.visit_at-in-Obs.new.seats in
    none-wanted (cells_machines c.args.self.now.cells.now) (desk_shown (record c.args.self.now.passes { observers = seats })) c.args.who (steps.Obs object c.in-Obs.op) c.args.step.now
    c.from_residual-in_err-made-in-Obs.result c.in-Obs.is
    (subst (λ cs. closes_at (λ s who op. obs_closes op) (family obs_machine obs_start cs) (seen_all seats.items) c.args.who object c.in-Obs.op ≡ false) c.deref-in-Obs.ensures.value c.in_err-made-in-Obs.ensures.memory)

pub returns-in_err-made-in-Sem-clause-elsewhere : goal.returns-in_err-made-in-Sem-clause-elsewhere
returns-in_err-made-in-Sem-clause-elsewhere g c =
    kept-elsewhere (steps.Sem c.in-Sem.object c.in-Sem.op) c.args.step.now _ _ c.in-Sem.is
    (ap (λ hs. record (desk_shown c.args.self.now.passes) { sems = hs }) c.visit_at.ensures.kept)

pub returns-in_ok-made-in-Sem-clause-elsewhere : goal.returns-in_ok-made-in-Sem-clause-elsewhere
returns-in_ok-made-in-Sem-clause-elsewhere g c =
    kept-elsewhere (steps.Sem c.in-Sem.object c.in-Sem.op) c.args.step.now _ _ c.in-Sem.is
    (ap (λ hs. record (desk_shown c.args.self.now.passes) { sems = hs }) c.visit_at.ensures.kept)

pub returns-in_err-made-in-Msgq-clause-elsewhere : goal.returns-in_err-made-in-Msgq-clause-elsewhere
returns-in_err-made-in-Msgq-clause-elsewhere g c =
    kept-elsewhere (steps.Msgq c.in-Msgq.object c.in-Msgq.op) c.args.step.now _ _ c.in-Msgq.is
    (ap (λ hs. record (desk_shown c.args.self.now.passes) { msgqs = hs }) c.visit_at-in-Msgq.ensures.kept)

pub returns-in_ok-made-in-Msgq-clause-elsewhere : goal.returns-in_ok-made-in-Msgq-clause-elsewhere
returns-in_ok-made-in-Msgq-clause-elsewhere g c =
    kept-elsewhere (steps.Msgq c.in-Msgq.object c.in-Msgq.op) c.args.step.now _ _ c.in-Msgq.is
    (ap (λ hs. record (desk_shown c.args.self.now.passes) { msgqs = hs }) c.visit_at-in-Msgq.ensures.kept)

pub returns-in_err-made-in-Chan-clause-elsewhere : goal.returns-in_err-made-in-Chan-clause-elsewhere
returns-in_err-made-in-Chan-clause-elsewhere g c =
    kept-elsewhere (steps.Chan c.in-Chan.object c.in-Chan.op) c.args.step.now _ _ c.in-Chan.is
    (ap (λ hs. record (desk_shown c.args.self.now.passes) { chans = hs }) c.visit_at-in-Chan.ensures.kept)

pub returns-in_ok-made-in-Chan-clause-elsewhere : goal.returns-in_ok-made-in-Chan-clause-elsewhere
returns-in_ok-made-in-Chan-clause-elsewhere g c =
    kept-elsewhere (steps.Chan c.in-Chan.object c.in-Chan.op) c.args.step.now _ _ c.in-Chan.is
    (ap (λ hs. record (desk_shown c.args.self.now.passes) { chans = hs }) c.visit_at-in-Chan.ensures.kept)

pub returns-in_err-made-in-Obs-clause-elsewhere : goal.returns-in_err-made-in-Obs-clause-elsewhere
returns-in_err-made-in-Obs-clause-elsewhere g c =
    kept-elsewhere (steps.Obs c.in-Obs.object c.in-Obs.op) c.args.step.now _ _ c.in-Obs.is
    (ap (λ hs. record (desk_shown c.args.self.now.passes) { observers = hs }) c.visit_at-in-Obs.ensures.kept)

pub returns-in_ok-made-in-Obs-clause-elsewhere : goal.returns-in_ok-made-in-Obs-clause-elsewhere
returns-in_ok-made-in-Obs-clause-elsewhere g c =
    kept-elsewhere (steps.Obs c.in-Obs.object c.in-Obs.op) c.args.step.now _ _ c.in-Obs.is
    (ap (λ hs. record (desk_shown c.args.self.now.passes) { observers = hs }) c.visit_at-in-Obs.ensures.kept)

pub returns-in_ok-made-in-Work-clause-once : goal.returns-in_ok-made-in-Work-clause-once
returns-in_ok-made-in-Work-clause-once g c = λ none.
    counted-once (steps.Work c.in-Work.op) c.args.step.now (desk_counts c.args.self.now.passes) (desk_counts (record c.args.self.now.passes { work = c.visit.new.seat })) c.in-Work.is
    (capped-once (holds_at c.args.self.now.passes.work) (holds_at c.visit.new.seat) c.visit.ensures.holds)

pub returns-in_ok-made-in-Clock-clause-once : goal.returns-in_ok-made-in-Clock-clause-once
returns-in_ok-made-in-Clock-clause-once g c = λ none.
    counted-once (steps.Clock c.in-Clock.op) c.args.step.now (desk_counts c.args.self.now.passes) (desk_counts (record c.args.self.now.passes { clock = c.visit-in-Clock.new.seat })) c.in-Clock.is
    (capped-once (holds_at c.args.self.now.passes.clock) (holds_at c.visit-in-Clock.new.seat) c.visit-in-Clock.ensures.holds)

pub returns-in_ok-made-in-Table-clause-once : goal.returns-in_ok-made-in-Table-clause-once
returns-in_ok-made-in-Table-clause-once g c = λ none.
    counted-once (steps.Table c.in-Table.op) c.args.step.now (desk_counts c.args.self.now.passes) (desk_counts (record c.args.self.now.passes { table = c.visit-in-Table.new.seat })) c.in-Table.is
    (capped-once (holds_at c.args.self.now.passes.table) (holds_at c.visit-in-Table.new.seat) c.visit-in-Table.ensures.holds)

pub returns-in_ok-made-in-Sem-clause-once : goal.returns-in_ok-made-in-Sem-clause-once
returns-in_ok-made-in-Sem-clause-once g c = λ none.
    counted-once (steps.Sem c.in-Sem.object c.in-Sem.op) c.args.step.now (desk_counts c.args.self.now.passes) (desk_counts (record c.args.self.now.passes { sems = c.visit_at.new.seats })) c.in-Sem.is
    (capped-once (holds_in c.args.self.now.passes.sems.items c.in-Sem.object) (holds_in c.visit_at.new.seats.items c.in-Sem.object) c.visit_at.ensures.holds)

pub returns-in_ok-made-in-Msgq-clause-once : goal.returns-in_ok-made-in-Msgq-clause-once
returns-in_ok-made-in-Msgq-clause-once g c = λ none.
    counted-once (steps.Msgq c.in-Msgq.object c.in-Msgq.op) c.args.step.now (desk_counts c.args.self.now.passes) (desk_counts (record c.args.self.now.passes { msgqs = c.visit_at-in-Msgq.new.seats })) c.in-Msgq.is
    (capped-once (holds_in c.args.self.now.passes.msgqs.items c.in-Msgq.object) (holds_in c.visit_at-in-Msgq.new.seats.items c.in-Msgq.object) c.visit_at-in-Msgq.ensures.holds)

pub returns-in_ok-made-in-Chan-clause-once : goal.returns-in_ok-made-in-Chan-clause-once
returns-in_ok-made-in-Chan-clause-once g c = λ none.
    counted-once (steps.Chan c.in-Chan.object c.in-Chan.op) c.args.step.now (desk_counts c.args.self.now.passes) (desk_counts (record c.args.self.now.passes { chans = c.visit_at-in-Chan.new.seats })) c.in-Chan.is
    (capped-once (holds_in c.args.self.now.passes.chans.items c.in-Chan.object) (holds_in c.visit_at-in-Chan.new.seats.items c.in-Chan.object) c.visit_at-in-Chan.ensures.holds)

pub returns-in_ok-made-in-Obs-clause-once : goal.returns-in_ok-made-in-Obs-clause-once
returns-in_ok-made-in-Obs-clause-once g c = λ none.
    counted-once (steps.Obs c.in-Obs.object c.in-Obs.op) c.args.step.now (desk_counts c.args.self.now.passes) (desk_counts (record c.args.self.now.passes { observers = c.visit_at-in-Obs.new.seats })) c.in-Obs.is
    (capped-once (holds_in c.args.self.now.passes.observers.items c.in-Obs.object) (holds_in c.visit_at-in-Obs.new.seats.items c.in-Obs.object) c.visit_at-in-Obs.ensures.holds)
