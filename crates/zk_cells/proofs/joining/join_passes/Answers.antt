use Rattle.std.proofs.Common.{◌++◌, sym, subst}
use Rattle.zk_base.specs.Legal.{IsLegal}
use Rattle.zk_model_wait.specs.Sem.{sem_machine}
use Rattle.zk_model_wait.specs.Msgq.{msgq_machine}
use Rattle.zk_model_bus.specs.Channel.{chan_machine}
use Rattle.zk_model_bus.specs.Observer.{obs_machine}
use Rattle.zk_bus.specs.Seen.{chan_start}
use Rattle.zk_msgq.specs.Seen.{msgq_start}
use Rattle.zk_sem.specs.Seen.{sem_start}
use Rattle.zk_subq.specs.Seen.{obs_start}
use Rattle.zk_cells.specs.Joined.{AllStand, HaveShared}
use Rattle.zk_cells.proofs.joining.join_passes.Goals as goal

pub returns-clause-players : goal.returns-clause-players
returns-clause-players c = λ ws us a b. record {
  work = c.join_two.ensures.players ws us a.work b.work;
  clock = c.join_two-2.ensures.players ws us a.clock b.clock;
  table = c.join_two-3.ensures.players ws us a.table b.table;
  sems = subst (λ cs. AllStand (IsLegal sem_machine) sem_start (ws ++ us) cs c.join_rows.new.into.items) c.deref.ensures.value (c.join_rows.ensures.players ws us (subst (λ cs. AllStand (IsLegal sem_machine) sem_start ws cs c.args.into.now.sems.items) (sym c.deref.ensures.value) a.sems) (subst (λ cs. AllStand (IsLegal sem_machine) sem_start us cs c.args.other.sems.items) (sym c.deref.ensures.value) b.sems));
  msgqs = subst (λ cs. AllStand (IsLegal msgq_machine) msgq_start (ws ++ us) cs c.join_rows-2.new.into.items) c.deref-2.ensures.value (c.join_rows-2.ensures.players ws us (subst (λ cs. AllStand (IsLegal msgq_machine) msgq_start ws cs c.args.into.now.msgqs.items) (sym c.deref-2.ensures.value) a.msgqs) (subst (λ cs. AllStand (IsLegal msgq_machine) msgq_start us cs c.args.other.msgqs.items) (sym c.deref-2.ensures.value) b.msgqs));
  chans = subst (λ cs. AllStand (IsLegal chan_machine) chan_start (ws ++ us) cs c.join_rows-3.new.into.items) c.deref-4.ensures.value (c.join_rows-3.ensures.players ws us (subst (λ cs. AllStand (IsLegal chan_machine) chan_start ws cs c.args.into.now.chans.items) (sym c.deref-4.ensures.value) a.chans) (subst (λ cs. AllStand (IsLegal chan_machine) chan_start us cs c.args.other.chans.items) (sym c.deref-4.ensures.value) b.chans));
  observers = subst (λ cs. AllStand (IsLegal obs_machine) obs_start (ws ++ us) cs c.join_rows-4.new.into.items) c.deref-5.ensures.value (c.join_rows-4.ensures.players ws us (subst (λ cs. AllStand (IsLegal obs_machine) obs_start ws cs c.args.into.now.observers.items) (sym c.deref-5.ensures.value) a.observers) (subst (λ cs. AllStand (IsLegal obs_machine) obs_start us cs c.args.other.observers.items) (sym c.deref-5.ensures.value) b.observers));
}

pub returns-clause-first : goal.returns-clause-first
returns-clause-first c = λ ws us a b. record {
  work = c.join_two.ensures.first ws a.work;
  clock = c.join_two-2.ensures.first ws a.clock;
  table = c.join_two-3.ensures.first ws a.table;
  sems = c.join_rows.ensures.first ws us (subst (λ cs. AllStand (IsLegal sem_machine) sem_start ws cs c.args.into.now.sems.items) (sym c.deref.ensures.value) a.sems) (subst (λ cs. AllStand (IsLegal sem_machine) sem_start us cs c.args.other.sems.items) (sym c.deref.ensures.value) b.sems);
  msgqs = c.join_rows-2.ensures.first ws us (subst (λ cs. AllStand (IsLegal msgq_machine) msgq_start ws cs c.args.into.now.msgqs.items) (sym c.deref-2.ensures.value) a.msgqs) (subst (λ cs. AllStand (IsLegal msgq_machine) msgq_start us cs c.args.other.msgqs.items) (sym c.deref-2.ensures.value) b.msgqs);
  chans = c.join_rows-3.ensures.first ws us (subst (λ cs. AllStand (IsLegal chan_machine) chan_start ws cs c.args.into.now.chans.items) (sym c.deref-4.ensures.value) a.chans) (subst (λ cs. AllStand (IsLegal chan_machine) chan_start us cs c.args.other.chans.items) (sym c.deref-4.ensures.value) b.chans);
  observers = c.join_rows-4.ensures.first ws us (subst (λ cs. AllStand (IsLegal obs_machine) obs_start ws cs c.args.into.now.observers.items) (sym c.deref-5.ensures.value) a.observers) (subst (λ cs. AllStand (IsLegal obs_machine) obs_start us cs c.args.other.observers.items) (sym c.deref-5.ensures.value) b.observers);
}

pub returns-clause-second : goal.returns-clause-second
returns-clause-second c = λ ws us a b. record {
  work = c.join_two.ensures.second us b.work;
  clock = c.join_two-2.ensures.second us b.clock;
  table = c.join_two-3.ensures.second us b.table;
  sems = c.join_rows.ensures.second ws us (subst (λ cs. AllStand (IsLegal sem_machine) sem_start ws cs c.args.into.now.sems.items) (sym c.deref.ensures.value) a.sems) (subst (λ cs. AllStand (IsLegal sem_machine) sem_start us cs c.args.other.sems.items) (sym c.deref.ensures.value) b.sems);
  msgqs = c.join_rows-2.ensures.second ws us (subst (λ cs. AllStand (IsLegal msgq_machine) msgq_start ws cs c.args.into.now.msgqs.items) (sym c.deref-2.ensures.value) a.msgqs) (subst (λ cs. AllStand (IsLegal msgq_machine) msgq_start us cs c.args.other.msgqs.items) (sym c.deref-2.ensures.value) b.msgqs);
  chans = c.join_rows-3.ensures.second ws us (subst (λ cs. AllStand (IsLegal chan_machine) chan_start ws cs c.args.into.now.chans.items) (sym c.deref-4.ensures.value) a.chans) (subst (λ cs. AllStand (IsLegal chan_machine) chan_start us cs c.args.other.chans.items) (sym c.deref-4.ensures.value) b.chans);
  observers = c.join_rows-4.ensures.second ws us (subst (λ cs. AllStand (IsLegal obs_machine) obs_start ws cs c.args.into.now.observers.items) (sym c.deref-5.ensures.value) a.observers) (subst (λ cs. AllStand (IsLegal obs_machine) obs_start us cs c.args.other.observers.items) (sym c.deref-5.ensures.value) b.observers);
}

pub returns-clause-signals : goal.returns-clause-signals
returns-clause-signals c = λ ns ms xs ys fs gs a b.
    subst (λ ss. HaveShared (ns ++ ms) (λ k. xs k ++ ys k) (λ k. fs k ++ gs k) ss c.join_signals.new.into.items) c.deref-3.ensures.value
    (c.join_signals.ensures ns ms xs ys fs gs
    (subst (λ ss. HaveShared ns xs fs ss c.args.into.now.signals.items) (sym c.deref-3.ensures.value) a)
    (subst (λ ss. HaveShared ms ys gs ss c.args.other.signals.items) (sym c.deref-3.ensures.value) b))

pub join_signals-requires : goal.join_signals-requires
join_signals-requires c =
    let own = c.requires.shared in
    record {
      own = (
        own.0,
        own.1,
        own.2,
        own.3,
        own.4,
        own.5,
        subst (λ ss. HaveShared own.0 own.2 own.4 ss c.args.into.now.signals.items) (sym c.deref-3.ensures.value) own.6,
        subst (λ ss. HaveShared own.1 own.3 own.5 ss c.args.other.signals.items) (sym c.deref-3.ensures.value) own.7,
      );
    }
