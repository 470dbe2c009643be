use Rattle.std.proofs.Common.{◌≡◌, sym, ap, subst}
use Rattle.zk_queue.specs.Open.{Open}
use Rattle.zk_time.specs.Timeouts.{Timeouts}
use Rattle.zk_work.specs.EngineState.{EngineState, EngineView, IsWhole}
use Rattle.zk_work.proofs.Due.{due-whole}
use Rattle.zk_work.proofs.engine.WorkEngine.take_due.Goals as goal

pub returns-clause-whole : goal.returns-clause-whole
returns-clause-whole c =
    let i = c.self.inside in
    let K : Open → Timeouts → EngineState =
    λ o t. record {
      time = i.time;
      entries = i.entries;
      made = i.made;
      running = i.running;
      last = i.last.items;
      active = o;
      timeouts = t;
      waits = i.waits.waits;
      queues = i.queues.items;
    } in
    let view : K i.active.admissions i.active.timeouts ≡ c.args.self.now.state = ap (λ (h : EngineView). h.state) c.self.view_is in
    subst (λ (o : Open). IsWhole (K o c.due.new.self.timeouts)) (sym c.due.ensures.admissions)
    (subst (λ (t : Timeouts). IsWhole (K i.active.admissions t)) (sym c.due.ensures.timeouts)
    (due-whole (K i.active.admissions i.active.timeouts) c.args.time (subst IsWhole (sym view) c.requires.whole)))
