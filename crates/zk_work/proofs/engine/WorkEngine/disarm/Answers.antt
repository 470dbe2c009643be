use Rattle.std.proofs.Common.{◌≡◌, sym, ap, subst, ◌∙◌}
use Rattle.zk_queue.specs.Open.{Open}
use Rattle.zk_time.specs.Timeouts.{Timeouts, is_armed}
use Rattle.zk_work.specs.EngineState.{EngineState, EngineView, IsWhole}
use Rattle.zk_work.proofs.Delaying.{disarmed-whole, disarmed-free}
use Rattle.zk_work.proofs.engine.WorkEngine.disarm.Goals as goal

pub returns-clause-whole : goal.returns-clause-whole
returns-clause-whole c =
    let i = c.self.inside in
    let K : Open → Timeouts → EngineState =
    λ o t. record {
      time = i.time;
      entries = i.entries;
      made = i.made;
      running = i.running;
      last = i.last.items;
      active = o;
      timeouts = t;
      waits = i.waits.waits;
      queues = i.queues.items;
    } in
    let view : K i.active.admissions i.active.timeouts ≡ c.args.self.now.state = ap (λ (h : EngineView). h.state) c.self.view_is in
    subst (λ (o : Open). IsWhole (K o c.disarm.new.self.timeouts)) (sym c.disarm.ensures.admissions)
    (subst (λ (t : Timeouts). IsWhole (K i.active.admissions t)) (sym c.disarm.ensures.timeouts)
    (disarmed-whole (K i.active.admissions i.active.timeouts) c.args.item (subst IsWhole (sym view) c.requires.whole)))

pub returns-clause-free : goal.returns-clause-free
returns-clause-free c = ap (λ (t : Timeouts). is_armed t c.args.item) c.disarm.ensures.timeouts
    ∙ disarmed-free c.self.inside.active.timeouts c.args.item
