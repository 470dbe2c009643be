use Rattle.std.proofs.Common.{refl, sym, ap, subst, ◌∙◌, arith}
use Rattle.zk_model_work.specs.Answers.{drain_wait}
use Rattle.zk_model_work.specs.Machine.{awaiting}
use Rattle.zk_work.specs.OpenWaits.{IsNewAt}
use Rattle.zk_work.proofs.Flushing.{flushing-drain_wait, flushing-as}
use Rattle.zk_work.proofs.Kept.{kept-drain_wait, kept-as, new-drain_wait}
use Rattle.zk_work.proofs.engine.WorkEngine.drain_start.Goals as goal

pub put-requires-clause-new : goal.put-requires-clause-new
put-requires-clause-new c =
    subst (IsNewAt c.self.inside.entries) (sym c.drain_wait-wait.ensures)
    (new-drain_wait c.is_idle-idle.result c.self.inside.entries c.deref.result.now c.args.who c.args.queue)

pub invariant_of-self-2 : goal.invariant_of-self-2
invariant_of-self-2 c =
    let i = c.self.inside in
    let o = i.active.admissions in
    let fl = i.active.flushing in
    let queues = c.deref.result.now in
    let wait = drain_wait c.is_idle-idle.result i.entries queues c.args.who c.args.queue in
    record {
      runs = c.self.invariant.runs;
      items = c.self.invariant.items;
      touched = c.self.invariant.touched;
      flushing = flushing-as i.made o o fl fl (awaiting i.waits.waits wait) c.put.new.self.waits refl refl
          (c.in_ok-put.ensures.ok ∙ ap (awaiting i.waits.waits) c.drain_wait-wait.ensures)
          (flushing-drain_wait i.made o fl i.waits.waits c.self.invariant.flushing c.is_idle-idle.result i.entries queues
          c.args.who c.args.queue);
      kept = kept-as o o i.flushed.items i.flushed.items (awaiting i.waits.waits wait) c.put.new.self.waits refl refl
          (c.in_ok-put.ensures.ok ∙ ap (awaiting i.waits.waits) c.drain_wait-wait.ensures)
          (kept-drain_wait o i.flushed.items i.waits.waits c.self.invariant.kept c.is_idle-idle.result i.entries queues
          c.args.who c.args.queue);
      old = c.self.invariant.old;
      placed = let placed = c.in_ok-put.ensures.next in omega arith;
    }
