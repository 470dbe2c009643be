use Rattle.std.proofs.Common.{refl, arith}
use Rattle.zk_work.specs.Engine.{left_waits}
use Rattle.zk_work.proofs.Flushing.{flushing-closed, flushing-as}
use Rattle.zk_work.proofs.Kept.{kept-closed, kept-as}
use Rattle.zk_work.proofs.engine.WorkEngine.close.Goals as goal

pub invariant_of-self : goal.invariant_of-self
invariant_of-self c =
    let i = c.self.inside in
    let o = i.active.admissions in
    let fl = i.active.flushing in
    let queues = c.deref.result.now in
    record {
      runs = c.self.invariant.runs;
      items = c.self.invariant.items;
      touched = c.self.invariant.touched;
      flushing = flushing-as i.made o o fl fl (left_waits o queues i.waits.waits c.args.closing c.args.who c.args.place)
          c.close.new.waits.waits refl refl c.close.ensures.waits
          (flushing-closed i.made o fl queues i.waits.waits c.args.closing c.args.who c.args.place c.self.invariant.flushing);
      kept = kept-as o o i.flushed.items i.flushed.items
          (left_waits o queues i.waits.waits c.args.closing c.args.who c.args.place) c.close.new.waits.waits refl refl
          c.close.ensures.waits
          (kept-closed o i.flushed.items i.waits.waits c.self.invariant.kept queues c.args.closing c.args.who c.args.place);
      old = c.self.invariant.old;
      placed = let same = c.close.ensures.next in let placed = c.self.invariant.placed in omega arith;
    }
