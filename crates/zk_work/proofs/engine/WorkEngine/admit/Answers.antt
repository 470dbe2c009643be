use Rattle.std.proofs.Common.{◌+◌, Some, refl, ap, ◌∙◌, arith}
use Rattle.std.proofs.lemmas.List.{length-set}
use Rattle.zk_queue.specs.Open.{Open, is_queued, admit}
use Rattle.zk_work.specs.EngineState.{EngineView}
use Rattle.zk_work.proofs.Numbered.{not-queued}
use Rattle.zk_work.proofs.Flushing.{flushing-admit, flushing-as}
use Rattle.zk_work.proofs.Kept.{kept-admit, kept-as, old-later}
use Rattle.zk_work.proofs.engine.WorkEngine.admit.Goals as goal

pub invariant_of-self : goal.invariant_of-self
invariant_of-self c =
    let i = c.self.inside in
    let o = i.active.admissions in
    let new = c.admit.new.self in
    let items = ap (λ (o : Open). o.items) c.admit.ensures.admissions in
    let last = length-set i.last.items c.args.item (Some c.args.queue) in
    let long = c.self.invariant.items in
    let room = c.self.invariant.touched in
    let free = not-queued o c.args.item
    (ap (λ (h : EngineView). is_queued h.state.active c.args.item) c.self.view_is ∙ c.requires.may.free) in
    record {
      runs = c.self.invariant.runs;
      items = omega arith;
      touched = omega arith;
      flushing = flushing-as (i.made + 1) (admit o c.args.item c.args.queue i.made) new.admissions i.active.flushing new.flushing
          i.waits.waits i.waits.waits c.admit.ensures.admissions c.admit.ensures.flushing refl
          (flushing-admit i.made o i.active.flushing i.waits.waits c.args.item c.args.queue c.self.invariant.flushing free);
      kept = kept-as (admit o c.args.item c.args.queue i.made) new.admissions i.flushed.items i.flushed.items
          i.waits.waits i.waits.waits c.admit.ensures.admissions refl refl
          (kept-admit i.made o i.flushed.items i.waits.waits c.args.item c.args.queue c.self.invariant.kept
          c.self.invariant.flushing.made c.self.invariant.old free);
      old = old-later i.made i.flushed.items c.self.invariant.old;
      placed = c.self.invariant.placed;
    }
