use Rattle.std.proofs.Common.{◌≡◌, ◌<◌, refl, sym, ap, subst, ◌∙◌, arith}
use Rattle.zk_queue.specs.Open.{Open}
use Rattle.zk_work.specs.EngineState.{EngineState, EngineView, AreNumbered}
use Rattle.zk_work.specs.Engine.{cancelled}
use Rattle.zk_work.proofs.Flushing.{items-cancelled, flushing-cancelled, flushing-marked}
use Rattle.zk_work.proofs.Kept.{kept-cancelled, kept-as}
use Rattle.zk_work.proofs.engine.WorkEngine.cancel.Goals as goal

pub mark_flushing-requires-clause-kept : goal.mark_flushing-requires-clause-kept
mark_flushing-requires-clause-kept c =
    let i = c.self.inside in
    let o = i.active.admissions in
    let numbered = subst (λ (k : EngineState). AreNumbered k.made k.active) (sym (ap (λ (h : EngineView). h.state) c.self.view_is))
    c.requires.whole.numbered in
    kept-as (cancelled o c.args.item) c.cancel.new.self.admissions i.flushed.items c.deref.result.now i.waits.waits i.waits.waits
    c.cancel.ensures.admissions c.deref.ensures.value refl
    (kept-cancelled i.made o numbered i.flushed.items i.waits.waits c.self.invariant.kept c.args.item)

pub invariant_of-self : goal.invariant_of-self
invariant_of-self c =
    let i = c.self.inside in
    let o = i.active.admissions in
    let dropped = c.cancel.new.self in
    let new = c.mark_flushing.new.active in
    let known = ap (λ (h : EngineView). h.state.active.items) c.self.view_is in
    let item_in : c.args.item < o.items = omega arith in
    let items : new.admissions.items ≡ o.items =
    ap (λ (o : Open). o.items) (c.mark_flushing.ensures.admissions ∙ c.cancel.ensures.admissions) ∙ items-cancelled o c.args.item in
    let long = c.self.invariant.items in
    let room = c.self.invariant.touched in
    let numbered = subst (λ (k : EngineState). AreNumbered k.made k.active) (sym (ap (λ (h : EngineView). h.state) c.self.view_is))
    c.requires.whole.numbered in
    let placed = c.self.invariant.placed in
    record {
      runs = c.self.invariant.runs;
      items = omega arith;
      touched = omega arith;
      flushing = flushing-marked i.made (cancelled o c.args.item) dropped.admissions new.admissions i.active.flushing
          dropped.flushing new.flushing i.waits.waits i.waits.waits c.args.item c.cancel.ensures.admissions
          c.cancel.ensures.flushing refl c.mark_flushing.ensures.admissions c.mark_flushing.ensures.flushing
          (flushing-cancelled i.made o i.active.flushing i.waits.waits c.args.item c.self.invariant.flushing item_in);
      kept = kept-as (cancelled o c.args.item) new.admissions i.flushed.items i.flushed.items i.waits.waits i.waits.waits
          (c.mark_flushing.ensures.admissions ∙ c.cancel.ensures.admissions) refl refl
          (kept-cancelled i.made o numbered i.flushed.items i.waits.waits c.self.invariant.kept c.args.item);
      old = c.self.invariant.old;
      placed = omega arith;
    }
