use Rattle.std.proofs.Common.{◌≡◌, ◌<◌, refl, sym, ap, subst, ◌∙◌, arith}
use Rattle.zk_model_work.specs.Answers.{cancel_wait}
use Rattle.zk_model_work.specs.Machine.{awaiting}
use Rattle.zk_queue.specs.Open.{Open}
use Rattle.zk_work.specs.EngineState.{EngineState, EngineView, AreNumbered}
use Rattle.zk_work.specs.Engine.{cancelled}
use Rattle.zk_work.specs.OpenWaits.{IsNewAt}
use Rattle.zk_work.proofs.Flushing.{items-cancelled, flushing-cancelled, flushing-cancel_wait, flushing-as, flushing-marked}
use Rattle.zk_work.proofs.Kept.{kept-cancelled, kept-cancel_wait, kept-as, new-cancel_wait}
use Rattle.zk_work.proofs.engine.WorkEngine.cancel_start.Goals as goal

pub put-requires-clause-new : goal.put-requires-clause-new
put-requires-clause-new c =
    subst (IsNewAt c.self.inside.entries) (sym c.cancel_wait-wait.ensures)
    (new-cancel_wait c.self.inside.entries c.args.who c.running-run.result)

pub mark_flushing-requires-clause-kept : goal.mark_flushing-requires-clause-kept
mark_flushing-requires-clause-kept c =
    let i = c.self.inside in
    let o = i.active.admissions in
    let fl = i.flushed.items in
    let ws = c.put.new.self.waits in
    let numbered = subst (λ (k : EngineState). AreNumbered k.made k.active) (sym (ap (λ (h : EngineView). h.state) c.self.view_is))
    c.requires.whole.numbered in
    let waits = kept-as o o fl fl (awaiting i.waits.waits (cancel_wait i.entries c.args.who c.running-run.result)) ws
    refl refl (c.in_ok-put.ensures.ok ∙ ap (awaiting i.waits.waits) c.cancel_wait-wait.ensures)
    (kept-cancel_wait o fl i.waits.waits c.self.invariant.kept i.entries c.args.who c.running-run.result) in
    kept-as (cancelled o c.args.item) c.cancel.new.self.admissions fl c.deref.result.now ws ws
    c.cancel.ensures.admissions c.deref.ensures.value refl (kept-cancelled i.made o numbered fl ws waits c.args.item)

pub invariant_of-self-2 : goal.invariant_of-self-2
invariant_of-self-2 c =
    let i = c.self.inside in
    let o = i.active.admissions in
    let fl = i.active.flushing in
    let ws = c.put.new.self.waits in
    let dropped = c.cancel.new.self in
    let new = c.mark_flushing.new.active in
    let known = ap (λ (h : EngineView). h.state.active.items) c.self.view_is in
    let item_in : c.args.item < o.items = omega arith in
    let items : new.admissions.items ≡ o.items =
    ap (λ (o : Open). o.items) (c.mark_flushing.ensures.admissions ∙ c.cancel.ensures.admissions) ∙ items-cancelled o c.args.item in
    let long = c.self.invariant.items in
    let room = c.self.invariant.touched in
    let numbered = subst (λ (k : EngineState). AreNumbered k.made k.active) (sym (ap (λ (h : EngineView). h.state) c.self.view_is))
    c.requires.whole.numbered in
    let flushed = i.flushed.items in
    let kept = kept-as o o flushed flushed (awaiting i.waits.waits (cancel_wait i.entries c.args.who c.running-run.result)) ws
    refl refl (c.in_ok-put.ensures.ok ∙ ap (awaiting i.waits.waits) c.cancel_wait-wait.ensures)
    (kept-cancel_wait o flushed i.waits.waits c.self.invariant.kept i.entries c.args.who c.running-run.result) in
    let placed = c.in_ok-put.ensures.next in
    let waits = flushing-as i.made o o fl fl (awaiting i.waits.waits (cancel_wait i.entries c.args.who c.running-run.result)) ws
    refl refl (c.in_ok-put.ensures.ok ∙ ap (awaiting i.waits.waits) c.cancel_wait-wait.ensures)
    (flushing-cancel_wait i.made o fl i.waits.waits c.self.invariant.flushing i.entries c.args.who c.running-run.result) in
    record {
      runs = c.self.invariant.runs;
      items = omega arith;
      touched = omega arith;
      flushing = flushing-marked i.made (cancelled o c.args.item) dropped.admissions new.admissions fl dropped.flushing
          new.flushing ws ws c.args.item c.cancel.ensures.admissions c.cancel.ensures.flushing
          refl c.mark_flushing.ensures.admissions c.mark_flushing.ensures.flushing
          (flushing-cancelled i.made o fl ws c.args.item waits item_in);
      kept = kept-as (cancelled o c.args.item) new.admissions flushed flushed ws ws
          (c.mark_flushing.ensures.admissions ∙ c.cancel.ensures.admissions) refl refl
          (kept-cancelled i.made o numbered flushed ws kept c.args.item);
      old = c.self.invariant.old;
      placed = omega arith;
    }
