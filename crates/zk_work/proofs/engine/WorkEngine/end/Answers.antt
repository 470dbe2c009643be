use Rattle.std.proofs.Common.{◌≡◌, ◌<◌, refl, sym, ap, subst, ◌∙◌, arith}
use Rattle.zk_queue.specs.declared.ticket.Ticket.{Ticket}
use Rattle.zk_queue.specs.Open.{Open, run}
use Rattle.zk_work.specs.Active.{run_over}
use Rattle.zk_work.specs.EngineState.{EngineState, EngineView, AreNumbered}
use Rattle.zk_work.proofs.Flushing.{items-over, flushing-end, flushing-marked}
use Rattle.zk_work.proofs.Kept.{kept-end, kept-as}
use Rattle.zk_work.proofs.Marked.{run-found}
use Rattle.zk_work.proofs.engine.WorkEngine.end.Goals as goal

pub mark_flushing-requires-clause-kept : goal.mark_flushing-requires-clause-kept
mark_flushing-requires-clause-kept c =
    let i = c.self.inside in
    let o = i.active.admissions in
    let numbered = subst (λ (k : EngineState). AreNumbered k.made k.active) (sym (ap (λ (h : EngineView). h.state) c.self.view_is))
    c.requires.whole.numbered in
    kept-as (run_over o c.args.queue) c.end.new.self.admissions i.flushed.items c.deref-2.result.now i.waits.waits i.waits.waits
    c.end.ensures.admissions c.deref-2.ensures.value refl
    (kept-end i.made o numbered i.flushed.items i.waits.waits c.self.invariant.kept c.args.queue)

pub invariant_of-self-2 : goal.invariant_of-self-2
invariant_of-self-2 c =
    let i = c.self.inside in
    let o = i.active.admissions in
    let ended = c.end.new.self in
    let new = c.mark_flushing.new.active in
    let t : Ticket = record { item = c.in_ok-item.item; number = c.in_ok-item.field-0-1 } in
    let found = run-found (run o c.args.queue) (c.in_ok-item.item, c.in_ok-item.field-0-1)
    (sym c.end.ensures.reply ∙ c.in_ok-item.was) in
    let in_state = c.requires.whole.known c.args.queue t
    (sym (ap (λ (h : EngineView). run h.state.active c.args.queue) c.self.view_is) ∙ found) in
    let known = ap (λ (h : EngineView). h.state.active.items) c.self.view_is in
    let item_in : t.item < o.items = omega arith in
    let items : new.admissions.items ≡ o.items =
    ap (λ (o : Open). o.items) (c.mark_flushing.ensures.admissions ∙ c.end.ensures.admissions) ∙ items-over o c.args.queue in
    let long = c.self.invariant.items in
    let room = c.self.invariant.touched in
    let runs = c.self.invariant.runs in
    let numbered = subst (λ (k : EngineState). AreNumbered k.made k.active) (sym (ap (λ (h : EngineView). h.state) c.self.view_is))
    c.requires.whole.numbered in
    let placed = c.self.invariant.placed in
    record {
      runs = omega arith;
      items = omega arith;
      touched = omega arith;
      flushing = flushing-marked i.made (run_over o c.args.queue) ended.admissions new.admissions i.active.flushing ended.flushing
          new.flushing i.waits.waits i.waits.waits c.in_ok-item.item c.end.ensures.admissions c.end.ensures.flushing
          refl c.mark_flushing.ensures.admissions c.mark_flushing.ensures.flushing
          (flushing-end i.made o i.active.flushing i.waits.waits c.args.queue t c.self.invariant.flushing found item_in);
      kept = kept-as (run_over o c.args.queue) new.admissions i.flushed.items i.flushed.items i.waits.waits i.waits.waits
          (c.mark_flushing.ensures.admissions ∙ c.end.ensures.admissions) refl refl
          (kept-end i.made o numbered i.flushed.items i.waits.waits c.self.invariant.kept c.args.queue);
      old = c.self.invariant.old;
      placed = omega arith;
    }
