use Rattle.std.proofs.Common.{◌≡◌, ◌<◌, refl, sym, ap, subst, ◌∙◌, arith}
use Rattle.zk_model_work.specs.Lists.{first}
use Rattle.zk_queue.specs.declared.ticket.Ticket.{Ticket}
use Rattle.zk_queue.specs.Open.{Open, line, next, begin}
use Rattle.zk_queue.proofs.Numbers.{items-begin}
use Rattle.zk_work.specs.EngineState.{EngineState, EngineView, AreNumbered}
use Rattle.zk_work.proofs.Flushing.{next-parts, flushing-begin, flushing-marked}
use Rattle.zk_work.proofs.Kept.{kept-begin, kept-as}
use Rattle.zk_work.proofs.Marked.{run-found}
use Rattle.zk_work.proofs.engine.WorkEngine.begin.Goals as goal

pub mark_flushing-requires-clause-kept : goal.mark_flushing-requires-clause-kept
mark_flushing-requires-clause-kept c =
    let i = c.self.inside in
    let o = i.active.admissions in
    let t : Ticket = record { item = c.in_ok-item.item; number = c.in_ok-item.number } in
    let found = run-found (next o c.args.queue) (c.in_ok-item.item, c.in_ok-item.number)
    (sym c.begin.ensures.reply ∙ c.in_ok-item.was) in
    let numbered = subst (λ (k : EngineState). AreNumbered k.made k.active) (sym (ap (λ (h : EngineView). h.state) c.self.view_is))
    c.requires.whole.numbered in
    kept-as (begin o c.args.queue) c.begin.new.self.admissions i.flushed.items c.deref-2.result.now i.waits.waits i.waits.waits
    c.begin.ensures.admissions c.deref-2.ensures.value refl
    (kept-begin i.made o numbered i.flushed.items i.waits.waits c.self.invariant.kept c.args.queue t found)

pub invariant_of-self-2 : goal.invariant_of-self-2
invariant_of-self-2 c =
    let i = c.self.inside in
    let o = i.active.admissions in
    let began = c.begin.new.self in
    let new = c.mark_flushing.new.active in
    let t : Ticket = record { item = c.in_ok-item.item; number = c.in_ok-item.number } in
    let found = run-found (next o c.args.queue) (c.in_ok-item.item, c.in_ok-item.number)
    (sym c.begin.ensures.reply ∙ c.in_ok-item.was) in
    let in_state = c.requires.whole.numbered.within c.args.queue t
    (sym (ap (λ (h : EngineView). first (line h.state.active c.args.queue)) c.self.view_is) ∙ (next-parts o c.args.queue t found).1) in
    let known = ap (λ (h : EngineView). h.state.active.items) c.self.view_is in
    let item_in : t.item < o.items = omega arith in
    let items : new.admissions.items ≡ o.items =
    ap (λ (o : Open). o.items) (c.mark_flushing.ensures.admissions ∙ c.begin.ensures.admissions) ∙ items-begin c.args.queue o in
    let long = c.self.invariant.items in
    let room = c.self.invariant.touched in
    let running = ap (λ (h : EngineView). h.state.running) c.self.view_is in
    let numbered = subst (λ (k : EngineState). AreNumbered k.made k.active) (sym (ap (λ (h : EngineView). h.state) c.self.view_is))
    c.requires.whole.numbered in
    let placed = c.self.invariant.placed in
    let fewest = c.requires.whole.fewest in
    let fewer = c.requires.whole.fewer in
    let fit = c.requires.whole.counted.entries_fit in
    record {
      runs = omega arith;
      items = omega arith;
      touched = omega arith;
      flushing = flushing-marked i.made (begin o c.args.queue) began.admissions new.admissions i.active.flushing began.flushing
          new.flushing i.waits.waits i.waits.waits c.in_ok-item.item c.begin.ensures.admissions c.begin.ensures.flushing
          refl c.mark_flushing.ensures.admissions c.mark_flushing.ensures.flushing
          (flushing-begin i.made o i.active.flushing i.waits.waits c.args.queue t c.self.invariant.flushing found item_in);
      kept = kept-as (begin o c.args.queue) new.admissions i.flushed.items i.flushed.items i.waits.waits i.waits.waits
          (c.mark_flushing.ensures.admissions ∙ c.begin.ensures.admissions) refl refl
          (kept-begin i.made o numbered i.flushed.items i.waits.waits c.self.invariant.kept c.args.queue t found);
      old = c.self.invariant.old;
      placed = omega arith;
    }
