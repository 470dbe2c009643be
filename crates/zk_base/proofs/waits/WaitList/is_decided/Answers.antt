use Rattle.std.proofs.Common.{sym, ap, ◌∙◌}
use Rattle.std.specs.Option.{is_some}
use Rattle.zk_base.specs.Waits.{decision_of}
use Rattle.zk_base.specs.Slots.{answer_for}
use Rattle.zk_base.proofs.SlotWaits.{decision-at, decision-nowhere}
use Rattle.zk_base.proofs.SlotsFound.{seen, found-at, nowhere-at, decided-nowhere}
use Rattle.zk_base.proofs.waits.WaitList.is_decided.Goals as goal

pub returns-then-not-holds : goal.returns-then-not-holds
returns-then-not-holds g c =
    ap is_some (sym (decided-nowhere c.self.inside.told c.args.player c.args.place c.self.inside.slots.items
    c.self.invariant.within
    (c.holds.ensures c.if-not-holds.true)) ∙ ap (λ ws. decision_of ws c.args.player c.args.place) (seen c.self.view_is))

pub returns-in-Some : goal.returns-in-Some
returns-in-Some g c =
    let ss = c.self.inside.slots.items in
    let s = c.index.result.now in
    let found = found-at c.deref.ensures.value c.self.invariant.kept.rises c.in-Some.index s c.in-Some.ensures.within
    (c.in-Some.ensures.found s) in
    c.is_some.ensures ∙ ap is_some (c.answer_for.ensures ∙ ap (answer_for c.args.player) c.index.ensures
    ∙ sym (decision-at c.args.player c.args.place ss _ found.alone found.at)
    ∙ ap (λ ws. decision_of ws c.args.player c.args.place) (seen c.self.view_is))

pub returns-in-None : goal.returns-in-None
returns-in-None g c =
    ap is_some (sym (decision-nowhere c.args.player c.args.place c.self.inside.slots.items
    (nowhere-at c.deref.ensures.value c.args.place c.in-None.ensures.none))
    ∙ ap (λ ws. decision_of ws c.args.player c.args.place) (seen c.self.view_is))
