use Rattle.std.proofs.Common.{◌<◌, List, length, refl, sym, subst}
use Rattle.std.specs.List.{AllAdjacentBelow}
use Rattle.std.specs.List.Sorted.{IsPermutation, IsNonDecreasingBy}
use Rattle.zk_show_order.specs.declared.lanes.Queued.{Queued}
use Rattle.zk_show_order.proofs.Sorting.{twice-sorted}
use Rattle.zk_show_order.proofs.lanes.Lane.of.Goals as goal

pub returns-then-not-rises : goal.returns-then-not-rises
returns-then-not-rises c =
    let value = sym c.deref.ensures.value in
    let down = c.if-not-rises.ensures in
    twice-sorted c.args.queued.items c.deref.result.now down.0
    (subst (λ (l : List Queued). IsPermutation c.args.queued.items l) value c.sort_by_step.ensures.same)
    (subst (λ (l : List Queued). IsNonDecreasingBy (λ (q : Queued). q.step) l) value c.sort_by_step.ensures.sorted)
    down.1 down.2 down.3

pub returns : goal.returns
returns c = record {
  sorted = c.sort_by_step.new.queued.items;
  same = c.sort_by_step.ensures.same;
  rise =
      subst (λ (l : List Queued). AllAdjacentBelow (λ (a b : Queued). a.step < b.step) l (length l)) c.deref.ensures.value
      c.if-not-rises.ensures;
  places = refl;
}
