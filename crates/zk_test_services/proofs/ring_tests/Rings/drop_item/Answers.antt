use Rattle.std.proofs.Common.{sym, ap, subst, ◌∙◌}
use Rattle.zk_queue.specs.Open.{Open, IsAbove}
use Rattle.zk_queue.proofs.Numbers.{IsAbove-drop}
use Rattle.zk_test_services.proofs.ring_tests.Rings.drop_item.Goals as goal

pub invariant_of-self : goal.invariant_of-self
invariant_of-self g c =
    let o = c.args.self.now.queues in
    let next = c.drop_item.ensures.next in
    record {
      all_items = ap (λ (o : Open). o.items) next ∙ c.args.self.now.all_items;
      all_queues = ap (λ (o : Open). o.queues) next ∙ c.args.self.now.all_queues;
      rising = subst (IsAbove _) (sym next) (IsAbove-drop _ c.args.item o c.args.self.now.rising);
    }
