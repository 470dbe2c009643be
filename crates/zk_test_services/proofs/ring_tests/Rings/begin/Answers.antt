use Rattle.std.proofs.Common.{sym, ap, subst, ◌∙◌}
use Rattle.zk_queue.specs.Open.{Open, IsAbove}
use Rattle.zk_queue.proofs.Numbers.{items-begin, queues-begin, IsAbove-begin}
use Rattle.zk_test_services.proofs.ring_tests.Rings.begin.Goals as goal

pub invariant_of-self : goal.invariant_of-self
invariant_of-self g c =
    let o = c.args.self.now.queues in
    let next = c.begin.ensures.next in
    record {
      all_items = ap (λ (o : Open). o.items) next ∙ items-begin c.args.queue o ∙ c.args.self.now.all_items;
      all_queues = ap (λ (o : Open). o.queues) next ∙ queues-begin c.args.queue o ∙ c.args.self.now.all_queues;
      rising = subst (IsAbove _) (sym next) (IsAbove-begin _ c.args.queue o c.args.self.now.rising);
    }
