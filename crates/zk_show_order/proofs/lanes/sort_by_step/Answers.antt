use Rattle.std.proofs.Common.{rules}
use Rattle.std.proofs.lemmas.List.Sorted.{IsNonDecreasingBy-from_sort, answers_always}
use Rattle.zk_show_order.specs.declared.lanes.Queued.{Queued}
use Rattle.zk_show_order.proofs.lanes.sort_by_step.Goals as goal

pub returns-clause-sorted : goal.returns-clause-sorted
returns-clause-sorted c =
    IsNonDecreasingBy-from_sort (λ (q : Queued). q.step) c.sort_unstable_by_key.new.self.items
    (c.sort_unstable_by_key.ensures.sorted (λ (q : Queued). q.step) (answers_always _ _ _ (λ f a r g h. search rules)))
