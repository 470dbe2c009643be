use Rattle.std.proofs.Common.{rules}
use Rattle.std.proofs.lemmas.List.Sorted.{IsNonDecreasingBy-from_sort_by_key}
use Rattle.zk_signal.proofs.Ordering.{sorted-counts}
use Rattle.zk_signal.proofs.order.in_stamp_order.Goals as goal

pub returns-clause-order : goal.returns-clause-order
returns-clause-order g c =
    let stamp = g.W.HasStamp.stamp_of in
    let sorted = c.sort_unstable_by_key.ensures in
    sorted-counts stamp c.args.writes.now c.sort_unstable_by_key.new.self c.requires.stamps sorted.permutation sorted.len
    (IsNonDecreasingBy-from_sort_by_key stamp c.sort_unstable_by_key.new.self sorted.sorted (λ a r q k. search rules))
