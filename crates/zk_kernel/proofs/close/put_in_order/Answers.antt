use Rattle.std.proofs.Common.{rules, ◌≡◌, length, arith}
use Rattle.std.proofs.lemmas.List.Sorted.{IsNonDecreasingBy-from_sort_by_key}
use Rattle.zk_kernel.specs.Callers.{number_of}
use Rattle.zk_kernel.proofs.Ordered.{in-order}
use Rattle.zk_kernel.proofs.close.put_in_order.Goals as goal

pub returns : goal.returns
returns c =
    let given = c.args.callers.now in
    let sorted = c.sort_unstable_by_key.new.self in
    let is = c.sort_unstable_by_key.ensures in
    let long : length sorted.items ≡ length given.items = omega (arith, is.len, sorted.ok.0, given.ok.0) in
    let up = IsNonDecreasingBy-from_sort_by_key number_of sorted.items is.sorted (λ a r q k. search rules) in
    record {
      order = in-order c.args.kernel.now given.items sorted.items c.requires.all is.permutation long up;
      same = is.permutation;
      count = long;
    }
