use Rattle.std.proofs.Common.{length, ap, arith}
use Rattle.zk_failures.proofs.PlayableTraces.{length-single}
use Rattle.zk_failures.proofs.history.single_count.Goals as goal

pub returns : goal.returns
returns c =
    let whole = length-single c.args.trace.now in
    let work = ap (λ l. length l) c.items.ensures in
    let looks = ap (λ l. length l) c.items-2.ensures in
    let clock = ap (λ l. length l) c.items-3.ensures in
    let table = ap (λ l. length l) c.items-4.ensures in
    omega arith
