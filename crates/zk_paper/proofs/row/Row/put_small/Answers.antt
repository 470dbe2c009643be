use Rattle.std.proofs.Common.{arith}
use Rattle.zk_paper.proofs.Figures.{two_figures, four_figures, pair_after, pairs_after}
use Rattle.zk_paper.proofs.row.Row.put_small.Goals as goal

pub returns-then-number-lt10000 : goal.returns-then-number-lt10000
returns-then-number-lt10000 c =
    let n = c.args.number in
    let many = c.if-number-lt100.false in
    let few = c.requires.small in
    pair_after _ _ _ _ _ _ _ c.put_two-then-number-lt10000.ensures.text c.put_pair.ensures.text
    (two_figures n (omega arith) (omega arith))

pub returns : goal.returns
returns c =
    let n = c.args.number in
    let many = c.if-number-lt10000.false in
    let few = c.requires.small in
    pairs_after _ _ _ _ _ _ _ _ _ _ c.put_two-2.ensures.text c.put_pair-2.ensures.text c.put_pair-3.ensures.text
    (four_figures n (omega arith) (omega arith))
