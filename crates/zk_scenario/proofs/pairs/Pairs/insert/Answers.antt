use Rattle.std.proofs.Common.{◌+◌, ◌*◌, ◌^◌, true, cond, eqb, ap, ◌∙◌}
use Rattle.zk_scenario.specs.Written.{has_pair}
use Rattle.zk_scenario.proofs.PairKeys.{eqb-keys}
use Rattle.zk_scenario.proofs.pairs.Pairs.insert.Goals as goal

pub returns-clause-ok : goal.returns-clause-ok
returns-clause-ok c = λ one other small.
    let first = c.args.first in
    let second = c.args.second in
    let before = has_pair c.args.self.now one other in
    c.in_ok-insert.ensures.updates.0 (one * 2 ^ 32 + other)
    ∙ ap (λ k. cond (eqb k (one * 2 ^ 32 + other)) true before) c.key_of.ensures
    ∙ ap (λ b. cond b true before) (eqb-keys first second one other c.ranges.second.fits small)
