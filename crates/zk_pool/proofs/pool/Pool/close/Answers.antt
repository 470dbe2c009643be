use Rattle.std.proofs.Common.{◌∙◌, ap}
use Rattle.zk_pool.specs.Counts.{tally}
use Rattle.zk_pool.proofs.pool.Pool.close.Goals as goal

pub returns-clause-once : goal.returns-clause-once
returns-clause-once g c n = c.drain.ensures.once n ∙ ap (tally n) c.gather-pass.ensures.stands.numbers
