use Rattle.zk_pool.proofs.Filling.{begins}
use Rattle.zk_pool.proofs.pool.Pool.new.Goals as goal

pub ruled-requires-clause-rule : goal.ruled-requires-clause-rule
ruled-requires-clause-rule g c = begins g.T.Numbered.number g.T.Numbered.home g.T.Numbered.kept
