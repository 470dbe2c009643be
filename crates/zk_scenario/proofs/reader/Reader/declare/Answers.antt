use Rattle.std.proofs.Common.{arith}
use Rattle.zk_scenario.proofs.Valid.{length-decls}
use Rattle.zk_scenario.proofs.reader.Reader.declare.Goals as goal

pub push-requires-clause-few : goal.push-requires-clause-few
push-requires-clause-few c = omega (arith, length-decls _ c.self.invariant.valid)
