use Rattle.zk_scenario.proofs.ReadIsValid.{one_scenario}
use Rattle.zk_scenario.proofs.laws.tells_them_apart.Goals as goal

pub returns : goal.returns
returns c = one_scenario c.args.first.now c.args.second.now c.decls.ensures.readable c.decls-2.ensures.readable
