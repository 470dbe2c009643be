use Rattle.zk_scenario.proofs.AlwaysSays.{after-some}
use Rattle.zk_scenario.proofs.laws.always_says.Goals as goal

pub returns : goal.returns
returns c = after-some
