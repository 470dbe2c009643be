use Rattle.zk_model_trigger.proofs.Once.{fires_once}
use Rattle.zk_model_trigger.proofs.laws.fires_once.Goals as goal

pub returns : goal.returns
returns c = fires_once
