use Rattle.zk_model_trigger.proofs.Ends.{ends_once}
use Rattle.zk_model_trigger.proofs.laws.ends_once.Goals as goal

pub returns : goal.returns
returns c = ends_once
