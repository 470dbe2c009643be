use Rattle.zk_replay.proofs.Unserved.{none_is_served}
use Rattle.zk_replay.proofs.laws.none_is_served.Goals as goal

pub returns : goal.returns
returns c = none_is_served
