use Rattle.zk_replay.proofs.OneRun.{none_goes_on}
use Rattle.zk_replay.proofs.laws.none_goes_on.Goals as goal

pub returns : goal.returns
returns c = none_goes_on
