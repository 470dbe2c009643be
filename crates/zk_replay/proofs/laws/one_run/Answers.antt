use Rattle.zk_replay.proofs.OneRun.{has_one_run}
use Rattle.zk_replay.proofs.laws.one_run.Goals as goal

pub returns : goal.returns
returns c = has_one_run
