use Rattle.zk_msgsub.proofs.Rosters.{counts}
use Rattle.zk_msgsub.proofs.fan_state.FanStateEngine.counts_entries.Goals as goal

pub returns : goal.returns
returns c = counts
