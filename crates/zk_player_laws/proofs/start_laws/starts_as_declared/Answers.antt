use Rattle.zk_player_laws.proofs.StartsDeclared.{each_starts_as_declared}
use Rattle.zk_player_laws.proofs.start_laws.starts_as_declared.Goals as goal

pub returns : goal.returns
returns c = record { starts = each_starts_as_declared }
