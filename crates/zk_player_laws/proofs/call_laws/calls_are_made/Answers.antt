use Rattle.zk_player_laws.proofs.CallLogs.{each_call_is_made}
use Rattle.zk_player_laws.proofs.call_laws.calls_are_made.Goals as goal

pub returns : goal.returns
returns c = record { timed = each_call_is_made }
