use Rattle.zk_player_laws.proofs.CallsAttempted.{each_call_goes_on}
use Rattle.zk_player_laws.proofs.attempt_laws.calls_go_on.Goals as goal

pub returns : goal.returns
returns c = record { attempts = each_call_goes_on }
