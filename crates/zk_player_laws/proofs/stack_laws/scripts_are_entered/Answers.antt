use Rattle.zk_player_laws.proofs.LogsPlayed.{each_log_enters_its_scripts}
use Rattle.zk_player_laws.proofs.ScriptsEntered.{each_script_is_entered}
use Rattle.zk_player_laws.proofs.stack_laws.scripts_are_entered.Goals as goal

pub returns : goal.returns
returns c = record { playing = each_script_is_entered; logged = each_log_enters_its_scripts }
