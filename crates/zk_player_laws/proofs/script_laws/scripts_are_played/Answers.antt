use Rattle.zk_player_laws.proofs.ScriptsPlayed.{each_script_is_played}
use Rattle.zk_player_laws.proofs.script_laws.scripts_are_played.Goals as goal

pub returns : goal.returns
returns c = record { played = each_script_is_played }
