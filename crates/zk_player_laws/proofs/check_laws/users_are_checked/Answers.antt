use Rattle.zk_player_laws.proofs.UsersChecked.{each_user_is_checked}
use Rattle.zk_player_laws.proofs.check_laws.users_are_checked.Goals as goal

pub returns : goal.returns
returns c = record { followed = each_user_is_checked }
