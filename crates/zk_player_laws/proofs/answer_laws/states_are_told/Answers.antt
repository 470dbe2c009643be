use Rattle.zk_player_laws.proofs.StatesTold.{each_state_tells, each_log_is_whole}
use Rattle.zk_player_laws.proofs.answer_laws.states_are_told.Goals as goal

pub returns : goal.returns
returns c = record { followed = each_state_tells; whole = each_log_is_whole }
