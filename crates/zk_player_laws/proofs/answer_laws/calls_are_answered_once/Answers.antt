use Rattle.zk_player_laws.proofs.AnsweredOnce.{each_is_answered_once}
use Rattle.zk_player_laws.proofs.answer_laws.calls_are_answered_once.Goals as goal

pub returns : goal.returns
returns c = record { followed = each_is_answered_once }
