use Rattle.zk_model_trigger.proofs.Told.{replies_are_told, each_is_told}
use Rattle.zk_model_trigger.proofs.laws.replies_are_told.Goals as goal

pub returns : goal.returns
returns c = record { possible = replies_are_told; told = each_is_told }
