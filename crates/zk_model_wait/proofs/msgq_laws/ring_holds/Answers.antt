use Rattle.zk_model_wait.proofs.MsgqOrder.{ring_within_max, none_waits_to_get, none_waits_to_put}
use Rattle.zk_model_wait.proofs.msgq_laws.ring_holds.Goals as goal

pub returns : goal.returns
returns c = record { within = ring_within_max; gets = none_waits_to_get; puts = none_waits_to_put }
