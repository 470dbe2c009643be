use Rattle.zk_model_wait.proofs.MsgqWaits.{puts_hold, gets_hold}
use Rattle.zk_model_wait.proofs.msgq_laws.queue_waits_end.Goals as goal

pub returns : goal.returns
returns c = record { put_waits = puts_hold; get_waits = gets_hold }
