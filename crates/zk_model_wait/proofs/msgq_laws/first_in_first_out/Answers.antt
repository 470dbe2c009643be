use Rattle.zk_model_wait.proofs.MsgqOrder.{first_in_first_out, put_front_goes_first, nothing_is_lost}
use Rattle.zk_model_wait.proofs.msgq_laws.first_in_first_out.Goals as goal

pub returns : goal.returns
returns c = record { in_order = first_in_first_out; in_front = put_front_goes_first; lost = nothing_is_lost }
