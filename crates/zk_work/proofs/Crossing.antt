-- The work service goes to other threads, by itself and as a part of something else. In parts, since one search for all of it breaks off.
use denote.Param.Send.{IsSend, sendable}
use Rattle.std.proofs.Crossing.{crosses}
use Rattle.zk_model_work.specs.contracts.ops.WorkReply as reply
use Rattle.zk_work.specs.contracts.engine.WorkEngine as engine
use Rattle.zk_work.specs.contracts.work.Work as work

reply_send : IsSend reply.the_row
reply_send = search (sendable, crosses) depth 60 fits 20000

engine_send : IsSend engine.the_row
engine_send = search (sendable, crosses) depth 40 fits 20000

pub work_send : IsSend work.the_row
work_send = search (reply_send, engine_send, sendable, crosses) depth 40 fits 20000

pub work_part : IsSend (work.the_field).row
work_part = search (reply_send, engine_send, sendable, crosses) depth 40 fits 20000
