-- Inner: no contract of a top call is made of this file.
use Rattle.std.specs.Prelude.{List}
use Rattle.zk_base.specs.declared.ids.Entry.{Entry}
use Rattle.zk_model_wait.specs.declared.msgq.MsgqOp.{MsgqOp}
use Rattle.zk_model_wait.specs.declared.msgq.MsgqReply.{MsgqReply}
use Rattle.zk_model_wait.specs.Msgq as model
use Rattle.zk_msgq.specs.declared.msgq.Msgq.{Msgq}

-- the state that the service began in
abbrev pub msgq_start : Msgq → model.Msgq
msgq_start s = s.inner.start

-- all that was done at it, oldest first
abbrev pub msgq_history : Msgq → List (Entry MsgqOp MsgqReply)
msgq_history s = s.inner.history
