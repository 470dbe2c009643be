-- Inner: no contract of a top call is made of this file.
use Rattle.std.specs.Prelude.{List}
use Rattle.zk_base.specs.declared.ids.Entry.{Entry}
use Rattle.zk_model_work.specs.declared.ops.WorkOp.{WorkOp}
use Rattle.zk_model_work.specs.declared.ops.WorkReply.{WorkReply}
use Rattle.zk_model_work.specs.State.{State}
use Rattle.zk_work.specs.declared.work.Work.{Work}

-- the state that the service began in
abbrev pub work_start : Work → State
work_start w = w.inner.value.start

-- all that was done at it, oldest first
abbrev pub work_history : Work → List (Entry WorkOp WorkReply)
work_history w = w.inner.value.history
