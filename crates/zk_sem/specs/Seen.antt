-- Inner: no contract of a top call is made of this file.
use Rattle.std.specs.Prelude.{List}
use Rattle.zk_base.specs.declared.ids.Entry.{Entry}
use Rattle.zk_model_wait.specs.declared.sem.SemOp.{SemOp}
use Rattle.zk_model_wait.specs.declared.sem.SemReply.{SemReply}
use Rattle.zk_model_wait.specs.Sem as model
use Rattle.zk_sem.specs.declared.sem.Sem.{Sem}

-- the state that the service began in
abbrev pub sem_start : Sem → model.Sem
sem_start s = s.inner.start

-- all that was done at it, oldest first
abbrev pub sem_history : Sem → List (Entry SemOp SemReply)
sem_history s = s.inner.history
