-- Inner: no contract of a top call is made of this file.
use Rattle.std.specs.Prelude.{List}
use Rattle.zk_base.specs.declared.ids.Entry.{Entry}
use Rattle.zk_model_bus.specs.declared.observer.ObsOp.{ObsOp}
use Rattle.zk_model_bus.specs.declared.observer.ObsReply.{ObsReply}
use Rattle.zk_model_bus.specs.Observer as model
use Rattle.zk_subq.specs.declared.observer.Observer.{Observer}

-- the state that the service began in
abbrev pub obs_start : Observer → model.Observer
obs_start s = s.inner.start

-- all that was done at it, oldest first
abbrev pub obs_history : Observer → List (Entry ObsOp ObsReply)
obs_history s = s.inner.history
