-- Inner: no contract of a top call is made of this file.
use Rattle.std.specs.Prelude.{List}
use Rattle.zk_base.specs.declared.ids.Entry.{Entry}
use Rattle.zk_model_wait.specs.declared.clock.ClockOp.{ClockOp}
use Rattle.zk_model_wait.specs.declared.clock.ClockReply.{ClockReply}
use Rattle.zk_model_wait.specs.Clock as model
use Rattle.zk_time.specs.declared.clock.Clock.{Clock}

-- the state that the service began in
abbrev pub clock_start : Clock → model.Clock
clock_start c = c.inner.start

-- all that was done at it, oldest first
abbrev pub clock_history : Clock → List (Entry ClockOp ClockReply)
clock_history c = c.inner.history
