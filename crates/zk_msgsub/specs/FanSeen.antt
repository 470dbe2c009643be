-- Inner: no contract of a top call is made of this file.
-- What a contract sees of a fan.
use Rattle.std.specs.Prelude.{List}
use Rattle.zk_base.specs.declared.ids.Entry.{Entry}
use Rattle.zk_msgsub.specs.declared.fan.Fan.{Fan}
use Rattle.zk_msgsub.specs.declared.fan_state.FanOp.{FanOp}
use Rattle.zk_msgsub.specs.declared.fan_state.FanReply.{FanReply}
use Rattle.zk_msgsub.specs.Fan.{Roster}

-- the state that the service began in
abbrev pub fan_start : Fan → Roster
fan_start f = f.inner.start

-- all that was done at it, oldest first
abbrev pub fan_history : Fan → List (Entry FanOp FanReply)
fan_history f = f.inner.history
