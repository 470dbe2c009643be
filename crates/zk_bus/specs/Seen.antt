-- Inner: no contract of a top call is made of this file.
use Rattle.std.specs.Prelude.{List}
use Rattle.zk_base.specs.declared.ids.Entry.{Entry}
use Rattle.zk_model_bus.specs.declared.channel.ChanOp.{ChanOp}
use Rattle.zk_model_bus.specs.declared.channel.ChanReply.{ChanReply}
use Rattle.zk_model_bus.specs.Channel as model
use Rattle.zk_bus.specs.declared.channel.Channel.{Channel}

-- the state that the service began in
abbrev pub chan_start : Channel → model.Channel
chan_start s = s.inner.start

-- all that was done at it, oldest first
abbrev pub chan_history : Channel → List (Entry ChanOp ChanReply)
chan_history s = s.inner.history
