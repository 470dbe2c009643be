-- Inner: no contract of a top call is made of this file.
use Rattle.std.specs.Prelude.{◌≡◌, true, List, ◌∷◌}
use Rattle.zk_base.specs.Messages.{is_message}
use Rattle.zk_line.specs.declared.types.Decl.{Decl}
use Rattle.zk_line.specs.Objects.{is_at, is_chan, is_observer}
use Rattle.zk_model_bus.specs.declared.channel.ChanOp.TheVariants as chan_ops
use Rattle.zk_model_bus.specs.declared.observer.ObsOp.TheVariants as obs_ops
use Rattle.zk_trace.specs.declared.parts.Part.{Part}
use Rattle.zk_trace.specs.declared.parts.Part.TheVariants.{Bytes}
use Rattle.zk_trace.specs.Chan as chan
use Rattle.zk_trace.specs.Msgq as msgq
use Rattle.zk_worker.specs.declared.steps.Step.{Step}
use Rattle.zk_worker.specs.declared.steps.Step.TheVariants as steps

-- a message that an operation says, which it says first, has a size that one may have
abbrev pub MessageFits : List Part → Type 0
MessageFits (Bytes message ∷ parts) = is_message message ≡ true
MessageFits parts = Unit {0}

-- what a step says beside the object that it is made at: a message has a size that one may have, an observer that is masked
-- and the channel of a visit are declared
abbrev pub SaysFit : List Decl → Step → Type 0
SaysFit decls (steps.Msgq object op) = MessageFits (msgq.said_of op).1
SaysFit decls (steps.Chan object (chan_ops.Mask observer on)) = is_at is_observer decls observer ≡ true
SaysFit decls (steps.Chan object op) = MessageFits (chan.said_of op).1
SaysFit decls (steps.Obs object (obs_ops.Visit channel)) = is_at is_chan decls channel ≡ true
SaysFit decls step = Unit {0}
