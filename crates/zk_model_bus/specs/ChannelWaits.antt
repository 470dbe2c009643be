use Rattle.std.specs.Prelude.{ℕ, Option, Some, None}
use Rattle.zk_base.specs.WaitLaws.{Decides, nobody, first, WaitKind}
use Rattle.zk_model_bus.specs.declared.channel.Manner.{Manner}
use Rattle.zk_model_bus.specs.declared.channel.Manner.TheVariants as manners
use Rattle.zk_model_bus.specs.declared.channel.ChanOp.{ChanOp}
use Rattle.zk_model_bus.specs.declared.channel.ChanOp.TheVariants as ops
use Rattle.zk_model_bus.specs.declared.channel.ChanReply.{ChanReply}
use Rattle.zk_model_bus.specs.declared.channel.ChanReply.TheVariants.{Got, Wait, Again, Done}
use Rattle.zk_model_bus.specs.Channel.{Channel}

-- a call for the channel that is told to wait opens a wait, to hold it in the manner of the call
abbrev pub call_opens : ChanOp → ChanReply → Option Manner
call_opens (ops.Offer message waits) Wait = Some manners.Offer
call_opens (ops.Enter waits) Wait = Some manners.Enter
call_opens (ops.Claim waits) Wait = Some manners.Claim
call_opens op reply = None

-- the place of the wait that is ended
abbrev pub call_ends : ChanOp → Option ℕ
call_ends (ops.ClaimEnd place) = Some place
call_ends op = None

-- and of the one that is given up
abbrev pub call_quits : ChanOp → Option ℕ
call_quits (ops.ClaimQuit place) = Some place
call_quits op = None

-- a free, or a finish that is done, decides the first who waits: it holds the channel
abbrev pub call_decides : Channel → ChanOp → ChanReply → Decides ChanReply Manner
call_decides c ops.Free Done = first Got
call_decides c ops.Finish Done = first Got
call_decides c op reply = nobody

-- who waits to hold a channel
abbrev pub callers : WaitKind Channel ChanOp ChanReply Manner
callers = record {
  waits = λ c. c.waits;
  entries = λ c. c.entries;
  opens = call_opens;
  ends = call_ends;
  quits = call_quits;
  gives_up = Again;
  decides = call_decides;
}
