use Rattle.std.specs.Prelude.{ℕ, Option, Some, None}
use Rattle.zk_base.specs.WaitLaws.{Decides, nobody, first, WaitKind}
use Rattle.zk_model_bus.specs.declared.observer.ObsOp.{ObsOp}
use Rattle.zk_model_bus.specs.declared.observer.ObsOp.TheVariants as ops
use Rattle.zk_model_bus.specs.declared.observer.ObsReply.{ObsReply}
use Rattle.zk_model_bus.specs.declared.observer.ObsReply.TheVariants.{Pushed, Channel, Wait, Again}
use Rattle.zk_model_bus.specs.Observer.{Observer}

-- a take that is told to wait opens a wait
abbrev pub take_opens : ObsOp → ObsReply → Option Unit
take_opens (ops.Take waits) Wait = Some tt
take_opens op reply = None

-- the place of the wait that is ended
abbrev pub take_ends : ObsOp → Option ℕ
take_ends (ops.TakeEnd place) = Some place
take_ends op = None

-- and of the one that is given up
abbrev pub take_quits : ObsOp → Option ℕ
take_quits (ops.TakeQuit place) = Some place
take_quits op = None

-- a visit that is pushed decides the first who waits: it takes the channel
abbrev pub take_decides : Observer → ObsOp → ObsReply → Decides ObsReply Unit
take_decides o (ops.Visit channel) Pushed = first (Channel channel)
take_decides o op reply = nobody

-- who waits to take a channel of a subscriber
abbrev pub takers : WaitKind Observer ObsOp ObsReply Unit
takers = record {
  waits = λ o. o.takers;
  entries = λ o. o.entries;
  opens = take_opens;
  ends = take_ends;
  quits = take_quits;
  gives_up = Again;
  decides = take_decides;
}
