use Rattle.std.proofs.Common.{rules}
use Rattle.zk_line.proofs.SaidWords.{events_next, events_last}
use Rattle.zk_line.proofs.right.say_events.Goals as goal

pub loop-word-preserved : goal.loop-word-preserved
loop-word-preserved c =
    events_next _ _ _ _ _ _ _ _ _ _ _ c.loop-word.invariant c.in-Some.ensures (c.in_ok-say_event.ensures (search rules)) c.asks_then-asks.ensures

pub returns : goal.returns
returns c = λ asked. events_last _ _ _ _ _ _ _ c.loop-word.invariant c.in_default.ensures.0 asked
