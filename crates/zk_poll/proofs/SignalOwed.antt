-- The laws of the engine, over all states and operations.
use Rattle.std.proofs.Common.{◌≡◌, ◌+◌, ◌≤◌, true, false, is_some, [], ◌∷◌, length, refl, arith}
use Rattle.std.proofs.lemmas.List.{length-append}
use Rattle.zk_base.specs.declared.ids.Who.{Who}
use Rattle.zk_model_wait.specs.declared.signal.SignalOp.{SignalOp}
use Rattle.zk_model_wait.specs.Signal.{Signal, signal_reply, signal_next, signal_in_range}

-- each entry is counted
pub counts : (s : Signal) (who : Who) (op : SignalOp) → length (signal_next s who op).writes ≡ length s.writes + 1
counts s who op = length-append s.writes (op ∷ [])

-- what is in range stays so
pub ranges : (s : Signal) (who : Who) (op : SignalOp) → signal_in_range (signal_next s who op) ≡ signal_in_range s
ranges s who op = refl

-- nothing is ever owed
pub adds : (s : Signal) (who : Who) (op : SignalOp) → 0 ≤ 0 + 2
adds s who op = omega arith

pub gives : (s : Signal) (who : Who) (op : SignalOp) → false ≡ true → is_some (signal_reply s who op) ≡ true → 1 + 0 ≤ 0
gives s who op closes some = absurd (cc)
