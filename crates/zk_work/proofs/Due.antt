-- The items that are due.
use Rattle.std.proofs.Common.{ℕ, ◌≤◌, Bool, true, false, cond, List, [], ◌∷◌, length, arith}
use Rattle.zk_time.specs.declared.timeout.Timeout.{Timeout}
use Rattle.zk_time.specs.Timeouts.{is_due, count_due, due_rest, drop_due}
use Rattle.zk_time.proofs.Orders.{IsOrdered-due}
use Rattle.zk_time.proofs.Room.{length_fits}
use Rattle.zk_work.specs.EngineState.{EngineState, IsWhole}
use Rattle.zk_work.proofs.Beside.{whole-beside}
use Rattle.zk_work.proofs.Delaying.{fewer-filter}

-- no more are due than there are items
pub due-fits : (k : EngineState) (time : ℕ) → IsWhole k → count_due k.timeouts time ≤ k.active.items
due-fits k time w =
    let armed = w.armed in
    omega (
      arith,
      fewer-filter (is_due time) k.timeouts.live,
      length_fits k.timeouts.items k.timeouts.live w.ordered.differ w.ordered.within,
    )

fewer-rest : (time : ℕ) (ts : List Timeout) → length (due_rest time ts) ≤ length ts
fewer-rest time [] = omega arith
fewer-rest time (t ∷ ts) = by (is_due time t) where
  by : (b : Bool) → length (cond b ts (t ∷ ts)) ≤ length (t ∷ ts)
  by true = omega arith
  by false = omega arith

-- what is due first is taken out
pub due-whole : (k : EngineState) (time : ℕ) → IsWhole k → IsWhole (record k { timeouts = drop_due k.timeouts time })
due-whole k time w =
    let fewer = w.fewer in
    let less = fewer-rest time k.timeouts.live in
    whole-beside k k.time k.entries (drop_due k.timeouts time) k.waits k.queues w w.counted w.timed
    (omega arith) w.armed (IsOrdered-due k.timeouts time w.ordered) w.queues
