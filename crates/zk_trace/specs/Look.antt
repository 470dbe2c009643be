use Rattle.std.specs.Prelude.{◌≡◌, ℕ, Some, slice_get}
use Rattle.zk_scenario.specs.Content.{Content}
use Rattle.zk_worker.specs.declared.log.Log.{Log}
use Rattle.zk_worker.specs.Machines.{machines_of}
use Rattle.zk_worker.specs.Right.{LooksRight}
use Rattle.zk_trace.specs.declared.trace.Trace.{Trace}
use Rattle.zk_trace.specs.Shown.{trace_shown}

-- the looks of each player are right, and none goes back behind what the player had seen
abbrev pub AreRight : Content → Trace → Type 0
AreRight s t = (number : ℕ) (log : Log) → slice_get t.logs number ≡ Some log →
    LooksRight (machines_of s) (trace_shown t) log.steps
