use Rattle.std.specs.Prelude.{◌≡◌, ℕ, ◌≤◌, false, Some, length, slice_get, option_and_then, All}
use Rattle.zk_base.specs.History.{Rises}
use Rattle.zk_scenario.specs.Content.{Content}
use Rattle.zk_scenario.specs.Steps.{steps_of}
use Rattle.zk_worker.specs.declared.steps.Spot.{Spot}
use Rattle.zk_worker.specs.declared.log.Log.{Log}
use Rattle.zk_worker.specs.Shown.{shown_at, is_look}
use Rattle.zk_trace.specs.declared.trace.Trace.{Trace}
use Rattle.zk_trace.specs.Looked.{item_looks_of, signal_looks_of}
use Rattle.zk_trace.specs.Shown.{trace_shown}

-- in each history each player's entries rise in step
pub record EachRises (t : Trace) : Type 0 where
  pub work : Rises t.work
  pub clock : Rises t.clock
  pub table : Rises t.table
  pub sems : All Rises t.sems
  pub msgqs : All Rises t.msgqs
  pub signals : All Rises t.signals
  pub chans : All Rises t.chans
  pub observers : All Rises t.observers

-- each step of each player stands in exactly one entry or look, and in each history they rise
pub record IsPlaced (s : Content) (t : Trace) : Type 0 where
  -- no player makes more steps than it may
  pub short : (number : ℕ) (log : Log) → slice_get t.logs number ≡ Some log →
      length log.steps ≤ steps_of s
  -- the entry that a log names for a step is of that player and that step
  pub stands : (number step : ℕ) (spot : Spot) (log : Log) → slice_get t.logs number ≡ Some log →
      slice_get log.steps step ≡ Some spot → is_look spot ≡ false →
      shown_at (trace_shown t) spot ≡ Some (number, step)
  -- each entry is named so by the log of its player
  pub each : (spot : Spot) (number step : ℕ) → shown_at (trace_shown t) spot ≡ Some (number, step) →
      option_and_then (λ log. slice_get log.steps step) (slice_get t.logs number) ≡ Some spot
  -- the looks are those of the logs
  pub item_looks : t.looks.items ≡ item_looks_of t.logs
  pub signal_looks : t.looks.signals ≡ signal_looks_of (length t.signals) t.logs
  -- and in each history each player's entries rise in step
  pub rises : EachRises t
