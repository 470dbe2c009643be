use Rattle.std.specs.Prelude.{◌≡◌, ℕ, Some, length, slice_get}
use Rattle.zk_scenario.specs.Content.{Content}
use Rattle.zk_scenario.specs.Players.{players}
use Rattle.zk_worker.specs.declared.log.Log.{Log}
use Rattle.zk_worker.specs.Follows.{Follows}
use Rattle.zk_trace.specs.declared.trace.Trace.{Trace}
use Rattle.zk_trace.specs.Shown.{trace_shown}

-- the logs are those of the scenario's players
pub record AreLogged (s : Content) (t : Trace) : Type 0 where
  -- there is a log for each player
  pub logged : length t.logs ≡ length (players s.decls)
  -- and each log follows the scenario
  pub follow : (number : ℕ) (log : Log) → slice_get t.logs number ≡ Some log →
      Follows s number (trace_shown t) log
