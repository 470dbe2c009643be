use Rattle.std.proofs.Common.{◌≡◌, ℕ, Some}
use Rattle.std.specs.List.{slice_get}
use Rattle.zk_worker.specs.Protocol.{start_at}
use Rattle.zk_worker.specs.Ranges.{HasRoomIn}
use Rattle.zk_failures.specs.LogFailure.{IsLed}
use Rattle.zk_failures.proofs.log.astray.Given as goal

-- the player has room for its steps, and the steps so far lead it here
abbrev pub invariant-loop-step : goal.invariant-loop-step
invariant-loop-step l = record {
  room : HasRoomIn l.scenario l.player;
  led : (number : ℕ) → slice_get l.trace.logs number ≡ Some l.log → start_at l.scenario number ≡ Some l.fn.player →
      IsLed l.scenario l.trace number l.log l.step l.player;
}
