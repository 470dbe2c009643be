use Rattle.std.proofs.Common.{◌≡◌, ℕ, ◌<◌, Some}
use Rattle.std.specs.List.{slice_get}
use Rattle.zk_worker.specs.Places.{PlayerPlace}
use Rattle.zk_services.specs.Alone.{plain_machines, plain_shown}
use Rattle.zk_failures.specs.CanStep.{IsHalted}
use Rattle.zk_failures.proofs.ending.none_steps.Given as goal

-- each player so far halts, and nothing came
abbrev pub invariant-loop-player : goal.invariant-loop-player
invariant-loop-player l = record {
  shown : plain_shown l.services ≡ plain_shown l.initial.services;
  machines : plain_machines l.services ≡ plain_machines l.initial.services;
  halted : (number : ℕ) (at : PlayerPlace) → number < l.player-index → slice_get l.players number ≡ Some at →
      IsHalted (plain_machines l.initial.services) l.scenario (plain_shown l.initial.services) at;
}
