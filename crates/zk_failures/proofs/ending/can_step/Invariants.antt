use Rattle.std.proofs.Common.{◌≡◌, ℕ, ◌<◌, Some, None}
use Rattle.std.specs.List.{slice_get}
use Rattle.zk_worker.specs.declared.steps.Step.{Step}
use Rattle.zk_worker.specs.Attempt.{reply_in}
use Rattle.zk_worker.specs.Protocol.{attempts}
use Rattle.zk_services.specs.Alone.{plain_machines, plain_shown}
use Rattle.zk_failures.proofs.ending.can_step.Given as goal

-- none of the attempts so far was possible, and nothing came
abbrev pub invariant-loop-index : goal.invariant-loop-index
invariant-loop-index l = record {
  shown : plain_shown l.services ≡ plain_shown l.initial.services;
  machines : plain_machines l.services ≡ plain_machines l.initial.services;
  tried : (k : ℕ) (step : Step) → k < l.index → slice_get (attempts l.scenario l.player) k ≡ Some step →
      reply_in (plain_machines l.initial.services) (plain_shown l.initial.services) l.player.who step ≡ None;
}
