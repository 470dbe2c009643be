use Rattle.std.proofs.Common.{◌≡◌, ℕ, ◌<◌, Some}
use Rattle.std.specs.List.{slice_get}
use Rattle.zk_worker.specs.declared.steps.Step.{Step}
use Rattle.zk_worker.specs.Protocol.{attempts}
use Rattle.zk_failures.specs.Found.{IsFor}
use Rattle.zk_failures.proofs.log.attempt_for.Given as goal

abbrev pub invariant-loop-index : goal.invariant-loop-index
invariant-loop-index l =
    (k : ℕ) (attempt : Step) → k < l.index → slice_get (attempts l.scenario l.player) k ≡ Some attempt → IsFor attempt l.step → ⊥
