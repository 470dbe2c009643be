use Rattle.zk_failures.proofs.FoundSteps.{for-other, no-look}
use Rattle.zk_failures.proofs.log.is_for.Goals.{in_default-via-in-LookSignal+in_default, in_default-via-in_default}
use Rattle.zk_failures.proofs.log.is_for.Goals as goal

pub returns-in_default : goal.returns-in_default
returns-in_default c =
    for-other c.args.attempt.now c.args.step.now c.is_same_step.result c.is_same_step.ensures
    (elim c.in_default.branch [
      | in_default-via-in-LookSignal+in_default w ↦ λ object must is. no-look c.args.step.now w.in_default.not-LookSignal-1
      | in_default-via-in_default w ↦ λ object must is. absurd (w.in_default.not-LookSignal-0 object must is)
    ])
