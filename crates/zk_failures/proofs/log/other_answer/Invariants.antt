use Rattle.std.proofs.Common.{ℕ, ◌<◌}
use Rattle.zk_worker.specs.declared.answers.Answered.{Answered}
use Rattle.zk_failures.specs.OtherAnswers.{HasAt}
use Rattle.zk_failures.proofs.log.other_answer.Given as goal

abbrev pub invariant-loop-place : goal.invariant-loop-place
invariant-loop-place l = (k : ℕ) (answer : Answered) → k < l.place → HasAt l.logged k answer → HasAt l.player.answers k answer
