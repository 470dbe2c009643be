use Rattle.std.proofs.Common.{◌≡◌, take}
use Rattle.zk_model_work.specs.Questions.{due}
use Rattle.zk_model_work.proofs.questions.due.Given as goal

abbrev pub invariant-loop-index : goal.invariant-loop-index
invariant-loop-index l = l.found.items ≡ due l.time (take l.index l.arms)
