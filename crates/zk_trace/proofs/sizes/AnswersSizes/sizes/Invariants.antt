use Rattle.std.proofs.Common.{take, All}
use Rattle.zk_trace.specs.Sized.{IsSizedAnswer}
use Rattle.zk_trace.proofs.sizes.AnswersSizes.sizes.Given as goal

abbrev pub invariant-loop-place : goal.invariant-loop-place
invariant-loop-place l = All IsSizedAnswer (take l.place l.self)
