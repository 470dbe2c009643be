use Rattle.std.proofs.Common.{sym, ◌∙◌, arith}
use Rattle.zk_trace.specs.Sized.{IsSizedAnswer}
use Rattle.zk_trace.proofs.ByPlaces.{All-next}
use Rattle.zk_trace.proofs.sizes.AnswersSizes.sizes.Goals as goal

pub loop-place-preserved : goal.loop-place-preserved
loop-place-preserved c =
    All-next c.args.self.now c.loop-place.place c.in-Some.answered (let test = c.loop-place-test.true in let long = c.len-place-end.ensures in omega arith) (sym c.get.ensures ∙ c.in-Some.is)
    IsSizedAnswer c.loop-place.invariant c.sizes.ensures
