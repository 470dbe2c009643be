-- A call that makes one step is answered by the reply to that.
use Rattle.std.proofs.Common.{◌≡◌, true, refl}
use Rattle.zk_words.specs.declared.word.Word.{Word}
use Rattle.zk_worker.specs.declared.frames.Plan.{Plan}
use Rattle.zk_worker.specs.declared.frames.Plan.TheVariants.{One, Pair, Twice, Wait, Poll, Channel}
use Rattle.zk_worker.specs.declared.frames.Progress.TheVariants.{Answers}
use Rattle.zk_worker.specs.declared.frames.Stage.{Stage}
use Rattle.zk_worker.specs.declared.steps.Step.{Step}
use Rattle.zk_worker.specs.declared.steps.StepReply.{StepReply}
use Rattle.zk_worker.specs.Calls.{plan_progress}
use Rattle.zk_worker.specs.OneStep.{is_one}
use Rattle.zk_worker.specs.Replies.{answer_of}

pub one-answers : (word : Word) (plan : Plan) (stage : Stage) (made : Step) (reply : StepReply) → is_one plan ≡ true →
    plan_progress word plan stage made reply ≡ Answers word (answer_of reply)
one-answers word (One step) stage made reply one = refl
one-answers word (Pair opening closing) stage made reply one = absurd (cc)
one-answers word (Twice first second) stage made reply one = absurd (cc)
one-answers word (Wait waiting timeout) stage made reply one = absurd (cc)
one-answers word (Poll timeout events) stage made reply one = absurd (cc)
one-answers word (Channel chan using timeout) stage made reply one = absurd (cc)
