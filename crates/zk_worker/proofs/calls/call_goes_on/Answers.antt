use Rattle.std.proofs.Common.{sym, ap, subst, ◌∙◌}
use Rattle.zk_model_wait.specs.declared.clock.ClockOp.TheVariants as clock_ops
use Rattle.zk_model_work.specs.declared.ops.WorkOp.TheVariants as ops
use Rattle.zk_worker.specs.declared.frames.Closing.TheVariants as closings
use Rattle.zk_words.specs.declared.word.Word.{Word}
use Rattle.zk_line.specs.Calls.{word_of}
use Rattle.zk_worker.specs.declared.frames.Progress.{Progress}
use Rattle.zk_worker.specs.declared.frames.Progress.TheVariants.{Answers}
use Rattle.zk_worker.specs.declared.steps.Step.TheVariants as steps
use Rattle.zk_worker.specs.Calls.{plan_of}
use Rattle.zk_worker.specs.Moves.{IsDone}
use Rattle.zk_worker.specs.Refs.{ref_number}
use Rattle.zk_worker.specs.Replies.{answer_of}
use Rattle.zk_worker.proofs.OneStep.{one-answers}
use Rattle.zk_worker.proofs.calls.call_goes_on.Goals as goal

pub returns-in-CancelSync-clause-done : goal.returns-in-CancelSync-clause-done
returns-in-CancelSync-clause-done c = λ decls.
    rw c.in-CancelSync.is (c.pair_goes_on.ensures.done (steps.Work (ops.CancelStart (ref_number decls c.in-CancelSync.field-0))) c.args.made.now closings.Cancel)

pub returns-in-Flush-clause-done : goal.returns-in-Flush-clause-done
returns-in-Flush-clause-done c = λ decls.
    rw c.in-Flush.is (c.pair_goes_on-in-Flush.ensures.done (steps.Work (ops.FlushStart (ref_number decls c.in-Flush.field-0))) c.args.made.now closings.Flush)

pub returns-in-Drain-clause-done : goal.returns-in-Drain-clause-done
returns-in-Drain-clause-done c = λ decls.
    rw c.in-Drain.is (c.pair_goes_on-in-Drain.ensures.done (steps.Work (ops.DrainStart (ref_number decls c.in-Drain.field-0) c.in-Drain.field-1)) c.args.made.now closings.Drain)

pub returns-in-Tick-clause-done : goal.returns-in-Tick-clause-done
returns-in-Tick-clause-done c = λ decls.
    rw c.in-Tick.is (c.tick_goes_on.ensures.done (steps.Work (ops.Announce c.in-Tick.field-0)) (steps.Clock (clock_ops.Announce c.in-Tick.field-0)) c.args.made.now)

pub returns-in_default-clause-done : goal.returns-in_default-clause-done
returns-in_default-clause-done c = λ decls.
    let call = c.args.call.now in
    let word = word_of call in
    let reply = c.args.reply.now in
    let one = one-answers word (plan_of decls call) c.args.stage.now c.args.made.now reply (c.only_word.ensures.one decls) in
    let same = ap (λ (w : Word). Answers w (answer_of reply)) c.only_word.ensures.word in
    subst (λ (p : Progress). IsDone c.args.step p c.answer_by.result c.answer_by.new.stage c.args.answers.now.items
    c.answer_by.new.answers.items)
    (same ∙ sym one) c.answer_by.ensures.done
