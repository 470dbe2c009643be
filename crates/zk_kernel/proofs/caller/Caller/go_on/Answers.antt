use Rattle.std.proofs.Common.{false, Option, sym, subst, ◌∙◌}
use Rattle.zk_worker.specs.declared.answers.Answer.{Answer}
use Rattle.zk_worker.specs.declared.playing.Stepped.{Stepped}
use Rattle.zk_worker.specs.Machines.{machines_of}
use Rattle.zk_worker.specs.Playing.{StepOutcome}
use Rattle.zk_kernel.specs.Calling.{moment_of}
use Rattle.zk_kernel.specs.Within.{GoesOrGives}
use Rattle.zk_kernel.proofs.UnderWay.{GoesOrAnswers, answers-or-not, waited, spent}
use Rattle.zk_kernel.proofs.caller.Caller.go_on.Goals as goal

pub returns-in_err-answer-in-Ok-Did-clause-goes : goal.returns-in_err-answer-in-Ok-Did-clause-goes
returns-in_err-answer-in-Ok-Did-clause-goes g c = λ began deep way.
    let k = c.args.kernel.now in
    let now = moment_of c.args.self.now in
    let next = moment_of c.step.new.self in
    let did = subst (λ (stepped : Stepped). StepOutcome false (machines_of k.scenario) k.scenario now.place next.place now.shown next.shown now.counts next.counts stepped)
    c.in-Ok-Did.field-0-is c.in-Ok-Did.ensures.does in
    let goes = answers-or-not k c.args.call.now began now next c.args.depth c.answers-before.result c.has_at_most-is_own.result way did deep c.answers-before.ensures c.has_at_most-is_own.ensures in
    subst (GoesOrGives k c.args.call.now began next) (sym c.from_residual.ensures)
    (subst (λ (o : Option Answer). GoesOrAnswers k c.args.call.now began next o) (sym c.answer_since.ensures ∙ c.in_err-answer-in-Ok-Did.was) goes)

pub returns-in_ok-answer-in-Ok-Did-clause-goes : goal.returns-in_ok-answer-in-Ok-Did-clause-goes
returns-in_ok-answer-in-Ok-Did-clause-goes g c = λ began deep way.
    let k = c.args.kernel.now in
    let now = moment_of c.args.self.now in
    let next = moment_of c.step.new.self in
    let did = subst (λ (stepped : Stepped). StepOutcome false (machines_of k.scenario) k.scenario now.place next.place now.shown next.shown now.counts next.counts stepped)
    c.in-Ok-Did.field-0-is c.in-Ok-Did.ensures.does in
    let goes = answers-or-not k c.args.call.now began now next c.args.depth c.answers-before.result c.has_at_most-is_own.result way did deep c.answers-before.ensures c.has_at_most-is_own.ensures in
    subst (λ (o : Option Answer). GoesOrAnswers k c.args.call.now began next o) (sym c.answer_since.ensures ∙ c.in_ok-answer-in-Ok-Did.was) goes

pub returns-in-Ok-NotYet-clause-goes : goal.returns-in-Ok-NotYet-clause-goes
returns-in-Ok-NotYet-clause-goes g c = λ began deep way.
    let k = c.args.kernel.now in
    let now = moment_of c.args.self.now in
    let next = moment_of c.step.new.self in
    waited k c.args.call.now began now next way
    (subst (λ (stepped : Stepped). StepOutcome false (machines_of k.scenario) k.scenario now.place next.place now.shown next.shown now.counts next.counts stepped)
    c.in-Ok-NotYet.field-0-is c.in-Ok-NotYet.ensures.does)

pub returns-in-Ok-Spent-clause-goes : goal.returns-in-Ok-Spent-clause-goes
returns-in-Ok-Spent-clause-goes g c = λ began deep way.
    let k = c.args.kernel.now in
    let now = moment_of c.args.self.now in
    let next = moment_of c.step.new.self in
    spent k c.args.call.now began now next way
    (subst (λ (stepped : Stepped). StepOutcome false (machines_of k.scenario) k.scenario now.place next.place now.shown next.shown now.counts next.counts stepped)
    c.in-Ok-Spent.field-0-is c.in-Ok-Spent.ensures.does)
