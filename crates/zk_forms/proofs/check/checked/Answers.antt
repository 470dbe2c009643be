use Rattle.std.proofs.Common.{◌≡◌, ℕ, ◌+◌, ◌++◌, length, arith, subst}
use Rattle.std.proofs.lemmas.Result.{IfOk-weaker}
use Rattle.zk_trace.specs.declared.format.Formats.TheVariants.{Both}
use Rattle.zk_trace.specs.Feeds.{lines_in}
use Rattle.zk_trace.specs.TraceRead.{IsRefusedAt}
use Rattle.zk_forms.specs.CheckAnswer.{IsCheckOutput, Says}
use Rattle.zk_forms.proofs.CheckAnswers.{lines-few, trace-of, said-output, trace-refused}
use Rattle.zk_forms.proofs.check.checked.Goals as goal

pub overflow_cast-first_line : goal.overflow_cast-first_line
overflow_cast-first_line c =
    let few = lines-few c.args.front.now c.args.trace.now c.requires.short in
    omega (arith, few, c.line_count.ensures)

pub overflow_add-first_line : goal.overflow_add-first_line
overflow_add-first_line c =
    let few = lines-few c.args.front.now c.args.trace.now c.requires.short in
    omega (arith, few, c.line_count.ensures)

pub returns-in_ok-check-in-Ok : goal.returns-in_ok-check-in-Ok
returns-in_ok-check-in-Ok c =
    let s = c.args.scenario.now in
    let t = c.in-Ok.trace in
    let front = c.args.front.now in
    let trace = c.args.trace.now in
    let checked = c.in_ok-check-in-Ok.field-0 in
    let found = c.in-Ok.ensures.found in
    let given = trace-of Both found.0 s t front trace c.requires.read c.requires.spelled found.1 found.2 c.requires.short in
    IfOk-weaker c.said.result (λ made. Says checked made.1 made.0.items) (λ made. IsCheckOutput made.1 (front ++ trace) made.0.items)
    (λ made says. said-output (front ++ trace) found.0 s t given checked c.in_ok-check-in-Ok.ensures.lawful c.in_ok-check-in-Ok.ensures.named made.1 made.0.items says)
    c.said.ensures

pub returns-in_ok-trace_refusal-in-Err-At : goal.returns-in_ok-trace_refusal-in-Err-At
returns-in_ok-trace_refusal-in-Err-At c =
    let s = c.args.scenario.now in
    let front = c.args.front.now in
    let trace = c.args.trace.now in
    let line = c.in-Err-At.line in
    let none = rw c.in-Err-At.field-0-is at c.in-Err-At.ensures.only in
    let first : c.line_count.result + 1 ≡ 1 + length (lines_in front) = omega (arith, c.line_count.ensures) in
    let at : IsRefusedAt Both s trace (c.line_count.result + 1) line = rw c.in-Err-At.field-0-is at c.in-Err-At.ensures.at in
    trace-refused Both front trace c.in_ok-trace_refusal-in-Err-At.field-0.items s line c.requires.read c.requires.parts c.requires.short none
    (subst (λ (n : ℕ). IsRefusedAt Both s trace n line) first at) c.in_ok-trace_refusal-in-Err-At.ensures
