use Rattle.std.proofs.Common.{◌≡◌, ℕ, ◌+◌, length, arith, subst}
use Rattle.zk_trace.specs.declared.format.Formats.TheVariants.{First}
use Rattle.zk_trace.specs.Feeds.{lines_in}
use Rattle.zk_trace.specs.TraceRead.{IsRefusedAt}
use Rattle.zk_forms.proofs.CheckAnswers.{lines-few, old-trace, trace-refused}
use Rattle.zk_forms.proofs.migrate.migrated.Goals as goal

pub overflow_cast-first_line : goal.overflow_cast-first_line
overflow_cast-first_line c =
    let few = lines-few c.args.front.now c.args.trace.now c.requires.short in
    omega (arith, few, c.line_count.ensures)

pub overflow_add-first_line : goal.overflow_add-first_line
overflow_add-first_line c =
    let few = lines-few c.args.front.now c.args.trace.now c.requires.short in
    omega (arith, few, c.line_count.ensures)

pub returns-in_ok-print_trace-in-Ok : goal.returns-in_ok-print_trace-in-Ok
returns-in_ok-print_trace-in-Ok c =
    let s = c.args.scenario.now in
    let t = c.in-Ok.trace in
    record {
      s = s;
      t = t;
      given = old-trace s t c.args.front.now c.args.trace.now c.requires.read c.requires.spelled c.in-Ok.ensures.found c.requires.short;
      printed = c.in_ok-print_trace-in-Ok.ensures;
    }

pub returns-in_ok-trace_refusal-in-Err-At : goal.returns-in_ok-trace_refusal-in-Err-At
returns-in_ok-trace_refusal-in-Err-At c =
    let s = c.args.scenario.now in
    let front = c.args.front.now in
    let trace = c.args.trace.now in
    let line = c.in-Err-At.line in
    let none = rw c.in-Err-At.field-0-is at c.in-Err-At.ensures.only in
    let first : c.line_count.result + 1 ≡ 1 + length (lines_in front) = omega (arith, c.line_count.ensures) in
    let at : IsRefusedAt First s trace (c.line_count.result + 1) line = rw c.in-Err-At.field-0-is at c.in-Err-At.ensures.at in
    trace-refused First front trace c.in_ok-trace_refusal-in-Err-At.field-0.items s line c.requires.read c.requires.parts c.requires.short none
    (subst (λ (n : ℕ). IsRefusedAt First s trace n line) first at) c.in_ok-trace_refusal-in-Err-At.ensures
