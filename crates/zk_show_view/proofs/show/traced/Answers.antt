use Rattle.std.proofs.Common.{◌≡◌, ℕ, ◌+◌, ◌++◌, length, arith, subst}
use Rattle.zk_trace.specs.declared.format.Formats.TheVariants.{Both}
use Rattle.zk_trace.specs.Feeds.{lines_in}
use Rattle.zk_trace.specs.TraceRead.{IsRefusedAt}
use Rattle.zk_forms.proofs.CheckAnswers.{lines-few}
use Rattle.zk_forms.specs.CheckAnswer.{trace_refused}
use Rattle.zk_show_view.proofs.Runs.{shown-view, traced-view, told-trace}
use Rattle.zk_show_view.proofs.show.traced.Goals as goal

pub returns-in_ok-trace_refusal-in-Err-At : goal.returns-in_ok-trace_refusal-in-Err-At
returns-in_ok-trace_refusal-in-Err-At c =
    let s = c.args.scenario.now in
    let front = c.args.front.now in
    let trace = c.args.text.now in
    let line = c.in-Err-At.line in
    let told = c.in_ok-trace_refusal-in-Err-At.field-0.items in
    let first : c.behind.result ≡ 1 + length (lines_in front) = omega (arith, c.behind.ensures) in
    let at : IsRefusedAt Both s trace c.behind.result line = rw c.in-Err-At.field-0-is at c.in-Err-At.ensures.at in
    let says : told ≡ trace_refused line = rw c.in-Err-At.field-0-is at c.in_ok-trace_refusal-in-Err-At.ensures in
    let none = rw c.in-Err-At.field-0-is at c.in-Err-At.ensures.only in
    told-trace front trace told s line c.requires.read c.requires.parts c.requires.short c.requires.behind none
    (subst (λ (n : ℕ). IsRefusedAt Both s trace n line) first at) says

pub returns-in_ok-output-in-Ok : goal.returns-in_ok-output-in-Ok
returns-in_ok-output-in-Ok c =
    let found = c.in-Ok.ensures.found in
    shown-view c.args.view c.in_ok-end-in-Ok.status c.args.scenario.now c.in-Ok.trace c.in_ok-end-in-Ok.end.items
    (c.args.front.now ++ c.args.text.now) c.in_ok-output-in-Ok.output.items c.in_ok-end-in-Ok.ensures
    (traced-view c.args.view c.in_ok-end-in-Ok.status found.0 c.args.scenario.now c.in-Ok.trace c.args.front.now c.args.text.now c.in_ok-output-in-Ok.output.items
    c.requires.read c.requires.spelled found.1 found.2 c.requires.short
    (c.in_ok-end-in-Ok.end.items, c.in_ok-end-in-Ok.ensures, c.in_ok-output-in-Ok.ensures found.0 found.2))
