use Rattle.std.proofs.Common.{◌≡◌, ℕ, List, ◌≤◌, ◌++◌, Err, length, arith, sym, subst, ◌∙◌}
use Rattle.zk_scenario.specs.declared.refused.ScenarioRefused.TheVariants.{At}
use Rattle.zk_scenario.specs.Grammar.{scenario_of}
use Rattle.zk_trace.specs.Parting.{AreParts}
use Rattle.zk_show_view.specs.Shown.{IsToldOfFront}
use Rattle.zk_forms.specs.declared.form.TheConstants.{LONGEST_TRACE}
use Rattle.zk_show_view.proofs.Runs.{told-refused}
use Rattle.zk_show_view.proofs.show.shown.Goals as goal

pub returns-in-Err-At : goal.returns-in-Err-At
returns-in-Err-At c =
    let input = c.args.input.items in
    let front = c.split_text.result.0.now in
    let trace = c.split_text.result.1.now in
    let told = c.in_ok-no_scenario-in-Err-At.field-0.items in
    let line = c.in-Err-At.line in
    let why = c.in-Err-At.why in
    let whole : input ≡ front ++ trace = sym c.deref-2.ensures.value ∙ c.split_text.ensures.whole in
    let short : length input ≤ LONGEST_TRACE = omega (arith, c.if-len-gt-LONGEST_TRACE.false, c.len.ensures) in
    let parts : AreParts input front trace = record { whole = whole; before = c.split_text.ensures.before; begins = c.split_text.ensures.begins } in
    let read : scenario_of front ≡ Err (At line why) = rw c.in-Err-At.field-0-is at c.in-Err-At.ensures.exact in
    let says : IsToldOfFront input line why told =
    subst (λ (i : List ℕ). IsToldOfFront i line why told) c.deref-in-Err-At.ensures.value
    (rw c.in-Err-At.field-0-is at c.in_ok-no_scenario-in-Err-At.ensures) in
    told-refused input front trace told line why short parts read says
