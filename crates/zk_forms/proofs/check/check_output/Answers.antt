use Rattle.std.proofs.Common.{◌≡◌, ◌≤◌, ℕ, List, ◌++◌, Err, length, arith, refl, sym, ap, subst, ◌∙◌}
use Rattle.std.specs.Prelude.{Result}
use Rattle.zk_scenario.specs.Content.{Content}
use Rattle.zk_scenario.specs.declared.refused.ScenarioRefused.{ScenarioRefused}
use Rattle.zk_scenario.specs.declared.refused.ScenarioRefused.TheVariants.{At}
use Rattle.zk_scenario.specs.Grammar.{scenario_of}
use Rattle.zk_trace.specs.declared.format.Formats.TheVariants.{Both}
use Rattle.zk_forms.specs.declared.form.TheConstants.{LONGEST_TRACE}
use Rattle.zk_forms.specs.Answer.{IsRefusal}
use Rattle.zk_forms.specs.CheckAnswer.{IsTraceRefusal}
use Rattle.zk_forms.specs.Refusal.{refusal_text}
use Rattle.zk_forms.proofs.CheckAnswers.{scenario-refused}
use Rattle.zk_forms.proofs.check.check_output.Goals as goal

pub returns-in-Err-At : goal.returns-in-Err-At
returns-in-Err-At c =
    let front = c.split_text.result.0.now in
    let trace = c.split_text.result.1.now in
    let output = c.in_ok-refusal-in-Err-At.field-0.items in
    let whole : c.args.input.items ≡ front ++ trace = sym c.deref.ensures.value ∙ c.split_text.ensures.whole in
    let short : length (front ++ trace) ≤ LONGEST_TRACE = omega (arith, ap length whole, c.if-len-gt-LONGEST_TRACE.false, c.len.ensures) in
    let read : scenario_of front ≡ Err (At c.in-Err-At.line c.in-Err-At.why) = rw c.in-Err-At.field-0-is at c.in-Err-At.ensures.exact in
    let says : output ≡ refusal_text c.in-Err-At.line c.in-Err-At.why = rw c.in-Err-At.field-0-is at c.in_ok-refusal-in-Err-At.ensures in
    subst (λ (i : List ℕ). IsTraceRefusal Both i output) (sym whole)
    (scenario-refused Both front trace output (At c.in-Err-At.line c.in-Err-At.why) read
    (record { whole = refl; before = c.split_text.ensures.before; begins = c.split_text.ensures.begins }) short
    (subst (λ (r : Result Content ScenarioRefused). IsRefusal r output) (sym read) says))
