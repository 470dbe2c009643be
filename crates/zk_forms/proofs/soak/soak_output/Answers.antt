use Rattle.std.proofs.Common.{List, refl, sym, ap, subst, ◌∙◌}
use Rattle.std.proofs.lemmas.Result.{IfOk-from_err}
use Rattle.zk_base.specs.declared.errors.Status.{Status}
use Rattle.zk_scenario.specs.Content.{Content}
use Rattle.zk_trace.specs.declared.stood.Stood.{Stood}
use Rattle.zk_trace.specs.Lawful.{IsLawful}
use Rattle.zk_trace.proofs.FewObjects.{form-few}
use Rattle.zk_replay.specs.Replay.{IsReplay}
use Rattle.zk_forms.specs.SoakAnswer.{IsSoakOutput, soak_line}
use Rattle.zk_forms.proofs.CheckAnswers.{soak-output}
use Rattle.zk_forms.proofs.soak.soak_output.Goals as goal

pub returns-in_err-trace : goal.returns-in_err-trace
returns-in_err-trace c = IfOk-from_err c.from_residual-in_err-trace.result _ c.from_residual-in_err-trace.ensures.0

pub returns-in_err-check : goal.returns-in_err-check
returns-in_err-check c = IfOk-from_err c.from_residual-in_err-check.result _ c.from_residual-in_err-check.ensures.0

pub unreachable-requires : goal.unreachable-requires
unreachable-requires c = c.in_default.not-Lawful (c.in_ok-check.ensures.lawful.1 c.in_ok-trace.ensures.lawful)

pub stood_lines-requires : goal.stood_lines-requires
stood_lines-requires c = form-few c.in_ok-scenario.scenario c.in_ok-trace.trace c.in_ok-trace.ensures.form c.in_ok-trace.ensures.valid

pub returns : goal.returns
returns c =
    let t = c.in_ok-trace.trace in
    let number = c.args.number in
    let output = c.in_ok-text.text.items in
    let same = c.in_ok-scenario.ensures in
    subst (λ (s : Status). IsSoakOutput number s output) (sym c.status_of.ensures)
    (soak-output t.ending number output (record {
      t = t;
      run = subst (λ (s : Content). IsReplay s t) same c.in_ok-trace.ensures.replay;
      lawful = subst (λ (s : Content). IsLawful s t) same c.in_ok-trace.ensures.lawful;
      ends = refl;
      printed = c.in_ok-text.ensures ∙ ap (λ (l : List Stood). soak_line number l t.ending) (c.deref.ensures.value ∙ c.in_ok-lines.ensures);
    }))
