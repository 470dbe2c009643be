use Rattle.std.proofs.Common.{◌≡◌, subst, ◌∙◌}
use Rattle.zk_scenario.specs.Content.{Content}
use Rattle.zk_trace.specs.Form.{IsInForm}
use Rattle.zk_test_kernel.proofs.played.lawful_text.Goals as goal

pub check-requires : goal.check-requires
check-requires c = record {
  form = subst (λ (s : Content). IsInForm s c.in_ok-trace.trace)
      (c.finish.ensures.scenario ∙ c.in_ok-rest.ensures.closed.scenario ∙ c.requires.same) c.in_ok-trace.ensures.form;
}
