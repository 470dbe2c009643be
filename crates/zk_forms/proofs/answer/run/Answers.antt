use Rattle.zk_forms.proofs.Outcomes.{output-printed}
use Rattle.zk_forms.proofs.answer.run.Goals as goal

pub returns : goal.returns
returns c = record {
  output = output-printed _ c.args.scenario.now c.in_ok-trace.trace c.args.text.items c.print_run.result c.in_ok-trace.ensures.replay c.print_run.ensures.status c.print_run.ensures.prints;
}
