use Rattle.zk_forms.proofs.Outcomes.{output-printed}
use Rattle.zk_forms.proofs.answer.run_on_cores.Goals as goal

pub returns : goal.returns
returns g c = record {
  output = output-printed _ c.args.scenario.now c.in_ok-trace.trace c.args.text.items c.print_run.result c.in_ok-trace.ensures.lawful c.print_run.ensures.status c.print_run.ensures.prints;
}
