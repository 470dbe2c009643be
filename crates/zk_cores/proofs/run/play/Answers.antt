use Rattle.std.proofs.Common.{◌∙◌}
use Rattle.zk_cores.proofs.Finishing.{finished, finished-valid}
use Rattle.zk_cores.proofs.run.play.Goals as goal

pub returns-clause-lawful : goal.returns-clause-lawful
returns-clause-lawful g c =
    finished c.args.scenario.now c.finish.new.rest c.trace.result (c.in_ok-finish.ensures.scenario ∙ c.in_ok-rest.ensures.closed.scenario ∙ c.in_ok-kernel.ensures.scenario)
    c.in_ok-finish.ensures.sound c.in_ok-finish.ensures.over c.trace.ensures.trace c.trace.ensures.faithful

pub returns-clause-valid : goal.returns-clause-valid
returns-clause-valid g c =
    finished-valid c.args.scenario.now c.finish.new.rest c.trace.result (c.in_ok-finish.ensures.scenario ∙ c.in_ok-rest.ensures.closed.scenario ∙ c.in_ok-kernel.ensures.scenario) c.in_ok-finish.ensures.sound
