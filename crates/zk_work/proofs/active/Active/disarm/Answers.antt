use Rattle.std.proofs.Common.{ap, ◌∙◌}
use Rattle.zk_work.specs.Active.{ActiveView}
use Rattle.zk_work.proofs.active.Active.disarm.Goals as goal

pub returns-clause-admissions : goal.returns-clause-admissions
returns-clause-admissions c = c.disarm.ensures.admissions ∙ ap (λ (v : ActiveView). v.admissions) c.self.view_is

pub returns-clause-flushing : goal.returns-clause-flushing
returns-clause-flushing c = c.disarm.ensures.flushing ∙ ap (λ (v : ActiveView). v.flushing) c.self.view_is
