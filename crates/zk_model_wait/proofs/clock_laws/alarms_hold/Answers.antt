use Rattle.zk_model_wait.proofs.Alarms.{due_when_its_moment_has_come, each_ends_once, may_end_once_it_has_come}
use Rattle.zk_model_wait.proofs.clock_laws.alarms_hold.Goals as goal

pub returns : goal.returns
returns c = record { due = due_when_its_moment_has_come; once = each_ends_once; may = may_end_once_it_has_come }
