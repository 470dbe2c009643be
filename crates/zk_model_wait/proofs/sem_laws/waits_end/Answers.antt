use Rattle.zk_model_wait.proofs.SemWaits.{takers_hold}
use Rattle.zk_model_wait.proofs.sem_laws.waits_end.Goals as goal

pub returns : goal.returns
returns c = record { waits = takers_hold }
