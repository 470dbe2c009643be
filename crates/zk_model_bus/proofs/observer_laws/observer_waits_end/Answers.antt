use Rattle.zk_model_bus.proofs.ObserverWaits.{takers_hold}
use Rattle.zk_model_bus.proofs.observer_laws.observer_waits_end.Goals as goal

pub returns : goal.returns
returns c = record { waits = takers_hold }
