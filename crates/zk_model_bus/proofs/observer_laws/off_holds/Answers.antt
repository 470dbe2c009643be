use Rattle.zk_model_bus.proofs.ObserverTells.{off_while_disabled, listener_runs, full_only_at_capacity}
use Rattle.zk_model_bus.proofs.observer_laws.off_holds.Goals as goal

pub returns : goal.returns
returns c = record { off = off_while_disabled; listener = listener_runs; full = full_only_at_capacity }
