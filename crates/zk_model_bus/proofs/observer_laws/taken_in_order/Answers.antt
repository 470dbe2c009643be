use Rattle.zk_model_bus.proofs.ObserverOrder.{taken_in_order, none_waits_while_channels, within_capacity}
use Rattle.zk_model_bus.proofs.observer_laws.taken_in_order.Goals as goal

pub returns : goal.returns
returns c = record { in_order = taken_in_order; none_waits = none_waits_while_channels; within = within_capacity }
