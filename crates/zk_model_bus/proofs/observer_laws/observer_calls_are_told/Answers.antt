use Rattle.zk_model_bus.proofs.ObserverTells.{take_waits_only_at_none, taker_decided_by_a_push, listener_takes_nothing, may_always, enable_is_done}
use Rattle.zk_model_bus.proofs.observer_laws.observer_calls_are_told.Goals as goal

pub returns : goal.returns
returns c = record {
  take = take_waits_only_at_none;
  decided = taker_decided_by_a_push;
  nothing = listener_takes_nothing;
  always = may_always;
  done = enable_is_done;
}
