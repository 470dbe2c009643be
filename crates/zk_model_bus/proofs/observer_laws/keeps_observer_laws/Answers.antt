use Rattle.zk_model_bus.specs.Observer.{new_obs}
use Rattle.zk_model_bus.proofs.observer_laws.keeps_observer_laws.Goals as goal

pub returns : goal.returns
returns c = λ capacity h legal. record {
  in_order = c.taken_in_order.ensures.in_order capacity h legal;
  none_waits = c.taken_in_order.ensures.none_waits capacity h legal;
  within = c.taken_in_order.ensures.within capacity h legal;
  off = c.off_holds.ensures.off capacity h legal;
  listener = c.off_holds.ensures.listener capacity h legal;
  full = c.off_holds.ensures.full capacity h legal;
  take = c.observer_calls_are_told.ensures.take capacity h legal;
  decided = c.observer_calls_are_told.ensures.decided capacity h legal;
  nothing = c.observer_calls_are_told.ensures.nothing capacity h legal;
  always = c.observer_calls_are_told.ensures.always (new_obs capacity) h;
  done = c.observer_calls_are_told.ensures.done capacity h legal;
  waits = c.observer_waits_end.ensures.waits capacity h legal;
}
