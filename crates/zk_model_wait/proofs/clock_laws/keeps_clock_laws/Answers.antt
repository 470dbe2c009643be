use Rattle.zk_model_wait.proofs.clock_laws.keeps_clock_laws.Goals as goal

pub returns : goal.returns
returns c = λ h legal. record {
  sum = c.time_passes.ensures.sum h;
  rises = c.time_passes.ensures.rises h;
  told = c.time_passes.ensures.told h legal;
  moment = c.time_passes.ensures.moment h legal;
  due = c.alarms_hold.ensures.due h legal;
  once = c.alarms_hold.ensures.once h legal;
  may = c.alarms_hold.ensures.may h legal;
  always = c.time_passes.ensures.always h;
}
