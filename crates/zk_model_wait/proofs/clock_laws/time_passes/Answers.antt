use Rattle.zk_model_wait.proofs.Ticks.{time_is_all_ticks, time_never_falls, announce_tells_the_time, alarm_tells_its_moment, may_always}
use Rattle.zk_model_wait.proofs.clock_laws.time_passes.Goals as goal

pub returns : goal.returns
returns c = record {
  sum = time_is_all_ticks;
  rises = time_never_falls;
  told = announce_tells_the_time;
  moment = alarm_tells_its_moment;
  always = may_always;
}
