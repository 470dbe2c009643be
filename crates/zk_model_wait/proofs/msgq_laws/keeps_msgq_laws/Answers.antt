use Rattle.zk_model_wait.specs.Msgq.{new_msgq}
use Rattle.zk_model_wait.proofs.msgq_laws.keeps_msgq_laws.Goals as goal

pub returns : goal.returns
returns c = λ most h legal. record {
  in_order = c.first_in_first_out.ensures.in_order most h legal;
  in_front = c.first_in_first_out.ensures.in_front most h legal;
  lost = c.first_in_first_out.ensures.lost most h legal;
  within = c.ring_holds.ensures.within most h legal;
  gets = c.ring_holds.ensures.gets most h legal;
  puts = c.ring_holds.ensures.puts most h legal;
  put = c.queue_calls_are_told.ensures.put most h legal;
  put_front = c.queue_calls_are_told.ensures.put_front most h legal;
  get = c.queue_calls_are_told.ensures.get most h legal;
  looks = c.queue_calls_are_told.ensures.looks most h legal;
  purge = c.queue_calls_are_told.ensures.purge (new_msgq most) h;
  put_decided = c.queue_calls_are_told.ensures.put_decided most h legal;
  get_decided = c.queue_calls_are_told.ensures.get_decided most h legal;
  always = c.queue_calls_are_told.ensures.always (new_msgq most) h;
  done = c.queue_calls_are_told.ensures.done most h legal;
  put_waits = c.queue_waits_end.ensures.put_waits most h legal;
  get_waits = c.queue_waits_end.ensures.get_waits most h legal;
  armed = c.queue_polls_hold.ensures.armed most h legal;
  noted = c.queue_polls_hold.ensures.noted most h legal;
  chances = c.queue_polls_hold.ensures.chances most h legal;
  nothing = c.queue_polls_hold.ensures.nothing (new_msgq most) h;
  polls = c.queue_polls_hold.ensures.polls most h legal;
}
