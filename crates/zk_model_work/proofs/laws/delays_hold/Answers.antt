use Rattle.zk_model_work.proofs.Replies.{armed_as_asked, remaining_tells}
use Rattle.zk_model_work.proofs.Delays.{live_ahead, expires_when_due, disarmed_when_given_up, fate_stays, one_live_arm}
use Rattle.zk_model_work.proofs.Orders.{expire_in_order, admitted_in_order}
use Rattle.zk_model_work.proofs.Pending.{schedule_tells}
use Rattle.zk_model_work.proofs.Entries.{only_announces_pass_time}
use Rattle.zk_model_work.proofs.laws.delays_hold.Goals as goal

pub returns : goal.returns
returns c = λ start h fresh. record {
  armed = armed_as_asked start h fresh;
  ahead = live_ahead start h fresh;
  due = expires_when_due start h fresh;
  disarmed = disarmed_when_given_up start h fresh;
  once = fate_stays start h fresh;
  one = one_live_arm start h fresh;
  order = expire_in_order start h fresh;
  numbers = admitted_in_order start h fresh;
  scheduled = schedule_tells start h fresh;
  remaining = remaining_tells start h fresh;
  passes = only_announces_pass_time start h fresh;
}
