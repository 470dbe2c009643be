use Rattle.zk_event.proofs.BitsLeft.{each_bit_as_last_left}
use Rattle.zk_event.proofs.EventAnswers.{answers_what_is_there}
use Rattle.zk_event.proofs.EventWaits.{waiters_hold}
use Rattle.zk_event.proofs.Holding.{none_waits_where_it_holds}
use Rattle.zk_event.proofs.Moments.{decided_at_its_moment, decided_at_the_first_moment}
use Rattle.zk_event.proofs.laws.event_waits_end.Goals as goal

pub returns : goal.returns
returns c = record {
  waits = waiters_hold;
  answers = answers_what_is_there;
  none = none_waits_where_it_holds;
  moment = decided_at_its_moment;
  first = decided_at_the_first_moment;
  bits = each_bit_as_last_left;
}
