use Rattle.zk_model_work.proofs.Made.{made_waiting, waits_on, goes_to_its_queue, started_admits}
use Rattle.zk_model_work.proofs.Submissions.{answered_is_made, already_where_it_waits, refused_with_cause}
use Rattle.zk_model_work.proofs.laws.submissions_hold.Goals as goal

pub returns : goal.returns
returns c = λ start h fresh. record {
  made = made_waiting start h fresh;
  waits = waits_on start h fresh;
  so = answered_is_made start h fresh;
  already = already_where_it_waits start h fresh;
  refused = refused_with_cause start h fresh;
  queue = goes_to_its_queue start h fresh;
  started = started_admits start h fresh;
}
