use Rattle.zk_model_work.proofs.Singles.{one_waits_one_runs, one_runs_on_a_queue}
use Rattle.zk_model_work.proofs.Overlaps.{runs_to_its_end, ends_between_begins}
use Rattle.zk_model_work.proofs.Outcomes.{ended_by_its_end}
use Rattle.zk_model_work.proofs.Replies.{by_its_worker, end_finds_a_run}
use Rattle.zk_model_work.proofs.laws.never_overlaps.Goals as goal

pub returns : goal.returns
returns c = λ start h fresh. record {
  one = one_waits_one_runs start h fresh;
  queue = one_runs_on_a_queue start h fresh;
  ends = runs_to_its_end start h fresh;
  ended = ended_by_its_end start h fresh;
  between = ends_between_begins start h fresh;
  worker = by_its_worker start h fresh;
  found = end_finds_a_run start h fresh;
}
