use Rattle.zk_model_work.proofs.Outcomes.{admission_stays, outcome_stays, begun_from_its_queue}
use Rattle.zk_model_work.proofs.Begins.{each_begun_once, dropped_never_begun, run_or_dropped}
use Rattle.zk_model_work.proofs.laws.runs_once.Goals as goal

pub returns : goal.returns
returns c = λ start h fresh. record {
  kept = admission_stays start h fresh;
  over = outcome_stays start h fresh;
  begun = begun_from_its_queue start h fresh;
  once = each_begun_once start h fresh;
  dropped = dropped_never_begun start h fresh;
  outcome = run_or_dropped start h fresh;
}
