use Rattle.zk_model_work.proofs.Cancels.{none_waits_after_cancel, none_made_during_cancel, begun_made_after_cancel, begun_made_after_run}
use Rattle.zk_model_work.proofs.AwaitedEnds.{cancel_done_after_run}
use Rattle.zk_model_work.proofs.Tells.{cancel_tells_the_run}
use Rattle.zk_model_work.proofs.Found.{cancel_start_tells_the_run}
use Rattle.zk_model_work.proofs.laws.cancels_hold.Goals as goal

pub returns : goal.returns
returns c = λ start h fresh. record {
  empty = none_waits_after_cancel start h fresh;
  none = none_made_during_cancel start h fresh;
  after = begun_made_after_cancel start h fresh;
  run = begun_made_after_run start h fresh;
  done = cancel_done_after_run start h fresh;
  told = cancel_tells_the_run start h fresh;
  waits = cancel_start_tells_the_run start h fresh;
}
