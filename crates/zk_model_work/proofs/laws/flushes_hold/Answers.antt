use Rattle.zk_model_work.proofs.AwaitedEnds.{flush_done_after_its_end}
use Rattle.zk_model_work.proofs.Found.{flush_waits_for_newest}
use Rattle.zk_model_work.proofs.Pending.{flush_hurries}
use Rattle.zk_model_work.proofs.laws.flushes_hold.Goals as goal

pub returns : goal.returns
returns c = λ start h fresh. record {
  done = flush_done_after_its_end start h fresh;
  newest = flush_waits_for_newest start h fresh;
  hurries = flush_hurries start h fresh;
}
