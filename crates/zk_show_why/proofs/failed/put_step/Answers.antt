use Rattle.zk_show_why.proofs.Telling.{put_next}
use Rattle.zk_show_why.proofs.failed.put_step.Goals as goal

pub returns : goal.returns
returns c = put_next _ _ _ _ _ _ c.in_ok-put.ensures.ok c.put_decimal.ensures.ok
