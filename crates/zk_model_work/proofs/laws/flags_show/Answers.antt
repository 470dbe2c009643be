use Rattle.zk_model_work.proofs.FlagWord.{flags_show}
use Rattle.zk_model_work.proofs.laws.flags_show.Goals as goal

pub returns : goal.returns
returns c = flags_show
