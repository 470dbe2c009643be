use Rattle.zk_forms.proofs.CheckAnswers.{one-meaning}
use Rattle.zk_forms.proofs.meaning.has_one_meaning.Goals as goal

pub returns : goal.returns
returns c = one-meaning
