use Rattle.std.proofs.Common.{sym, ◌∙◌}
use Rattle.zk_model_work.specs.Questions.{arms_item}
use Rattle.zk_model_work.proofs.Lines.{find-none, find-there}
use Rattle.zk_model_work.proofs.questions.live_arm.Goals as goal

pub returns-in-None : goal.returns-in-None
returns-in-None c = sym (find-none (arms_item c.args.item) c.args.arms.now (sym c.armed.ensures ∙ c.in-None.is))

pub returns-in-Some : goal.returns-in-Some
returns-in-Some c = sym (find-there (arms_item c.args.item) c.args.arms.now c.in-Some.place _ (sym c.armed.ensures
    ∙ c.in-Some.is))
