use Rattle.std.proofs.Common.{◌∙◌}
use Rattle.zk_model_work.specs.Questions.{waits_for}
use Rattle.zk_model_work.proofs.Lines.{first_of_places}
use Rattle.zk_model_work.proofs.questions.first_in_line.Goals as goal

pub returns : goal.returns
returns c = c.place_in_line.ensures ∙ first_of_places (waits_for c.args.queue) c.args.admissions.now
