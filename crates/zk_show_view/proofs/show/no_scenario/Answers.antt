use Rattle.std.proofs.Common.{◌≡◌, Option, IfSome, subst}
use Rattle.zk_show_view.specs.declared.answers.Answer.{Answer}
use Rattle.zk_show_view.specs.Answers.{answer_text}
use Rattle.zk_show_view.specs.Shown.{an_answer}
use Rattle.zk_show_view.proofs.show.no_scenario.Goals as goal

pub returns-in_ok-asking-in-Some : goal.returns-in_ok-asking-in-Some
returns-in_ok-asking-in-Some c =
    let input = c.args.input.now in
    let given = subst (λ (found : Option Answer). IfSome found (λ answer. input ≡ answer_text answer)) c.in-Some.is c.in_ok-answer.ensures in
    an_answer c.in-Some.answer given c.in_ok-asking-in-Some.ensures
