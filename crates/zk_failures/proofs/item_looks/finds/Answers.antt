use Rattle.std.proofs.Common.{length, ap, sym, refl, subst, ◌∙◌, true}
use Rattle.zk_base.specs.Legal.{IsLegal}
use Rattle.zk_model_work.specs.Machine.{work_machine}
use Rattle.std.proofs.lemmas.Bool.{le-leb}
use Rattle.zk_failures.specs.ItemLooks.{finds_now}
use Rattle.zk_work.specs.Seen.{work_start, work_history}
use Rattle.zk_failures.proofs.ItemsFound.{front-come, legal-taken, found-at}
use Rattle.zk_failures.proofs.item_looks.finds.Goals as goal

pub play-requires-clause-legal : goal.play-requires-clause-legal
play-requires-clause-legal c =
    let h = work_history c.args.work.now in
    let entries = c.args.entries.now in
    let at = c.args.look.now.at in
    let come = front-come h entries at (length c.history-front.result.now) c.min-at.result c.requires.reached c.requires.ahead (ap length c.history-front.ensures.history) c.min-at.ensures in
    subst (IsLegal work_machine (work_start c.args.work.now)) (sym come) (legal-taken work_machine (work_start c.args.work.now) entries at c.requires.legal)

pub returns-then-look-end-clause-reached : goal.returns-then-look-end-clause-reached
returns-then-look-end-clause-reached c =
    c.in_ok-play.ensures.history
    ∙ front-come (work_history c.args.work.now) c.args.entries.now c.args.look.now.at (length c.history-front.result.now) c.min-at.result c.requires.reached c.requires.ahead
    (ap length c.history-front.ensures.history) c.min-at.ensures

pub returns-then-look-end-clause-found : goal.returns-then-look-end-clause-found
returns-then-look-end-clause-found c =
    let come =
    c.in_ok-play.ensures.history
    ∙ front-come (work_history c.args.work.now) c.args.entries.now c.args.look.now.at (length c.history-front.result.now) c.min-at.result c.requires.reached c.requires.ahead
    (ap length c.history-front.ensures.history) c.min-at.ensures in
    let start = c.in_ok-play.ensures.start in
    found-at (work_start c.args.work.now) c.args.items.now c.args.entries.now (work_history c.play.new.work) c.args.look.now true c.finds_now.result c.finds_now.result (sym (le-leb c.args.look.now.at (length c.args.entries.now) c.if-look-end.true)) come
    (c.finds_now.ensures ∙ ap (λ s. finds_now s c.args.items.now (work_history c.play.new.work) c.args.look.now) start) refl
