use Rattle.std.proofs.Common.{ℕ, ap, ◌∙◌, ◌++◌, get_or, Vec, Global}
use Rattle.zk_failures.specs.declared.item_looks.Fronted.{Fronted}
use Rattle.zk_failures.specs.ItemLooks.{finds, missed_places}
use Rattle.zk_work.specs.Seen.{work_start, work_history}
use Rattle.zk_failures.proofs.ItemsFound.{reached-at, still-ahead, rest, missed-more, found-more}
use Rattle.zk_failures.proofs.item_looks.missed_places.Goals as goal
use Rattle.zk_failures.proofs.item_looks.missed_places.Goals.{then-not-branch+in_ok-push, else-not-branch}

pub loop-one-preserved : goal.loop-one-preserved
loop-one-preserved c =
    let none : Fronted = record { place = 0; look = record { player = 0; step = 0; item = 0; flags = 0; at = 0 } } in
    let start = work_start c.args.work.now in
    let items = c.args.items.now in
    let entries = c.args.entries.now in
    let fronts = c.args.fronts.now in
    let i = c.loop-one.one-index in
    let look = (get_or fronts i none).look in
    let found = c.in_ok-finds.field-0 in
    let is = c.in_ok-finds.ensures.found ∙ ap (λ s. finds s items entries look) c.loop-one.invariant.start in
    let all = missed_places start items entries fronts in
    record {
      start = c.in_ok-finds.ensures.start ∙ c.loop-one.invariant.start;
      reached = reached-at (work_history c.finds.new.work) entries look.at c.in_ok-finds.ensures.reached;
      ahead = λ k d low within. still-ahead (work_history c.finds.new.work) entries fronts i k none d c.requires.sorted c.in_ok-finds.ensures.reached low within;
      missed = elim c.if-not-branch.branch [
        | then-not-branch+in_ok-push w ↦ missed-more start items entries fronts i none c.loop-one-test.true c.loop-one.missed.items c.if-not-branch.missed.items all found is w.if-not-branch.true
            (ap (λ (v : Vec ℕ Global). v.items) w.missed-is ∙ w.in_ok-push.ensures.items) c.loop-one.invariant.missed
        | else-not-branch w ↦ ap (λ (v : Vec ℕ Global). v.items ++ rest start items entries fronts i none c.loop-one-test.true) w.missed-is
            ∙ found-more start items entries fronts i none c.loop-one-test.true c.loop-one.missed.items all found is w.if-not-branch.false c.loop-one.invariant.missed
      ];
    }
