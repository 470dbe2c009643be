use Rattle.std.proofs.Common.{length, All, [], ◌∷◌, ◌++◌, sym, ap, subst, ◌∙◌, arith, append_assoc}
use Rattle.std.proofs.lemmas.List.{length-append}
use Rattle.std.proofs.lemmas.List.Elements.{All-push}
use Rattle.zk_base.specs.Legal.{IsLegal}
use Rattle.zk_cells.specs.Dealt.{AllLeft}
use Rattle.zk_cells.specs.Kernels.{HasWhole}
use Rattle.zk_cells.specs.Rows.{starts_in}
use Rattle.zk_cells.proofs.NewPasses.{one-started, one-left}
use Rattle.zk_cells.proofs.opening.open_row.Goals as goal

pub loop-service-preserved : goal.loop-service-preserved
loop-service-preserved g c =
    let legal = IsLegal g.S.Service.machine in
    let start = g.S.Service.start in
    let l = c.loop-service in
    let ws = c.args.whos.now in
    let x = c.in-Some.service in
    let cell = c.in_ok-cell.cell in
    let list = c.in_ok-cell.passes in
    let cells = c.push_within.ensures in
    let lists = c.push_within-in-loop-service.ensures in
    let made = l.invariant.made in
    let room = l.invariant.room in
    let one = c.in_ok-cell.ensures in
    let long = length-append l.yielded (x ∷ []) in
    record {
      items = append_assoc l.yielded (x ∷ []) _ ∙ ap (λ rest. l.yielded ++ rest) (sym c.in-Some.ensures.steps.0)
          ∙ l.invariant.items;
      starts = ap (starts_in start) cells.items
          ∙ one-started legal start l.cells.items l.yielded cell x l.invariant.starts one.start;
      whole = subst (All (HasWhole (length ws))) (sym cells.items)
          (All-push (HasWhole (length ws)) l.cells.items cell l.invariant.whole one.whole);
      passes = subst (λ cs. AllLeft legal start ws cs c.push_within-in-loop-service.new.items.items) (sym cells.items)
          (subst (λ ls. AllLeft legal start ws (l.cells.items ++ cell ∷ []) ls) (sym lists.items)
          (one-left legal start ws l.cells.items l.lists.items cell list l.invariant.passes one.passes));
      made = (let len = cells.len in let was = made.0 in omega arith, let len = lists.len in let was = made.1 in omega arith);
      room = (let kept = cells.capacity in let was = room.0 in omega arith, let kept = lists.capacity in let was = room.1 in omega arith);
    }
