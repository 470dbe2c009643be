use Rattle.std.proofs.Common.{◌+◌, ◌++◌, drop, ap, ◌∙◌}
use Rattle.zk_trace.specs.declared.stood.Home.TheVariants as homes
use Rattle.zk_trace.specs.Stood.{entries_stood, histories_stood}
use Rattle.zk_trace.proofs.StoodLists.{histories-on}
use Rattle.zk_trace.proofs.standing.put_histories.Goals as goal

pub loop-object-preserved : goal.loop-object-preserved
loop-object-preserved g c =
    let hs = c.args.histories.now in
    let object = c.loop-object.object in
    let lines = c.loop-object.lines.items in
    ap (λ l. l ++ histories_stood c.args.family (object + 1) (drop (object + 1) hs))
    (c.in_ok-put_entries.ensures ∙ ap (λ h. lines ++ entries_stood (homes.Object c.args.family object) 0 h) c.items.ensures)
    ∙ histories-on hs object c.index-histories-object.result c.loop-object-test.true c.index-histories-object.is c.args.family lines
    ∙ c.loop-object.invariant
