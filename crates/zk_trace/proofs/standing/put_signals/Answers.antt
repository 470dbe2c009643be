use Rattle.std.proofs.Common.{◌+◌, ◌++◌, drop, map, ap, ◌∙◌}
use Rattle.zk_trace.specs.declared.stood.Family.TheVariants as families
use Rattle.zk_trace.specs.declared.stood.Home.TheVariants as homes
use Rattle.zk_trace.specs.Stood.{entries_stood, signal_look_stood, signals_stood}
use Rattle.zk_trace.specs.Text.{looks_at}
use Rattle.zk_trace.proofs.StoodLists.{signals-on}
use Rattle.zk_trace.proofs.standing.put_signals.Goals as goal

pub loop-object-preserved : goal.loop-object-preserved
loop-object-preserved g c =
    let hs = c.args.histories.now in
    let object = c.loop-object.object in
    let lines = c.loop-object.lines.items in
    let looks = c.args.looks.now in
    let writes = c.in_ok-put_entries.ensures ∙ ap (λ h. lines ++ entries_stood (homes.Object families.Signal object) 0 h) c.items.ensures in
    let seen = c.in_ok-put_signal_looks.ensures ∙ ap (λ l. c.put_entries.new.lines.items ++ map (signal_look_stood object) l) c.looks_at.ensures in
    ap (λ l. l ++ signals_stood looks (object + 1) (drop (object + 1) hs)) (seen ∙ ap (λ l. l ++ map (signal_look_stood object) (looks_at looks object)) writes)
    ∙ signals-on hs object c.index-histories-object.result c.loop-object-test.true c.index-histories-object.is looks lines
    ∙ c.loop-object.invariant
