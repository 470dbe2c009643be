use Rattle.std.proofs.Common.{◌+◌, ◌++◌, List, map, drop, sym, ap, ◌∙◌}
use Rattle.zk_trace.specs.declared.look_lines.LookLine.{LookLine}
use Rattle.zk_trace.specs.LookLines.{item_line, signal_line, signal_lines}
use Rattle.zk_trace.proofs.LookLines.{lines-next, lines-all}
use Rattle.zk_trace.proofs.looks.Looks.lines.Goals as goal

pub loop-object-preserved : goal.loop-object-preserved
loop-object-preserved c =
    let n = c.loop-object.object in
    let all = c.items-looks-items.result.now in
    ap (λ (l : List LookLine). l ++ signal_lines (n + 1) (drop (n + 1) all)) c.in_ok-add_signal_lines.ensures
    ∙ ap (λ l. (c.loop-object.lines ++ map (signal_line n) l) ++ signal_lines (n + 1) (drop (n + 1) all))
    (c.items-in-loop-object.ensures ∙ c.looks-item.is)
    ∙ lines-next c.loop-object.lines n all c.looks-item.result c.loop-object-test.true
    ∙ c.loop-object.invariant

pub returns : goal.returns
returns c =
    let all = c.items-looks-items.result.now in
    sym (lines-all c.loop-object.lines c.loop-object.object all c.loop-object-test.false)
    ∙ c.loop-object.invariant
    ∙ ap (λ l. map item_line c.args.self.now.items ++ signal_lines 0 l) c.items-looks-items.ensures
