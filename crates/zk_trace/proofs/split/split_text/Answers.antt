use Rattle.std.proofs.Common.{[], sym, ◌∙◌, length, arith}
use Rattle.std.proofs.lemmas.List.{take_all, drop_all}
use Rattle.zk_trace.proofs.Parting.{first-is, not-first, none-passed, one-passed, passed-shorter, behind-shorter, part-begins, none-begins, are-parts}
use Rattle.zk_trace.proofs.split.split_text.Goals as goal

pub loop-line-init : goal.loop-line-init
loop-line-init c = none-passed c.args.text.now

pub overflow_sub-text : goal.overflow_sub-text
overflow_sub-text c = passed-shorter c.args.text.now c.loop-line.rest.now c.loop-line.invariant

pub returns-then-begins_trace : goal.returns-then-begins_trace
returns-then-begins_trace c =
    are-parts c.args.text.now _ _ c.split_at.result.0.now c.split_at.result.1.now c.split_at.ensures.front c.split_at.ensures.back
    (let first = first-is c.in-Some.line.now (sym c.begins_trace.ensures ∙ c.if-begins_trace.true) in
    part-begins c.args.text.now c.loop-line.rest.now c.in-Some.line.now c.in-Some.behind.now c.loop-line.invariant c.in-Some.ensures first.0 first.1)

pub loop-line-smaller : goal.loop-line-smaller
loop-line-smaller c = behind-shorter c.loop-line.rest.now c.in-Some.line.now c.in-Some.behind.now c.in-Some.ensures

pub loop-line-preserved : goal.loop-line-preserved
loop-line-preserved c =
    one-passed c.args.text.now c.loop-line.rest.now c.in-Some.line.now c.in-Some.behind.now c.loop-line.invariant c.in-Some.ensures
    (not-first c.in-Some.line.now (sym c.begins_trace.ensures ∙ c.if-begins_trace.false))

pub returns : goal.returns
returns c =
    let text = c.args.text.now in
    are-parts text text [] c.split_at-2.result.0.now c.split_at-2.result.1.now
    (c.split_at-2.ensures.front ∙ take_all (length text) text (omega arith)) (c.split_at-2.ensures.back ∙ drop_all (length text) text (omega arith))
    (none-begins text c.loop-line.rest.now c.loop-line.invariant c.in_default.ensures)
