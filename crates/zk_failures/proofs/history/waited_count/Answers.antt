use Rattle.std.proofs.Common.{◌∙◌, [], ap, arith}
use Rattle.zk_failures.specs.Answering.{line_count}
use Rattle.zk_failures.proofs.PlayableTraces.{length-waited}
use Rattle.zk_failures.proofs.history.waited_count.Goals as goal

pub line_count-sems-requires : goal.line_count-sems-requires
line_count-sems-requires c =
    let whole = length-waited c.args.trace.now in
    let few = c.requires in
    let sems = ap (λ l. line_count [] 0 l) c.items.ensures in
    omega arith

pub line_count-msgqs-requires : goal.line_count-msgqs-requires
line_count-msgqs-requires c =
    let whole = length-waited c.args.trace.now in
    let few = c.requires in
    let msgqs = ap (λ l. line_count [] 0 l) c.items-2.ensures in
    omega arith

pub overflow_add-result : goal.overflow_add-result
overflow_add-result c =
    let whole = length-waited c.args.trace.now in
    let few = c.requires in
    let sems = c.line_count-sems.ensures ∙ ap (λ l. line_count [] 0 l) c.items.ensures in
    let msgqs = c.line_count-msgqs.ensures ∙ ap (λ l. line_count [] 0 l) c.items-2.ensures in
    omega arith

pub line_count-requires : goal.line_count-requires
line_count-requires c =
    let whole = length-waited c.args.trace.now in
    let few = c.requires in
    let signals = ap (λ l. line_count c.items-4.result.now 0 l) c.items-3.ensures ∙ ap (λ l. line_count l 0 c.args.trace.now.signals) c.items-4.ensures in
    omega arith

pub overflow_add-result-2 : goal.overflow_add-result-2
overflow_add-result-2 c =
    let whole = length-waited c.args.trace.now in
    let few = c.requires in
    let sems = c.line_count-sems.ensures ∙ ap (λ l. line_count [] 0 l) c.items.ensures in
    let msgqs = c.line_count-msgqs.ensures ∙ ap (λ l. line_count [] 0 l) c.items-2.ensures in
    let signals = c.line_count.ensures ∙ ap (λ l. line_count c.items-4.result.now 0 l) c.items-3.ensures ∙ ap (λ l. line_count l 0 c.args.trace.now.signals) c.items-4.ensures in
    omega arith

pub returns : goal.returns
returns c =
    let whole = length-waited c.args.trace.now in
    let sems = c.line_count-sems.ensures ∙ ap (λ l. line_count [] 0 l) c.items.ensures in
    let msgqs = c.line_count-msgqs.ensures ∙ ap (λ l. line_count [] 0 l) c.items-2.ensures in
    let signals = c.line_count.ensures ∙ ap (λ l. line_count c.items-4.result.now 0 l) c.items-3.ensures ∙ ap (λ l. line_count l 0 c.args.trace.now.signals) c.items-4.ensures in
    omega arith
