use Rattle.std.proofs.Common.{◌+◌, ◌∙◌, [], subst, ap, arith}
use Rattle.zk_services.specs.Alone.{plain_machines}
use Rattle.zk_failures.specs.Answering.{FirstAmong, line_count}
use Rattle.zk_failures.proofs.AmongObjects.{among-within}
use Rattle.zk_failures.proofs.PlayableTraces.{few-lines}
use Rattle.zk_failures.proofs.HistoryParts.{sems-first, msgqs-first, signals-first}
use Rattle.zk_failures.proofs.history.waited_failure.Goals as goal

pub first_among-requires-clause-few : goal.first_among-requires-clause-few
first_among-requires-clause-few c =
    let few = (few-lines c.args.trace.now c.requires.playable.few).waited in
    let same = ap (λ l. line_count [] 0 l) c.items.ensures in
    omega arith

pub returns-in-Some-clause-found : goal.returns-in-Some-clause-found
returns-in-Some-clause-found c =
    let m = plain_machines c.args.services.now in
    let t = c.args.trace.now in
    let sems = subst (λ l. FirstAmong m.sems.machine [] 0 m.sems.starts l c.in_ok-row.field-0) c.items.ensures c.in_ok-row.ensures.found in
    sems-first m t c.in-Some.row (subst (FirstAmong m.sems.machine [] 0 m.sems.starts t.sems) c.in-Some.is sems)

pub line_count-lines-requires : goal.line_count-lines-requires
line_count-lines-requires c =
    let few = (few-lines c.args.trace.now c.requires.playable.few).waited in
    let same = ap (λ l. line_count [] 0 l) c.items-2.ensures in
    omega arith

pub first_among-requires-2-clause-few : goal.first_among-requires-2-clause-few
first_among-requires-2-clause-few c =
    let few = (few-lines c.args.trace.now c.requires.playable.few).waited in
    let same = ap (λ l. line_count [] 0 l) c.items-3.ensures in
    omega arith

pub overflow_add-result : goal.overflow_add-result
overflow_add-result c =
    let few = (few-lines c.args.trace.now c.requires.playable.few).waited in
    let m = plain_machines c.args.services.now in
    let t = c.args.trace.now in
    let sems = subst (λ l. FirstAmong m.sems.machine [] 0 m.sems.starts l c.in_ok-row.field-0) c.items.ensures c.in_ok-row.ensures.found in
    let held = c.line_count-lines.ensures ∙ ap (λ l. line_count [] 0 l) c.items-2.ensures in
    let msgqs = subst (λ l. FirstAmong m.msgqs.machine [] 0 m.msgqs.starts l c.in_ok-row-2.field-0) c.items-3.ensures c.in_ok-row-2.ensures.found in
    let within = among-within m.msgqs.machine [] 0 m.msgqs.starts t.msgqs c.in-Some-2.row (subst (FirstAmong m.msgqs.machine [] 0 m.msgqs.starts t.msgqs) c.in-Some-2.is msgqs) in
    omega arith

pub returns-in-Some-2-clause-found : goal.returns-in-Some-2-clause-found
returns-in-Some-2-clause-found c =
    let m = plain_machines c.args.services.now in
    let t = c.args.trace.now in
    let sems = subst (λ l. FirstAmong m.sems.machine [] 0 m.sems.starts l c.in_ok-row.field-0) c.items.ensures c.in_ok-row.ensures.found in
    let held = c.line_count-lines.ensures ∙ ap (λ l. line_count [] 0 l) c.items-2.ensures in
    let msgqs = subst (λ l. FirstAmong m.msgqs.machine [] 0 m.msgqs.starts l c.in_ok-row-2.field-0) c.items-3.ensures c.in_ok-row-2.ensures.found in
    msgqs-first m t (c.line_count-lines.result + c.in-Some-2.row) c.in-Some-2.row (subst (FirstAmong m.sems.machine [] 0 m.sems.starts t.sems) c.in_default.is sems) (omega arith)
    (subst (FirstAmong m.msgqs.machine [] 0 m.msgqs.starts t.msgqs) c.in-Some-2.is msgqs)

pub line_count-requires : goal.line_count-requires
line_count-requires c =
    let few = (few-lines c.args.trace.now c.requires.playable.few).waited in
    let same = ap (λ l. line_count [] 0 l) c.items-4.ensures in
    omega arith

pub overflow_add-lines : goal.overflow_add-lines
overflow_add-lines c =
    let few = (few-lines c.args.trace.now c.requires.playable.few).waited in
    let held = c.line_count-lines.ensures ∙ ap (λ l. line_count [] 0 l) c.items-2.ensures in
    let queued = c.line_count.ensures ∙ ap (λ l. line_count [] 0 l) c.items-4.ensures in
    omega arith

pub first_among-requires-3-clause-few : goal.first_among-requires-3-clause-few
first_among-requires-3-clause-few c =
    let few = (few-lines c.args.trace.now c.requires.playable.few).waited in
    let same = ap (λ l. line_count c.items-looks.result.now 0 l) c.items-5.ensures ∙ ap (λ l. line_count l 0 c.args.trace.now.signals) c.items-looks.ensures in
    omega arith

pub overflow_add-result-in-Some-3 : goal.overflow_add-result-in-Some-3
overflow_add-result-in-Some-3 c =
    let few = (few-lines c.args.trace.now c.requires.playable.few).waited in
    let m = plain_machines c.args.services.now in
    let t = c.args.trace.now in
    let sems = subst (λ l. FirstAmong m.sems.machine [] 0 m.sems.starts l c.in_ok-row.field-0) c.items.ensures c.in_ok-row.ensures.found in
    let held = c.line_count-lines.ensures ∙ ap (λ l. line_count [] 0 l) c.items-2.ensures in
    let msgqs = subst (λ l. FirstAmong m.msgqs.machine [] 0 m.msgqs.starts l c.in_ok-row-2.field-0) c.items-3.ensures c.in_ok-row-2.ensures.found in
    let queued = c.line_count.ensures ∙ ap (λ l. line_count [] 0 l) c.items-4.ensures in
    let signals = subst (λ l. FirstAmong m.signals.machine l 0 m.signals.starts t.signals c.in_ok-row-3.field-0) c.items-looks.ensures
    (subst (λ l. FirstAmong m.signals.machine c.items-looks.result.now 0 m.signals.starts l c.in_ok-row-3.field-0) c.items-5.ensures c.in_ok-row-3.ensures.found) in
    let within = among-within m.signals.machine t.looks.signals 0 m.signals.starts t.signals c.in-Some-3.row
    (subst (FirstAmong m.signals.machine t.looks.signals 0 m.signals.starts t.signals) c.in-Some-3.is signals) in
    omega arith

pub returns-in-Some-3-clause-found : goal.returns-in-Some-3-clause-found
returns-in-Some-3-clause-found c =
    let m = plain_machines c.args.services.now in
    let t = c.args.trace.now in
    let sems = subst (λ l. FirstAmong m.sems.machine [] 0 m.sems.starts l c.in_ok-row.field-0) c.items.ensures c.in_ok-row.ensures.found in
    let held = c.line_count-lines.ensures ∙ ap (λ l. line_count [] 0 l) c.items-2.ensures in
    let msgqs = subst (λ l. FirstAmong m.msgqs.machine [] 0 m.msgqs.starts l c.in_ok-row-2.field-0) c.items-3.ensures c.in_ok-row-2.ensures.found in
    let queued = c.line_count.ensures ∙ ap (λ l. line_count [] 0 l) c.items-4.ensures in
    let signals = subst (λ l. FirstAmong m.signals.machine l 0 m.signals.starts t.signals c.in_ok-row-3.field-0) c.items-looks.ensures
    (subst (λ l. FirstAmong m.signals.machine c.items-looks.result.now 0 m.signals.starts l c.in_ok-row-3.field-0) c.items-5.ensures c.in_ok-row-3.ensures.found) in
    signals-first m t (c.line_count-lines.result + c.line_count.result + c.in-Some-3.row) c.in-Some-3.row (subst (FirstAmong m.sems.machine [] 0 m.sems.starts t.sems) c.in_default.is sems)
    (subst (FirstAmong m.msgqs.machine [] 0 m.msgqs.starts t.msgqs) c.in_default-2.is msgqs) (omega arith)
    (subst (FirstAmong m.signals.machine t.looks.signals 0 m.signals.starts t.signals) c.in-Some-3.is signals)
