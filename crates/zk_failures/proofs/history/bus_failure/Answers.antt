use Rattle.std.proofs.Common.{◌+◌, ◌∙◌, [], subst, ap, arith}
use Rattle.zk_services.specs.Alone.{plain_machines}
use Rattle.zk_failures.specs.Answering.{FirstAmong, line_count}
use Rattle.zk_failures.proofs.AmongObjects.{among-within}
use Rattle.zk_failures.proofs.PlayableTraces.{few-lines}
use Rattle.zk_failures.proofs.HistoryParts.{chans-first, observers-first}
use Rattle.zk_failures.proofs.history.bus_failure.Goals as goal

pub first_among-requires-clause-few : goal.first_among-requires-clause-few
first_among-requires-clause-few c =
    let few = (few-lines c.args.trace.now c.requires.playable.few).bus in
    let same = ap (λ l. line_count [] 0 l) c.items.ensures in
    omega arith

pub returns-in-Some-clause-found : goal.returns-in-Some-clause-found
returns-in-Some-clause-found c =
    let m = plain_machines c.args.services.now in
    let t = c.args.trace.now in
    let chans = subst (λ l. FirstAmong m.chans.machine [] 0 m.chans.starts l c.in_ok-row.field-0) c.items.ensures c.in_ok-row.ensures.found in
    chans-first m t c.in-Some.row (subst (FirstAmong m.chans.machine [] 0 m.chans.starts t.chans) c.in-Some.is chans)

pub line_count-lines-requires : goal.line_count-lines-requires
line_count-lines-requires c =
    let few = (few-lines c.args.trace.now c.requires.playable.few).bus in
    let same = ap (λ l. line_count [] 0 l) c.items-2.ensures in
    omega arith

pub first_among-requires-2-clause-few : goal.first_among-requires-2-clause-few
first_among-requires-2-clause-few c =
    let few = (few-lines c.args.trace.now c.requires.playable.few).bus in
    let same = ap (λ l. line_count [] 0 l) c.items-3.ensures in
    omega arith

pub overflow_add-result : goal.overflow_add-result
overflow_add-result c =
    let few = (few-lines c.args.trace.now c.requires.playable.few).bus in
    let m = plain_machines c.args.services.now in
    let t = c.args.trace.now in
    let chans = subst (λ l. FirstAmong m.chans.machine [] 0 m.chans.starts l c.in_ok-row.field-0) c.items.ensures c.in_ok-row.ensures.found in
    let held = c.line_count-lines.ensures ∙ ap (λ l. line_count [] 0 l) c.items-2.ensures in
    let observers = subst (λ l. FirstAmong m.observers.machine [] 0 m.observers.starts l c.in_ok-row-2.field-0) c.items-3.ensures c.in_ok-row-2.ensures.found in
    let within = among-within m.observers.machine [] 0 m.observers.starts t.observers c.in-Some-2.row
    (subst (FirstAmong m.observers.machine [] 0 m.observers.starts t.observers) c.in-Some-2.is observers) in
    omega arith

pub returns-in-Some-2-clause-found : goal.returns-in-Some-2-clause-found
returns-in-Some-2-clause-found c =
    let m = plain_machines c.args.services.now in
    let t = c.args.trace.now in
    let chans = subst (λ l. FirstAmong m.chans.machine [] 0 m.chans.starts l c.in_ok-row.field-0) c.items.ensures c.in_ok-row.ensures.found in
    let held = c.line_count-lines.ensures ∙ ap (λ l. line_count [] 0 l) c.items-2.ensures in
    let observers = subst (λ l. FirstAmong m.observers.machine [] 0 m.observers.starts l c.in_ok-row-2.field-0) c.items-3.ensures c.in_ok-row-2.ensures.found in
    observers-first m t (c.line_count-lines.result + c.in-Some-2.row) c.in-Some-2.row (subst (FirstAmong m.chans.machine [] 0 m.chans.starts t.chans) c.in_default.is chans) (omega arith)
    (subst (FirstAmong m.observers.machine [] 0 m.observers.starts t.observers) c.in-Some-2.is observers)
