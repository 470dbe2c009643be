use Rattle.std.proofs.Common.{◌+◌, length, subst, ap, arith}
use Rattle.std.proofs.lemmas.Option.{slice_get_within}
use Rattle.zk_services.specs.Alone.{plain_machines}
use Rattle.zk_failures.specs.Answering.{FirstUnlike}
use Rattle.zk_failures.proofs.PlayableTraces.{few-lines}
use Rattle.zk_failures.proofs.HistoryParts.{work-first, clock-first, table-first}
use Rattle.zk_failures.proofs.history.single_failure.Goals as goal

pub returns-in-Some-clause-found : goal.returns-in-Some-clause-found
returns-in-Some-clause-found c =
    let m = plain_machines c.args.services.now in
    let t = c.args.trace.now in
    let work = subst (λ l. FirstUnlike m.work m.work_start l c.in_ok-place.field-0) c.items.ensures c.in_ok-place.ensures.found in
    work-first m t c.in-Some.place (subst (FirstUnlike m.work m.work_start t.work) c.in-Some.is work)

pub overflow_add-result : goal.overflow_add-result
overflow_add-result c =
    let m = plain_machines c.args.services.now in
    let t = c.args.trace.now in
    let work = subst (λ l. FirstUnlike m.work m.work_start l c.in_ok-place.field-0) c.items.ensures c.in_ok-place.ensures.found in
    let worked = ap (λ l. length l) c.items-2.ensures in
    let looked = ap (λ l. length l) c.items-3.ensures in
    let clock = subst (λ l. FirstUnlike m.clock m.clock_start l c.in_ok-place-2.field-0) c.items-4.ensures c.in_ok-place-2.ensures.found in
    let first = subst (FirstUnlike m.clock m.clock_start t.clock) c.in-Some-2.is clock in
    let within = slice_get_within t.clock c.in-Some-2.place first.fails.e first.fails.there in
    let few = (few-lines t c.requires.playable.few).histories in
    omega arith

pub returns-in-Some-2-clause-found : goal.returns-in-Some-2-clause-found
returns-in-Some-2-clause-found c =
    let m = plain_machines c.args.services.now in
    let t = c.args.trace.now in
    let work = subst (λ l. FirstUnlike m.work m.work_start l c.in_ok-place.field-0) c.items.ensures c.in_ok-place.ensures.found in
    let worked = ap (λ l. length l) c.items-2.ensures in
    let looked = ap (λ l. length l) c.items-3.ensures in
    let clock = subst (λ l. FirstUnlike m.clock m.clock_start l c.in_ok-place-2.field-0) c.items-4.ensures c.in_ok-place-2.ensures.found in
    clock-first m t (length c.items-2.result.now + length c.items-3.result.now + c.in-Some-2.place) c.in-Some-2.place (subst (FirstUnlike m.work m.work_start t.work) c.in_default.is work) (omega arith)
    (subst (FirstUnlike m.clock m.clock_start t.clock) c.in-Some-2.is clock)

pub overflow_add-result-in-Some-3 : goal.overflow_add-result-in-Some-3
overflow_add-result-in-Some-3 c =
    let m = plain_machines c.args.services.now in
    let t = c.args.trace.now in
    let work = subst (λ l. FirstUnlike m.work m.work_start l c.in_ok-place.field-0) c.items.ensures c.in_ok-place.ensures.found in
    let worked = ap (λ l. length l) c.items-2.ensures in
    let looked = ap (λ l. length l) c.items-3.ensures in
    let clock = subst (λ l. FirstUnlike m.clock m.clock_start l c.in_ok-place-2.field-0) c.items-4.ensures c.in_ok-place-2.ensures.found in
    let ticked = ap (λ l. length l) c.items-5.ensures in
    let table = subst (λ l. FirstUnlike m.table m.table_start l c.in_ok-place-3.field-0) c.items-6.ensures c.in_ok-place-3.ensures.found in
    let first = subst (FirstUnlike m.table m.table_start t.table) c.in-Some-3.is table in
    let within = slice_get_within t.table c.in-Some-3.place first.fails.e first.fails.there in
    let few = (few-lines t c.requires.playable.few).histories in
    omega arith

pub returns-in-Some-3-clause-found : goal.returns-in-Some-3-clause-found
returns-in-Some-3-clause-found c =
    let m = plain_machines c.args.services.now in
    let t = c.args.trace.now in
    let work = subst (λ l. FirstUnlike m.work m.work_start l c.in_ok-place.field-0) c.items.ensures c.in_ok-place.ensures.found in
    let worked = ap (λ l. length l) c.items-2.ensures in
    let looked = ap (λ l. length l) c.items-3.ensures in
    let clock = subst (λ l. FirstUnlike m.clock m.clock_start l c.in_ok-place-2.field-0) c.items-4.ensures c.in_ok-place-2.ensures.found in
    let ticked = ap (λ l. length l) c.items-5.ensures in
    let table = subst (λ l. FirstUnlike m.table m.table_start l c.in_ok-place-3.field-0) c.items-6.ensures c.in_ok-place-3.ensures.found in
    table-first m t (length c.items-2.result.now + length c.items-3.result.now + length c.items-5.result.now + c.in-Some-3.place) c.in-Some-3.place
    (subst (FirstUnlike m.work m.work_start t.work) c.in_default.is work) (subst (FirstUnlike m.clock m.clock_start t.clock) c.in_default-2.is clock) (omega arith)
    (subst (FirstUnlike m.table m.table_start t.table) c.in-Some-3.is table)
