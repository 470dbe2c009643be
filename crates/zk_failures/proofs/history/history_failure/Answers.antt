use Rattle.std.proofs.Common.{◌≡◌, ◌+◌, ◌∙◌, [], All, sym, subst, ap, arith}
use Rattle.zk_services.specs.Alone.{plain_machines, plain_shown}
use Rattle.zk_trace.specs.Stood.{stood}
use Rattle.zk_failures.specs.Answering.{IsFoundAt, Sought, single_lines, waited_lines, bus_lines, SinglesStand, WaitedStand, BusStands}
use Rattle.zk_failures.specs.HistoryFailure.{IsUnlikeIn}
use Rattle.zk_failures.specs.Playable.{ArePlayable}
use Rattle.zk_failures.proofs.PlacedFew.{placed-short, rows-short}
use Rattle.zk_failures.proofs.PlayableTraces.{playable, few-lines}
use Rattle.zk_failures.proofs.UnlikeLines.{found-within}
use Rattle.zk_failures.proofs.HistoryParts.{single-first, waited-first, bus-first, none-entries, shown-all, unanswered-first, all-answered}
use Rattle.zk_failures.proofs.history.history_failure.Goals as goal

pub single_failure-requires-clause-playable : goal.single_failure-requires-clause-playable
single_failure-requires-clause-playable c =
    let s = c.args.scenario.now in
    let t = c.args.trace.now in
    let valid = c.decls-valid.ensures.valid in
    let few = rows-short s t c.requires.form c.requires.placed valid in
    let all = playable s t c.requires.form c.requires.placed.rises (placed-short s t valid c.requires.form c.requires.placed) few in
    subst (λ m. ArePlayable m t) (sym c.requires.machines) all

pub returns-in-Some : goal.returns-in-Some
returns-in-Some c =
    let s = c.args.scenario.now in
    let t = c.args.trace.now in
    let m = plain_machines c.args.services.now in
    let row = c.in-Some.row in
    let found = subst (Sought (SinglesStand m t) (IsUnlikeIn m t) (single_lines t)) c.in-Some.is c.in_ok-row.ensures.found in
    record { found = unanswered-first s t row (subst (λ n. IsFoundAt (IsUnlikeIn n t) (stood t) row) c.requires.machines (single-first m t row found)) }

pub single_count-lines-requires : goal.single_count-lines-requires
single_count-lines-requires c =
    let s = c.args.scenario.now in
    let t = c.args.trace.now in
    let valid = c.decls-valid.ensures.valid in
    let few = rows-short s t c.requires.form c.requires.placed valid in
    let lines = few-lines t few in
    let most = lines.single in
    omega arith

pub waited_failure-requires-clause-playable : goal.waited_failure-requires-clause-playable
waited_failure-requires-clause-playable c =
    let s = c.args.scenario.now in
    let t = c.args.trace.now in
    let valid = c.decls-valid.ensures.valid in
    let few = rows-short s t c.requires.form c.requires.placed valid in
    let all = playable s t c.requires.form c.requires.placed.rises (placed-short s t valid c.requires.form c.requires.placed) few in
    subst (λ m. ArePlayable m t) (sym (c.single_failure.ensures.machines ∙ c.requires.machines)) all

pub waited_failure-requires-clause-sems : goal.waited_failure-requires-clause-sems
waited_failure-requires-clause-sems c =
    subst (All (λ h. h ≡ [])) (sym (ap (λ x. x.sems) (c.in_ok-row.ensures.shown c.in_default.is) ∙ ap (λ x. x.sems) c.requires.fresh)) (none-entries c.args.scenario.now.decls)

pub waited_failure-requires-clause-msgqs : goal.waited_failure-requires-clause-msgqs
waited_failure-requires-clause-msgqs c =
    subst (All (λ h. h ≡ [])) (sym (ap (λ x. x.msgqs) (c.in_ok-row.ensures.shown c.in_default.is) ∙ ap (λ x. x.msgqs) c.requires.fresh)) (none-entries c.args.scenario.now.decls)

pub waited_failure-requires-clause-signals : goal.waited_failure-requires-clause-signals
waited_failure-requires-clause-signals c =
    subst (All (λ h. h ≡ [])) (sym (ap (λ x. x.signals) (c.in_ok-row.ensures.shown c.in_default.is) ∙ ap (λ x. x.signals) c.requires.fresh)) (none-entries c.args.scenario.now.decls)

pub overflow_add-result : goal.overflow_add-result
overflow_add-result c =
    let s = c.args.scenario.now in
    let t = c.args.trace.now in
    let valid = c.decls-valid.ensures.valid in
    let few = rows-short s t c.requires.form c.requires.placed valid in
    let lines = few-lines t few in
    let mid = plain_machines c.single_failure.new.services in
    let found = subst (λ n. IsFoundAt (IsUnlikeIn n t) (waited_lines t) c.in-Some-2.row) c.single_failure.ensures.machines
    (subst (Sought (WaitedStand mid t) (IsUnlikeIn mid t) (waited_lines t)) c.in-Some-2.is c.in_ok-row-2.ensures.found) in
    let within = found-within (IsUnlikeIn (plain_machines c.args.services.now) t) (waited_lines t) c.in-Some-2.row found in
    let most = lines.single in
    let count = c.single_count-lines.ensures in
    omega arith

pub returns-in-Some-2 : goal.returns-in-Some-2
returns-in-Some-2 c =
    let s = c.args.scenario.now in
    let t = c.args.trace.now in
    let m = plain_machines c.args.services.now in
    let single = subst (Sought (SinglesStand m t) (IsUnlikeIn m t) (single_lines t)) c.in_default.is c.in_ok-row.ensures.found in
    let mid = plain_machines c.single_failure.new.services in
    let found = subst (λ n. IsFoundAt (IsUnlikeIn n t) (waited_lines t) c.in-Some-2.row) c.single_failure.ensures.machines
    (subst (Sought (WaitedStand mid t) (IsUnlikeIn mid t) (waited_lines t)) c.in-Some-2.is c.in_ok-row-2.ensures.found) in
    let row = c.single_count-lines.result + c.in-Some-2.row in
    let count = c.single_count-lines.ensures in
    let whole = waited-first m t row c.in-Some-2.row single (omega arith) found in
    record { found = unanswered-first s t row (subst (λ n. IsFoundAt (IsUnlikeIn n t) (stood t) row) c.requires.machines whole) }

pub waited_count-requires : goal.waited_count-requires
waited_count-requires c =
    let s = c.args.scenario.now in
    let t = c.args.trace.now in
    let valid = c.decls-valid.ensures.valid in
    let few = rows-short s t c.requires.form c.requires.placed valid in
    let lines = few-lines t few in
    let most = lines.single in
    omega arith

pub overflow_add-lines : goal.overflow_add-lines
overflow_add-lines c =
    let s = c.args.scenario.now in
    let t = c.args.trace.now in
    let valid = c.decls-valid.ensures.valid in
    let few = rows-short s t c.requires.form c.requires.placed valid in
    let lines = few-lines t few in
    let most = lines.single in
    let count = c.single_count-lines.ensures in
    let waited = c.waited_count.ensures in
    omega arith

pub bus_failure-requires-clause-playable : goal.bus_failure-requires-clause-playable
bus_failure-requires-clause-playable c =
    let s = c.args.scenario.now in
    let t = c.args.trace.now in
    let valid = c.decls-valid.ensures.valid in
    let few = rows-short s t c.requires.form c.requires.placed valid in
    let all = playable s t c.requires.form c.requires.placed.rises (placed-short s t valid c.requires.form c.requires.placed) few in
    subst (λ m. ArePlayable m t) (sym (c.waited_failure.ensures.machines ∙ c.single_failure.ensures.machines ∙ c.requires.machines)) all

pub bus_failure-requires-clause-chans : goal.bus_failure-requires-clause-chans
bus_failure-requires-clause-chans c =
    subst (All (λ h. h ≡ [])) (sym (ap (λ x. x.chans) (c.in_ok-row-2.ensures.shown c.in_default-2.is) ∙ ap (λ x. x.chans) (c.in_ok-row.ensures.shown c.in_default.is)
    ∙ ap (λ x. x.chans) c.requires.fresh)) (none-entries c.args.scenario.now.decls)

pub bus_failure-requires-clause-observers : goal.bus_failure-requires-clause-observers
bus_failure-requires-clause-observers c =
    subst (All (λ h. h ≡ [])) (sym (ap (λ x. x.observers) (c.in_ok-row-2.ensures.shown c.in_default-2.is) ∙ ap (λ x. x.observers) (c.in_ok-row.ensures.shown c.in_default.is)
    ∙ ap (λ x. x.observers) c.requires.fresh)) (none-entries c.args.scenario.now.decls)

pub overflow_add-result-in-Some-3 : goal.overflow_add-result-in-Some-3
overflow_add-result-in-Some-3 c =
    let s = c.args.scenario.now in
    let t = c.args.trace.now in
    let valid = c.decls-valid.ensures.valid in
    let few = rows-short s t c.requires.form c.requires.placed valid in
    let lines = few-lines t few in
    let last = plain_machines c.waited_failure.new.services in
    let same = c.waited_failure.ensures.machines ∙ c.single_failure.ensures.machines in
    let found = subst (λ n. IsFoundAt (IsUnlikeIn n t) (bus_lines t) c.in-Some-3.row) same
    (subst (Sought (BusStands last t) (IsUnlikeIn last t) (bus_lines t)) c.in-Some-3.is c.in_ok-row-3.ensures.found) in
    let within = found-within (IsUnlikeIn (plain_machines c.args.services.now) t) (bus_lines t) c.in-Some-3.row found in
    let most = lines.single in
    let count = c.single_count-lines.ensures in
    let waited = c.waited_count.ensures in
    omega arith

pub returns-in-Some-3 : goal.returns-in-Some-3
returns-in-Some-3 c =
    let s = c.args.scenario.now in
    let t = c.args.trace.now in
    let m = plain_machines c.args.services.now in
    let single = subst (Sought (SinglesStand m t) (IsUnlikeIn m t) (single_lines t)) c.in_default.is c.in_ok-row.ensures.found in
    let mid = plain_machines c.single_failure.new.services in
    let waits = subst (λ n. WaitedStand n t) c.single_failure.ensures.machines (subst (Sought (WaitedStand mid t) (IsUnlikeIn mid t) (waited_lines t)) c.in_default-2.is c.in_ok-row-2.ensures.found) in
    let last = plain_machines c.waited_failure.new.services in
    let same = c.waited_failure.ensures.machines ∙ c.single_failure.ensures.machines in
    let found = subst (λ n. IsFoundAt (IsUnlikeIn n t) (bus_lines t) c.in-Some-3.row) same
    (subst (Sought (BusStands last t) (IsUnlikeIn last t) (bus_lines t)) c.in-Some-3.is c.in_ok-row-3.ensures.found) in
    let row = c.single_count-lines.result + c.waited_count.result + c.in-Some-3.row in
    let count = c.single_count-lines.ensures in
    let waited = c.waited_count.ensures in
    let whole = bus-first m t row c.in-Some-3.row single waits (omega arith) found in
    record { found = unanswered-first s t row (subst (λ n. IsFoundAt (IsUnlikeIn n t) (stood t) row) c.requires.machines whole) }

pub returns-in-None : goal.returns-in-None
returns-in-None c =
    let s = c.args.scenario.now in
    let t = c.args.trace.now in
    let valid = c.decls-valid.ensures.valid in
    let few = rows-short s t c.requires.form c.requires.placed valid in
    let all = playable s t c.requires.form c.requires.placed.rises (placed-short s t valid c.requires.form c.requires.placed) few in
    let m = plain_machines c.args.services.now in
    let single = subst (Sought (SinglesStand m t) (IsUnlikeIn m t) (single_lines t)) c.in_default.is c.in_ok-row.ensures.found in
    let mid = plain_machines c.single_failure.new.services in
    let waits = subst (λ n. WaitedStand n t) c.single_failure.ensures.machines (subst (Sought (WaitedStand mid t) (IsUnlikeIn mid t) (waited_lines t)) c.in_default-2.is c.in_ok-row-2.ensures.found) in
    let last = plain_machines c.waited_failure.new.services in
    let rest = subst (λ n. BusStands n t) (c.waited_failure.ensures.machines ∙ c.single_failure.ensures.machines)
    (subst (Sought (BusStands last t) (IsUnlikeIn last t) (bus_lines t)) c.in-None.is c.in_ok-row-3.ensures.found) in
    record {
      found = (
        all-answered s t all (subst (λ n. SinglesStand n t) c.requires.machines single) (subst (λ n. WaitedStand n t) c.requires.machines waits)
            (subst (λ n. BusStands n t) c.requires.machines rest),
        shown-all s.decls t (plain_shown c.args.services.now) (plain_shown c.single_failure.new.services) (plain_shown c.waited_failure.new.services)
            (plain_shown c.bus_failure.new.services) c.requires.fresh (c.in_ok-row.ensures.shown c.in_default.is) (c.in_ok-row-2.ensures.shown c.in_default-2.is)
            (c.in_ok-row-3.ensures.shown c.in-None.is),
        c.bus_failure.ensures.machines ∙ c.waited_failure.ensures.machines ∙ c.single_failure.ensures.machines ∙ c.requires.machines,
      );
    }
