use Rattle.std.proofs.Common.{◌≡◌, ◌+◌, ◌∷◌, ◌++◌, [], List, length, length-append, arith, ap, sym, subst, ◌∙◌}
use Rattle.zk_worker.specs.declared.log.Log.{Log}
use Rattle.zk_worker.specs.Places.{PlayerPlace}
use Rattle.zk_failures.specs.LogFailure.{IsLed, IsAstray}
use Rattle.zk_failures.specs.Played.{EachPlayedOut, IsPlayedOut}
use Rattle.zk_failures.proofs.PlayedLogs.{logs-all, players-few, log-read, first-failure, row-found, row-missing, played-out, each-more, all-logged}
use Rattle.zk_failures.proofs.log.log_failure.Goals as goal

pub overflow_cast-number : goal.overflow_cast-number
overflow_cast-number c =
    let all = logs-all c.args.scenario.now c.args.trace.now c.requires.form in
    let few = players-few c.args.scenario.now c.decls-readable.ensures.valid in
    let logs = ap (λ (l : List Log). length l) c.items-log-items.ensures in
    let below = c.loop-place-test.true in
    omega (arith, all, few, logs, below)

pub new-requires : goal.new-requires
new-requires c =
    let all = logs-all c.args.scenario.now c.args.trace.now c.requires.form in
    let logs = ap (λ (l : List Log). length l) c.items-log-items.ensures in
    let below = c.loop-place-test.true in
    omega (arith, all, logs, below)

pub astray-requires : goal.astray-requires
astray-requires c = c.in_ok-player.ensures.fits.room

pub unreachable-requires : goal.unreachable-requires
unreachable-requires c =
    let s = c.args.scenario.now in
    let t = c.args.trace.now in
    let place = c.loop-place.place in
    let there = log-read t c.items-log-items.result.now place c.log-item.result c.items-log-items.ensures c.loop-place-test.true c.log-item.is in
    let stops : IsAstray s t place c.in-Some.step = rw c.in-Some.is at (c.in_ok-step.ensures place there c.in_ok-player.ensures.start) in
    row-missing s t c.args.rows.now place c.in-Some.step c.requires.form c.requires.placed c.requires.rows stops c.in_default-row_of.ensures.none

pub returns-in-Some : goal.returns-in-Some
returns-in-Some c =
    let s = c.args.scenario.now in
    let t = c.args.trace.now in
    let place = c.loop-place.place in
    let there = log-read t c.items-log-items.result.now place c.log-item.result c.items-log-items.ensures c.loop-place-test.true c.log-item.is in
    let stops : IsAstray s t place c.in-Some.step = rw c.in-Some.is at (c.in_ok-step.ensures place there c.in_ok-player.ensures.start) in
    first-failure s t c.loop-place.players.items place _ c.loop-place.invariant.count c.loop-place.invariant.each
    (c.in-Some.step, stops, row-found t c.args.rows.now place c.in-Some.step c.in-Some-row_of.row c.requires.rows c.in-Some-row_of.ensures.some)

pub returns-in-Some-other_end : goal.returns-in-Some-other_end
returns-in-Some-other_end c =
    let s = c.args.scenario.now in
    let t = c.args.trace.now in
    let place = c.loop-place.place in
    let log = c.log-item.result in
    let there = log-read t c.items-log-items.result.now place log c.items-log-items.ensures c.loop-place-test.true c.log-item.is in
    let led : IsLed s t place log (length log.steps) c.astray.new.player = rw c.in_default.is at (c.in_ok-step.ensures place there c.in_ok-player.ensures.start) in
    first-failure s t c.loop-place.players.items place c.in-Some-other_end.site c.loop-place.invariant.count c.loop-place.invariant.each
    (c.in-Some-other_end.ensures t led)

pub loop-place-preserved : goal.loop-place-preserved
loop-place-preserved c =
    let s = c.args.scenario.now in
    let t = c.args.trace.now in
    let place = c.loop-place.place in
    let log = c.log-item.result in
    let here = c.astray.new.player in
    let at : List PlayerPlace = c.loop-place.players.items in
    let there = log-read t c.items-log-items.result.now place log c.items-log-items.ensures c.loop-place-test.true c.log-item.is in
    let led : IsLed s t place log (length log.steps) here = rw c.in_default.is at (c.in_ok-step.ensures place there c.in_ok-player.ensures.start) in
    let is : IsPlayedOut s t (length at) here =
    subst (λ n. IsPlayedOut s t n here) (sym c.loop-place.invariant.count) (played-out s t place log here led (c.in_default-other_end.ensures t led)) in
    let grown : c.push.new.self.items ≡ at ++ here ∷ [] = c.in_ok-push.ensures.items in
    let long : length c.push.new.self.items ≡ length at + 1 = ap (λ (l : List PlayerPlace). length l) grown ∙ length-append at (here ∷ []) in
    let was = c.loop-place.invariant.count in
    record {
      count = omega (arith, long, was);
      each = subst (EachPlayedOut s t) (sym grown) (each-more s t at here c.loop-place.invariant.each is);
    }

pub returns : goal.returns
returns c =
    let s = c.args.scenario.now in
    let t = c.args.trace.now in
    let logs = ap (λ (l : List Log). length l) c.items-log-items.ensures in
    let past = c.loop-place-test.false in
    let end = c.loop-place.auto.place-end in
    let was = c.loop-place.invariant.count in
    let count : length c.loop-place.players.items ≡ length t.logs = omega (arith, logs, past, end, was) in
    (all-logged s t c.loop-place.players.items c.requires.form count c.loop-place.invariant.each, (count, c.loop-place.invariant.each))
