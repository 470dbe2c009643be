use Rattle.std.proofs.Common.{◌≡◌, ℕ, ◌∙◌, true, Some, None, length, refl, sym, ap, subst, below_more, arith}
use Rattle.std.specs.List.{slice_get}
use Rattle.std.proofs.lemmas.Option.{same_Some, slice_get_within}
use Rattle.zk_base.specs.declared.ids.Who.{Who}
use Rattle.zk_base.proofs.Lists.{none_from_is_some}
use Rattle.zk_worker.specs.declared.steps.Step.{Step}
use Rattle.zk_worker.specs.Attempt.{is_in_range, reply_in}
use Rattle.zk_worker.specs.Machines.{Machines}
use Rattle.zk_worker.specs.Protocol.{attempts}
use Rattle.zk_worker.specs.Shown.{IsLater, ShowsLog}
use Rattle.zk_worker.proofs.Between.{log-later}
use Rattle.zk_worker.proofs.Limits.{ahead_left, attempts-few}
use Rattle.zk_worker.proofs.Trying.{attempted-some, attempted-none}
use Rattle.zk_services.specs.Alone.{plain_machines, plain_shown}
use Rattle.zk_line.proofs.Makes.{is_some-some}
use Rattle.zk_failures.proofs.Endings.{possible-some, possible-none, below-end}
use Rattle.zk_failures.proofs.ending.can_step.Goals as goal

pub returns-in_default-clause-steps : goal.returns-in_default-clause-steps
returns-in_default-clause-steps c =
    let s = c.args.scenario.now in
    let at = c.args.player.now in
    let m = plain_machines c.args.services.now in
    let shown = plain_shown c.args.services.now in
    let ahead = attempts s at in
    let was = c.loop-index.invariant in
    let index = c.loop-index.index in
    let none = sym {b = slice_get ahead index} c.in_default.ensures in
    possible-none m shown at.who ahead (λ k step there. was.tried k step (below-end ahead index k step none there) there)

pub attempt-requires-clause-range : goal.attempt-requires-clause-range
attempt-requires-clause-range c =
    let s = c.args.scenario.now in
    let at = c.args.player.now in
    let m = plain_machines c.args.services.now in
    let shown = plain_shown c.args.services.now in
    let ahead = attempts s at in
    let was = c.loop-index.invariant in
    let index = c.loop-index.index in
    let now = plain_shown c.loop-index.services in
    let step = c.in-Some.step in
    let there = sym {b = slice_get ahead index} c.in-Some.ensures in
    subst (λ n. is_in_range n step ≡ true) (sym was.machines) (c.requires.can_try.range step (index, there))

pub attempt-requires-clause-room : goal.attempt-requires-clause-room
attempt-requires-clause-room c =
    let s = c.args.scenario.now in
    let at = c.args.player.now in
    let ahead = attempts s at in
    let was = c.loop-index.invariant in
    let index = c.loop-index.index in
    let there = sym {b = slice_get ahead index} c.in-Some.ensures in
    let left = ahead_left s at c.in-Some.step (index, there) in
    let count = c.steps.ensures.count in
    let most = ap (λ (m : Machines). m.most) was.machines ∙ c.requires.can_try.room in
    omega (arith, left, count, most)

pub attempt-requires-clause-later : goal.attempt-requires-clause-later
attempt-requires-clause-later c =
    let at = c.args.player.now in
    let now = plain_shown c.loop-index.services in
    let shows = subst (λ x. ShowsLog x at.who.number at.spots) (sym c.loop-index.invariant.shown) c.requires.can_try.log in
    subst (λ (n : ℕ). IsLater now c.who.result.number n) (sym c.steps.ensures.count)
    (subst (λ (who : Who). IsLater now who.number (length at.spots)) (sym c.who.ensures) (log-later at.who.number at.spots now shows))

pub returns-then-is_some-clause-steps : goal.returns-then-is_some-clause-steps
returns-then-is_some-clause-steps c =
    let s = c.args.scenario.now in
    let at = c.args.player.now in
    let m = plain_machines c.args.services.now in
    let shown = plain_shown c.args.services.now in
    let ahead = attempts s at in
    let was = c.loop-index.invariant in
    let index = c.loop-index.index in
    let now = plain_shown c.loop-index.services in
    let step = c.in-Some.step in
    let there = sym {b = slice_get ahead index} c.in-Some.ensures in
    let it = is_some-some c.in_ok-attempt.field-0 (sym c.is_some.ensures ∙ c.if-is_some.true) in
    let made = attempted-some true true m (plain_machines c.loop-index.services) at.who c.who.result (length at.spots) c.steps.result step now (plain_shown c.attempt.new.self)
    c.in_ok-attempt.field-0 it.0 refl was.machines c.who.ensures c.steps.ensures.count c.in_ok-attempt.ensures.attempted it.1 in
    λ halted. possible-some m shown at.who ahead index step it.0 there (subst (λ x. reply_in m x at.who step ≡ Some it.0) (made.since ∙ was.shown) made.replied) halted

pub loop-index-preserved : goal.loop-index-preserved
loop-index-preserved c =
    let s = c.args.scenario.now in
    let at = c.args.player.now in
    let m = plain_machines c.args.services.now in
    let shown = plain_shown c.args.services.now in
    let ahead = attempts s at in
    let was = c.loop-index.invariant in
    let index = c.loop-index.index in
    let now = plain_shown c.loop-index.services in
    let step = c.in-Some.step in
    let there = sym {b = slice_get ahead index} c.in-Some.ensures in
    let none = none_from_is_some c.in_ok-attempt.field-0 (sym c.is_some.ensures ∙ c.if-is_some.false) in
    let vain = attempted-none true true m (plain_machines c.loop-index.services) at.who c.who.result (length at.spots) c.steps.result step now (plain_shown c.attempt.new.self)
    c.in_ok-attempt.field-0 refl was.machines c.who.ensures c.steps.ensures.count c.in_ok-attempt.ensures.attempted none in
    let still = vain.0 ∙ was.shown in
    let impossible = subst (λ x. reply_in m x at.who step ≡ None) still vain.1 in
    record {
      shown = still;
      machines = c.attempt.ensures.machines ∙ was.machines;
      tried = λ k other below is.
          below_more (λ (n : ℕ). (other : Step) → slice_get ahead n ≡ Some other → reply_in m shown at.who other ≡ None) index (λ n less other is. was.tried n other less is)
          (λ other is. subst (λ (x : Step). reply_in m shown at.who x ≡ None) (same_Some step other (sym there ∙ is)) impossible) k below other is;
    }

pub returns-clause-steps : goal.returns-clause-steps
returns-clause-steps c =
    let s = c.args.scenario.now in
    let at = c.args.player.now in
    let m = plain_machines c.args.services.now in
    let shown = plain_shown c.args.services.now in
    let ahead = attempts s at in
    let was = c.loop-index.invariant in
    let index = c.loop-index.index in
    let few = attempts-few s at in
    let end = c.loop-index.auto.index-end in
    let over = c.loop-index-test.false in
    possible-none m shown at.who ahead (λ k step there. was.tried k step (let less = slice_get_within ahead k step there in omega arith) there)
