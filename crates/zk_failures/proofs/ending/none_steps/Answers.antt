use Rattle.std.proofs.Common.{◌≡◌, ℕ, ◌∙◌, Some, length, refl, sym, subst, below_more, arith}
use Rattle.std.specs.List.{slice_get}
use Rattle.std.proofs.lemmas.Option.{same_Some, slice_get_read, slice_get_within}
use Rattle.zk_worker.specs.Places.{PlayerPlace}
use Rattle.zk_services.specs.Alone.{plain_machines, plain_shown}
use Rattle.zk_failures.specs.CanStep.{CanTry, IsHalted, Steps}
use Rattle.zk_failures.proofs.ending.none_steps.Goals as goal

pub can_step-requires-clause-can_try : goal.can_step-requires-clause-can_try
can_step-requires-clause-can_try c =
    let s = c.args.scenario.now in
    let m = plain_machines c.args.services.now in
    let shown = plain_shown c.args.services.now in
    let players = c.args.players.now in
    let was = c.loop-player.invariant in
    let index = c.loop-player.player-index in
    let at = c.player-item.result in
    let there = slice_get_read players (length players) index at refl c.loop-player-test.true c.player-item.is in
    subst (λ x. CanTry (plain_machines c.loop-player.services) s x at) (sym was.shown) (subst (λ n. CanTry n s shown at) (sym was.machines) (c.requires.can_try index at there))

pub returns-then-branch : goal.returns-then-branch
returns-then-branch c =
    let s = c.args.scenario.now in
    let m = plain_machines c.args.services.now in
    let shown = plain_shown c.args.services.now in
    let players = c.args.players.now in
    let was = c.loop-player.invariant in
    let index = c.loop-player.player-index in
    let at = c.player-item.result in
    let there = slice_get_read players (length players) index at refl c.loop-player-test.true c.player-item.is in
    let told = subst (λ x. Steps m s x at c.in_ok-can_step.field-0) was.shown (subst (λ n. Steps n s (plain_shown c.loop-player.services) at c.in_ok-can_step.field-0) was.machines
    c.in_ok-can_step.ensures.steps) in
    record { number = index; at = at; there = there; steps = subst (Steps m s shown at) c.if-branch.true told }

pub loop-player-preserved : goal.loop-player-preserved
loop-player-preserved c =
    let s = c.args.scenario.now in
    let m = plain_machines c.args.services.now in
    let shown = plain_shown c.args.services.now in
    let players = c.args.players.now in
    let was = c.loop-player.invariant in
    let index = c.loop-player.player-index in
    let at = c.player-item.result in
    let there = slice_get_read players (length players) index at refl c.loop-player-test.true c.player-item.is in
    let told = subst (λ x. Steps m s x at c.in_ok-can_step.field-0) was.shown (subst (λ n. Steps n s (plain_shown c.loop-player.services) at c.in_ok-can_step.field-0) was.machines
    c.in_ok-can_step.ensures.steps) in
    let halted = subst (Steps m s shown at) c.if-branch.false told in
    record {
      shown = c.in_ok-can_step.ensures.still c.if-branch.false ∙ was.shown;
      machines = c.can_step.ensures.machines ∙ was.machines;
      halted = λ number other below is.
          below_more (λ (n : ℕ). (other : PlayerPlace) → slice_get players n ≡ Some other → IsHalted m s shown other) index (λ n less other is. was.halted n other less is)
          (λ other is. subst (λ (x : PlayerPlace). IsHalted m s shown x) (same_Some at other (sym there ∙ is)) halted) number below other is;
    }

pub returns : goal.returns
returns c =
    let players = c.args.players.now in
    let over = c.loop-player-test.false in
    λ number at there. c.loop-player.invariant.halted number at (let less = slice_get_within players number at there in omega arith) there
