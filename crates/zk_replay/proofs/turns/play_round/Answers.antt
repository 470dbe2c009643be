use Rattle.std.proofs.Common.{◌+◌, ◌-◌, ◌||◌, Bool, ◌∙◌, suc, sym, subst, vec_len, arith}
use Rattle.zk_worker.specs.Machines.{machines_of}
use Rattle.zk_world.specs.World.{world}
use Rattle.zk_replay.specs.Turning.{WithinRound}
use Rattle.zk_replay.proofs.Asleep.{within-asleep}
use Rattle.zk_replay.proofs.Rounds.{within-left, within-spent, within-next}
use Rattle.zk_replay.proofs.turns.play_round.Goals as goal

pub asleep_from-asleep-requires : goal.asleep_from-asleep-requires
asleep_from-asleep-requires g c = omega (arith, c.loop-number.invariant.within.ready.few, c.loop-number-test.true, c.len.ensures)

pub loop-number-preserved-then-asleep-gt0 : goal.loop-number-preserved-then-asleep-gt0
loop-number-preserved-then-asleep-gt0 g c =
    let s = c.args.scenario.now in
    let m = machines_of s in
    let p = c.loop-number.number in
    let k = c.asleep_from-asleep.result in
    let old = world (g.V.Services.shown c.args.services.now) c.args.players.now.items in
    let shown = g.V.Services.shown c.loop-number.services in
    let players = c.loop-number.players in
    let n = vec_len players - p in
    record {
      alone = c.loop-number.invariant.alone;
      places = c.loop-number.invariant.places;
      kept = c.loop-number.invariant.kept;
      asleep = c.loop-number.invariant.asleep;
      within = within-left m s old (world shown players.items) c.loop-number.moved (n - k) (vec_len players - (p + k)) (p + k) (omega arith)
          (within-asleep s old shown players.items c.loop-number.sleepers c.loop-number.moved n k p c.loop-number.invariant.asleep
          c.asleep_from-asleep.ensures.all c.loop-number.invariant.within);
    }

pub returns-then-has_spent-clause-rounded : goal.returns-then-has_spent-clause-rounded
returns-then-has_spent-clause-rounded g c =
    let s = c.args.scenario.now in
    let m = machines_of s in
    let p = c.loop-number.number in
    let old = world (g.V.Services.shown c.args.services.now) c.args.players.now.items in
    let now = world (g.V.Services.shown c.loop-number.services) c.loop-number.players.items in
    let new = world (g.V.Services.shown c.take_turn.new.services) c.take_turn.new.players.items in
    let n = vec_len c.loop-number.players - (p + 1) in
    within-spent m s old now new c.loop-number.moved n p c.in_ok-turn.turn
    (within-left m s old now c.loop-number.moved (vec_len c.loop-number.players - p) (suc n) p (omega (arith, c.loop-number-test.true, c.len.ensures)) c.loop-number.invariant.within)
    c.in_ok-turn.ensures.turned
    (sym c.has_spent.ensures ∙ c.if-has_spent.true)

pub loop-number-preserved : goal.loop-number-preserved
loop-number-preserved g c =
    let s = c.args.scenario.now in
    let m = machines_of s in
    let p = c.loop-number.number in
    let old = world (g.V.Services.shown c.args.services.now) c.args.players.now.items in
    let now = world (g.V.Services.shown c.loop-number.services) c.loop-number.players.items in
    let new = world (g.V.Services.shown c.take_turn.new.services) c.take_turn.new.players.items in
    let n = vec_len c.loop-number.players - (p + 1) in
    let next = within-next m s old now new c.loop-number.moved n p c.in_ok-turn.turn
    (within-left m s old now c.loop-number.moved (vec_len c.loop-number.players - p) (suc n) p (omega (arith, c.loop-number-test.true, c.len.ensures)) c.loop-number.invariant.within)
    c.in_ok-turn.ensures.turned
    (sym c.has_spent.ensures ∙ c.if-has_spent.false) in
    record {
      alone = c.take_turn.ensures.alone;
      places = c.take_turn.ensures.places ∙ c.loop-number.invariant.places ∙ sym c.take_turn.ensures.players;
      kept = c.in_ok-turn.ensures.kept;
      asleep = c.in_ok-turn.ensures.asleep;
      within = within-left m s old new _ n (vec_len c.take_turn.new.players - (p + 1)) (p + 1) (omega (arith, c.take_turn.ensures.players))
          (subst (λ (b : Bool). WithinRound m s old new (c.loop-number.moved || b) n (p + 1)) (sym c.has_moved.ensures) next);
    }
