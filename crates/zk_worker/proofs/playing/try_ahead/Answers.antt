use Rattle.std.proofs.Common.{ℕ, length, refl, sym, ap, subst, arith, rules, ◌∙◌}
use Rattle.zk_base.specs.declared.ids.Who.{Who}
use Rattle.zk_worker.specs.Machines.{Machines}
use Rattle.zk_worker.specs.Protocol.{attempts, IsAhead}
use Rattle.zk_worker.specs.Shown.{IsLater}
use Rattle.zk_worker.proofs.Between.{between-none, between-both, log-still, log-later}
use Rattle.zk_worker.proofs.Trying.{attempted-some, attempted-none, attempted-err, tried-next, first-made, none-left, none-behind, tried-with, wanted-there}
use Rattle.zk_worker.proofs.Limits.{ahead_left, attempts-few}
use Rattle.zk_worker.proofs.playing.try_ahead.Goals as goal

pub loop-index-init : goal.loop-index-init
loop-index-init g c = record {
  machines = refl;
  serves = λ who. (λ served. served, λ served. served);
  alone = refl;
  home = refl;
  others = between-none (g.V.Services.alone c.args.services.now) c.args.player.now.who.number (g.V.Services.shown c.args.services.now);
  counts = λ step. omega arith;
  tried = λ k step below there. absurd (omega arith);
}

pub attempt-requires-clause-later : goal.attempt-requires-clause-later
attempt-requires-clause-later g c =
    let at = c.args.player.now in
    let old = g.V.Services.shown c.args.services.now in
    let now = g.V.Services.shown c.loop-index.services in
    let still = log-still (g.V.Services.alone c.args.services.now) at.who.number at.spots old now c.requires.log c.loop-index.invariant.others in
    subst (λ (n : ℕ). IsLater now c.who.result.number n) (sym c.steps.ensures.count)
    (subst (λ (who : Who). IsLater now who.number (length at.spots)) (sym c.who.ensures) (log-later at.who.number at.spots now still))

pub attempt-requires-clause-room : goal.attempt-requires-clause-room
attempt-requires-clause-room g c =
    let there : IsAhead c.args.scenario.now c.args.player.now c.in-Some.step = (c.loop-index.index, sym c.put_ahead.ensures ∙ c.in-Some.is) in
    let left = ahead_left c.args.scenario.now c.args.player.now c.in-Some.step there in
    let most = ap (λ (m : Machines). m.most) c.loop-index.invariant.machines in
    omega (arith, left, most, c.requires.room, c.steps.ensures.count)

pub returns-in-Some-2-clause-tried : goal.returns-in-Some-2-clause-tried
returns-in-Some-2-clause-tried g c =
    let was = c.loop-index.invariant in
    let ahead = attempts c.args.scenario.now c.args.player.now in
    let made = attempted-some _ _ _ _ _ _ _ _ c.in-Some.step _ _ _ c.in-Some-2.reply was.alone was.machines c.who.ensures c.steps.ensures.count
    c.in_ok-reply.ensures.attempted c.in-Some-2.is in
    tried-with _ _ _ _ ahead _ _ _ _ _ c.in-Some.step c.in-Some-2.reply c.in-Some.is
    (first-made _ _ _ _ ahead c.loop-index.index _ _ _ _ _ _ _ _ was.tried (sym c.put_ahead.ensures ∙ c.in-Some.is)
    was.others made c.attempt.ensures.counts)

pub returns-in_err-reply-clause-err : goal.returns-in_err-reply-clause-err
returns-in_err-reply-clause-err g c =
    let was = c.loop-index.invariant in
    let others = between-both _ _ _ _ _ was.others
    (attempted-err _ _ _ _ _ _ _ _ c.in-Some.step _ _ _ was.alone was.machines c.who.ensures c.steps.ensures.count c.in_err-reply.ensures.attempted) in
    search rules

pub returns-in_err-reply-clause-memory : goal.returns-in_err-reply-clause-memory
returns-in_err-reply-clause-memory g c =
    wanted-there g.V.Services.wants_none _ _ _ _ c.args.scenario.now c.args.player.now c.in-Some.step c.from_residual.result c.loop-index.index c.loop-index.invariant.machines c.who.ensures
    (sym c.put_ahead.ensures ∙ c.in-Some.is) c.in_err-reply.ensures.memory

pub loop-index-preserved : goal.loop-index-preserved
loop-index-preserved g c =
    let was = c.loop-index.invariant in
    let alone = g.V.Services.alone c.args.services.now in
    let ahead = attempts c.args.scenario.now c.args.player.now in
    let old = g.V.Services.shown c.args.services.now in
    let new = g.V.Services.shown c.attempt.new.self in
    let none = attempted-none _ _ _ _ _ _ _ _ c.in-Some.step _ _ _ was.alone was.machines c.who.ensures c.steps.ensures.count
    c.in_ok-reply.ensures.attempted c.in_default-2.is in
    record {
      machines = c.attempt.ensures.machines ∙ was.machines;
      serves = λ who. (λ served. (c.attempt.ensures.serves who).0 ((was.serves who).0 served), λ served. (was.serves who).1 ((c.attempt.ensures.serves who).1 served));
      alone = c.attempt.ensures.alone ∙ was.alone;
      home = c.attempt.ensures.home ∙ was.home;
      others = between-both alone c.args.player.now.who.number old _ new was.others none.0;
      counts = λ step. omega (arith, was.counts step, (c.attempt.ensures.counts step).0);
      tried = tried-next alone _ _ ahead c.loop-index.index _ old _ new _ _ _ was.tried (sym c.put_ahead.ensures ∙ c.in-Some.is)
          was.others none.0 none.1 (c.in_ok-reply.ensures.rose c.in_default-2.is) was.counts c.attempt.ensures.counts;
    }

pub returns-in_default-clause-tried : goal.returns-in_default-clause-tried
returns-in_default-clause-tried g c =
    let was = c.loop-index.invariant in
    let ahead = attempts c.args.scenario.now c.args.player.now in
    none-behind _ _ _ ahead c.loop-index.index _ _ _ _ was.tried (sym c.put_ahead.ensures ∙ c.in_default.is) was.others

pub returns-clause-tried : goal.returns-clause-tried
returns-clause-tried g c =
    let was = c.loop-index.invariant in
    let few = attempts-few c.args.scenario.now c.args.player.now in
    let end = c.loop-index.auto.index-end in
    none-left _ _ _ _ c.loop-index.index _ _ _ _ was.tried (omega (arith, few, end)) was.others
