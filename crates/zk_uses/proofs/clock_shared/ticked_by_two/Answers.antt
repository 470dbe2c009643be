use Rattle.std.proofs.Common.{subst}
use Rattle.zk_model_wait.specs.Clock.{clock_machine}
use Rattle.zk_model_wait.specs.declared.clock.ClockOp.TheVariants.{Announce}
use Rattle.zk_turn.specs.Passes.{pass_seen}
use Rattle.zk_turn.specs.Players.{GoesOn}
use Rattle.zk_uses.proofs.Called.{made-first, made-second, called-on}
use Rattle.zk_uses.proofs.clock_shared.ticked_by_two.Goals as goal

pub returns-clause-first : goal.returns-clause-first
returns-clause-first g c =
    let one = c.join-one.ensures.first in
    let all = c.put_together.ensures in
    let goes = subst (λ ws. GoesOn ws (pass_seen c.join-one.result.0.0) (pass_seen c.put_together.result.0)) one.1.0 all.first in
    called-on clock_machine _ c.args.first.who (λ step. Announce 1) c.args.times c.join-one.result.0.1 c.put_together.result.1 _ _
    (made-first c.join-one.result.0.1 c.join-one.result.1.1 c.put_together.result.1 all.made) goes one.1.1.0

pub returns-clause-second : goal.returns-clause-second
returns-clause-second g c =
    let other = c.join-one.ensures.second in
    let all = c.put_together.ensures in
    let goes = subst (λ ws. GoesOn ws (pass_seen c.join-one.result.1.0) (pass_seen c.put_together.result.0)) other.1.0 all.second in
    called-on clock_machine _ c.args.second.who (λ step. Announce 1) c.args.times c.join-one.result.1.1 c.put_together.result.1 _ _
    (made-second c.join-one.result.0.1 c.join-one.result.1.1 c.put_together.result.1 all.made) goes other.1.1.0
