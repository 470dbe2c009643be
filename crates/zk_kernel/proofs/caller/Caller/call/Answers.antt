use Rattle.std.proofs.Common.{refl, subst, ◌∙◌}
use Rattle.zk_worker.specs.Follows.{is_dead}
use Rattle.zk_kernel.specs.Calling.{moment_of}
use Rattle.zk_kernel.specs.Within.{GoesOrGives}
use Rattle.zk_kernel.proofs.UnderWay.{begun, still-open, lives-both}
use Rattle.zk_kernel.proofs.caller.Caller.call.Goals as goal

pub loop-init : goal.loop-init
loop-init g c =
    let at = c.args.self.now in
    let both = lives-both at.stopped (is_dead at.player.mode) c.requires.lives in
    (tt, tt, c.requires.own, begun c.args.kernel.now c.args.call.now (moment_of at) c.requires.next both.1, both.0, refl, c.depth-depth.ensures.count)

pub go_on-requires-clause-own : goal.go_on-requires-clause-own
go_on-requires-clause-own g c = c.loop.invariant.2

pub go_on-requires-clause-open : goal.go_on-requires-clause-open
go_on-requires-clause-open g c = still-open c.args.kernel.now c.args.call.now (moment_of c.args.self.now) (moment_of c.loop.self) c.loop.invariant.3

pub returns-in-Some-go_on-clause-does : goal.returns-in-Some-go_on-clause-does
returns-in-Some-go_on-clause-does g c =
    let goes = c.go_on.ensures.goes (moment_of c.args.self.now) c.loop.invariant.6 c.loop.invariant.3 in
    subst (GoesOrGives c.args.kernel.now c.args.call.now (moment_of c.args.self.now) (moment_of c.go_on.new.self)) c.in-Some-go_on.is goes

pub returns-in-Some-go_on-clause-who : goal.returns-in-Some-go_on-clause-who
returns-in-Some-go_on-clause-who g c = c.go_on.ensures.who ∙ c.loop.invariant.5

pub loop-preserved : goal.loop-preserved
loop-preserved g c =
    let goes = c.go_on.ensures.goes (moment_of c.args.self.now) c.loop.invariant.6 c.loop.invariant.3 in (
      tt,
      tt,
      c.go_on.ensures.own,
      subst (GoesOrGives c.args.kernel.now c.args.call.now (moment_of c.args.self.now) (moment_of c.go_on.new.self)) c.in_default.is goes,
      c.go_on.ensures.stopped ∙ c.loop.invariant.4,
      c.go_on.ensures.who ∙ c.loop.invariant.5,
      c.loop.invariant.6,
    )
