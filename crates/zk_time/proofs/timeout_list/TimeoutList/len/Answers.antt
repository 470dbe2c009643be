use Rattle.std.proofs.Common.{length, ap, arith}
use Rattle.zk_time.specs.Timeouts.{Timeouts}
use Rattle.zk_time.proofs.Arms.{length-live}
use Rattle.zk_time.proofs.Room.{ordered}
use Rattle.zk_time.proofs.timeout_list.TimeoutList.len.Goals as goal

pub returns-clause-count : goal.returns-clause-count
returns-clause-count c =
    let same = ap (λ (t : Timeouts). length t.live) c.self.view_is in
    omega (arith, c.len.ensures, c.self.inside.arms.ok.0, length-live c.self.inside.arms.items)

pub returns-clause-ordered : goal.returns-clause-ordered
returns-clause-ordered c = ordered _ c.self.inside.arms.items c.args.self.now c.self.view_is c.self.invariant
