use Rattle.std.proofs.Common.{ap, arith}
use Rattle.zk_base.specs.Waits.{open_waits}
use Rattle.zk_base.proofs.SlotsKept.{open-is}
use Rattle.zk_base.proofs.SlotsFound.{seen}
use Rattle.zk_base.proofs.waits.WaitList.open.Goals as goal

pub returns : goal.returns
returns g c =
    let all = open-is c.self.invariant.kept in
    let view = ap open_waits (seen c.self.view_is) in
    omega arith
