use Rattle.std.proofs.Common.{List, subst, arith}
use Rattle.zk_time.specs.declared.arm.Arm.{Arm}
use Rattle.zk_time.specs.Deltas.{IsPlace}
use Rattle.zk_time.proofs.Looks.{counts_due}
use Rattle.zk_time.proofs.timeout_list.TimeoutList.count_due.Goals as goal

pub returns : goal.returns
returns c =
    let place = subst (λ (l : List Arm). IsPlace l c.args.now c.place_for.result) c.deref.ensures.value c.place_for.ensures in
    let count = counts_due _ c.self.inside.arms.items c.args.self.now c.args.now c.place_for.result c.self.view_is place in
    omega (arith, count, c.len.ensures, c.self.inside.arms.ok.0)
