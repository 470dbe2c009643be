use Rattle.std.proofs.Common.{Some, sym, ap, ◌∙◌}
use Rattle.std.specs.List.{position}
use Rattle.zk_time.specs.declared.arm.Arm.{Arm}
use Rattle.zk_time.specs.Deltas.{is_arm_of}
use Rattle.zk_time.proofs.Looks.{queue_none, queue_some}
use Rattle.zk_time.proofs.timeout_list.TimeoutList.queue.Goals as goal

pub returns-in_err-index : goal.returns-in_err-index
returns-in_err-index c =
    let none = ap (position (is_arm_of c.args.item)) (sym c.deref.ensures.value) ∙ sym c.place_of.ensures ∙ c.in_err-index.was in
    c.from_residual.ensures ∙ sym (queue_none _ c.self.inside.arms.items c.args.self.now c.args.item c.self.view_is none)

pub returns : goal.returns
returns c =
    let found = ap (position (is_arm_of c.args.item)) (sym c.deref.ensures.value) ∙ sym c.place_of.ensures ∙ c.in_ok-index.was in
    let d = c.index.result.now in
    let same = queue_some _ c.self.inside.arms.items c.args.self.now c.args.item c.in_ok-index.index d c.self.view_is
    c.self.invariant found in
    ap (λ (a : Arm). Some a.queue) c.index.ensures ∙ same
