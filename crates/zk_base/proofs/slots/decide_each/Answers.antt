use Rattle.std.proofs.Common.{set, ap, ◌∙◌, arith}
use Rattle.std.proofs.lemmas.List.{get_or_default}
use Rattle.std.proofs.lemmas.List.Edits.{map_over_more}
use Rattle.zk_base.specs.Slots.{decided_all}
use Rattle.zk_base.proofs.slots.decide_each.Goals as goal

pub loop-slot-preserved : goal.loop-slot-preserved
loop-slot-preserved g c =
    let ys = c.loop-slot.slots in
    let i = c.loop-slot.slot-index in
    let below = c.loop-slot-test.true in
    let same = c.loop-slot.auto.slots in
    ap (set ys i) c.decide_where_waiting.ensures
    ∙ map_over_more (decided_all c.args.number c.args.answer) c.args.slots.now ys i _ below c.loop-slot.invariant
    (get_or_default ys i _ _ (omega arith))
