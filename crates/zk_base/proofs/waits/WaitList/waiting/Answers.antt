use Rattle.std.proofs.Common.{length, sym, ap, ◌∙◌}
use Rattle.zk_base.proofs.SlotWaits.{length-waiting}
use Rattle.zk_base.proofs.SlotsFound.{seen}
use Rattle.zk_base.proofs.waits.WaitList.waiting.Goals as goal

pub returns : goal.returns
returns g c = sym c.self.invariant.kept.counted ∙ sym (length-waiting c.self.inside.slots.items)
    ∙ ap (λ ws. length ws.waiting) (seen c.self.view_is)
