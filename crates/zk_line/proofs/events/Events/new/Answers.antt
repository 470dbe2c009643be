use Rattle.std.proofs.Common.{sym, refl}
use Rattle.zk_line.specs.Filling.{IsFilled-made}
use Rattle.zk_line.proofs.events.Events.new.Goals as goal

pub invariant_of-result : goal.invariant_of-result
invariant_of-result c =
    IsFilled-made c.args.events.now _ c.copy_from_slice.new.self (sym (c.if-not-is_few.ensures)) refl c.copy_from_slice.ensures.after
