use Rattle.std.proofs.Common.{sym, refl}
use Rattle.zk_base.specs.Messages.{is_message}
use Rattle.zk_base.specs.Limits.{longest_message}
use Rattle.zk_base.specs.Padding.{IsPadded-made, length-message}
use Rattle.zk_base.proofs.message.Msg.new.Goals as goal

pub invariant_of-result : goal.invariant_of-result
invariant_of-result c =
    let right = sym (c.if-not-is_message.ensures) in
    IsPadded-made longest_message is_message c.args.bytes.now _ c.copy_from_slice.new.self (length-message c.args.bytes.now right)
    right refl c.copy_from_slice.ensures.after
