use Rattle.std.proofs.Common.{sym, refl}
use Rattle.zk_base.specs.Limits.{longest_name}
use Rattle.zk_base.specs.Padding.{IsPadded-made, length-name}
use Rattle.zk_base.specs.Names.{is_name}
use Rattle.zk_base.proofs.name.Name.new.Goals as goal

pub invariant_of-result : goal.invariant_of-result
invariant_of-result c =
    let named = sym (c.if-not-is_name.ensures) in
    IsPadded-made longest_name is_name c.args.text.now _ c.copy_from_slice.new.self (length-name c.args.text.now named) named refl
    c.copy_from_slice.ensures.after
