use Rattle.std.proofs.Common.{set, ap, ◌∙◌, arith}
use Rattle.std.proofs.lemmas.List.{get_or_default}
use Rattle.std.proofs.lemmas.List.Edits.{map_over_more}
use Rattle.zk_model_bus.specs.Channel.{mask_one}
use Rattle.zk_model_bus.proofs.channel.mask.Goals as goal

pub loop-observer-preserved : goal.loop-observer-preserved
loop-observer-preserved c =
    let ys = c.loop-observer.observers in
    let i = c.loop-observer.observer-index in
    let below = c.loop-observer-test.true in
    let same = c.loop-observer.auto.observers in
    ap (set ys i) c.mask_one.ensures
    ∙ map_over_more (mask_one c.args.number c.args.on) c.args.observers.now ys i _ below c.loop-observer.invariant
    (get_or_default ys i _ _ (omega arith))
