use Rattle.std.proofs.Common.{ap, get_or, ◌∙◌, ◌≡◌}
use Rattle.std.proofs.lemmas.List.{get_or_default}
use Rattle.zk_model_trigger.specs.declared.parts.Armed.{Armed}
use Rattle.zk_model_trigger.specs.Arms.{passes}
use Rattle.zk_model_trigger.specs.Putting.{put_in}
use Rattle.zk_model_trigger.proofs.Putting.{chosen-put, chosen-kept}
use Rattle.zk_model_trigger.proofs.changes.chosen.Goals as goal
use Rattle.zk_model_trigger.proofs.changes.chosen.Goals.{then-passes+in_ok-put_in, else-passes}

pub loop-index-preserved : goal.loop-index-preserved
loop-index-preserved c =
    let arms = c.args.arms.now in
    let i = c.loop-index.index in
    let d : Armed = c.index-arms-index.result in
    let said : c.passes.result ≡ passes c.args.occasion (get_or arms i d) =
    c.passes.ensures ∙ ap (passes c.args.occasion) c.index-arms-index.is in
    elim c.if-passes.branch [
      | then-passes+in_ok-put_in w ↦
          let here : w.index-arms-index-then-passes.result ≡ get_or arms i d =
          w.index-arms-index-then-passes.is
          ∙ get_or_default arms i w.index-arms-index-then-passes.result d c.loop-index-test.true in
          chosen-put c.args.occasion arms i d c.passes.result c.loop-index.found.items c.if-passes.found.items
          c.loop-index-test.true said w.if-passes.true c.loop-index.invariant
          (cc (w.found-is, w.in_ok-put_in.ensures, ap (λ (a : Armed). put_in c.args.occasion a.arm c.loop-index.found.items) here))
      | else-passes w ↦
          cc (
            w.found-is,
            chosen-kept c.args.occasion arms i d c.passes.result
                c.loop-index.found.items c.loop-index-test.true said w.if-passes.false c.loop-index.invariant,
          )
    ]
