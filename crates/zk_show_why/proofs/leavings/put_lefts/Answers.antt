use Rattle.std.proofs.Common.{◌≡◌, ℕ, List, ◌++◌, ap, ◌∙◌}
use Rattle.zk_base.specs.Fronts.{StaysInFront}
use Rattle.zk_base.proofs.Fronts.{front_then}
use Rattle.zk_show_why.proofs.Telling.{lefts_at}
use Rattle.zk_show_why.proofs.leavings.put_lefts.Goals as goal

pub loop-left-preserved : goal.loop-left-preserved
loop-left-preserved c =
    let old = c.loop-left.out.items in
    let new = c.put.new.out.items in
    let text = c.in_ok-said.said.items in
    let put : new ≡ old ++ text = c.in_ok-put.ensures.ok ∙ ap (λ (l : List ℕ). old ++ l) c.deref.ensures.value in
    let kept : StaysInFront old new = record { more = text; behind = put } in
    record {
      told = λ end further. c.loop-left.invariant.told end
          (lefts_at _ _ c.args.lefts.now old new end text c.loop-left.left-index c.loop-left-test.true c.in_ok-said.ensures put further);
      kept = front_then _ _ _ c.loop-left.invariant.kept kept;
    }
