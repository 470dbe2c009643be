use Rattle.std.proofs.Common.{rules, ◌≡◌, suc, ◌+◌, ◌<◌, ◌∙◌, Bool, ◌&&◌, List, [], ◌∷◌, ◌++◌, length, take, drop, get_or, sym, ap, subst}
use Rattle.std.proofs.lemmas.List.{take_more, drop_more, get_or_default}
use Rattle.zk_worker.specs.declared.steps.Spot.TheVariants as spots
use Rattle.zk_failures.specs.LookOrder.{IsFloor, is_early}
use Rattle.zk_failures.proofs.LookOrders.{earlies-length, earlies-at, orders-more}
use Rattle.zk_failures.proofs.look_order.orders_of.Goals as goal
use Rattle.zk_failures.proofs.look_order.orders_of.Goals.{then-is_late, else-is_late}

pub index-requires : goal.index-requires
index-requires c =
    let long = ap length c.in_ok-earlies.ensures in
    let same = earlies-length c.args.spots.now in
    let within = c.loop-step-test.true in
    search rules

pub loop-step-preserved : goal.loop-step-preserved
loop-step-preserved c =
    let steps = c.args.spots.now in
    let step = c.loop-step.step in
    let spot = get_or steps step (spots.Work 0) in
    let within : step < length steps = c.loop-step-test.true in
    let to : take (step + 1) steps ≡ take step steps ++ spot ∷ [] = take_more steps step (spots.Work 0) within in
    let next : drop step steps ≡ spot ∷ drop (step + 1) steps = drop_more steps step (spots.Work 0) within in
    let late = c.is_late.ensures (take step steps) c.loop-step.invariant.floor in
    let spot_is : spot ≡ get_or steps step spot = get_or_default steps step (spots.Work 0) spot within in
    record {
      objects = c.add.ensures.objects ∙ c.loop-step.invariant.objects;
      floor = subst (IsFloor c.add.new.self) (sym to) (c.add.ensures.floor (take step steps) c.loop-step.invariant.floor);
      orders = orders-more steps step spot c.loop-step.orders.items c.push.new.self.items c.if-is_late.push to next c.in_ok-push.ensures.items
          (elim c.if-is_late.branch [
            | then-is_late w ↦
                let read = w.index.ensures ∙ ap (λ (l : List Bool). get_or l step w.index.result.now) c.in_ok-earlies.ensures in
                w.push-is ∙ read ∙ earlies-at steps step spot w.index.result.now within spot_is
                ∙ sym (ap (λ (b : Bool). b && is_early (drop (suc step) steps) spot) (sym late ∙ w.if-is_late.true))
            | else-is_late w ↦ w.push-is ∙ w.if-is_late.false ∙ sym (ap (λ (b : Bool). b && is_early (drop (suc step) steps) spot) (sym late ∙ w.if-is_late.false))
          ])
          c.loop-step.invariant.orders;
    }
