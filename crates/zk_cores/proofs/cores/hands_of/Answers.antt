use Rattle.std.proofs.Common.{◌≡◌, All, [], ◌∷◌, ◌++◌, sym, ap, subst, ◌∙◌, arith, append_assoc}
use Rattle.std.proofs.lemmas.List.{length-append}
use Rattle.std.proofs.lemmas.List.Elements.{All-push, All-head, All-tail}
use Rattle.zk_pool.specs.Hands.{IsHandOf, hand_held}
use Rattle.zk_cores.specs.Seats.{seat_number, seat_kernel, IsReady}
use Rattle.zk_cores.proofs.cores.hands_of.Goals as goal

pub loop-core-preserved : goal.loop-core-preserved
loop-core-preserved c =
    let pool = c.args.pool.now in
    let l = c.loop-core in
    let core = c.in-Some.core in
    let hands = c.push_within.ensures in
    let steps = c.in-Some.ensures.steps.0 in
    let all = subst (All (IsReady pool)) steps l.invariant.ready in
    let one = All-head (IsReady pool) core _ all in
    let made = l.invariant.made in
    let room = l.invariant.room in
    let long = length-append l.yielded (core ∷ []) in
    record {
      items = append_assoc l.yielded (core ∷ []) _ ∙ ap (λ rest. l.yielded ++ rest) (sym steps) ∙ l.invariant.items;
      ready = All-tail (IsReady pool) core _ all;
      own = subst (All (IsHandOf seat_number seat_kernel pool)) (sym hands.items)
          (All-push (IsHandOf seat_number seat_kernel pool) l.hands.items _ l.invariant.own c.into_hand-hand.ensures.own);
      none = subst (All (λ hand. hand_held hand ≡ [])) (sym hands.items)
          (All-push (λ hand. hand_held hand ≡ []) l.hands.items _ l.invariant.none c.into_hand-hand.ensures.none);
      made = (let len = hands.len in omega arith);
      room = (let kept = hands.capacity in omega arith);
    }
