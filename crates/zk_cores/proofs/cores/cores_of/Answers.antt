use Rattle.std.proofs.Common.{All, [], ◌∷◌, ◌++◌, sym, ap, subst, ◌∙◌, arith, append_assoc}
use Rattle.std.proofs.lemmas.List.{length-append}
use Rattle.std.proofs.lemmas.List.Elements.{All-push, All-head, All-tail}
use Rattle.zk_pool.specs.Hands.{IsNewHand}
use Rattle.zk_cores.specs.Seats.{seat_number, seat_kernel, IsReady}
use Rattle.zk_cores.proofs.cores.cores_of.Goals as goal

pub loop-hand-preserved : goal.loop-hand-preserved
loop-hand-preserved c =
    let pool = c.args.pool.now in
    let New = IsNewHand seat_number seat_kernel pool in
    let l = c.loop-hand in
    let hand = c.in-Some.hand in
    let core_list = c.push_within.ensures in
    let steps = c.in-Some.ensures.steps.0 in
    let all = subst (All New) steps l.invariant.new in
    let new = All-head New hand _ all in
    let made = l.invariant.made in
    let room = l.invariant.room in
    let long = length-append l.yielded (hand ∷ []) in
    record {
      items = append_assoc l.yielded (hand ∷ []) _ ∙ ap (λ rest. l.yielded ++ rest) (sym steps) ∙ l.invariant.items;
      new = All-tail New hand _ all;
      ready = subst (All (IsReady pool)) (sym core_list.items)
          (All-push (IsReady pool) l.core_list.items _ l.invariant.ready (record { at_work = c.in_ok-keeper.ensures.keeps; none = c.in_ok-keeper.ensures.none }));
      made = (let len = core_list.len in omega arith);
      room = (let kept = core_list.capacity in omega arith);
    }
