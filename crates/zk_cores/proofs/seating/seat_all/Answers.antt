use Rattle.std.proofs.Common.{map, All, [], ◌∷◌, ◌++◌, sym, ap, subst, ◌∙◌, arith, append_assoc}
use Rattle.std.proofs.lemmas.List.{length-append, map-append}
use Rattle.std.proofs.lemmas.List.Elements.{All-push, All-head, All-tail}
use Rattle.zk_kernel.specs.Callers.{IsCaller}
use Rattle.zk_cores.specs.Seats.{seat_caller}
use Rattle.zk_cores.proofs.Seated.{IsOf, of-kernel}
use Rattle.zk_cores.proofs.seating.seat_all.Goals as goal

pub loop-caller-preserved : goal.loop-caller-preserved
loop-caller-preserved c =
    let k = c.args.kernel.now in
    let l = c.loop-caller in
    let x = c.in-Some.caller in
    let seat = c.in_ok-seat.seat in
    let seats = c.push_within.ensures in
    let one = c.in_ok-seat.ensures in
    let made = l.invariant.made in
    let room = l.invariant.room in
    let long = length-append l.yielded (x ∷ []) in
    let steps = c.in-Some.ensures.steps.0 in
    let all = subst (All (IsCaller k)) steps l.invariant.own in
    let own = subst (IsCaller k) (sym one) (All-head (IsCaller k) x _ all) in
    record {
      items = append_assoc l.yielded (x ∷ []) _ ∙ ap (λ rest. l.yielded ++ rest) (sym steps) ∙ l.invariant.items;
      own = All-tail (IsCaller k) x _ all;
      callers = ap (map seat_caller) seats.items ∙ map-append seat_caller l.seats.items (seat ∷ [])
          ∙ ap (λ rest. rest ++ seat_caller seat ∷ []) l.invariant.callers ∙ ap (λ caller. l.yielded ++ caller ∷ []) one;
      suits = subst (All (IsOf k)) (sym seats.items)
          (All-push (IsOf k) l.seats.items seat l.invariant.suits (of-kernel k seat own));
      made = (let len = seats.len in omega arith);
      room = (let kept = seats.capacity in omega arith);
    }
