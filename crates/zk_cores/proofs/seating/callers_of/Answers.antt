use Rattle.std.proofs.Common.{[], ◌∷◌, ◌++◌, sym, ap, ◌∙◌, arith, append_assoc}
use Rattle.std.proofs.lemmas.List.{length-append}
use Rattle.zk_cores.proofs.Seated.{one-more}
use Rattle.zk_cores.proofs.seating.callers_of.Goals as goal

pub loop-seat-preserved : goal.loop-seat-preserved
loop-seat-preserved c =
    let l = c.loop-seat in
    let x = c.in-Some.seat in
    let callers = c.push_within.ensures in
    let made = l.invariant.made in
    let room = l.invariant.room in
    let long = length-append l.yielded (x ∷ []) in
    record {
      items = append_assoc l.yielded (x ∷ []) _ ∙ ap (λ rest. l.yielded ++ rest) (sym c.in-Some.ensures.steps.0) ∙ l.invariant.items;
      callers = one-more l.yielded x l.callers.items c.push_within.new.items.items c.into_caller.result l.invariant.callers c.into_caller.ensures callers.items;
      made = (let len = callers.len in omega arith);
      room = (let kept = callers.capacity in omega arith);
    }
