use Rattle.std.proofs.Common.{All, [], ◌∷◌, ◌++◌, sym, ap, subst, ◌∙◌, arith, append_assoc}
use Rattle.std.proofs.lemmas.List.{length-append}
use Rattle.std.proofs.lemmas.List.Elements.{All-push, All-head, All-tail}
use Rattle.zk_test_event.specs.Parts.{IsFresh, IsReady}
use Rattle.zk_test_event.proofs.parts.parts_of.Goals as goal

pub loop-pass-preserved : goal.loop-pass-preserved
loop-pass-preserved c =
    let cell = c.args.cell.now in
    let l = c.loop-pass in
    let pass = c.in-Some.pass in
    let parts = c.push_within.ensures in
    let steps = c.in-Some.ensures.steps.0 in
    let all = subst (All (IsFresh cell)) steps l.invariant.new in
    let new = All-head (IsFresh cell) pass _ all in
    let made = l.invariant.made in
    let room = l.invariant.room in
    let long = length-append l.yielded (pass ∷ []) in
    record {
      items = append_assoc l.yielded (pass ∷ []) _ ∙ ap (λ rest. l.yielded ++ rest) (sym steps) ∙ l.invariant.items;
      new = All-tail (IsFresh cell) pass _ all;
      ready = subst (All (IsReady cell)) (sym parts.items)
          (All-push (IsReady cell) l.parts.items _ l.invariant.ready new);
      made = (let len = parts.len in omega arith);
      room = (let kept = parts.capacity in omega arith);
    }
