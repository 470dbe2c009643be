use Rattle.std.proofs.Common.{rules, arith, ap}
use Rattle.std.proofs.lemmas.List.{nil_from_length}
use Rattle.zk_line.proofs.SaidWords.{first_slot, said_next, said_last}
use Rattle.zk_line.proofs.right.say_words.Goals as goal

pub loop-slots-preserved : goal.loop-slots-preserved
loop-slots-preserved c =
    said_next _ _ _ _ _ _ _ _ _ _ _ _ _ _ c.loop-slots.invariant (first_slot c.loop-slots.slots.now c.in-len1-up.len_at_least) c.in-Some.ensures (c.in_ok-say_word.ensures (search rules))

pub returns : goal.returns
returns c =
    let none = nil_from_length c.loop-slots.slots.now (omega (arith, c.in_default.len_below)) in
    λ right. said_last _ _ _ _ _ _ _ _ _ _ _ c.loop-slots.invariant none (ap (λ r. r.rest) c.row.view_is) (c.in_ok-right.ensures right)
