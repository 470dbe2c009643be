use Rattle.std.proofs.Common.{ℕ, ◌+◌, ◌-◌, List, Some, length, take, drop, arith, ap, sym, ◌∙◌, add-one, length-drop}
use Rattle.std.proofs.lemmas.List.{take_all}
use Rattle.zk_trace.proofs.Sides.{halves-at, halves-nowhere}
use Rattle.zk_trace.proofs.halves.halves.Goals as goal

pub returns-in-Some : goal.returns-in-Some
returns-in-Some c =
    let text = c.args.text.now in
    let at = c.in-Some.at in
    let behind = drop (at + 1) text in
    let whole = take_all (length text - (at + 1)) behind (omega (arith, length-drop (at + 1) text)) in
    halves-at c.args.byte text at (sym c.in-Some.ensures)
    ∙ ap (λ (n : ℕ). Some (take at text, drop n text)) (sym (add-one at))
    ∙ ap (λ (rest : List ℕ). Some (take at text, rest)) (sym whole)

pub returns-in-None : goal.returns-in-None
returns-in-None c = halves-nowhere c.args.byte c.args.text.now (sym c.in-None.ensures)
