use Rattle.std.proofs.Common.{◌+◌, ◌-◌, length, drop, take, sym, ap, ◌∷◌, List, ℕ, ◌∙◌, arith}
use Rattle.std.proofs.lemmas.List.{take_all}
use Rattle.std.proofs.Common.{length-drop}
use Rattle.zk_words.specs.Pieces.{pieces_between}
use Rattle.zk_words.proofs.FirstPiece.{pieces-some, pieces-none}
use Rattle.zk_words.proofs.pieces.split_at.Goals as goal

pub returns-in-Some : goal.returns-in-Some
returns-in-Some c =
    let s = c.args.separator in
    let text = c.args.text.now in
    let behind = drop (c.in-Some.at + 1) text in
    let whole = take_all (length text - (c.in-Some.at + 1)) behind (omega (arith, length-drop (c.in-Some.at + 1) text)) in
    pieces-some s text c.in-Some.at (sym c.in-Some.ensures)
    ∙ ap (λ (rest : List ℕ). take c.in-Some.at text ∷ pieces_between s rest) (sym whole)

pub returns-in-None : goal.returns-in-None
returns-in-None c = pieces-none c.args.separator c.args.text.now (sym c.in-None.ensures)
