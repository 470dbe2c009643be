use Rattle.std.proofs.Common.{◌≡◌, ◌+◌, ◌++◌, ◌∷◌, [], length, get_or, set, sym, ap, subst, ◌∙◌, arith, rules}
use Rattle.zk_base.specs.History.{entry, extended}
use Rattle.zk_side.specs.Kept.{AreCounted}
use Rattle.zk_side.specs.Played.{who_of}
use Rattle.zk_side.proofs.Counted.{AreCounted-entry}
use Rattle.zk_side.proofs.players.Players.ask.Goals as goal

pub invariant_of-self-in-Some : goal.invariant_of-self-in-Some
invariant_of-self-in-Some g c =
    let h = g.S.Service.history c.self.inside.service in
    let player = c.args.player in
    let steps = c.self.inside.steps in
    let e = entry (who_of player) (get_or steps player 0) c.args.op c.in-Some.reply in
    let counted = c.self.invariant.counted player c.requires.player in
    let long : length steps ≡ 64 = search rules in
    let made : g.S.Service.history c.act.new.self ≡ h ++ e ∷ [] =
    c.in_ok-act.ensures.entry ∙ ap (extended h (who_of player) (get_or steps player 0) c.args.op) c.in-Some.is in
    subst (λ l. AreCounted l (set steps player (get_or steps player 0 + 1))) (sym made)
    (AreCounted-entry h e counted steps c.self.invariant (omega arith))
