use Rattle.std.proofs.Common.{◌+◌, ◌∷◌, [], ◌++◌, sym, ap, subst, ◌∙◌}
use Rattle.zk_base.specs.History.{entry, IsAbove}
use Rattle.zk_turn.specs.Players.{own}
use Rattle.zk_turn.proofs.Calls.{IsAbove-from_own, IsAbove-own_push}
use Rattle.zk_turn.proofs.cell.Cell.call.Goals as goal

pub act-requires-clause-later : goal.act-requires-clause-later
act-requires-clause-later g c =
    let found = g.S.Service.history c.enter-held.result.service in
    let mine = c.enter-held.ensures.mine in
    let above = IsAbove-from_own c.args.pass.who found c.args.step
    (subst (λ h. IsAbove h c.args.pass.who.number c.args.step) (sym mine
    ∙ ap (λ ws. own ws found) c.requires.alone) c.requires.later) in
    subst (λ w. IsAbove found w.number c.args.step) (sym c.enter-held.ensures.who) above

pub returns-in-Ok-Some-clause-later : goal.returns-in-Ok-Some-clause-later
returns-in-Ok-Some-clause-later g c =
    let who = c.args.pass.who in
    let found = g.S.Service.history c.enter-held.result.service in
    let mine = c.enter-held.ensures.mine in
    let above = IsAbove-from_own who found c.args.step
    (subst (λ h. IsAbove h who.number c.args.step) (sym mine ∙ ap (λ ws. own ws found) c.requires.alone) c.requires.later) in
    let entered = rw c.in-Ok-Some.field-0-is at c.in-Ok-Some.ensures.entry in
    let held = c.act.new.self in
    subst (λ h. IsAbove h who.number (c.args.step + 1)) (sym (c.leave.ensures.mine
    ∙ ap (λ h. own held.seat.me.0.players h) entered))
    (subst (λ w. IsAbove (own held.seat.me.0.players (found ++ entry w c.args.step c.args.op c.in-Ok-Some.reply ∷ []))
    who.number (c.args.step + 1)) (sym c.enter-held.ensures.who)
    (IsAbove-own_push held.seat.me.0.players who found c.args.step c.args.op c.in-Ok-Some.reply above))
