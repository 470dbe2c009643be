use Rattle.std.proofs.Common.{◌+◌, ◌∷◌, [], Ok, sym, ap, subst, ◌∙◌, inl, inr, arith}
use Rattle.zk_base.specs.declared.ids.Who.{Who}
use Rattle.zk_base.specs.History.{IsAbove}
use Rattle.zk_event.specs.Waiting.{HasAsked, HasEnded}
use Rattle.zk_turn.specs.Passes.{pass_who, pass_mine}
use Rattle.zk_event.proofs.waiting.wait_event.Goals as goal

pub returns-in-Bits-clause-got : goal.returns-in-Bits-clause-got
returns-in-Bits-clause-got g c =
    inl (subst (HasAsked (pass_who c.args.pass) c.args.step (record { mask = c.args.mask; all = c.args.all }) c.args.reset c.args.pass
    c.ask-pass.result.0) (c.in-Ok.is ∙ ap Ok c.in-Bits.is) c.ask-pass.ensures.asked)

pub await_end-requires-clause-room : goal.await_end-requires-clause-room
await_end-requires-clause-room g c =
    let asked = subst (HasAsked (pass_who c.args.pass) c.args.step (record { mask = c.args.mask; all = c.args.all }) c.args.reset
    c.args.pass c.ask-pass.result.0) (c.in-Ok.is ∙ ap Ok c.in-Waits.is) c.ask-pass.ensures.asked in
    let spent = asked.room in
    let room = c.requires.room in
    omega arith

pub await_end-requires-clause-later : goal.await_end-requires-clause-later
await_end-requires-clause-later g c =
    let asked = subst (HasAsked (pass_who c.args.pass) c.args.step (record { mask = c.args.mask; all = c.args.all }) c.args.reset
    c.args.pass c.ask-pass.result.0) (c.in-Ok.is ∙ ap Ok c.in-Waits.is) c.ask-pass.ensures.asked in
    subst (λ (w : Who). IsAbove (pass_mine c.ask-pass.result.0) w.number (c.args.step + 1)) (sym c.ask-pass.ensures.who) asked.later

pub await_end-requires-clause-alone : goal.await_end-requires-clause-alone
await_end-requires-clause-alone g c =
    c.ask-pass.ensures.players ∙ c.requires.alone ∙ ap (λ (w : Who). w ∷ []) (sym c.ask-pass.ensures.who)

pub returns-in-Waits-clause-got : goal.returns-in-Waits-clause-got
returns-in-Waits-clause-got g c =
    let asked = subst (HasAsked (pass_who c.args.pass) c.args.step (record { mask = c.args.mask; all = c.args.all }) c.args.reset
    c.args.pass c.ask-pass.result.0) (c.in-Ok.is ∙ ap Ok c.in-Waits.is) c.ask-pass.ensures.asked in
    let ended = subst (λ (w : Who). HasEnded w (c.args.step + 1) c.in-Waits.place c.ask-pass.result.0 c.await_end.result.0
    c.await_end.result.1) c.ask-pass.ensures.who c.await_end.ensures.ended in
    inr (record { place = c.in-Waits.place; asked = c.ask-pass.result.0; opened = asked; ended = ended })

pub returns-in-Err-clause-got : goal.returns-in-Err-clause-got
returns-in-Err-clause-got g c =
    subst (HasAsked (pass_who c.args.pass) c.args.step (record { mask = c.args.mask; all = c.args.all }) c.args.reset c.args.pass
    c.ask-pass.result.0) c.in-Err.is c.ask-pass.ensures.asked
