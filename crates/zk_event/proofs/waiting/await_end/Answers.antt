use Rattle.std.proofs.Common.{◌<◌, ◌∷◌, [], refl, sym, ap, subst, ◌∙◌}
use Rattle.zk_base.specs.declared.ids.Who.{Who}
use Rattle.zk_base.specs.History.{IsAbove}
use Rattle.zk_event.specs.Waiting.{HasTried}
use Rattle.zk_turn.specs.Passes.{pass_who, pass_mine}
use Rattle.zk_event.proofs.Waited.{made-nothing, none-again, ended-then}
use Rattle.zk_event.proofs.waiting.await_end.Goals as goal

pub loop-init : goal.loop-init
loop-init g c = (tt, tt, c.requires.own, refl, refl, made-nothing (pass_who c.args.pass) c.args.step c.args.pass c.requires.later)

pub try_end-next-requires-clause-alone : goal.try_end-next-requires-clause-alone
try_end-next-requires-clause-alone g c =
    let i = c.loop.invariant in
    i.3 ∙ c.requires.alone ∙ ap (λ (w : Who). w ∷ []) (sym i.4)

pub try_end-next-requires-clause-room : goal.try_end-next-requires-clause-room
try_end-next-requires-clause-room g c = subst (λ n. 0 < n) (sym c.loop.invariant.5.room) c.requires.room

pub try_end-next-requires-clause-later : goal.try_end-next-requires-clause-later
try_end-next-requires-clause-later g c =
    let i = c.loop.invariant in
    subst (λ (w : Who). IsAbove (pass_mine c.loop.pass) w.number c.args.step) (sym i.4) i.5.later

pub loop-preserved : goal.loop-preserved
loop-preserved g c =
    let i = c.loop.invariant in
    let made = c.try_end-next.ensures in
    let tried = subst (λ (w : Who). HasTried w c.args.step c.args.place c.loop.pass c.try_end-next.result.0 c.try_end-next.result.1) i.4
    made.tried in
    let none = subst (HasTried (pass_who c.args.pass) c.args.step c.args.place c.loop.pass c.try_end-next.result.0) c.in_default.is tried in (
      tt,
      tt,
      made.own,
      made.players ∙ i.3,
      made.who ∙ i.4,
      none-again (pass_who c.args.pass) c.args.step c.args.pass c.loop.pass c.try_end-next.result.0 i.5 none,
    )

pub returns-in-Some-bits-clause-ended : goal.returns-in-Some-bits-clause-ended
returns-in-Some-bits-clause-ended g c =
    let i = c.loop.invariant in
    let made = c.try_end-next.ensures in
    let tried = subst (λ (w : Who). HasTried w c.args.step c.args.place c.loop.pass c.try_end-next.result.0 c.try_end-next.result.1) i.4
    made.tried in
    let some = subst (HasTried (pass_who c.args.pass) c.args.step c.args.place c.loop.pass c.try_end-next.result.0) c.in-Some-bits.is tried in
    ended-then (pass_who c.args.pass) c.args.step c.args.place c.in-Some-bits.bits c.args.pass c.loop.pass c.try_end-next.result.0 i.5 some
