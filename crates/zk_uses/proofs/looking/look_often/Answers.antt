use Rattle.std.proofs.Common.{List, [], ◌∷◌, length, All, ap, subst, sym, ◌∙◌, arith}
use Rattle.std.proofs.lemmas.List.{length-append}
use Rattle.zk_turn.specs.declared.word.Look.{Look}
use Rattle.zk_turn.specs.Passes.{pass_seen}
use Rattle.zk_uses.specs.Looks.{IsLookAt}
use Rattle.zk_uses.proofs.Looks.{IsLookAt-whole, looks-go_on, looks-push}
use Rattle.zk_uses.proofs.looking.look_often.Goals as goal

pub loop-round-preserved : goal.loop-round-preserved
loop-round-preserved g c =
    let m = g.S.Service.machine in
    let start = g.S.Service.start in
    let word = g.S.Service.word in
    let cell = c.args.cell.now in
    let index = c.args.index in
    let inv = c.loop-round.invariant in
    let looked = c.look-look.ensures in
    let seen = pass_seen c.look-look.new.pass in
    let look = c.look-look.result in
    let older = c.loop-round.looks.items in
    let all = looks-push m start word cell index seen older look
    (looks-go_on m start word cell index (pass_seen c.loop-round.pass) seen older looked.seen inv.2)
    (IsLookAt-whole m start word cell index seen look looked.at looked.word) in
    let long = ap (λ (l : List Look). length l) c.push_within.ensures.items ∙ length-append older (look ∷ []) in
    let count = inv.3 in
    let spare = inv.4 in
    let room = looked.room in
    let fits = inv.5 in
    let more = c.push_within.ensures.capacity in (
      looked.own,
      looked.players ∙ inv.1,
      subst (λ l. All (IsLookAt m start word cell index seen) l) (sym c.push_within.ensures.items) all,
      omega arith,
      omega arith,
      omega arith,
    )

pub returns-clause-looked : goal.returns-clause-looked
returns-clause-looked g c =
    let inv = c.loop-round.invariant in
    let end = c.loop-round.auto._round-end in
    record { count = omega (arith, end, inv.3); room = omega (arith, end, inv.4) }
