use Rattle.std.proofs.Common.{◌≡◌, ◌+◌, None, List, sym, ap, subst, ◌∙◌}
use Rattle.std.proofs.lemmas.Bool.{false≢true}
use Rattle.zk_base.specs.declared.ids.Who.{Who}
use Rattle.zk_base.specs.declared.ids.Entry.{Entry}
use Rattle.zk_base.specs.Legal.{IsLegal, state_after}
use Rattle.zk_base.specs.History.{IsAbove}
use Rattle.zk_turn.specs.Players.{GoesOn}
use Rattle.zk_turn.specs.Passes.{given_to, service_of, held_who}
use Rattle.zk_worker.specs.Single.{OthersGrew}
use Rattle.zk_visit.specs.Seats.{IsEntered, seen_at}
use Rattle.zk_visit.proofs.Visiting.{room_left, turn-players, own-still, own-entered, still_above, others_grew, entered, refused, not-closing}
use Rattle.zk_visit.proofs.at_cell.visit.Goals as goal

pub enter-held-requires-clause-room : goal.enter-held-requires-clause-room
enter-held-requires-clause-room g c =
    let is = sym c.take.ensures.value ∙ c.in-Some.is in
    let at = rw is at c.requires.at in
    let later = rw is at c.requires.later in
    room_left (IsLegal g.S.Service.machine) g.S.Service.start c.args.cell.now c.args.who at.0 c.args.step c.in-Some.pass at.1 later at.2 c.requires.number

pub act-answer-requires-clause-later : goal.act-answer-requires-clause-later
act-answer-requires-clause-later g c =
    let is = sym c.take.ensures.value ∙ c.in-Some.is in
    let own = (rw is at c.requires.at).1 in
    let later = rw is at c.requires.later in
    let who = c.enter-held.ensures.who ∙ own.player in
    let seen = c.in-Some.pass.seat.me.0.seen in
    let h = g.S.Service.history (service_of c.enter-held.result) in
    let goes = subst (λ (ws : List Who). GoesOn ws seen h) own.only c.enter-held.ensures.seen in
    subst (λ (w : Who). IsAbove h w.number c.args.step) (sym who) (still_above c.args.who seen h c.args.step goes later)

pub returns-in-Ok-Some-clause-at : goal.returns-in-Ok-Some-clause-at
returns-in-Ok-Some-clause-at g c = λ looked at low.
    let is = sym c.take.ensures.value ∙ c.in-Some.is in
    let was = rw is at at in
    let later = rw is at c.requires.later in
    let turn = c.act-answer.ensures.turn in
    let before = c.enter-held.result in
    let after = c.act-answer.new.self in
    let h = g.S.Service.history (service_of before) in
    let entered = rw c.in-Ok-Some.field-0-is at (rw c.in-Ok-Some.is at c.act-answer.ensures.entry) in
    let spent = rw c.in-Ok-Some.field-0-is at (rw c.in-Ok-Some.is at c.act-answer.ensures.spends) in
    own-entered (IsLegal g.S.Service.machine) g.S.Service.start c.args.cell.now c.args.who looked c.args.step c.in-Some.pass was later low
    c.leave.result c.leave.ensures.own (c.leave.ensures.who ∙ turn.who ∙ c.enter-held.ensures.who)
    (c.leave.ensures.players ∙ turn-players before after turn ∙ c.enter-held.ensures.players)
    h c.args.op c.in-Ok-Some.reply (held_who before) (c.leave.ensures.seen ∙ entered) (c.enter-held.ensures.who ∙ was.player)
    (ap (λ n. n + 1) c.leave.ensures.room ∙ spent.room ∙ c.enter-held.ensures.room)

pub returns-in-Ok-None-clause-at : goal.returns-in-Ok-None-clause-at
returns-in-Ok-None-clause-at g c = λ looked at low.
    let is = sym c.take.ensures.value ∙ c.in-Some.is in
    let was = rw is at at in
    let later = rw is at c.requires.later in
    let turn = c.act-answer.ensures.turn in
    let before = c.enter-held.result in
    let after = c.act-answer.new.self in
    let h = g.S.Service.history (service_of before) in
    let goes = subst (λ (ws : List Who). GoesOn ws c.in-Some.pass.seat.me.0.seen h) was.only c.enter-held.ensures.seen in
    let same = rw c.in-Ok-None.field-0-is at (rw c.in-Ok-None.is at c.act-answer.ensures.entry) in
    let unspent = rw c.in-Ok-None.field-0-is at (rw c.in-Ok-None.is at c.act-answer.ensures.spends) in
    own-still (IsLegal g.S.Service.machine) g.S.Service.start c.args.cell.now c.args.who looked c.args.step c.in-Some.pass was later low
    c.leave.result c.leave.ensures.own (c.leave.ensures.who ∙ turn.who ∙ c.enter-held.ensures.who)
    (c.leave.ensures.players ∙ turn-players before after turn ∙ c.enter-held.ensures.players)
    h goes (c.leave.ensures.seen ∙ same) (c.leave.ensures.room ∙ unspent.room ∙ c.enter-held.ensures.room)

pub returns-in-Err-clause-at : goal.returns-in-Err-clause-at
returns-in-Err-clause-at g c = λ looked at low.
    let is = sym c.take.ensures.value ∙ c.in-Some.is in
    let was = rw is at at in
    let later = rw is at c.requires.later in
    let turn = c.act-answer.ensures.turn in
    let before = c.enter-held.result in
    let after = c.act-answer.new.self in
    let h = g.S.Service.history (service_of before) in
    let goes = subst (λ (ws : List Who). GoesOn ws c.in-Some.pass.seat.me.0.seen h) was.only c.enter-held.ensures.seen in
    let same = rw c.in-Err.is at c.act-answer.ensures.err in
    let unspent = rw c.in-Err.is at c.act-answer.ensures.spends in
    own-still (IsLegal g.S.Service.machine) g.S.Service.start c.args.cell.now c.args.who looked c.args.step c.in-Some.pass was later low
    c.leave.result c.leave.ensures.own (c.leave.ensures.who ∙ turn.who ∙ c.enter-held.ensures.who)
    (c.leave.ensures.players ∙ turn-players before after turn ∙ c.enter-held.ensures.players)
    h goes (c.leave.ensures.seen ∙ same) (c.leave.ensures.room ∙ unspent.room ∙ c.enter-held.ensures.room)

pub returns-in-Ok-Some-clause-visited : goal.returns-in-Ok-Some-clause-visited
returns-in-Ok-Some-clause-visited g c =
    let m = g.S.Service.machine in
    let start = g.S.Service.start (given_to c.args.cell.now) in
    let is = sym c.take.ensures.value ∙ c.in-Some.is in
    let own = (rw is at c.requires.at).1 in
    let who = c.enter-held.ensures.who ∙ own.player in
    let seen = c.in-Some.pass.seat.me.0.seen in
    let h = g.S.Service.history (service_of c.enter-held.result) in
    let goes = subst (λ (ws : List Who). GoesOn ws seen h) own.only c.enter-held.ensures.seen in
    let new = c.leave.result.seat.me.0.seen in
    let made = entered m start (g.S.Service.start (service_of c.enter-held.result)) c.args.who (held_who c.enter-held.result) c.args.step c.args.op c.in-Ok-Some.reply c.at-place.result seen h new (g.S.Service.history (service_of c.act-answer.new.self))
    c.enter-held.ensures.own.same_start who (rw c.in-Ok-Some.field-0-is at (rw c.in-Ok-Some.is at c.act-answer.ensures.reply)) c.at-place.ensures (others_grew c.args.who seen h goes) c.leave.ensures.seen (rw c.in-Ok-Some.field-0-is at (rw c.in-Ok-Some.is at c.act-answer.ensures.entry)) in
    subst (λ o. IsEntered m start c.args.who c.args.step c.args.op c.in-Ok-Some.reply c.at-place.result (seen_at o) new) (sym is) made

pub returns-in-Ok-None-clause-visited : goal.returns-in-Ok-None-clause-visited
returns-in-Ok-None-clause-visited g c =
    let m = g.S.Service.machine in
    let start = g.S.Service.start (given_to c.args.cell.now) in
    let is = sym c.take.ensures.value ∙ c.in-Some.is in
    let own = (rw is at c.requires.at).1 in
    let who = c.enter-held.ensures.who ∙ own.player in
    let seen = c.in-Some.pass.seat.me.0.seen in
    let h = g.S.Service.history (service_of c.enter-held.result) in
    let goes = subst (λ (ws : List Who). GoesOn ws seen h) own.only c.enter-held.ensures.seen in
    let new = c.leave.result.seat.me.0.seen in
    let same = rw c.in-Ok-None.field-0-is at (rw c.in-Ok-None.is at c.act-answer.ensures.entry) in
    let grew = subst (λ (l : List (Entry g.row.S-Op.Denot g.row.S-Reply.Denot)). OthersGrew c.args.who.number seen l) (sym (c.leave.ensures.seen ∙ same)) (others_grew c.args.who seen h goes) in
    let not = refused m start (g.S.Service.start (service_of c.enter-held.result)) c.args.who (held_who c.enter-held.result) c.args.op h new (g.S.Service.history (service_of c.act-answer.new.self))
    c.enter-held.ensures.own.same_start who (rw c.in-Ok-None.field-0-is at (rw c.in-Ok-None.is at c.act-answer.ensures.reply)) c.leave.ensures.seen same in
    subst (λ o. OthersGrew c.args.who.number (seen_at o) new × (m.reply_of (state_after m start new) c.args.who c.args.op ≡ None)) (sym is) (grew, not)

pub returns-in-Err-clause-visited : goal.returns-in-Err-clause-visited
returns-in-Err-clause-visited g c =
    let is = sym c.take.ensures.value ∙ c.in-Some.is in
    let own = (rw is at c.requires.at).1 in
    let seen = c.in-Some.pass.seat.me.0.seen in
    let h = g.S.Service.history (service_of c.enter-held.result) in
    let goes = subst (λ (ws : List Who). GoesOn ws seen h) own.only c.enter-held.ensures.seen in
    let same = rw c.in-Err.is at c.act-answer.ensures.err in
    let grew = subst (λ (l : List (Entry g.row.S-Op.Denot g.row.S-Reply.Denot)). OthersGrew c.args.who.number seen l) (sym (c.leave.ensures.seen ∙ same)) (others_grew c.args.who seen h goes) in
    subst (λ o. OthersGrew c.args.who.number (seen_at o) c.leave.result.seat.me.0.seen) (sym is) grew

pub returns-in-Err-clause-memory : goal.returns-in-Err-clause-memory
returns-in-Err-clause-memory g c =
    let is = sym c.take.ensures.value ∙ c.in-Some.is in
    let own = (rw is at c.requires.at).1 in
    let who = c.enter-held.ensures.who ∙ own.player in
    let h = g.S.Service.history (service_of c.enter-held.result) in
    let same = rw c.in-Err.is at c.act-answer.ensures.err in
    let closing = rw c.in-Err.is at c.act-answer.ensures.closing in
    not-closing g.S.Service.closes g.S.Service.machine (g.S.Service.start (given_to c.args.cell.now)) (g.S.Service.start (service_of c.enter-held.result))
    c.args.who (held_who c.enter-held.result) c.args.op h c.leave.result.seat.me.0.seen (g.S.Service.history (service_of c.act-answer.new.self))
    c.enter-held.ensures.own.same_start who (λ yes. false≢true (closing yes)) c.leave.ensures.seen same
