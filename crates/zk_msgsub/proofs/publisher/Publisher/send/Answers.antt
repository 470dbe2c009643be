use Rattle.std.proofs.Common.{◌<◌, All, List, length, sym, ap, subst, ◌∙◌}
use Rattle.zk_msgsub.specs.declared.seats.PubSeat.{PubSeat}
use Rattle.zk_msgsub.specs.Publishers.{members, publisher_seats}
use Rattle.zk_msgsub.specs.Seats.{seat_room}
use Rattle.zk_msgsub.proofs.Sending.{rooms-fall}
use Rattle.zk_msgsub.proofs.publisher.Publisher.send.Goals as goal

pub returns-clause-rooms : goal.returns-clause-rooms
returns-clause-rooms g c n rooms =
    let subs = c.args.subs.now in
    let message = c.args.message in
    let sent = c.push_all.result in
    let same = c.in_ok-listed.ensures.seats in
    let many = ap (λ (l : List PubSeat). length l) same ∙ c.requires.own.seats.many in
    rooms-fall subs (members subs c.in_ok-listed.listed) message (publisher_seats c.open.new.self) c.push_all.new.seats.items
    sent.pushed sent.full many c.push_all.ensures.pushed n
    (subst (All (λ s. n < seat_room s)) (sym same) rooms)
