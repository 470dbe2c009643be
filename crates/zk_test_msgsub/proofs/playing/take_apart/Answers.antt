use Rattle.std.proofs.Common.{List, length, slice_get, sym, ap, ◌∙◌}
use Rattle.zk_msgsub.specs.declared.seats.PubSeat.{PubSeat}
use Rattle.zk_test_msgsub.proofs.Rounds.{the-two}
use Rattle.zk_test_msgsub.proofs.playing.take_apart.Goals as goal

pub returns-clause-seats : goal.returns-clause-seats
returns-clause-seats c =
    let first = c.in-Some-pop-2.first in
    let second = c.in-Some-pop.second in
    let seats = c.requires.done.publisher.seats in
    let given = c.finish-pass.ensures.seats in
    let many = ap (λ (l : List PubSeat). length l) given ∙ seats.many ∙ c.requires.open.two in
    let are = sym given ∙ the-two c.finish-pass.result.1.items c.pop.new.self.items c.pop-2.new.self.items first second many
    c.in-Some-pop.ensures.items c.in-Some-pop-2.ensures.items in
    record {
      at_first = λ m at. seats.each 0 m first at (ap (λ (l : List PubSeat). slice_get l 0) are);
      at_second = λ m at. seats.each 1 m second at (ap (λ (l : List PubSeat). slice_get l 1) are);
    }
