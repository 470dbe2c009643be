use Rattle.std.proofs.Common.{take}
use Rattle.zk_msgsub.specs.Publishers.{AreSeatsOf, HasPushed, members}
use Rattle.zk_msgsub.proofs.publisher.push_all.Given as goal

abbrev pub invariant-loop-number : goal.invariant-loop-number
invariant-loop-number g l =
    AreSeatsOf l.subs l.seats.items
    × HasPushed l.subs (members l.subs (take l.number-index l.numbers)) l.message l.fn.seats.items l.seats.items l.sent.pushed
    l.sent.full
