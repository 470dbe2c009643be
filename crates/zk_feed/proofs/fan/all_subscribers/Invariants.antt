use Rattle.std.proofs.Common.{◌≡◌, length}
use Rattle.zk_msgsub.specs.Notes.{upto}
use Rattle.zk_feed.proofs.fan.all_subscribers.Given as goal

abbrev pub invariant-loop-number : goal.invariant-loop-number
invariant-loop-number l = (l.listed ≡ upto l.number) × (length l.listed ≡ l.number)
