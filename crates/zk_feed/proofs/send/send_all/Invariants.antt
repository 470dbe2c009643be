use Rattle.std.proofs.Common.{◌≡◌, false}
use Rattle.zk_feed.specs.Feeding.{IsFeeding}
use Rattle.zk_feed.proofs.send.send_all.Given as goal

abbrev pub invariant-loop-sent : goal.invariant-loop-sent
invariant-loop-sent g l = (l.feeder.refused ≡ false) × IsFeeding l.shared l.number l.sent l.feeder.publisher
