use Rattle.std.proofs.Common.{◌<◌}
use Rattle.zk_test_msgsub.specs.Parts.{IsChanger, IsSending}
use Rattle.zk_test_msgsub.proofs.parts.play_part.Given as goal

abbrev pub invariant-loop-round : goal.invariant-loop-round
invariant-loop-round g l =
    IsSending l.shared l.round l.part.publisher × IsChanger l.shared.fan l.round l.pass × (l.part.subscriber < 8)
