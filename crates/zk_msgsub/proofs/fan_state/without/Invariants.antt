use Rattle.std.proofs.Common.{◌≡◌, ◌≤◌, take, length}
use Rattle.zk_msgsub.specs.Fan.{without}
use Rattle.zk_msgsub.proofs.fan_state.without.Given as goal

abbrev pub invariant-loop-other : goal.invariant-loop-other
invariant-loop-other l = (l.kept ≡ without l.number (take l.other-index l.numbers)) × (length l.kept ≤ l.other-index)
