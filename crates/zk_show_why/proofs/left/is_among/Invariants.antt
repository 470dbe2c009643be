use Rattle.std.proofs.Common.{◌≡◌, drop}
use Rattle.zk_show_why.specs.Left.{is_among}
use Rattle.zk_show_why.proofs.left.is_among.Given as goal

-- none was found so far
abbrev pub invariant-loop-left : goal.invariant-loop-left
invariant-loop-left l = is_among l.player l.what (drop l.left-index l.told) ≡ is_among l.player l.what l.told
