use Rattle.std.proofs.Common.{take}
use Rattle.zk_objects.specs.First.{AreFirst, allowing}
use Rattle.zk_objects.proofs.first.first_objects.Given as goal

-- the permissions so far are given
abbrev pub invariant-loop-permission : goal.invariant-loop-permission
invariant-loop-permission l = AreFirst (allowing (take l.permission-index l.setup.allowed) l.setup) l.objects.items
