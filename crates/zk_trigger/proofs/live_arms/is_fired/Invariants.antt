use Rattle.std.proofs.Common.{◌≡◌, false, take}
use Rattle.std.specs.List.{list_any}
use Rattle.zk_trigger.specs.Live.{is_fire_of}
use Rattle.zk_trigger.proofs.live_arms.is_fired.Given as goal

abbrev pub invariant-loop-index : goal.invariant-loop-index
invariant-loop-index l = list_any (is_fire_of l.item) (take l.index l.fires.items) ≡ false
