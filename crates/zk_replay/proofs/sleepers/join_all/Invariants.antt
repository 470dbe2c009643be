use Rattle.std.proofs.Common.{take}
use Rattle.zk_replay.specs.Sleeping.{AreListed, StandStill}
use Rattle.zk_replay.proofs.sleepers.join_all.Given as goal

abbrev pub invariant-loop-one : goal.invariant-loop-one
invariant-loop-one l = record {
  joined : AreListed l.lists.items (take l.one-index l.asked) l.player;
  kept : StandStill l.initial.lists.items l.lists.items;
}
