use Rattle.std.proofs.Common.{◌≡◌, ◌++◌, take}
use Rattle.std.specs.List.{flat_map}
use Rattle.zk_show_svg.specs.Ticks.{tick_mark}
use Rattle.zk_show_svg.proofs.ticks.put_ticks.Given as goal

abbrev pub invariant-loop-tick : goal.invariant-loop-tick
invariant-loop-tick l = record {
  text : l.out.put ≡ l.initial.out.put ++ flat_map (tick_mark l.plan) (take l.tick-index l.ticks);
  front : l.out.front ≡ l.initial.out.front;
}
