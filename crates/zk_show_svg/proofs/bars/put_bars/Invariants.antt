use Rattle.std.proofs.Common.{◌≡◌, ◌++◌, take}
use Rattle.std.specs.List.{flat_map}
use Rattle.zk_show_svg.specs.Bars.{bar_mark}
use Rattle.zk_show_svg.proofs.bars.put_bars.Given as goal

abbrev pub invariant-loop-bar : goal.invariant-loop-bar
invariant-loop-bar l = record {
  text : l.out.put ≡ l.initial.out.put ++ flat_map (bar_mark l.plan) (take l.bar-index l.bars);
  front : l.out.front ≡ l.initial.out.front;
}
