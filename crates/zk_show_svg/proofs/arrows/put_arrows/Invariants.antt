use Rattle.std.proofs.Common.{◌≡◌, ◌++◌, take}
use Rattle.std.specs.List.{flat_map}
use Rattle.zk_show_svg.specs.Arrows.{arrow_mark}
use Rattle.zk_show_svg.proofs.arrows.put_arrows.Given as goal

abbrev pub invariant-loop-arrow : goal.invariant-loop-arrow
invariant-loop-arrow l = record {
  text : l.out.put ≡ l.initial.out.put ++ flat_map (arrow_mark l.plan l.rows) (take l.arrow-index l.arrows);
  front : l.out.front ≡ l.initial.out.front;
}
