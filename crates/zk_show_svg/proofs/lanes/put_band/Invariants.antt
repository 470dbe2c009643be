use Rattle.std.proofs.Common.{◌≡◌}
use Rattle.zk_base.specs.Fronts.{StaysInFront}
use Rattle.zk_show_svg.proofs.lanes.put_band.Given as goal

abbrev pub invariant-loop-player : goal.invariant-loop-player
invariant-loop-player l = record {
  more : StaysInFront l.initial.out.put l.out.put;
  front : l.out.front ≡ l.initial.out.front;
}
