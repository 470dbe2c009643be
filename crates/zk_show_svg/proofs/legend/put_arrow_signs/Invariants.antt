use Rattle.std.proofs.Common.{◌≡◌}
use Rattle.zk_base.specs.Fronts.{StaysInFront}
use Rattle.zk_show_svg.proofs.legend.put_arrow_signs.Given as goal

abbrev pub invariant-loop-kind : goal.invariant-loop-kind
invariant-loop-kind l = record {
  more : StaysInFront l.initial.out.put l.out.put;
  front : l.out.front ≡ l.initial.out.front;
}
