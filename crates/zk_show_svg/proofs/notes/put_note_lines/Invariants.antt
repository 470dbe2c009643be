use Rattle.std.proofs.Common.{◌≡◌, length}
use Rattle.zk_base.specs.Fronts.{StaysInFront}
use Rattle.zk_show_svg.proofs.notes.put_note_lines.Given as goal

abbrev pub invariant-loop-rest : goal.invariant-loop-rest
invariant-loop-rest l = record {
  more : StaysInFront l.initial.out.put l.out.put;
  front : l.out.front ≡ l.initial.out.front;
}

abbrev pub decreases-loop-rest : goal.decreases-loop-rest
decreases-loop-rest l = length l.rest
