use Rattle.std.proofs.Common.{◌≡◌, ◌++◌, take}
use Rattle.zk_trace.specs.Words.{positions_text}
use Rattle.zk_trace.proofs.words.put_positions.Given as goal

abbrev pub invariant-loop-position : goal.invariant-loop-position
invariant-loop-position l = record {
  text : l.out.put ≡ l.initial.out.put ++ positions_text (take l.position-index l.positions);
  front : l.out.front ≡ l.initial.out.front;
}
