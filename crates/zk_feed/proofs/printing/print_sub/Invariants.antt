use Rattle.std.proofs.Common.{◌≡◌, ◌++◌, take}
use Rattle.zk_feed.specs.Output.{sub_lines}
use Rattle.zk_feed.proofs.printing.print_sub.Given as goal

abbrev pub invariant-loop-note : goal.invariant-loop-note
invariant-loop-note l =
    (l.paper.front ≡ l.fn.paper.front) × (l.paper.put ≡ l.fn.paper.put ++ sub_lines l.number (take l.note-index l.notes))
