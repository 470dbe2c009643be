use Rattle.std.proofs.Common.{◌≡◌, ◌+◌, ◌++◌, [], length, List, map, vec_len}
use Rattle.zk_msgsub.specs.declared.note.Note.{Note}
use Rattle.zk_feed.specs.Feeding.{notes_in}
use Rattle.zk_feed.specs.Lasts.{backwards}
use Rattle.zk_feed.specs.Output.{lines_from}
use Rattle.zk_feed.proofs.printing.print.Given as goal

-- those that are printed, and then the others, last one first
abbrev pub invariant-loop-notes : goal.invariant-loop-notes
invariant-loop-notes l = record {
  printed : List (List Note);
  all : printed ++ backwards (map notes_in l.heard.items) ≡ backwards (map notes_in l.fn.heard.items);
  count : length printed ≡ l.number;
  left : l.number + vec_len l.heard ≡ vec_len l.fn.heard;
  front : l.paper.front ≡ [];
  put : l.paper.put ≡ lines_from 0 printed;
}

abbrev pub decreases-loop-notes : goal.decreases-loop-notes
decreases-loop-notes l = vec_len l.heard
