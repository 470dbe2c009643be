use Rattle.std.proofs.Common.{◌≡◌, ◌≤◌, length}
use Rattle.zk_line.specs.declared.events.TheConstants.{MOST_EVENTS}
use Rattle.zk_trace.specs.Fields.{narrow_of}
use Rattle.zk_trace.proofs.Told.{told_with}
use Rattle.zk_trace.proofs.row_words.positions_of.Given as goal

abbrev pub invariant-loop-word : goal.invariant-loop-word
invariant-loop-word l = record {
  few : length l.positions ≤ MOST_EVENTS;
  said : told_with MOST_EVENTS narrow_of l.positions l.words ≡ told_with MOST_EVENTS narrow_of l.initial.positions l.initial.words;
}

abbrev pub decreases-loop-word : goal.decreases-loop-word
decreases-loop-word l = length l.words
