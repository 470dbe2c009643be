use Rattle.std.proofs.Common.{◌≡◌, ◌≤◌, length}
use Rattle.zk_base.specs.Limits.{most_few}
use Rattle.zk_trace.specs.Fields.{observer_of}
use Rattle.zk_trace.proofs.Told.{told_with}
use Rattle.zk_trace.proofs.row_words.told_of.Given as goal

abbrev pub invariant-loop-word : goal.invariant-loop-word
invariant-loop-word l = record {
  few : length l.told ≤ most_few;
  said : told_with most_few (observer_of l.scenario.decls) l.told l.words ≡ told_with most_few (observer_of l.scenario.decls) l.initial.told l.initial.words;
}

abbrev pub decreases-loop-word : goal.decreases-loop-word
decreases-loop-word l = length l.words
