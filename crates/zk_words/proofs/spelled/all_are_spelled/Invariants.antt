use Rattle.std.proofs.Common.{◌≡◌, [], length}
use Rattle.zk_words.specs.declared.slot.Rest.TheVariants.{Many}
use Rattle.zk_words.specs.Spelled.{are_spelled}
use Rattle.zk_words.proofs.spelled.all_are_spelled.Given as goal

abbrev pub invariant-loop-word : goal.invariant-loop-word
invariant-loop-word l = are_spelled [] (Many l.slot) l.initial.words ≡ are_spelled [] (Many l.slot) l.words

abbrev pub decreases-loop-word : goal.decreases-loop-word
decreases-loop-word l = length l.words
