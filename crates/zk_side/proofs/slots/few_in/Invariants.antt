use Rattle.std.proofs.Common.{◌≡◌, ◌+◌, ◌++◌, length}
use Rattle.std.specs.Prelude.{option_map}
use Rattle.zk_side.specs.Slots.{numbers_in}
use Rattle.zk_side.proofs.slots.few_in.Given as goal

-- the numbers so far, and those that the words that are left spell, are all
abbrev pub invariant-loop-word : goal.invariant-loop-word
invariant-loop-word l = record {
  all : numbers_in l.least l.most l.initial.words ≡ option_map (λ more. l.few ++ more) (numbers_in l.least l.most l.words);
  count : length l.few + length l.words ≡ length l.initial.words;
}

abbrev pub decreases-loop-word : goal.decreases-loop-word
decreases-loop-word l = length l.words
