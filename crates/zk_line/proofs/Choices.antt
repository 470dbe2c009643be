-- Which of the two words of a choice a word is.
use Rattle.std.proofs.Common.{◌≡◌, ℕ, Bool, true, false, cond, ◌||◌, List, Some, None, refl}
use Rattle.std.specs.Str.{bytes_eq}
use Rattle.zk_words.specs.declared.slot.Choice.{Choice}
use Rattle.zk_words.specs.declared.slot.Slot.TheVariants.{Either}
use Rattle.zk_words.specs.Spelled.{choice_text, is_spelled_in}
use Rattle.zk_line.specs.Args.{truth_of}

by_two : (first second : Bool) → (first || second) ≡ true → cond first (Some true) (cond second (Some false) None) ≡ Some first
by_two true second one = refl
by_two false true one = refl
by_two false false one = absurd (cc)

-- a word that is one of the two is the first, or else the second
pub truth_of_spelled : (choice : Choice) (word : List ℕ) → is_spelled_in (Either choice) word ≡ true → truth_of choice word ≡ Some (bytes_eq word (choice_text choice true))
truth_of_spelled choice word spelled = by_two (bytes_eq word (choice_text choice true)) (bytes_eq word (choice_text choice false)) spelled
