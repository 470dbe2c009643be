use Rattle.std.proofs.Common.{◌≡◌, ℕ, drop}
use Rattle.std.specs.Str.Parse.{digits_value, digits_value_after}
use Rattle.zk_words.specs.Numbers.{fitting}
use Rattle.zk_words.proofs.numbers.exact_value_of.Given as goal

abbrev pub invariant-loop-digit : goal.invariant-loop-digit
invariant-loop-digit l =
    (m : ℕ) × (l.n ≡ fitting m) × (digits_value 10 l.digits ≡ digits_value_after 10 m (drop l.digit-index l.digits))
