-- What begins with a front isn't shorter than it.
use Rattle.std.proofs.Common.{◌≡◌, ◌<◌, ℕ, Bool, true, false, List, length, take, refl, sym, ap, ◌∙◌, arith}
use Rattle.std.specs.Cmp.Lexicographic.{bytes_decides}
use Rattle.std.proofs.lemmas.List.{take_all}
use Rattle.zk_words.specs.Events.{begins}

-- a word that is shorter than a front doesn't begin with it
pub begins_short : (front word : List ℕ) → length word < length front → begins front word ≡ false
begins_short front word short = by_test (begins front word) refl where
  by_test : (b : Bool) → begins front word ≡ b → begins front word ≡ false
  by_test false is = is
  by_test true is =
      let same = (bytes_decides (take (length front) word) front).0 is in
      let all : take (length front) word ≡ word = take_all (length front) word (omega (arith, short)) in
      let long : length word ≡ length front = ap length (sym all ∙ same) in absurd (omega (arith, long, short))
