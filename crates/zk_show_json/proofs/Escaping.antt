-- What a text is in a string.
use Rattle.std.proofs.Common.{◌≡◌, ℕ, ◌<◌, ◌++◌, true, List, [], ◌∷◌, refl, arith, rules}
use Rattle.std.specs.List.{list_all, AllByRecursion}
use Rattle.std.proofs.lemmas.Bool.Decides.{nat_tests}
use Rattle.zk_show_json.specs.Escapes.{is_plain, escape, escaped, IsHarmless}

-- a byte that stands for itself does
pub escape_plain : (b : ℕ) → is_plain b ≡ true → escape b ≡ b ∷ []
escape_plain b plain = grind (arith, nat_tests)

-- a text of such bytes too
pub escaped_plain : (text : List ℕ) → list_all is_plain text ≡ true → escaped text ≡ text
escaped_plain [] plain = refl
escaped_plain (b ∷ bs) plain = grind (arith, nat_tests, escape_plain b, escaped_plain bs)

pub escape_harmless : (b : ℕ) → b < 256 → AllByRecursion IsHarmless (escape b)
escape_harmless b few = grind (arith, nat_tests)

pub harmless_append : (xs ys : List ℕ) → AllByRecursion IsHarmless xs → AllByRecursion IsHarmless ys →
    AllByRecursion IsHarmless (xs ++ ys)
harmless_append [] ys none rest = rest
harmless_append (x ∷ xs) ys some rest = (some.0, harmless_append xs ys some.1 rest)

pub escaped_harmless : (text : List ℕ) → AllByRecursion (λ b. b < 256) text → AllByRecursion IsHarmless (escaped text)
escaped_harmless [] none = search rules
escaped_harmless (b ∷ bs) some = harmless_append (escape b) (escaped bs) (escape_harmless b some.0) (escaped_harmless bs some.1)
