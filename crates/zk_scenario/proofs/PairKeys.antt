-- A key holds two numbers, the second of 32 bits.
use Rattle.std.proofs.Common.{◌≡◌, ℕ, ◌+◌, ◌*◌, ◌^◌, ◌<◌, Bool, true, false, eqb, ◌&&◌, refl, arith}
use Rattle.std.proofs.lemmas.Bool.{eqb-true, eqb-false, eq-eqb, ne_eqb}

-- two keys are one where both numbers are
pub eqb-keys : (a b c d : ℕ) → b < 2 ^ 32 → d < 2 ^ 32 → eqb (a * 2 ^ 32 + b) (c * 2 ^ 32 + d) ≡ (eqb a c && eqb b d)
eqb-keys a b c d small less = by_tests (eqb a c) (eqb b d) refl refl where
  by_tests : (p q : Bool) → eqb a c ≡ p → eqb b d ≡ q → eqb (a * 2 ^ 32 + b) (c * 2 ^ 32 + d) ≡ (p && q)
  by_tests true true e f = eq-eqb (a * 2 ^ 32 + b) (c * 2 ^ 32 + d) (omega (arith, eqb-true a c e, eqb-true b d f))
  by_tests true false e f = ne_eqb (a * 2 ^ 32 + b) (c * 2 ^ 32 + d) (λ same. eqb-false b d f (omega (arith, same, eqb-true a c e)))
  by_tests false q e f = ne_eqb (a * 2 ^ 32 + b) (c * 2 ^ 32 + d) (λ same. eqb-false a c e (omega (arith, same)))
