-- The union of flags is the sum of their weights.
use Rattle.std.proofs.Common.{◌≡◌, ◌+◌, Bool, true, false, ◌&&◌, eqb, bit_or, refl, arith}
use Rattle.std.specs.Cmp.{first_so, second_so}
use Rattle.std.proofs.lemmas.Bool.Decides.{nat_tests}
use Rattle.zk_model_work.specs.Questions.{weight}

-- a test that holds of both truth values
abbrev of_both : (Bool → Bool) → Bool
of_both test = test true && test false

of_both-at : (test : Bool → Bool) → of_both test ≡ true → (b : Bool) → test b ≡ true
of_both-at test both true = first_so (test true) (test false) both
of_both-at test both false = second_so (test true) (test false) both

-- the union is the sum
abbrev agrees : Bool → Bool → Bool → Bool → Bool → Bool
agrees a b c d e =
    eqb (bit_or (bit_or (bit_or (bit_or (weight 1 a) (weight 2 b)) (weight 4 c)) (weight 8 d)) (weight 16 e))
    (weight 1 a + weight 2 b + weight 4 c + weight 8 d + weight 16 e)

agrees-all : (a b c d e : Bool) → agrees a b c d e ≡ true
agrees-all a b c d e =
    let at_a = of_both-at (λ a. of_both (λ b. of_both (λ c. of_both (λ d. of_both (λ e. agrees a b c d e))))) refl a in
    let at_b = of_both-at (λ b. of_both (λ c. of_both (λ d. of_both (λ e. agrees a b c d e)))) at_a b in
    let at_c = of_both-at (λ c. of_both (λ d. of_both (λ e. agrees a b c d e))) at_b c in
    let at_d = of_both-at (λ d. of_both (λ e. agrees a b c d e)) at_c d in
    of_both-at (λ e. agrees a b c d e) at_d e

pub weights_or : (a b c d e : Bool) →
    bit_or (bit_or (bit_or (bit_or (weight 1 a) (weight 2 b)) (weight 4 c)) (weight 8 d)) (weight 16 e)
    ≡ weight 1 a + weight 2 b + weight 4 c + weight 8 d + weight 16 e
weights_or a b c d e = let h = agrees-all a b c d e in grind (arith, nat_tests)
