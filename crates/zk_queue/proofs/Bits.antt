-- The bits of a word of busy flags, by trying all 32 words.
use Rattle.std.proofs.Common.{◌≡◌, ℕ, ◌-◌, ◌^◌, Bool, true, false, ◌&&◌, eqb, ◌==◌, refl, ap, ◌∙◌}
use Rattle.std.specs.Int.RustNames.{bit_and, bit_or}
use Rattle.std.proofs.lemmas.Bool.{eqb-true, and_parts}
use Rattle.zk_model_work.specs.Questions.{weight, busy_flags}
use Rattle.zk_queue.specs.Open.{marks_in}
use Rattle.zk_queue.specs.Words.{has_flag}

-- a test that holds of both
abbrev pub both : (Bool → Bool) → Bool
both p = p true && p false

from_both : (p : Bool → Bool) → both p ≡ true → (b : Bool) → p b ≡ true
from_both p all true = (and_parts (p true) (p false) all).0
from_both p all false = (and_parts (p true) (p false) all).1

abbrev pub Test : Type 0
Test = Bool → Bool → Bool → Bool → Bool → Bool

abbrev pub every : Test → Bool
every p = both (λ r. both (λ c. both (λ q. both (λ d. both (λ f. p r c q d f)))))

-- what holds of every word, holds of each
pub from_every : (p : Test) → every p ≡ true → (r c q d f : Bool) → p r c q d f ≡ true
from_every p all r c q d f =
    from_both (λ f. p r c q d f)
    (from_both (λ d. both (λ f. p r c q d f))
    (from_both (λ q. both (λ d. both (λ f. p r c q d f)))
    (from_both (λ c. both (λ q. both (λ d. both (λ f. p r c q d f))))
    (from_both (λ r. both (λ c. both (λ q. both (λ d. both (λ f. p r c q d f))))) all r) c) q) d) f

has_weight : (flag : ℕ) (b : Bool) (n : ℕ) → eqb flag flag ≡ true → eqb 0 flag ≡ false → n ≡ weight flag b → (n == flag) ≡ b
has_weight flag true n same none is = ap (λ n. n == flag) is ∙ same
has_weight flag false n same none is = ap (λ n. n == flag) is ∙ none

module _ (r c q d f : Bool) where
  abbrev word : ℕ
  word = busy_flags r c q d f

  pub flag-running : has_flag (busy_flags r c q d f) 1 ≡ r
  flag-running = has_weight 1 r (bit_and word 1) refl refl (eqb-true (bit_and word 1) (weight 1 r)
      (from_every (λ r c q d f. eqb (bit_and (busy_flags r c q d f) 1) (weight 1 r)) refl r c q d f))

  pub flag-cancelling : has_flag (busy_flags r c q d f) 2 ≡ c
  flag-cancelling = has_weight 2 c (bit_and word 2) refl refl (eqb-true (bit_and word 2) (weight 2 c)
      (from_every (λ r c q d f. eqb (bit_and (busy_flags r c q d f) 2) (weight 2 c)) refl r c q d f))

  pub flag-queued : has_flag (busy_flags r c q d f) 4 ≡ q
  flag-queued = has_weight 4 q (bit_and word 4) refl refl (eqb-true (bit_and word 4) (weight 4 q)
      (from_every (λ r c q d f. eqb (bit_and (busy_flags r c q d f) 4) (weight 4 q)) refl r c q d f))

  pub flag-delayed : has_flag (busy_flags r c q d f) 8 ≡ d
  flag-delayed = has_weight 8 d (bit_and word 8) refl refl (eqb-true (bit_and word 8) (weight 8 d)
      (from_every (λ r c q d f. eqb (bit_and (busy_flags r c q d f) 8) (weight 8 d)) refl r c q d f))

  pub flag-flushing : has_flag (busy_flags r c q d f) 16 ≡ f
  flag-flushing = has_weight 16 f (bit_and word 16) refl refl (eqb-true (bit_and word 16) (weight 16 f)
      (from_every (λ r c q d f. eqb (bit_and (busy_flags r c q d f) 16) (weight 16 f)) refl r c q d f))

  pub queued-on : bit_or (busy_flags r c q d f) 4 ≡ busy_flags r c true d f
  queued-on = eqb-true (bit_or word 4) (busy_flags r c true d f)
      (from_every (λ r c q d f. eqb (bit_or (busy_flags r c q d f) 4) (busy_flags r c true d f)) refl r c q d f)

  pub queued-off : bit_and (busy_flags r c q d f) (2 ^ 8 - 1 - 4) ≡ busy_flags r c false d f
  queued-off = eqb-true (bit_and word (2 ^ 8 - 1 - 4)) (busy_flags r c false d f)
      (from_every (λ r c q d f. eqb (bit_and (busy_flags r c q d f) (2 ^ 8 - 1 - 4)) (busy_flags r c false d f)) refl r c q d f)

  pub running-on : bit_or (busy_flags r c q d f) 1 ≡ busy_flags true c q d f
  running-on = eqb-true (bit_or word 1) (busy_flags true c q d f)
      (from_every (λ r c q d f. eqb (bit_or (busy_flags r c q d f) 1) (busy_flags true c q d f)) refl r c q d f)

  pub running-off : bit_and (busy_flags r c q d f) (2 ^ 8 - 1 - 1) ≡ busy_flags false c q d f
  running-off = eqb-true (bit_and word (2 ^ 8 - 1 - 1)) (busy_flags false c q d f)
      (from_every (λ r c q d f. eqb (bit_and (busy_flags r c q d f) (2 ^ 8 - 1 - 1)) (busy_flags false c q d f)) refl r c q d f)

  pub delayed-on : bit_or (busy_flags r c q d f) 8 ≡ busy_flags r c q true f
  delayed-on = eqb-true (bit_or word 8) (busy_flags r c q true f)
      (from_every (λ r c q d f. eqb (bit_or (busy_flags r c q d f) 8) (busy_flags r c q true f)) refl r c q d f)

  pub delayed-off : bit_and (busy_flags r c q d f) (2 ^ 8 - 1 - 8) ≡ busy_flags r c q false f
  delayed-off = eqb-true (bit_and word (2 ^ 8 - 1 - 8)) (busy_flags r c q false f)
      (from_every (λ r c q d f. eqb (bit_and (busy_flags r c q d f) (2 ^ 8 - 1 - 8)) (busy_flags r c q false f)) refl r c q d f)

  pub delayed-only : bit_and (busy_flags r c q d f) 8 ≡ busy_flags false false false d false
  delayed-only = eqb-true (bit_and word 8) (busy_flags false false false d false)
      (from_every (λ r c q d f. eqb (bit_and (busy_flags r c q d f) 8) (busy_flags false false false d false)) refl r c q d f)

  -- the marks in a word
  pub marks-in : marks_in (busy_flags r c q d f) ≡ record { cancelling = c; delayed = d; flushing = f }
  marks-in =
      ap (λ (b : Bool). record { cancelling = b; delayed = has_flag word 8; flushing = has_flag word 16 }) flag-cancelling
      ∙ ap (λ (b : Bool). record { cancelling = c; delayed = b; flushing = has_flag word 16 }) flag-delayed
      ∙ ap (λ (b : Bool). record { cancelling = c; delayed = d; flushing = b }) flag-flushing
