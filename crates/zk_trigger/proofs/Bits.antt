-- Events as the bits of a word.
use Rattle.std.proofs.Common.{◌≡◌, ℕ, ◌^◌, bit_and, bit_or, Bool, true, false, not, ◌||◌, eqb, List, [], ◌∷◌, refl, sym, ap, ◌∙◌, ◌⊎◌, inl, inr, arith}
use Rattle.std.proofs.lemmas.Bool.{eq-eqb, ne_eqb, cases_eq}
use Rattle.std.proofs.lemmas.Nat.{and_or_self, and_or_apart, and_le_l, pow_apart, pow_pos}
use Rattle.zk_model_trigger.specs.declared.parts.Arm.{Arm}
use Rattle.zk_model_trigger.specs.declared.parts.Occasion.{Occasion}
use Rattle.zk_model_trigger.specs.declared.parts.Occasion.TheVariants.{Posted, Reached}
use Rattle.zk_model_trigger.specs.Arms.{is_among, meets}
use Rattle.zk_trigger.specs.Live.{word_from, word_of, meets_sought, kept, sought_by}

-- the word has the bit of this event
abbrev names : ℕ → ℕ → Bool
names word event = not (eqb (bit_and word (2 ^ event)) 0)

or_true : (b : Bool) → (b || true) ≡ true
or_true true = refl
or_true false = refl

or_none : (b : Bool) → (b || false) ≡ b
or_none true = refl
or_none false = refl

or_assoc : (a b c : Bool) → ((a || b) || c) ≡ (a || (b || c))
or_assoc true b c = refl
or_assoc false b c = refl

-- with one bit more
names-more : (word x event : ℕ) → names (bit_or word (2 ^ x)) event ≡ (names word event || eqb x event)
names-more word x event = by (cases_eq x event) where
  by : (x ≡ event) ⊎ (x ≡ event → ⊥) → names (bit_or word (2 ^ x)) event ≡ (names word event || eqb x event)
  by (inl same) =
      let some = pow_pos x in
      let there : names (bit_or word (2 ^ x)) x ≡ true =
      ap not (ne_eqb (bit_and (bit_or word (2 ^ x)) (2 ^ x)) 0 (λ none. let is = and_or_self (2 ^ x) word in omega arith)) in
      ap (names (bit_or word (2 ^ x))) (sym same) ∙ there
      ∙ sym (ap (λ (b : Bool). names word event || b) (eq-eqb x event same) ∙ or_true (names word event))
  by (inr apart) =
      ap (λ (n : ℕ). not (eqb n 0)) (and_or_apart (2 ^ event) word (2 ^ x) (pow_apart x event apart))
      ∙ sym (ap (λ (b : Bool). names word event || b) (ne_eqb x event apart) ∙ or_none (names word event))

names-from : (word : ℕ) (events : List ℕ) (event : ℕ) →
    names (word_from word events) event ≡ (names word event || is_among events event)
names-from word [] event = sym (or_none (names word event))
names-from word (x ∷ xs) event =
    names-from (bit_or word (2 ^ x)) xs event
    ∙ ap (λ (b : Bool). b || is_among xs event) (names-more word x event)
    ∙ or_assoc (names word event) (eqb x event) (is_among xs event)

-- a word of events has the bits of just these
pub names-word : (events : List ℕ) (event : ℕ) → names (word_of events) event ≡ is_among events event
names-word events event =
    let least = and_le_l 0 (2 ^ event) in
    let none : bit_and 0 (2 ^ event) ≡ 0 = omega arith in
    names-from 0 events event ∙ ap (λ (n : ℕ). not (eqb n 0) || is_among events event) none

-- as it is kept, an arm is sought where it waits for the occasion
pub meets-kept : (o : Occasion) (a : Arm) → meets_sought (sought_by o) (kept a) ≡ meets o a
meets-kept (Posted event) a = names-word a.events event
meets-kept (Reached time) a = refl
