-- A number or a priority has one spelling, and its text is read as itself.
use Rattle.std.proofs.Common.{◌≡◌, ℕ, nat_lt, ◌&&◌, ◌^◌, ◌<◌, zero, suc, true, ◌||◌, not, cond, eqb, leb, List, [], ◌∷◌, length, Option, Some, None, refl, sym, ap, subst, inl, inr, ◌∙◌, arith, rules}
use Rattle.std.specs.Prelude.{ℤ, pos, negsuc, IsSome, unwrap_or, option_map}
use Rattle.std.specs.Char.{is_ascii_digit}
use Rattle.std.specs.Fmt.{decimal, signed_decimal}
use Rattle.std.specs.List.{list_all}
use Rattle.std.specs.Str.Parse.{digits_value}
use Rattle.std.proofs.lemmas.Bool.{and_parts, or_cases, not-true, eqb-true, eqb-false, leb-true, ltb-true, cases_Bool, cond-true, cond-false, ne_eqb}
use Rattle.std.proofs.lemmas.Option.{cond_some, option_and_then_some, same_Some}
use Rattle.std.proofs.lemmas.Int.{ints}
use Rattle.std.proofs.lemmas.Fmt.{decimal-digits_value}
use Rattle.std.proofs.lemmas.Str.Parse.{IsNumeralModel, numerals_by_value}
use Rattle.zk_words.specs.declared.limits.TheConstants.{GREATEST_PRIORITY, LEAST_PRIORITY}
use Rattle.zk_words.specs.Bytes.{digit_0, minus}
use Rattle.zk_words.specs.Numbers.{IsPriority, is_number, number_of, is_between, number_in, priority_of, priority_above, priority_below}

-- digits alone, as std's lemmas on numerals take it
pub numerals : IsNumeralModel (λ ds. list_all is_ascii_digit ds ≡ true) (digits_value 10)
numerals = numerals_by_value _ (search rules)

-- a zero stands first only alone
leading : (b : ℕ) (bs : List ℕ) → (not (eqb b digit_0) || eqb (length bs) 0) ≡ true → b ≡ digit_0 → length (b ∷ bs) ≡ 1
leading b bs alone zero_first =
    elim (or_cases (not (eqb b digit_0)) (eqb (length bs) 0) alone) [
      | inl other ↦ absurd (eqb-false b digit_0 (not-true (eqb b digit_0) other) zero_first)
      | inr single ↦ omega (arith, eqb-true (length bs) 0 single)
    ]

-- a word that spells a number of 64 bits is the number's text
pub number_spelled : (word : List ℕ) (n : ℕ) → number_of word ≡ Some n → n < 2 ^ 64 → word ≡ decimal n
number_spelled [] n said small = absurd (cc)
number_spelled (b ∷ bs) n said small =
    let spelled = cond_some (is_number (b ∷ bs)) (digits_value 10 (b ∷ bs)) n said in
    let parts = and_parts (list_all is_ascii_digit (b ∷ bs)) (not (eqb b digit_0) || eqb (length bs) 0) spelled.0 in
    let fits : digits_value 10 (b ∷ bs) < 2 ^ 64 = subst (λ (v : ℕ). v < 2 ^ 64) (sym spelled.1) small in
    sym (decimal-digits_value numerals (b ∷ bs) parts.0 (omega arith) (leading b bs parts.1) fits) ∙ ap decimal spelled.1

-- a word that spells a number in a range is the number's text
pub number_in_spelled : (least most : ℕ) (word : List ℕ) (n : ℕ) → number_in least most word ≡ Some n → (word ≡ decimal n) × (is_between least most n ≡ true)
number_in_spelled least most word n said =
    option_and_then_some _ (number_of word) n said
    (λ m is_m given.
    let found = cond_some (is_between least most m && nat_lt m (2 ^ 32)) m n given in
    let parts = and_parts (is_between least most m) (nat_lt m (2 ^ 32)) found.0 in
    let small = ltb-true m (2 ^ 32) parts.1 in
    (number_spelled word m is_m (omega arith) ∙ ap decimal found.1, ap (is_between least most) (sym found.1) ∙ parts.0))

nothing_is_none : (prio : Option ℤ) → None ≡ prio → IsSome prio → ⊥
nothing_is_none None none within = absurd (cc)
nothing_is_none (Some p) none within = absurd (cc)

-- the word is the text of the priority, which is in its range
abbrev pub SpellsPriority : List ℕ → Option ℤ → Type 0
SpellsPriority word prio = (word ≡ signed_decimal (unwrap_or prio (pos 0))) × IsPriority prio

-- a number that is given as a priority
above_spelled : (word : List ℕ) (n : ℕ) (prio : Option ℤ) → number_of word ≡ Some n → priority_above n ≡ prio → IsSome prio → SpellsPriority word prio
above_spelled word n prio said given within = elim (cases_Bool (leb n GREATEST_PRIORITY)) [
  | inl low ↦ subst (λ (p : Option ℤ). SpellsPriority word p)
      (sym (cond-true (leb n GREATEST_PRIORITY) (Some (pos n)) None low) ∙ given)
      (let low_is = leb-true n GREATEST_PRIORITY low in (number_spelled word n said (omega arith), (omega (arith, ints), omega (arith, ints))))
  | inr high ↦ absurd (nothing_is_none prio (sym (cond-false (leb n GREATEST_PRIORITY) (Some (pos n)) None high) ∙ given) within)
]

in_range_below : (word : List ℕ) (n : ℕ) (prio : Option ℤ) → number_of word ≡ Some (suc n) → cond (leb (suc n) LEAST_PRIORITY) (Some (negsuc n)) None ≡ prio → IsSome prio → SpellsPriority (minus ∷ word) prio
in_range_below word n prio said given within = elim (cases_Bool (leb (suc n) LEAST_PRIORITY)) [
  | inl low ↦ subst (λ (p : Option ℤ). SpellsPriority (minus ∷ word) p)
      (sym (cond-true (leb (suc n) LEAST_PRIORITY) (Some (negsuc n)) None low) ∙ given)
      (let low_is = leb-true (suc n) LEAST_PRIORITY low in (ap (λ (w : List ℕ). minus ∷ w) (number_spelled word (suc n) said (omega arith)), (omega (arith, ints), omega (arith, ints))))
  | inr high ↦ absurd (nothing_is_none prio (sym (cond-false (leb (suc n) LEAST_PRIORITY) (Some (negsuc n)) None high) ∙ given) within)
]

-- a number behind a minus
below_spelled : (word : List ℕ) (n : ℕ) (prio : Option ℤ) → number_of word ≡ Some n → priority_below n ≡ Some prio → IsSome prio → SpellsPriority (minus ∷ word) prio
below_spelled word zero prio said given within = absurd (cc)
below_spelled word (suc n) prio said given within =
    let given_range = sym (cond-false (eqb (suc n) 0) None _ (ne_eqb (suc n) 0 (λ none. absurd (omega arith)))) ∙ given in
    in_range_below word n prio said (same_Some (cond (leb (suc n) LEAST_PRIORITY) (Some (negsuc n)) None) prio given_range) within

by_number : (word : List ℕ) (prio : Option ℤ) (n : Option ℕ) → number_of word ≡ n → option_map priority_above n ≡ Some prio → IsSome prio → SpellsPriority word prio
by_number word prio None said given within = absurd (cc)
by_number word prio (Some n) said given within = above_spelled word n prio said (same_Some _ _ given) within

-- a word that spells a priority in its range is the priority's text
pub priority_spelled : (word : List ℕ) (prio : Option ℤ) → priority_of word ≡ Some prio → IsSome prio → SpellsPriority word prio
priority_spelled [] prio said within = absurd (cc)
priority_spelled (b ∷ bs) prio said within = elim (cases_Bool (eqb b minus)) [
  | inl signed ↦ option_and_then_some priority_below (number_of bs) prio (sym (cond-true (eqb b minus) _ _ signed) ∙ said)
      (λ n is_n given. let below = below_spelled bs n prio is_n given within in (ap (λ (c : ℕ). c ∷ bs) (eqb-true b minus signed) ∙ below.0, below.1))
  | inr plain ↦ by_number (b ∷ bs) prio (number_of (b ∷ bs)) refl (sym (cond-false (eqb b minus) _ _ plain) ∙ said) within
]
