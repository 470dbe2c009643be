-- Numbers and admissions are read exactly.
use Rattle.std.proofs.Common.{◌≡◌, ℕ, ◌-◌, ◌^◌, ◌<◌, ◌≤◌, zero, suc, Bool, true, false, ◌&&◌, ◌||◌, not, cond, eqb, leb, ltb, Option, Some, None, List, [], ◌∷◌, ◌++◌, length, take, drop, get_or, refl, sym, ap, subst, ◌∙◌, arith}
use Rattle.std.specs.Prelude.{option_and_then}
use Rattle.std.specs.Char.{is_ascii_digit}
use Rattle.std.specs.Fmt.{decimal}
use Rattle.std.specs.List.{list_all}
use Rattle.std.specs.Str.Parse.{digits_value}
use Rattle.std.proofs.lemmas.Bool.{cond-true, and_parts, and_from, or_left, ne_eqb, leb-true, ltb-true, lt-ltb, le-leb}
use Rattle.std.proofs.lemmas.Fmt.{decimal_digit, digits_decimal, digits_value-decimal, first_decimal, decimal_nonempty}
use Rattle.std.proofs.lemmas.List.{take-append-drop}
use Rattle.std.proofs.lemmas.Option.{none-some, cond_some, option_and_then_some}
use Rattle.std.proofs.lemmas.Slice.Eq.{bytes_eq-Decides}
use Rattle.std.proofs.Math.Seq.{take-append_seam, drop-append_seam}
use Rattle.zk_words.specs.Bytes.{digit_0}
use Rattle.zk_words.specs.Events.{begins}
use Rattle.zk_words.specs.Numbers.{is_number, number_of, fitting, is_between, number_in}
use Rattle.zk_words.proofs.Numerals.{numerals, number_spelled, number_in_spelled}
use Rattle.zk_trace.specs.Exact.{IsPlain, IsExact}
use Rattle.zk_trace.specs.Fields.{fronted, wide_of, narrow_of, short_of, admission_of}
use Rattle.zk_trace.specs.Words.{admission_front, admission_word}
use Rattle.zk_trace.proofs.PlainWords.{digits_of_words, plain_by}

-- digits that don't begin with a zero spell their value
number_of-digits : (ds : List ℕ) → list_all is_ascii_digit ds ≡ true → digit_0 < get_or ds 0 0 → number_of ds ≡ Some (digits_value 10 ds)
number_of-digits [] digits first = absurd (omega arith)
number_of-digits (b ∷ bs) digits first =
    cond-true (is_number (b ∷ bs)) (Some (digits_value 10 (b ∷ bs))) None
    (and_from (list_all is_ascii_digit (b ∷ bs)) (not (eqb b digit_0) || eqb (length bs) 0) digits
    (or_left (not (eqb b digit_0)) (eqb (length bs) 0) (ap not (ne_eqb b digit_0 (λ zero_first. absurd (omega arith))))))

-- the text of a number of 64 bits spells it
pub number_of-decimal : (n : ℕ) → n < 2 ^ 64 → number_of (decimal n) ≡ Some n
number_of-decimal zero small = ap number_of (decimal_digit 0 (omega arith))
number_of-decimal (suc n) small =
    number_of-digits (decimal (suc n)) (digits_decimal numerals (suc n) small) (first_decimal (suc n) (omega arith) small)
    ∙ ap Some (digits_value-decimal numerals (suc n) small)

pub plain-decimal : (n : ℕ) → n < 2 ^ 64 → IsPlain (decimal n)
plain-decimal n small = plain_by is_ascii_digit digits_of_words (decimal n) (decimal_nonempty n small) (digits_decimal numerals n small)

-- a number of 64 bits
pub wide_exact : IsExact decimal (λ n. n < 2 ^ 64) wide_of
wide_exact = record { again = again; spelled = spelled; plain = plain-decimal } where
  again : (n : ℕ) → n < 2 ^ 64 → wide_of (decimal n) ≡ Some n
  again n small =
      ap (option_and_then fitting) (number_of-decimal n small) ∙ cond-true (ltb n (2 ^ 64)) (Some n) None (lt-ltb n (2 ^ 64) small)

  spelled : (word : List ℕ) (n : ℕ) → wide_of word ≡ Some n → (word ≡ decimal n) × (n < 2 ^ 64)
  spelled word n said = option_and_then_some fitting (number_of word) n said
      (λ m is given.
      let found = cond_some (ltb m (2 ^ 64)) m n given in
      let small = ltb-true m (2 ^ 64) found.0 in
      subst (λ k. (word ≡ decimal k) × (k < 2 ^ 64)) found.1 (number_spelled word m is small, small))

-- a number below a bound of 32 bits
bounded_exact : (bound : ℕ) → 0 < bound → bound ≤ 2 ^ 32 → IsExact decimal (λ n. n < bound) (number_in 0 (bound - 1))
bounded_exact bound some most = record { again = again; spelled = spelled; plain = λ n small. plain-decimal n (omega arith) } where
  again : (n : ℕ) → n < bound → number_in 0 (bound - 1) (decimal n) ≡ Some n
  again n small =
      ap (option_and_then (λ m. cond (is_between 0 (bound - 1) m && ltb m (2 ^ 32)) (Some m) None)) (number_of-decimal n (omega arith))
      ∙ cond-true (is_between 0 (bound - 1) n && ltb n (2 ^ 32)) (Some n) None
      (and_from (is_between 0 (bound - 1) n) (ltb n (2 ^ 32)) (and_from (leb 0 n) (leb n (bound - 1)) (le-leb 0 n (omega arith)) (le-leb n (bound - 1) (omega arith)))
      (lt-ltb n (2 ^ 32) (omega arith)))

  spelled : (word : List ℕ) (n : ℕ) → number_in 0 (bound - 1) word ≡ Some n → (word ≡ decimal n) × (n < bound)
  spelled word n said =
      let found = number_in_spelled 0 (bound - 1) word n said in
      let within = leb-true n (bound - 1) (and_parts (leb 0 n) (leb n (bound - 1)) found.1).1 in
      (found.0, omega arith)

-- a number of 32 bits
pub narrow_exact : IsExact decimal (λ n. n < 2 ^ 32) narrow_of
narrow_exact = bounded_exact (2 ^ 32) (omega arith) (omega arith)

-- a number of 16 bits
pub short_exact : IsExact decimal (λ n. n < 2 ^ 16) short_of
short_exact = bounded_exact (2 ^ 16) (omega arith) (omega arith)

-- Behind a front.

-- what begins with a front is the front, and what stands behind it
begins_spelled : (front word : List ℕ) → begins front word ≡ true → word ≡ front ++ drop (length front) word
begins_spelled front word is =
    sym (take-append-drop (length front) word) ∙ ap (λ l. l ++ drop (length front) word) ((bytes_eq-Decides (take (length front) word) front).0 is)

chosen : {A : Type 0} (b : Bool) (o : Option A) (a : A) → cond b o None ≡ Some a → (b ≡ true) × (o ≡ Some a)
chosen true o a is = (refl, is)
chosen false o a is = absurd (none-some a is)

module _ {A : Type 0} (front : List ℕ) (of : List ℕ → Option A) where
  pub fronted-again : (word : List ℕ) → fronted front of (front ++ word) ≡ of word
  fronted-again word =
      cond-true (begins front (front ++ word)) (of (drop (length front) (front ++ word))) None ((bytes_eq-Decides (take (length front) (front ++ word)) front).1 (take-append_seam front word))
      ∙ ap of (drop-append_seam front word)

  pub fronted-spelled : (word : List ℕ) (a : A) → fronted front of word ≡ Some a → (rest : List ℕ) × (word ≡ front ++ rest) × (of rest ≡ Some a)
  fronted-spelled word a said =
      let found = chosen (begins front word) (of (drop (length front) word)) a said in
      (drop (length front) word, begins_spelled front word found.0, found.1)

-- the number of an admission
pub admission_exact : IsExact admission_word (λ n. n < 2 ^ 64) admission_of
admission_exact = record {
  again = λ n small. fronted-again admission_front wide_of (decimal n) ∙ wide_exact.again n small;
  spelled = spelled;
  plain = λ n small. plain (decimal n) (wide_exact.plain n small);
} where
  plain : (word : List ℕ) → IsPlain word → IsPlain (admission_front ++ word)
  plain [] is = absurd is
  plain (b ∷ bs) is = is

  spelled : (word : List ℕ) (n : ℕ) → admission_of word ≡ Some n → (word ≡ admission_word n) × (n < 2 ^ 64)
  spelled word n said =
      let found = fronted-spelled admission_front wide_of word n said in
      let exactly = wide_exact.spelled found.0 n found.2 in
      (found.1 ∙ ap (λ l. admission_front ++ l) exactly.0, exactly.1)
