-- A message has one spelling in hexadecimal digits, two for each byte.
use Rattle.std.proofs.Common.{◌≡◌, ℕ, ◌+◌, ◌-◌, ◌*◌, ◌/◌, ◌%◌, ◌<◌, true, nat_le, nat_lt, ◌&&◌, eqb, List, [], ◌∷◌, ◌++◌, length, Some, refl, sym, ap, ◌∙◌, arith, inl, inr}
use Rattle.std.specs.List.{list_all}
use Rattle.std.proofs.lemmas.Bool.{and_parts, or_cases, eqb-true, leb-true, le-ltb, cond-true, cond-false, lt-ltb}
use Rattle.std.proofs.lemmas.Option.{cond_some}
use Rattle.zk_base.specs.Limits.{longest_message}
use Rattle.zk_words.specs.Bytes.{digit_0, digit_9, letter_a, letter_f}
use Rattle.zk_words.specs.Hex.{is_digit, digit_value, digit_of, is_hex, bytes_of, msg_of, byte_text, hex_text}
use Rattle.zk_words.specs.Numbers.{is_between}

-- a digit is the one that is worth as much as it, and is worth less than 16
digit-is : (b : ℕ) → is_digit b ≡ true → (digit_of (digit_value b) ≡ b) × (digit_value b < 16)
digit-is b is = elim (or_cases (is_between digit_0 digit_9 b) (is_between letter_a letter_f b) is) [
  | inl figure ↦
      let both = and_parts (nat_le digit_0 b) (nat_le b digit_9) figure in
      let least = leb-true digit_0 b both.0 in
      let most = leb-true b digit_9 both.1 in
      let value : digit_value b ≡ b - digit_0 = cond-true (nat_lt b letter_a) (b - digit_0) (b - letter_a + 10) (lt-ltb b letter_a (omega arith)) in (
        ap digit_of value ∙ cond-true (nat_lt (b - digit_0) 10) (b - digit_0 + digit_0) (b - digit_0 - 10 + letter_a) (lt-ltb (b - digit_0) 10 (omega arith)) ∙ omega arith,
        omega (arith, value),
      )
  | inr letter ↦
      let both = and_parts (nat_le letter_a b) (nat_le b letter_f) letter in
      let least = leb-true letter_a b both.0 in
      let most = leb-true b letter_f both.1 in
      let value : digit_value b ≡ b - letter_a + 10 = cond-false (nat_lt b letter_a) (b - digit_0) (b - letter_a + 10) (le-ltb b letter_a (omega arith)) in (
        ap digit_of value ∙ cond-false (nat_lt (b - letter_a + 10) 10) (b - letter_a + 10 + digit_0) (b - letter_a + 10 - 10 + letter_a) (le-ltb (b - letter_a + 10) 10 (omega arith)) ∙ omega arith,
        omega (arith, value),
      )
]

high_half : (high low : ℕ) → low < 16 → (high * 16 + low) / 16 ≡ high
high_half high low small = omega arith

low_half : (high low : ℕ) → low < 16 → (high * 16 + low) % 16 ≡ low
low_half high low small = omega arith

-- the two digits of the byte that they spell
pub byte-is : (high low : ℕ) → is_digit high ≡ true → is_digit low ≡ true → byte_text (digit_value high * 16 + digit_value low) ≡ high ∷ low ∷ []
byte-is high low first second =
    let h = digit-is high first in
    let l = digit-is low second in
    ap (λ n. digit_of n ∷ digit_of ((digit_value high * 16 + digit_value low) % 16) ∷ []) (high_half (digit_value high) (digit_value low) l.1)
    ∙ ap (λ n. digit_of (digit_value high) ∷ digit_of n ∷ []) (low_half (digit_value high) (digit_value low) l.1)
    ∙ ap (λ n. n ∷ digit_of (digit_value low) ∷ []) h.0 ∙ ap (λ n. high ∷ n ∷ []) l.0

-- digits are the text of the bytes that they spell, of which there are half as many
pairs-spelled : (word : List ℕ) → list_all is_digit word ≡ true → length word % 2 ≡ 0 → (word ≡ hex_text (bytes_of word)) × (length word ≡ 2 * length (bytes_of word))
pairs-spelled [] digits even = (refl, refl)
pairs-spelled (digit ∷ []) digits even = absurd (cc)
pairs-spelled (high ∷ low ∷ word) digits even =
    let first = and_parts (is_digit high) (is_digit low && list_all is_digit word) digits in
    let second = and_parts (is_digit low) (list_all is_digit word) first.1 in
    let rest = pairs-spelled word second.1 (omega (arith, even)) in (
      ap (λ more. high ∷ low ∷ more) rest.0 ∙ ap (λ pair. pair ++ hex_text (bytes_of word)) (sym (byte-is high low first.0 second.0)),
      omega (arith, rest.1),
    )

-- the digits of a message are the message's text, two for each byte
abbrev pub SpellsMessage : List ℕ → List ℕ → Type 0
SpellsMessage word message = (word ≡ hex_text message) × (length word ≡ 2 * length message)

-- a word that spells a message is the message's text
pub msg_spelled : (word message : List ℕ) → msg_of word ≡ Some message → SpellsMessage word message
msg_spelled word message said =
    let found = cond_some (is_hex word && nat_le (length word) (2 * longest_message)) (bytes_of word) message said in
    let hex = and_parts (is_hex word) (nat_le (length word) (2 * longest_message)) found.0 in
    let some = and_parts (list_all is_digit word && eqb (length word % 2) 0) (nat_lt 0 (length word)) hex.0 in
    let pairs = and_parts (list_all is_digit word) (eqb (length word % 2) 0) some.0 in
    let spelled = pairs-spelled word pairs.0 (eqb-true (length word % 2) 0 pairs.1) in
    (spelled.0 ∙ ap hex_text found.1, spelled.1 ∙ ap (λ bytes. 2 * length bytes) found.1)
