use Rattle.std.specs.Prelude.{ℕ, ◌+◌, ◌-◌, ◌*◌, ◌/◌, ◌%◌, Bool, ◌==◌, nat_le, nat_lt, ◌&&◌, ◌||◌, Option, Some, None, List, [], ◌∷◌, length, if◌then◌else◌}
use Rattle.std.specs.List.{list_all, flat_map}
use Rattle.zk_base.specs.Limits.{longest_message}
use Rattle.zk_words.specs.Bytes.{digit_0, digit_9, letter_a, letter_f}
use Rattle.zk_words.specs.Numbers.{is_between}

-- a lower-case hexadecimal digit: 0 to 9, or a to f
abbrev pub is_digit : ℕ → Bool
is_digit b = is_between digit_0 digit_9 b || is_between letter_a letter_f b

-- what a digit is worth
abbrev pub digit_value : ℕ → ℕ
digit_value b = if nat_lt b letter_a then b - digit_0 else b - letter_a + 10

-- the digit that is worth so much
abbrev pub digit_of : ℕ → ℕ
digit_of n = if nat_lt n 10 then n + digit_0 else n - 10 + letter_a

-- an even number of digits, more than none
abbrev pub is_hex : List ℕ → Bool
is_hex word = list_all is_digit word && length word % 2 == 0 && nat_lt 0 (length word)

-- the bytes that pairs of digits spell
abbrev pub bytes_of : List ℕ → List ℕ
bytes_of [] = []
bytes_of (digit ∷ []) = []
bytes_of (high ∷ low ∷ digits) = (digit_value high * 16 + digit_value low) ∷ bytes_of digits

-- the message that a word spells, if it isn't longer than the longest
abbrev pub msg_of : List ℕ → Option (List ℕ)
msg_of word = if is_hex word && nat_le (length word) (2 * longest_message) then Some (bytes_of word) else None

-- the two digits of a byte
abbrev pub byte_text : ℕ → List ℕ
byte_text b = digit_of (b / 16) ∷ digit_of (b % 16) ∷ []

-- the one spelling of bytes: two digits for each
abbrev pub hex_text : List ℕ → List ℕ
hex_text bytes = flat_map byte_text bytes
