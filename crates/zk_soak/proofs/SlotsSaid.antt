-- What is said in a slot is read from its text: names of declared objects, numbers, messages and waits.
use Rattle.std.proofs.Common.{◌≡◌, ℕ, ◌+◌, ◌*◌, ◌/◌, ◌%◌, ◌<◌, ◌≤◌, Bool, true, false, eqb, nat_le, nat_lt, ◌&&◌, is_some, Option, None, Some, List, [], ◌∷◌, length, arith, refl, ap, ◌∙◌}
use Rattle.std.specs.Prelude.{option_map}
use Rattle.std.specs.Fmt.{decimal}
use Rattle.std.specs.List.{AllByRecursion, list_all}
use Rattle.std.specs.Option.{option_map_or}
use Rattle.std.proofs.lemmas.Bool.{agree_below_at, and_parts, and_from, cond-true, eqb-true, leb-true, le-leb, lt-ltb}
use Rattle.std.proofs.lemmas.List.Folds.{list_all-append}
use Rattle.zk_base.specs.Names.{is_spelled}
use Rattle.zk_base.specs.declared.kinds.Need.{Need}
use Rattle.zk_words.specs.declared.slot.Slot.TheVariants as slot
use Rattle.zk_words.specs.declared.timeout.Timeout.TheVariants.{No, Forever}
use Rattle.zk_words.specs.Hex.{is_digit, digit_value, digit_of, is_hex, bytes_of, byte_text, hex_text}
use Rattle.zk_words.specs.Numbers.{is_number, number_in}
use Rattle.zk_line.specs.declared.types.Arg.TheVariants.{Object, Number, Bytes, Wait}
use Rattle.zk_line.specs.declared.types.Decl.{Decl}
use Rattle.zk_line.specs.declared.types.Ref.TheVariants.{Known}
use Rattle.zk_line.specs.Args.{named_ref}
use Rattle.zk_line.specs.Checks.{is_size}
use Rattle.zk_line.specs.Objects.{object_of, name_at, is_at, is_met, plays_script}
use Rattle.zk_soak.proofs.Pieces.{is_plain, IsPlain}
use Rattle.zk_soak.proofs.WordsRead.{IsSaid}

-- an object's name is spelled as one, is short, and finds the object
pub record IsKnown (decls : List Decl) (k : ℕ) : Type 0 where
  pub plain : IsPlain (name_at decls k)
  pub short : length (name_at decls k) ≤ 8
  pub spelled : is_spelled (name_at decls k) ≡ true
  pub found : object_of decls (name_at decls k) ≡ Some k

-- the test of a number that was found
abbrev pub is_just : ℕ → Option ℕ → Bool
is_just n found = option_map_or (λ m. eqb m n) found false

pub just : (n : ℕ) (found : Option ℕ) → is_just n found ≡ true → found ≡ Some n
just n None is = absurd (cc)
just n (Some m) is = ap Some (eqb-true m n is)

-- an object that meets a need
pub object_said : (decls : List Decl) (size : Option ℕ) (need : Need) (k : ℕ) → IsKnown decls k → is_at (is_met need) decls k ≡ true → IsSaid decls size (slot.Object need) (Object (Known k))
object_said decls size need k known met = record {
  plain = known.plain;
  short = known.short;
  spelled = known.spelled;
  in_range = refl;
  named = ap (λ o. option_map_or (is_at (is_met need) decls) o false) known.found ∙ met;
  said = ap (λ o. option_map Object (named_ref o (name_at decls k))) known.found;
}

-- an object that plays a script
pub owner_said : (decls : List Decl) (size : Option ℕ) (k : ℕ) → IsKnown decls k → is_at plays_script decls k ≡ true → IsSaid decls size slot.Owner (Object (Known k))
owner_said decls size k known plays = record {
  plain = known.plain;
  short = known.short;
  spelled = known.spelled;
  in_range = refl;
  named = ap (λ o. option_map_or (is_at plays_script decls) o false) known.found ∙ plays;
  said = ap (λ o. option_map Object (named_ref o (name_at decls k))) known.found;
}

-- whether a number is read from its digits in a range
abbrev pub is_numbered : ℕ → ℕ → ℕ → Bool
is_numbered least most n =
    list_all is_plain (decimal n) && nat_le (length (decimal n)) 8 && is_number (decimal n) && is_just n (number_in least most (decimal n))

-- such a number
pub number_said : (decls : List Decl) (size : Option ℕ) (least most n : ℕ) → is_numbered least most n ≡ true → IsSaid decls size (slot.Number least most) (Number n)
number_said decls size least most n is =
    let last = and_parts (list_all is_plain (decimal n) && nat_le (length (decimal n)) 8 && is_number (decimal n)) (is_just n (number_in least most (decimal n))) is in
    let third = and_parts (list_all is_plain (decimal n) && nat_le (length (decimal n)) 8) (is_number (decimal n)) last.0 in
    let second = and_parts (list_all is_plain (decimal n)) (nat_le (length (decimal n)) 8) third.0 in
    let read = just n (number_in least most (decimal n)) last.1 in
    record {
      plain = second.0;
      short = leb-true (length (decimal n)) 8 second.1;
      spelled = third.1;
      in_range = ap is_some read;
      named = refl;
      said = ap (option_map Number) read;
    }

pub no_said : (decls : List Decl) (size : Option ℕ) → IsSaid decls size slot.Wait (Wait No)
no_said decls size = record { plain = refl; short = omega arith; spelled = refl; in_range = refl; named = refl; said = refl }

pub forever_said : (decls : List Decl) (size : Option ℕ) → IsSaid decls size slot.Wait (Wait Forever)
forever_said decls size = record { plain = refl; short = omega arith; spelled = refl; in_range = refl; named = refl; said = refl }

-- a byte is read from its two digits
record IsByte (b : ℕ) : Type 0 where
  plain : list_all is_plain (byte_text b) ≡ true
  digits : list_all is_digit (byte_text b) ≡ true
  value : digit_value (digit_of (b / 16)) * 16 + digit_value (digit_of (b % 16)) ≡ b

byte_is : (b : ℕ) → b < 256 → IsByte b
byte_is b small = record {
  plain = agree_below_at (λ n. list_all is_plain (byte_text n)) (λ n. true) 256 b refl small;
  digits = agree_below_at (λ n. list_all is_digit (byte_text n)) (λ n. true) 256 b refl small;
  value = eqb-true (digit_value (digit_of (b / 16)) * 16 + digit_value (digit_of (b % 16))) b (agree_below_at (λ n. eqb (digit_value (digit_of (n / 16)) * 16 + digit_value (digit_of (n % 16))) n) (λ n. true) 256 b refl small);
}

-- each is a byte
abbrev pub AreBytes : List ℕ → Type 0
AreBytes message = AllByRecursion (λ b. b < 256) message

hex_all : (test : ℕ → Bool) → ((b : ℕ) → b < 256 → list_all test (byte_text b) ≡ true) → (message : List ℕ) → AreBytes message → list_all test (hex_text message) ≡ true
hex_all test each [] are = refl
hex_all test each (b ∷ message) are =
    list_all-append test (byte_text b) (hex_text message)
    ∙ and_from (list_all test (byte_text b)) (list_all test (hex_text message)) (each b are.0) (hex_all test each message are.1)

hex_back : (message : List ℕ) → AreBytes message → bytes_of (hex_text message) ≡ message
hex_back [] are = refl
hex_back (b ∷ message) are = ap (λ n. n ∷ bytes_of (hex_text message)) (byte_is b are.0).value ∙ ap (λ ms. b ∷ ms) (hex_back message are.1)

hex_length : (message : List ℕ) → length (hex_text message) ≡ 2 * length message
hex_length [] = refl
hex_length (b ∷ message) = omega (arith, hex_length message)

-- a short message
pub message_said : (decls : List Decl) (message : List ℕ) → AreBytes message → 0 < length message → length message ≤ 4 → IsSaid decls (Some (length message)) slot.Hex (Bytes message)
message_said decls message are some few =
    let word = hex_text message in
    let long = hex_length message in
    let even : length word % 2 ≡ 0 = omega arith in
    let half : length word / 2 ≡ length message = omega arith in
    let digits = hex_all is_digit (λ b small. (byte_is b small).digits) message are in
    let within : nat_le (length word) 128 ≡ true = le-leb (length word) 128 (omega arith) in
    let hex : is_hex word ≡ true =
    and_from (list_all is_digit word && eqb (length word % 2) 0) (nat_lt 0 (length word)) (and_from (list_all is_digit word) (eqb (length word % 2) 0) digits (ap (λ n. eqb n 0) even)) (lt-ltb 0 (length word) (omega arith)) in
    record {
      plain = hex_all is_plain (λ b small. (byte_is b small).plain) message are;
      short = omega arith;
      spelled = hex;
      in_range = and_from (nat_le (length word) 128) (is_size (Some (length message)) (length word / 2)) within (ap (λ n. eqb n (length message)) half ∙ itself (length message));
      named = refl;
      said = ap (option_map Bytes) (cond-true (is_hex word && nat_le (length word) 128) (Some (bytes_of word)) None (and_from (is_hex word) (nat_le (length word) 128) hex within) ∙ ap Some (hex_back message are));
    } where
      itself : (n : ℕ) → eqb n n ≡ true
      itself n = grind arith
