-- What messages a channel takes has one spelling.
use Rattle.std.proofs.Common.{◌≡◌, ℕ, ◌+◌, ◌*◌, Bool, true, false, cond, ◌&&◌, List, [], ◌∷◌, ◌++◌, take, drop, codes, Option, Some, None, refl, sym, ap, ◌∙◌}
use Rattle.std.specs.Prelude.{option_map}
use Rattle.std.specs.Str.{bytes_eq}
use Rattle.std.specs.Cmp.Lexicographic.{bytes_decides}
use Rattle.std.proofs.lemmas.Bool.{and_parts}
use Rattle.std.proofs.lemmas.List.{take-append-drop}
use Rattle.std.proofs.lemmas.Option.{cond_some, same_Some}
use Rattle.zk_base.specs.declared.validator.Valid.{Valid}
use Rattle.zk_base.specs.declared.validator.Valid.TheVariants.{Any, Max}
use Rattle.zk_words.specs.Events.{begins}
use Rattle.zk_words.specs.Hex.{is_digit, digit_value, byte_text}
use Rattle.zk_words.specs.Validators.{byte_of, validator_of, validator_text}
use Rattle.zk_words.proofs.HexText.{byte-is}

byte_spelled : (word : List ℕ) (byte : ℕ) → byte_of word ≡ Some byte → word ≡ byte_text byte
byte_spelled [] byte said = absurd (cc)
byte_spelled (high ∷ []) byte said = absurd (cc)
byte_spelled (high ∷ low ∷ []) byte said =
    let found = cond_some (is_digit high && is_digit low) (digit_value high * 16 + digit_value low) byte said in
    let both = and_parts (is_digit high) (is_digit low) found.0 in
    sym (byte-is high low both.0 both.1) ∙ ap byte_text found.1
byte_spelled (high ∷ low ∷ more ∷ word) byte said = absurd (cc)

bound_spelled : (word : List ℕ) (valid : Valid) (bound : Option ℕ) → begins (codes "max:") word ≡ true → byte_of (drop 4 word) ≡ bound → option_map Max bound ≡ Some valid → word ≡ validator_text valid
bound_spelled word valid None front said given = absurd (cc)
bound_spelled word valid (Some bound) front said given =
    sym (take-append-drop 4 word) ∙ ap (λ xs. xs ++ drop 4 word) ((bytes_decides (take 4 word) (codes "max:")).0 front)
    ∙ ap (λ xs. codes "max:" ++ xs) (byte_spelled (drop 4 word) bound said) ∙ ap validator_text (same_Some (Max bound) valid given)

-- a word that says what messages a channel takes is the text of that
pub validator_spelled : (word : List ℕ) (valid : Valid) → validator_of word ≡ Some valid → word ≡ validator_text valid
validator_spelled word valid said = by_any (bytes_eq word (codes "any")) refl said where
  by_max : (b : Bool) → begins (codes "max:") word ≡ b → cond b (option_map Max (byte_of (drop 4 word))) None ≡ Some valid → word ≡ validator_text valid
  by_max true same here = bound_spelled word valid (byte_of (drop 4 word)) same refl here
  by_max false same here = absurd (cc)

  by_any : (b : Bool) → bytes_eq word (codes "any") ≡ b → cond b (Some Any) (cond (begins (codes "max:") word) (option_map Max (byte_of (drop 4 word))) None) ≡ Some valid → word ≡ validator_text valid
  by_any true same here = (bytes_decides word (codes "any")).0 same ∙ ap validator_text (same_Some Any valid here)
  by_any false same here = by_max (begins (codes "max:") word) refl here
