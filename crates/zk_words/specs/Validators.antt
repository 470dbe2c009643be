use Rattle.std.specs.Prelude.{ℕ, ◌+◌, ◌*◌, ◌&&◌, Option, Some, None, List, [], ◌∷◌, ◌++◌, drop, option_map, codes, if◌then◌else◌}
use Rattle.std.specs.Str.{bytes_eq}
use Rattle.zk_base.specs.declared.validator.Valid.{Valid}
use Rattle.zk_base.specs.declared.validator.Valid.TheVariants.{Any, Max}
use Rattle.zk_words.specs.Events.{begins}
use Rattle.zk_words.specs.Hex.{is_digit, digit_value, byte_text}

-- the byte that two digits spell
abbrev pub byte_of : List ℕ → Option ℕ
byte_of (high ∷ low ∷ []) =
    if is_digit high && is_digit low then Some (digit_value high * 16 + digit_value low) else None
byte_of word = None

-- what messages a channel takes, as a word says it: all, or those whose first byte isn't above a bound
abbrev pub validator_of : List ℕ → Option Valid
validator_of word =
    if bytes_eq word (codes "any") then Some Any else
    if begins (codes "max:") word then option_map Max (byte_of (drop 4 word)) else None

-- the one spelling of what messages a channel takes
abbrev pub validator_text : Valid → List ℕ
validator_text Any = codes "any"
validator_text (Max bound) = codes "max:" ++ byte_text bound
