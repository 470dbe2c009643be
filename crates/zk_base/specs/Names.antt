use Rattle.std.specs.Prelude.{ℕ, Bool, false, not, ◌==◌, nat_lt, nat_le, ◌&&◌, ◌||◌, List, [], ◌∷◌, length, codes}
use Rattle.std.specs.List.{list_all}
use Rattle.std.specs.Str.{bytes_eq}
use Rattle.zk_base.specs.Limits.{longest_name}

-- the bytes a to z
abbrev pub is_lower : ℕ → Bool
is_lower b = nat_le 97 b && nat_le b 122

-- what can stand behind a name's first letter: a to z, 0 to 9, and `_`
abbrev pub is_name_byte : ℕ → Bool
is_name_byte b = is_lower b || nat_le 48 b && nat_le b 57 || b == 95

-- a lower-case letter, then at most 15 lower-case letters, digits and `_`
abbrev pub is_spelled : List ℕ → Bool
is_spelled [] = false
is_spelled (b ∷ bs) = is_lower b && nat_lt (length bs) longest_name && list_all is_name_byte bs

-- a word that a trace has in places where a name can stand
abbrev pub is_reserved : List ℕ → Bool
is_reserved text =
    bytes_eq text (codes "work") || bytes_eq text (codes "clock") || bytes_eq text (codes "table")
    || bytes_eq text (codes "wait") || bytes_eq text (codes "again") || bytes_eq text (codes "nomsg")

-- spelled as a name, and not reserved
abbrev pub is_name : List ℕ → Bool
is_name text = is_spelled text && not (is_reserved text)
