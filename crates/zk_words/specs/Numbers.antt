use Rattle.std.specs.Prelude.{ℕ, ◌^◌, ◌-◌, min, ℤ, pos, neg_ℤ, ◌≤ℤ◌, Bool, false, not, ◌==◌, nat_le, nat_lt, ◌&&◌, ◌||◌, List, [], ◌∷◌, length, Option, Some, None, option_map, option_and_then, if◌then◌else◌}
use Rattle.std.specs.Char.{is_ascii_digit}
use Rattle.std.specs.List.{list_all}
use Rattle.std.specs.Str.Parse.{digits_value}
use Rattle.zk_words.specs.declared.limits.TheConstants.{GREATEST_PRIORITY, LEAST_PRIORITY}
use Rattle.zk_words.specs.Bytes.{digit_0, minus}

-- one decimal digit or more, where a zero stands first only alone
abbrev pub is_number : List ℕ → Bool
is_number [] = false
is_number (b ∷ bs) = list_all is_ascii_digit (b ∷ bs) && (not (b == digit_0) || length bs == 0)

-- the number that a word spells, of any size
abbrev pub number_of : List ℕ → Option ℕ
number_of word = if is_number word then Some (digits_value 10 word) else None

-- the nearest number of 64 bits
abbrev pub saturated : ℕ → ℕ
saturated n = min n (2 ^ 64 - 1)

-- the number, nothing where it is past 64 bits
abbrev pub fitting : ℕ → Option ℕ
fitting n = if nat_lt n (2 ^ 64) then Some n else None

-- the number of 64 bits that a word spells
abbrev pub exact_number_of : List ℕ → Option ℕ
exact_number_of word = option_and_then fitting (number_of word)

-- whether a number is in a range
abbrev pub is_between : ℕ → ℕ → ℕ → Bool
is_between least most n = nat_le least n && nat_le n most

-- the number of 32 bits in a range that a word spells
abbrev pub number_in : ℕ → ℕ → List ℕ → Option ℕ
number_in least most word =
    option_and_then (λ n. if is_between least most n && nat_lt n (2 ^ 32) then Some n else None) (number_of word)

-- the priority n, nothing where it is out of its range
abbrev pub priority_above : ℕ → Option ℤ
priority_above n = if nat_le n GREATEST_PRIORITY then Some (pos n) else None

-- the priority -n, likewise; `-0` is no spelling
abbrev pub priority_below : ℕ → Option (Option ℤ)
priority_below n = if n == 0 then None else Some (if nat_le n LEAST_PRIORITY then Some (neg_ℤ (pos n)) else None)

-- what a word says as a priority: no spelling of one, one out of its range, or one in it
abbrev pub priority_of : List ℕ → Option (Option ℤ)
priority_of [] = None
priority_of (b ∷ bs) =
    if b == minus then option_and_then priority_below (number_of bs) else option_map priority_above (number_of (b ∷ bs))

-- a priority in its range
abbrev pub IsPriority : Option ℤ → Type 0
IsPriority None = ⊥
IsPriority (Some prio) = (neg_ℤ (pos LEAST_PRIORITY) ≤ℤ prio) × (prio ≤ℤ pos GREATEST_PRIORITY)
