-- Inner: no contract of a top call is made of this file.
use Rattle.std.specs.Prelude.{ℕ, ◌^◌, ◌-◌, ◌/◌, ◌%◌, Bool, not, ◌==◌, ◌&&◌, bit_and, bit_or, nat_lt, List, slice_index}
use Rattle.zk_base.specs.Limits.{most_players}
use Rattle.zk_player_set.specs.declared.player_set.PlayerSet.{PlayerSet}

-- the bits of a word
abbrev pub word_bits : ℕ
word_bits = 64

-- the bit is set
abbrev pub has_bit : ℕ → ℕ → Bool
has_bit word bit = not (bit_and word (2 ^ bit) == 0)

-- the same word with the bit set, and without it
abbrev pub with_bit : ℕ → ℕ → ℕ
with_bit word bit = bit_or word (2 ^ bit)

abbrev pub without_bit : ℕ → ℕ → ℕ
without_bit word bit = bit_and word (2 ^ word_bits - 1 - 2 ^ bit)

-- the bit of a player is set: the words follow each other
abbrev pub has_player : List ℕ → ℕ → Bool
has_player words player = has_bit (slice_index words (player / word_bits)) (player % word_bits)

-- the player is in the set: a scenario can have it, and its bit is set
abbrev pub has : PlayerSet → ℕ → Bool
has players player = nat_lt player most_players && has_player players.words player
