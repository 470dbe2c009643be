-- Inner: no contract of a top call is made of this file.
use Rattle.std.specs.Prelude.{ℕ, Bool, nat_le, ◌&&◌}
use Rattle.zk_base.specs.Limits.{longest_message, most_held}

-- messages of 1 to 64 bytes, and 1 to 256 of them
abbrev pub is_size : ℕ → ℕ → Bool
is_size size most = nat_le 1 size && nat_le size longest_message && nat_le 1 most && nat_le most most_held
