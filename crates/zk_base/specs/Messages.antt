use Rattle.std.specs.Prelude.{ℕ, Bool, nat_le, ◌&&◌, List, length}
use Rattle.zk_base.specs.Limits.{longest_message}

-- a message has a byte, and no more than the longest has
abbrev pub is_message : List ℕ → Bool
is_message bytes = nat_le 1 (length bytes) && nat_le (length bytes) longest_message
