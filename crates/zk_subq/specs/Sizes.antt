-- Inner: no contract of a top call is made of this file.
use Rattle.std.specs.Prelude.{ℕ, Bool, nat_le, ◌&&◌}
use Rattle.zk_base.specs.Limits.{most_held}

-- a subscriber lists 1 to 256 channels
abbrev pub is_capacity : ℕ → Bool
is_capacity capacity = nat_le 1 capacity && nat_le capacity most_held
