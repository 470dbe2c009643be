use Rattle.std.specs.Prelude.{ℕ, Bool, nat_le, List, length}
use Rattle.zk_base.specs.Limits.{most_few}

-- so many numbers are a short list
abbrev pub is_few : List ℕ → Bool
is_few numbers = nat_le (length numbers) most_few
