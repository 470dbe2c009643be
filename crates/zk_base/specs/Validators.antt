use Rattle.std.specs.Prelude.{ℕ, Bool, true, nat_le, List, slice_get}
use Rattle.std.specs.Option.{option_map_or}
use Rattle.zk_base.specs.declared.validator.Valid.{Valid}
use Rattle.zk_base.specs.declared.validator.Valid.TheVariants as valids

-- the validator takes a message whose first byte isn't above its bound, or any message
abbrev pub is_valid : Valid → List ℕ → Bool
is_valid valids.Any message = true
is_valid (valids.Max bound) message = option_map_or (λ byte. nat_le byte bound) (slice_get message 0) true
