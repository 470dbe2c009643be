use Rattle.std.specs.Prelude.{ℕ, nat_eq, Option, List}
use Rattle.std.specs.Cmp.Lexicographic.{pointwise}
use Rattle.std.specs.HashMap.{get_by}
use Rattle.zk_line.specs.declared.names.Names.{Names}

-- the number that stands under a name
abbrev pub by_name : Names → List ℕ → Option ℕ
by_name names name = get_by (λ k. pointwise nat_eq name k.items) names.numbers
