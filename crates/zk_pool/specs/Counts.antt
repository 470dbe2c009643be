-- Inner: no contract of a top call is made of this file.
-- How often numbers stand in a list.
use Rattle.std.specs.Prelude.{ℕ, ◌==◌, List}
use Rattle.std.specs.List.{count_by}
use Rattle.zk_base.specs.Lists.{without_first}

-- how often a number stands in a list
abbrev pub tally : ℕ → List ℕ → ℕ
tally n ns = count_by (λ m. n == m) ns

-- the list with the number once less, without its first place
abbrev pub without : ℕ → List ℕ → List ℕ
without n ns = without_first (λ m. n == m) ns
