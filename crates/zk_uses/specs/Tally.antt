-- Inner: no contract of a top call is made of this file.
-- A small service for the tests: it counts its entries, and answers how many there were before.
use Rattle.std.specs.Prelude.{ℕ, ◌+◌, Bool, true, false, Some}
use Rattle.zk_base.specs.declared.ids.Who.{Who}
use Rattle.zk_base.specs.Legal.{Machine}

abbrev pub tally_machine : Machine ℕ ℕ ℕ
tally_machine = record { reply_of = λ count who op. Some count; next = λ count who op. count + 1; in_range = λ count op. true }

abbrev pub tally_closes : ℕ → Who → ℕ → Bool
tally_closes count who op = false
