use Rattle.std.specs.Prelude.{ℕ, nat_le, length, if◌then◌else◌}
use Rattle.zk_scenario.specs.declared.scenario.TheConstants.{FEW_PLAYERS, MOST_STEPS, STEPS_OF_MANY}
use Rattle.zk_scenario.specs.Content.{Content}
use Rattle.zk_scenario.specs.Players.{players}

-- how many steps each of so many players may make: fewer where the players are many, so that together they make no more
abbrev pub steps_by : ℕ → ℕ
steps_by count = if nat_le count FEW_PLAYERS then MOST_STEPS else STEPS_OF_MANY

-- how many steps each player of a scenario may make
abbrev pub steps_of : Content → ℕ
steps_of s = steps_by (length (players s.decls))
