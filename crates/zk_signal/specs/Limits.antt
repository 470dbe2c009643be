-- Inner: no contract of a top call is made of this file.
-- How many passes and writes a shared signal has at most.
use Rattle.std.specs.Prelude.{ℕ, ◌*◌}

-- the most writes of one player
abbrev pub most_writes : ℕ
most_writes = 20000

-- the most players that share a signal
abbrev pub most_players : ℕ
most_players = 256

-- the most writes of all players, and so the greatest stamp
abbrev pub most_stamps : ℕ
most_stamps = most_writes * most_players
