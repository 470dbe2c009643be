use Rattle.std.specs.Prelude.{ℕ, ◌-◌, ◌^◌}

-- the most players of a scenario: its threads, and a worker for each of its queues
abbrev pub most_players : ℕ
most_players = 256

-- the most entries of a history: their places, and one more, are numbers of 32 bits
abbrev pub most_entries : ℕ
most_entries = 2 ^ 32 - 1

-- the most bytes of a message
abbrev pub longest_message : ℕ
longest_message = 64

-- the most bytes of a name
abbrev pub longest_name : ℕ
longest_name = 16

-- the most numbers of a short list
abbrev pub most_few : ℕ
most_few = 8

-- the most messages of a message queue, and the most channels in a subscriber's list
abbrev pub most_held : ℕ
most_held = 256
