-- Inner: no contract of a top call is made of this file.
use Rattle.std.specs.Prelude.{ℕ, nat_lt, if◌then◌else◌}
use Rattle.zk_model_work.specs.State.{State}
use Rattle.zk_model_work.specs.Machine.{flags_of}

-- the most items of a scenario, each of which has a word
abbrev pub most_items : ℕ
most_items = 256

-- the most queues of a scenario
abbrev pub most_queues : ℕ
most_queues = 8

-- the word of an index: the busy flags of the item of this number, and 0 where there is no such item
abbrev pub work_word : State → ℕ → ℕ
work_word s index = if nat_lt index s.items then flags_of s index else 0
