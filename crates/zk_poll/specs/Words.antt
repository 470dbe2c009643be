-- Inner: no contract of a top call is made of this file.
use Rattle.std.specs.Prelude.{ℕ, zero, suc, ◌+◌, if◌then◌else◌}
use Rattle.zk_base.specs.declared.seen.Seen.{Seen}
use Rattle.zk_model_wait.specs.Signal.{Signal, signal_seen}

-- the word of a value: its result, and 65,536 where it is raised
abbrev pub word_of : Seen → ℕ
word_of seen = if seen.raised then seen.result + 65536 else 0

-- the word of the index 0 is that of the signal's value, and there is no other
abbrev pub signal_word : Signal → ℕ → ℕ
signal_word s zero = word_of (signal_seen s)
signal_word s (suc index) = 0
