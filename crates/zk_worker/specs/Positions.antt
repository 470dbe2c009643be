-- Inner: no contract of a top call is made of this file.
use Rattle.std.specs.Prelude.{ℕ, Bool, nat_le, List, length}
use Rattle.zk_line.specs.declared.events.TheConstants.{MOST_EVENTS}

-- there are no more positions than a poll has events
abbrev pub are_few : List ℕ → Bool
are_few positions = nat_le (length positions) MOST_EVENTS
