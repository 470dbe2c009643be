use Rattle.zk_base.specs.Limits.{most_entries}
use Rattle.std.specs.Prelude.{ℕ, ◌+◌, ◌-◌, ◌*◌, ◌^◌, ◌≤◌, Bool, true, false, nat_le, ◌==◌, ◌&&◌, if◌then◌else◌, Option, Some, None, is_some, List, [], ◌∷◌, ◌++◌, length}
use Rattle.std.specs.List.{list_any}
use Rattle.zk_base.specs.declared.ids.Who.{Who}
use Rattle.zk_base.specs.Legal.{Machine}
use Rattle.zk_model_wait.specs.declared.clock.Alarm.{Alarm}
use Rattle.zk_model_wait.specs.declared.clock.ClockOp.{ClockOp}
use Rattle.zk_model_wait.specs.declared.clock.ClockOp.TheVariants as ops
use Rattle.zk_model_wait.specs.declared.clock.ClockReply.{ClockReply}
use Rattle.zk_model_wait.specs.declared.clock.ClockReply.TheVariants.{Now, At, Due}
use Rattle.zk_base.specs.Lists.{without_first}

-- the state of the clock: the ticks so far, the number of entries so far,
-- and the alarms that haven't ended, in the order in which they were set
pub record Clock : Type 0 where
  pub time : ℕ
  pub entries : ℕ
  pub alarms : List Alarm

-- what a contract sees of the clock that is kept: its state, and how many alarms it takes without memory
pub record ClockView : Type 0 where
  pub clock : Clock
  pub room : ℕ

-- the state before the first entry
abbrev pub new_clock : Clock
new_clock = record { time = 0; entries = 0; alarms = [] }

-- there are fewer than 2^32 entries, and each of them added fewer than 2^32 ticks
pub record IsTimely (time entries : ℕ) : Type 0 where
  pub few : entries ≤ most_entries
  pub short : time ≤ entries * (2 ^ 32 - 1)

-- it is an alarm of this player and moment
abbrev pub is_alarm : ℕ → ℕ → Alarm → Bool
is_alarm player moment a = a.player == player && a.moment == moment

-- the player has an alarm of this moment
abbrev pub has_alarm : List Alarm → ℕ → ℕ → Bool
has_alarm alarms player moment = list_any (is_alarm player moment) alarms

-- and the moment has come
abbrev pub is_due : ℕ → List Alarm → ℕ → ℕ → Bool
is_due time alarms player moment = nat_le moment time && has_alarm alarms player moment

-- the reply to each operation, where it is possible
abbrev pub clock_reply : Clock → Who → ClockOp → Option ClockReply
clock_reply c who (ops.Announce ticks) = Some (Now (c.time + ticks))
clock_reply c who (ops.Alarm ticks) = Some (At (c.time + ticks))
clock_reply c who (ops.AlarmEnd moment) = if is_due c.time c.alarms who.number moment then Some Due else None

-- what each operation changes, where it is possible
abbrev pub changed : Clock → Who → ClockOp → Clock
changed c who (ops.Announce ticks) = record c { time = c.time + ticks }
changed c who (ops.Alarm ticks) =
    record c { alarms = c.alarms ++ record { player = who.number; moment = c.time + ticks } ∷ [] }
changed c who (ops.AlarmEnd moment) = record c { alarms = without_first (is_alarm who.number moment) c.alarms }

-- the state after an entry, which is counted
abbrev pub clock_next : Clock → Who → ClockOp → Clock
clock_next c who op = let after = changed c who op in record after { entries = c.entries + 1 }

-- the state after an operation with this reply: nothing changes where there is none
abbrev pub after_reply : Clock → Who → ClockOp → Option ClockReply → Clock
after_reply c who op reply = if is_some reply then clock_next c who op else c

-- the operation sets an alarm
abbrev pub sets_alarm : ClockOp → Bool
sets_alarm (ops.Alarm ticks) = true
sets_alarm _ = false

-- the entries that are owed: the end of each alarm
abbrev pub clock_owed : Clock → ℕ
clock_owed c = length c.alarms

-- the end of an alarm gives an entry that is owed
abbrev pub clock_closes : ClockOp → Bool
clock_closes (ops.AlarmEnd moment) = true
clock_closes _ = false

-- an operation names nothing that could be missing
abbrev pub in_range : Clock → ClockOp → Bool
in_range c op = true

-- the machine of the clock
abbrev pub clock_machine : Machine Clock ClockOp ClockReply
clock_machine = record { reply_of = clock_reply; next = clock_next; in_range = in_range }
