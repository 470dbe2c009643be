-- The laws of the entries that the clock owes, over all states and operations.
use Rattle.std.proofs.Common.{◌≡◌, ◌+◌, ◌≤◌, Bool, true, false, leb, cond, Some, None, is_some, refl, arith}
use Rattle.std.proofs.lemmas.List.{length-append}
use Rattle.std.specs.Cmp.{second_so}
use Rattle.zk_base.specs.declared.ids.Who.{Who}
use Rattle.zk_model_wait.specs.declared.clock.Alarm.{Alarm}
use Rattle.zk_model_wait.specs.declared.clock.ClockOp.{ClockOp}
use Rattle.zk_model_wait.specs.declared.clock.ClockOp.TheVariants as ops
use Rattle.zk_model_wait.specs.declared.clock.ClockReply.TheVariants.{Due}
use Rattle.zk_model_wait.specs.Clock.{Clock, is_alarm, has_alarm, is_due, in_range, clock_next, clock_reply, clock_owed, clock_closes}
use Rattle.zk_base.proofs.Firsts.{length-without, length-less}

-- each entry is counted
pub counts : (c : Clock) (who : Who) (op : ClockOp) → (clock_next c who op).entries ≡ c.entries + 1
counts c who (ops.Announce ticks) = refl
counts c who (ops.Alarm ticks) = refl
counts c who (ops.AlarmEnd moment) = refl

-- what is in range stays so
pub ranges : (c : Clock) (who : Who) (op : ClockOp) → in_range (clock_next c who op) ≡ in_range c
ranges c who op = refl

-- an operation adds at most two owed entries
pub adds : (c : Clock) (who : Who) (op : ClockOp) → clock_owed (clock_next c who op) ≤ clock_owed c + 2
adds c who (ops.Announce ticks) = omega arith
adds c who (ops.Alarm ticks) = omega (arith, length-append {A = Alarm})
adds c who (ops.AlarmEnd moment) = let less = length-less (is_alarm who.number moment) c.alarms in omega arith

-- an end that is possible was due
was_due : (b : Bool) → is_some (cond b (Some Due) None) ≡ true → b ≡ true
was_due true some = refl
was_due false some = some

-- the end of an alarm gives one
pub gives : (c : Clock) (who : Who) (op : ClockOp) → clock_closes op ≡ true → is_some (clock_reply c who op) ≡ true →
    1 + clock_owed (clock_next c who op) ≤ clock_owed c
gives c who (ops.Announce ticks) closes some = absurd (cc)
gives c who (ops.Alarm ticks) closes some = absurd (cc)
gives c who (ops.AlarmEnd moment) closes some =
    let due = was_due (is_due c.time c.alarms who.number moment) some in
    let due_is = second_so (leb moment c.time) (has_alarm c.alarms who.number moment) due in
    let one = length-without (is_alarm who.number moment) c.alarms due_is in
    omega arith
