-- A wrong signal and wrong clocks. Of each a short history that it lets stand, and the law that is false of it.
use Rattle.std.proofs.Common.{◌≡◌, refl, ap, arith}
use Rattle.std.specs.Prelude.{◌+◌, ◌-◌, ◌≤◌, nat_le, ◌&&◌, if◌then◌else◌, Option, Some, None, unwrap_or, slice_get, [], ◌∷◌, ◌++◌}
use Rattle.zk_base.specs.declared.ids.Who.{Who}
use Rattle.zk_base.specs.declared.seen.Seen.{Seen}
use Rattle.zk_base.specs.History.{entry}
use Rattle.zk_base.specs.Legal.{Machine, Replays, state_after}
use Rattle.zk_model_wait.specs.declared.signal.SignalOp.{SignalOp}
use Rattle.zk_model_wait.specs.declared.signal.SignalOp.TheVariants as writes
use Rattle.zk_model_wait.specs.declared.signal.SignalReply.{SignalReply}
use Rattle.zk_model_wait.specs.declared.signal.SignalReply.TheVariants.{Stamp}
use Rattle.zk_model_wait.specs.declared.clock.ClockOp.{ClockOp}
use Rattle.zk_model_wait.specs.declared.clock.ClockOp.TheVariants as ops
use Rattle.zk_model_wait.specs.declared.clock.ClockReply.{ClockReply}
use Rattle.zk_model_wait.specs.declared.clock.ClockReply.TheVariants.{Now, At, Due}
use Rattle.zk_model_wait.specs.Signal.{Signal, new_signal, signal_machine, value_at, raised_at}
use Rattle.zk_model_wait.specs.SignalLaws.{SignalHistory, TellsWrite}
use Rattle.zk_model_wait.specs.Clock.{Clock, new_clock, clock_reply, clock_next, clock_machine, has_alarm}
use Rattle.zk_model_wait.specs.ClockLaws.{ClockHistory, DueWhenItsMomentHasCome, EachEndsOnce}
use Rattle.zk_wrong_machines.proofs.Players.{one, other}

-- a raise that keeps the result of the first write
abbrev pub next_keeping_the_first : Signal → Who → SignalOp → Signal
next_keeping_the_first s who op = record { writes = s.writes ++ unwrap_or (slice_get s.writes 0) op ∷ [] }

abbrev pub raise_keeps_the_first_result : Machine Signal SignalOp SignalReply
raise_keeps_the_first_result = record signal_machine { next = next_keeping_the_first }

abbrev pub raised_twice : SignalHistory
raised_twice = entry one 0 (writes.Raise 1) (Stamp 1) ∷ entry other 0 (writes.Raise 2) (Stamp 2) ∷ []

pub raised_twice-replays : Replays raise_keeps_the_first_result new_signal raised_twice
raised_twice-replays = (refl, (refl, tt))

-- what a look at the second stamp finds isn't what its write left
pub raised_twice-refused :
    TellsWrite (writes.Raise 2) 2 (value_at (state_after raise_keeps_the_first_result new_signal raised_twice).writes 2) → ⊥
raised_twice-refused tells =
    let is : ◌≡◌ {A = Seen} (raised_at 2 1) (raised_at 2 2) = tells.raised 2 refl in
    omega (arith, ap (λ s. s.result) is)

-- an alarm that ends a tick early
abbrev pub reply_early : Clock → Who → ClockOp → Option ClockReply
reply_early c who (ops.AlarmEnd moment) =
    if nat_le (moment - 1) c.time && has_alarm c.alarms who.number moment then Some Due else None
reply_early c who op = clock_reply c who op

abbrev pub ends_a_tick_early : Machine Clock ClockOp ClockReply
ends_a_tick_early = record clock_machine { reply_of = reply_early }

abbrev pub early : ClockHistory
early = entry one 0 (ops.Alarm 2) (At 2) ∷ entry other 0 (ops.Announce 1) (Now 1) ∷ entry one 1 (ops.AlarmEnd 2) Due ∷ []

pub early-replays : Replays ends_a_tick_early new_clock early
early-replays = (refl, (refl, (refl, tt)))

pub early-refused : DueWhenItsMomentHasCome early → ⊥
early-refused due =
    let front = entry one 0 (ops.Alarm 2) (At 2) ∷ entry other 0 (ops.Announce 1) (Now 1) ∷ [] in
    let come : 2 ≤ 1 = (due front [] (entry one 1 (ops.AlarmEnd 2) Due) 2 refl refl).2 in
    omega (arith, come)

-- an alarm that stays when it has ended
abbrev pub next_staying : Clock → Who → ClockOp → Clock
next_staying c who (ops.AlarmEnd moment) = record c { entries = c.entries + 1 }
next_staying c who op = clock_next c who op

abbrev pub alarm_ends_twice : Machine Clock ClockOp ClockReply
alarm_ends_twice = record clock_machine { next = next_staying }

abbrev pub ended_twice : ClockHistory
ended_twice = entry one 0 (ops.Alarm 0) (At 0) ∷ entry one 1 (ops.AlarmEnd 0) Due ∷ entry one 2 (ops.AlarmEnd 0) Due ∷ []

pub ended_twice-replays : Replays alarm_ends_twice new_clock ended_twice
ended_twice-replays = (refl, (refl, (refl, tt)))

pub ended_twice-refused : EachEndsOnce ended_twice → ⊥
ended_twice-refused once =
    let most : 2 ≤ 1 = once 0 0 in
    omega (arith, most)
