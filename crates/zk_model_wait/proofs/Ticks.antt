-- The time of the clock, and what is told of it.
use Rattle.std.proofs.Common.{◌≡◌, ◌+◌, [], ◌∷◌, ◌++◌, Some, refl, sym, ap, subst, ◌∙◌, arith}
use Rattle.std.specs.List.{sum_by}
use Rattle.std.proofs.lemmas.List.Sums.{sum_by-cons}
use Rattle.std.proofs.lemmas.Option.{same_Some}
use Rattle.zk_base.specs.declared.ids.Who.{Who}
use Rattle.zk_base.specs.declared.ids.Entry.{Entry}
use Rattle.zk_base.specs.Legal.{state_after, Replays}
use Rattle.zk_base.proofs.Histories.{state_after-append, Replays-rest}
use Rattle.zk_model_wait.specs.declared.clock.ClockOp.{ClockOp}
use Rattle.zk_model_wait.specs.declared.clock.ClockOp.TheVariants as ops
use Rattle.zk_model_wait.specs.declared.clock.ClockReply.{ClockReply}
use Rattle.zk_model_wait.specs.declared.clock.ClockReply.TheVariants.{Now, At}
use Rattle.zk_model_wait.specs.Clock.{Clock, new_clock, clock_reply, clock_next, clock_machine}
use Rattle.zk_model_wait.specs.ClockLaws.{ClockHistory, time_after, clock_after, ticks_of, IsClockHistory, OfEach, TimeIsAllTicks, TimeNeverFalls, AnnounceTellsTheTime, AlarmTellsItsMoment, MayAlways}

time-next : (c : Clock) (who : Who) (op : ClockOp) → (clock_next c who op).time ≡ c.time + ticks_of op
time-next c who (ops.Announce ticks) = refl
time-next c who (ops.Alarm ticks) = omega arith
time-next c who (ops.AlarmEnd moment) = omega arith

time-state : (c : Clock) (h : ClockHistory) →
    (state_after clock_machine c h).time ≡ c.time + sum_by (λ (e : Entry ClockOp ClockReply). ticks_of e.op) h
time-state c [] = omega arith
time-state c (e ∷ es) =
    let here = time-next c e.who e.op in
    let rest = time-state (clock_next c e.who e.op) es in
    omega (arith, sum_by-cons (λ (e : Entry ClockOp ClockReply). ticks_of e.op) e es)

pub time_is_all_ticks : (h : ClockHistory) → TimeIsAllTicks h
time_is_all_ticks h = let all = time-state new_clock h in omega arith

pub time_never_falls : (h : ClockHistory) → TimeNeverFalls h
time_never_falls h front rest parts =
    let both : time_after h ≡ (state_after clock_machine (clock_after front) rest).time =
    ap time_after parts ∙ ap (λ (c : Clock). c.time) (state_after-append clock_machine new_clock front rest) in
    let later = time-state (clock_after front) rest in
    omega arith

pub may_always : (h : ClockHistory) → MayAlways h
may_always h who (ops.Announce ticks) never = (_, refl)
may_always h who (ops.Alarm ticks) never = (_, refl)
may_always h who (ops.AlarmEnd moment) never = absurd (cc)

-- what an entry of a history is answered
pub replied : (h front rest : ClockHistory) (e : Entry ClockOp ClockReply) → IsClockHistory h → h ≡ front ++ e ∷ rest →
    clock_reply (clock_after front) e.who e.op ≡ Some e.reply
replied h front rest e legal parts =
    (Replays-rest clock_machine new_clock front (e ∷ rest) (subst (Replays clock_machine new_clock) parts legal.0)).0

pub announce_tells_the_time : OfEach AnnounceTellsTheTime
announce_tells_the_time h legal front rest e ticks parts op =
    sym (same_Some (Now (time_after front + ticks)) e.reply (ap (clock_reply (clock_after front) e.who) (sym op)
    ∙ replied h front rest e legal parts))

pub alarm_tells_its_moment : OfEach AlarmTellsItsMoment
alarm_tells_its_moment h legal front rest e ticks parts op =
    sym (same_Some (At (time_after front + ticks)) e.reply (ap (clock_reply (clock_after front) e.who) (sym op)
    ∙ replied h front rest e legal parts))
