use Rattle.std.specs.Prelude.{◌≡◌, ℕ, ◌+◌, ◌<◌, ◌≤◌, Bool, true, false, ◌==◌, ◌&&◌, count_by, sum_by, Some, List, ◌∷◌, ◌++◌}
use Rattle.std.specs.List.{list_any}
use Rattle.zk_base.specs.declared.ids.Who.{Who}
use Rattle.zk_base.specs.declared.ids.Entry.{Entry}
use Rattle.zk_base.specs.Legal.{state_after, IsLegal}
use Rattle.zk_model_wait.specs.declared.clock.ClockOp.{ClockOp}
use Rattle.zk_model_wait.specs.declared.clock.ClockOp.TheVariants as ops
use Rattle.zk_model_wait.specs.declared.clock.ClockReply.{ClockReply}
use Rattle.zk_model_wait.specs.declared.clock.ClockReply.TheVariants.{Now, At, Due}
use Rattle.zk_model_wait.specs.Clock.{Clock, new_clock, clock_reply, clock_machine}

-- a history of the clock
abbrev pub ClockHistory : Type 0
ClockHistory = List (Entry ClockOp ClockReply)

-- a history that the clock lets stand from its first state on
abbrev pub IsClockHistory : ClockHistory → Type 0
IsClockHistory h = IsLegal clock_machine new_clock h

-- the clock after a history
abbrev pub clock_after : ClockHistory → Clock
clock_after h = state_after clock_machine new_clock h

-- the time after a history
abbrev pub time_after : ClockHistory → ℕ
time_after h = (clock_after h).time

-- how many ticks an operation announces
abbrev pub ticks_of : ClockOp → ℕ
ticks_of (ops.Announce ticks) = ticks
ticks_of _ = 0

-- the reply says that an alarm of this moment was set
abbrev pub is_at : ℕ → ClockReply → Bool
is_at moment (At set) = set == moment
is_at moment _ = false

-- the operation ends an alarm of this moment
abbrev pub is_end_of : ℕ → ClockOp → Bool
is_end_of moment (ops.AlarmEnd ended) = ended == moment
is_end_of moment _ = false

-- the operation ends an alarm
abbrev pub is_end : ClockOp → Bool
is_end (ops.AlarmEnd moment) = true
is_end _ = false

-- the entry sets an alarm of this player and moment
abbrev pub sets : ℕ → ℕ → Entry ClockOp ClockReply → Bool
sets player moment e = e.who.number == player && is_at moment e.reply

-- the entry ends an alarm of this player and moment
abbrev pub ends : ℕ → ℕ → Entry ClockOp ClockReply → Bool
ends player moment e = e.who.number == player && is_end_of moment e.op

-- it holds of each clock history
abbrev pub OfEach : (ClockHistory → Type 0) → Type 0
OfEach P = (h : ClockHistory) → IsClockHistory h → P h

-- Each of what follows is said of one history.

-- the time is the sum of all ticks that were announced
abbrev pub TimeIsAllTicks : ClockHistory → Type 0
TimeIsAllTicks h = time_after h ≡ sum_by (λ e. ticks_of e.op) h

-- the time never falls
abbrev pub TimeNeverFalls : ClockHistory → Type 0
TimeNeverFalls h = (front rest : ClockHistory) → h ≡ front ++ rest → time_after front ≤ time_after h

-- an announcement is answered the time before it and its ticks
abbrev pub AnnounceTellsTheTime : ClockHistory → Type 0
AnnounceTellsTheTime h = (front rest : ClockHistory) (e : Entry ClockOp ClockReply) (ticks : ℕ) →
    h ≡ front ++ e ∷ rest → e.op ≡ ops.Announce ticks → e.reply ≡ Now (time_after front + ticks)

-- an alarm is answered its moment: the time at which it is set, and its ticks
abbrev pub AlarmTellsItsMoment : ClockHistory → Type 0
AlarmTellsItsMoment h = (front rest : ClockHistory) (e : Entry ClockOp ClockReply) (ticks : ℕ) →
    h ≡ front ++ e ∷ rest → e.op ≡ ops.Alarm ticks → e.reply ≡ At (time_after front + ticks)

-- an alarm that is told to be due was set before, by the same player and for this moment, and its moment has come
abbrev pub DueWhenItsMomentHasCome : ClockHistory → Type 0
DueWhenItsMomentHasCome h = (front rest : ClockHistory) (e : Entry ClockOp ClockReply) (moment : ℕ) →
    h ≡ front ++ e ∷ rest → e.op ≡ ops.AlarmEnd moment →
    (e.reply ≡ Due) × (list_any (sets e.who.number moment) front ≡ true) × (moment ≤ time_after front)

-- no more alarms of a player and moment end than were set
abbrev pub EachEndsOnce : ClockHistory → Type 0
EachEndsOnce h = (player moment : ℕ) → count_by (ends player moment) h ≤ count_by (sets player moment) h

-- an alarm that was set and hasn't ended may end once its moment has come
abbrev pub MayEndOnceItHasCome : ClockHistory → Type 0
MayEndOnceItHasCome h = (who : Who) (moment : ℕ) → count_by (ends who.number moment) h < count_by (sets who.number moment) h →
    moment ≤ time_after h → clock_reply (clock_after h) who (ops.AlarmEnd moment) ≡ Some Due

-- an announcement and an alarm are possible at any time
abbrev pub MayAlways : ClockHistory → Type 0
MayAlways h = (who : Who) (op : ClockOp) → is_end op ≡ false →
    (reply : ClockReply) × (clock_reply (clock_after h) who op ≡ Some reply)

-- the laws of the clock: its time is all ticks and is told, and an alarm ends once, when its moment has come
pub record KeepsClockLaws (h : ClockHistory) : Type 0 where
  pub sum : TimeIsAllTicks h
  pub rises : TimeNeverFalls h
  pub told : AnnounceTellsTheTime h
  pub moment : AlarmTellsItsMoment h
  pub due : DueWhenItsMomentHasCome h
  pub once : EachEndsOnce h
  pub may : MayEndOnceItHasCome h
  pub always : MayAlways h
