-- The time, the waits that end by it, and the items that are delayed, by the trace alone.
use Rattle.std.specs.Prelude.{ℕ, ◌+◌, ◌-◌, ◌^◌, ◌==◌, min, Bool, true, false, not, ◌&&◌, Option, Some, None, List, [], ◌∷◌, ◌++◌, codes, decimal, length, slice_get, option_and_then, if◌then◌else◌}
use Rattle.std.specs.Option.{option_map_or}
use Rattle.zk_base.specs.declared.ids.Entry.{Entry}
use Rattle.zk_line.specs.Objects.{places, is_item}
use Rattle.zk_line.specs.declared.types.Decl.{Decl}
use Rattle.zk_model_bus.specs.declared.channel.ChanReply.{ChanReply}
use Rattle.zk_model_bus.specs.declared.channel.ChanReply.TheVariants as chans
use Rattle.zk_model_bus.specs.declared.observer.ObsReply.{ObsReply}
use Rattle.zk_model_bus.specs.declared.observer.ObsReply.TheVariants as observers
use Rattle.zk_model_wait.specs.declared.clock.ClockOp.{ClockOp}
use Rattle.zk_model_wait.specs.declared.clock.ClockReply.{ClockReply}
use Rattle.zk_model_wait.specs.declared.clock.ClockReply.TheVariants as clocks
use Rattle.zk_model_wait.specs.declared.msgq.MsgqReply.{MsgqReply}
use Rattle.zk_model_wait.specs.declared.msgq.MsgqReply.TheVariants as msgqs
use Rattle.zk_model_wait.specs.declared.sem.SemReply.{SemReply}
use Rattle.zk_model_wait.specs.declared.sem.SemReply.TheVariants as sems
use Rattle.zk_model_work.specs.declared.ops.Expiry.{Expiry}
use Rattle.zk_model_work.specs.declared.ops.WorkOp.{WorkOp}
use Rattle.zk_model_work.specs.declared.ops.WorkOp.TheVariants.{Cancel, CancelStart, FlushStart, Schedule, Reschedule}
use Rattle.zk_model_work.specs.declared.ops.WorkReply.{WorkReply}
use Rattle.zk_model_work.specs.declared.ops.WorkReply.TheVariants as works
use Rattle.zk_worker.specs.declared.steps.Spot.{Spot}
use Rattle.zk_worker.specs.declared.steps.Spot.TheVariants as spots
use Rattle.zk_trace.specs.declared.trace.Trace.{Trace}
use Rattle.zk_show_why.specs.Players.{name_of_object, player_name, open_players}
use Rattle.zk_show_why.specs.Waits.{entry_at}

-- the time that the clock tells, if it tells one
abbrev pub time_told : ClockReply → ℕ → ℕ
time_told (clocks.Now time) now = time
time_told reply now = now

-- the time behind these entries
abbrev pub time_after : List (Entry ClockOp ClockReply) → ℕ → ℕ
time_after [] now = now
time_after (e ∷ es) now = time_after es (time_told e.reply now)

-- the time of the clock, in ticks
abbrev pub time_of : Trace → ℕ
time_of t = time_after t.clock 0

-- the time that an announce of the work service tells
abbrev pub announced : WorkReply → ℕ → ℕ
announced (works.Now time expiries) now = time
announced reply now = now

-- whether one of these is the item's
abbrev pub expires : ℕ → List Expiry → Bool
expires item [] = false
expires item (expiry ∷ expiries) = if expiry.item == item then true else expires item expiries

-- whether the item's delay is over by an announce
abbrev pub has_expired : ℕ → WorkReply → Bool
has_expired item (works.Now time expiries) = expires item expiries
has_expired item reply = false

-- whether the item is delayed from then on
abbrev pub is_armed : WorkReply → Bool
is_armed works.Armed = true
is_armed reply = false

-- the moment at which so many ticks are over
abbrev pub moment : ℕ → ℕ → ℕ
moment now ticks = min (now + ticks) (2 ^ 64 - 1)

-- when the item is due behind a call: a schedule or reschedule may delay it, and a reschedule, cancel or flush ends its delay
abbrev pub due_asked : ℕ → ℕ → Option ℕ → WorkOp → Bool → Option ℕ
due_asked item now due (Schedule other queue ticks) armed = if other == item && armed then Some (moment now ticks) else due
due_asked item now due (Reschedule other queue ticks) armed =
    if other == item && armed then Some (moment now ticks) else if other == item then None else due
due_asked item now due (Cancel other) armed = if other == item then None else due
due_asked item now due (CancelStart other) armed = if other == item then None else due
due_asked item now due (FlushStart other) armed = if other == item then None else due
due_asked item now due op armed = due

-- when the item is due behind an entry: an announce may end its delay too
abbrev pub due_after : ℕ → ℕ → Option ℕ → Entry WorkOp WorkReply → Option ℕ
due_after item now due e = if has_expired item e.reply then None else due_asked item now due e.op (is_armed e.reply)

-- when the item is due behind these entries
abbrev pub due_from : ℕ → List (Entry WorkOp WorkReply) → ℕ → Option ℕ → Option ℕ
due_from item [] now due = due
due_from item (e ∷ es) now due = due_from item es (announced e.reply now) (due_after item now due e)

-- when the item is due, if it is delayed
abbrev pub due_of : Trace → ℕ → Option ℕ
due_of t item = due_from item t.work 0 None

-- the moment of an alarm that is set there
abbrev pub alarm_of : ClockReply → Option ℕ
alarm_of (clocks.At moment) = Some moment
alarm_of reply = None

-- whether a take waits, or a poll found no count
abbrev pub sem_goes_on : SemReply → Bool
sem_goes_on sems.Wait = true
sem_goes_on sems.Armed = true
sem_goes_on reply = false

-- whether a put or get waits, or a poll found no message
abbrev pub msgq_goes_on : MsgqReply → Bool
msgq_goes_on msgqs.Wait = true
msgq_goes_on msgqs.Armed = true
msgq_goes_on reply = false

-- whether an operation on a channel waits
abbrev pub chan_goes_on : ChanReply → Bool
chan_goes_on chans.Wait = true
chan_goes_on reply = false

-- whether a subscriber waits
abbrev pub obs_goes_on : ObsReply → Bool
obs_goes_on observers.Wait = true
obs_goes_on reply = false

-- whether a step begins a wait, or is one of a poll whose event isn't ready
abbrev pub goes_on : Trace → Spot → Bool
goes_on t (spots.Sem object place) = option_map_or (λ e. sem_goes_on e.reply) (entry_at t.sems object place) false
goes_on t (spots.Msgq object place) = option_map_or (λ e. msgq_goes_on e.reply) (entry_at t.msgqs object place) false
goes_on t (spots.Chan object place) = option_map_or (λ e. chan_goes_on e.reply) (entry_at t.chans object place) false
goes_on t (spots.Obs object place) = option_map_or (λ e. obs_goes_on e.reply) (entry_at t.observers object place) false
goes_on t (spots.LookSignal object seen) = not seen.raised
goes_on t spot = false

-- the moment of the alarm that is set at a step
abbrev pub alarm_at : Trace → ℕ → Option ℕ
alarm_at t place = option_and_then (λ e. alarm_of e.reply) (slice_get t.clock place)

-- when the wait ends by itself behind a step: a step of the wait lets that be, an alarm sets it, and no other step is in a wait
abbrev pub deadline_after : Trace → Option ℕ → Spot → Option ℕ
deadline_after t deadline (spots.Clock place) = alarm_at t place
deadline_after t deadline spot = if goes_on t spot then deadline else None

-- the same behind these steps
abbrev pub deadline_from : Trace → List Spot → Option ℕ → Option ℕ
deadline_from t [] deadline = deadline
deadline_from t (spot ∷ spots) deadline = deadline_from t spots (deadline_after t deadline spot)

-- when a player's wait ends by itself, if it does
abbrev pub deadline_of : Trace → ℕ → Option ℕ
deadline_of t player = option_and_then (λ log. deadline_from t log.steps None) (slice_get t.logs player)

-- when a player's wait ends, in words
abbrev pub end_words : List Decl → Trace → ℕ → List ℕ
end_words decls t player =
    option_map_or (λ moment. codes "; the wait of " ++ player_name decls player ++ codes " ends at " ++ decimal moment) (deadline_of t player) []

-- when the waits of these players end, in words
abbrev pub ends_words : List Decl → Trace → List ℕ → List ℕ
ends_words decls t [] = []
ends_words decls t (player ∷ players) = end_words decls t player ++ ends_words decls t players

-- when it is over, in words
abbrev pub over_words : ℕ → List ℕ
over_words moment = codes " is over at " ++ decimal moment

-- that the delay of an item is over at a moment, in words
abbrev pub delay_words : List Decl → ℕ → ℕ → List ℕ
delay_words decls object moment = codes "; the delay of " ++ name_of_object decls object ++ over_words moment

-- when the item of a number and an object is due, in words
abbrev pub due_words : List Decl → Trace → ℕ → ℕ → List ℕ
due_words decls t item object = option_map_or (λ moment. delay_words decls object moment) (due_of t item) []

-- when the items of these objects are due, in words; they are numbered from the first one's number on
abbrev pub dues_words : List Decl → Trace → ℕ → List ℕ → List ℕ
dues_words decls t item [] = []
dues_words decls t item (object ∷ objects) = due_words decls t item object ++ dues_words decls t (item + 1) objects

-- what time would end, in words: waits of players that are in a call, and delays of items
abbrev pub ticks_words : List Decl → Trace → List ℕ
ticks_words decls t = ends_words decls t (open_players t) ++ dues_words decls t 0 (places is_item decls)

-- the time, and what it would end, in a line; there is none where it would end nothing
abbrev pub time_line : List Decl → Trace → List ℕ
time_line decls t = if length (ticks_words decls t) == 0 then [] else
    codes "It is tick " ++ decimal (time_of t) ++ ticks_words decls t ++ codes ".\n"
