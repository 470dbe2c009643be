use Rattle.std.specs.Prelude.{ℕ, ◌+◌, List, [], ◌∷◌, ◌++◌, Option, Some, None, option_map, slice_get}
use Rattle.std.specs.Option.{option_to_list}
use Rattle.zk_base.specs.declared.ids.Entry.{Entry}
use Rattle.zk_model_wait.specs.declared.clock.ClockOp.{ClockOp}
use Rattle.zk_model_wait.specs.declared.clock.ClockReply.{ClockReply}
use Rattle.zk_model_wait.specs.declared.clock.ClockReply.TheVariants.{Now}
use Rattle.zk_trace.specs.declared.stood.Stood.{Stood}
use Rattle.zk_trace.specs.declared.trace.Trace.{Trace}
use Rattle.zk_worker.specs.declared.steps.Spot.{Spot}
use Rattle.zk_worker.specs.declared.steps.Spot.TheVariants.{Clock}
use Rattle.zk_show_chart.specs.declared.chart.Tick.{Tick}

-- the time that the clock tells, if it does
abbrev pub time_of : ClockReply → Option ℕ
time_of (Now time) = Some time
time_of reply = None

-- that which an entry tells, if there is one
abbrev pub time_told : Option (Entry ClockOp ClockReply) → Option ℕ
time_told None = None
time_told (Some entry) = time_of entry.reply

-- that which the step at a spot tells: one of the clock alone does
abbrev pub time_at : Trace → Spot → Option ℕ
time_at t (Clock place) = time_told (slice_get t.clock place)
time_at t spot = None

-- the moment of a row
abbrev pub tick_in : ℕ → ℕ → Tick
tick_in row time = record { row = row; time = time }

-- the moments of some rows, counted from a number: one for each row in which the time is told
abbrev pub ticks_from : Trace → ℕ → List Stood → List Tick
ticks_from t row [] = []
ticks_from t row (s ∷ drawn) = option_to_list (option_map (tick_in row) (time_at t s.spot)) ++ ticks_from t (row + 1) drawn
