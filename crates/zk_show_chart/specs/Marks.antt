use Rattle.std.specs.Prelude.{ℕ, ◌+◌, Bool, true, false, ◌&&◌, nat_lt, List, [], ◌∷◌, Option, Some, None, slice_get, if◌then◌else◌}
use Rattle.zk_base.specs.declared.ids.Entry.{Entry}
use Rattle.zk_model_work.specs.declared.ops.WorkOp.{WorkOp}
use Rattle.zk_model_work.specs.declared.ops.WorkOp.TheVariants.{Begin}
use Rattle.zk_model_work.specs.declared.ops.WorkReply.{WorkReply}
use Rattle.zk_trace.specs.declared.stood.Stood.{Stood}
use Rattle.zk_trace.specs.declared.trace.Trace.{Trace}
use Rattle.zk_worker.specs.declared.steps.Spot.{Spot}
use Rattle.zk_worker.specs.declared.steps.Spot.TheVariants.{Work}
use Rattle.zk_show_chart.specs.declared.chart.BarKind.{BarKind}
use Rattle.zk_show_chart.specs.declared.chart.BarKind.TheVariants as kinds
use Rattle.zk_show_chart.specs.declared.marks.Mark.{Mark}
use Rattle.zk_show_chart.specs.declared.marks.Mark.TheVariants as marks

-- whether a bar is that of a handler's run
abbrev pub is_run : BarKind → Bool
is_run kinds.Run = true
is_run kind = false

-- whether a mark says that a run begins
abbrev pub is_begin : Mark → Bool
is_begin marks.Begin = true
is_begin mark = false

-- whether a mark, if there is one, says so
abbrev pub some_begins : Option Mark → Bool
some_begins None = false
some_begins (Some mark) = is_begin mark

-- whether an operation of the work service takes up an admission
abbrev pub begins : WorkOp → Bool
begins (Begin queue) = true
begins op = false

-- whether there is an entry that does
abbrev pub entry_begins : Option (Entry WorkOp WorkReply) → Bool
entry_begins None = false
entry_begins (Some entry) = begins entry.op

-- whether the step at a spot does
abbrev pub begins_at : Trace → Spot → Bool
begins_at t (Work place) = entry_begins (slice_get t.work place)
begins_at t spot = false

-- the rows, counted from a number, in which one of so many players takes up an admission
abbrev pub begun_rows : Trace → ℕ → ℕ → List Stood → List ℕ
begun_rows t players row [] = []
begun_rows t players row (s ∷ drawn) =
    if nat_lt s.player players && begins_at t s.spot then row ∷ begun_rows t players (row + 1) drawn
    else begun_rows t players (row + 1) drawn
