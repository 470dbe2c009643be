-- Inner: no contract of a top call is made of this file.
use Rattle.std.specs.Prelude.{ℕ, ◌<◌}
use Rattle.zk_trace.specs.declared.trace.Trace.{Trace}
use Rattle.zk_failures.specs.declared.site.Site.TheVariants.{Row}
use Rattle.zk_failures.specs.Lines.{trace_line}

-- of two rows of a trace the later one has the later line
abbrev pub RowsRise : Trace → Type 0
RowsRise t = (row later : ℕ) → row < later → trace_line t (Row row) < trace_line t (Row later)
