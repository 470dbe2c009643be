use Rattle.std.proofs.Common.{ℕ, ◌+◌, ◌<◌, List, ◌++◌, Option, option_map, length, drop, ap, ◌∙◌, arith}
use Rattle.std.specs.Option.{option_to_list}
use Rattle.zk_trace.specs.declared.stood.Stood.{Stood}
use Rattle.zk_worker.specs.declared.steps.Spot.TheVariants.{Work}
use Rattle.zk_show_chart.specs.declared.chart.Tick.{Tick}
use Rattle.zk_show_chart.specs.Ticks.{tick_in, ticks_from}
use Rattle.zk_show_chart.proofs.RowTicks.{ticks-on}
use Rattle.zk_show_chart.proofs.ticks.ticks_of.Goals as goal

pub loop-row-preserved : goal.loop-row-preserved
loop-row-preserved c =
    let t = c.args.trace.now in
    let drawn = c.args.drawn.now in
    let row = c.loop-row.row in
    let old = c.loop-row.ticks.items in
    let rest = drop (row + 1) drawn in
    let none : Stood = record { player = 0; step = 0; spot = Work 0 } in
    let within : row < length drawn = omega arith in
    ap (λ (l : List Tick). l ++ ticks_from t (row + 1) rest)
    (c.in_ok-put_tick.ensures ∙ ap (λ (o : Option ℕ). old ++ option_to_list (option_map (tick_in row) o)) c.time_at-time.ensures)
    ∙ ticks-on t row drawn none old within c.loop-row.invariant
