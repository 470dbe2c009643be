-- The moments of the rows, row by row.
use Rattle.std.proofs.Common.{◌≡◌, ℕ, ◌+◌, ◌<◌, List, ◌∷◌, ◌++◌, option_map, length, drop, get_or, suc, append_assoc, sym, ◌∙◌, ap, arith}
use Rattle.std.specs.Option.{option_to_list}
use Rattle.std.proofs.Math.Seq.{drop-cons}
use Rattle.zk_trace.specs.declared.stood.Stood.{Stood}
use Rattle.zk_trace.specs.declared.trace.Trace.{Trace}
use Rattle.zk_show_chart.specs.declared.chart.Tick.{Tick}
use Rattle.zk_show_chart.specs.Ticks.{tick_in, time_at, ticks_from}

-- the moments so far and those that are left, a row further
pub ticks-on : (t : Trace) (row : ℕ) (drawn : List Stood) (none : Stood) (old : List Tick) → row < length drawn →
    old ++ ticks_from t row (drop row drawn) ≡ ticks_from t 0 drawn →
    (old ++ option_to_list (option_map (tick_in row) (time_at t (get_or drawn row none).spot))) ++ ticks_from t (row + 1) (drop (row + 1) drawn)
    ≡ ticks_from t 0 drawn
ticks-on t row drawn none old within so =
    let s : Stood = get_or drawn row none in
    let rest : List Stood = drop (row + 1) drawn in
    let here : List Tick = option_to_list (option_map (tick_in row) (time_at t s.spot)) in
    let next : suc row ≡ row + 1 = omega arith in
    let left : drop row drawn ≡ s ∷ rest = drop-cons drawn row none within ∙ ap (λ n. s ∷ drop n drawn) next in
    append_assoc old here (ticks_from t (row + 1) rest)
    ∙ ap (λ l. old ++ l) (sym (ap (ticks_from t row) left)) ∙ so
