use Rattle.std.proofs.Common.{◌≡◌, ℕ, List, ◌+◌, length, ap, subst, ◌∙◌}
use Rattle.std.specs.Prelude.{IfOk}
use Rattle.std.proofs.lemmas.Result.{IfOk-weaker}
use Rattle.zk_trace.specs.Feeds.{lines_in}
use Rattle.zk_trace.specs.Text.{trace_text}
use Rattle.zk_show_chart.specs.Charts.{IsChart}
use Rattle.zk_show_view.specs.Shown.{Draws, trace_line}
use Rattle.zk_show_view.proofs.Runs.{view-drawn}
use Rattle.zk_show_view.proofs.show.view_of_run.Goals as goal

pub returns : goal.returns
returns c = λ f same_text.
    let s = c.args.scenario.now in
    let t = c.args.trace.now in
    let chart = c.in_ok-chart.chart in
    let line : c.behind.result ≡ trace_line s = c.behind.ensures ∙ ap (λ (l : List ℕ). length (lines_in l) + 1) c.requires.source in
    let is = subst (λ (n : ℕ). IsChart s t (trace_text f s t) n chart) line
    (subst (λ (l : List ℕ). IsChart s t l c.behind.result chart) same_text c.in_ok-chart.ensures.chart) in
    let draws = subst (λ (e : List ℕ). IfOk c.drawn.result (λ output. Draws c.args.view s t chart e output.items)) c.deref.ensures.value c.drawn.ensures in
    IfOk-weaker c.drawn.result _ _ (λ output drawn. view-drawn c.args.view f s t chart c.args.end.items output.items is drawn) draws
