use Rattle.std.proofs.Common.{◌≡◌, ◌^◌, ◌<◌, List, length, map, refl, sym, ap, subst, ◌∙◌}
use Rattle.zk_trace.specs.declared.stood.Stood.{Stood}
use Rattle.zk_trace.specs.Stood.{stood}
use Rattle.zk_trace.proofs.FewObjects.{form-few}
use Rattle.zk_show_order.specs.Order.{lines_at}
use Rattle.zk_show_chart.specs.Charts.{AreBars, AreArrows}
use Rattle.zk_show_chart.specs.Lines.{line_said, lines_said}
use Rattle.zk_show_chart.specs.Rows.{AreDrawn, said_of}
use Rattle.zk_show_chart.specs.Ticks.{ticks_from}
use Rattle.zk_show_chart.proofs.RowOrder.{drawn-within, within-as}
use Rattle.zk_show_chart.proofs.making.chart_of.Goals as goal

pub stood_lines-requires : goal.stood_lines-requires
stood_lines-requires c = form-few c.args.scenario.now c.args.trace.now c.requires c.decls-readable.ensures.valid

pub lines_at-requires : goal.lines_at-requires
lines_at-requires c =
    within-as c.deref.result.now c.deref-2.result.now c.in_ok-order.order.items c.deref-3.result.now
    (c.deref.ensures.value ∙ sym c.deref-2.ensures.value) c.deref-3.ensures.value
    (drawn-within c.deref.result.now c.in_ok-order.agrees c.in_ok-order.order.items c.in_ok-order.ensures)

pub rows_of-requires : goal.rows_of-requires
rows_of-requires c = record {
  within =
      within-as c.deref.result.now c.deref-5.result.now c.in_ok-order.order.items c.deref-7.result.now
      (c.deref.ensures.value ∙ sym c.deref-5.ensures.value) c.deref-7.ensures.value
      (drawn-within c.deref.result.now c.in_ok-order.agrees c.in_ok-order.order.items c.in_ok-order.ensures);
  lines =
      ap length c.deref-6.ensures.value ∙ c.in_ok-lines.ensures.len
      ∙ ap length (c.deref-4.ensures.value ∙ sym c.deref-5.ensures.value);
}

pub returns-clause-chart : goal.returns-clause-chart
returns-clause-chart c =
    let s = c.args.scenario.now in
    let t = c.args.trace.now in
    let text = c.args.text.now in
    let first = c.args.first_line in
    let order = c.in_ok-order.order.items in
    let drawn : c.in_ok-drawn.drawn.items ≡ lines_at (stood t) order =
    c.in_ok-drawn.ensures
    ∙ ap (λ (l : List Stood). lines_at l c.deref-3.result.now) (c.deref-2.ensures.value ∙ c.in_ok-stood.ensures)
    ∙ ap (lines_at (stood t)) c.deref-3.ensures.value in
    let bars = subst (λ (l : List Stood). AreBars s t l c.in_ok-bars.bars.items) (c.deref-8.ensures.value ∙ drawn)
    (record { each = c.in_ok-bars.ensures.each; order = c.in_ok-bars.ensures.order; runs = c.in_ok-bars.ensures.runs }) in
    let arrows = subst (λ (l : List Stood). AreArrows (length l) c.in_ok-arrows.arrows.items) (c.deref-9.ensures.value ∙ drawn)
    (record { each = c.in_ok-arrows.ensures.each; order = c.in_ok-arrows.ensures.order }) in
    record {
      order = order;
      drawn =
          subst (λ (l : List Stood). AreDrawn l c.in_ok-order.agrees order)
          (c.deref.ensures.value ∙ c.in_ok-stood.ensures) c.in_ok-order.ensures;
      rows =
          c.in_ok-rows.ensures
          ∙ ap (λ (l : List Stood). map (said_of l (map line_said c.deref-6.result.now)) c.deref-7.result.now)
          (c.deref-5.ensures.value ∙ c.in_ok-stood.ensures)
          ∙ ap (λ said. map (said_of (stood t) said) c.deref-7.result.now)
          (ap (map line_said) c.deref-6.ensures.value ∙ c.in_ok-lines.ensures.lines
          ∙ ap (lines_said text first) (c.deref-4.ensures.value ∙ c.in_ok-stood.ensures))
          ∙ ap (map (said_of (stood t) (lines_said text first (stood t)))) c.deref-7.ensures.value;
      bars = bars;
      arrows = arrows;
      ticks = subst (λ (l : List Stood). length l < 2 ^ 32 → c.in_ok-ticks.ticks.items ≡ ticks_from t 0 l) (c.deref-10.ensures.value ∙ drawn) c.in_ok-ticks.ensures;
      ending = refl;
    }
