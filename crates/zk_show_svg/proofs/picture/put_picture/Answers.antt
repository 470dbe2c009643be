use Rattle.std.proofs.Common.{◌∙◌, ℕ, List, ap, min, length}
use Rattle.std.proofs.lemmas.Result.{on_ok_weaker}
use Rattle.zk_show_chart.specs.declared.chart.Row.{Row}
use Rattle.zk_scenario.specs.Players.{players}
use Rattle.zk_show_svg.specs.Steps.{last_row}
use Rattle.zk_show_svg.proofs.Chains.{picture_put}
use Rattle.zk_show_svg.proofs.picture.put_picture.Goals as goal

pub returns-clause-picture : goal.returns-clause-picture
returns-clause-picture c =
    let bars = rw c.deref.ensures.value at c.in_ok-put_bars.ensures.text in
    let ticks = rw c.deref-2.ensures.value at c.in_ok-put_ticks.ensures.text in
    let arrows = rw (c.as_slice-rows.ensures.value, c.deref-3.ensures.value) at c.in_ok-put_arrows.ensures.text in
    let steps = rw c.as_slice-rows.ensures.value at c.in_ok-put_rows.ensures.text in
    let count = ap (λ (l : List Row). length l) c.as_slice-rows.ensures.value in
    on_ok_weaker c.put.result
    (picture_put (length (players c.args.scenario.now.decls)) c.args.chart.now c.new-plan.result
    (c.new-plan.ensures.lanes ∙ c.players.ensures)
    (c.new-plan.ensures.rows ∙ c.number_of.ensures ∙ ap (λ (n : ℕ). min n last_row) count)
    _ _ _ _ _ _ _ _ _ _ c.in_ok-put_head.ensures.more c.in_ok-put_lanes.ensures.more bars ticks arrows c.in_ok-put_names.ensures.more steps
    c.in_ok-put_notes.ensures.more)
    c.put.ensures.text
