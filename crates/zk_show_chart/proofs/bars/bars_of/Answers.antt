use Rattle.std.proofs.Common.{◌≡◌, ◌<◌, ◌&&◌, nat_lt, Some, option_map, length, get_or, slice_get, vec_len, ◌∙◌, ap, arith}
use Rattle.std.proofs.lemmas.Option.{slice_get-get_or, slice_get-map}
use Rattle.zk_scenario.specs.Players.{players}
use Rattle.zk_trace.specs.declared.stood.Stood.{Stood}
use Rattle.zk_worker.specs.declared.steps.Spot.TheVariants.{Work}
use Rattle.zk_show_chart.specs.Bars.{players_of}
use Rattle.zk_show_chart.specs.Marks.{begins_at}
use Rattle.zk_show_chart.proofs.BarSteps.{order_behind, runs_on}
use Rattle.zk_show_chart.proofs.bars.bars_of.Goals as goal

pub loop-row-preserved : goal.loop-row-preserved
loop-row-preserved c =
    let a = c.loop-row.invariant in
    let t = c.args.trace.now in
    let drawn = c.args.drawn.now in
    let row = c.loop-row.row in
    let none : Stood = record { player = 0; step = 0; spot = Work 0 } in
    let s : Stood = get_or drawn row none in
    let lanes = vec_len c.loop-row.lanes in
    let old = c.loop-row.bars.items in
    let new = c.step.new.bars.items in
    let steps = c.in_ok-step.ensures.bars in
    let within : row < length drawn = omega arith in
    let here : slice_get (players_of drawn) row ≡ Some s.player =
    slice_get-map (λ (l : Stood). l.player) drawn row ∙ ap (option_map (λ (l : Stood). l.player)) (slice_get-get_or drawn row none within) in
    record {
      lanes = c.in_ok-step.ensures.lanes ∙ a.lanes;
      each = steps.each (players_of drawn) here a.each;
      order = order_behind (players_of drawn) s.player row (nat_lt s.player lanes && begins_at t s.spot) old new steps a.each a.order;
      runs = runs_on t (length (players c.args.scenario.now.decls)) lanes row drawn none old new a.lanes within steps a.runs;
    }
