use Rattle.std.proofs.Common.{ℕ, None, length, get_or, replicate, ap, ◌∙◌}
use Rattle.std.proofs.lemmas.List.{length-map, get_or_default}
use Rattle.zk_worker.specs.declared.steps.Spot.TheVariants.{Work}
use Rattle.zk_trace.specs.declared.stood.Stood.{Stood}
use Rattle.zk_trace.specs.Slots.{at_player}
use Rattle.zk_trace.proofs.PlacedSpots.{none-at, hold-more}
use Rattle.zk_trace.proofs.steps_read.placed.Goals as goal

pub loop-line-init : goal.loop-line-init
loop-line-init c =
    let free = rw c.deref.ensures.value at c.in_ok-slots.ensures in
    record {
      long = ap length free ∙ length-map c.in_ok-counts.counts.items (λ (count : ℕ). replicate count None) ∙ c.in_ok-counts.ensures;
      each = λ player step. ap (λ l. at_player l player step) free ∙ none-at c.in_ok-counts.counts.items player step;
    }

pub loop-line-preserved : goal.loop-line-preserved
loop-line-preserved c =
    let lines = c.args.lines.now in
    let place = c.loop-line.line-index in
    let none : Stood = record { player = 0; step = 0; spot = Work 0 } in
    let line : Stood = get_or lines place none in
    let within = c.loop-line-test.true in
    hold-more lines place c.args.players line c.loop-line.slots.items c.place.new.slots.items within (get_or_default lines place none line within)
    c.loop-line.invariant (c.place.ensures c.if-not-place.false)
