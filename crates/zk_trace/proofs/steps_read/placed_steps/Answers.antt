use Rattle.std.proofs.Common.{◌≡◌, Some, map, sym, ◌∙◌}
use Rattle.std.specs.List.{range_with_len}
use Rattle.std.specs.Option.{IfSome}
use Rattle.std.proofs.lemmas.Result.{IfOk-weaker}
use Rattle.zk_trace.specs.Stood.{steps_of}
use Rattle.zk_trace.proofs.PlacedSpots.{all-placed, some-weaker}
use Rattle.zk_trace.proofs.steps_read.placed_steps.Goals as goal

pub returns : goal.returns
returns c =
    let lines = c.args.lines.now in
    let players = c.args.players in
    let slots = c.in-Some.slots.items in
    let hold = rw c.in-Some.is at c.in_ok-slots.ensures in
    IfOk-weaker c.all_spots.result (λ all. IfSome all (λ steps. c.deref.result.now ≡ map (λ spots. map Some spots) steps.items))
    (λ placed. IfSome placed (λ steps. steps.items ≡ map (steps_of lines) (range_with_len 0 players)))
    (λ placed known. some-weaker placed (λ steps. c.deref.result.now ≡ map (λ spots. map Some spots) steps.items)
    (λ steps. steps.items ≡ map (steps_of lines) (range_with_len 0 players))
    (λ steps is. all-placed lines players slots steps.items hold (sym c.deref.ensures.value ∙ is)) known)
    c.all_spots.ensures
