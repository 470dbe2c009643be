use Rattle.std.proofs.Common.{set, ap, ◌∙◌, arith}
use Rattle.std.proofs.lemmas.List.{get_or_default}
use Rattle.std.proofs.lemmas.List.Edits.{map_over_more}
use Rattle.zk_replay.specs.LastTurns.{counted_again}
use Rattle.zk_replay.proofs.last_turn.count_again.Goals as goal

pub loop-asked-preserved : goal.loop-asked-preserved
loop-asked-preserved g c =
    let ys = c.loop-asked.asked in
    let i = c.loop-asked.asked-index in
    let below = c.loop-asked-test.true in
    let same = c.loop-asked.auto.asked in
    ap (set ys i) c.counted_again.ensures
    ∙ map_over_more (counted_again (g.V.Services.shown c.args.services.now)) c.args.asked.now ys i _ below c.loop-asked.invariant
    (get_or_default ys i _ _ (omega arith))
