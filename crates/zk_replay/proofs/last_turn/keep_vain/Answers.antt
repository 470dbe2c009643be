use Rattle.std.proofs.Common.{◌≡◌, List, length, map, ap, ◌∙◌, arith}
use Rattle.std.proofs.lemmas.List.{length-map}
use Rattle.zk_worker.specs.Protocol.{attempts}
use Rattle.zk_replay.specs.declared.last_turn.Asked.{Asked}
use Rattle.zk_replay.specs.LastTurns.{counted_again}
use Rattle.zk_replay.proofs.InVain.{counted-asked, written-back}
use Rattle.zk_replay.proofs.last_turn.keep_vain.Goals as goal

pub returns-then-kept : goal.returns-then-kept
returns-then-kept g c =
    let shown = g.V.Services.shown c.args.services.now in
    let ahead = attempts c.args.scenario.now c.args.player.now in
    let was = c.requires c.if-kept.true in
    let held = c.args.kept.now.asked in
    let new = c.count_again.new.asked in
    let counted : new ≡ map (counted_again shown) held.items = c.count_again.ensures ∙ ap (λ (l : List Asked). map (counted_again shown) l) c.deref_mut.ensures.value in
    let long : length new ≡ length held.items = ap (λ (l : List Asked). length l) counted ∙ length-map held.items (counted_again shown) in
    written-back new held.items held.len (omega (arith, long, held.ok.0))
    ∙ counted ∙ ap (λ (l : List Asked). map (counted_again shown) l) was.1 ∙ counted-asked was.0 shown ahead
