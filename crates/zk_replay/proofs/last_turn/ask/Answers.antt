use Rattle.std.proofs.Common.{◌≡◌, ◌≤◌, List, ◌∷◌, [], ◌++◌, Some, length, sym, ap, ◌∙◌, arith}
use Rattle.std.specs.List.{slice_get}
use Rattle.zk_services.specs.Counted.{entries_at}
use Rattle.zk_worker.specs.Protocol.{attempts}
use Rattle.zk_worker.proofs.Limits.{attempts-few}
use Rattle.zk_replay.specs.declared.last_turn.Asked.{Asked}
use Rattle.zk_replay.specs.LastTurns.{asked_at}
use Rattle.zk_replay.proofs.InVain.{asked-most, asked-more}
use Rattle.zk_replay.proofs.last_turn.ask.Goals as goal

pub loop-index-preserved : goal.loop-index-preserved
loop-index-preserved g c =
    let shown = g.V.Services.shown c.args.services.now in
    let ahead = attempts c.args.scenario.now c.args.player.now in
    let step = c.in-Some.step in
    let there : slice_get ahead c.loop-index.index ≡ Some step = sym c.in-Some.ensures in
    let found : record { step = step; entries = c.entries-entries.result } ≡ asked_at shown step =
    ap (λ (n : _). record { step = step; entries = n }) (c.entries-entries.ensures ∙ ap (entries_at shown) c.service_of.ensures) in
    c.in_ok-push.ensures.items
    ∙ ap (λ (a : Asked). c.loop-index.asked.items ++ a ∷ []) found
    ∙ ap (λ (l : List Asked). l ++ asked_at shown step ∷ []) c.loop-index.invariant
    ∙ sym (asked-more (asked_at shown) ahead c.loop-index.index step there)

pub returns : goal.returns
returns g c =
    let ahead = attempts c.args.scenario.now c.args.player.now in
    let few = attempts-few c.args.scenario.now c.args.player.now in
    let most : length ahead ≤ c.loop-index.index = omega (arith, few, c.loop-index-test.false) in
    c.loop-index.invariant ∙ asked-most (asked_at (g.V.Services.shown c.args.services.now)) ahead c.loop-index.index most
