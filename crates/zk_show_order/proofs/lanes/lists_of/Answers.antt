use Rattle.std.proofs.Common.{ℕ, ◌+◌, ◌<◌, List, [], ◌∷◌, ◌++◌, length, get_or, All, refl, sym, ap, subst, ◌∙◌}
use Rattle.std.proofs.lemmas.List.{length-replicate, length-set}
use Rattle.zk_worker.specs.declared.steps.Spot.TheVariants.{Work}
use Rattle.zk_trace.specs.declared.stood.Stood.{Stood}
use Rattle.zk_show_order.specs.declared.lanes.Queued.{Queued}
use Rattle.zk_show_order.specs.Lanes.{AreQueued}
use Rattle.zk_show_order.proofs.Sorting.{queued-none, queued-more}
use Rattle.zk_show_order.proofs.lanes.lists_of.Goals as goal

pub loop-place-init : goal.loop-place-init
loop-place-init c =
    let lines = c.args.lines.now in
    let count = c.player_count.result in
    let none : List Queued = [] in
    record {
      queued = subst (AreQueued lines 0) (sym c.in_ok-lists.ensures) (queued-none lines count);
      players =
          subst (λ (n : ℕ). All (λ (line : Stood). line.player < n) lines)
          (sym (ap length c.in_ok-lists.ensures ∙ length-replicate count none)) c.player_count.ensures;
    }

pub loop-place-preserved : goal.loop-place-preserved
loop-place-preserved c =
    let lines = c.args.lines.now in
    let place = c.loop-place.place in
    let lists = c.loop-place.lists.items in
    let nobody : Stood = record { player = 0; step = 0; spot = Work 0 } in
    let line : Stood = get_or lines place nobody in
    let one : Queued = record { step = line.step; place = place } in
    let within : line.player < length lists = c.loop-place.invariant.players place nobody c.loop-place-test.true in
    record {
      queued =
          subst (AreQueued lines (place + 1)) (sym c.in_ok-put.ensures)
          (queued-more lines place line.player lists line.step c.loop-place.invariant.queued within refl refl);
      players =
          subst (λ (n : ℕ). All (λ (line : Stood). line.player < n) lines)
          (sym (ap length c.in_ok-put.ensures ∙ length-set lists line.player (get_or lists line.player [] ++ one ∷ [])))
          c.loop-place.invariant.players;
    }
