use Rattle.std.proofs.Common.{◌≡◌, ℕ, Some, Bool, false, List, length, get_or, slice_get, ap, subst, ◌∙◌}
use Rattle.std.proofs.lemmas.List.{length-set}
use Rattle.std.proofs.lemmas.Option.{slice_get-get_or}
use Rattle.zk_objects.proofs.Firsts.{noted-more, all-noted}
use Rattle.zk_objects.proofs.first.thread_players.Goals as goal

pub loop-player-preserved : goal.loop-player-preserved
loop-player-preserved c =
    let threads = c.args.threads.now in
    let i = c.loop-player.player in
    let thread : ℕ × Bool = get_or threads i (0, false) in
    let players = c.loop-player.players.items in
    let noted = c.note_player.ensures in (
      ap length noted ∙ length-set players _ _ ∙ c.loop-player.invariant.0,
      λ object player has.
          noted-more threads i thread players (slice_get-get_or threads i
          (0, false) c.loop-player-test.true) c.loop-player.invariant.1
          object player (subst (λ (l : List ℕ). slice_get l object ≡ Some player) noted has),
    )

pub returns : goal.returns
returns c = record {
  long = c.loop-player.invariant.0;
  each = λ object player has.
      all-noted c.args.threads.now c.loop-player.player object player c.loop-player-test.false
      (c.loop-player.invariant.1 object player has);
}
