use Rattle.std.proofs.Common.{◌≡◌, ◌+◌, Some, List, length, slice_get, subst, ap, ◌∙◌}
use Rattle.std.proofs.lemmas.List.{length_push}
use Rattle.zk_failures.specs.declared.own.Own.{Own}
use Rattle.zk_failures.proofs.Owns.{owns-none}
use Rattle.zk_failures.proofs.place.owns.Goals as goal

pub loop-player-preserved : goal.loop-player-preserved
loop-player-preserved c = record {
  none = λ player own there.
      owns-none c.loop-player.owns.items c.new.result c.loop-player.invariant.none c.new.ensures player own (subst (λ (os : List Own). slice_get os player ≡ Some own) c.in_ok-push.ensures.items there);
  long = ap length c.in_ok-push.ensures.items ∙ length_push c.loop-player.owns.items c.new.result ∙ ap (λ n. n + 1) c.loop-player.invariant.long;
}
