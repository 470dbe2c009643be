use Rattle.zk_base.proofs.Fronts.{front_then}
use Rattle.zk_show_why.proofs.Telling.{tells_at}
use Rattle.zk_show_why.proofs.sentences.put_each.Goals as goal

pub loop-player-preserved : goal.loop-player-preserved
loop-player-preserved c = record {
  told = λ end further. c.loop-player.invariant.told end
      (tells_at _ _ _ c.args.players.now _ _ _ c.loop-player.player-index c.loop-player-test.true c.in_ok-put_sentence.ensures.told further);
  kept = front_then _ _ _ c.loop-player.invariant.kept c.in_ok-put_sentence.ensures.kept;
}
