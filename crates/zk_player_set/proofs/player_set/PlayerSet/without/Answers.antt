use Rattle.std.proofs.Common.{◌∙◌, arith}
use Rattle.std.proofs.lemmas.List.{length-set}
use Rattle.zk_player_set.proofs.BitWords.{without-next, without-all}
use Rattle.zk_player_set.proofs.player_set.PlayerSet.without.Goals as goal

pub loop-at-preserved : goal.loop-at-preserved
loop-at-preserved c = record {
  long = length-set c.loop-at.words c.loop-at.at c.without_bits.result ∙ c.loop-at.invariant.long;
  so_far = without-next c.args.self.now.words c.args.others.now.words c.loop-at.words c.loop-at.at c.without_bits.result
      (omega (arith, c.loop-at-test.true, c.loop-at.invariant.long)) c.loop-at.invariant.so_far c.without_bits.ensures;
}

pub returns : goal.returns
returns c = λ player.
    without-all c.args.self.now.words c.args.others.now.words c.loop-at.words c.loop-at.at player
    (omega (arith, c.loop-at-test.false)) c.loop-at.invariant.so_far
