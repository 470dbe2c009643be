use Rattle.std.proofs.Common.{sym, subst}
use Rattle.zk_cores.specs.declared.cores.Core.{Core}
use Rattle.zk_cores.specs.Seats.{IsAtWork}
use Rattle.zk_cores.proofs.round.play_kept.Goals as goal
use Rattle.zk_cores.proofs.round.play_kept.Goals.{then-has_news+in_ok-moved, else-has_news}

pub loop-preserved : goal.loop-preserved
loop-preserved g c =
    let P : Core → Type 0 = IsAtWork c.args.pool.now in
    elim c.if-has_news.branch [
      | then-has_news+in_ok-moved w ↦ subst P (sym w.core-is) w.play_held.ensures.at_work
      | else-has_news w ↦ subst P (sym w.core-is) c.loop.invariant
    ]
