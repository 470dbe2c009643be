use Rattle.std.proofs.Common.{true}
use Rattle.zk_player_set.proofs.BitWords.{follow-all, follow-end}
use Rattle.zk_player_set.proofs.player_set.PlayerSet.consecutive_from.Goals as goal

pub returns-clause-all : goal.returns-clause-all
returns-clause-all c =
    follow-all true c.args.self.now.words c.args.player c.ones_from.result c.requires
    (record { within = c.ones_from.ensures.within; all = c.ones_from.ensures.ones; end = c.ones_from.ensures.end })

pub returns-clause-end : goal.returns-clause-end
returns-clause-end c =
    follow-end true c.args.self.now.words c.args.player c.ones_from.result c.requires
    (record { within = c.ones_from.ensures.within; all = c.ones_from.ensures.ones; end = c.ones_from.ensures.end })
