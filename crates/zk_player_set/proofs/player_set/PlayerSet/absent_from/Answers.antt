use Rattle.std.proofs.Common.{false}
use Rattle.zk_player_set.proofs.BitWords.{follow-all, follow-end}
use Rattle.zk_player_set.proofs.player_set.PlayerSet.absent_from.Goals as goal

pub returns-clause-all : goal.returns-clause-all
returns-clause-all c =
    follow-all false c.args.self.now.words c.args.player c.zeros_from.result c.requires
    (record { within = c.zeros_from.ensures.within; all = c.zeros_from.ensures.zeros; end = c.zeros_from.ensures.end })

pub returns-clause-end : goal.returns-clause-end
returns-clause-end c =
    follow-end false c.args.self.now.words c.args.player c.zeros_from.result c.requires
    (record { within = c.zeros_from.ensures.within; all = c.zeros_from.ensures.zeros; end = c.zeros_from.ensures.end })
