use Rattle.zk_pool.proofs.Keepers.{recalled}
use Rattle.zk_pool.proofs.keeper.Keeper.recall.Goals as goal

pub returns-clause-carries : goal.returns-clause-carries
returns-clause-carries g c =
    (recalled g.T.Numbered.number g.T.Numbered.home g.T.Numbered.kept c.args.pool.now c.args.self.now c.swap_remove.new.self c.args.at c.swap_remove.result
    c.requires.keeps c.requires.within c.swap_remove.ensures.value c.swap_remove.ensures.items c.swap_remove.ensures.capacity).0

pub returns-clause-suits : goal.returns-clause-suits
returns-clause-suits g c =
    (recalled g.T.Numbered.number g.T.Numbered.home g.T.Numbered.kept c.args.pool.now c.args.self.now c.swap_remove.new.self c.args.at c.swap_remove.result
    c.requires.keeps c.requires.within c.swap_remove.ensures.value c.swap_remove.ensures.items c.swap_remove.ensures.capacity).1
