use Rattle.zk_pool.proofs.Keepers.{took-none, took-one}
use Rattle.zk_pool.proofs.keeper.Keeper.take.Goals as goal

pub returns-clause-none : goal.returns-clause-none
returns-clause-none g c =
    took-none g.T.Numbered.number g.T.Numbered.home g.T.Numbered.kept c.args.pool.now c.args.self.now
    c.take.new.hand c.take.result c.requires.keeps c.take.ensures.own c.take.ensures.held

pub returns-clause-one : goal.returns-clause-one
returns-clause-one g c =
    took-one g.T.Numbered.number g.T.Numbered.home g.T.Numbered.kept c.args.pool.now c.args.self.now
    c.take.new.hand c.take.result c.requires.keeps c.take.ensures.own c.take.ensures.held c.take.ensures.few
