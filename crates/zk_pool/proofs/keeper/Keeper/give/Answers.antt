use Rattle.zk_pool.proofs.Keepers.{holds-one, given}
use Rattle.zk_pool.proofs.keeper.Keeper.give.Goals as goal

pub give-requires-clause-held : goal.give-requires-clause-held
give-requires-clause-held g c =
    holds-one g.T.Numbered.number g.T.Numbered.home g.T.Numbered.kept c.args.pool.now c.args.self.now
    (g.T.Numbered.number c.args.item) c.requires.carries

pub returns : goal.returns
returns g c =
    let gave = c.give.ensures in
    record {
      keeps = given g.T.Numbered.number g.T.Numbered.home g.T.Numbered.kept c.args.pool.now c.args.self.now
          c.give.new.hand (g.T.Numbered.number c.args.item) c.requires.carries gave.own gave.held;
    }
