use Rattle.zk_pool.proofs.Keepers.{kept-too}
use Rattle.zk_pool.proofs.keeper.Keeper.keep.Goals as goal

pub returns : goal.returns
returns g c =
    let pushed = c.push_within.ensures in
    record {
      keeps = kept-too g.T.Numbered.number g.T.Numbered.home g.T.Numbered.kept c.args.pool.now c.args.self.now
          c.push_within.new.items c.args.item c.requires.carries c.requires.suits pushed.items pushed.capacity;
    }
