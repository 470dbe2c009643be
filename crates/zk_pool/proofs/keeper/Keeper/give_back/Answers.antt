use Rattle.zk_pool.proofs.Keepers.{holds-one, given, let-go}
use Rattle.zk_pool.proofs.keeper.Keeper.give_back.Goals as goal

pub give-requires-clause-held : goal.give-requires-clause-held
give-requires-clause-held g c =
    let trait = g.T.Numbered in
    let pool = c.args.pool.now in
    let l = c.loop-item in
    let x = c.in-Some.item in
    let carries = let-go trait.number trait.home trait.kept pool l.self c.pop.new.self x l.invariant c.in-Some.ensures.items c.pop.ensures.capacity in
    holds-one trait.number trait.home trait.kept pool (record { hand = l.self.hand; aside = c.pop.new.self }) (trait.number x) carries

pub loop-item-preserved : goal.loop-item-preserved
loop-item-preserved g c =
    let trait = g.T.Numbered in
    let pool = c.args.pool.now in
    let l = c.loop-item in
    let x = c.in-Some.item in
    let carries = let-go trait.number trait.home trait.kept pool l.self c.pop.new.self x l.invariant c.in-Some.ensures.items c.pop.ensures.capacity in
    given trait.number trait.home trait.kept pool (record { hand = l.self.hand; aside = c.pop.new.self }) c.give.new.hand (trait.number x)
    carries c.give.ensures.own c.give.ensures.held
