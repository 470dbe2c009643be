use Rattle.std.proofs.Common.{refl}
use Rattle.zk_cells.proofs.NewPasses.{taken-popped}
use Rattle.zk_cells.proofs.dealing.deal_passes.Goals as goal

pub returns : goal.returns
returns c = record {
  work = taken-popped c.args.undealt.now.work c.pop.new.self c.pop.result c.pop.ensures.items c.pop.ensures.rest
      c.pop.ensures.cases;
  clock = taken-popped c.args.undealt.now.clock c.pop-2.new.self c.pop-2.result c.pop-2.ensures.items c.pop-2.ensures.rest
      c.pop-2.ensures.cases;
  table = taken-popped c.args.undealt.now.table c.pop-3.new.self c.pop-3.result c.pop-3.ensures.items c.pop-3.ensures.rest
      c.pop-3.ensures.cases;
  sems = c.in_ok-deal_row.ensures;
  msgqs = c.in_ok-deal_row-2.ensures;
  signals = c.in_ok-deal_row-3.ensures;
  chans = c.in_ok-deal_row-4.ensures;
  observers = c.in_ok-deal_row-5.ensures;
  looked = refl;
  notes = c.in_ok-with_capacity.ensures.items;
  capacity = c.in_ok-with_capacity.ensures.capacity;
}
