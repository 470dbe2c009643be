use Rattle.std.proofs.Common.{Some, false, subst, arith}
use Rattle.zk_cells.specs.declared.cells.Cells.{Cells}
use Rattle.zk_cells.specs.Dealt.{IsDealt}
use Rattle.zk_kernel.proofs.NewCallers.{one-dealt, one-placed}
use Rattle.zk_kernel.proofs.dealing.deal_all.Goals as goal

pub loop-player-preserved : goal.loop-player-preserved
loop-player-preserved c =
    let l = c.loop-player in
    let split = c.in-Some.ensures.items in
    let added = c.push_within.ensures.items in
    let len = c.push_within.ensures.len in
    let kept = c.push_within.ensures.capacity in
    let room = l.invariant.room in
    let fewer = c.in-Some.ensures.cases in
    record {
      players = one-placed c.pop.new.self.items l.players.items c.args.players.items
          (record { player = c.in-Some.player; passes = Some c.in_ok-passes.passes; stopped = false; kernel = c.of.result }) l.callers.items
          c.push_within.new.items.items split added l.invariant.players;
      new = λ undealt. one-dealt c.args.kernel.now c.of.result c.pop.new.self.items l.players.items c.in-Some.player l.undealt
          c.in_ok-passes.passes c.deal_passes.new.undealt l.callers.items c.push_within.new.items.items c.of.ensures split
          (subst (λ (cs : Cells). IsDealt cs.most l.undealt c.in_ok-passes.passes c.deal_passes.new.undealt) c.cells.ensures.cells c.in_ok-passes.ensures) added (l.invariant.new undealt);
      room = omega arith;
    }
