use Rattle.std.proofs.Common.{Option, sym, subst}
use Rattle.zk_cells.specs.declared.cells.Cells.{Cells}
use Rattle.zk_cells.specs.declared.passes.Passes.{Passes}
use Rattle.zk_kernel.specs.Callers.{IsAtDesk, place_of}
use Rattle.zk_cells.specs.Desks.{IsServed}
use Rattle.zk_kernel.specs.Gathered.{AreTogether}
use Rattle.zk_kernel.proofs.Gathering.{gathered-next}
use Rattle.zk_kernel.proofs.close.gather_one.Goals as goal

pub put_together-requires : goal.put_together-requires
put_together-requires c =
    let k = c.args.kernel.now in
    let x = c.args.caller in
    let same = c.cells.ensures.cells in
    let all = c.requires.all in
    let playing = subst (λ (o : Option Passes). IsAtDesk k.cells k.scenario x.player o) c.in-Some.is c.requires.own.1 in
    record {
      all = (
        all.0,
        x,
        subst (λ (cs : Cells). AreTogether cs all.0 c.args.all) (sym same) all.1,
        c.in-Some.is,
        subst (λ (cs : Cells). IsServed cs c.in-Some.passes (place_of x).who) (sym same) playing.served,
      );
    }

pub returns-clause-all : goal.returns-clause-all
returns-clause-all c =
    let k = c.args.kernel.now in
    let x = c.args.caller in
    let playing = subst (λ (o : Option Passes). IsAtDesk k.cells k.scenario x.player o) c.in-Some.is c.requires.own.1 in
    gathered-next c.cells.result.now k.cells c.args.all c.in-Some.passes x c.put_together.result c.cells.ensures.cells c.in-Some.is playing.served c.put_together.ensures
