use Rattle.std.proofs.Common.{ap, sym, subst}
use Rattle.zk_model_work.specs.Answers.{admitted_to}
use Rattle.zk_work.specs.EngineState.{IsWhole}
use Rattle.zk_work.proofs.Admissions.{admitted-whole}
use Rattle.zk_work.proofs.engine.WorkEngine.admit_if.Goals as goal

pub admit-requires-clause-may : goal.admit-requires-clause-may
admit-requires-clause-may c = c.requires.may c.in-Fresh.queue (ap admitted_to c.in-Fresh.is)

pub admit-requires-in-Rerun-clause-may : goal.admit-requires-in-Rerun-clause-may
admit-requires-in-Rerun-clause-may c = c.requires.may c.in-Rerun.queue (ap admitted_to c.in-Rerun.is)

pub returns-in-Fresh-clause-whole : goal.returns-in-Fresh-clause-whole
returns-in-Fresh-clause-whole c = λ room.
    let may = c.requires.may c.in-Fresh.queue (ap admitted_to c.in-Fresh.is) in
    subst IsWhole (sym c.admit.ensures.next)
    (admitted-whole c.args.self.now.state c.args.item c.in-Fresh.queue c.requires.whole c.requires.item may.within may.free room)

pub returns-in-Rerun-clause-whole : goal.returns-in-Rerun-clause-whole
returns-in-Rerun-clause-whole c = λ room.
    let may = c.requires.may c.in-Rerun.queue (ap admitted_to c.in-Rerun.is) in
    subst IsWhole (sym c.admit-in-Rerun.ensures.next)
    (admitted-whole c.args.self.now.state c.args.item c.in-Rerun.queue c.requires.whole c.requires.item may.within may.free room)
