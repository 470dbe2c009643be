use Rattle.std.proofs.Common.{Some, subst}
use Rattle.zk_model_work.specs.declared.ops.WorkOp.TheVariants.{Submit}
use Rattle.zk_model_work.specs.Machine.{work_machine}
use Rattle.zk_turn.specs.Calls.{HasCalled}
use Rattle.zk_turn.specs.Passes.{given_to, pass_players, pass_who, pass_seen}
use Rattle.zk_work.specs.Seen.{work_start}
use Rattle.zk_trigger.proofs.PumpEntries.{above-same}
use Rattle.zk_trigger.proofs.pump.submit.Goals as goal

pub returns-in-Err-clause-later : goal.returns-in-Err-clause-later
returns-in-Err-clause-later g c =
    let p = c.args.pass in
    let q = c.call-pass.result.0 in
    let since = subst (HasCalled work_machine (work_start (given_to c.args.cell.now)) (pass_who p) c.args.step
    (Submit c.args.owed.item (Some c.args.owed.queue)) (pass_seen p) (pass_seen q)) c.in-Err.is c.call-pass.ensures.called in
    above-same (pass_who p) (pass_players p) (pass_players q) (pass_seen p) (pass_seen q) c.args.step
    c.call-pass.ensures.players c.requires.alone since c.requires.later
