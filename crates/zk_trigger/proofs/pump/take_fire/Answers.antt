use Rattle.std.proofs.Common.{Ok, ap, sym, subst, ◌∙◌}
use Rattle.zk_base.specs.Legal.{IsLegal}
use Rattle.zk_model_trigger.specs.declared.ops.TriggerOp.TheVariants.{Next}
use Rattle.zk_model_trigger.specs.Machine.{trigger_machine}
use Rattle.zk_turn.specs.Calls.{HasCalled, IsEntered}
use Rattle.zk_turn.specs.Passes.{given_to, pass_players, pass_who, pass_seen}
use Rattle.zk_trigger.specs.Pumping.{HasTaken}
use Rattle.zk_trigger.specs.Seen.{trigger_start}
use Rattle.zk_trigger.proofs.PumpEntries.{above-same}
use Rattle.zk_trigger.proofs.Taking.{taken-fire}
use Rattle.zk_trigger.proofs.pump.take_fire.Goals as goal

pub returns-in-Err-clause-later : goal.returns-in-Err-clause-later
returns-in-Err-clause-later g c =
    let p = c.args.pass in
    let q = c.call-pass.result.0 in
    let since = subst (HasCalled trigger_machine (trigger_start (given_to c.args.cell.now)) (pass_who p) c.args.step Next
    (pass_seen p) (pass_seen q)) c.in-Err.is c.call-pass.ensures.called in
    above-same (pass_who p) (pass_players p) (pass_players q) (pass_seen p) (pass_seen q) c.args.step
    c.call-pass.ensures.players c.requires.alone since c.requires.later

pub returns-in-None-clause-later : goal.returns-in-None-clause-later
returns-in-None-clause-later g c =
    let p = c.args.pass in
    let q = c.call-pass.result.0 in
    let none = subst (HasCalled trigger_machine (trigger_start (given_to c.args.cell.now)) (pass_who p) c.args.step Next
    (pass_seen p) (pass_seen q)) (c.in-Ok.is ∙ ap Ok c.in-None.is) c.call-pass.ensures.called in
    above-same (pass_who p) (pass_players p) (pass_players q) (pass_seen p) (pass_seen q) c.args.step
    c.call-pass.ensures.players c.requires.alone none.since c.requires.later

pub returns-in-Some-clause-taken : goal.returns-in-Some-clause-taken
returns-in-Some-clause-taken g c =
    let p = c.args.pass in
    let q = c.call-pass.result.0 in
    let start = trigger_start (given_to c.args.cell.now) in
    let made = c.in-Some.made in
    let entered = subst (HasCalled trigger_machine start (pass_who p) c.args.step Next (pass_seen p) (pass_seen q))
    (c.in-Ok.is ∙ ap Ok c.in-Some.is) c.call-pass.ensures.called in
    let at_start = subst (λ s. IsEntered trigger_machine s (pass_who p) c.args.step Next made.0 made.1 (pass_seen p) (pass_seen q))
    c.requires.start entered in
    let legal = subst (λ s. IsLegal trigger_machine s (pass_seen q)) c.requires.start c.call-pass.ensures.own.lawful in
    subst (λ o. HasTaken (pass_who p) c.args.step o (pass_seen p) (pass_seen q)) (sym c.owed_of.ensures)
    (taken-fire (pass_who p) c.args.step made.1 (pass_seen p) (pass_seen q) legal made.0 at_start)
