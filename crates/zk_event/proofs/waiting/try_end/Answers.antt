use Rattle.std.proofs.Common.{◌≡◌, ◌+◌, Ok, sym, subst}
use Rattle.zk_base.specs.Legal.{IsLegal}
use Rattle.zk_event.specs.declared.event.EventOp.TheVariants.{WaitEnd}
use Rattle.zk_base.specs.declared.errors.NoMemory.{NoMemory}
use Rattle.zk_event.specs.Event.{event_machine}
use Rattle.zk_event.specs.Seen.{event_start}
use Rattle.zk_event.specs.Waiting.{HasTried}
use Rattle.zk_turn.specs.Calls.{HasCalled, entries_made}
use Rattle.zk_turn.specs.Passes.{given_to, pass_who, pass_seen, pass_room}
use Rattle.zk_event.proofs.Waited.{made-none, ended-so}
use Rattle.zk_event.proofs.waiting.try_end.Goals as goal

pub ended_by-requires : goal.ended_by-requires
ended_by-requires g c =
    let p = c.args.pass in
    let q = c.call-pass.result.0 in
    let op = WaitEnd c.args.place in
    let start = event_start (given_to c.args.cell.now) in
    let called = subst (λ s. HasCalled event_machine s (pass_who p) c.args.step op {E = NoMemory} (pass_seen p) (pass_seen q) (Ok c.in-Ok.made))
    c.requires.start
    (subst (HasCalled event_machine start (pass_who p) c.args.step op (pass_seen p) (pass_seen q)) c.in-Ok.is
    c.call-pass.ensures.called) in
    let room = subst (λ r. pass_room q + entries_made r ≡ pass_room p) c.in-Ok.is c.call-pass.ensures.room in
    let legal = subst (λ s. IsLegal event_machine s (pass_seen q)) c.requires.start c.call-pass.ensures.own.lawful in
    (ended-so (pass_who p) c.args.step c.args.place p q legal c.requires.alone c.call-pass.ensures.players c.requires.later
    c.call-pass.ensures.later c.in-Ok.made called room).0

pub returns-in-Ok-clause-tried : goal.returns-in-Ok-clause-tried
returns-in-Ok-clause-tried g c =
    let p = c.args.pass in
    let q = c.call-pass.result.0 in
    let op = WaitEnd c.args.place in
    let start = event_start (given_to c.args.cell.now) in
    let called = subst (λ s. HasCalled event_machine s (pass_who p) c.args.step op {E = NoMemory} (pass_seen p) (pass_seen q) (Ok c.in-Ok.made))
    c.requires.start
    (subst (HasCalled event_machine start (pass_who p) c.args.step op (pass_seen p) (pass_seen q)) c.in-Ok.is
    c.call-pass.ensures.called) in
    let room = subst (λ r. pass_room q + entries_made r ≡ pass_room p) c.in-Ok.is c.call-pass.ensures.room in
    let legal = subst (λ s. IsLegal event_machine s (pass_seen q)) c.requires.start c.call-pass.ensures.own.lawful in
    subst (HasTried (pass_who p) c.args.step c.args.place p q) (sym c.ended_by.ensures)
    (ended-so (pass_who p) c.args.step c.args.place p q legal c.requires.alone c.call-pass.ensures.players c.requires.later
    c.call-pass.ensures.later c.in-Ok.made called room).1

pub returns-in-Err-clause-tried : goal.returns-in-Err-clause-tried
returns-in-Err-clause-tried g c =
    let p = c.args.pass in
    let q = c.call-pass.result.0 in
    let op = WaitEnd c.args.place in
    let since = subst (HasCalled event_machine (event_start (given_to c.args.cell.now)) (pass_who p) c.args.step op (pass_seen p)
    (pass_seen q)) c.in-Err.is c.call-pass.ensures.called in
    let room = subst (λ r. pass_room q + entries_made r ≡ pass_room p) c.in-Err.is c.call-pass.ensures.room in
    made-none (pass_who p) c.args.step p q c.requires.alone c.call-pass.ensures.players since room c.requires.later
