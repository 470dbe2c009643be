use Rattle.std.proofs.Common.{◌≡◌, ◌+◌, Ok, sym, subst}
use Rattle.zk_base.specs.declared.errors.NoMemory.{NoMemory}
use Rattle.zk_event.specs.Event.{event_machine}
use Rattle.zk_event.specs.Seen.{event_start}
use Rattle.zk_event.specs.Waiting.{asks, HasAsked}
use Rattle.zk_turn.specs.Calls.{HasCalled, entries_made}
use Rattle.zk_turn.specs.Passes.{given_to, pass_who, pass_seen, pass_room}
use Rattle.zk_event.proofs.Waited.{made-none, asked-so}
use Rattle.zk_event.proofs.waiting.ask.Goals as goal

pub told_by-requires : goal.told_by-requires
told_by-requires g c =
    let p = c.args.pass in
    let q = c.call-pass.result.0 in
    let op = asks c.args.wanted c.args.reset in
    let called = subst (λ s. HasCalled event_machine s (pass_who p) c.args.step op {E = NoMemory} (pass_seen p) (pass_seen q) (Ok c.in-Ok.made))
    c.requires.start
    (subst (HasCalled event_machine (event_start (given_to c.args.cell.now)) (pass_who p) c.args.step op (pass_seen p) (pass_seen q))
    c.in-Ok.is c.call-pass.ensures.called) in
    let room = subst (λ r. pass_room q + entries_made r ≡ pass_room p) c.in-Ok.is c.call-pass.ensures.room in
    (asked-so (pass_who p) c.args.step c.args.wanted c.args.reset p q c.requires.mask c.call-pass.ensures.later c.in-Ok.made called
    room).0

pub returns-in-Ok-clause-asked : goal.returns-in-Ok-clause-asked
returns-in-Ok-clause-asked g c =
    let p = c.args.pass in
    let q = c.call-pass.result.0 in
    let op = asks c.args.wanted c.args.reset in
    let called = subst (λ s. HasCalled event_machine s (pass_who p) c.args.step op {E = NoMemory} (pass_seen p) (pass_seen q) (Ok c.in-Ok.made))
    c.requires.start
    (subst (HasCalled event_machine (event_start (given_to c.args.cell.now)) (pass_who p) c.args.step op (pass_seen p) (pass_seen q))
    c.in-Ok.is c.call-pass.ensures.called) in
    let room = subst (λ r. pass_room q + entries_made r ≡ pass_room p) c.in-Ok.is c.call-pass.ensures.room in
    subst (λ t. HasAsked (pass_who p) c.args.step c.args.wanted c.args.reset p q (Ok t)) (sym c.told_by.ensures)
    (asked-so (pass_who p) c.args.step c.args.wanted c.args.reset p q c.requires.mask c.call-pass.ensures.later c.in-Ok.made called
    room).1

pub returns-in-Err-clause-asked : goal.returns-in-Err-clause-asked
returns-in-Err-clause-asked g c =
    let p = c.args.pass in
    let q = c.call-pass.result.0 in
    let op = asks c.args.wanted c.args.reset in
    let since = subst (HasCalled event_machine (event_start (given_to c.args.cell.now)) (pass_who p) c.args.step op (pass_seen p)
    (pass_seen q)) c.in-Err.is c.call-pass.ensures.called in
    let room = subst (λ r. pass_room q + entries_made r ≡ pass_room p) c.in-Err.is c.call-pass.ensures.room in
    made-none (pass_who p) c.args.step p q c.requires.alone c.call-pass.ensures.players since room c.requires.later
