use Rattle.std.proofs.Common.{Some, refl}
use Rattle.zk_forms.specs.declared.form.Form.TheVariants.{Event}
use Rattle.zk_forms.specs.Top.{unread, no_memory}
use Rattle.zk_forms.proofs.Outcomes.{Keeps-same, Went-answered}
use Rattle.zk_cli.proofs.top.answer_event.Goals as goal

pub returns-in-Ok-clause-went : goal.returns-in-Ok-clause-went
returns-in-Ok-clause-went g c =
    let has = rw c.limit_of.ensures at c.in-Ok.ensures.bytes in
    Went-answered (Some Event) _ _ _ _ _ _ _ _ _ Event tt c.in-Ok.input.items refl has
    (c.write_made.ensures.answered Event c.in-Ok.input.items c.events_output.ensures)

pub returns-in-Err-Fault-clause-went : goal.returns-in-Err-Fault-clause-went
returns-in-Err-Fault-clause-went g c =
    let rose = rw c.in-Err-Fault.field-0-is at c.in-Err-Fault.ensures.fault in
    unread Event tt refl rose (Keeps-same (g.K.Sink.held c.args.sink.now))

pub returns-in-Err-NoMemory-clause-went : goal.returns-in-Err-NoMemory-clause-went
returns-in-Err-NoMemory-clause-went g c = no_memory Event refl (Keeps-same (g.K.Sink.held c.args.sink.now))

pub returns-in-Ok-clause-most : goal.returns-in-Ok-clause-most
returns-in-Ok-clause-most g c = rw c.limit_of.ensures at c.read_input.ensures.most

pub returns-in-Err-Fault-clause-most : goal.returns-in-Err-Fault-clause-most
returns-in-Err-Fault-clause-most g c = rw c.limit_of.ensures at c.read_input.ensures.most

pub returns-in-Err-NoMemory-clause-most : goal.returns-in-Err-NoMemory-clause-most
returns-in-Err-NoMemory-clause-most g c = rw c.limit_of.ensures at c.read_input.ensures.most
