use Rattle.std.proofs.Common.{refl}
use Rattle.zk_show_view.specs.Shown.{no_memory, unread, went_out}
use Rattle.zk_show_view.proofs.Outcomes.{keeps-same, went-shows-to}
use Rattle.zk_show_view.proofs.show.answer.Goals as goal

pub returns-in-Ok-clause-went : goal.returns-in-Ok-clause-went
returns-in-Ok-clause-went g c =
    went-shows-to c.args.view _ _ _ _ _ _ _ _ _ _ _ _ c.in-Ok.input.items _ c.in-Ok.ensures.bytes c.show.ensures.shows

pub returns-in-Err-Fault-clause-went : goal.returns-in-Err-Fault-clause-went
returns-in-Err-Fault-clause-went g c =
    let rose = rw c.in-Err-Fault.field-0-is at c.in-Err-Fault.ensures.fault in
    went_out (unread rose (keeps-same (g.K.Sink.held c.args.sink.now))) (λ same. absurd (cc)) refl refl

pub returns-in-Err-NoMemory-clause-went : goal.returns-in-Err-NoMemory-clause-went
returns-in-Err-NoMemory-clause-went g c =
    went_out (no_memory (keeps-same (g.K.Sink.held c.args.sink.now))) (λ same. absurd (cc)) refl refl
