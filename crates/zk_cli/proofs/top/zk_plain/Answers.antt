use Rattle.std.proofs.Common.{refl}
use Rattle.zk_forms.proofs.Outcomes.{Went-prints, Went-words, Went-no_form, Went-complete, Went-read_fault, Went-write_fault, Went-nothing, Went-front, Went-words_front, Went-read}
use Rattle.zk_cli.proofs.top.zk_plain.Goals as goal

pub returns-clause-prints : goal.returns-clause-prints
returns-clause-prints g c = λ form asked is. Went-prints _ _ _ _ _ _ _ _ _ form _ _ c.plain.ensures.went asked is refl

pub returns-clause-words : goal.returns-clause-words
returns-clause-words g c = λ same. (Went-words _ _ _ _ _ _ _ _ _ _ c.plain.ensures.went same).1

pub returns-clause-a_form : goal.returns-clause-a_form
returns-clause-a_form g c = λ same. (Went-words _ _ _ _ _ _ _ _ _ _ c.plain.ensures.went same).0

pub returns-clause-no_form : goal.returns-clause-no_form
returns-clause-no_form g c = Went-no_form _ _ _ _ _ _ _ _ _ _ c.plain.ensures.went

pub returns-clause-complete : goal.returns-clause-complete
returns-clause-complete g c = λ form. Went-complete _ _ _ _ _ _ _ _ _ form _ c.plain.ensures.went

pub returns-clause-read_fault : goal.returns-clause-read_fault
returns-clause-read_fault g c = Went-read_fault _ _ _ _ _ _ _ _ _ _ c.plain.ensures.went

pub returns-clause-write_fault : goal.returns-clause-write_fault
returns-clause-write_fault g c = Went-write_fault _ _ _ _ _ _ _ _ _ _ c.plain.ensures.went

pub returns-clause-nothing : goal.returns-clause-nothing
returns-clause-nothing g c = Went-nothing _ _ _ _ _ _ _ _ _ _ c.plain.ensures.went

pub returns-clause-front : goal.returns-clause-front
returns-clause-front g c = λ form. Went-front _ _ _ _ _ _ _ _ _ form _ c.plain.ensures.went

pub returns-clause-words_front : goal.returns-clause-words_front
returns-clause-words_front g c = Went-words_front _ _ _ _ _ _ _ _ _ _ c.plain.ensures.went

pub returns-clause-read : goal.returns-clause-read
returns-clause-read g c = λ form. Went-read _ _ _ _ _ _ _ _ _ form _ c.plain.ensures.went
