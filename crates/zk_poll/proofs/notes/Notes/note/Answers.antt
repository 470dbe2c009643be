use Rattle.std.proofs.Common.{None, refl, sym, ap, ◌∙◌}
use Rattle.zk_poll.specs.Notes.{NotesView, first_to_note}
use Rattle.zk_poll.proofs.Noting.{none-left, all-noted}
use Rattle.zk_poll.proofs.notes.Notes.note.Goals as goal

pub returns-in-Some-clause-none : goal.returns-in-Some-clause-none
returns-in-Some-clause-none c =
    let first = ap (λ (v : NotesView). first_to_note None v.members) (sym c.self.view_is)
    ∙ ap (first_to_note None) (sym c.deref.ensures.value) ∙ sym c.first_to_note.ensures ∙ c.in-Some.is in
    ((λ is. absurd (cc)), (λ all. absurd (let none = all-noted c.args.self.now.members all in cc)))

pub returns-in-None-clause-none : goal.returns-in-None-clause-none
returns-in-None-clause-none c =
    let first = ap (λ (v : NotesView). first_to_note None v.members) (sym c.self.view_is)
    ∙ ap (first_to_note None) (sym c.deref.ensures.value) ∙ sym c.first_to_note.ensures ∙ c.in-None.is in
    ((λ is. none-left c.args.self.now.members first), (λ all. refl))
