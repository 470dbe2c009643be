use Rattle.std.proofs.Common.{Some, sym, ap, ◌∙◌}
use Rattle.std.specs.List.{position}
use Rattle.zk_poll.specs.Notes.{is_at}
use Rattle.zk_poll.proofs.Noting.{note-set, none-at, found-at}
use Rattle.zk_poll.proofs.notes.note_at.Goals as goal

pub returns-in-Some-clause-items : goal.returns-in-Some-clause-items
returns-in-Some-clause-items c =
    let mine = is_at c.args.place in
    let found = ap (position mine) (sym c.deref.ensures.value) ∙ sym c.place_of.ensures ∙ c.in-Some.is in
    note-set c.args.place c.args.members.now.items c.in-Some.at c.index_mut.result.now found
    (found-at c.args.place c.args.members.now.items c.in-Some.at _ found ∙ ap Some (sym c.index_mut.ensures.value))

pub returns-in_default-clause-items : goal.returns-in_default-clause-items
returns-in_default-clause-items c =
    let mine = is_at c.args.place in
    sym (none-at c.args.place c.args.members.now.items (ap (position mine) (sym c.deref.ensures.value)
    ∙ sym c.place_of.ensures ∙ c.in_default.is))
