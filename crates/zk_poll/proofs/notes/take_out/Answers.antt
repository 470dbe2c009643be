use Rattle.std.proofs.Common.{sym, ap, ◌∙◌}
use Rattle.std.specs.List.{position}
use Rattle.zk_base.proofs.Firsts.{find-none, remove-place, without-none}
use Rattle.zk_poll.specs.Notes.{is_at}
use Rattle.zk_poll.proofs.Noting.{found-is}
use Rattle.zk_poll.proofs.notes.take_out.Goals as goal

pub returns-in-Some-clause-found : goal.returns-in-Some-clause-found
returns-in-Some-clause-found c =
    let mine = is_at c.args.place in
    let found = ap (position mine) (sym c.deref.ensures.value) ∙ sym c.place_of.ensures ∙ c.in-Some.is in
    let is = found-is c.args.place c.args.members.now.items c.in-Some.at c.remove.result found in
    cc

pub returns-in-Some-clause-rest : goal.returns-in-Some-clause-rest
returns-in-Some-clause-rest c =
    let mine = is_at c.args.place in
    let found = ap (position mine) (sym c.deref.ensures.value) ∙ sym c.place_of.ensures ∙ c.in-Some.is in
    c.remove.ensures.items ∙ remove-place mine c.args.members.now.items c.in-Some.at found

pub returns-in-None-clause-found : goal.returns-in-None-clause-found
returns-in-None-clause-found c =
    let mine = is_at c.args.place in
    sym (find-none mine c.args.members.now.items (ap (position mine) (sym c.deref.ensures.value) ∙ sym c.place_of.ensures
    ∙ c.in-None.is))

pub returns-in-None-clause-rest : goal.returns-in-None-clause-rest
returns-in-None-clause-rest c =
    let mine = is_at c.args.place in
    sym (without-none mine c.args.members.now.items (ap (position mine) (sym c.deref.ensures.value)
    ∙ sym c.place_of.ensures ∙ c.in-None.is))
