use Rattle.std.proofs.Common.{sym, ap, ◌∙◌, arith, rules}
use Rattle.std.proofs.lemmas.List.{get_or_default}
use Rattle.zk_base.specs.Waits.{decision_of, ended, open_waits}
use Rattle.zk_base.specs.Slots.{answer_for, over}
use Rattle.zk_base.proofs.SlotWaits.{decision-at, decision-nowhere, ended-none}
use Rattle.zk_base.proofs.SlotsFound.{seen, found-at, nowhere-at}
use Rattle.zk_base.proofs.SlotsListed.{list-told}
use Rattle.zk_base.proofs.SlotsEnded.{when-ended}
use Rattle.zk_base.proofs.waits.WaitList.end.Goals as goal

pub returns-in_err-index-clause-answer : goal.returns-in_err-index-clause-answer
returns-in_err-index-clause-answer g c =
    c.from_residual.ensures ∙ sym (decision-nowhere c.args.player c.args.place c.self.inside.slots.items
    (nowhere-at c.deref.ensures.value c.args.place c.in_err-index.ensures.none))
    ∙ ap (λ ws. decision_of ws c.args.player c.args.place) (seen c.self.view_is)

pub returns-in_err-index-clause-waits : goal.returns-in_err-index-clause-waits
returns-in_err-index-clause-waits g c =
    let ss = c.self.inside.slots.items in
    let none = decision-nowhere c.args.player c.args.place ss (nowhere-at c.deref.ensures.value c.args.place
    c.in_err-index.ensures.none) in
    sym (seen c.self.view_is) ∙ ended-none c.args.player c.args.place ss none
    ∙ ap (λ ws. ended ws c.args.player c.args.place) (seen c.self.view_is)

pub returns-in_err-answer-clause-answer : goal.returns-in_err-answer-clause-answer
returns-in_err-answer-clause-answer g c =
    let s = c.index.result.now in
    let found = found-at c.deref.ensures.value c.self.invariant.kept.rises c.in_ok-index.index s c.in_ok-index.ensures.within
    (c.in_ok-index.ensures.found s) in
    let none = ap (answer_for c.args.player) (sym c.index.ensures) ∙ sym c.answer_for.ensures ∙ c.in_err-answer.was in
    c.from_residual-in_err-answer.ensures
    ∙ sym (decision-at c.args.player c.args.place c.self.inside.slots.items _ found.alone found.at ∙ none)
    ∙ ap (λ ws. decision_of ws c.args.player c.args.place) (seen c.self.view_is)

pub returns-in_err-answer-clause-waits : goal.returns-in_err-answer-clause-waits
returns-in_err-answer-clause-waits g c =
    let ss = c.self.inside.slots.items in
    let s = c.index.result.now in
    let found = found-at c.deref.ensures.value c.self.invariant.kept.rises c.in_ok-index.index s c.in_ok-index.ensures.within
    (c.in_ok-index.ensures.found s) in
    let none = ap (answer_for c.args.player) (sym c.index.ensures) ∙ sym c.answer_for.ensures ∙ c.in_err-answer.was in
    sym (seen c.self.view_is) ∙ ended-none c.args.player c.args.place ss
    (decision-at c.args.player c.args.place ss _ found.alone found.at ∙ none)
    ∙ ap (λ ws. ended ws c.args.player c.args.place) (seen c.self.view_is)

pub invariant_of-self : goal.invariant_of-self
invariant_of-self g c =
    let s = c.index.result.now in
    let found = found-at c.deref.ensures.value c.self.invariant.kept.rises c.in_ok-index.index s c.in_ok-index.ensures.within
    (c.in_ok-index.ensures.found s) in
    let is = ap (answer_for c.args.player) (sym c.index.ensures) ∙ sym c.answer_for.ensures ∙ c.in_ok-answer.was in
    let new = c.end.ensures ∙ ap over (c.index_mut.ensures.value ∙ get_or_default c.self.inside.slots.items c.in_ok-index.index _ s
    found.within) in
    let after = when-ended c.self.invariant c.args.player found new c.close_up-self-inside.ensures.slots
    c.close_up-self-inside.ensures.half
    c.in_ok-answer.answer is in
    list-told after.listed c.where_any-self-inside.result c.len.result (search rules) c.where_any-self-inside.ensures

pub returns-clause-answer : goal.returns-clause-answer
returns-clause-answer g c =
    let s = c.index.result.now in
    let found = found-at c.deref.ensures.value c.self.invariant.kept.rises c.in_ok-index.index s c.in_ok-index.ensures.within
    (c.in_ok-index.ensures.found s) in
    let is = ap (answer_for c.args.player) (sym c.index.ensures) ∙ sym c.answer_for.ensures ∙ c.in_ok-answer.was in
    sym is ∙ sym (decision-at c.args.player c.args.place c.self.inside.slots.items _ found.alone found.at)
    ∙ ap (λ ws. decision_of ws c.args.player c.args.place) (seen c.self.view_is)

pub returns-clause-waits : goal.returns-clause-waits
returns-clause-waits g c =
    let s = c.index.result.now in
    let found = found-at c.deref.ensures.value c.self.invariant.kept.rises c.in_ok-index.index s c.in_ok-index.ensures.within
    (c.in_ok-index.ensures.found s) in
    let is = ap (answer_for c.args.player) (sym c.index.ensures) ∙ sym c.answer_for.ensures ∙ c.in_ok-answer.was in
    let new = c.end.ensures ∙ ap over (c.index_mut.ensures.value ∙ get_or_default c.self.inside.slots.items c.in_ok-index.index _ s
    found.within) in
    let after = when-ended c.self.invariant c.args.player found new c.close_up-self-inside.ensures.slots
    c.close_up-self-inside.ensures.half
    c.in_ok-answer.answer is in
    after.holds ∙ ap (λ ws. ended ws c.args.player c.args.place) (seen c.self.view_is)

pub returns-clause-open : goal.returns-clause-open
returns-clause-open g c =
    let s = c.index.result.now in
    let found = found-at c.deref.ensures.value c.self.invariant.kept.rises c.in_ok-index.index s c.in_ok-index.ensures.within
    (c.in_ok-index.ensures.found s) in
    let is = ap (answer_for c.args.player) (sym c.index.ensures) ∙ sym c.answer_for.ensures ∙ c.in_ok-answer.was in
    let new = c.end.ensures ∙ ap over (c.index_mut.ensures.value ∙ get_or_default c.self.inside.slots.items c.in_ok-index.index _ s
    found.within) in
    let after = when-ended c.self.invariant c.args.player found new c.close_up-self-inside.ensures.slots
    c.close_up-self-inside.ensures.half
    c.in_ok-answer.answer is in
    let fewer = after.fewer in
    let view = ap open_waits (seen c.self.view_is) in
    omega (arith, fewer, view)
