use Rattle.std.proofs.Common.{eqb, get_or, sym, ap, ◌∙◌, arith}
use Rattle.std.specs.Cmp.{first_so}
use Rattle.std.proofs.lemmas.List.{get_or_default}
use Rattle.zk_base.specs.Waits.{goes_on, left, open_waits}
use Rattle.zk_base.specs.Slots.{waits_for, is_waiting, over}
use Rattle.zk_base.proofs.SlotWaits.{goes_on-at, goes_on-nowhere, left-none}
use Rattle.zk_base.proofs.SlotsKept.{some-waits}
use Rattle.zk_base.proofs.SlotsFound.{seen, found-at, nowhere-at, passed-at}
use Rattle.zk_base.proofs.SlotsEnded.{when-left}
use Rattle.zk_base.proofs.waits.WaitList.leave.Goals as goal

pub returns-in_default-clause-found : goal.returns-in_default-clause-found
returns-in_default-clause-found g c =
    sym (goes_on-nowhere c.args.player c.args.place c.self.inside.slots.items
    (nowhere-at c.deref.ensures.value c.args.place c.in_default.ensures.none))
    ∙ ap (λ ws. goes_on ws c.args.player c.args.place) (seen c.self.view_is)

pub returns-in_default-clause-waits : goal.returns-in_default-clause-waits
returns-in_default-clause-waits g c =
    let ss = c.self.inside.slots.items in
    let none = goes_on-nowhere c.args.player c.args.place ss (nowhere-at c.deref.ensures.value c.args.place
    c.in_default.ensures.none) in
    sym (seen c.self.view_is) ∙ left-none c.args.player c.args.place ss none
    ∙ ap (λ ws. left ws c.args.player c.args.place) (seen c.self.view_is)

pub returns-then-not-waits_for-clause-found : goal.returns-then-not-waits_for-clause-found
returns-then-not-waits_for-clause-found g c =
    let s = c.index.result.now in
    let found = found-at c.deref.ensures.value c.self.invariant.kept.rises c.in-Some.index s c.in-Some.ensures.within
    (c.in-Some.ensures.found s) in
    let is = ap (waits_for c.args.player) (sym c.index.ensures) ∙ sym c.waits_for.ensures ∙ c.if-not-waits_for.true in
    sym (goes_on-at c.args.player c.args.place c.self.inside.slots.items _ found.alone found.at ∙ is)
    ∙ ap (λ ws. goes_on ws c.args.player c.args.place) (seen c.self.view_is)

pub returns-then-not-waits_for-clause-waits : goal.returns-then-not-waits_for-clause-waits
returns-then-not-waits_for-clause-waits g c =
    let ss = c.self.inside.slots.items in
    let s = c.index.result.now in
    let found = found-at c.deref.ensures.value c.self.invariant.kept.rises c.in-Some.index s c.in-Some.ensures.within
    (c.in-Some.ensures.found s) in
    let is = ap (waits_for c.args.player) (sym c.index.ensures) ∙ sym c.waits_for.ensures ∙ c.if-not-waits_for.true in
    sym (seen c.self.view_is) ∙ left-none c.args.player c.args.place ss
    (goes_on-at c.args.player c.args.place ss _ found.alone found.at ∙ is)
    ∙ ap (λ ws. left ws c.args.player c.args.place) (seen c.self.view_is)

pub overflow_sub-self : goal.overflow_sub-self
overflow_sub-self g c =
    let s = c.index.result.now in
    let found = found-at c.deref.ensures.value c.self.invariant.kept.rises c.in-Some.index s c.in-Some.ensures.within
    (c.in-Some.ensures.found s) in
    let is = ap (waits_for c.args.player) (sym c.index.ensures) ∙ sym c.waits_for.ensures ∙ c.if-not-waits_for.false in
    let it = get_or c.self.inside.slots.items c.in-Some.index s in
    some-waits c.self.invariant.kept c.in-Some.index s found.within (first_so (is_waiting it)
    (eqb it.waiter.who.number c.args.player) is)

pub invariant_of-self : goal.invariant_of-self
invariant_of-self g c =
    let s = c.index.result.now in
    let found = found-at c.deref.ensures.value c.self.invariant.kept.rises c.in-Some.index s c.in-Some.ensures.within
    (c.in-Some.ensures.found s) in
    let is = ap (waits_for c.args.player) (sym c.index.ensures) ∙ sym c.waits_for.ensures ∙ c.if-not-waits_for.false in
    let new = c.end.ensures ∙ ap over (c.index_mut.ensures.value ∙ get_or_default c.self.inside.slots.items c.in-Some.index _ s
    found.within) in
    let after = when-left c.self.invariant c.args.player found new c.close_up-self-inside.ensures.slots
    c.close_up-self-inside.ensures.half
    (passed-at c.deref-2.ensures.value c.self.inside.firsts.items c.in-Some.index s (c.pass_on.ensures.items s)) is in
    after.listed

pub returns-clause-found : goal.returns-clause-found
returns-clause-found g c =
    let s = c.index.result.now in
    let found = found-at c.deref.ensures.value c.self.invariant.kept.rises c.in-Some.index s c.in-Some.ensures.within
    (c.in-Some.ensures.found s) in
    let is = ap (waits_for c.args.player) (sym c.index.ensures) ∙ sym c.waits_for.ensures ∙ c.if-not-waits_for.false in
    sym (goes_on-at c.args.player c.args.place c.self.inside.slots.items _ found.alone found.at ∙ is)
    ∙ ap (λ ws. goes_on ws c.args.player c.args.place) (seen c.self.view_is)

pub returns-clause-waits : goal.returns-clause-waits
returns-clause-waits g c =
    let s = c.index.result.now in
    let found = found-at c.deref.ensures.value c.self.invariant.kept.rises c.in-Some.index s c.in-Some.ensures.within
    (c.in-Some.ensures.found s) in
    let is = ap (waits_for c.args.player) (sym c.index.ensures) ∙ sym c.waits_for.ensures ∙ c.if-not-waits_for.false in
    let new = c.end.ensures ∙ ap over (c.index_mut.ensures.value ∙ get_or_default c.self.inside.slots.items c.in-Some.index _ s
    found.within) in
    let after = when-left c.self.invariant c.args.player found new c.close_up-self-inside.ensures.slots
    c.close_up-self-inside.ensures.half
    (passed-at c.deref-2.ensures.value c.self.inside.firsts.items c.in-Some.index s (c.pass_on.ensures.items s)) is in
    after.holds ∙ ap (λ ws. left ws c.args.player c.args.place) (seen c.self.view_is)

pub returns-clause-open : goal.returns-clause-open
returns-clause-open g c =
    let s = c.index.result.now in
    let found = found-at c.deref.ensures.value c.self.invariant.kept.rises c.in-Some.index s c.in-Some.ensures.within
    (c.in-Some.ensures.found s) in
    let is = ap (waits_for c.args.player) (sym c.index.ensures) ∙ sym c.waits_for.ensures ∙ c.if-not-waits_for.false in
    let new = c.end.ensures ∙ ap over (c.index_mut.ensures.value ∙ get_or_default c.self.inside.slots.items c.in-Some.index _ s
    found.within) in
    let after = when-left c.self.invariant c.args.player found new c.close_up-self-inside.ensures.slots
    c.close_up-self-inside.ensures.half
    (passed-at c.deref-2.ensures.value c.self.inside.firsts.items c.in-Some.index s (c.pass_on.ensures.items s)) is in
    let fewer = after.fewer in
    let view = ap open_waits (seen c.self.view_is) in
    omega (arith, fewer, view)
