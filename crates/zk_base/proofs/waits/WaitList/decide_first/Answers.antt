use Rattle.std.proofs.Common.{◌≡◌, ◌+◌, ◌-◌, ◌<◌, length, drop, sym, ap, subst, ◌∙◌, arith, rules}
use Rattle.zk_base.specs.declared.leaders.First.{First}
use Rattle.zk_base.specs.Waits.{first_decided, open_waits}
use Rattle.zk_base.specs.Slots.{place_of, Rises, waits_in, IsIn, IsWaitList}
use Rattle.zk_base.proofs.SlotWaits.{waits-empty}
use Rattle.zk_base.proofs.SlotsKept.{take-front, some-items, no-items, kept-empty, first-there, first-waits}
use Rattle.zk_base.proofs.SlotsFound.{seen, nowhere-first}
use Rattle.zk_base.proofs.SlotsServed.{when-served}
use Rattle.zk_base.proofs.waits.WaitList.decide_first.Goals as goal

pub returns-then-is_empty-clause-waits : goal.returns-then-is_empty-clause-waits
returns-then-is_empty-clause-waits g c =
    let none : length c.self.inside.firsts.items ≡ 0 = search (arith, rules) in
    let empty = kept-empty c.self.invariant.kept (no-items c.self.inside.firsts.items none) in
    sym (seen c.self.view_is) ∙ waits-empty c.self.inside.slots.items c.args.answer empty
    ∙ ap (first_decided c.args.answer) (seen c.self.view_is)

pub index_of-requires : goal.index_of-requires
index_of-requires g c = subst (Rises place_of) (sym c.deref.ensures.value) c.self.invariant.kept.rises

pub returns-in_default-clause-waits : goal.returns-in_default-clause-waits
returns-in_default-clause-waits g c =
    let fs = c.self.inside.firsts in
    let some = some-items fs.items fs.len (search rules) (sym c.is_empty.ensures ∙ c.if-is_empty.false) in
    absurd (first-there c.self.invariant.kept c.index.result.now some
    (nowhere-first c.deref.ensures.value (ap (λ (f : First). f.place) c.index.ensures) c.in_default.ensures.none))

pub overflow_sub-self : goal.overflow_sub-self
overflow_sub-self g c =
    let fs = c.self.inside.firsts in
    first-waits c.self.invariant.kept (some-items fs.items fs.len (search rules) (sym c.is_empty.ensures ∙ c.if-is_empty.false))

pub overflow_add-self : goal.overflow_add-self
overflow_add-self g c =
    let fs = c.self.inside.firsts in
    let waits = first-waits c.self.invariant.kept (some-items fs.items fs.len (search rules)
    (sym c.is_empty.ensures ∙ c.if-is_empty.false)) in
    let few = c.self.invariant.kept.few in
    let less : c.self.inside.decisions < c.self.inside.next = omega (arith, waits, few) in
    search (arith, rules)

pub invariant_of-self : goal.invariant_of-self
invariant_of-self g c =
    let i = c.self.inside in
    let first = ap (λ (f : First). f.place) c.index.ensures in
    let some = some-items i.firsts.items i.firsts.len (search rules) (sym c.is_empty.ensures ∙ c.if-is_empty.false) in
    let told = c.with-self-inside in
    let after = c.decide_at in
    let served = when-served c.self.invariant c.args.answer c.index.result.now some c.deref.ensures.value c.in-Some.ensures.within
    (λ s. c.in-Some.ensures.found s ∙ first) c.deref_mut.ensures.value after.ensures.slots after.ensures.firsts
    told.result (subst (IsIn told.result) first told.ensures.here) told.ensures.wide in
    let long : length after.new.slots ≡ i.slots.len = search rules in
    let items = take-front after.new.slots (drop (length after.new.slots) i.slots.items) i.slots.len long in
    subst (λ l. IsWaitList l after.new.firsts.items (i.waiting - 1) i.ended i.next (i.decisions + 1) told.result) (sym items)
    served.listed

pub returns-clause-waits : goal.returns-clause-waits
returns-clause-waits g c =
    let i = c.self.inside in
    let first = ap (λ (f : First). f.place) c.index.ensures in
    let some = some-items i.firsts.items i.firsts.len (search rules) (sym c.is_empty.ensures ∙ c.if-is_empty.false) in
    let told = c.with-self-inside in
    let after = c.decide_at in
    let served = when-served c.self.invariant c.args.answer c.index.result.now some c.deref.ensures.value c.in-Some.ensures.within
    (λ s. c.in-Some.ensures.found s ∙ first) c.deref_mut.ensures.value after.ensures.slots after.ensures.firsts
    told.result (subst (IsIn told.result) first told.ensures.here) told.ensures.wide in
    let long : length after.new.slots ≡ i.slots.len = search rules in
    let items = take-front after.new.slots (drop (length after.new.slots) i.slots.items) i.slots.len long in
    ap waits_in items ∙ served.holds ∙ ap (first_decided c.args.answer) (seen c.self.view_is)

pub returns-clause-open : goal.returns-clause-open
returns-clause-open g c =
    let i = c.self.inside in
    let first = ap (λ (f : First). f.place) c.index.ensures in
    let some = some-items i.firsts.items i.firsts.len (search rules) (sym c.is_empty.ensures ∙ c.if-is_empty.false) in
    let told = c.with-self-inside in
    let after = c.decide_at in
    let served = when-served c.self.invariant c.args.answer c.index.result.now some c.deref.ensures.value c.in-Some.ensures.within
    (λ s. c.in-Some.ensures.found s ∙ first) c.deref_mut.ensures.value after.ensures.slots after.ensures.firsts
    told.result (subst (IsIn told.result) first told.ensures.here) told.ensures.wide in
    let long : length after.new.slots ≡ i.slots.len = search rules in
    let items = take-front after.new.slots (drop (length after.new.slots) i.slots.items) i.slots.len long in
    ap (λ l. open_waits (waits_in l)) items ∙ served.as_many ∙ ap open_waits (seen c.self.view_is)
