use Rattle.std.proofs.Common.{◌≡◌, ◌+◌, ◌-◌, ◌<◌, ◌≤◌, min, ◌++◌, length, take, drop, map, refl, sym, ap, subst, ◌∙◌, arith, rules}
use Rattle.std.proofs.lemmas.List.Elements.{All-weaker}
use Rattle.zk_base.specs.declared.slots.Slot.{Slot}
use Rattle.zk_base.specs.Waits.{each_decided, open_waits}
use Rattle.zk_base.specs.Slots.{decided_where, waits_in, IsWaitList}
use Rattle.zk_base.proofs.SlotWaits.{waits-tested}
use Rattle.zk_base.proofs.SlotsKept.{take-front, open-is}
use Rattle.zk_base.proofs.SlotsFound.{seen}
use Rattle.zk_base.proofs.waits.WaitList.decide_by.Goals as goal

pub decide_tested-decided-requires-clause-ordered : goal.decide_tested-decided-requires-clause-ordered
decide_tested-decided-requires-clause-ordered g c = c.self.invariant.kept.ordered

pub overflow_sub-self : goal.overflow_sub-self
overflow_sub-self g c =
    let i = c.self.inside in
    let now = c.decide_tested-decided.ensures.stays.at_once i.waiting i.ended i.next i.decisions refl
    (subst (λ l. IsWaitList l i.firsts.items i.waiting i.ended i.next i.decisions i.told)
    (sym c.deref_mut.ensures.value) c.self.invariant) in
    now.0

pub invariant_of-self : goal.invariant_of-self
invariant_of-self g c =
    let i = c.self.inside in
    let after = c.decide_tested-decided in
    let now = after.ensures.stays.at_once i.waiting i.ended i.next i.decisions refl
    (subst (λ l. IsWaitList l i.firsts.items i.waiting i.ended i.next i.decisions i.told)
    (sym c.deref_mut.ensures.value) c.self.invariant) in
    let long : length after.new.slots ≡ i.slots.len = search rules in
    let items = take-front after.new.slots (drop (length after.new.slots) i.slots.items) i.slots.len long in
    subst (λ n. IsWaitList (take i.slots.len (after.new.slots ++ drop (length after.new.slots) i.slots.items))
    after.new.firsts.items (i.waiting - after.result) i.ended i.next (i.decisions + n) after.new.told) (sym c.min.ensures)
    (subst (λ l. IsWaitList l after.new.firsts.items (i.waiting - after.result) i.ended i.next
    (i.decisions + min after.result 1) after.new.told) (sym items) now.1)

pub returns-clause-waits : goal.returns-clause-waits
returns-clause-waits g c = λ says answers.
    let i = c.self.inside in
    let after = c.decide_tested-decided in
    let f = decided_where (i.decisions + 1) says in
    let now : after.new.slots ≡ map f i.slots.items = after.ensures.slots says answers ∙ ap (map f) c.deref_mut.ensures.value in
    let long : length after.new.slots ≡ i.slots.len = search rules in
    let items = take-front after.new.slots (drop (length after.new.slots) i.slots.items) i.slots.len long ∙ now in
    ap waits_in items
    ∙ waits-tested says (i.decisions + 1) i.slots.items
    (All-weaker (λ (s : Slot g.row.M.Denot g.row.A.Denot). s.number ≤ i.decisions)
    (λ (s : Slot g.row.M.Denot g.row.A.Denot). s.number < i.decisions + 1)
    (λ s h. omega arith) i.slots.items c.self.invariant.kept.numbered)
    ∙ ap (each_decided says) (seen c.self.view_is)

pub returns-clause-open : goal.returns-clause-open
returns-clause-open g c =
    let i = c.self.inside in
    let after = c.decide_tested-decided in
    let now = after.ensures.stays.at_once i.waiting i.ended i.next i.decisions refl
    (subst (λ l. IsWaitList l i.firsts.items i.waiting i.ended i.next i.decisions i.told)
    (sym c.deref_mut.ensures.value) c.self.invariant) in
    let long : length after.new.slots ≡ i.slots.len = search rules in
    let items = take-front after.new.slots (drop (length after.new.slots) i.slots.items) i.slots.len long in
    let many : length i.slots.items ≡ i.slots.len = search rules in
    let before = open-is c.self.invariant.kept in
    let left = open-is now.1.kept in
    let view = ap open_waits (seen c.self.view_is) in
    ap (λ l. open_waits (waits_in l)) items ∙ omega (arith, before, left, long, many, view)
