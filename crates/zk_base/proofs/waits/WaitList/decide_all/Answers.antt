use Rattle.std.proofs.Common.{◌≡◌, ◌+◌, ◌<◌, ◌≤◌, length, drop, map, sym, ap, subst, ◌∙◌, arith, rules}
use Rattle.std.proofs.lemmas.List.{length-map}
use Rattle.std.proofs.lemmas.List.Elements.{All-weaker}
use Rattle.zk_base.specs.declared.slots.Slot.{Slot}
use Rattle.zk_base.specs.Waits.{all_decided, open_waits}
use Rattle.zk_base.specs.Slots.{decided_all, waits_in, IsWaitList}
use Rattle.zk_base.proofs.SlotWaits.{waits-all}
use Rattle.zk_base.proofs.SlotsKept.{take-front, kept-all, open-is}
use Rattle.zk_base.proofs.SlotsFound.{seen}
use Rattle.zk_base.proofs.SlotsListed.{list-all}
use Rattle.zk_base.proofs.waits.WaitList.decide_all.Goals as goal

pub invariant_of-self : goal.invariant_of-self
invariant_of-self g c =
    let i = c.self.inside in
    let f = decided_all (i.decisions + 1) c.args.answer in
    let now : c.decide_each.new.slots ≡ map f i.slots.items = c.decide_each.ensures ∙ ap (map f) c.deref_mut.ensures.value in
    let long : length c.decide_each.new.slots ≡ i.slots.len = search rules in
    let items = take-front c.decide_each.new.slots (drop (length c.decide_each.new.slots) i.slots.items) i.slots.len long ∙ now in
    let told = c.everything-self-inside.result in
    subst (λ l. IsWaitList l c.clear.new.self.items 0 i.ended i.next (i.decisions + 1) told) (sym items)
    (subst (λ l. IsWaitList (map f i.slots.items) l 0 i.ended i.next (i.decisions + 1) told) (sym c.clear.ensures.items)
    (list-all c.self.invariant c.args.answer (search (arith, rules)) told
    (λ place below. c.everything-self-inside.ensures place (search (arith, rules)))))

pub returns-clause-waits : goal.returns-clause-waits
returns-clause-waits g c =
    let i = c.self.inside in
    let f = decided_all (i.decisions + 1) c.args.answer in
    let now : c.decide_each.new.slots ≡ map f i.slots.items = c.decide_each.ensures ∙ ap (map f) c.deref_mut.ensures.value in
    let long : length c.decide_each.new.slots ≡ i.slots.len = search rules in
    let items = take-front c.decide_each.new.slots (drop (length c.decide_each.new.slots) i.slots.items) i.slots.len long ∙ now in
    ap waits_in items
    ∙ waits-all (i.decisions + 1) c.args.answer i.slots.items
    (All-weaker (λ (s : Slot g.row.M.Denot g.row.A.Denot). s.number ≤ i.decisions)
    (λ (s : Slot g.row.M.Denot g.row.A.Denot). s.number < i.decisions + 1)
    (λ s h. omega arith) i.slots.items c.self.invariant.kept.numbered)
    ∙ ap (all_decided c.args.answer) (seen c.self.view_is)

pub returns-clause-open : goal.returns-clause-open
returns-clause-open g c =
    let i = c.self.inside in
    let f = decided_all (i.decisions + 1) c.args.answer in
    let now : c.decide_each.new.slots ≡ map f i.slots.items = c.decide_each.ensures ∙ ap (map f) c.deref_mut.ensures.value in
    let long : length c.decide_each.new.slots ≡ i.slots.len = search rules in
    let items = take-front c.decide_each.new.slots (drop (length c.decide_each.new.slots) i.slots.items) i.slots.len long ∙ now in
    let before = open-is c.self.invariant.kept in
    let after = open-is (kept-all c.args.answer c.self.invariant.kept (search (arith, rules))) in
    let same = length-map i.slots.items f in
    let view = ap open_waits (seen c.self.view_is) in
    ap (λ l. open_waits (waits_in l)) items ∙ omega (arith, before, after, same, view)
