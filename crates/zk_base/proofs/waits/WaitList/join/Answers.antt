use Rattle.std.proofs.Common.{◌≡◌, ◌+◌, ◌++◌, [], ◌∷◌, length, refl, sym, ap, subst, ◌∙◌, arith, rules}
use Rattle.std.proofs.lemmas.List.{length-append}
use Rattle.zk_base.specs.declared.slots.Slot.{Slot}
use Rattle.zk_base.specs.declared.slots.Stage.TheVariants.{Waits}
use Rattle.zk_base.specs.Waits.{joined, open_waits, WaitView}
use Rattle.zk_base.specs.Slots.{waits_in, led, IsWaitList}
use Rattle.zk_base.proofs.SlotWaits.{waits-joined}
use Rattle.zk_base.proofs.SlotsKept.{open-is}
use Rattle.zk_base.proofs.SlotsFound.{seen}
use Rattle.zk_base.proofs.SlotsListed.{list-joined}
use Rattle.zk_base.proofs.waits.WaitList.join.Goals as goal

pub invariant_of-self-2 : goal.invariant_of-self-2
invariant_of-self-2 g c =
    let i = c.self.inside in
    let s : Slot g.row.M.Denot g.row.A.Denot = record {
      waiter = c.args.waiter;
      rank = c.rank_of-rank.result;
      number = 0;
      stage
          = Waits;
    } in
    let up = c.requires.above in
    let view = ap (λ (v : WaitView g.row.M.Denot g.row.A.Denot). v.next) c.self.view_is in
    let slots : c.push_within.new.items.items ≡ i.slots.items ++ s ∷ [] = search rules in
    let firsts : c.lead.new.firsts.items ≡ led s.rank c.args.waiter.place i.firsts.items = search rules in
    subst (λ l. IsWaitList l c.lead.new.firsts.items (i.waiting + 1) i.ended (c.args.waiter.place + 1) i.decisions i.told)
    (sym slots)
    (subst (λ l. IsWaitList (i.slots.items ++ s ∷ []) l (i.waiting + 1) i.ended (c.args.waiter.place + 1) i.decisions i.told)
    (sym firsts)
    (list-joined c.self.invariant s (omega arith) refl (c.rank_of-rank.ensures.rank, c.rank_of-rank.ensures.fits) refl))

pub returns-clause-ok : goal.returns-clause-ok
returns-clause-ok g c =
    let i = c.self.inside in
    let s : Slot g.row.M.Denot g.row.A.Denot = record {
      waiter = c.args.waiter;
      rank = c.rank_of-rank.result;
      number = 0;
      stage
          = Waits;
    } in
    let slots : c.push_within.new.items.items ≡ i.slots.items ++ s ∷ [] = search rules in
    ap waits_in slots
    ∙ waits-joined i.slots.items s refl (c.rank_of-rank.ensures.rank, c.rank_of-rank.ensures.fits) c.self.invariant.kept.ranked
    ∙ ap (λ ws. joined ws c.args.waiter) (seen c.self.view_is)

pub returns-clause-open : goal.returns-clause-open
returns-clause-open g c =
    let i = c.self.inside in
    let before = open-is c.self.invariant.kept in
    let now = invariant_of-self-2 g c in
    let after = open-is now.kept in
    let s : Slot g.row.M.Denot g.row.A.Denot = record {
      waiter = c.args.waiter;
      rank = c.rank_of-rank.result;
      number = 0;
      stage
          = Waits;
    } in
    let slots : c.push_within.new.items.items ≡ i.slots.items ++ s ∷ [] = search rules in
    let long = ap length slots ∙ length-append i.slots.items (s ∷ []) in
    let view = ap open_waits (seen c.self.view_is) in
    omega arith
