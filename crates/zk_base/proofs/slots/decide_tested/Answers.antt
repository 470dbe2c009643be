use Rattle.std.proofs.Common.{◌≡◌, ◌+◌, ◌<◌, Some, true, length, get_or, drop, refl, sym, subst, ◌∙◌, arith, rules}
use Rattle.std.proofs.lemmas.List.{get_or_default}
use Rattle.zk_base.specs.declared.slots.Slot.{Slot}
use Rattle.zk_base.specs.Slots.{place_of, is_waiting, answer_by, leads, IsIn}
use Rattle.zk_base.proofs.SlotsKept.{Rises-passed}
use Rattle.zk_base.proofs.SlotsListed.{stays-none, stays-more}
use Rattle.zk_base.proofs.SlotsTested.{tested-next, tested-left, tested-all}
use Rattle.zk_base.proofs.slots.decide_tested.Goals.{in-Some, in_default}
use Rattle.zk_base.proofs.slots.decide_tested.Goals as goal

pub loop-index-init : goal.loop-index-init
loop-index-init g c = record {
  slots = λ says answers. refl;
  stays = stays-none c.args.number c.args.slots.now c.args.firsts.now.items c.args.told.now;
  ordered = search rules;
  fewer = omega arith;
  len = search (arith, rules);
  capacity = search rules;
}

pub loop-index-preserved : goal.loop-index-preserved
loop-index-preserved g c =
    let l = c.loop-index in
    let s = c.index-slots-index.result in
    let it = get_or l.slots l.index s in
    let within : l.index < length c.args.slots.now = search rules in
    let there : l.index < length l.slots = search (arith, rules) in
    elim c.match-answer_by.branch [
      | in-Some v ↦ record {
        slots = λ says answers.
            let given : answer_by says it ≡ Some v.in-Some.answer =
            sym (c.answer_by.ensures.answer says answers) ∙ v.in-Some.is in
            v.slots-is ∙ v.decide_at.ensures.slots s
            ∙ tested-next c.args.number says c.args.slots.now l.slots l.index s within there (l.invariant.slots says answers)
            (Some v.in-Some.answer) given;
        stays =
            let on : is_waiting it ≡ true = v.in-Some.ensures.waits in
            let here : IsIn v.with.result (place_of it) = subst (λ (t : Slot g.row.M.Denot g.row.A.Denot).
            IsIn v.with.result (place_of t)) (get_or_default l.slots l.index _ s there)
            v.with.ensures.here in
            rw (v.slots-is, v.firsts-is, v.told-is, v.decided-is, v.decide_at.ensures.slots s, v.decide_at.ensures.firsts s)
            (stays-more l.invariant.stays v.in-Some.answer l.index s there on v.with.result here v.with.ensures.wide);
        ordered = rw (v.firsts-is, v.decide_at.ensures.firsts s)
            (Rises-passed it.rank (place_of it) (leads it.rank (drop (l.index + 1) l.slots)) l.firsts.items l.invariant.ordered);
        fewer = search (arith, rules);
        len = search (arith, rules);
        capacity = search (arith, rules);
      }
      | in_default v ↦ record {
        slots = λ says answers.
            v.slots-is ∙ tested-left c.args.number says c.args.slots.now l.slots l.index s within there
            (l.invariant.slots says answers) c.answer_by.result (sym (c.answer_by.ensures.answer says answers))
            v.in_default.not-Some;
        stays = rw (v.slots-is, v.firsts-is, v.told-is, v.decided-is) l.invariant.stays;
        ordered = rw v.firsts-is l.invariant.ordered;
        fewer = search (arith, rules);
        len = search (arith, rules);
        capacity = search (arith, rules);
      }
    ]

pub returns-clause-slots : goal.returns-clause-slots
returns-clause-slots g c = λ says answers.
    tested-all c.args.number says c.args.slots.now c.loop-index.slots c.loop-index.index (search rules)
    (c.loop-index.invariant.slots says answers)
