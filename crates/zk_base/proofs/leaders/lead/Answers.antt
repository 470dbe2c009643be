use Rattle.std.proofs.Common.{ltb, cond, ap, sym, ◌∙◌}
use Rattle.std.specs.List.{insert, list_any, position_or_len}
use Rattle.zk_base.specs.declared.leaders.First.{First}
use Rattle.zk_base.specs.Order.{put_by}
use Rattle.zk_base.specs.Slots.{is_of}
use Rattle.zk_base.proofs.Order.{put_by-insert}
use Rattle.zk_base.proofs.leaders.lead.Goals as goal

pub returns-then-has_rank-clause-items : goal.returns-then-has_rank-clause-items
returns-then-has_rank-clause-items c =
    let fs = c.args.firsts.now.items in
    let new : First = record { rank = c.args.rank; place = c.args.place } in
    let there = ap (list_any (is_of c.args.rank)) (sym c.deref.ensures.value) ∙ sym c.has_rank.ensures ∙ c.if-has_rank.true in
    sym (ap (λ b. cond b fs (put_by (λ f. f.rank) new fs)) there)

pub returns-clause-items : goal.returns-clause-items
returns-clause-items c =
    let fs = c.args.firsts.now.items in
    let new : First = record { rank = c.args.rank; place = c.args.place } in
    let none = ap (list_any (is_of c.args.rank)) (sym c.deref.ensures.value) ∙ sym c.has_rank.ensures ∙ c.if-has_rank.false in
    c.in-Ok.ensures.items
    ∙ ap (λ n. insert fs n new) (c.place_above-at.ensures.place
    ∙ ap (position_or_len (λ (f : First). ltb c.args.rank f.rank)) c.deref-2.ensures.value)
    ∙ sym (put_by-insert (λ (f : First). f.rank) new fs)
    ∙ sym (ap (λ b. cond b fs (put_by (λ f. f.rank) new fs)) none)
