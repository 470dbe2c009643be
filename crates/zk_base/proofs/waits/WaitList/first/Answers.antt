use Rattle.std.proofs.Common.{◌≡◌, ◌<◌, Some, length, map, slice_get, sym, ap, ◌∙◌, arith, rules}
use Rattle.zk_base.specs.declared.leaders.First.{First}
use Rattle.zk_base.proofs.SlotsKept.{no-items, kept-empty, first-there, first-served}
use Rattle.zk_base.proofs.SlotsFound.{seen, found-at, nowhere-first}
use Rattle.zk_base.proofs.waits.WaitList.first.Goals as goal

pub returns-then-is_empty : goal.returns-then-is_empty
returns-then-is_empty g c =
    let none : length c.self.inside.firsts.items ≡ 0 = search (arith, rules) in
    ap (λ l. slice_get (map (λ s. s.waiter) l) 0) (sym (kept-empty c.self.invariant.kept
    (no-items c.self.inside.firsts.items none)))
    ∙ ap (λ ws. slice_get ws.waiting 0) (seen c.self.view_is)

pub returns-in_err-index : goal.returns-in_err-index
returns-in_err-index g c =
    let some : 0 < length c.self.inside.firsts.items = search rules in
    absurd (first-there c.self.invariant.kept c.index.result.now some
    (nowhere-first c.deref.ensures.value (ap (λ (f : First). f.place) c.index.ensures) c.in_err-index.ensures.none))

pub returns : goal.returns
returns g c =
    let some : 0 < length c.self.inside.firsts.items = search rules in
    let s = c.index-2.result.now in
    let found = found-at c.deref.ensures.value c.self.invariant.kept.rises c.in_ok-index.index s c.in_ok-index.ensures.within
    (c.in_ok-index.ensures.found s ∙ ap (λ (f : First). f.place) c.index.ensures) in
    let served = first-served c.self.invariant.kept c.index.result.now c.in_ok-index.index s some found.within found.at in
    ap (λ s. Some s.waiter) c.index-2.ensures ∙ ap (λ l. slice_get (map (λ s. s.waiter) l) 0) (sym served.3)
    ∙ ap (λ ws. slice_get ws.waiting 0) (seen c.self.view_is)
