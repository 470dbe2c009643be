use Rattle.std.proofs.Common.{rules, ◌≡◌, ℕ, ◌∙◌, refl, List, length, set, get_or, sym, ap, max}
use Rattle.std.specs.Vec.{with_items}
use Rattle.std.proofs.lemmas.List.{with_items_is}
use Rattle.zk_failures.proofs.LookOrders.{floor-kept, floor-raised, named-within}
use Rattle.zk_failures.proofs.look_order.Floor.add.Goals as goal

pub returns-in-Some-clause-floor : goal.returns-in-Some-clause-floor
returns-in-Some-clause-floor c = λ earlier is.
    let old = c.args.self.now in
    let new = c.raise.new.numbers in
    let at = c.in-Some.object in
    let value = c.deref_mut.ensures.value in
    let within = named-within (length old.stamps.items) c.args.spot at c.in-Some.stamp c.requires (sym c.in-Some.ensures) in
    let long : length new ≡ old.stamps.len = search rules in
    floor-raised old (record { front = c.max-self.result; stamps = with_items old.stamps new }) earlier c.args.spot is
    (c.max-self.ensures ∙ ap (max old.front) c.work_front.ensures) at c.in-Some.stamp (sym c.in-Some.ensures) within
    (with_items_is old.stamps new long ∙ c.raise.ensures
    ∙ ap (λ (l : List ℕ). set l at (max (get_or l at 0) c.in-Some.stamp)) value)

pub returns-in_default-clause-floor : goal.returns-in_default-clause-floor
returns-in_default-clause-floor c = λ earlier is.
    let old = c.args.self.now in
    floor-kept old (record { front = c.max-self.result; stamps = old.stamps }) earlier c.args.spot is
    (c.max-self.ensures ∙ ap (max old.front) c.work_front.ensures) (sym c.in_default.ensures) refl
