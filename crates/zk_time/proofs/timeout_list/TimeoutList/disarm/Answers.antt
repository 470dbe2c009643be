use Rattle.std.proofs.Common.{◌≡◌, ℕ, true, ◌+◌, List, ◌++◌, length, take, drop, vec_capacity, sym, ap, subst, ◌∙◌, arith}
use Rattle.std.specs.List.{position}
use Rattle.std.proofs.lemmas.List.{take_at}
use Rattle.zk_time.specs.declared.arm.Arm.{Arm}
use Rattle.zk_time.specs.Timeouts.{is_armed, disarm, IsOrdered}
use Rattle.zk_time.specs.Deltas.{is_arm_of, earlier, later, longer, seen_of, IsKept}
use Rattle.zk_time.proofs.Disarming.{Takes, around_place, around_removed, disarms_none, disarms_some, takes_next, takes_ordered, takes_kept}
use Rattle.zk_time.proofs.Room.{ordered}
use Rattle.zk_time.proofs.timeout_list.TimeoutList.disarm.Goals as goal
use Rattle.zk_time.proofs.timeout_list.TimeoutList.disarm.Goals.{After-lengthen}

pub returns-in_default-clause-reply : goal.returns-in_default-clause-reply
returns-in_default-clause-reply c =
    let none = ap (position (is_arm_of c.args.item)) (sym c.deref.ensures.value) ∙ sym c.place_of.ensures ∙ c.in_default.is in
    sym (disarms_none _ c.self.inside.arms.items c.args.self.now c.args.item c.self.view_is none).0

pub returns-in_default-clause-next : goal.returns-in_default-clause-next
returns-in_default-clause-next c =
    let none = ap (position (is_arm_of c.args.item)) (sym c.deref.ensures.value) ∙ sym c.place_of.ensures ∙ c.in_default.is in
    sym (disarms_none _ c.self.inside.arms.items c.args.self.now c.args.item c.self.view_is none).1

pub returns-in_default-clause-ordered : goal.returns-in_default-clause-ordered
returns-in_default-clause-ordered c = ordered _ c.self.inside.arms.items c.args.self.now c.self.view_is c.self.invariant

known : (c : After-lengthen) →
    Takes (vec_capacity c.self.inside.arms) c.self.inside.arms.items c.lengthen.new.arms c.args.self.now
    (earlier (c.in-Some.index + 1) c.self.inside.arms.items) c.remove-arm.result (later c.in-Some.index c.self.inside.arms.items)
known c =
    let arms = c.self.inside.arms.items in
    let index = c.in-Some.index in
    let found = ap (position (is_arm_of c.args.item)) (sym c.deref.ensures.value) ∙ sym c.place_of.ensures ∙ c.in-Some.is in
    let at = disarms_some _ arms c.args.self.now c.args.item index c.remove-arm.result c.self.view_is found
    c.remove-arm.ensures.value in
    let removed = c.deref_mut.ensures.value ∙ c.remove-arm.ensures.items in
    record {
      view = c.self.view_is;
      kept = c.self.invariant;
      before = around_place arms index c.remove-arm.result at.0 c.remove-arm.ensures.value;
      behind = around_removed arms c.lengthen.new.arms index c.remove-arm.result.delta at.0
          (c.lengthen.ensures.earlier ∙ ap (earlier index) removed)
          (c.lengthen.ensures.later ∙ ap (λ (l : List Arm). longer c.remove-arm.result.delta (later index l)) removed);
    }

-- the items of the Vec after the write
abbrev items_after : After-lengthen → List Arm
items_after c = take c.remove-arm.new.self.len
    (c.lengthen.new.arms ++ drop (length c.lengthen.new.arms) c.remove-arm.new.self.items)

written : (c : After-lengthen) → items_after c ≡ c.lengthen.new.arms
written c = take_at c.lengthen.new.arms (drop (length c.lengthen.new.arms) c.remove-arm.new.self.items)
    c.remove-arm.new.self.len (omega arith)

seen : (c : After-lengthen) →
    seen_of c.remove-arm.new.self.cap (items_after c) ≡ seen_of (vec_capacity c.self.inside.arms) c.lengthen.new.arms
seen c = ap (seen_of c.remove-arm.new.self.cap) (written c)
    ∙ ap (λ (n : ℕ). seen_of n c.lengthen.new.arms) c.remove-arm.ensures.capacity

its_item : (c : After-lengthen) → (c.remove-arm.result.item ≡ c.args.item) × (is_armed c.args.self.now c.args.item ≡ true)
its_item c =
    let found = ap (position (is_arm_of c.args.item)) (sym c.deref.ensures.value) ∙ sym c.place_of.ensures ∙ c.in-Some.is in
    let at = disarms_some _ c.self.inside.arms.items c.args.self.now c.args.item c.in-Some.index c.remove-arm.result
    c.self.view_is found c.remove-arm.ensures.value in
    (at.1, at.2)

pub invariant_of-self : goal.invariant_of-self
invariant_of-self c =
    let k = (goal.at.invariant_of-self c).After-lengthen in
    let kept = takes_kept _ _ _ _ _ _ _ (known k) in
    subst (λ (n : ℕ). IsKept n (items_after k)) (sym c.remove-arm.ensures.capacity)
    (subst (IsKept (vec_capacity c.self.inside.arms)) (sym (written k)) kept)

pub returns-clause-reply : goal.returns-clause-reply
returns-clause-reply c = sym (its_item (goal.at.returns-clause-reply c).After-lengthen).1

pub returns-clause-next : goal.returns-clause-next
returns-clause-next c =
    let k = (goal.at.returns-clause-next c).After-lengthen in
    seen k ∙ takes_next _ _ _ _ _ _ _ (known k) ∙ ap (disarm c.args.self.now) (its_item k).0

pub returns-clause-ordered : goal.returns-clause-ordered
returns-clause-ordered c =
    let k = (goal.at.returns-clause-ordered c).After-lengthen in
    subst IsOrdered (sym (seen k)) (takes_ordered _ _ _ _ _ _ _ (known k))
