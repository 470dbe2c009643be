use Rattle.std.proofs.Common.{◌≡◌, ℕ, ◌-◌, [], List, ◌++◌, length, take, drop, vec_capacity, sym, ap, subst, ◌∙◌, arith}
use Rattle.std.specs.List.{slice_get}
use Rattle.std.proofs.lemmas.List.{length-take, take_at}
use Rattle.zk_time.specs.declared.arm.Arm.{Arm}
use Rattle.zk_time.specs.Timeouts.{IsOrdered}
use Rattle.zk_time.specs.Deltas.{earlier, later, longer, seen_of, IsKept}
use Rattle.zk_time.proofs.Disarming.{Takes, takes_last, takes_ordered, takes_kept}
use Rattle.zk_time.proofs.Room.{ordered}
use Rattle.zk_time.proofs.timeout_list.TimeoutList.due.Goals as goal
use Rattle.zk_time.proofs.timeout_list.TimeoutList.due.Goals.{Then-now-deadline, After-lengthen}

known : (c : After-lengthen) →
    Takes (vec_capacity c.self.inside.arms) c.self.inside.arms.items c.lengthen.new.arms c.args.self.now []
    c.in_ok-arm.arm (later (length c.self.inside.arms.items - 1) c.self.inside.arms.items)
known c =
    let arms = c.self.inside.arms.items in
    let last = ap (λ (l : List Arm). slice_get l (length l - 1)) (sym c.deref.ensures.value) ∙ sym c.last.ensures.value
    ∙ sym c.copied.ensures ∙ c.in_ok-arm.was in
    let short = ap length c.pop.ensures.rest ∙ length-take (c.self.inside.arms.len - 1) arms in
    let at : c.len-end.result ≡ length arms - 1 =
    omega (arith, short, c.len-end.ensures, c.pop.new.self.ok.0, c.self.inside.arms.ok.0) in
    let front = c.pop.ensures.rest ∙ ap (λ (n : ℕ). take n arms) (omega (arith, at, c.self.inside.arms.ok.0)) in
    takes_last (vec_capacity c.self.inside.arms) arms c.pop.new.self.items c.lengthen.new.arms c.args.self.now
    c.in_ok-arm.arm c.len-end.result c.self.view_is c.self.invariant last
    front at
    (c.lengthen.ensures.earlier ∙ ap (earlier c.len-end.result) c.deref_mut.ensures.value)
    (c.lengthen.ensures.later
    ∙ ap (λ (l : List Arm). longer c.in_ok-arm.arm.delta (later c.len-end.result l)) c.deref_mut.ensures.value)

-- the items of the Vec after the write
abbrev items_after : After-lengthen → List Arm
items_after c = take c.pop.new.self.len (c.lengthen.new.arms ++ drop (length c.lengthen.new.arms) c.pop.new.self.items)

written : (c : After-lengthen) → items_after c ≡ c.lengthen.new.arms
written c = take_at c.lengthen.new.arms (drop (length c.lengthen.new.arms) c.pop.new.self.items) c.pop.new.self.len (omega arith)

seen : (c : After-lengthen) →
    seen_of c.pop.new.self.cap (items_after c) ≡ seen_of (vec_capacity c.self.inside.arms) c.lengthen.new.arms
seen c = ap (seen_of c.pop.new.self.cap) (written c) ∙ ap (λ (n : ℕ). seen_of n c.lengthen.new.arms) c.pop.ensures.capacity

pub returns-then-now-deadline-clause-ordered : goal.returns-then-now-deadline-clause-ordered
returns-then-now-deadline-clause-ordered c = ordered _ c.self.inside.arms.items c.args.self.now c.self.view_is c.self.invariant

pub invariant_of-self : goal.invariant_of-self
invariant_of-self c =
    let k = (goal.at.invariant_of-self c).After-lengthen in
    let kept = takes_kept _ _ _ _ _ _ _ (known k) in
    subst (λ (n : ℕ). IsKept n (items_after k)) (sym c.pop.ensures.capacity)
    (subst (IsKept (vec_capacity c.self.inside.arms)) (sym (written k)) kept)

pub returns-clause-ordered : goal.returns-clause-ordered
returns-clause-ordered c =
    let k = (goal.at.returns-clause-ordered c).After-lengthen in
    subst IsOrdered (sym (seen k)) (takes_ordered _ _ _ _ _ _ _ (known k))
