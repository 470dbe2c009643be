use Rattle.std.proofs.Common.{◌≡◌, ℕ, ◌<◌, List, length, vec_capacity, sym, ap, subst, ◌∙◌, arith}
use Rattle.std.specs.List.{insert}
use Rattle.std.proofs.lemmas.List.{take_at}
use Rattle.zk_time.specs.declared.arm.Arm.{Arm}
use Rattle.zk_time.specs.Timeouts.{IsOrdered}
use Rattle.zk_time.specs.Deltas.{earlier, later, shorter, IsPlace, seen_of, IsKept}
use Rattle.zk_time.proofs.Arming.{Arms, arms_next, arms_ordered, arms_kept}
use Rattle.zk_time.proofs.Room.{fits_more}
use Rattle.zk_time.proofs.timeout_list.TimeoutList.arm.Goals as goal
use Rattle.zk_time.proofs.timeout_list.TimeoutList.arm.Goals.{In-Ok}

pub unreachable-requires : goal.unreachable-requires
unreachable-requires c =
    let room = fits_more _ c.self.inside.arms.items c.args.self.now c.args.item c.self.view_is c.self.invariant
    c.requires.item c.requires.free in
    omega (arith, room, c.in-Err.ensures.full, c.self.inside.arms.ok.0)

known : (c : In-Ok) →
    Arms (vec_capacity c.self.inside.arms) c.self.inside.arms.items c.shorten.new.arms c.insert.new.self.items
    c.args.self.now c.place_for-place.result c.args.item c.args.queue c.args.deadline
known c =
    let index = c.place_for-place.result.index in
    let delta = c.place_for-place.result.delta in
    let x : Arm = record { item = c.args.item; queue = c.args.queue; delta = delta } in
    let whole : length c.shorten.new.arms ≡ c.self.inside.arms.len = omega arith in
    record {
      view = c.self.view_is;
      kept = c.self.invariant;
      place = subst (λ (l : List Arm). IsPlace l c.args.deadline c.place_for-place.result) c.deref.ensures.value
          c.place_for-place.ensures;
      same = c.shorten.ensures.earlier ∙ ap (earlier index) c.deref_mut.ensures.value;
      less = c.shorten.ensures.later ∙ ap (λ (l : List Arm). shorter delta (later index l)) c.deref_mut.ensures.value;
      put = c.in-Ok.ensures.items
          ∙ ap (λ (l : List Arm). insert l index x) (take_at c.shorten.new.arms _ c.self.inside.arms.len whole);
      inside = c.requires.item;
      free = c.requires.free;
      small = omega arith;
    }

room : (c : In-Ok) → vec_capacity c.insert.new.self ≡ vec_capacity c.self.inside.arms
room c =
    let fits = fits_more _ c.self.inside.arms.items c.args.self.now c.args.item c.self.view_is c.self.invariant
    c.requires.item c.requires.free in
    let short : c.self.inside.arms.len < c.self.inside.arms.cap = omega (arith, fits, c.self.inside.arms.ok.0) in
    (c.in-Ok.ensures.in_place short).1.0

pub invariant_of-self : goal.invariant_of-self
invariant_of-self c = subst (λ (n : ℕ). IsKept n c.insert.new.self.items) (sym (room c)) (arms_kept _ _ _ _ _ _ _ _ _ (known c))

pub returns-clause-next : goal.returns-clause-next
returns-clause-next c = ap (λ (n : ℕ). seen_of n c.insert.new.self.items) (room c) ∙ arms_next _ _ _ _ _ _ _ _ _ (known c)

pub returns-clause-ordered : goal.returns-clause-ordered
returns-clause-ordered c = subst (λ (n : ℕ). IsOrdered (seen_of n c.insert.new.self.items)) (sym (room c))
    (arms_ordered _ _ _ _ _ _ _ _ _ (known c))
