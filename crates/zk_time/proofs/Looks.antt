-- What is read off a timeout list.
use Rattle.std.proofs.Common.{◌≡◌, ℕ, ◌+◌, ◌-◌, ◌<◌, ◌≤◌, Bool, true, false, cond, Some, None, is_some, option_map, List, [], ◌∷◌, ◌++◌, length, drop, get_or, All, refl, sym, ap, subst, ◌∙◌, eq-eqb, arith}
use Rattle.std.specs.List.{filter, list_any, find, position}
use Rattle.std.proofs.lemmas.Bool.{or_parts, le-leb, lt-leb, eqb-true}
use Rattle.std.proofs.lemmas.List.{append-nil, length-reverse, length-drop, get_or_default}
use Rattle.std.proofs.lemmas.List.Elements.{All-weaker, filter-append}
use Rattle.std.proofs.lemmas.List.Quantifiers.{position-Some}
use Rattle.zk_base.proofs.Order.{filter_all, filter_none}
use Rattle.std.proofs.lemmas.List.Sums.{sum_by-drop_more}
use Rattle.zk_time.proofs.Disarming.{is_some-place, said, before_live, around_place}
use Rattle.zk_time.proofs.Arming.{first_above}
use Rattle.zk_time.specs.declared.arm.Arm.{Arm}
use Rattle.zk_time.specs.declared.deltas.Place.{Place}
use Rattle.zk_time.specs.declared.timeout.Timeout.{Timeout}
use Rattle.zk_time.specs.Timeouts.{Timeouts, is_of, is_due, deadline_of, queue_of, count_due, Differ}
use Rattle.zk_time.specs.Deltas.{is_arm_of, span, timeouts_after, live_of, earlier, later, IsPlace, seen_of, IsKept}
use Rattle.zk_time.proofs.Arms.{span-reverse, upto_span, length-timeouts, all_above, live-parts}
use Rattle.zk_time.proofs.Orders.{Differ-around}

find_absent : (item : ℕ) (xs : List Timeout) → list_any (is_of item) xs ≡ false → find (is_of item) xs ≡ None
find_absent item [] none = refl
find_absent item (x ∷ xs) none =
    let parts = or_parts (is_of item x) (list_any (is_of item) xs) none in
    ap (λ b. cond b (Some x) (find (is_of item) xs)) parts.0 ∙ find_absent item xs parts.1

find_behind : (item : ℕ) (xs : List Timeout) (x : Timeout) (ys : List Timeout) → list_any (is_of item) xs ≡ false →
    x.item ≡ item → find (is_of item) (xs ++ x ∷ ys) ≡ Some x
find_behind item [] x ys none same = ap (λ b. cond b (Some x) (find (is_of item) ys)) (eq-eqb x.item item same)
find_behind item (z ∷ xs) x ys none same =
    let parts = or_parts (is_of item z) (list_any (is_of item) xs) none in
    ap (λ b. cond b (Some z) (find (is_of item) (xs ++ x ∷ ys))) parts.0 ∙ find_behind item xs x ys parts.1 same

-- the deadline of an item that isn't armed
pub deadline_none : (items : ℕ) (arms : List Arm) (t : Timeouts) (item : ℕ) → seen_of items arms ≡ t →
    position (is_arm_of item) arms ≡ None → deadline_of t item ≡ None
deadline_none items arms t item view none =
    let absent = sym (is_some-place item arms) ∙ ap is_some none in
    ap (λ (t : Timeouts). deadline_of t item) (sym view)
    ∙ ap (option_map (λ (a : Timeout). a.deadline)) (find_absent item (live_of arms) absent)

-- what an item is armed with, at this place
found_at : (items : ℕ) (arms : List Arm) (t : Timeouts) (item index : ℕ) (d : Arm) → seen_of items arms ≡ t →
    IsKept items arms → position (is_arm_of item) arms ≡ Some index →
    find (is_of item) t.live
    ≡ Some (record {
      item = (get_or arms index d).item;
      queue = (get_or arms index d).queue;
      deadline = span (drop index arms);
    })
found_at items arms t item index d view kept found =
    let at = position-Some (is_arm_of item) arms index d found in
    let a = get_or arms index d in
    let front = earlier (index + 1) arms in
    let back = later index arms in
    let here = get_or_default arms index d a at.0 in
    let before = around_place arms index a at.0 here in
    let was = before_live arms front a back before in
    let around = Differ-around (timeouts_after 0 front) (said front a) (timeouts_after (0 + span front + a.delta) back)
    (subst Differ was kept.differ) in
    let same : a.item ≡ item = eqb-true a.item item at.1 in
    let absent = subst (λ (i : ℕ). list_any (is_of i) (timeouts_after 0 front) ≡ false) same around.0 in
    let more = sum_by-drop_more (λ (a : Arm). a.delta) arms index d at.0 in
    let passed = span-reverse (drop (index + 1) arms) in
    let sum : span (drop index arms) ≡ 0 + span front + a.delta = omega arith in
    ap (λ (t : Timeouts). find (is_of item) t.live) (sym view) ∙ ap (find (is_of item)) was
    ∙ find_behind item (timeouts_after 0 front) (said front a) (timeouts_after (0 + span front + a.delta) back) absent same
    ∙ ap (λ (n : ℕ). Some (record { item = a.item; queue = a.queue; deadline = n })) (sym sum)

-- the deadline of one that is armed, at this place
pub deadline_some : (items : ℕ) (arms : List Arm) (t : Timeouts) (item index : ℕ) → seen_of items arms ≡ t →
    IsKept items arms → position (is_arm_of item) arms ≡ Some index →
    Some (span (drop index arms)) ≡ deadline_of t item
deadline_some items arms t item index view kept found =
    let d : Arm = record { item = 0; queue = 0; delta = 0 } in
    sym (ap (option_map (λ (a : Timeout). a.deadline)) (found_at items arms t item index d view kept found))

-- and its queue
pub queue_some : (items : ℕ) (arms : List Arm) (t : Timeouts) (item index : ℕ) (d : Arm) → seen_of items arms ≡ t →
    IsKept items arms → position (is_arm_of item) arms ≡ Some index → Some (get_or arms index d).queue ≡ queue_of t item
queue_some items arms t item index d view kept found =
    sym (ap (option_map (λ (a : Timeout). a.queue)) (found_at items arms t item index d view kept found))

pub queue_none : (items : ℕ) (arms : List Arm) (t : Timeouts) (item : ℕ) → seen_of items arms ≡ t →
    position (is_arm_of item) arms ≡ None → queue_of t item ≡ None
queue_none items arms t item view none =
    let absent = sym (is_some-place item arms) ∙ ap is_some none in
    ap (λ (t : Timeouts). queue_of t item) (sym view)
    ∙ ap (option_map (λ (a : Timeout). a.queue)) (find_absent item (live_of arms) absent)

-- how many have expired: those from the place on at which a new arm of this deadline would go in
pub counts_due : (items : ℕ) (arms : List Arm) (t : Timeouts) (now : ℕ) (p : Place) → seen_of items arms ≡ t →
    IsPlace arms now p → length arms - p.index ≡ count_due t now
counts_due items arms t now p view place =
    let front = earlier p.index arms in
    let back = later p.index arms in
    let due : Timeout → Bool = is_due now in
    let passed : span front ≡ span (drop p.index arms) = span-reverse (drop p.index arms) in
    let delta = place.delta in
    let sum : span front + p.delta ≡ now = omega arith in
    let P : Timeout → Type 0 = λ t. t.deadline ≤ 0 + span front in
    let Q : Timeout → Type 0 = λ t. due t ≡ true in
    let R : Timeout → Type 0 = λ t. now < t.deadline in
    let S : Timeout → Type 0 = λ t. due t ≡ false in
    let P_gives : (t : Timeout) → P t → Q t = λ t h. le-leb t.deadline now (omega arith) in
    let R_gives : (t : Timeout) → R t → S t = λ t h. lt-leb t.deadline now h in
    let within = All-weaker P Q P_gives (timeouts_after 0 front) (upto_span 0 front) in
    let above = subst (λ (n : ℕ). All (λ t. n < t.deadline) (timeouts_after (span front) back)) sum
    (all_above (span front) p.delta back (first_above arms now p place)) in
    let past = All-weaker R S R_gives (timeouts_after (span front) back) above in
    let long = length-reverse (drop p.index arms) ∙ length-drop p.index arms in
    sym (ap (λ (t : Timeouts). count_due t now) (sym view)
    ∙ ap (λ (l : List Timeout). length (filter due l)) (live-parts p.index arms)
    ∙ ap length (filter-append due (timeouts_after 0 front) (timeouts_after (span front) back))
    ∙ ap (λ (l : List Timeout). length (filter due (timeouts_after 0 front) ++ l))
    (filter_none due (timeouts_after (span front) back) past)
    ∙ ap length (append-nil (filter due (timeouts_after 0 front)))
    ∙ ap length (filter_all due (timeouts_after 0 front) within)
    ∙ length-timeouts 0 front ∙ long)
