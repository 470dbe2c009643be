-- An item is disarmed, or the first expires: what is said by the others stays.
use Rattle.std.proofs.Common.{◌≡◌, ℕ, suc, ◌+◌, ◌-◌, ◌<◌, ◌≤◌, Bool, true, false, not, ◌||◌, cond, ltb, Some, None, is_some, List, [], ◌∷◌, ◌++◌, length, reverse, take, drop, get_or, refl, sym, ap, subst, ◌∙◌, eq-eqb, arith}
use Rattle.std.specs.List.{filter, list_any, remove, slice_get, position, position_or_len}
use Rattle.std.proofs.lemmas.Bool.{or_parts, eqb-true}
use Rattle.std.proofs.lemmas.Bool.Decides.{nat_tests}
use Rattle.std.proofs.lemmas.List.{take_at, drop_at, length-take-le, drop_all, take_all}
use Rattle.std.proofs.lemmas.Option.{slice_get_within, get_or_from_slice_get}
use Rattle.std.proofs.lemmas.List.Elements.{filter-append}
use Rattle.std.proofs.lemmas.List.Quantifiers.{position-Some}
use Rattle.zk_time.specs.declared.arm.Arm.{Arm}
use Rattle.zk_time.specs.declared.timeout.Timeout.{Timeout}
use Rattle.zk_time.specs.Timeouts.{Timeouts, is_of, is_armed, disarm, Differ, IsOrdered}
use Rattle.zk_time.specs.Deltas.{is_arm_of, span, timeouts_after, live_of, earlier, later, longer, seen_of, IsKept}
use Rattle.zk_time.proofs.Arms.{span-cons, span-append, span-reverse, list_any-live, timeouts-append, timeouts-longer, span-longer, reverse-parts, later_first}
use Rattle.zk_time.proofs.Room.{ordered}
use Rattle.zk_time.proofs.Orders.{Differ-around, IsOrdered-disarm}

-- The place of an item's arm.

first_within : (p : Arm → Bool) (arms : List Arm) → ltb (position_or_len p arms) (length arms) ≡ list_any p arms
first_within p [] = refl
first_within p (a ∷ arms) = at (p a) (position_or_len p arms) (length arms) (list_any p arms) (first_within p arms) where
  at : (b : Bool) (n long : ℕ) (some : Bool) → ltb n long ≡ some → ltb (cond (not b) (1 + n) 0) (suc long) ≡ (b || some)
  at true n long some rest = grind (arith, nat_tests)
  at false n long some rest = next n long ∙ rest where
    next : (n long : ℕ) → ltb (1 + n) (suc long) ≡ ltb n long
    next n long = grind (arith, nat_tests)

-- there is a place where the item is armed
pub is_some-place : (item : ℕ) (arms : List Arm) → is_some (position (is_arm_of item) arms) ≡ list_any (is_of item) (live_of arms)
is_some-place item arms = at (ltb (position_or_len (is_arm_of item) arms) (length arms))
    ∙ first_within (is_arm_of item) arms ∙ sym (list_any-live item arms) where
      at : (b : Bool) → is_some (cond b (Some (position_or_len (is_arm_of item) arms)) None) ≡ b
      at true = refl
      at false = refl

-- an arm is taken out: the arms before and after, the next to expire first
pub record Takes (items : ℕ) (arms after : List Arm) (t : Timeouts) (front : List Arm) (a : Arm) (back : List Arm) : Type 0 where
  pub view : seen_of items arms ≡ t
  pub kept : IsKept items arms
  pub before : reverse arms ≡ front ++ a ∷ back
  pub behind : reverse after ≡ front ++ longer a.delta back

-- what the arm says
abbrev pub said : List Arm → Arm → Timeout
said front a = record { item = a.item; queue = a.queue; deadline = 0 + span front + a.delta }

pub before_live : (arms front : List Arm) (a : Arm) (back : List Arm) → reverse arms ≡ front ++ a ∷ back →
    live_of arms ≡ timeouts_after 0 front ++ said front a ∷ timeouts_after (0 + span front + a.delta) back
before_live arms front a back before = ap (timeouts_after 0) before ∙ timeouts-append 0 front (a ∷ back)

after_live : (after front : List Arm) (a : Arm) (back : List Arm) → reverse after ≡ front ++ longer a.delta back →
    live_of after ≡ timeouts_after 0 front ++ timeouts_after (0 + span front + a.delta) back
after_live after front a back behind =
    ap (timeouts_after 0) behind ∙ timeouts-append 0 front (longer a.delta back)
    ∙ ap (λ (l : List Timeout). timeouts_after 0 front ++ l) (timeouts-longer (0 + span front) a.delta back)

-- what isn't there isn't taken out
pub filter_absent : (item : ℕ) (xs : List Timeout) → list_any (is_of item) xs ≡ false → filter (λ a. not (is_of item a)) xs ≡ xs
filter_absent item [] none = refl
filter_absent item (x ∷ xs) none =
    let parts = or_parts (is_of item x) (list_any (is_of item) xs) none in
    ap (λ b. cond (not b) (x ∷ filter (λ a. not (is_of item a)) xs) (filter (λ a. not (is_of item a)) xs)) parts.0
    ∙ ap (λ (l : List Timeout). x ∷ l) (filter_absent item xs parts.1)

-- the others stay
filter_around : (xs : List Timeout) (x : Timeout) (ys : List Timeout) → Differ (xs ++ x ∷ ys) →
    filter (λ a. not (is_of x.item a)) (xs ++ x ∷ ys) ≡ xs ++ ys
filter_around xs x ys differ =
    let p : Timeout → Bool = λ a. not (is_of x.item a) in
    let around = Differ-around xs x ys differ in
    filter-append p xs (x ∷ ys)
    ∙ ap (λ (b : Bool). filter p xs ++ cond (not b) (x ∷ filter p ys) (filter p ys)) (eq-eqb x.item x.item refl)
    ∙ ap (λ (l : List Timeout). l ++ filter p ys) (filter_absent x.item xs around.0)
    ∙ ap (λ (l : List Timeout). xs ++ l) (filter_absent x.item ys around.1)

pub takes_live : (items : ℕ) (arms after : List Arm) (t : Timeouts) (front : List Arm) (a : Arm) (back : List Arm) →
    Takes items arms after t front a back →
    live_of after ≡ filter (λ b. not (is_of a.item b)) (live_of arms)
takes_live items arms after t front a back k =
    let was = before_live arms front a back k.before in
    after_live after front a back k.behind
    ∙ sym (filter_around (timeouts_after 0 front) (said front a) (timeouts_after (0 + span front + a.delta) back)
    (subst Differ was k.kept.differ))
    ∙ ap (filter (λ b. not (is_of a.item b))) (sym was)

pub takes_next : (items : ℕ) (arms after : List Arm) (t : Timeouts) (front : List Arm) (a : Arm) (back : List Arm) →
    Takes items arms after t front a back →
    seen_of items after ≡ disarm t a.item
takes_next items arms after t front a back k =
    ap (λ (l : List Timeout). let s : Timeouts = record { items = items; live = l } in
    s) (takes_live items arms after t front a back k)
    ∙ ap (λ (t : Timeouts). disarm t a.item) k.view

pub takes_ordered : (items : ℕ) (arms after : List Arm) (t : Timeouts) (front : List Arm) (a : Arm) (back : List Arm) →
    Takes items arms after t front a back → IsOrdered (seen_of items after)
takes_ordered items arms after t front a back k =
    subst IsOrdered (sym (takes_next items arms after t front a back k))
    (IsOrdered-disarm t a.item (ordered items arms t k.view k.kept))

-- all is kept
pub takes_kept : (items : ℕ) (arms after : List Arm) (t : Timeouts) (front : List Arm) (a : Arm) (back : List Arm) →
    Takes items arms after t front a back → IsKept items after
takes_kept items arms after t front a back k =
    let o = takes_ordered items arms after t front a back k in
    let small = k.kept.fits in
    let was = sym (span-reverse arms) ∙ ap span k.before ∙ span-append front (a ∷ back) in
    let now = sym (span-reverse after) ∙ ap span k.behind ∙ span-append front (longer a.delta back) in
    record { fits = omega (arith, was, now, span-cons a back, span-longer a.delta back); differ = o.differ; within = o.within }

-- the arms around a place
pub around_place : (arms : List Arm) (index : ℕ) (a : Arm) → index < length arms → a ≡ get_or arms index a →
    reverse arms ≡ earlier (index + 1) arms ++ a ∷ later index arms
around_place arms index a within here =
    reverse-parts (index + 1) arms ∙ ap (λ (l : List Arm). earlier (index + 1) arms ++ l) (later_first index arms a within)
    ∙ ap (λ (b : Arm). earlier (index + 1) arms ++ b ∷ later index arms) (sym here)

-- an arm taken out at a place, and the one in front of the place made longer
pub around_removed : (arms after : List Arm) (index by : ℕ) → index < length arms →
    earlier index after ≡ earlier index (remove arms index) →
    later index after ≡ longer by (later index (remove arms index)) →
    reverse after ≡ earlier (index + 1) arms ++ longer by (later index arms)
around_removed arms after index by within same more =
    let long : length (take index arms) ≡ index = length-take-le index arms (omega arith) in
    let next : suc index ≡ index + 1 = omega arith in
    reverse-parts index after ∙ ap (λ (l : List Arm). l ++ later index after) same
    ∙ ap (λ (l : List Arm). reverse l ++ later index after) (drop_at (take index arms) (drop (suc index) arms) index long)
    ∙ ap (λ (n : ℕ). earlier n arms ++ later index after) next
    ∙ ap (λ (l : List Arm). earlier (index + 1) arms ++ l) more
    ∙ ap (λ (l : List Arm). earlier (index + 1) arms ++ longer by (reverse l))
    (take_at (take index arms) (drop (suc index) arms) index long)

-- an item that isn't armed
pub disarms_none : (items : ℕ) (arms : List Arm) (t : Timeouts) (item : ℕ) → seen_of items arms ≡ t →
    position (is_arm_of item) arms ≡ None → (is_armed t item ≡ false) × (disarm t item ≡ t)
disarms_none items arms t item view none =
    let absent = sym (is_some-place item arms) ∙ ap is_some none in
    let made : (is_armed (seen_of items arms) item ≡ false) × (disarm (seen_of items arms) item ≡ seen_of items arms) = (
      absent,
      ap (λ (l : List Timeout). let s : Timeouts = record { items = items; live = l } in
          s) (filter_absent item (live_of arms) absent),
    ) in
    subst (λ (t : Timeouts). (is_armed t item ≡ false) × (disarm t item ≡ t)) view made

-- an item that is armed, at this place
pub disarms_some : (items : ℕ) (arms : List Arm) (t : Timeouts) (item index : ℕ) (a : Arm) → seen_of items arms ≡ t →
    position (is_arm_of item) arms ≡ Some index → a ≡ get_or arms index a →
    (index < length arms) × (a.item ≡ item) × (is_armed t item ≡ true)
disarms_some items arms t item index a view found here =
    let at = position-Some (is_arm_of item) arms index a found in
    let present = sym (is_some-place item arms) ∙ ap is_some found in
    (at.0, eqb-true a.item item (ap (is_arm_of item) here ∙ at.1), ap (λ (t : Timeouts). is_armed t item) (sym view) ∙ present)

-- The first expires.

-- the arm that expires next is kept last
pub last_first : (arms : List Arm) (a : Arm) → slice_get arms (length arms - 1) ≡ Some a →
    reverse arms ≡ a ∷ later (length arms - 1) arms
last_first arms a last =
    let index = length arms - 1 in
    let within = slice_get_within arms index a last in
    let here = sym (get_or_from_slice_get arms index a a last) in
    around_place arms index a within here
    ∙ ap (λ (l : List Arm). reverse l ++ a ∷ later index arms) (drop_all (index + 1) arms (omega arith))

-- it is taken out
pub takes_last : (items : ℕ) (arms popped after : List Arm) (t : Timeouts) (a : Arm) (index : ℕ) →
    seen_of items arms ≡ t → IsKept items arms → slice_get arms (length arms - 1) ≡ Some a →
    popped ≡ take index arms → index ≡ length arms - 1 → earlier index after ≡ earlier index popped →
    later index after ≡ longer a.delta (later index popped) →
    Takes items arms after t [] a (later (length arms - 1) arms)
takes_last items arms popped after t a index view kept last front at same more =
    let within : index ≤ length arms = omega arith in
    let long : length (take index arms) ≡ index = length-take-le index arms within in
    let none = same ∙ ap (earlier index) front ∙ ap reverse (drop_all index (take index arms) (omega arith)) in
    let rest = more ∙ ap (λ (l : List Arm). longer a.delta (later index l)) front
    ∙ ap (λ (l : List Arm). longer a.delta (reverse l)) (take_all index (take index arms) (omega arith))
    ∙ ap (λ (n : ℕ). longer a.delta (later n arms)) at in
    record {
      view = view;
      kept = kept;
      before = last_first arms a last;
      behind = reverse-parts index after ∙ ap (λ (l : List Arm). l ++ later index after) none ∙ rest;
    }
