-- The room of live arms, and how many are sought.
use Rattle.std.proofs.Common.{◌≡◌, ℕ, ◌+◌, ◌≤◌, Bool, true, false, not, cond, List, [], ◌∷◌, length, refl, ap, arith}
use Rattle.std.specs.List.{filter}
use Rattle.std.proofs.lemmas.List.Filters.{length-filter_both}
use Rattle.zk_base.proofs.Order.{length-by_key}
use Rattle.zk_trigger.specs.declared.live.LiveArm.{LiveArm}
use Rattle.zk_trigger.specs.declared.live.Sought.{Sought}
use Rattle.zk_trigger.specs.declared.live.Sought.TheVariants.{Events, Until}
use Rattle.zk_trigger.specs.Live.{room_for, meets_sought, deadline_time, sought_order, all_sought}

long-order : (s : Sought) (xs : List LiveArm) → length (sought_order s xs) ≡ length xs
long-order (Events mask) xs = refl
long-order (Until time) xs = length-by_key deadline_time xs

-- those that are sought and the others are all
pub long-parts : (s : Sought) (xs : List LiveArm) →
    length (all_sought s xs) + length (filter (λ a. not (meets_sought s a)) xs) ≡ length xs
long-parts s xs =
    let order = long-order s (filter (meets_sought s) xs) in
    let both = length-filter_both (meets_sought s) (λ a. not (meets_sought s a)) (λ a. refl) xs in
    omega arith

none-filtered : (p : LiveArm → Bool) (xs : List LiveArm) → length (filter p xs) ≡ 0 → filter (λ a. not (p a)) xs ≡ xs
none-filtered p [] none = refl
none-filtered p (x ∷ xs) none = by (p x) none (none-filtered p xs) where
  by : (b : Bool) → length (cond b (x ∷ filter p xs) (filter p xs)) ≡ 0 →
      (length (filter p xs) ≡ 0 → filter (λ a. not (p a)) xs ≡ xs) →
      cond (not b) (x ∷ filter (λ a. not (p a)) xs) (filter (λ a. not (p a)) xs) ≡ x ∷ xs
  by true long rest = absurd (omega arith)
  by false long rest = ap (λ (l : List LiveArm). x ∷ l) (rest long)

-- where none is sought all stay
pub none-sought : (s : Sought) (xs : List LiveArm) → length (all_sought s xs) ≡ 0 →
    filter (λ a. not (meets_sought s a)) xs ≡ xs
none-sought s xs none =
    let order = long-order s (filter (meets_sought s) xs) in
    none-filtered (meets_sought s) xs (omega arith)

-- what no longer waits leaves its room, and what fires takes no more
pub room-kept : (w w' capacity found found' fires fires' more : ℕ) → w' ≤ w → fires' + w' ≤ fires + w → found ≤ found' →
    room_for w capacity found fires more ≤ room_for w' capacity found' fires' more
room-kept w w' capacity found found' fires fires' more fewer same grown = omega arith
