-- No more items are armed than there are.
use Rattle.std.proofs.Common.{◌≡◌, ℕ, ◌+◌, ◌<◌, ◌≤◌, ◌^◌, Bool, true, false, ◌||◌, eqb, List, [], ◌∷◌, length, map, reverse, All, refl, ap, subst, ◌∙◌, arith}
use Rattle.std.specs.List.{list_any, IsDistinct, AllByRecursion}
use Rattle.std.proofs.lemmas.Bool.{or_parts, eqb-true}
use Rattle.std.proofs.lemmas.Bool.Decides.{nat_tests}
use Rattle.std.proofs.lemmas.List.{length-map}
use Rattle.std.proofs.lemmas.List.Elements.{All-cons, All-head, All-tail, All-weaker}
use Rattle.std.proofs.lemmas.Map.Keys.{IsDistinct-cons}
use Rattle.std.proofs.lemmas.Map.Steps.{length-le_from_distinct_below}
use Rattle.zk_time.specs.declared.arm.Arm.{Arm}
use Rattle.zk_time.specs.declared.timeout.Timeout.{Timeout}
use Rattle.zk_time.specs.Timeouts.{Timeouts, is_of, is_armed, Differ, IsOrdered}
use Rattle.zk_time.specs.Deltas.{span, live_of, seen_of, IsKept}
use Rattle.zk_time.proofs.Arms.{span-reverse, upto_span, Ascends-timeouts, length-live}

-- what holds of every list
pub ordered : (items : ℕ) (arms : List Arm) (t : Timeouts) → seen_of items arms ≡ t → IsKept items arms → IsOrdered t
ordered items arms t view kept =
    let small = kept.fits in
    let same = span-reverse arms in
    let P : Timeout → Type 0 = λ a. a.deadline ≤ 0 + span (reverse arms) in
    let Q : Timeout → Type 0 = λ a. a.deadline < 2 ^ 64 in
    let made : IsOrdered (seen_of items arms) = record {
      ascends = Ascends-timeouts 0 (reverse arms);
      differ = kept.differ;
      within = kept.within;
      fits = All-weaker P Q (λ a h. omega arith) (live_of arms) (upto_span 0 (reverse arms));
    } in
    subst IsOrdered view made

apart : (item : ℕ) (xs : List Timeout) → list_any (is_of item) xs ≡ false →
    AllByRecursion (λ y. eqb item y ≡ false) (map (λ t. t.item) xs)
apart item [] none = tt
apart item (x ∷ xs) none =
    let parts = or_parts (is_of item x) (list_any (is_of item) xs) none in
    (swapped x.item item parts.0, apart item xs parts.1) where
      swapped : (a b : ℕ) → eqb a b ≡ false → eqb b a ≡ false
      swapped a b differ = grind (arith, nat_tests)

distinct : (xs : List Timeout) → Differ xs → IsDistinct eqb (map (λ t. t.item) xs)
unfolding IsDistinct
distinct [] differ = tt
distinct (x ∷ xs) differ = IsDistinct-cons eqb x.item (map (λ (t : Timeout). t.item) xs) (apart x.item xs differ.0)
    (distinct xs differ.1)

below : (n : ℕ) (xs : List Timeout) → All (λ t. t.item < n) xs → (q : ℕ) → list_any (eqb q) (map (λ t. t.item) xs) ≡ true → q < n
below n [] all q some = absurd (cc)
below n (x ∷ xs) all q some = at (eqb q x.item) refl some (below n xs (All-tail (λ (t : Timeout). t.item < n) x xs all) q) where
  at : (b : Bool) → eqb q x.item ≡ b → (b || list_any (eqb q) (map (λ t. t.item) xs)) ≡ true →
      (list_any (eqb q) (map (λ t. t.item) xs) ≡ true → q < n) → q < n
  at true is some rest =
      let head = All-head (λ (t : Timeout). t.item < n) x xs all in
      let same = eqb-true q x.item is in
      omega arith
  at false is some rest = rest some

-- no more timeouts than items
pub length_fits : (n : ℕ) (xs : List Timeout) → Differ xs → All (λ t. t.item < n) xs → length xs ≤ n
length_fits n xs differ all =
    let long = length-le_from_distinct_below (map (λ (t : Timeout). t.item) xs) n (distinct xs differ) (below n xs all) in
    omega (arith, length-map xs (λ (t : Timeout). t.item))

-- there is room for one that isn't armed
pub fits_more : (items : ℕ) (arms : List Arm) (t : Timeouts) (item : ℕ) → seen_of items arms ≡ t → IsKept items arms →
    item < t.items → is_armed t item ≡ false → length arms < items
fits_more items arms t item view kept inside free =
    let small = ap (λ (t : Timeouts). t.items) view in
    let none = ap (λ (t : Timeouts). list_any (is_of item) t.live) view ∙ free in
    let x : Timeout = record { item = item; queue = 0; deadline = 0 } in
    let more = length_fits items (x ∷ live_of arms) (none, kept.differ)
    (All-cons (λ (t : Timeout). t.item < items) x (live_of arms) (omega arith) kept.within) in
    omega (arith, length-live arms)
