-- What holds of every timeout list, and stays so.
use Rattle.std.proofs.Common.{◌≡◌, ℕ, ◌<◌, ◌^◌, Bool, true, false, not, cond, eqb, ltb, List, [], ◌∷◌, ◌++◌, All, refl, ◌∙◌, arith}
use Rattle.std.specs.List.{filter, list_any}
use Rattle.std.proofs.lemmas.Bool.{or_parts, or_from}
use Rattle.std.proofs.lemmas.Bool.Decides.{nat_tests}
use Rattle.std.proofs.lemmas.List.Elements.{All-nil, All-tail, All-filter}
use Rattle.zk_base.specs.Order.{put_by, Ascends}
use Rattle.zk_base.proofs.Order.{All-put_by, Ascends-put_by, Ascends-filter, list_any-put_by}
use Rattle.zk_time.specs.declared.timeout.Timeout.{Timeout}
use Rattle.zk_time.specs.Timeouts.{Timeouts, is_of, is_due, nothing_armed, is_armed, arm, disarm, due_rest, drop_due, Differ, IsOrdered}

eqb-false_swap : (a b : ℕ) → eqb a b ≡ false → eqb b a ≡ false
eqb-false_swap a b differ = grind (arith, nat_tests)

-- what isn't among the timeouts isn't among those that pass a test
list_any-filter_none : (p q : Timeout → Bool) (xs : List Timeout) → list_any p xs ≡ false → list_any p (filter q xs) ≡ false
list_any-filter_none p q [] none = refl
list_any-filter_none p q (x ∷ xs) none = at (q x) (list_any-filter_none p q xs parts.1) where
  parts : (p x ≡ false) × (list_any p xs ≡ false)
  parts = or_parts (p x) (list_any p xs) none

  at : (b : Bool) → list_any p (filter q xs) ≡ false → list_any p (cond b (x ∷ filter q xs) (filter q xs)) ≡ false
  at true rest = or_from (p x) (list_any p (filter q xs)) parts.0 rest
  at false rest = rest

pub Differ-filter : (p : Timeout → Bool) (xs : List Timeout) → Differ xs → Differ (filter p xs)
Differ-filter p [] differ = tt
Differ-filter p (x ∷ xs) differ = at (p x) (Differ-filter p xs differ.1) where
  at : (b : Bool) → Differ (filter p xs) → Differ (cond b (x ∷ filter p xs) (filter p xs))
  at true rest = (list_any-filter_none (is_of x.item) p xs differ.0, rest)
  at false rest = rest

pub Differ-put_by : (key : Timeout → ℕ) (x : Timeout) (xs : List Timeout) → Differ xs →
    list_any (is_of x.item) xs ≡ false → Differ (put_by key x xs)
Differ-put_by key x [] differ free = (refl, tt)
Differ-put_by key x (y ∷ ys) differ free = at (ltb (key x) (key y)) (Differ-put_by key x ys differ.1 parts.1) where
  parts : (is_of x.item y ≡ false) × (list_any (is_of x.item) ys ≡ false)
  parts = or_parts (is_of x.item y) (list_any (is_of x.item) ys) free

  at : (b : Bool) → Differ (put_by key x ys) → Differ (cond b (x ∷ y ∷ ys) (y ∷ put_by key x ys))
  at true rest = (free, differ)
  at false rest = (
    list_any-put_by (is_of y.item) key x ys
        ∙ or_from (is_of y.item x) (list_any (is_of y.item) ys) (eqb-false_swap y.item x.item parts.0) differ.0,
    rest,
  )

-- around a timeout there is no other of its item
pub Differ-around : (xs : List Timeout) (t : Timeout) (ys : List Timeout) → Differ (xs ++ t ∷ ys) →
    (list_any (is_of t.item) xs ≡ false) × (list_any (is_of t.item) ys ≡ false)
Differ-around [] t ys differ = (refl, differ.0)
Differ-around (x ∷ xs) t ys differ =
    let rest = Differ-around xs t ys differ.1 in (
      or_from (is_of t.item x) (list_any (is_of t.item) xs) (eqb-false_swap t.item x.item (there xs differ.0)) rest.0,
      rest.1,
    ) where
      there : (xs : List Timeout) → list_any (is_of x.item) (xs ++ t ∷ ys) ≡ false → is_of x.item t ≡ false
      there [] none = (or_parts (is_of x.item t) (list_any (is_of x.item) ys) none).0
      there (z ∷ zs) none = there zs (or_parts (is_of x.item z) (list_any (is_of x.item) (zs ++ t ∷ ys)) none).1

-- before the first arm
pub IsOrdered-nothing : (items : ℕ) → IsOrdered (nothing_armed items)
IsOrdered-nothing items = record {
  ascends = tt;
  differ = tt;
  within = All-nil (λ (a : Timeout). a.item < items);
  fits = All-nil (λ (a : Timeout). a.deadline < 2 ^ 64);
}

-- an item that isn't armed yet is
pub IsOrdered-arm : (t : Timeouts) (item queue deadline : ℕ) → IsOrdered t → item < t.items → is_armed t item ≡ false →
    deadline < 2 ^ 64 → IsOrdered (arm t item queue deadline)
IsOrdered-arm t item queue deadline o inside free small =
    let key : Timeout → ℕ = λ a. a.deadline in
    let x : Timeout = record { item = item; queue = queue; deadline = deadline } in
    record {
      ascends = Ascends-put_by key x t.live o.ascends;
      differ = Differ-put_by key x t.live o.differ free;
      within = All-put_by (λ (a : Timeout). a.item < t.items) key x t.live inside o.within;
      fits = All-put_by (λ (a : Timeout). a.deadline < 2 ^ 64) key x t.live small o.fits;
    }

-- an item is disarmed
pub IsOrdered-disarm : (t : Timeouts) (item : ℕ) → IsOrdered t → IsOrdered (disarm t item)
IsOrdered-disarm t item o =
    let p : Timeout → Bool = λ a. not (is_of item a) in
    record {
      ascends = Ascends-filter p (λ (a : Timeout). a.deadline) t.live o.ascends;
      differ = Differ-filter p t.live o.differ;
      within = All-filter p (λ (a : Timeout). a.item < t.items) t.live o.within;
      fits = All-filter p (λ (a : Timeout). a.deadline < 2 ^ 64) t.live o.fits;
    }

-- the first expires
pub IsOrdered-due : (t : Timeouts) (now : ℕ) → IsOrdered t → IsOrdered (drop_due t now)
IsOrdered-due t now o = by t.live o.ascends o.differ o.within o.fits where
  by : (live : List Timeout) → Ascends (λ a. a.deadline) live → Differ live → All (λ a. a.item < t.items) live →
      All (λ a. a.deadline < 2 ^ 64) live →
      IsOrdered (record { items = t.items; live = due_rest now live })
  by [] ascends differ within fits = record { ascends = ascends; differ = differ; within = within; fits = fits }
  by (a ∷ rest) ascends differ within fits = at (is_due now a) where
    at : (b : Bool) → IsOrdered (record { items = t.items; live = cond b rest (a ∷ rest) })
    at true = record {
      ascends = ascends.1;
      differ = differ.1;
      within = All-tail (λ (a : Timeout). a.item < t.items) a rest within;
      fits = All-tail (λ (a : Timeout). a.deadline < 2 ^ 64) a rest fits;
    }
    at false = record { ascends = ascends; differ = differ; within = within; fits = fits }
