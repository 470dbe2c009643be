-- Steps in order: a look has seen nothing older than the earlier steps, and nothing newer than what the later ones wrote.
use Rattle.std.proofs.Common.{◌≡◌, ◌⊎◌, ℕ, zero, suc, ◌+◌, ◌-◌, ◌<◌, ◌≤◌, max, min, Bool, true, false, ◌&&◌, cond, eqb, leb, Option, Some, None, List, [], ◌∷◌, ◌++◌, append_assoc, append-nil, length, set, get_or, take, drop, refl, sym, ap, subst, ◌∙◌, inl, inr, arith}
use Rattle.std.specs.List.{slice_get}
use Rattle.std.specs.Option.{option_map_or}
use Rattle.std.proofs.lemmas.Bool.{cases_Bool, cases_eq, cases_lt, cond-true, cond-false, and_parts, and_from, eq-eqb, eqb-true, ne_eqb, le-leb, lt-leb, leb-true, leb-false}
use Rattle.std.proofs.lemmas.List.{get_or-set_same, get_or-set_other, length-set}
use Rattle.std.proofs.lemmas.Option.{same_Some, none-some}
use Rattle.zk_worker.specs.declared.steps.Spot.{Spot}
use Rattle.zk_worker.specs.declared.steps.Spot.TheVariants as spots
use Rattle.zk_worker.specs.Right.{work_front, stamp_at, NotOlder}
use Rattle.zk_worker.specs.Shown.{is_look}
use Rattle.zk_failures.specs.declared.look_order.Floor.{Floor}
use Rattle.zk_failures.specs.LookFailure.{is_write}
use Rattle.zk_failures.specs.LookOrder.{IsWithin, most_of, named_stamp, IsFloor, is_late, write_place, lower_of, lowest_write, IsCeiling, is_up_to, is_early, earlies_of, orders_from}

-- The most.

most-snoc : (size : Spot → ℕ) (xs : List Spot) (x : Spot) → most_of size (xs ++ x ∷ []) ≡ max (most_of size xs) (size x)
most-snoc size [] x = omega arith
most-snoc size (y ∷ ys) x = let rest = most-snoc size ys x in omega arith

-- none measures more
most-above : (size : Spot → ℕ) (xs : List Spot) (k : ℕ) (x : Spot) → slice_get xs k ≡ Some x → size x ≤ most_of size xs
most-above size [] k x there = absurd (none-some x there)
most-above size (y ∷ ys) zero x there = let same = ap size (same_Some y x there) in omega arith
most-above size (y ∷ ys) (suc k) x there = let rest = most-above size ys k x there in omega arith

-- and where none measures more than so much, that isn't more
most-below : (size : Spot → ℕ) (xs : List Spot) (n : ℕ) → ((k : ℕ) (x : Spot) → slice_get xs k ≡ Some x → size x ≤ n) → most_of size xs ≤ n
most-below size [] n below = omega arith
most-below size (y ∷ ys) n below =
    let here = below zero y refl in
    let rest = most-below size ys n (λ k x there. below (suc k) x there) in
    omega arith

-- The floor.

-- a step's stamp at a signal is the one that it names
stamp-named : (spot : Spot) (object : ℕ) → stamp_at object spot ≡ option_map_or (λ (named : ℕ × ℕ). cond (eqb named.0 object) named.1 0) (named_stamp spot) 0
stamp-named (spots.Work place) object = refl
stamp-named (spots.Clock place) object = refl
stamp-named (spots.Table place) object = refl
stamp-named (spots.Sem at place) object = refl
stamp-named (spots.Msgq at place) object = refl
stamp-named (spots.Signal at place) object = refl
stamp-named (spots.Chan at place) object = refl
stamp-named (spots.Obs at place) object = refl
stamp-named (spots.LookItem item flags at) object = refl
stamp-named (spots.LookSignal at seen) object = refl

-- at first nothing was seen
pub floor-none : (floor : Floor) → floor.front ≡ 0 → ((object : ℕ) → object < length floor.stamps.items → get_or floor.stamps.items object 0 ≡ 0) → IsFloor floor []
floor-none floor front stamps = record { front = front; stamps = stamps }

module _ (floor new : Floor) (earlier : List Spot) (spot : Spot) (is : IsFloor floor earlier) (front : new.front ≡ max floor.front (work_front spot)) where
  front-more : new.front ≡ most_of work_front (earlier ++ spot ∷ [])
  front-more = let more = most-snoc work_front earlier spot in let was = is.front in omega arith

  -- a step that names no signal
  pub floor-kept : named_stamp spot ≡ None → new.stamps.items ≡ floor.stamps.items → IsFloor new (earlier ++ spot ∷ [])
  floor-kept none same = record {
    front = front-more;
    stamps = λ object within.
        let was = is.stamps object (subst (λ (l : List ℕ). object < length l) same within) in
        let here : get_or new.stamps.items object 0 ≡ get_or floor.stamps.items object 0 = ap (λ (l : List ℕ). get_or l object 0) same in
        let nothing : stamp_at object spot ≡ 0 =
        stamp-named spot object ∙ ap (λ (o : Option (ℕ × ℕ)). option_map_or (λ (named : ℕ × ℕ). cond (eqb named.0 object) named.1 0) o 0) none in
        let more = most-snoc (stamp_at object) earlier spot in
        omega arith;
  }

  -- and one that names one
  pub floor-raised : (at stamp : ℕ) → named_stamp spot ≡ Some (at, stamp) → at < length floor.stamps.items →
      new.stamps.items ≡ set floor.stamps.items at (max (get_or floor.stamps.items at 0) stamp) → IsFloor new (earlier ++ spot ∷ [])
  floor-raised at stamp named there same = record {
    front = front-more;
    stamps = λ object within. by object (cases_eq object at)
        (subst (λ (n : ℕ). object < n) (ap length same ∙ length-set floor.stamps.items at (max (get_or floor.stamps.items at 0) stamp)) within)
        (most-snoc (stamp_at object) earlier spot);
  } where
    raised : ℕ
    raised = max (get_or floor.stamps.items at 0) stamp

    names : (object : ℕ) → stamp_at object spot ≡ cond (eqb at object) stamp 0
    names object = stamp-named spot object ∙ ap (λ (o : Option (ℕ × ℕ)). option_map_or (λ (named : ℕ × ℕ). cond (eqb named.0 object) named.1 0) o 0) named

    by : (object : ℕ) → ((object ≡ at) ⊎ (object ≡ at → ⊥)) → object < length floor.stamps.items →
        most_of (stamp_at object) (earlier ++ spot ∷ []) ≡ max (most_of (stamp_at object) earlier) (stamp_at object spot) →
        get_or new.stamps.items object 0 ≡ most_of (stamp_at object) (earlier ++ spot ∷ [])
    by object (inl here) within more =
        let value : get_or new.stamps.items object 0 ≡ max (get_or floor.stamps.items at 0) stamp =
        ap (λ (l : List ℕ). get_or l object 0) same ∙ ap (λ (n : ℕ). get_or (set floor.stamps.items at (max (get_or floor.stamps.items at 0) stamp)) n 0) here
        ∙ get_or-set_same floor.stamps.items at (max (get_or floor.stamps.items at 0) stamp) 0 there in
        let was = is.stamps object within in
        let at_is : get_or floor.stamps.items object 0 ≡ get_or floor.stamps.items at 0 = ap (λ (n : ℕ). get_or floor.stamps.items n 0) here in
        let its : stamp_at object spot ≡ stamp = names object ∙ cond-true (eqb at object) stamp 0 (eq-eqb at object (sym here)) in
        omega arith
    by object (inr other) within more =
        let value : get_or new.stamps.items object 0 ≡ get_or floor.stamps.items object 0 =
        ap (λ (l : List ℕ). get_or l object 0) same ∙ get_or-set_other floor.stamps.items at object (max (get_or floor.stamps.items at 0) stamp) 0 other in
        let was = is.stamps object within in
        let its : stamp_at object spot ≡ 0 = names object ∙ cond-false (eqb at object) stamp 0 (ne_eqb at object (λ same. other (sym same))) in
        omega arith

-- what a step of a log within these objects names is one of them
pub named-within : (objects : ℕ) (spot : Spot) (at stamp : ℕ) → IsWithin objects spot → named_stamp spot ≡ Some (at, stamp) → at < objects
named-within objects (spots.Work place) at stamp within named = absurd (cc)
named-within objects (spots.Clock place) at stamp within named = absurd (cc)
named-within objects (spots.Table place) at stamp within named = absurd (cc)
named-within objects (spots.Sem o place) at stamp within named = absurd (cc)
named-within objects (spots.Msgq o place) at stamp within named = absurd (cc)
named-within objects (spots.Signal o place) at stamp within named =
    let same : o ≡ at = ap (λ (p : ℕ × ℕ). p.0) (same_Some (o, place + 1) (at, stamp) named) in let first = within.0 in omega arith
named-within objects (spots.Chan o place) at stamp within named = absurd (cc)
named-within objects (spots.Obs o place) at stamp within named = absurd (cc)
named-within objects (spots.LookItem item flags front) at stamp within named = absurd (cc)
named-within objects (spots.LookSignal o seen) at stamp within named =
    let same : o ≡ at = ap (λ (p : ℕ × ℕ). p.0) (same_Some (o, seen.stamp) (at, stamp) named) in omega arith

-- The ceiling.

-- a stamp is up to the lower of two where it is up to both
up-lower : (stamp : ℕ) (a b : Option ℕ) → is_up_to stamp (lower_of a b) ≡ (is_up_to stamp a && is_up_to stamp b)
up-lower stamp None b = refl
up-lower stamp (Some p) None = right (leb stamp (p + 1)) where
  right : (b : Bool) → b ≡ (b && true)
  right true = refl
  right false = refl
up-lower stamp (Some p) (Some q) = by (cases_lt p q) where
  by : ((p < q) ⊎ (q ≤ p)) → leb stamp (min p q + 1) ≡ (leb stamp (p + 1) && leb stamp (q + 1))
  by (inl less) = elim (cases_Bool (leb stamp (p + 1))) [
    | inl is ↦ let low = leb-true stamp (p + 1) is in
        le-leb stamp (min p q + 1) (omega arith) ∙ sym (and_from (leb stamp (p + 1)) (leb stamp (q + 1)) is (le-leb stamp (q + 1) (omega arith)))
    | inr isnt ↦ let high = leb-false stamp (p + 1) isnt in lt-leb stamp (min p q + 1) (omega arith) ∙ sym (ap (λ b. b && leb stamp (q + 1)) isnt)
  ]
  by (inr more) = elim (cases_Bool (leb stamp (q + 1))) [
    | inl is ↦ let low = leb-true stamp (q + 1) is in
        le-leb stamp (min p q + 1) (omega arith) ∙ sym (and_from (leb stamp (p + 1)) (leb stamp (q + 1)) (le-leb stamp (p + 1) (omega arith)) is)
    | inr isnt ↦ let high = leb-false stamp (q + 1) isnt in lt-leb stamp (min p q + 1) (omega arith) ∙ sym (never (leb stamp (p + 1)) (leb stamp (q + 1)) isnt)
  ] where
    never : (b c : Bool) → c ≡ false → (b && c) ≡ false
    never true c is = is
    never false c is = refl

-- as the code tests it
pub up-to : (stamp place : ℕ) (result : Bool) → result ≡ leb (stamp - 1) place → result ≡ is_up_to stamp (Some place)
up-to stamp place result is = is ∙ by (cases_lt place (stamp - 1)) where
  by : ((place < stamp - 1) ⊎ (stamp - 1 ≤ place)) → leb (stamp - 1) place ≡ leb stamp (place + 1)
  by (inl above) = lt-leb (stamp - 1) place above ∙ sym (lt-leb stamp (place + 1) (omega arith))
  by (inr low) = le-leb (stamp - 1) place low ∙ sym (le-leb stamp (place + 1) (omega arith))

-- a step that writes nothing, in front of the others
pub ceiling-kept : (places : List (Option ℕ)) (later : List Spot) (spot : Spot) → ((object : ℕ) → write_place object spot ≡ None) → IsCeiling places later → IsCeiling places (spot ∷ later)
ceiling-kept places later spot none is = λ object within. is object within ∙ sym (ap (λ (o : Option ℕ). lower_of o (lowest_write object later)) (none object))

-- and a write
pub ceiling-lowered : (places new : List (Option ℕ)) (later : List Spot) (at place : ℕ) (value : Option ℕ) → at < length places → IsCeiling places later →
    value ≡ lower_of (Some place) (get_or places at None) → new ≡ set places at value → IsCeiling new (spots.Signal at place ∷ later)
ceiling-lowered places new later at place value there is lowered same = λ object within.
    by object (cases_eq object at) (subst (λ (n : ℕ). object < n) (ap length same ∙ length-set places at value) within) where
      by : (object : ℕ) → ((object ≡ at) ⊎ (object ≡ at → ⊥)) → object < length places →
          get_or new object None ≡ lower_of (cond (eqb at object) (Some place) None) (lowest_write object later)
      by object (inl here) within =
          ap (λ (l : List (Option ℕ)). get_or l object None) same ∙ ap (λ (n : ℕ). get_or (set places at value) n None) here
          ∙ get_or-set_same places at value None there ∙ lowered
          ∙ ap (λ (n : ℕ). lower_of (Some place) (get_or places n None)) (sym here) ∙ ap (lower_of (Some place)) (is object within)
          ∙ ap (λ (o : Option ℕ). lower_of o (lowest_write object later)) (sym (cond-true (eqb at object) (Some place) None (eq-eqb at object (sym here))))
      by object (inr other) within =
          ap (λ (l : List (Option ℕ)). get_or l object None) same ∙ get_or-set_other places at object value None other ∙ is object within
          ∙ ap (λ (o : Option ℕ). lower_of o (lowest_write object later)) (sym (cond-false (eqb at object) (Some place) None (ne_eqb at object (λ same. other (sym same)))))

-- What the marks say.

-- the mark of a step at its place
pub orders-at : (earlier steps : List Spot) (k : ℕ) (spot : Spot) → slice_get steps k ≡ Some spot →
    slice_get (orders_from earlier steps) k ≡ Some (is_late (earlier ++ take k steps) spot && is_early (drop (suc k) steps) spot)
orders-at earlier [] k spot there = absurd (none-some spot there)
orders-at earlier (x ∷ xs) zero spot there =
    ap (λ (y : Spot). Some (is_late earlier y && is_early xs y)) (same_Some x spot there)
    ∙ ap (λ (l : List Spot). Some (is_late l spot && is_early xs spot)) (sym (append-nil earlier))
orders-at earlier (x ∷ xs) (suc k) spot there =
    orders-at (earlier ++ x ∷ []) xs k spot there
    ∙ ap (λ (l : List Spot). Some (is_late l spot && is_early (drop (suc k) xs) spot)) (append_assoc earlier (x ∷ []) (take k xs))

-- the mark of the later ones
pub earlies-at : (steps : List Spot) (k : ℕ) (spot : Spot) (d : Bool) → k < length steps → spot ≡ get_or steps k spot → get_or (earlies_of steps) k d ≡ is_early (drop (suc k) steps) spot
earlies-at [] k spot d within is = absurd (omega arith)
earlies-at (x ∷ xs) zero spot d within is = ap (is_early xs) (sym is)
earlies-at (x ∷ xs) (suc k) spot d within is = earlies-at xs k spot d (omega arith) is

pub earlies-length : (steps : List Spot) → length (earlies_of steps) ≡ length steps
earlies-length [] = refl
earlies-length (x ∷ xs) = ap suc (earlies-length xs)

-- a look that is late has seen nothing older than each of the earlier ones
pub late-keeps : (earlier : List Spot) (spot : Spot) (k : ℕ) (other : Spot) → is_late earlier spot ≡ true → is_look spot ≡ true → slice_get earlier k ≡ Some other → NotOlder other spot
late-keeps earlier (spots.LookItem item flags at) k other late look there =
    let top = leb-true (most_of work_front earlier) at late in let one = most-above work_front earlier k other there in omega arith
late-keeps earlier (spots.LookSignal object seen) k other late look there =
    let top = leb-true (most_of (stamp_at object) earlier) seen.stamp late in let one = most-above (stamp_at object) earlier k other there in omega arith
late-keeps earlier (spots.Work place) k other late look there = absurd (cc)
late-keeps earlier (spots.Clock place) k other late look there = absurd (cc)
late-keeps earlier (spots.Table place) k other late look there = absurd (cc)
late-keeps earlier (spots.Sem at place) k other late look there = absurd (cc)
late-keeps earlier (spots.Msgq at place) k other late look there = absurd (cc)
late-keeps earlier (spots.Signal at place) k other late look there = absurd (cc)
late-keeps earlier (spots.Chan at place) k other late look there = absurd (cc)
late-keeps earlier (spots.Obs at place) k other late look there = absurd (cc)

-- and one that has is late
pub keeps-late : (earlier : List Spot) (spot : Spot) → ((k : ℕ) (other : Spot) → slice_get earlier k ≡ Some other → NotOlder other spot) → is_late earlier spot ≡ true
keeps-late earlier (spots.LookItem item flags at) keeps = le-leb (most_of work_front earlier) at (most-below work_front earlier at keeps)
keeps-late earlier (spots.LookSignal object seen) keeps = le-leb (most_of (stamp_at object) earlier) seen.stamp (most-below (stamp_at object) earlier seen.stamp keeps)
keeps-late earlier (spots.Work place) keeps = refl
keeps-late earlier (spots.Clock place) keeps = refl
keeps-late earlier (spots.Table place) keeps = refl
keeps-late earlier (spots.Sem at place) keeps = refl
keeps-late earlier (spots.Msgq at place) keeps = refl
keeps-late earlier (spots.Signal at place) keeps = refl
keeps-late earlier (spots.Chan at place) keeps = refl
keeps-late earlier (spots.Obs at place) keeps = refl

-- a stamp that is up to the lowest write is up to each
lowest-below : (object stamp : ℕ) (later : List Spot) (k place : ℕ) → is_up_to stamp (lowest_write object later) ≡ true → slice_get later k ≡ Some (spots.Signal object place) → stamp ≤ place + 1
lowest-below object stamp [] k place up there = absurd (none-some (spots.Signal object place) there)
lowest-below object stamp (x ∷ xs) zero place up there =
    let parts = and_parts (is_up_to stamp (write_place object x)) (is_up_to stamp (lowest_write object xs)) (sym (up-lower stamp (write_place object x) (lowest_write object xs)) ∙ up) in
    let first : write_place object x ≡ Some place = ap (write_place object) (same_Some x (spots.Signal object place) there) ∙ cond-true (eqb object object) (Some place) None (eq-eqb object object refl) in
    leb-true stamp (place + 1) (sym (ap (is_up_to stamp) first) ∙ parts.0)
lowest-below object stamp (x ∷ xs) (suc k) place up there =
    let parts = and_parts (is_up_to stamp (write_place object x)) (is_up_to stamp (lowest_write object xs)) (sym (up-lower stamp (write_place object x) (lowest_write object xs)) ∙ up) in
    lowest-below object stamp xs k place parts.1 there

-- what a step wrote is none or is its own
written-at : (object stamp : ℕ) (spot : Spot) → ((place : ℕ) → spot ≡ spots.Signal object place → stamp ≤ place + 1) → is_up_to stamp (write_place object spot) ≡ true
written-at object stamp (spots.Signal at place) below = elim (cases_Bool (eqb at object)) [
  | inl is ↦ ap (is_up_to stamp) (cond-true (eqb at object) (Some place) None is)
      ∙ le-leb stamp (place + 1) (below place (ap (λ (n : ℕ). spots.Signal n place) (eqb-true at object is)))
  | inr isnt ↦ ap (is_up_to stamp) (cond-false (eqb at object) (Some place) None isnt)
]
written-at object stamp (spots.Work place) below = refl
written-at object stamp (spots.Clock place) below = refl
written-at object stamp (spots.Table place) below = refl
written-at object stamp (spots.Sem at place) below = refl
written-at object stamp (spots.Msgq at place) below = refl
written-at object stamp (spots.Chan at place) below = refl
written-at object stamp (spots.Obs at place) below = refl
written-at object stamp (spots.LookItem item flags at) below = refl
written-at object stamp (spots.LookSignal at seen) below = refl

-- and one that is up to each is up to the lowest
lowest-above : (object stamp : ℕ) (later : List Spot) → ((k place : ℕ) → slice_get later k ≡ Some (spots.Signal object place) → stamp ≤ place + 1) → is_up_to stamp (lowest_write object later) ≡ true
lowest-above object stamp [] below = refl
lowest-above object stamp (x ∷ xs) below =
    up-lower stamp (write_place object x) (lowest_write object xs)
    ∙ and_from (is_up_to stamp (write_place object x)) (is_up_to stamp (lowest_write object xs))
    (written-at object stamp x (λ place is. below zero place (ap Some is)))
    (lowest-above object stamp xs (λ k place there. below (suc k) place there))

-- a look that is early has seen nothing newer than each of the later writes
early-keeps : (later : List Spot) (spot : Spot) (k at place : ℕ) → is_early later spot ≡ true → is_look spot ≡ true → slice_get later k ≡ Some (spots.Signal at place) → stamp_at at spot ≤ place + 1
early-keeps later (spots.LookItem item flags front) k at place early look there = omega arith
early-keeps later (spots.LookSignal object seen) k at place early look there = elim (cases_Bool (eqb object at)) [
  | inl is ↦
      let same : object ≡ at = eqb-true object at is in
      let low = lowest-below object seen.stamp later k place early (there ∙ ap (λ (n : ℕ). Some (spots.Signal n place)) (sym same)) in
      let value : cond (eqb object at) seen.stamp 0 ≡ seen.stamp = cond-true (eqb object at) seen.stamp 0 is in omega arith
  | inr isnt ↦ let value : cond (eqb object at) seen.stamp 0 ≡ 0 = cond-false (eqb object at) seen.stamp 0 isnt in omega arith
]
early-keeps later (spots.Work p) k at place early look there = absurd (cc)
early-keeps later (spots.Clock p) k at place early look there = absurd (cc)
early-keeps later (spots.Table p) k at place early look there = absurd (cc)
early-keeps later (spots.Sem o p) k at place early look there = absurd (cc)
early-keeps later (spots.Msgq o p) k at place early look there = absurd (cc)
early-keeps later (spots.Signal o p) k at place early look there = absurd (cc)
early-keeps later (spots.Chan o p) k at place early look there = absurd (cc)
early-keeps later (spots.Obs o p) k at place early look there = absurd (cc)

pub early-writes : (later : List Spot) (spot : Spot) (k : ℕ) (other : Spot) → is_early later spot ≡ true → is_look spot ≡ true → slice_get later k ≡ Some other → is_write other ≡ true → NotOlder spot other
early-writes later spot k (spots.Signal at place) early look there write = early-keeps later spot k at place early look there
early-writes later spot k (spots.Work p) early look there write = absurd (cc)
early-writes later spot k (spots.Clock p) early look there write = absurd (cc)
early-writes later spot k (spots.Table p) early look there write = absurd (cc)
early-writes later spot k (spots.Sem o p) early look there write = absurd (cc)
early-writes later spot k (spots.Msgq o p) early look there write = absurd (cc)
early-writes later spot k (spots.Chan o p) early look there write = absurd (cc)
early-writes later spot k (spots.Obs o p) early look there write = absurd (cc)
early-writes later spot k (spots.LookItem item flags at) early look there write = absurd (cc)
early-writes later spot k (spots.LookSignal o seen) early look there write = absurd (cc)

-- and one that has is early
pub writes-early : (later : List Spot) (spot : Spot) → ((k : ℕ) (other : Spot) → slice_get later k ≡ Some other → is_write other ≡ true → NotOlder spot other) → is_early later spot ≡ true
writes-early later (spots.LookSignal object seen) keeps =
    lowest-above object seen.stamp later (λ k place there.
    let here : cond (eqb object object) seen.stamp 0 ≤ place + 1 = keeps k (spots.Signal object place) there refl in
    let value : cond (eqb object object) seen.stamp 0 ≡ seen.stamp = cond-true (eqb object object) seen.stamp 0 (eq-eqb object object refl) in omega arith)
writes-early later (spots.Work place) keeps = refl
writes-early later (spots.Clock place) keeps = refl
writes-early later (spots.Table place) keeps = refl
writes-early later (spots.Sem at place) keeps = refl
writes-early later (spots.Msgq at place) keeps = refl
writes-early later (spots.Signal at place) keeps = refl
writes-early later (spots.Chan at place) keeps = refl
writes-early later (spots.Obs at place) keeps = refl
writes-early later (spots.LookItem item flags at) keeps = refl

-- one step more
pub orders-more : (steps : List Spot) (step : ℕ) (spot : Spot) (orders new : List Bool) (order : Bool) → take (step + 1) steps ≡ take step steps ++ spot ∷ [] →
    drop step steps ≡ spot ∷ drop (step + 1) steps → new ≡ orders ++ order ∷ [] → order ≡ (is_late (take step steps) spot && is_early (drop (suc step) steps) spot) →
    orders ++ orders_from (take step steps) (drop step steps) ≡ orders_from [] steps → new ++ orders_from (take (step + 1) steps) (drop (step + 1) steps) ≡ orders_from [] steps
orders-more steps step spot orders new order to next made is before =
    let one : suc step ≡ step + 1 = omega arith in
    let rest : List Bool = orders_from (take step steps ++ spot ∷ []) (drop (step + 1) steps) in
    ap (λ (l : List Bool). l ++ orders_from (take (step + 1) steps) (drop (step + 1) steps)) made
    ∙ append_assoc orders (order ∷ []) (orders_from (take (step + 1) steps) (drop (step + 1) steps))
    ∙ ap (λ (l : List Spot). orders ++ order ∷ orders_from l (drop (step + 1) steps)) to
    ∙ ap (λ (b : Bool). orders ++ b ∷ rest) (is ∙ ap (λ (n : ℕ). is_late (take step steps) spot && is_early (drop n steps) spot) one)
    ∙ sym (ap (λ (l : List Spot). orders ++ orders_from (take step steps) l) next)
    ∙ before
