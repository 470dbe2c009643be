-- What changes of arms leave: who waits, and how many of an item wait, have fired, or do either.
use Rattle.std.proofs.Common.{◌≡◌, ℕ, ◌+◌, Bool, true, false, not, ◌&&◌, cond, eqb, List, [], ◌∷◌, map, refl, sym, ap, ◌∙◌, arith}
use Rattle.std.specs.List.{filter, list_any, count_by}
use Rattle.std.proofs.lemmas.Bool.Decides.{nat_tests}
use Rattle.zk_base.proofs.Firsts.{one_if}
use Rattle.zk_model_trigger.specs.declared.ops.Cause.{Cause}
use Rattle.zk_model_trigger.specs.declared.parts.Arm.{Arm}
use Rattle.zk_model_trigger.specs.declared.parts.Armed.{Armed}
use Rattle.zk_model_trigger.specs.declared.parts.Life.{Life}
use Rattle.zk_model_trigger.specs.declared.parts.Life.TheVariants.{Waiting, Fired, Taken, Cancelled}
use Rattle.zk_model_trigger.specs.declared.parts.Occasion.{Occasion}
use Rattle.zk_model_trigger.specs.declared.parts.Occasion.TheVariants.{Posted, Reached}
use Rattle.zk_model_trigger.specs.declared.parts.Change.{Change}
use Rattle.zk_model_trigger.specs.declared.parts.Change.TheVariants as changes
use Rattle.zk_model_trigger.specs.Arms.{is_waiting, is_fired, is_live, meets, in_order, deadline_of, waiting, chosen, cause_by, life_after, change_one, change_all, has_waiting}
use Rattle.zk_model_trigger.specs.Steady.{waits_of, fired_of, live_of, of_item}
use Rattle.zk_model_trigger.proofs.Lists.{count-cons, count-map, count-same, count-sum, count-by_key, count-both, same_any}

-- Who waits after a change.

waits-fired : (l : Life) (m : Bool) (cause : Cause) →
    is_waiting (cond (is_waiting l && m) (Fired cause) l) ≡ (is_waiting l && not m)
waits-fired Waiting true cause = refl
waits-fired Waiting false cause = refl
waits-fired (Fired c) m cause = refl
waits-fired Taken m cause = refl
waits-fired Cancelled m cause = refl

waits-cancelled : (l : Life) (m : Bool) → is_waiting (cond (m && is_waiting l) Cancelled l) ≡ (is_waiting l && not m)
waits-cancelled Waiting true = refl
waits-cancelled Waiting false = refl
waits-cancelled (Fired c) true = refl
waits-cancelled (Fired c) false = refl
waits-cancelled Taken true = refl
waits-cancelled Taken false = refl
waits-cancelled Cancelled true = refl
waits-cancelled Cancelled false = refl

waits-taken : (l : Life) (m : Bool) → is_waiting (cond (m && is_fired l) Taken l) ≡ (is_waiting l && true)
waits-taken Waiting true = refl
waits-taken Waiting false = refl
waits-taken (Fired c) true = refl
waits-taken (Fired c) false = refl
waits-taken Taken true = refl
waits-taken Taken false = refl
waits-taken Cancelled true = refl
waits-taken Cancelled false = refl

waiting-changed : (change : Change) (stays : Arm → Bool) →
    ((a : Armed) → is_waiting (life_after change a) ≡ (is_waiting a.life && stays a.arm)) →
    (arms : List Armed) → waiting (change_all change arms) ≡ filter stays (waiting arms)
waiting-changed change stays said [] = refl
waiting-changed change stays said (x ∷ xs) =
    ap (λ (b : Bool). map (λ (a : Armed). a.arm) (cond b (change_one change x ∷ rest) rest)) (said x)
    ∙ by (is_waiting x.life) (stays x.arm) refl (waiting-changed change stays said xs) where
      rest : List Armed
      rest = filter (λ (a : Armed). is_waiting a.life) (change_all change xs)

      by : (w t : Bool) → stays x.arm ≡ t → map (λ (a : Armed). a.arm) rest ≡ filter stays (waiting xs) →
          map (λ (a : Armed). a.arm) (cond (w && t) (change_one change x ∷ rest) rest)
          ≡ filter stays (map (λ (a : Armed). a.arm)
          (cond w (x ∷ filter (λ (a : Armed). is_waiting a.life) xs) (filter (λ (a : Armed). is_waiting a.life) xs)))
      by false t is so = so
      by true true is so =
          ap (λ (l : List Arm). x.arm ∷ l) so
          ∙ ap (λ (b : Bool). cond b (x.arm ∷ filter stays (waiting xs)) (filter stays (waiting xs))) (sym is)
      by true false is so =
          so ∙ ap (λ (b : Bool). cond b (x.arm ∷ filter stays (waiting xs)) (filter stays (waiting xs))) (sym is)

pub waiting-fire : (o : Occasion) (arms : List Armed) →
    waiting (change_all (changes.Fire o) arms) ≡ filter (λ a. not (meets o a)) (waiting arms)
waiting-fire o arms =
    waiting-changed (changes.Fire o) (λ a. not (meets o a)) (λ a. waits-fired a.life (meets o a.arm) (cause_by o)) arms

pub waiting-cancel : (item : ℕ) (arms : List Armed) →
    waiting (change_all (changes.Cancel item) arms) ≡ filter (λ a. not (of_item item a)) (waiting arms)
waiting-cancel item arms =
    waiting-changed (changes.Cancel item) (λ a. not (of_item item a)) (λ a. waits-cancelled a.life (eqb a.arm.item item)) arms

pub waiting-take : (item : ℕ) (arms : List Armed) →
    waiting (change_all (changes.Take item) arms) ≡ filter (λ a. true) (waiting arms)
waiting-take item arms =
    waiting-changed (changes.Take item) (λ a. true) (λ a. waits-taken a.life (eqb a.arm.item item)) arms

-- How many.

split : (e : Bool) (l : Life) → one_if (e && is_live l) ≡ one_if (e && is_waiting l) + one_if (e && is_fired l)
split true Waiting = refl
split true (Fired c) = refl
split true Taken = refl
split true Cancelled = refl
split false l = refl

-- who waits and who has fired make up who does either
pub count-live : (item : ℕ) (arms : List Armed) →
    count_by (live_of item) arms ≡ count_by (waits_of item) arms + count_by (fired_of item) arms
count-live item arms =
    count-sum (live_of item) (waits_of item) (fired_of item) (λ a. split (eqb a.arm.item item) a.life) arms

-- those that wait, counted
pub count-waiting : (item : ℕ) (arms : List Armed) → count_by (waits_of item) arms ≡ count_by (of_item item) (waiting arms)
count-waiting item [] = refl
count-waiting item (x ∷ xs) = by (is_waiting x.life) refl (count-waiting item xs) where
  kept : List Armed
  kept = filter (λ (a : Armed). is_waiting a.life) xs

  no : (b : Bool) → one_if (b && false) ≡ 0
  no true = refl
  no false = refl

  yes : (b : Bool) → one_if (b && true) ≡ one_if b
  yes true = refl
  yes false = refl

  by : (w : Bool) → is_waiting x.life ≡ w → count_by (waits_of item) xs ≡ count_by (of_item item) (map (λ (a : Armed). a.arm) kept) →
      count_by (waits_of item) (x ∷ xs) ≡ count_by (of_item item) (map (λ (a : Armed). a.arm) (cond w (x ∷ kept) kept))
  by true is so =
      let here : one_if (waits_of item x) ≡ one_if (eqb x.arm.item item) =
      ap (λ (w : Bool). one_if (eqb x.arm.item item && w)) is ∙ yes (eqb x.arm.item item) in
      omega (
        arith,
        count-cons (waits_of item) x xs,
        count-cons (of_item item) x.arm (map (λ (a : Armed). a.arm) kept),
      )
  by false is so =
      let here : one_if (waits_of item x) ≡ 0 =
      ap (λ (w : Bool). one_if (eqb x.arm.item item && w)) is ∙ no (eqb x.arm.item item) in
      omega (arith, count-cons (waits_of item) x xs)

-- a cancel of the item's arms that wait
gives_up : (e : Bool) (l : Life) →
    one_if (e && is_live l) ≡ one_if (e && is_live (cond (e && is_waiting l) Cancelled l)) + one_if (e && is_waiting l)
gives_up true Waiting = refl
gives_up true (Fired c) = refl
gives_up true Taken = refl
gives_up true Cancelled = refl
gives_up false l = refl

takes : (e : Bool) (l : Life) →
    one_if (e && is_live l) ≡ one_if (e && is_live (cond (e && is_fired l) Taken l)) + one_if (e && is_fired l)
takes true Waiting = refl
takes true (Fired c) = refl
takes true Taken = refl
takes true Cancelled = refl
takes false l = refl

-- what a change leaves of the item whose arms it changes
pub live-cancel : (item : ℕ) (arms : List Armed) →
    count_by (live_of item) arms
    ≡ count_by (live_of item) (change_all (changes.Cancel item) arms) + count_by (waits_of item) arms
live-cancel item arms =
    let after = count-map (live_of item) (change_one (changes.Cancel item)) arms in
    let adds = count-sum (live_of item) (λ a. live_of item (change_one (changes.Cancel item) a)) (waits_of item)
    (λ a. gives_up (eqb a.arm.item item) a.life) arms in
    omega arith

pub live-take : (item : ℕ) (arms : List Armed) →
    count_by (live_of item) arms
    ≡ count_by (live_of item) (change_all (changes.Take item) arms) + count_by (fired_of item) arms
live-take item arms =
    let after = count-map (live_of item) (change_one (changes.Take item)) arms in
    let adds = count-sum (live_of item) (λ a. live_of item (change_one (changes.Take item) a)) (fired_of item)
    (λ a. takes (eqb a.arm.item item) a.life) arms in
    omega arith

none-fired : (e : Bool) (l : Life) → (e && is_fired (cond (e && is_fired l) Taken l)) ≡ false
none-fired true Waiting = refl
none-fired true (Fired c) = refl
none-fired true Taken = refl
none-fired true Cancelled = refl
none-fired false l = refl

none-counted : {A : Type 0} (p : A → Bool) → ((x : A) → p x ≡ false) → (xs : List A) → count_by p xs ≡ 0
none-counted p none [] = refl
none-counted p none (x ∷ xs) =
    let rest = none-counted p none xs in
    let here = ap one_if (none x) in
    omega (arith, count-cons p x xs)

-- after a take none of the item has fired
pub fired-take : (item : ℕ) (arms : List Armed) → count_by (fired_of item) (change_all (changes.Take item) arms) ≡ 0
fired-take item arms =
    count-map (fired_of item) (change_one (changes.Take item)) arms
    ∙ none-counted (λ (a : Armed). fired_of item (change_one (changes.Take item) a))
    (λ a. none-fired (eqb a.arm.item item) a.life) arms

-- of an arm that isn't the item's a change for the item changes nothing
aside : (e m : Bool) (test : Life → Bool) (l l' : Life) (w : Bool) → (e ≡ true → m ≡ false) →
    (e && test (cond (m && w) l' l)) ≡ (e && test l)
aside false m test l l' w apart = refl
aside true m test l l' w apart = ap (λ (b : Bool). test (cond (b && w) l' l)) (apart refl)

other_item : (i item number : ℕ) → (i ≡ item → ⊥) → eqb number i ≡ true → eqb number item ≡ false
other_item i item number apart is = grind (arith, nat_tests)

pub other-cancel : (test : Life → Bool) (i item : ℕ) (arms : List Armed) → (i ≡ item → ⊥) →
    count_by (λ (a : Armed). eqb a.arm.item i && test a.life) (change_all (changes.Cancel item) arms)
    ≡ count_by (λ (a : Armed). eqb a.arm.item i && test a.life) arms
other-cancel test i item arms apart =
    count-map (λ (a : Armed). eqb a.arm.item i && test a.life) (change_one (changes.Cancel item)) arms
    ∙ count-same (λ (a : Armed). eqb a.arm.item i && test (life_after (changes.Cancel item) a))
    (λ (a : Armed). eqb a.arm.item i && test a.life)
    (λ a. aside (eqb a.arm.item i) (eqb a.arm.item item) test a.life Cancelled (is_waiting a.life)
    (λ is. other_item i item a.arm.item apart is)) arms

pub other-take : (test : Life → Bool) (i item : ℕ) (arms : List Armed) → (i ≡ item → ⊥) →
    count_by (λ (a : Armed). eqb a.arm.item i && test a.life) (change_all (changes.Take item) arms)
    ≡ count_by (λ (a : Armed). eqb a.arm.item i && test a.life) arms
other-take test i item arms apart =
    count-map (λ (a : Armed). eqb a.arm.item i && test a.life) (change_one (changes.Take item)) arms
    ∙ count-same (λ (a : Armed). eqb a.arm.item i && test (life_after (changes.Take item) a))
    (λ (a : Armed). eqb a.arm.item i && test a.life)
    (λ a. aside (eqb a.arm.item i) (eqb a.arm.item item) test a.life Taken (is_fired a.life)
    (λ is. other_item i item a.arm.item apart is)) arms

same-fired : (e m : Bool) (l : Life) → (e && is_fired (cond (m && is_waiting l) Cancelled l)) ≡ (e && is_fired l)
same-fired e true Waiting = refl
same-fired e true (Fired c) = refl
same-fired e true Taken = refl
same-fired e true Cancelled = refl
same-fired e false l = refl

-- a cancel leaves who has fired
pub fired-cancel : (i item : ℕ) (arms : List Armed) →
    count_by (fired_of i) (change_all (changes.Cancel item) arms) ≡ count_by (fired_of i) arms
fired-cancel i item arms =
    count-map (fired_of i) (change_one (changes.Cancel item)) arms
    ∙ count-same (λ (a : Armed). fired_of i (change_one (changes.Cancel item) a)) (fired_of i)
    (λ a. same-fired (eqb a.arm.item i) (eqb a.arm.item item) a.life) arms

-- What fires stays live.

same-live : (e m : Bool) (cause : Cause) (l : Life) → (e && is_live (cond (is_waiting l && m) (Fired cause) l)) ≡ (e && is_live l)
same-live e true cause Waiting = refl
same-live e false cause Waiting = refl
same-live e m cause (Fired c) = refl
same-live e m cause Taken = refl
same-live e m cause Cancelled = refl

pub live-fire : (o : Occasion) (i : ℕ) (arms : List Armed) →
    count_by (live_of i) (change_all (changes.Fire o) arms) ≡ count_by (live_of i) arms
live-fire o i arms =
    count-map (live_of i) (change_one (changes.Fire o)) arms
    ∙ count-same (λ (a : Armed). live_of i (change_one (changes.Fire o) a)) (live_of i)
    (λ a. same-live (eqb a.arm.item i) (meets o a.arm) (cause_by o) a.life) arms

-- in the order of firing as many are the item's
count-in_order : (i : ℕ) (o : Occasion) (xs : List Arm) → count_by (of_item i) (in_order o xs) ≡ count_by (of_item i) xs
count-in_order i (Posted event) xs = refl
count-in_order i (Reached time) xs = count-by_key (of_item i) deadline_of xs

-- those that fire are those that have fired more
pub fired-fire : (o : Occasion) (i : ℕ) (arms : List Armed) →
    count_by (fired_of i) (change_all (changes.Fire o) arms)
    ≡ count_by (fired_of i) arms + count_by (of_item i) (chosen o arms)
fired-fire o i arms =
    let after = change_all (changes.Fire o) arms in
    let live = live-fire o i arms in
    let before_parts = count-live i arms in
    let after_parts = count-live i after in
    let before_waits = count-waiting i arms in
    let after_waits = count-waiting i after in
    let left : count_by (of_item i) (waiting after) ≡ count_by (of_item i) (filter (λ a. not (meets o a)) (waiting arms)) =
    ap (count_by (of_item i)) (waiting-fire o arms) in
    let both = count-both (of_item i) (meets o) (waiting arms) in
    let order = count-in_order i o (filter (meets o) (waiting arms)) in
    omega arith

-- the item has an arm that waits where one of those that wait is its
pub any-waiting : (item : ℕ) (arms : List Armed) → has_waiting arms item ≡ list_any (of_item item) (waiting arms)
any-waiting item arms =
    let same = count-waiting item arms in
    same_any (waits_of item) (of_item item) arms (waiting arms) (λ some. omega arith) (λ some. omega arith)
