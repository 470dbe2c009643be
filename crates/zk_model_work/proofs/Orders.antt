-- In what order an announce tells the items of the arms that expire.
use Rattle.std.proofs.Common.{◌≡◌, ℕ, zero, suc, ◌+◌, ◌<◌, ◌≤◌, ◌⊎◌, inl, inr, Bool, true, false, ◌||◌, cond, eqb, ltb, leb, Option, Some, None, option_map, List, [], ◌∷◌, length, map, filter, get_or, slice_get, All, refl, sym, ap, subst, ◌∙◌, add-zero, arith}
use Rattle.std.specs.Cmp.{first_so, second_so}
use Rattle.std.specs.List.{list_any}
use Rattle.std.proofs.lemmas.Bool.{eqb-true, eq-eqb, cases_lt, and_from}
use Rattle.std.proofs.lemmas.Bool.Decides.{nat_tests}
use Rattle.std.proofs.lemmas.List.{length-append}
use Rattle.std.proofs.lemmas.List.Elements.{All-nil, All-cons, All-head, All-tail, All-filter, All-weaker}
use Rattle.std.proofs.lemmas.Option.{same_Some, slice_get-map, slice_get_within, get_or_from_slice_get}
use Rattle.zk_base.specs.Order.{put_by, put_all_by, by_key}
use Rattle.zk_base.proofs.Order.{All-put_by, All-by_key, map-by_key, list_any-by_key}
use Rattle.zk_model_work.specs.declared.parts.Admission.{Admission}
use Rattle.zk_model_work.specs.declared.parts.Arm.{Arm}
use Rattle.zk_model_work.specs.declared.parts.Item.{Item}
use Rattle.zk_model_work.specs.declared.parts.Queue.{Queue}
use Rattle.zk_model_work.specs.declared.ops.WorkOp.{WorkOp}
use Rattle.zk_model_work.specs.declared.ops.Submitted.{Submitted}
use Rattle.zk_model_work.specs.declared.ops.Submitted.TheVariants.{Already, Fresh, Rerun, Refused}
use Rattle.zk_model_work.specs.declared.ops.Expiry.{Expiry}
use Rattle.zk_model_work.specs.declared.ops.WorkReply.{WorkReply}
use Rattle.zk_model_work.specs.declared.ops.WorkReply.TheVariants.{Now}
use Rattle.zk_model_work.specs.Questions.{is_live, is_due, due, item_of}
use Rattle.zk_model_work.specs.State.{State}
use Rattle.zk_model_work.specs.Answers.{submission}
use Rattle.zk_model_work.specs.Machine.{submit, expiries, announce_reply, work_reply, work_next}
use Rattle.zk_model_work.specs.Histories.{OfEach, IsDueAt, AreToldInOrder, told_number}
use Rattle.zk_model_work.specs.Laws.{ExpireInOrder, AdmittedInOrder}
use Rattle.zk_model_work.proofs.Delays.{one_live_arm, told_items}
use Rattle.zk_model_work.proofs.Entries.{at_each, at_each_in}
use Rattle.zk_model_work.proofs.Replies.{OneIsLive, live-is}
use Rattle.zk_model_work.proofs.Submissions.{Says, says, waiting_one}
use Rattle.zk_model_work.proofs.Waits.{any-at}

-- an arm with its place
record Placed : Type 0 where
  pub place : ℕ
  pub arm : Arm

-- the arms with their places, from the place n on
abbrev placed_from : ℕ → List Arm → List Placed
placed_from n [] = []
placed_from n (x ∷ xs) = record { place = n; arm = x } ∷ placed_from (n + 1) xs

abbrev key : Placed → ℕ
key t = t.arm.deadline

abbrev expires : ℕ → Placed → Bool
expires time t = is_due time t.arm

map-placed : (n : ℕ) (xs : List Arm) → map (λ (t : Placed). t.arm) (placed_from n xs) ≡ xs
map-placed n [] = refl
map-placed n (x ∷ xs) = ap (λ (ys : List Arm). x ∷ ys) (map-placed (n + 1) xs)

map-filter : (p : Arm → Bool) (ts : List Placed) →
    map (λ (t : Placed). t.arm) (filter (λ (t : Placed). p t.arm) ts) ≡ filter p (map (λ (t : Placed). t.arm) ts)
map-filter p [] = refl
map-filter p (t ∷ ts) = by (p t.arm) (map-filter p ts) where
  by : (b : Bool) → map (λ (t : Placed). t.arm) (filter (λ (t : Placed). p t.arm) ts)
      ≡ filter p (map (λ (t : Placed). t.arm) ts) →
      map (λ (t : Placed). t.arm) (cond b (t ∷ filter (λ (t : Placed). p t.arm) ts) (filter (λ (t : Placed). p t.arm) ts))
      ≡ cond b (t.arm ∷ filter p (map (λ (t : Placed). t.arm) ts)) (filter p (map (λ (t : Placed). t.arm) ts))
  by true rest = ap (λ (ys : List Arm). t.arm ∷ ys) rest
  by false rest = rest

-- the arms that are due, with their places, in order
abbrev due_places : ℕ → List Arm → List Placed
due_places time arms = by_key key (filter (expires time) (placed_from 0 arms))

due-map : (time : ℕ) (arms : List Arm) → map (λ (t : Placed). t.arm) (due_places time arms) ≡ due time arms
due-map time arms =
    map-by_key (λ (t : Placed). t.arm) (λ (a : Arm). a.deadline) (filter (expires time) (placed_from 0 arms))
    ∙ ap (by_key (λ (a : Arm). a.deadline)) (map-filter (is_due time) (placed_from 0 arms)
    ∙ ap (filter (is_due time)) (map-placed 0 arms))

-- by deadline and then by place
abbrev Before : Placed → Placed → Type 0
Before t u = (key t < key u) ⊎ ((key t ≡ key u) × (t.place < u.place))

abbrev Orderly : List Placed → Type 0
Orderly [] = Unit {0}
Orderly (t ∷ ts) = All (Before t) ts × Orderly ts

before-key : (t u : Placed) → Before t u → key t ≤ key u
before-key t u (inl less) = omega arith
before-key t u (inr same) = let is = same.0 in omega arith

Orderly-put_by : (x : Placed) (ts : List Placed) → Orderly ts → All (λ (u : Placed). u.place < x.place) ts →
    Orderly (put_by key x ts)
Orderly-put_by x [] orderly below = (All-nil (Before x), tt)
Orderly-put_by x (y ∷ ys) orderly below =
    by (ltb (key x) (key y)) refl (Orderly-put_by x ys orderly.1 (All-tail (λ (u : Placed). u.place < x.place) y ys below)) where
      less : ltb (key x) (key y) ≡ true → key x < key y
      less is = grind (arith, nat_tests)

      least : ltb (key x) (key y) ≡ false → key y ≤ key x
      least is = grind (arith, nat_tests)

      behind : key x < key y → All (Before x) ys
      behind first = All-weaker (Before y) (Before x) (λ u after. let le = before-key y u after in inl (omega arith)) ys orderly.0

      front : key y ≤ key x → Before y x
      front le = which (cases_lt (key y) (key x)) where
        which : (key y < key x) ⊎ (key x ≤ key y) → Before y x
        which (inl first) = inl first
        which (inr ge) = inr (omega arith, All-head (λ (u : Placed). u.place < x.place) y ys below)

      by : (b : Bool) → ltb (key x) (key y) ≡ b → Orderly (put_by key x ys) → Orderly (cond b (x ∷ y ∷ ys) (y ∷ put_by key x ys))
      by true is rest = (All-cons (Before x) y ys (inl (less is)) (behind (less is)), orderly)
      by false is rest = (All-put_by (Before y) key x ys (front (least is)) orderly.0, rest)

-- the places rise
abbrev Rise : List Placed → Type 0
Rise [] = Unit {0}
Rise (t ∷ ts) = All (λ (u : Placed). t.place < u.place) ts × Rise ts

Rise-placed : (n : ℕ) (xs : List Arm) → All (λ (u : Placed). n ≤ u.place) (placed_from n xs) × Rise (placed_from n xs)
Rise-placed n [] = (All-nil (λ (u : Placed). n ≤ u.place), tt)
Rise-placed n (x ∷ xs) =
    let rest = Rise-placed (n + 1) xs in
    let t : Placed = record { place = n; arm = x } in (
      All-cons (λ (u : Placed). n ≤ u.place) t (placed_from (n + 1) xs) (omega arith)
          (All-weaker (λ (u : Placed). n + 1 ≤ u.place) (λ (u : Placed). n ≤ u.place) (λ u le. omega arith)
          (placed_from (n + 1) xs) rest.0),
      (
        All-weaker (λ (u : Placed). n + 1 ≤ u.place) (λ (u : Placed). n < u.place) (λ u le. omega arith)
            (placed_from (n + 1) xs) rest.0,
        rest.1,
      ),
    )

Rise-filter : (p : Placed → Bool) (ts : List Placed) → Rise ts → Rise (filter p ts)
Rise-filter p [] rise = tt
Rise-filter p (t ∷ ts) rise = by (p t) (Rise-filter p ts rise.1) where
  by : (b : Bool) → Rise (filter p ts) → Rise (cond b (t ∷ filter p ts) (filter p ts))
  by true rest = (All-filter p (λ (u : Placed). t.place < u.place) ts rise.0, rest)
  by false rest = rest

Orderly-put_all : (sorted xs : List Placed) → Orderly sorted → Rise xs →
    All (λ (x : Placed). All (λ (u : Placed). u.place < x.place) sorted) xs → Orderly (put_all_by key sorted xs)
Orderly-put_all sorted [] orderly rise below = orderly
Orderly-put_all sorted (x ∷ xs) orderly rise below =
    let P : Placed → Type 0 = λ x. All (λ (u : Placed). u.place < x.place) sorted in
    let rest = All-tail P x xs below in
    Orderly-put_all (put_by key x sorted) xs (Orderly-put_by x sorted orderly (All-head P x xs below)) rise.1
    (λ i d within. All-put_by (λ (u : Placed). u.place < (get_or xs i d).place) key x sorted (rise.0 i d within)
    (rest i d within))

Orderly-due : (time : ℕ) (arms : List Arm) → Orderly (due_places time arms)
Orderly-due time arms =
    let passing = filter (expires time) (placed_from 0 arms) in
    Orderly-put_all [] passing tt (Rise-filter (expires time) (placed_from 0 arms) (Rise-placed 0 arms).1)
    (λ i d within. All-nil (λ (u : Placed). u.place < (get_or passing i d).place))

orderly-at : (ts : List Placed) (m n : ℕ) (t u : Placed) → Orderly ts → m < n → slice_get ts m ≡ Some t →
    slice_get ts n ≡ Some u → Before t u
orderly-at [] m n t u orderly below at there = absurd (cc)
orderly-at (x ∷ ts) m zero t u orderly below at there = absurd (omega arith)
orderly-at (x ∷ ts) zero (suc n) t u orderly below at there =
    subst (λ (y : Placed). Before y u) (same_Some x t at)
    (subst (Before x) (get_or_from_slice_get ts n u u there) (orderly.0 n u (slice_get_within ts n u there)))
orderly-at (x ∷ ts) (suc m) (suc n) t u orderly below at there = orderly-at ts m n t u orderly.1 (omega arith) at there

-- each stands in its place, and is due
placed-at : (n : ℕ) (xs : List Arm) (k : ℕ) (t : Placed) → slice_get (placed_from n xs) k ≡ Some t →
    (t.place ≡ n + k) × (slice_get xs k ≡ Some t.arm)
placed-at n [] k t at = absurd (cc)
placed-at n (x ∷ xs) zero t at = let same = same_Some (record { place = n; arm = x }) t at in
    (ap (λ (u : Placed). u.place) (sym same) ∙ sym (add-zero n), ap (λ (u : Placed). Some u.arm) same)
placed-at n (x ∷ xs) (suc k) t at = let it = placed-at (n + 1) xs k t at in let is = it.0 in (omega arith, it.1)

not-later : (deadline time : ℕ) → leb deadline time ≡ true → deadline ≤ time
not-later deadline time is = grind (arith, nat_tests)

later-not : (deadline time : ℕ) → deadline ≤ time → leb deadline time ≡ true
later-not deadline time le = grind (arith, nat_tests)

abbrev Stands : State → ℕ → Placed → Type 0
Stands s time t = IsDueAt s time t.place t.arm

stands-filter : (s : State) (time : ℕ) (p : Placed → Bool) (ts : List Placed) →
    ((n : ℕ) (t : Placed) → slice_get ts n ≡ Some t → p t ≡ true → Stands s time t) → All (Stands s time) (filter p ts)
stands-filter s time p [] each = All-nil (Stands s time)
stands-filter s time p (t ∷ ts) each = by (p t) refl (stands-filter s time p ts (λ n u at passes. each (suc n) u at passes)) where
  by : (b : Bool) → p t ≡ b → All (Stands s time) (filter p ts) → All (Stands s time) (cond b (t ∷ filter p ts) (filter p ts))
  by true is rest = All-cons (Stands s time) t (filter p ts) (each 0 t refl is) rest
  by false is rest = rest

all-stand : (s : State) (time : ℕ) → All (Stands s time) (due_places time s.arms)
all-stand s time =
    All-by_key (Stands s time) key (filter (expires time) (placed_from 0 s.arms))
    (stands-filter s time (expires time) (placed_from 0 s.arms) (λ n t at passes.
    let it = placed-at 0 s.arms n t at in
    let place : t.place ≡ n = let is = it.0 in omega arith in (
      ap (slice_get s.arms) place ∙ it.1,
      live-is t.arm.fate (first_so (is_live t.arm.fate) (leb t.arm.deadline time) passes),
      not-later t.arm.deadline time (second_so (is_live t.arm.fate) (leb t.arm.deadline time) passes),
    )))

stands-at : (s : State) (time k : ℕ) (t : Placed) → slice_get (due_places time s.arms) k ≡ Some t → Stands s time t
stands-at s time k t at = subst (Stands s time) (get_or_from_slice_get (due_places time s.arms) k t t at)
    (all-stand s time k t (slice_get_within (due_places time s.arms) k t at))

-- and each that is due is there
any-placed : (time n : ℕ) (xs : List Arm) (k : ℕ) (a : Arm) → slice_get xs k ≡ Some a → is_due time a ≡ true →
    list_any (λ (t : Placed). eqb t.place (n + k)) (filter (expires time) (placed_from n xs)) ≡ true
any-placed time n [] k a at is = absurd (cc)
any-placed time n (x ∷ xs) zero a at is =
    let passes : is_due time x ≡ true = ap (is_due time) (same_Some x a at) ∙ is in
    let rest = filter (expires time) (placed_from (n + 1) xs) in
    let t : Placed = record { place = n; arm = x } in
    ap (λ b. list_any (λ (t : Placed). eqb t.place (n + 0)) (cond b (t ∷ rest) rest)) passes
    ∙ ap (λ b. b || list_any (λ (t : Placed). eqb t.place (n + 0)) rest) (eq-eqb n (n + 0) (sym (add-zero n)))
any-placed time n (x ∷ xs) (suc k) a at is =
    by (is_due time x) (ap (λ m. list_any (λ (t : Placed). eqb t.place m) rest) next ∙ any-placed time (n + 1) xs k a at is) where
      next : n + suc k ≡ (n + 1) + k
      next = omega arith

      rest : List Placed
      rest = filter (expires time) (placed_from (n + 1) xs)

      or-true : (b c : Bool) → c ≡ true → (b || c) ≡ true
      or-true true c is = refl
      or-true false c is = is

      by : (b : Bool) → list_any (λ (t : Placed). eqb t.place (n + suc k)) rest ≡ true →
          list_any (λ (t : Placed). eqb t.place (n + suc k)) (cond b (record { place = n; arm = x } ∷ rest) rest) ≡ true
      by true found = or-true (eqb n (n + suc k)) (list_any (λ (t : Placed). eqb t.place (n + suc k)) rest) found
      by false found = found

due-found : (s : State) (time place : ℕ) (a : Arm) → IsDueAt s time place a →
    (k : ℕ) × (t : Placed) × (slice_get (due_places time s.arms) k ≡ Some t) × (t.arm ≡ a)
due-found s time place a is =
    let p : Placed → Bool = λ t. eqb t.place (0 + place) in
    let passes = and_from (is_live a.fate) (leb a.deadline time) (ap is_live is.1) (later-not a.deadline time is.2) in
    let found = any-at p (due_places time s.arms) (list_any-by_key p key (filter (expires time) (placed_from 0 s.arms))
    ∙ any-placed time 0 s.arms place a is.0 passes) in
    let same : found.1.place ≡ place = let at = eqb-true found.1.place (0 + place) found.3 in omega arith in (
      found.0,
      found.1,
      found.2,
      same_Some found.1.arm a (sym (stands-at s time found.0 found.1 found.2).0
          ∙ ap (slice_get s.arms) same ∙ is.0),
    )

-- what is told, and what is due
told-due : (s : State) (time : ℕ) (told : List Expiry) → told ≡ expiries s.marks s.queues (due time s.arms) s.admissions →
    map (λ (x : Expiry). x.item) told ≡ map (λ (t : Placed). t.arm.item) (due_places time s.arms)
told-due s time told is =
    ap (map (λ (x : Expiry). x.item)) is ∙ told_items s.marks s.queues (due time s.arms) s.admissions
    ∙ ap (map (λ (a : Arm). a.item)) (sym (due-map time s.arms)) ∙ map-twice (due_places time s.arms) where
      map-twice : (ts : List Placed) →
          map (λ (a : Arm). a.item) (map (λ (t : Placed). t.arm) ts) ≡ map (λ (t : Placed). t.arm.item) ts
      map-twice [] = refl
      map-twice (t ∷ ts) = ap (λ (l : List ℕ). t.arm.item ∷ l) (map-twice ts)

item-at : {A B : Type 0} (f : A → ℕ) (g : B → ℕ) (xs : List A) (ys : List B) (k : ℕ) (x : A) → map f xs ≡ map g ys →
    slice_get xs k ≡ Some x → (y : B) × (slice_get ys k ≡ Some y) × (g y ≡ f x)
item-at {A} {B} f g xs ys k x same at = by (slice_get ys k) refl (sym (slice_get-map g ys k)
    ∙ ap (λ (l : List ℕ). slice_get l k) (sym same) ∙ slice_get-map f xs k ∙ ap (option_map f) at) where
      by : (o : Option B) → slice_get ys k ≡ o → option_map g o ≡ Some (f x) → (y : B) × (slice_get ys k ≡ Some y) × (g y ≡ f x)
      by None there is = absurd (cc)
      by (Some y) there is = (y, there, same_Some (g y) (f x) is)

in-order : (s : State) (time : ℕ) (told : List Expiry) → OneIsLive s →
    told ≡ expiries s.marks s.queues (due time s.arms) s.admissions → AreToldInOrder s time told
in-order s time told one is = record {
  over = λ number x at.
      let t = placed number x at in
      let stands = stands-at s time number t.0 t.1 in
      (t.0.place, t.0.arm, stands, t.2);
  all = λ place a due_at.
      let found = due-found s time place a due_at in
      let x = item-at (λ (t : Placed). t.arm.item) (λ (x : Expiry). x.item) ts told found.0 found.1 (sym same) found.2 in
      (found.0, x.0, x.1, x.2 ∙ ap (λ (b : Arm). b.item) found.3);
  order = λ number next place other x y a b below at there due_a due_b item_a item_b.
      let t = placed number x at in
      let u = placed next y there in
      let first = one_place t.0 place a (stands-at s time number t.0 t.1) due_a (t.2 ∙ sym item_a) in
      let second = one_place u.0 other b (stands-at s time next u.0 u.1) due_b (u.2 ∙ sym item_b) in
      ordered t.0 u.0 place other a b first second (orderly-at ts number next t.0 u.0 (Orderly-due time s.arms) below t.1 u.1);
} where
  ts : List Placed
  ts = due_places time s.arms

  same : map (λ (x : Expiry). x.item) told ≡ map (λ (t : Placed). t.arm.item) ts
  same = told-due s time told is

  placed : (k : ℕ) (x : Expiry) → slice_get told k ≡ Some x → (t : Placed) × (slice_get ts k ≡ Some t) × (t.arm.item ≡ x.item)
  placed k x at = item-at (λ (x : Expiry). x.item) (λ (t : Placed). t.arm.item) told ts k x same at

  one_place : (t : Placed) (place : ℕ) (a : Arm) → Stands s time t → IsDueAt s time place a → t.arm.item ≡ a.item →
      (t.place ≡ place) × (t.arm ≡ a)
  one_place t place a stands due_at items =
      let at = one t.place place t.arm a stands.0 due_at.0 items stands.1 due_at.1 in
      (at, same_Some t.arm a (sym stands.0 ∙ ap (slice_get s.arms) at ∙ due_at.0))

  ordered : (t u : Placed) (place other : ℕ) (a b : Arm) → (t.place ≡ place) × (t.arm ≡ a) →
      (u.place ≡ other) × (u.arm ≡ b) → Before t u → (a.deadline < b.deadline) ⊎ ((a.deadline ≡ b.deadline) × (place < other))
  ordered t u place other a b first second before =
      subst (λ (c : Arm). (c.deadline < b.deadline) ⊎ ((c.deadline ≡ b.deadline) × (place < other))) first.1
      (subst (λ (c : Arm). (key t < c.deadline) ⊎ ((key t ≡ c.deadline) × (place < other))) second.1
      (subst (λ n. (key t < key u) ⊎ ((key t ≡ key u) × (n < other))) first.0
      (subst (λ n. (key t < key u) ⊎ ((key t ≡ key u) × (t.place < n))) second.0 before)))

same_now : (time now : ℕ) (told said : List Expiry) (reply : WorkReply) → Now now said ≡ reply → reply ≡ Now time told →
    (time ≡ now) × (told ≡ said)
same_now time now told said reply one other = (cc, cc)

pub expire_in_order : OfEach ExpireInOrder
expire_in_order = at_each_in OneIsLive one_live_arm _ (λ s e one is ticks time told op reply.
    let said : List Expiry = expiries s.marks s.queues (due (s.time + ticks) s.arms) s.admissions in
    let both = same_now time (s.time + ticks) told said e.reply
    (same_Some (announce_reply s ticks) e.reply (ap (work_reply s e.who) (sym op) ∙ is)) reply in (
      both.0 ∙ ap (λ (o : WorkOp). (work_next s e.who o).time) (sym op),
      in-order s time told one (both.1 ∙ ap (λ t. expiries s.marks s.queues (due t s.arms) s.admissions) (sym both.0)),
    ))

-- In what order their admissions are numbered.

-- a submission that is admitted has the next number
number-next : (i : Item) (queues : List Queue) (caller named : Option ℕ) (n : ℕ) →
    told_number (submission i queues caller named) ≡ Some n → n ≡ i.next
number-next i queues caller named n = by (submission i queues caller named) (says i queues caller named) where
  by : (answer : Submitted) → Says i queues caller named answer → told_number answer ≡ Some n → n ≡ i.next
  by Already so is = absurd (cc)
  by (Fresh m queue) so is = sym (same_Some m n is) ∙ so.0
  by (Rerun m queue) so is = sym (same_Some m n is) ∙ so.0
  by (Refused cause) so is = absurd (cc)

-- and then there is one more
longer : (xs : List Admission) (item : ℕ) (answer : Submitted) → length xs ≤ length (submit xs item answer)
longer xs item Already = omega arith
longer xs item (Fresh n queue) = let long = length-append xs (waiting_one item queue ∷ []) in omega arith
longer xs item (Rerun n queue) = let long = length-append xs (waiting_one item queue ∷ []) in omega arith
longer xs item (Refused cause) = omega arith

one-longer : (xs : List Admission) (item : ℕ) (answer : Submitted) (n : ℕ) → told_number answer ≡ Some n →
    length (submit xs item answer) ≡ length xs + 1
one-longer xs item Already n is = absurd (cc)
one-longer xs item (Fresh m queue) n is = length-append xs (waiting_one item queue ∷ [])
one-longer xs item (Rerun m queue) n is = length-append xs (waiting_one item queue ∷ [])
one-longer xs item (Refused cause) n is = absurd (cc)

-- what is told of the arms that expire
module _ (marks : List ℕ) (queues : List Queue) where
  abbrev answer-of : Arm → List Admission → Submitted
  answer-of a xs = submission (item_of xs marks a.item) queues None (Some a.queue)

  -- each number is new
  number-new : (arms : List Arm) (xs : List Admission) (k n : ℕ) (x : Expiry) →
      slice_get (expiries marks queues arms xs) k ≡ Some x → told_number x.submitted ≡ Some n → length xs ≤ n
  number-new [] xs k n x at is = absurd (cc)
  number-new (a ∷ arms) xs zero n x at is =
      let x_is = same_Some (record { item = a.item; submitted = answer-of a xs }) x at in
      let next : n ≡ length xs = number-next (item_of xs marks a.item) queues None (Some a.queue) n
      (ap (λ (y : Expiry). told_number y.submitted) x_is ∙ is) in
      omega arith
  number-new (a ∷ arms) xs (suc k) n x at is =
      let rest = number-new arms (submit xs a.item (answer-of a xs)) k n x at is in
      let long = longer xs a.item (answer-of a xs) in
      omega arith

  -- and they rise
  numbers-rise : (arms : List Arm) (xs : List Admission) (k m n o : ℕ) (x y : Expiry) → k < m →
      slice_get (expiries marks queues arms xs) k ≡ Some x → slice_get (expiries marks queues arms xs) m ≡ Some y →
      told_number x.submitted ≡ Some n → told_number y.submitted ≡ Some o → n < o
  numbers-rise [] xs k m n o x y below at there first second = absurd (cc)
  numbers-rise (a ∷ arms) xs k zero n o x y below at there first second = absurd (omega arith)
  numbers-rise (a ∷ arms) xs zero (suc m) n o x y below at there first second =
      let x_is = same_Some (record { item = a.item; submitted = answer-of a xs }) x at in
      let told = ap (λ (z : Expiry). told_number z.submitted) x_is ∙ first in
      let next : n ≡ length xs = number-next (item_of xs marks a.item) queues None (Some a.queue) n told in
      let long = one-longer xs a.item (answer-of a xs) n told in
      let rest = number-new arms (submit xs a.item (answer-of a xs)) m o y there second in
      omega arith
  numbers-rise (a ∷ arms) xs (suc k) (suc m) n o x y below at there first second =
      numbers-rise arms (submit xs a.item (answer-of a xs)) k m n o x y (omega arith) at there first second

pub admitted_in_order : OfEach AdmittedInOrder
admitted_in_order = at_each _ (λ s e is ticks time number next first second told x y op reply below at there one other.
    let now = s.time + ticks in
    let said : List Expiry = expiries s.marks s.queues (due now s.arms) s.admissions in
    let both = same_now time now told said e.reply
    (same_Some (announce_reply s ticks) e.reply (ap (work_reply s e.who) (sym op) ∙ is)) reply in
    numbers-rise s.marks s.queues (due now s.arms) s.admissions number next first second x y below
    (ap (λ (l : List Expiry). slice_get l number) (sym both.1) ∙ at)
    (ap (λ (l : List Expiry). slice_get l next) (sym both.1) ∙ there) one other)
