-- The live arms, as the timeout list keeps them.
use Rattle.std.proofs.Common.{◌≡◌, ℕ, zero, suc, ◌+◌, ◌<◌, ◌≤◌, Bool, true, false, not, ◌&&◌, ◌||◌, cond, eqb, ltb, leb, Some, None, is_some, option_map, List, [], ◌∷◌, ◌++◌, length, map, drop, get_or, refl, sym, ap, subst, ◌∙◌, arith}
use Rattle.std.specs.List.{filter, find, list_any, position, position_or_len}
use Rattle.std.proofs.Math.Seq.{drop-cons}
use Rattle.std.proofs.lemmas.Bool.Decides.{nat_tests}
use Rattle.std.proofs.lemmas.Bool.{leb-true}
use Rattle.zk_base.specs.Order.{put_by, by_key, Ascends}
use Rattle.zk_base.proofs.Order.{by_key-snoc, by_key-ascending, map-by_key, filter-by_key, list_any-by_key, find-by_key, length-filter_by_key, filter-upto_none}
use Rattle.zk_model_work.specs.declared.parts.Fate.TheVariants.{Live, Expired, Disarmed}
use Rattle.zk_model_work.specs.declared.parts.Arm.{Arm}
use Rattle.zk_model_work.specs.Questions.{is_live, arms_item, armed, live_arm, due}
use Rattle.zk_model_work.specs.Machine.{disarm, expire}
use Rattle.zk_model_work.specs.Questions as model
use Rattle.zk_time.specs.declared.timeout.Timeout.{Timeout}
use Rattle.zk_time.specs.Timeouts.{is_of, is_due, due_first, due_rest, Differ}
use Rattle.zk_work.specs.EngineState.{timeout_of, live_of, timeouts_of}

-- one arm more
live-snoc : (arms : List Arm) (a : Arm) → is_live a.fate ≡ true → live_of (arms ++ a ∷ []) ≡ live_of arms ++ timeout_of a ∷ []
live-snoc [] a live = ap (λ b. map timeout_of (cond b (a ∷ []) [])) live
live-snoc (x ∷ xs) a live = by (is_live x.fate) (live-snoc xs a live) where
  by : (b : Bool) → live_of (xs ++ a ∷ []) ≡ live_of xs ++ timeout_of a ∷ [] →
      map timeout_of (cond b (x ∷ filter (λ (c : Arm). is_live c.fate) (xs ++ a ∷ []))
      (filter (λ (c : Arm). is_live c.fate) (xs ++ a ∷ [])))
      ≡ map timeout_of (cond b (x ∷ filter (λ (c : Arm). is_live c.fate) xs) (filter (λ (c : Arm). is_live c.fate) xs))
      ++ timeout_of a ∷ []
  by true rest = ap (λ (l : List Timeout). timeout_of x ∷ l) rest
  by false rest = rest

pub timeouts-arm : (arms : List Arm) (item queue deadline : ℕ) →
    timeouts_of (arms ++ record { item = item; queue = queue; deadline = deadline; fate = Live } ∷ [])
    ≡ put_by (λ t. t.deadline) (record { item = item; queue = queue; deadline = deadline }) (timeouts_of arms)
timeouts-arm arms item queue deadline =
    let a : Arm = record { item = item; queue = queue; deadline = deadline; fate = Live } in
    ap (by_key (λ (t : Timeout). t.deadline)) (live-snoc arms a refl)
    ∙ by_key-snoc (λ (t : Timeout). t.deadline) (live_of arms) (timeout_of a)

-- without those of an item
live-disarm : (arms : List Arm) (item : ℕ) → live_of (disarm arms item) ≡ filter (λ t. not (is_of item t)) (live_of arms)
live-disarm [] item = refl
live-disarm (x ∷ xs) item = by (eqb x.item item) (is_live x.fate) refl refl (live-disarm xs item) where
  kept : List Timeout
  kept = filter (λ (t : Timeout). not (is_of item t)) (live_of xs)

  rest : List Arm
  rest = filter (λ (c : Arm). is_live c.fate) (disarm xs item)

  behind : (b : Bool) → eqb x.item item ≡ b →
      filter (λ (t : Timeout). not (is_of item t)) (timeout_of x ∷ live_of xs) ≡ cond (not b) (timeout_of x ∷ kept) kept
  behind b is = ap (λ c. cond (not c) (timeout_of x ∷ kept) kept) is

  by : (i b : Bool) → eqb x.item item ≡ i → is_live x.fate ≡ b → map timeout_of rest ≡ kept →
      map timeout_of (cond (is_live (cond (i && b) (record x { fate = Disarmed }) x).fate)
      (cond (i && b) (record x { fate = Disarmed }) x ∷ rest) rest)
      ≡ filter (λ (t : Timeout). not (is_of item t))
      (map timeout_of (cond b (x ∷ filter (λ (c : Arm). is_live c.fate) xs) (filter (λ (c : Arm). is_live c.fate) xs)))
  by true true is live so = so ∙ sym (behind true is)
  by false true is live so = ap (λ c. map timeout_of (cond c (x ∷ rest) rest)) live
      ∙ ap (λ (l : List Timeout). timeout_of x ∷ l) so ∙ sym (behind false is)
  by true false is live so = ap (λ c. map timeout_of (cond c (x ∷ rest) rest)) live ∙ so
  by false false is live so = ap (λ c. map timeout_of (cond c (x ∷ rest) rest)) live ∙ so

pub timeouts-disarm : (arms : List Arm) (item : ℕ) →
    timeouts_of (disarm arms item) ≡ filter (λ t. not (is_of item t)) (timeouts_of arms)
timeouts-disarm arms item =
    ap (by_key (λ (t : Timeout). t.deadline)) (live-disarm arms item)
    ∙ sym (filter-by_key (λ (t : Timeout). not (is_of item t)) (λ (t : Timeout). t.deadline) (live_of arms))

-- without those that are due
live-expire : (arms : List Arm) (time : ℕ) → live_of (expire arms time) ≡ filter (λ t. not (is_due time t)) (live_of arms)
live-expire [] time = refl
live-expire (x ∷ xs) time = by (is_live x.fate) (leb x.deadline time) refl refl (live-expire xs time) where
  kept : List Timeout
  kept = filter (λ (t : Timeout). not (is_due time t)) (live_of xs)

  rest : List Arm
  rest = filter (λ (c : Arm). is_live c.fate) (expire xs time)

  behind : (b : Bool) → leb x.deadline time ≡ b →
      filter (λ (t : Timeout). not (is_due time t)) (timeout_of x ∷ live_of xs) ≡ cond (not b) (timeout_of x ∷ kept) kept
  behind b is = ap (λ c. cond (not c) (timeout_of x ∷ kept) kept) is

  by : (b d : Bool) → is_live x.fate ≡ b → leb x.deadline time ≡ d → map timeout_of rest ≡ kept →
      map timeout_of (cond (is_live (cond (b && d) (record x { fate = Expired }) x).fate)
      (cond (b && d) (record x { fate = Expired }) x ∷ rest) rest)
      ≡ filter (λ (t : Timeout). not (is_due time t))
      (map timeout_of (cond b (x ∷ filter (λ (c : Arm). is_live c.fate) xs) (filter (λ (c : Arm). is_live c.fate) xs)))
  by true true live is so = so ∙ sym (behind true is)
  by true false live is so = ap (λ c. map timeout_of (cond c (x ∷ rest) rest)) live
      ∙ ap (λ (l : List Timeout). timeout_of x ∷ l) so ∙ sym (behind false is)
  by false d live is so = ap (λ c. map timeout_of (cond c (x ∷ rest) rest)) live ∙ so

pub timeouts-expire : (arms : List Arm) (time : ℕ) →
    timeouts_of (expire arms time) ≡ filter (λ t. not (is_due time t)) (timeouts_of arms)
timeouts-expire arms time =
    ap (by_key (λ (t : Timeout). t.deadline)) (live-expire arms time)
    ∙ sym (filter-by_key (λ (t : Timeout). not (is_due time t)) (λ (t : Timeout). t.deadline) (live_of arms))

-- those that are due
live-due : (arms : List Arm) (time : ℕ) → map timeout_of (filter (model.is_due time) arms) ≡ filter (is_due time) (live_of arms)
live-due [] time = refl
live-due (x ∷ xs) time = by (is_live x.fate) (live-due xs time) where
  rest : List Arm
  rest = filter (model.is_due time) xs

  both : (d : Bool) → map timeout_of rest ≡ filter (is_due time) (live_of xs) →
      map timeout_of (cond d (x ∷ rest) rest) ≡ cond d (timeout_of x ∷ filter (is_due time) (live_of xs))
      (filter (is_due time) (live_of xs))
  both true so = ap (λ (l : List Timeout). timeout_of x ∷ l) so
  both false so = so

  by : (b : Bool) → map timeout_of rest ≡ filter (is_due time) (live_of xs) →
      map timeout_of (cond (b && leb x.deadline time) (x ∷ rest) rest)
      ≡ filter (is_due time)
      (map timeout_of (cond b (x ∷ filter (λ (c : Arm). is_live c.fate) xs) (filter (λ (c : Arm). is_live c.fate) xs)))
  by true so = both (leb x.deadline time) so
  by false so = so

pub timeouts-due : (arms : List Arm) (time : ℕ) → map timeout_of (due time arms) ≡ filter (is_due time) (timeouts_of arms)
timeouts-due arms time =
    map-by_key timeout_of (λ (t : Timeout). t.deadline) (filter (model.is_due time) arms)
    ∙ ap (by_key (λ (t : Timeout). t.deadline)) (live-due arms time)
    ∙ sym (filter-by_key (is_due time) (λ (t : Timeout). t.deadline) (live_of arms))

-- an item is armed alike
pub place_cases : {A : Type 0} (p : A → Bool) (xs : List A) → is_some (position p xs) ≡ list_any p xs
place_cases p [] = refl
place_cases p (x ∷ xs) = by (p x) (position_or_len p xs) (length xs) (place_cases p xs) where
  by : (b : Bool) (n long : ℕ) → is_some {T = ℕ} (cond (ltb n long) (Some n) None) ≡ list_any p xs →
      is_some {T = ℕ} (cond (ltb (cond (not b) (1 + n) 0) (suc long)) (Some (cond (not b) (1 + n) 0)) None) ≡ (b || list_any p xs)
  by true n long so = zero_there long where
    zero_there : (long : ℕ) → is_some {T = ℕ} (cond (ltb 0 (suc long)) (Some 0) None) ≡ true
    zero_there long = grind (arith, nat_tests)
  by false n long so = next n long ∙ so where
    next : (n long : ℕ) →
        is_some {T = ℕ} (cond (ltb (1 + n) (suc long)) (Some (1 + n)) None) ≡ is_some {T = ℕ} (cond (ltb n long) (Some n) None)
    next n long = grind (arith, nat_tests)

any-live : (arms : List Arm) (item : ℕ) → list_any (is_of item) (live_of arms) ≡ list_any (arms_item item) arms
any-live [] item = refl
any-live (x ∷ xs) item = by (is_live x.fate) (any-live xs item) where
  and-true : (c : Bool) → c ≡ (c && true)
  and-true true = refl
  and-true false = refl

  and-false : (c : Bool) → (c && false) ≡ false
  and-false true = refl
  and-false false = refl

  by : (b : Bool) → list_any (is_of item) (live_of xs) ≡ list_any (arms_item item) xs →
      list_any (is_of item)
      (map timeout_of (cond b (x ∷ filter (λ (c : Arm). is_live c.fate) xs)
      (filter (λ (c : Arm). is_live c.fate) xs))) ≡ ((eqb x.item item && b) || list_any (arms_item item) xs)
  by true so = ap (λ c. eqb x.item item || c) so ∙ ap (λ c. c || list_any (arms_item item) xs) (and-true (eqb x.item item))
  by false so = so ∙ sym (ap (λ c. c || list_any (arms_item item) xs) (and-false (eqb x.item item)))

pub armed-same : (arms : List Arm) (item : ℕ) → list_any (is_of item) (timeouts_of arms) ≡ is_some (armed arms item)
armed-same arms item = list_any-by_key (is_of item) (λ (t : Timeout). t.deadline) (live_of arms) ∙ any-live arms item
    ∙ sym (place_cases (arms_item item) arms)

-- and so is what it is armed with
find-live : (arms : List Arm) (item : ℕ) → find (is_of item) (live_of arms) ≡ option_map timeout_of (live_arm arms item)
find-live [] item = refl
find-live (x ∷ xs) item = by (is_live x.fate) (find-live xs item) where
  both : (i : Bool) → find (is_of item) (live_of xs) ≡ option_map timeout_of (live_arm xs item) →
      cond i (Some (timeout_of x)) (find (is_of item) (live_of xs))
      ≡ option_map timeout_of (cond (i && true) (Some x) (live_arm xs item))
  both true so = refl
  both false so = so

  none : (i : Bool) → find (is_of item) (live_of xs) ≡ option_map timeout_of (live_arm xs item) →
      find (is_of item) (live_of xs) ≡ option_map timeout_of (cond (i && false) (Some x) (live_arm xs item))
  none true so = so
  none false so = so

  by : (b : Bool) → find (is_of item) (live_of xs) ≡ option_map timeout_of (live_arm xs item) →
      find (is_of item) (map timeout_of
      (cond b (x ∷ filter (λ (c : Arm). is_live c.fate) xs) (filter (λ (c : Arm). is_live c.fate) xs)))
      ≡ option_map timeout_of (cond (eqb x.item item && b) (Some x) (live_arm xs item))
  by true so = both (eqb x.item item) so
  by false so = none (eqb x.item item) so

-- where no item is armed twice, an item is found once
absent : (item : ℕ) (xs : List Timeout) → list_any (is_of item) xs ≡ false → filter (is_of item) xs ≡ []
absent item [] none = refl
absent item (x ∷ xs) none = by (is_of item x) none refl (absent item xs) where
  by : (b : Bool) → (b || list_any (is_of item) xs) ≡ false → is_of item x ≡ b →
      (list_any (is_of item) xs ≡ false → filter (is_of item) xs ≡ []) →
      cond (is_of item x) (x ∷ filter (is_of item) xs) (filter (is_of item) xs) ≡ []
  by true none is rest = absurd (cc)
  by false none is rest = ap (λ c. cond c (x ∷ filter (is_of item) xs) (filter (is_of item) xs)) is ∙ rest none

once : (item : ℕ) (xs : List Timeout) → Differ xs → length (filter (is_of item) xs) ≤ 1
once item [] differ = omega arith
once item (x ∷ xs) differ = by (is_of item x) refl (once item xs differ.1) where
  by : (b : Bool) → is_of item x ≡ b → length (filter (is_of item) xs) ≤ 1 →
      length (cond (is_of item x) (x ∷ filter (is_of item) xs) (filter (is_of item) xs)) ≤ 1
  by true is rest =
      let same : x.item ≡ item = Rattle.std.proofs.lemmas.Bool.eqb-true x.item item is in
      let none : filter (is_of item) xs ≡ [] = absent item xs (subst (λ i. list_any (is_of i) xs ≡ false) same differ.0) in
      let long : length (cond (is_of item x) (x ∷ filter (is_of item) xs) (filter (is_of item) xs)) ≡ 1 =
      ap (λ b. length (cond b (x ∷ filter (is_of item) xs) (filter (is_of item) xs))) is
      ∙ ap (λ (l : List Timeout). suc (length l)) none in
      omega arith
  by false is rest =
      let long : length (cond (is_of item x) (x ∷ filter (is_of item) xs) (filter (is_of item) xs))
      ≡ length (filter (is_of item) xs) =
      ap (λ b. length (cond b (x ∷ filter (is_of item) xs) (filter (is_of item) xs))) is in
      omega arith

pub found-same : (arms : List Arm) (item : ℕ) → Differ (timeouts_of arms) →
    find (is_of item) (timeouts_of arms) ≡ option_map timeout_of (live_arm arms item)
found-same arms item differ =
    let most = once item (timeouts_of arms) differ in
    let long = length-filter_by_key (is_of item) (λ (t : Timeout). t.deadline) (live_of arms) in
    find-by_key (is_of item) (λ (t : Timeout). t.deadline) (live_of arms) (omega arith) ∙ find-live arms item

-- the arms of these timeouts
abbrev pub arm_for : Timeout → Arm
arm_for t = record { item = t.item; queue = t.queue; deadline = t.deadline; fate = Live }

live-for : (ts : List Timeout) → live_of (map arm_for ts) ≡ ts
live-for [] = refl
live-for (t ∷ ts) = ap (λ (l : List Timeout). t ∷ l) (live-for ts)

pub timeouts-for : (ts : List Timeout) → Ascends (λ t. t.deadline) ts → timeouts_of (map arm_for ts) ≡ ts
timeouts-for ts ascends = ap (by_key (λ (t : Timeout). t.deadline)) (live-for ts)
    ∙ by_key-ascending (λ (t : Timeout). t.deadline) ts ascends

-- the timeouts that are due stand in front
above : (a b : ℕ) → leb a b ≡ false → b < a
above a b is = grind (arith, nat_tests)

pub front-due : (time : ℕ) (ts : List Timeout) (n : ℕ) (d : Timeout) → Ascends (λ t. t.deadline) ts →
    n < length (filter (is_due time) ts) →
    (n < length ts) × (is_due time (get_or ts n d) ≡ true) × (get_or (filter (is_due time) ts) n d ≡ get_or ts n d)
front-due time [] n d ascends within = absurd (omega arith)
front-due time (t ∷ ts) n d ascends within =
    by (is_due time t) refl n within (λ m inside. front-due time ts m d ascends.1 inside) where
      front : List Timeout
      front = filter (is_due time) ts

      by : (b : Bool) → is_due time t ≡ b → (n : ℕ) →
          n < length (cond (is_due time t) (t ∷ filter (is_due time) ts) (filter (is_due time) ts)) →
          ((m : ℕ) → m < length (filter (is_due time) ts) → (m < length ts) × (is_due time (get_or ts m d) ≡ true)
          × (get_or (filter (is_due time) ts) m d ≡ get_or ts m d)) →
          (n < length (t ∷ ts)) × (is_due time (get_or (t ∷ ts) n d) ≡ true)
          × (get_or (cond (is_due time t) (t ∷ filter (is_due time) ts) (filter (is_due time) ts)) n d ≡ get_or (t ∷ ts) n d)
      by true is zero within further =
          (omega arith, is, ap (λ b. get_or (cond b (t ∷ filter (is_due time) ts) (filter (is_due time) ts)) 0 d) is)
      by true is (suc n) within further =
          let long : length (cond (is_due time t) (t ∷ filter (is_due time) ts) (filter (is_due time) ts))
          ≡ suc (length (filter (is_due time) ts)) =
          ap (λ b. length (cond b (t ∷ filter (is_due time) ts) (filter (is_due time) ts))) is in
          let rest = further n (omega arith) in
          let inside = rest.0 in (
            omega arith,
            rest.1,
            ap (λ b. get_or (cond b (t ∷ filter (is_due time) ts) (filter (is_due time) ts)) (suc n) d) is
                ∙ rest.2,
          )
      by false is n within further =
          let none : filter (is_due time) (t ∷ ts) ≡ [] =
          filter-upto_none (λ (t : Timeout). t.deadline) time t ts ascends (above t.deadline time is) in
          let long : length (filter (is_due time) (t ∷ ts)) ≡ 0 = ap length none in
          absurd (omega arith)

pub first-due : (time : ℕ) (ts : List Timeout) (n : ℕ) (d : Timeout) → Ascends (λ t. t.deadline) ts →
    n < length (filter (is_due time) ts) →
    (due_first time (drop n ts) ≡ Some (get_or ts n d)) × (due_rest time (drop n ts) ≡ drop (suc n) ts)
first-due time ts n d ascends within =
    let it = front-due time ts n d ascends within in
    let parts = drop-cons ts n d it.0 in (
      ap (due_first time) parts ∙ ap (λ b. cond b (Some (get_or ts n d)) None) it.1,
      ap (due_rest time) parts
          ∙ ap (λ b. cond b (drop (suc n) ts) (get_or ts n d ∷ drop (suc n) ts)) it.1,
    )

-- where none passes, all fail
filter-others : {A : Type 0} (p : A → Bool) (xs : List A) → filter p xs ≡ [] → filter (λ a. not (p a)) xs ≡ xs
filter-others p [] none = refl
filter-others {A} p (x ∷ xs) none = by (p x) none (filter-others p xs) where
  by : (b : Bool) → cond b (x ∷ filter p xs) (filter p xs) ≡ [] → (filter p xs ≡ [] → filter (λ a. not (p a)) xs ≡ xs) →
      cond (not b) (x ∷ filter (λ a. not (p a)) xs) (filter (λ a. not (p a)) xs) ≡ x ∷ xs
  by true none rest = absurd (cc)
  by false none rest = ap (λ (l : List A). x ∷ l) (rest none)

-- behind them stand those that aren't
pub rest-due : (time : ℕ) (ts : List Timeout) → Ascends (λ t. t.deadline) ts →
    drop (length (filter (is_due time) ts)) ts ≡ filter (λ t. not (is_due time t)) ts
rest-due time [] ascends = refl
rest-due time (t ∷ ts) ascends = by (is_due time t) refl (rest-due time ts ascends.1) where
  upto : List Timeout
  upto = filter (is_due time) ts

  past : List Timeout
  past = filter (λ (t : Timeout). not (is_due time t)) ts

  by : (b : Bool) → is_due time t ≡ b → drop (length upto) ts ≡ past →
      drop (length (cond (is_due time t) (t ∷ upto) upto)) (t ∷ ts) ≡ cond (not (is_due time t)) (t ∷ past) past
  by true is rest = ap (λ b. drop (length (cond b (t ∷ upto) upto)) (t ∷ ts)) is ∙ rest
      ∙ sym (ap (λ b. cond (not b) (t ∷ past) past) is)
  by false is rest =
      let none : filter (is_due time) (t ∷ ts) ≡ [] =
      filter-upto_none (λ (t : Timeout). t.deadline) time t ts ascends (above t.deadline time is) in
      let all = filter-others (is_due time) (t ∷ ts) none in
      ap (λ (l : List Timeout). drop (length l) (t ∷ ts)) none ∙ sym all
