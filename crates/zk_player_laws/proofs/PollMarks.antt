-- The marks of a poll's events, event by event.
use Rattle.std.proofs.Common.{◌<◌, ◌≡◌, ℕ, zero, suc, ◌+◌, ◌≤◌, Bool, true, false, ◌||◌, cond, is_some, Option, Some, None, option_to_list, List, [], ◌∷◌, ◌++◌, length, set, replicate, slice_get, count_by, All, refl, sym, ap, subst, ◌∙◌, arith}
use Rattle.std.specs.List.{list_any, position, position_from}
use Rattle.std.proofs.lemmas.Bool.{or_parts, or_from, both_ways}
use Rattle.std.proofs.lemmas.Iterator.Adapters.{position_from-zero}
use Rattle.std.proofs.lemmas.List.Elements.{All-nil, All-cons, All-append, All-weaker}
use Rattle.std.proofs.lemmas.List.Sums.{sum_by-append}
use Rattle.std.proofs.lemmas.Option.{same_Some}
use Rattle.zk_line.specs.declared.events.Event.{Event}
use Rattle.zk_line.specs.declared.events.Event.TheVariants.{Ignore, Sem, Msgq, Sig}
use Rattle.zk_worker.specs.declared.frames.Mark.{Mark}
use Rattle.zk_worker.specs.declared.frames.Mark.TheVariants.{Unasked, Armed}
use Rattle.zk_worker.specs.declared.steps.Spot.{Spot}
use Rattle.zk_worker.specs.declared.steps.Spot.TheVariants as spots
use Rattle.zk_worker.specs.declared.steps.Step.{Step}
use Rattle.zk_worker.specs.declared.steps.Step.TheVariants as steps
use Rattle.zk_worker.specs.Polls.{is_armed, is_ready, is_to_ask, unasked_from, watch_step, watching, is_watch, watched_from}
use Rattle.zk_player_laws.specs.PollLaws.{events_from, is_of_signal}
use Rattle.zk_worker.specs.Refs.{ref_object}

-- an event isn't asked yet
abbrev pub is_unasked : Mark → Bool
is_unasked Unasked = true
is_unasked mark = false

unasked-to_ask : (event : Event) (mark : Mark) → is_to_ask event mark ≡ true → mark ≡ Unasked
unasked-to_ask (Sem sem) Unasked is = refl
unasked-to_ask (Msgq queue) Unasked is = refl
unasked-to_ask (Sig signal) Unasked is = refl
unasked-to_ask event mark is = absurd (cc)

pub asked-not : (event : Event) (mark : Mark) → is_unasked mark ≡ false → is_to_ask event mark ≡ false
asked-not event Unasked is = absurd (cc)
asked-not Ignore mark is = refl
asked-not event mark is = refl

-- the events that are still to be asked, with their positions, counted from n
abbrev pub to_ask : ℕ → List Event → List Mark → List (ℕ × Event)
to_ask n (event ∷ events) (mark ∷ marks) = cond (is_to_ask event mark) ((n, event) ∷ to_ask (n + 1) events marks) (to_ask (n + 1) events marks)
to_ask n events marks = []

-- the first of them, and what is left once it is asked
pub record AsksNext (n : ℕ) (events : List Event) (marks : List Mark) (k i : ℕ) : Type 0 where
  pub event : Event
  pub rest : List (ℕ × Event)
  pub there : slice_get events i ≡ Some event
  pub marked : slice_get marks i ≡ Some Unasked
  pub unasked : is_to_ask event Unasked ≡ true
  pub whole : to_ask n events marks ≡ (k, event) ∷ rest
  pub next : (mark : Mark) → is_unasked mark ≡ false → to_ask n events (set marks i mark) ≡ rest

asks_next : (n : ℕ) (events : List Event) (marks : List Mark) (k : ℕ) → unasked_from n events marks ≡ Some k → (i : ℕ) × (k ≡ n + i) × AsksNext n events marks k i
asks_next n [] marks k is = absurd (cc)
asks_next n (event ∷ events) [] k is = absurd (cc)
asks_next n (event ∷ events) (mark ∷ marks) k is = by (is_to_ask event mark) refl is (asks_next (n + 1) events marks k) where
  by : (b : Bool) → is_to_ask event mark ≡ b → cond b (Some n) (unasked_from (n + 1) events marks) ≡ Some k →
      (unasked_from (n + 1) events marks ≡ Some k → (i : ℕ) × (k ≡ (n + 1) + i) × AsksNext (n + 1) events marks k i) →
      (i : ℕ) × (k ≡ n + i) × AsksNext n (event ∷ events) (mark ∷ marks) k i
  by true free found more =
      let here : n ≡ k = same_Some n k found in (
        0,
        omega arith,
        record {
          event = event;
          rest = to_ask (n + 1) events marks;
          there = refl;
          marked = ap (λ (m : Mark). Some m) (unasked-to_ask event mark free);
          unasked = ap (λ (m : Mark). is_to_ask event m) (sym (unasked-to_ask event mark free)) ∙ free;
          whole = ap (λ (b : Bool). cond b ((n, event) ∷ to_ask (n + 1) events marks) (to_ask (n + 1) events marks)) free
              ∙ ap (λ (m : ℕ). let whole : List (ℕ × Event) = (m, event) ∷ to_ask (n + 1) events marks in whole) here;
          next = λ new asked. ap (λ (b : Bool). cond b ((n, event) ∷ to_ask (n + 1) events marks) (to_ask (n + 1) events marks)) (asked-not event new asked);
        },
      )
  by false closed found more =
      let later = more found in
      let at : k ≡ (n + 1) + later.0 = later.1 in (
        suc later.0,
        omega arith,
        record {
          event = later.2.event;
          rest = later.2.rest;
          there = later.2.there;
          marked = later.2.marked;
          unasked = later.2.unasked;
          whole = ap (λ (b : Bool). cond b ((n, event) ∷ to_ask (n + 1) events marks) (to_ask (n + 1) events marks)) closed ∙ later.2.whole;
          next = λ new asked. ap (λ (b : Bool). cond b ((n, event) ∷ to_ask (n + 1) events (set marks later.0 new)) (to_ask (n + 1) events (set marks later.0 new))) closed ∙ later.2.next new asked;
        },
      )

-- the event that is asked next
pub asks_first : (events : List Event) (marks : List Mark) (k : ℕ) → unasked_from 0 events marks ≡ Some k → AsksNext 0 events marks k k
asks_first events marks k is =
    let next = asks_next 0 events marks k is in
    let at : k ≡ 0 + next.0 = next.1 in
    let same : next.0 ≡ k = omega arith in
    subst (λ (i : ℕ). AsksNext 0 events marks k i) same next.2

pub none_to_ask : (n : ℕ) (events : List Event) (marks : List Mark) → is_some (unasked_from n events marks) ≡ false → to_ask n events marks ≡ []
none_to_ask n [] marks is = refl
none_to_ask n (event ∷ events) [] is = refl
none_to_ask n (event ∷ events) (mark ∷ marks) is = by (is_to_ask event mark) is (none_to_ask (n + 1) events marks) where
  by : (b : Bool) → is_some (cond b (Some n) (unasked_from (n + 1) events marks)) ≡ false →
      (is_some (unasked_from (n + 1) events marks) ≡ false → to_ask (n + 1) events marks ≡ []) →
      cond b ((n, event) ∷ to_ask (n + 1) events marks) (to_ask (n + 1) events marks) ≡ []
  by true none more = absurd (cc)
  by false none more = more none

pub no_unasked : (n : ℕ) (events : List Event) (marks : List Mark) → to_ask n events marks ≡ [] → is_some (unasked_from n events marks) ≡ false
no_unasked n [] marks is = refl
no_unasked n (event ∷ events) [] is = refl
no_unasked n (event ∷ events) (mark ∷ marks) is = by (is_to_ask event mark) is (no_unasked (n + 1) events marks) where
  by : (b : Bool) → cond b ((n, event) ∷ to_ask (n + 1) events marks) (to_ask (n + 1) events marks) ≡ [] →
      (to_ask (n + 1) events marks ≡ [] → is_some (unasked_from (n + 1) events marks) ≡ false) →
      is_some (cond b (Some n) (unasked_from (n + 1) events marks)) ≡ false
  by true none more = absurd (cc)
  by false none more = more none

-- where none is to be asked, this one isn't
pub asked-at : (n : ℕ) (events : List Event) (marks : List Mark) (i : ℕ) (event : Event) (mark : Mark) → is_some (unasked_from n events marks) ≡ false →
    slice_get events i ≡ Some event → slice_get marks i ≡ Some mark → is_to_ask event mark ≡ false
asked-at n [] marks i event mark none there marked = absurd (cc)
asked-at n (e ∷ events) [] i event mark none there marked = absurd (cc)
asked-at n (e ∷ events) (m ∷ marks) i event mark none there marked =
    by (is_to_ask e m) refl none i there marked (λ i none there marked. asked-at (n + 1) events marks i event mark none there marked) where
      by : (b : Bool) → is_to_ask e m ≡ b → is_some (cond b (Some n) (unasked_from (n + 1) events marks)) ≡ false →
          (i : ℕ) → slice_get (e ∷ events) i ≡ Some event → slice_get (m ∷ marks) i ≡ Some mark →
          ((i : ℕ) → is_some (unasked_from (n + 1) events marks) ≡ false → slice_get events i ≡ Some event → slice_get marks i ≡ Some mark → is_to_ask event mark ≡ false) →
          is_to_ask event mark ≡ false
      by true is none i there marked more = absurd (cc)
      by false is none zero there marked more =
          ap (λ (x : Event). is_to_ask x mark) (sym (same_Some e event there)) ∙ ap (λ (x : Mark). is_to_ask e x) (sym (same_Some m mark marked)) ∙ is
      by false is none (suc i) there marked more = more i none there marked

-- a new mark of an event that isn't to be asked leaves them
pub to_ask-kept : (n : ℕ) (events : List Event) (marks : List Mark) (i : ℕ) (event : Event) (mark new : Mark) →
    slice_get events i ≡ Some event → slice_get marks i ≡ Some mark → is_to_ask event mark ≡ false → is_unasked new ≡ false →
    to_ask n events (set marks i new) ≡ to_ask n events marks
to_ask-kept n [] marks i event mark new there marked closed asked = absurd (cc)
to_ask-kept n (e ∷ events) [] i event mark new there marked closed asked = absurd (cc)
to_ask-kept n (e ∷ events) (m ∷ marks) zero event mark new there marked closed asked =
    let rest = to_ask (n + 1) events marks in
    let same : e ≡ event = same_Some e event there in
    let before : m ≡ mark = same_Some m mark marked in
    let was : is_to_ask e m ≡ false = ap (λ (x : Event). is_to_ask x m) same ∙ ap (λ (x : Mark). is_to_ask event x) before ∙ closed in
    ap (λ (b : Bool). cond b ((n, e) ∷ rest) rest) (asked-not e new asked ∙ sym was)
to_ask-kept n (e ∷ events) (m ∷ marks) (suc i) event mark new there marked closed asked =
    ap (λ (rest : List (ℕ × Event)). cond (is_to_ask e m) ((n, e) ∷ rest) rest) (to_ask-kept (n + 1) events marks i event mark new there marked closed asked)

-- at first all events that aren't ignored are to be asked
pub to_ask-fresh : (n : ℕ) (events : List Event) (m : ℕ) → length events ≤ m → to_ask n events (replicate m Unasked) ≡ events_from n events
to_ask-fresh n [] m few = refl
to_ask-fresh n (event ∷ events) zero few = absurd (omega arith)
to_ask-fresh n (Ignore ∷ events) (suc m) few = to_ask-fresh (n + 1) events m (omega arith)
to_ask-fresh n (Sem sem ∷ events) (suc m) few = ap (λ rest. (n, Sem sem) ∷ rest) (to_ask-fresh (n + 1) events m (omega arith))
to_ask-fresh n (Msgq queue ∷ events) (suc m) few = ap (λ rest. (n, Msgq queue) ∷ rest) (to_ask-fresh (n + 1) events m (omega arith))
to_ask-fresh n (Sig signal ∷ events) (suc m) few = ap (λ rest. (n, Sig signal) ∷ rest) (to_ask-fresh (n + 1) events m (omega arith))

-- where the caller is registered for an event
abbrev pub spot_for : Event → Mark → Option Spot
spot_for (Sem sem) (Armed place) = Some (spots.Sem (ref_object sem) place)
spot_for (Msgq queue) (Armed place) = Some (spots.Msgq (ref_object queue) place)
spot_for event mark = None

-- where it is registered for all of them
abbrev pub standing : List Event → List Mark → List Spot
standing (event ∷ events) (mark ∷ marks) = option_to_list (spot_for event mark) ++ standing events marks
standing events marks = []

pub count-append : {X : Type 0} (test : X → Bool) (xs ys : List X) → count_by test (xs ++ ys) ≡ count_by test xs + count_by test ys
count-append test xs ys = sum_by-append (λ x. cond (test x) 1 0) xs ys

pub standing-set : (test : Spot → Bool) (events : List Event) (marks : List Mark) (i : ℕ) (event : Event) (mark new : Mark) →
    slice_get events i ≡ Some event → slice_get marks i ≡ Some mark →
    count_by test (standing events (set marks i new)) + count_by test (option_to_list (spot_for event mark)) ≡ count_by test (standing events marks) + count_by test (option_to_list (spot_for event new))
standing-set test [] marks i event mark new there marked = absurd (cc)
standing-set test (e ∷ events) [] i event mark new there marked = absurd (cc)
standing-set test (e ∷ events) (m ∷ marks) zero event mark new there marked =
    let same : e ≡ event = same_Some e event there in
    let before : m ≡ mark = same_Some m mark marked in
    let one = count-append test (option_to_list (spot_for e new)) (standing events marks) in
    let two = count-append test (option_to_list (spot_for e m)) (standing events marks) in
    let three = ap (λ (x : Event). count_by test (option_to_list (spot_for x new))) same in
    let four = ap (λ (x : Event). count_by test (option_to_list (spot_for x m))) same in
    let five = ap (λ (x : Mark). count_by test (option_to_list (spot_for event x))) before in
    omega (arith, one, two, three, four, five)
standing-set test (e ∷ events) (m ∷ marks) (suc i) event mark new there marked =
    let one = count-append test (option_to_list (spot_for e m)) (standing events (set marks i new)) in
    let two = count-append test (option_to_list (spot_for e m)) (standing events marks) in
    let later = standing-set test events marks i event mark new there marked in
    omega (arith, one, two, later)

pub spot_for-unasked : (event : Event) → spot_for event Unasked ≡ None
spot_for-unasked Ignore = refl
spot_for-unasked (Sem sem) = refl
spot_for-unasked (Msgq queue) = refl
spot_for-unasked (Sig signal) = refl

pub standing-fresh : (events : List Event) (m : ℕ) → standing events (replicate m Unasked) ≡ []
standing-fresh [] m = refl
standing-fresh (event ∷ events) zero = refl
standing-fresh (event ∷ events) (suc m) = ap (λ o. option_to_list o ++ standing events (replicate m Unasked)) (spot_for-unasked event) ∙ standing-fresh events m

spot_for-unarmed : (event : Event) (mark : Mark) → is_armed mark ≡ false → spot_for event mark ≡ None
spot_for-unarmed event (Armed place) none = absurd (cc)
spot_for-unarmed Ignore mark none = refl
spot_for-unarmed (Sem sem) mark none = refl
spot_for-unarmed (Msgq queue) mark none = refl
spot_for-unarmed (Sig signal) mark none = refl

pub standing-none : (events : List Event) (marks : List Mark) → list_any is_armed marks ≡ false → standing events marks ≡ []
standing-none [] marks none = refl
standing-none (event ∷ events) [] none = refl
standing-none (event ∷ events) (mark ∷ marks) none =
    let both = or_parts (is_armed mark) (list_any is_armed marks) none in
    ap (λ o. option_to_list o ++ standing events marks) (spot_for-unarmed event mark both.0) ∙ standing-none events marks both.1

-- each mark of a registration is at an event that has them
abbrev pub AreKnown : List Event → List Mark → Type 0
AreKnown [] marks = list_any is_armed marks ≡ false
AreKnown (event ∷ events) [] = Unit {0}
AreKnown (event ∷ events) (mark ∷ marks) = (is_armed mark ≡ is_some (spot_for event mark)) × AreKnown events marks

none_armed-fresh : (m : ℕ) → list_any is_armed (replicate m Unasked) ≡ false
none_armed-fresh zero = refl
none_armed-fresh (suc m) = none_armed-fresh m

pub known-fresh : (events : List Event) (m : ℕ) → AreKnown events (replicate m Unasked)
known-fresh [] m = none_armed-fresh m
known-fresh (event ∷ events) zero = tt
known-fresh (event ∷ events) (suc m) = (ap (λ (o : Option Spot). is_some o) (sym (spot_for-unasked event)), known-fresh events m)

pub known-set : (events : List Event) (marks : List Mark) (i : ℕ) (event : Event) (new : Mark) → AreKnown events marks → slice_get events i ≡ Some event →
    is_armed new ≡ is_some (spot_for event new) → AreKnown events (set marks i new)
known-set [] marks i event new known there kind = absurd (cc)
known-set (e ∷ events) [] i event new known there kind = tt
known-set (e ∷ events) (m ∷ marks) zero event new known there kind =
    (kind ∙ ap (λ (x : Event). is_some (spot_for x new)) (sym (same_Some e event there)), known.1)
known-set (e ∷ events) (m ∷ marks) (suc i) event new known there kind = (known.0, known-set events marks i event new known.1 there kind)

none-is : {X : Type 0} (o : Option X) (xs : List X) → option_to_list o ++ xs ≡ [] → (is_some o ≡ false) × (xs ≡ [])
none-is None xs is = (refl, is)
none-is (Some x) xs is = absurd (cc)

-- where nothing stands registered, no mark says so
pub known-none : (events : List Event) (marks : List Mark) → AreKnown events marks → standing events marks ≡ [] → list_any is_armed marks ≡ false
known-none [] marks known none = known
known-none (event ∷ events) [] known none = refl
known-none (event ∷ events) (mark ∷ marks) known none =
    let both = none-is (spot_for event mark) (standing events marks) none in
    or_from (is_armed mark) (list_any is_armed marks) (known.0 ∙ both.0) (known-none events marks known.1 both.1)

-- the caller is registered there for this event
pub record Standing (events : List Event) (marks : List Mark) (spot : Spot) (k : ℕ) : Type 0 where
  pub event : Event
  pub mark : Mark
  pub there : slice_get events k ≡ Some event
  pub marked : slice_get marks k ≡ Some mark
  pub is : spot_for event mark ≡ Some spot

count-one : (test : Spot → Bool) (spot : Spot) → test spot ≡ true → 0 < count_by test (spot ∷ [])
count-one test spot is = let one = ap {B = ℕ} (λ (b : Bool). cond b 1 0) is in omega (arith, one)

-- what stands is counted
pub standing-counts : (test : Spot → Bool) (events : List Event) (marks : List Mark) (k : ℕ) (event : Event) (mark : Mark) (spot : Spot) → slice_get events k ≡ Some event →
    slice_get marks k ≡ Some mark → spot_for event mark ≡ Some spot → test spot ≡ true → 0 < count_by test (standing events marks)
standing-counts test [] marks k event mark spot there marked is passes = absurd (cc)
standing-counts test (e ∷ events) [] k event mark spot there marked is passes = absurd (cc)
standing-counts test (e ∷ events) (m ∷ marks) zero event mark spot there marked is passes =
    let same : spot_for e m ≡ Some spot = ap (λ (x : Event). spot_for x m) (same_Some e event there) ∙ ap (λ (x : Mark). spot_for event x) (same_Some m mark marked) ∙ is in
    let both = count-append test (option_to_list (spot_for e m)) (standing events marks) in
    let here = ap (λ (o : Option Spot). count_by test (option_to_list o)) same in
    let one = count-one test spot passes in
    omega (arith, both, here, one)
standing-counts test (e ∷ events) (m ∷ marks) (suc k) event mark spot there marked is passes =
    let both = count-append test (option_to_list (spot_for e m)) (standing events marks) in
    let later = standing-counts test events marks k event mark spot there marked is passes in
    omega (arith, both, later)

pub some-is : {X : Type 0} (o : Option X) → is_some o ≡ true → (x : X) × (o ≡ Some x)
some-is None is = absurd (cc)
some-is (Some x) is = (x, refl)

none_armed-at : (marks : List Mark) (k : ℕ) (mark : Mark) → list_any is_armed marks ≡ false → slice_get marks k ≡ Some mark → is_armed mark ≡ false
none_armed-at [] k mark none marked = absurd (cc)
none_armed-at (m ∷ marks) zero mark none marked = ap is_armed (sym (same_Some m mark marked)) ∙ (or_parts (is_armed m) (list_any is_armed marks) none).0
none_armed-at (m ∷ marks) (suc k) mark none marked = none_armed-at marks k mark (or_parts (is_armed m) (list_any is_armed marks) none).1 marked

pub known-at : (events : List Event) (marks : List Mark) (k : ℕ) (mark : Mark) → AreKnown events marks → slice_get marks k ≡ Some mark → is_armed mark ≡ true →
    (spot : Spot) × Standing events marks spot k
known-at [] marks k mark known marked armed = absurd (both_ways (is_armed mark) (none_armed-at marks k mark known marked) armed)
known-at (event ∷ events) [] k mark known marked armed = absurd (cc)
known-at (event ∷ events) (m ∷ marks) zero mark known marked armed =
    let same : m ≡ mark = same_Some m mark marked in
    let at = some-is (spot_for event m) (sym known.0 ∙ ap is_armed same ∙ armed) in
    (at.0, record { event = event; mark = m; there = refl; marked = refl; is = at.1 })
known-at (event ∷ events) (m ∷ marks) (suc k) mark known marked armed =
    let later = known-at events marks k mark known.1 marked armed in
    (later.0, record { event = later.1.event; mark = later.1.mark; there = later.1.there; marked = later.1.marked; is = later.1.is })

-- the first mark of a registration, counted from n
armed-from : (n : ℕ) (marks : List Mark) → list_any is_armed marks ≡ true →
    (i : ℕ) × (mark : Mark) × (position_from is_armed n marks ≡ Some (n + i)) × (slice_get marks i ≡ Some mark) × (is_armed mark ≡ true)
armed-from n [] some = absurd (cc)
armed-from n (m ∷ marks) some = by (is_armed m) refl some (armed-from (n + 1) marks) where
  by : (b : Bool) → is_armed m ≡ b → (b || list_any is_armed marks) ≡ true →
      (list_any is_armed marks ≡ true → (i : ℕ) × (mark : Mark) × (position_from is_armed (n + 1) marks ≡ Some ((n + 1) + i)) × (slice_get marks i ≡ Some mark) × (is_armed mark ≡ true)) →
      (i : ℕ) × (mark : Mark) × (position_from is_armed n (m ∷ marks) ≡ Some (n + i)) × (slice_get (m ∷ marks) i ≡ Some mark) × (is_armed mark ≡ true)
  by true here some more =
      (0, m, ap (λ (b : Bool). cond b (Some n) (position_from is_armed (n + 1) marks)) here ∙ ap (λ (k : ℕ). Some k) (omega arith), refl, here)
  by false past some more =
      let later = more some in
      (suc later.0, later.1, ap (λ (b : Bool). cond b (Some n) (position_from is_armed (n + 1) marks)) past ∙ later.2 ∙ ap (λ (k : ℕ). Some k) (omega arith), later.3, later.4)

pub first_armed : (marks : List Mark) → list_any is_armed marks ≡ true → (k : ℕ) × (mark : Mark) × (position is_armed marks ≡ Some k) × (slice_get marks k ≡ Some mark) × (is_armed mark ≡ true)
first_armed marks some =
    let at = armed-from 0 marks some in
    (at.0, at.1, position_from-zero is_armed marks ∙ at.2 ∙ ap (λ (k : ℕ). Some k) (omega arith), at.3, at.4)

-- whether some event is ready, after a new mark of one that isn't
pub any_ready-set : (marks : List Mark) (i : ℕ) (mark new : Mark) → slice_get marks i ≡ Some mark → is_ready mark ≡ false →
    list_any is_ready (set marks i new) ≡ (is_ready new || list_any is_ready marks)
any_ready-set [] i mark new marked unready = absurd (cc)
any_ready-set (m ∷ marks) zero mark new marked unready =
    let was : is_ready m ≡ false = ap is_ready (same_Some m mark marked) ∙ unready in
    ap (λ (c : Bool). is_ready new || (c || list_any is_ready marks)) (sym was)
any_ready-set (m ∷ marks) (suc i) mark new marked unready =
    ap (λ b. is_ready m || b) (any_ready-set marks i mark new marked unready) ∙ by (is_ready m) (is_ready new) where
      by : (b c : Bool) → (b || (c || list_any is_ready marks)) ≡ (c || (b || list_any is_ready marks))
      by true true = refl
      by true false = refl
      by false c = refl

pub none_ready-at : (marks : List Mark) (i : ℕ) (mark : Mark) → list_any is_ready marks ≡ false → slice_get marks i ≡ Some mark → is_ready mark ≡ false
none_ready-at [] i mark none marked = absurd (cc)
none_ready-at (m ∷ marks) zero mark none marked = let both = or_parts (is_ready m) (list_any is_ready marks) none in ap is_ready (sym (same_Some m mark marked)) ∙ both.0
none_ready-at (m ∷ marks) (suc i) mark none marked = let both = or_parts (is_ready m) (list_any is_ready marks) none in none_ready-at marks i mark both.1 marked

-- an attempt that waits for an event
pub record WatchOf (events : List Event) (marks : List Mark) (step : Step) : Type 0 where
  pub i : ℕ
  pub event : Event
  pub mark : Mark
  pub there : slice_get events i ≡ Some event
  pub marked : slice_get marks i ≡ Some mark
  pub is : watch_step event mark ≡ Some step

pub watching-each : (events : List Event) (marks : List Mark) → All (WatchOf events marks) (watching events marks)
watching-each [] marks = All-nil (WatchOf [] marks)
watching-each (event ∷ events) [] = All-nil (WatchOf (event ∷ events) [])
watching-each (event ∷ events) (mark ∷ marks) =
    let P = WatchOf (event ∷ events) (mark ∷ marks) in
    let later : (step : Step) → WatchOf events marks step → P step = λ step of. record { i = suc of.i; event = of.event; mark = of.mark; there = of.there; marked = of.marked; is = of.is } in
    All-append P (option_to_list (watch_step event mark)) (watching events marks)
    (here {P = P} (watch_step event mark) (λ step is. record { i = 0; event = event; mark = mark; there = refl; marked = refl; is = is }))
    (All-weaker (WatchOf events marks) P later (watching events marks) (watching-each events marks)) where
      here : {P : Step → Type 0} (o : Option Step) → ((step : Step) → o ≡ Some step → P step) → All P (option_to_list o)
      here {P} None each = All-nil P
      here {P} (Some step) each = All-cons P step [] (each step refl) (All-nil P)

-- the first event that a step waits for
pub record Watched (n : ℕ) (made : Step) (events : List Event) (marks : List Mark) : Type 0 where
  pub i : ℕ
  pub event : Event
  pub mark : Mark
  pub found : watched_from n made events marks ≡ Some (n + i)
  pub there : slice_get events i ≡ Some event
  pub marked : slice_get marks i ≡ Some mark
  pub is : is_watch made event mark ≡ true

pub watched : (n : ℕ) (made : Step) (events : List Event) (marks : List Mark) (i : ℕ) (event : Event) (mark : Mark) →
    slice_get events i ≡ Some event → slice_get marks i ≡ Some mark → is_watch made event mark ≡ true → Watched n made events marks
watched n made [] marks i event mark there marked is = absurd (cc)
watched n made (e ∷ events) [] i event mark there marked is = absurd (cc)
watched n made (e ∷ events) (m ∷ marks) i event mark there marked is =
    by (is_watch made e m) refl i there marked (λ i there marked. watched (n + 1) made events marks i event mark there marked is) where
      by : (b : Bool) → is_watch made e m ≡ b → (i : ℕ) → slice_get (e ∷ events) i ≡ Some event → slice_get (m ∷ marks) i ≡ Some mark →
          ((i : ℕ) → slice_get events i ≡ Some event → slice_get marks i ≡ Some mark → Watched (n + 1) made events marks) → Watched n made (e ∷ events) (m ∷ marks)
      by true first i there marked more = record {
        i = 0;
        event = e;
        mark = m;
        found = ap (λ (b : Bool). cond b (Some n) (watched_from (n + 1) made events marks)) first ∙ ap (λ (k : ℕ). Some k) (omega arith);
        there = refl;
        marked = refl;
        is = first;
      }
      by false past zero there marked more = absurd (cc (is, past, ap (λ (x : Event). is_watch made x m) (same_Some e event there), ap (λ (x : Mark). is_watch made event x) (same_Some m mark marked)))
      by false past (suc i) there marked more =
          let later = more i there marked in
          record {
            i = suc later.i;
            event = later.event;
            mark = later.mark;
            found = ap (λ (b : Bool). cond b (Some n) (watched_from (n + 1) made events marks)) past ∙ later.found ∙ ap (λ (k : ℕ). Some k) (omega arith);
            there = later.there;
            marked = later.marked;
            is = later.is;
          }

look-watch : (object : ℕ) (must : Bool) (event : Event) (mark : Mark) → is_watch (steps.LookSignal object must) event mark ≡ is_of_signal object event
look-watch object must Ignore mark = refl
look-watch object must (Sem sem) mark = refl
look-watch object must (Msgq queue) mark = refl
look-watch object must (Sig signal) mark = refl

-- a look that waits is for the first event of its signal
pub watched-look : (n object : ℕ) (must : Bool) (events : List Event) (marks : List Mark) → length events ≤ length marks →
    watched_from n (steps.LookSignal object must) events marks ≡ position_from (is_of_signal object) n events
watched-look n object must [] marks long = refl
watched-look n object must (event ∷ events) [] long = absurd (omega arith)
watched-look n object must (event ∷ events) (mark ∷ marks) long =
    ap (λ (b : Bool). cond b (Some n) (watched_from (n + 1) (steps.LookSignal object must) events marks)) (look-watch object must event mark)
    ∙ ap (λ (o : Option ℕ). cond (is_of_signal object event) (Some n) o) (watched-look (n + 1) object must events marks (omega arith))

pub position-look : (object : ℕ) (must : Bool) (events : List Event) (marks : List Mark) → length events ≤ length marks →
    position (is_of_signal object) events ≡ watched_from 0 (steps.LookSignal object must) events marks
position-look object must events marks long = position_from-zero (is_of_signal object) events ∙ sym (watched-look 0 object must events marks long)

-- the clock's steps wait for no event
pub watched-clock : (n : ℕ) (made : Step) (events : List Event) (marks : List Mark) → ((event : Event) (mark : Mark) → is_watch made event mark ≡ false) → watched_from n made events marks ≡ None
watched-clock n made [] marks never = refl
watched-clock n made (event ∷ events) [] never = refl
watched-clock n made (event ∷ events) (mark ∷ marks) never =
    ap (λ (b : Bool). cond b (Some n) (watched_from (n + 1) made events marks)) (never event mark) ∙ watched-clock (n + 1) made events marks never
