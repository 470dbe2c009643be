-- In each part of a text the lines of a player rise in step, where each history does and no step has two lines.
use Rattle.std.proofs.Common.{◌≡◌, ◌⊎◌, ℕ, zero, suc, ◌+◌, ◌<◌, ◌≤◌, Bool, true, false, ◌&&◌, eqb, Some, List, [], ◌∷◌, ◌++◌, length, map, All, refl, sym, ap, subst, ◌∙◌, inl, inr, arith}
use Rattle.std.specs.List.{AllByRecursion, filter, slice_get}
use Rattle.std.proofs.lemmas.Bool.{true≢false, false≢true, and_from, cases_lt, eq-eqb, eqb-true}
use Rattle.std.proofs.lemmas.List.Elements.{All-nil, All-cons, All-head, All-tail, All-from_recursion, recursion_from_All}
use Rattle.zk_base.specs.declared.ids.Entry.{Entry}
use Rattle.zk_base.specs.History.{Rises}
use Rattle.zk_scenario.specs.Content.{Content}
use Rattle.zk_worker.specs.declared.steps.Spot.{Spot}
use Rattle.zk_worker.specs.declared.steps.Spot.TheVariants as spots
use Rattle.zk_worker.specs.Shown.{is_look}
use Rattle.zk_trace.specs.declared.looks.ItemLook.{ItemLook}
use Rattle.zk_trace.specs.declared.looks.SignalLook.{SignalLook}
use Rattle.zk_trace.specs.declared.stood.Family.{Family}
use Rattle.zk_trace.specs.declared.stood.Family.TheVariants as families
use Rattle.zk_trace.specs.declared.stood.Home.{Home}
use Rattle.zk_trace.specs.declared.stood.Home.TheVariants as homes
use Rattle.zk_trace.specs.declared.stood.Stood.{Stood}
use Rattle.zk_trace.specs.declared.trace.Trace.{Trace}
use Rattle.zk_trace.specs.Form.{IsInForm}
use Rattle.zk_trace.specs.Place.{EachRises}
use Rattle.zk_trace.specs.Stood.{spot_in, spot_at, is_of, entries_stood, histories_stood, item_look_stood, signal_look_stood, signals_stood, stood}
use Rattle.zk_trace.specs.Text.{looks_at}
use Rattle.zk_trace.proofs.LinesOnce.{part_of, home_part, home-part, entries-each, histories-each, mapped-each, signals-each, filter-both}
use Rattle.zk_trace.proofs.LooksFit.{all-append}
use Rattle.zk_failures.specs.First.{HoldsNowhere}
use Rattle.zk_failures.specs.PlaceFailure.{same_part, IsMisplaced}
use Rattle.zk_failures.proofs.PlacedLater.{Later, later-front, later-back, later-join, later-from, later-at, later-both, later-map, later-unmap}
use Rattle.zk_failures.proofs.PlacedLists.{each-in, each-of, each-weaker, two-pass}
use Rattle.zk_failures.proofs.PlacedLooks.{stand-steps, ItemNotBelow, items-later, LookNotBelow, signal-later}
use Rattle.zk_failures.proofs.PlacedNumbers.{key-once}
use Rattle.zk_failures.proofs.PlacedRows.{entry_line, works, items, clocks, tables, sems, msgqs, signals, chans, observers, upto_items, upto_clocks, upto_tables, upto_sems, upto_msgqs, upto_signals, upto_chans}
use Rattle.zk_failures.proofs.PlacedSteps.{step_in, own, AreNumbered, players-known}

-- of a player and a part the second line has the higher step
abbrev pub Rising : Stood → Stood → Type 0
Rising x y = x.player ≡ y.player → same_part x.spot y.spot ≡ true → x.step < y.step

-- they aren't of one step
abbrev pub Distinct : Stood → Stood → Type 0
Distinct x y = x.player ≡ y.player → x.step ≡ y.step → ⊥

-- By the lines that can't stand where they do.

-- where there are none, the lines of a player and a part rise
pub rise-nowhere : (lines : List Stood) → HoldsNowhere (IsMisplaced lines) → Later Rising lines
rise-nowhere lines nowhere = later-from Rising lines (λ i j x y below at_x at_y same part. by i j x y below at_x at_y same part (cases_lt x.step y.step)) where
  by : (i j : ℕ) (x y : Stood) → i < j → slice_get lines i ≡ Some x → slice_get lines j ≡ Some y → x.player ≡ y.player → same_part x.spot y.spot ≡ true → ((x.step < y.step) ⊎ (y.step ≤ x.step)) → x.step < y.step
  by i j x y below at_x at_y same part (inl lower) = lower
  by i j x y below at_x at_y same part (inr above) =
      absurd (nowhere j (record { line = y; there = at_y; before = i; earlier = x; lower = below; stands = at_x; behind = (same, inr (part, above)) }))

-- and where they rise and are distinct, there are none
pub nowhere-rise : (lines : List Stood) → Later Rising lines → Later Distinct lines → HoldsNowhere (IsMisplaced lines)
nowhere-rise lines rise distinct place is = by is.behind.1 where
  by : ((is.earlier.step ≡ is.line.step) ⊎ ((same_part is.earlier.spot is.line.spot ≡ true) × (is.line.step ≤ is.earlier.step))) → ⊥
  by (inl same) = later-at Distinct lines distinct is.before place is.earlier is.line is.lower is.stands is.there is.behind.0 same
  by (inr below) = let lower = later-at Rising lines rise is.before place is.earlier is.line is.lower is.stands is.there is.behind.0 below.0 in let most = below.1 in omega arith

-- Parts.

-- at which object a spot stands, where there are many
abbrev object_at : Spot → ℕ
object_at (spots.Sem object place) = object
object_at (spots.Msgq object place) = object
object_at (spots.Signal object place) = object
object_at (spots.LookSignal object seen) = object
object_at (spots.Chan object place) = object
object_at (spots.Obs object place) = object
object_at spot = 0

-- two spots of one part
same-part : (a b : Spot) → same_part a b ≡ true → (part_of a ≡ part_of b) × (object_at a ≡ object_at b) × (is_look a ≡ is_look b)
same-part (spots.Work p) (spots.Work q) same = (refl, refl, refl)
same-part (spots.Clock p) (spots.Clock q) same = (refl, refl, refl)
same-part (spots.Table p) (spots.Table q) same = (refl, refl, refl)
same-part (spots.Sem o p) (spots.Sem n q) same = (refl, eqb-true o n same, refl)
same-part (spots.Msgq o p) (spots.Msgq n q) same = (refl, eqb-true o n same, refl)
same-part (spots.Signal o p) (spots.Signal n q) same = (refl, eqb-true o n same, refl)
same-part (spots.Chan o p) (spots.Chan n q) same = (refl, eqb-true o n same, refl)
same-part (spots.Obs o p) (spots.Obs n q) same = (refl, eqb-true o n same, refl)
same-part (spots.LookItem item flags at) (spots.LookItem other found front) same = (refl, refl, refl)
same-part (spots.LookSignal o seen) (spots.LookSignal n found) same = (refl, eqb-true o n same, refl)
same-part a b same = absurd (false≢true same)

-- the entries of a history are of one part
home-same : (home : Home) (p q : ℕ) → same_part (spot_at home p) (spot_at home q) ≡ true
home-same homes.Work p q = refl
home-same homes.Clock p q = refl
home-same homes.Table p q = refl
home-same (homes.Object families.Sem o) p q = eq-eqb o o refl
home-same (homes.Object families.Msgq o) p q = eq-eqb o o refl
home-same (homes.Object families.Signal o) p q = eq-eqb o o refl
home-same (homes.Object families.Chan o) p q = eq-eqb o o refl
home-same (homes.Object families.Obs o) p q = eq-eqb o o refl

home-object : (family : Family) (object p : ℕ) → object_at (spot_in family object p) ≡ object
home-object families.Sem o p = refl
home-object families.Msgq o p = refl
home-object families.Signal o p = refl
home-object families.Chan o p = refl
home-object families.Obs o p = refl

-- lines of different parts stand behind one another as they may
apart : (P Q : Stood → Type 0) → ((x y : Stood) → P x → Q y → same_part x.spot y.spot ≡ true → ⊥) → (xs ys : List Stood) → AllByRecursion P xs → AllByRecursion Q ys → Later Rising xs → Later Rising ys → Later Rising (xs ++ ys)
apart P Q never xs ys first second rise more =
    later-join Rising xs ys rise more
    (each-weaker P (λ x. AllByRecursion (Rising x) ys) (λ x is. each-weaker Q (Rising x) (λ y other same part. absurd (never x y is other part)) ys second) xs first)

-- Histories: their entries rise where their lines do.

entries-back : {O R : Type 0} (P : Stood → Type 0) (Q : Entry O R → Type 0) (home : Home) → ((place : ℕ) (e : Entry O R) → P (entry_line home place e) → Q e) → (place : ℕ) (h : List (Entry O R)) →
    AllByRecursion P (entries_stood home place h) → AllByRecursion Q h
entries-back P Q home follows place [] all = tt
entries-back P Q home follows place (e ∷ es) all = (follows place e all.0, entries-back P Q home follows (place + 1) es all.1)

rises-of-lines : {O R : Type 0} (home : Home) (place : ℕ) (h : List (Entry O R)) → Later Rising (entries_stood home place h) → Rises h
rises-of-lines home place [] rise = tt
rises-of-lines {O} {R} home place (e ∷ es) rise =
    let Above : Entry O R → Type 0 = λ x. x.who.number ≡ e.who.number → e.step < x.step in (
      All-from_recursion Above es
          (entries-back (Rising (entry_line home place e)) Above home (λ p x above same. above (sym same) (home-same home place p)) (place + 1) es rise.0),
      rises-of-lines home (place + 1) es rise.1,
    )

lines-of-rises : {O R : Type 0} (home : Home) (place : ℕ) (h : List (Entry O R)) → Rises h → Later Rising (entries_stood home place h)
lines-of-rises home place [] rise = tt
lines-of-rises {O} {R} home place (e ∷ es) rise =
    let Above : Entry O R → Type 0 = λ x. x.who.number ≡ e.who.number → e.step < x.step in (
      entries-each (Rising (entry_line home place e)) home (place + 1) es (λ p x there same part. each-in Above es x (recursion_from_All Above es rise.0) (p, there) (sym same)),
      lines-of-rises home (place + 1) es rise.1,
    )

-- lines of an object, and of those from one on
abbrev IsIn : ℕ → Stood → Type 0
IsIn object l = object_at l.spot ≡ object

abbrev IsFrom : ℕ → Stood → Type 0
IsFrom object l = object ≤ object_at l.spot

other-object : (object : ℕ) (x y : Stood) → IsIn object x → IsFrom (object + 1) y → same_part x.spot y.spot ≡ true → ⊥
other-object object x y is above part = let same = (same-part x.spot y.spot part).1 in omega arith

object-in : {O R : Type 0} (family : Family) (object : ℕ) (h : List (Entry O R)) → AllByRecursion (IsIn object) (entries_stood (homes.Object family object) 0 h)
object-in family object h = entries-each (IsIn object) (homes.Object family object) 0 h (λ p e there. home-object family object (0 + p))

objects-from : {O R : Type 0} (family : Family) (object : ℕ) (hs : List (List (Entry O R))) → AllByRecursion (IsFrom object) (histories_stood family object hs)
objects-from family object hs = histories-each (IsFrom object) family object hs (λ o p e there. let is = home-object family (object + o) p in omega arith)

rises-of-histories : {O R : Type 0} (family : Family) (object : ℕ) (hs : List (List (Entry O R))) → Later Rising (histories_stood family object hs) → All Rises hs
rises-of-histories family object [] rise = All-nil Rises
rises-of-histories family object (h ∷ hs) rise =
    let first = entries_stood (homes.Object family object) 0 h in
    let rest = histories_stood family (object + 1) hs in
    All-cons Rises h hs (rises-of-lines (homes.Object family object) 0 h (later-front Rising first rest rise)) (rises-of-histories family (object + 1) hs (later-back Rising first rest rise))

histories-of-rises : {O R : Type 0} (family : Family) (object : ℕ) (hs : List (List (Entry O R))) → All Rises hs → Later Rising (histories_stood family object hs)
histories-of-rises family object [] rise = tt
histories-of-rises family object (h ∷ hs) rise =
    apart (IsIn object) (IsFrom (object + 1)) (other-object object) (entries_stood (homes.Object family object) 0 h) (histories_stood family (object + 1) hs)
    (object-in family object h) (objects-from family (object + 1) hs)
    (lines-of-rises (homes.Object family object) 0 h (All-head Rises h hs rise)) (histories-of-rises family (object + 1) hs (All-tail Rises h hs rise))

-- Signals.

rises-of-signals : {O R : Type 0} (looks : List (List SignalLook)) (object : ℕ) (hs : List (List (Entry O R))) → Later Rising (signals_stood looks object hs) → All Rises hs
rises-of-signals looks object [] rise = All-nil Rises
rises-of-signals looks object (h ∷ hs) rise =
    let writes = entries_stood (homes.Object families.Signal object) 0 h in
    let seen = map (signal_look_stood object) (looks_at looks object) in
    let rest = signals_stood looks (object + 1) hs in
    All-cons Rises h hs (rises-of-lines (homes.Object families.Signal object) 0 h (later-front Rising writes seen (later-front Rising (writes ++ seen) rest rise)))
    (rises-of-signals looks (object + 1) hs (later-back Rising (writes ++ seen) rest rise))

-- what holds among the lines of signals holds among the looks at one
later-looks-at : {O R : Type 0} (P : Stood → Stood → Type 0) (looks : List (List SignalLook)) (from : ℕ) (hs : List (List (Entry O R))) (o object : ℕ) → from + o ≡ object → o < length hs →
    Later P (signals_stood looks from hs) → Later P (map (signal_look_stood object) (looks_at looks object))
later-looks-at P looks from [] o object is within all = absurd (omega arith)
later-looks-at P looks from (h ∷ hs) zero object is within all =
    let writes = entries_stood (homes.Object families.Signal from) 0 h in
    let seen = map (signal_look_stood from) (looks_at looks from) in
    let same : from ≡ object = omega arith in
    subst (λ (n : ℕ). Later P (map (signal_look_stood n) (looks_at looks n))) same (later-back P writes seen (later-front P (writes ++ seen) (signals_stood looks (from + 1) hs) all))
later-looks-at P looks from (h ∷ hs) (suc o) object is within all =
    let writes = entries_stood (homes.Object families.Signal from) 0 h in
    let seen = map (signal_look_stood from) (looks_at looks from) in
    later-looks-at P looks (from + 1) hs o object (omega arith) (omega arith) (later-back P (writes ++ seen) (signals_stood looks (from + 1) hs) all)

module _ (looks : List (List SignalLook)) where
  abbrev IsEntry : Stood → Type 0
  IsEntry l = is_look l.spot ≡ false

  abbrev IsLook : Stood → Type 0
  IsLook l = is_look l.spot ≡ true

  entry-or-look : (x y : Stood) → IsEntry x → IsLook y → same_part x.spot y.spot ≡ true → ⊥
  entry-or-look x y entry look part = let same = (same-part x.spot y.spot part).2 in true≢false (sym look ∙ sym same ∙ entry)

  signals-from : {O R : Type 0} (object : ℕ) (hs : List (List (Entry O R))) → AllByRecursion (IsFrom object) (signals_stood looks object hs)
  signals-from object hs =
      signals-each (IsFrom object) looks object hs (λ o p e there. let it : object ≤ object + o = omega arith in it)
      (λ o within. each-of (λ (l : SignalLook). IsFrom object (signal_look_stood (object + o) l)) (λ l. let it : object ≤ object + o = omega arith in it) (looks_at looks (object + o)))

  signals-of-rises : {O R : Type 0} (from : ℕ) (hs : List (List (Entry O R))) → All Rises hs →
      ((o object : ℕ) → from + o ≡ object → o < length hs → Later Rising (map (signal_look_stood object) (looks_at looks object))) → Later Rising (signals_stood looks from hs)
  signals-of-rises from [] rise seen = tt
  signals-of-rises from (h ∷ hs) rise seen =
      let writes = entries_stood (homes.Object families.Signal from) 0 h in
      let looked = map (signal_look_stood from) (looks_at looks from) in
      let rest = signals_stood looks (from + 1) hs in
      apart (IsIn from) (IsFrom (from + 1)) (other-object from) (writes ++ looked) rest
      (all-append (IsIn from) writes looked (object-in families.Signal from h)
      (mapped-each (IsIn from) (signal_look_stood from) (looks_at looks from) (each-of (λ (l : SignalLook). IsIn from (signal_look_stood from l)) (λ l. refl) (looks_at looks from))))
      (signals-from (from + 1) hs)
      (apart IsEntry IsLook entry-or-look writes looked (entries-each IsEntry (homes.Object families.Signal from) 0 h (λ p e there. refl))
      (mapped-each IsLook (signal_look_stood from) (looks_at looks from) (each-of (λ (l : SignalLook). IsLook (signal_look_stood from l)) (λ l. refl) (looks_at looks from)))
      (lines-of-rises (homes.Object families.Signal from) 0 h (All-head Rises h hs rise)) (seen zero from (omega arith) (omega arith)))
      (signals-of-rises (from + 1) hs (All-tail Rises h hs rise) (λ o object is within. seen (suc o) object (omega arith) (omega arith)))

-- The whole.

-- each history rises where the lines do
pub rises-of-rows : (t : Trace) → Later Rising (stood t) → EachRises t
rises-of-rows t rise =
    let chan = later-front Rising (upto_chans t) (observers t) rise in
    let signal = later-front Rising (upto_signals t) (chans t) chan in
    let msgq = later-front Rising (upto_msgqs t) (signals t) signal in
    let sem = later-front Rising (upto_sems t) (msgqs t) msgq in
    let table = later-front Rising (upto_tables t) (sems t) sem in
    let clock = later-front Rising (upto_clocks t) (tables t) table in
    let item = later-front Rising (upto_items t) (clocks t) clock in
    record {
      work = rises-of-lines homes.Work 0 t.work (later-front Rising (works t) (items t) item);
      clock = rises-of-lines homes.Clock 0 t.clock (later-back Rising (upto_items t) (clocks t) clock);
      table = rises-of-lines homes.Table 0 t.table (later-back Rising (upto_clocks t) (tables t) table);
      sems = rises-of-histories families.Sem 0 t.sems (later-back Rising (upto_tables t) (sems t) sem);
      msgqs = rises-of-histories families.Msgq 0 t.msgqs (later-back Rising (upto_sems t) (msgqs t) msgq);
      signals = rises-of-signals t.looks.signals 0 t.signals (later-back Rising (upto_msgqs t) (signals t) signal);
      chans = rises-of-histories families.Chan 0 t.chans (later-back Rising (upto_signals t) (chans t) chan);
      observers = rises-of-histories families.Obs 0 t.observers (later-back Rising (upto_chans t) (observers t) rise);
    }

-- lines of the parts up to one, and of one part
abbrev IsUpTo : ℕ → Stood → Type 0
IsUpTo n l = part_of l.spot ≤ n

abbrev InPart : ℕ → Stood → Type 0
InPart n l = part_of l.spot ≡ n

-- rising lines of the parts up to one
abbrev RiseUpTo : ℕ → List Stood → Type 0
RiseUpTo n xs = AllByRecursion (IsUpTo n) xs × Later Rising xs

more-parts : (n : ℕ) (xs ys : List Stood) → RiseUpTo n xs → AllByRecursion (InPart (n + 1)) ys → Later Rising ys → RiseUpTo (n + 1) (xs ++ ys)
more-parts n xs ys front part rise = (
  all-append (IsUpTo (n + 1)) xs ys (each-weaker (IsUpTo n) (IsUpTo (n + 1)) (λ l is. omega arith) xs front.0) (each-weaker (InPart (n + 1)) (IsUpTo (n + 1)) (λ l is. omega arith) ys part),
  apart (IsUpTo n) (InPart (n + 1)) (λ x y low is same. let parts = (same-part x.spot y.spot same).0 in omega arith) xs ys front.0 part front.1 rise,
)

entries-part : {O R : Type 0} (home : Home) (h : List (Entry O R)) → AllByRecursion (InPart (home_part home)) (entries_stood home 0 h)
entries-part home h = entries-each (InPart (home_part home)) home 0 h (λ p e there. home-part home (0 + p))

family-part : {O R : Type 0} (family : Family) (n : ℕ) (hs : List (List (Entry O R))) → ((o p : ℕ) → part_of (spot_in family o p) ≡ n) → AllByRecursion (InPart n) (histories_stood family 0 hs)
family-part family n hs part = histories-each (InPart n) family 0 hs (λ o p e there. part (0 + o) p)

module _ (s : Content) (t : Trace) (form : IsInForm s t) (numbers : AreNumbered t) where
  -- where the steps are numbered, no step has two lines
  pub distinct-rows : Later Distinct (stood t)
  distinct-rows =
      later-from Distinct (stood t) (λ i j x y below at_x at_y same step.
      let test : Stood → Bool = λ l. is_of x.player l && eqb x.step l.step in
      let within : x.player < length t.logs = each-in (λ l. l.player < length t.logs) (stood t) x (players-known s t form) (i, at_x) in
      let once = key-once step_in (own t x.player) x.step (numbers x.player within) in
      let kept : filter (λ l. eqb x.step l.step) (own t x.player) ≡ filter test (stood t) = filter-both (λ l. eqb x.step l.step) (is_of x.player) (stood t) in
      let long = ap length kept in
      let two = two-pass test (stood t) i j x y below at_x at_y
      (and_from (is_of x.player x) (eqb x.step x.step) (eq-eqb x.player x.player refl) (eq-eqb x.step x.step refl))
      (and_from (is_of x.player y) (eqb x.step y.step) (eq-eqb y.player x.player (sym same)) (eq-eqb x.step y.step step)) in
      omega arith)

  -- of those that don't fall, and are distinct, the steps rise
  rise-distinct : (x y : Stood) → ((x.player ≡ y.player → x.step ≤ y.step)) → Distinct x y → Rising x y
  rise-distinct x y above distinct same part = let low = above same in let other = distinct same in omega arith

  items-rise : Later Rising (items t)
  items-rise =
      let upto = later-front Distinct (upto_items t) (clocks t) (later-front Distinct (upto_clocks t) (tables t) (later-front Distinct (upto_tables t) (sems t)
      (later-front Distinct (upto_sems t) (msgqs t) (later-front Distinct (upto_msgqs t) (signals t) (later-front Distinct (upto_signals t) (chans t) (later-front Distinct (upto_chans t) (observers t) distinct-rows)))))) in
      let distinct = later-unmap Distinct item_look_stood t.looks.items (later-back Distinct (works t) (items t) upto) in
      later-map Rising item_look_stood t.looks.items
      (later-both ItemNotBelow (λ x y. Distinct (item_look_stood x) (item_look_stood y)) (λ x y. Rising (item_look_stood x) (item_look_stood y))
      (λ x y stands apart. rise-distinct (item_look_stood x) (item_look_stood y) (stand-steps x.player x.step y.player y.step stands).1 apart) t.looks.items (items-later s t form) distinct)

  looks-rise : (object : ℕ) → object < length t.signals → Later Rising (map (signal_look_stood object) (looks_at t.looks.signals object))
  looks-rise object within =
      let ls = looks_at t.looks.signals object in
      let all = later-back Distinct (upto_msgqs t) (signals t) (later-front Distinct (upto_signals t) (chans t) (later-front Distinct (upto_chans t) (observers t) distinct-rows)) in
      let distinct = later-unmap Distinct (signal_look_stood object) ls (later-looks-at Distinct t.looks.signals 0 t.signals object object (omega arith) within all) in
      later-map Rising (signal_look_stood object) ls
      (later-both (LookNotBelow object) (λ x y. Distinct (signal_look_stood object x) (signal_look_stood object y)) (λ x y. Rising (signal_look_stood object x) (signal_look_stood object y))
      (λ x y stands apart. rise-distinct (signal_look_stood object x) (signal_look_stood object y) (stand-steps x.player x.step y.player y.step stands).1 apart) ls (signal-later object s t form) distinct)

  -- the lines rise where each history does
  pub rows-of-rises : EachRises t → Later Rising (stood t)
  rows-of-rises rise =
      let signal_part : AllByRecursion (InPart 6) (signals t) =
      signals-each (InPart 6) t.looks.signals 0 t.signals (λ o p e there. refl)
      (λ o within. each-of (λ (l : SignalLook). InPart 6 (signal_look_stood (0 + o) l)) (λ l. refl) (looks_at t.looks.signals (0 + o))) in
      let item_part : AllByRecursion (InPart 1) (items t) = mapped-each (InPart 1) item_look_stood t.looks.items (each-of (λ (l : ItemLook). InPart 1 (item_look_stood l)) (λ l. refl) t.looks.items) in
      let work : RiseUpTo 0 (works t) = (
        each-weaker (InPart 0) (IsUpTo 0) (λ l is. omega arith) (works t) (entries-part homes.Work t.work),
        lines-of-rises homes.Work 0 t.work rise.work,
      ) in
      let item = more-parts 0 (works t) (items t) work item_part items-rise in
      let clock = more-parts 1 (upto_items t) (clocks t) item (entries-part homes.Clock t.clock) (lines-of-rises homes.Clock 0 t.clock rise.clock) in
      let table = more-parts 2 (upto_clocks t) (tables t) clock (entries-part homes.Table t.table) (lines-of-rises homes.Table 0 t.table rise.table) in
      let sem = more-parts 3 (upto_tables t) (sems t) table (family-part families.Sem 4 t.sems (λ o p. refl)) (histories-of-rises families.Sem 0 t.sems rise.sems) in
      let msgq = more-parts 4 (upto_sems t) (msgqs t) sem (family-part families.Msgq 5 t.msgqs (λ o p. refl)) (histories-of-rises families.Msgq 0 t.msgqs rise.msgqs) in
      let signal = more-parts 5 (upto_msgqs t) (signals t) msgq signal_part (signals-of-rises t.looks.signals 0 t.signals rise.signals
      (λ o object is within. let same : o ≡ object = omega arith in looks-rise object (subst (λ (n : ℕ). n < length t.signals) same within))) in
      let chan = more-parts 6 (upto_signals t) (chans t) signal (family-part families.Chan 7 t.chans (λ o p. refl)) (histories-of-rises families.Chan 0 t.chans rise.chans) in
      (more-parts 7 (upto_chans t) (observers t) chan (family-part families.Obs 8 t.observers (λ o p. refl)) (histories-of-rises families.Obs 0 t.observers rise.observers)).1
