-- Lines of one part have one part, and in a trace they stand together.
use Rattle.std.proofs.Common.{◌≡◌, ℕ, ◌+◌, ◌*◌, ◌<◌, ◌≤◌, true, List, [], ◌∷◌, ◌++◌, map, arith, refl, ap, subst}
use Rattle.std.specs.List.{AllByRecursion}
use Rattle.std.proofs.lemmas.Bool.{eqb-true, eq-eqb, false≢true}
use Rattle.zk_base.specs.declared.ids.Entry.{Entry}
use Rattle.zk_worker.specs.declared.steps.Spot.{Spot}
use Rattle.zk_worker.specs.declared.steps.Spot.TheVariants as spots
use Rattle.zk_trace.specs.declared.looks.ItemLook.{ItemLook}
use Rattle.zk_trace.specs.declared.looks.SignalLook.{SignalLook}
use Rattle.zk_trace.specs.declared.stood.Family.{Family}
use Rattle.zk_trace.specs.declared.stood.Family.TheVariants as families
use Rattle.zk_trace.specs.declared.stood.Home.{Home}
use Rattle.zk_trace.specs.declared.stood.Home.TheVariants as homes
use Rattle.zk_trace.specs.declared.stood.Stood.{Stood}
use Rattle.zk_trace.specs.declared.trace.Trace.{Trace}
use Rattle.zk_trace.specs.Stood.{spot_at, entries_stood, histories_stood, item_look_stood, signal_look_stood, signals_stood, stood}
use Rattle.zk_trace.specs.Text.{looks_at}
use Rattle.zk_trace.proofs.LooksFit.{all-append}
use Rattle.zk_failures.specs.declared.part.Part.{Part}
use Rattle.zk_failures.specs.declared.part.Part.TheVariants as parts
use Rattle.zk_failures.specs.Parts.{part_of, AreTogether}
use Rattle.zk_failures.specs.PlaceFailure.{same_part}
use Rattle.zk_failures.proofs.PlacedLater.{Later, later-join, later-at}
use Rattle.zk_failures.proofs.PlacedLists.{each-weaker}

-- What a part is, by two numbers: its place among the kinds of parts, and its place in its kind.

abbrev section : Part → ℕ
section parts.Work = 0
section parts.ItemLooks = 1
section parts.Clock = 2
section parts.Table = 3
section (parts.Sem object) = 4
section (parts.Msgq object) = 5
section (parts.Signal object) = 6
section (parts.SignalLooks object) = 6
section (parts.Chan object) = 7
section (parts.Obs object) = 8

abbrev sub : Part → ℕ
sub (parts.Sem object) = object
sub (parts.Msgq object) = object
sub (parts.Signal object) = 2 * object
sub (parts.SignalLooks object) = 2 * object + 1
sub (parts.Chan object) = object
sub (parts.Obs object) = object
sub part = 0

-- lines of one part have one part
pub same-part : (a b : Spot) → same_part a b ≡ true → part_of a ≡ part_of b
same-part (spots.Work place) (spots.Work other) is = refl
same-part (spots.Clock place) (spots.Clock other) is = refl
same-part (spots.Table place) (spots.Table other) is = refl
same-part (spots.Sem object place) (spots.Sem at other) is = ap parts.Sem (eqb-true object at is)
same-part (spots.Msgq object place) (spots.Msgq at other) is = ap parts.Msgq (eqb-true object at is)
same-part (spots.Signal object place) (spots.Signal at other) is = ap parts.Signal (eqb-true object at is)
same-part (spots.Chan object place) (spots.Chan at other) is = ap parts.Chan (eqb-true object at is)
same-part (spots.Obs object place) (spots.Obs at other) is = ap parts.Obs (eqb-true object at is)
same-part (spots.LookItem item flags at) (spots.LookItem other found front) is = refl
same-part (spots.LookSignal object seen) (spots.LookSignal at found) is = ap parts.SignalLooks (eqb-true object at is)
same-part spot other is = absurd (false≢true is)

same-rank : (a b : Spot) → section (part_of a) ≡ section (part_of b) → sub (part_of a) ≡ sub (part_of b) → same_part a b ≡ true
same-rank (spots.Work place) (spots.Work other) kind is = refl
same-rank (spots.Clock place) (spots.Clock other) kind is = refl
same-rank (spots.Table place) (spots.Table other) kind is = refl
same-rank (spots.Sem object place) (spots.Sem at other) kind is = eq-eqb object at is
same-rank (spots.Msgq object place) (spots.Msgq at other) kind is = eq-eqb object at is
same-rank (spots.Signal object place) (spots.Signal at other) kind is = eq-eqb object at (omega (arith, is))
same-rank (spots.Chan object place) (spots.Chan at other) kind is = eq-eqb object at is
same-rank (spots.Obs object place) (spots.Obs at other) kind is = eq-eqb object at is
same-rank (spots.LookItem item flags at) (spots.LookItem other found front) kind is = refl
same-rank (spots.LookSignal object seen) (spots.LookSignal at found) kind is = eq-eqb object at (omega (arith, is))
same-rank spot other kind is = absurd (omega (arith, kind, is))

-- and those that have one part are of one
pub part-same : (a b : Spot) → part_of a ≡ part_of b → same_part a b ≡ true
part-same a b is = same-rank a b (ap section is) (ap sub is)

-- Lines in the order of their parts.

abbrev section_of : Stood → ℕ
section_of line = section (part_of line.spot)

abbrev sub_of : Stood → ℕ
sub_of line = sub (part_of line.spot)

record NotAfter (a b : Stood) : Type 0 where
  sections : section_of a ≤ section_of b
  subs : section_of a ≡ section_of b → sub_of a ≤ sub_of b

abbrev InOrder : List Stood → Type 0
InOrder lines = Later NotAfter lines

-- a line of a kind of parts, in this part of it, or from there on
record IsIn (kind part : ℕ) (line : Stood) : Type 0 where
  section_is : section_of line ≡ kind
  sub_is : sub_of line ≡ part

record IsFrom (kind part : ℕ) (line : Stood) : Type 0 where
  section_is : section_of line ≡ kind
  sub_from : part ≤ sub_of line

cross : (P Q : Stood → Type 0) → ((x y : Stood) → P x → Q y → NotAfter x y) → (xs ys : List Stood) → AllByRecursion P xs → AllByRecursion Q ys →
    AllByRecursion (λ x. AllByRecursion (NotAfter x) ys) xs
cross P Q apart [] ys ps qs = tt
cross P Q apart (x ∷ xs) ys ps qs = (each-weaker Q (NotAfter x) (λ y q. apart x y ps.0 q) ys qs, cross P Q apart xs ys ps.1 qs)

order-one : (kind part : ℕ) (xs : List Stood) → AllByRecursion (IsIn kind part) xs → InOrder xs
order-one kind part [] all = tt
order-one kind part (x ∷ xs) all = (
  each-weaker (IsIn kind part) (NotAfter x)
      (λ y here. record { sections = omega (arith, all.0.section_is, here.section_is); subs = λ same. omega (arith, all.0.sub_is, here.sub_is) }) xs all.1,
  order-one kind part xs all.1,
)

-- lines of one part, and then those of later ones of the kind
order-kind : (kind part next : ℕ) (xs ys : List Stood) → part < next → AllByRecursion (IsIn kind part) xs → InOrder ys → AllByRecursion (IsFrom kind next) ys → InOrder (xs ++ ys)
order-kind kind part next xs ys less here over there =
    later-join NotAfter xs ys (order-one kind part xs here) over
    (cross (IsIn kind part) (IsFrom kind next)
    (λ x y is from. record { sections = omega (arith, is.section_is, from.section_is); subs = λ same. omega (arith, is.sub_is, from.sub_from) }) xs ys here there)

from-kind : (kind part next : ℕ) (xs ys : List Stood) → part ≤ next → AllByRecursion (IsIn kind part) xs → AllByRecursion (IsFrom kind next) ys → AllByRecursion (IsFrom kind part) (xs ++ ys)
from-kind kind part next xs ys less here there =
    all-append (IsFrom kind part) xs ys
    (each-weaker (IsIn kind part) (IsFrom kind part) (λ l is. record { section_is = is.section_is; sub_from = omega (arith, is.sub_is) }) xs here)
    (each-weaker (IsFrom kind next) (IsFrom kind part) (λ l from. record { section_is = from.section_is; sub_from = omega (arith, from.sub_from) }) ys there)

-- The lines of a trace.

abbrev home_section : Home → ℕ
home_section home = section (part_of (spot_at home 0))

abbrev home_sub : Home → ℕ
home_sub home = sub (part_of (spot_at home 0))

one-part : (home : Home) (place : ℕ) → part_of (spot_at home place) ≡ part_of (spot_at home 0)
one-part homes.Work place = refl
one-part homes.Clock place = refl
one-part homes.Table place = refl
one-part (homes.Object families.Sem object) place = refl
one-part (homes.Object families.Msgq object) place = refl
one-part (homes.Object families.Signal object) place = refl
one-part (homes.Object families.Chan object) place = refl
one-part (homes.Object families.Obs object) place = refl

abbrev kind_of : Family → ℕ
kind_of families.Sem = 4
kind_of families.Msgq = 5
kind_of families.Signal = 6
kind_of families.Chan = 7
kind_of families.Obs = 8

kind-is : (family : Family) (object : ℕ) → home_section (homes.Object family object) ≡ kind_of family
kind-is families.Sem object = refl
kind-is families.Msgq object = refl
kind-is families.Signal object = refl
kind-is families.Chan object = refl
kind-is families.Obs object = refl

kind-up : (family : Family) (object : ℕ) → home_sub (homes.Object family object) < home_sub (homes.Object family (object + 1))
kind-up families.Sem object = omega arith
kind-up families.Msgq object = omega arith
kind-up families.Signal object = omega arith
kind-up families.Chan object = omega arith
kind-up families.Obs object = omega arith

items-in : (looks : List ItemLook) → AllByRecursion (IsIn 1 0) (map item_look_stood looks)
items-in [] = tt
items-in (l ∷ ls) = (record { section_is = refl; sub_is = refl }, items-in ls)

looks-in : (object : ℕ) (looks : List SignalLook) → AllByRecursion (IsIn 6 (2 * object + 1)) (map (signal_look_stood object) looks)
looks-in object [] = tt
looks-in object (l ∷ ls) = (record { section_is = refl; sub_is = refl }, looks-in object ls)

-- the looks at a signal
abbrev seen : List (List SignalLook) → ℕ → List Stood
seen looks object = map (signal_look_stood object) (looks_at looks object)

seen-from : (looks : List (List SignalLook)) (object : ℕ) → AllByRecursion (IsFrom 6 (2 * object + 1)) (seen looks object)
seen-from looks object =
    each-weaker (IsIn 6 (2 * object + 1)) (IsFrom 6 (2 * object + 1)) (λ l is. record { section_is = is.section_is; sub_from = omega (arith, is.sub_is) }) (seen looks object)
    (looks-in object (looks_at looks object))

-- a line of a signal before those of the next one
abbrev IsBefore : ℕ → Stood → Type 0
IsBefore object l = (section_of l ≡ 6) × (sub_of l < 2 * (object + 1))

module _ {O R : Type 0} where
  entries-in : (home : Home) (place : ℕ) (h : List (Entry O R)) → AllByRecursion (IsIn (home_section home) (home_sub home)) (entries_stood home place h)
  entries-in home place [] = tt
  entries-in home place (e ∷ es) =
      (record { section_is = ap section (one-part home place); sub_is = ap sub (one-part home place) }, entries-in home (place + 1) es)

  own-in : (family : Family) (object : ℕ) (h : List (Entry O R)) →
      AllByRecursion (IsIn (kind_of family) (home_sub (homes.Object family object))) (entries_stood (homes.Object family object) 0 h)
  own-in family object h =
      subst (λ (n : ℕ). AllByRecursion (IsIn n (home_sub (homes.Object family object))) (entries_stood (homes.Object family object) 0 h)) (kind-is family object)
      (entries-in (homes.Object family object) 0 h)

  histories-from : (family : Family) (object : ℕ) (hs : List (List (Entry O R))) →
      AllByRecursion (IsFrom (kind_of family) (home_sub (homes.Object family object))) (histories_stood family object hs)
  histories-from family object [] = tt
  histories-from family object (h ∷ hs) =
      let up = kind-up family object in
      from-kind (kind_of family) (home_sub (homes.Object family object)) (home_sub (homes.Object family (object + 1)))
      (entries_stood (homes.Object family object) 0 h) (histories_stood family (object + 1) hs) (omega (arith, up)) (own-in family object h) (histories-from family (object + 1) hs)

  histories-order : (family : Family) (object : ℕ) (hs : List (List (Entry O R))) → InOrder (histories_stood family object hs)
  histories-order family object [] = tt
  histories-order family object (h ∷ hs) =
      order-kind (kind_of family) (home_sub (homes.Object family object)) (home_sub (homes.Object family (object + 1)))
      (entries_stood (homes.Object family object) 0 h) (histories_stood family (object + 1) hs) (kind-up family object) (own-in family object h)
      (histories-order family (object + 1) hs) (histories-from family (object + 1) hs)

  -- the lines of one signal
  abbrev one_signal : List (List SignalLook) → ℕ → List (Entry O R) → List Stood
  one_signal looks object h = entries_stood (homes.Object families.Signal object) 0 h ++ seen looks object

  module _ (looks : List (List SignalLook)) where
    signal-from : (object : ℕ) (h : List (Entry O R)) → AllByRecursion (IsFrom 6 (2 * object)) (one_signal looks object h)
    signal-from object h =
        from-kind 6 (2 * object) (2 * object + 1) (entries_stood (homes.Object families.Signal object) 0 h) (seen looks object) (omega arith)
        (entries-in (homes.Object families.Signal object) 0 h) (seen-from looks object)

    signal-before : (object : ℕ) (h : List (Entry O R)) → AllByRecursion (IsBefore object) (one_signal looks object h)
    signal-before object h =
        all-append (IsBefore object) (entries_stood (homes.Object families.Signal object) 0 h) (seen looks object)
        (each-weaker (IsIn 6 (2 * object)) (IsBefore object) (λ l is. (is.section_is, omega (arith, is.sub_is)))
        (entries_stood (homes.Object families.Signal object) 0 h) (entries-in (homes.Object families.Signal object) 0 h))
        (each-weaker (IsIn 6 (2 * object + 1)) (IsBefore object) (λ l is. (is.section_is, omega (arith, is.sub_is))) (seen looks object)
        (looks-in object (looks_at looks object)))

    signals-from : (object : ℕ) (hs : List (List (Entry O R))) → AllByRecursion (IsFrom 6 (2 * object)) (signals_stood looks object hs)
    signals-from object [] = tt
    signals-from object (h ∷ hs) =
        all-append (IsFrom 6 (2 * object)) (one_signal looks object h) (signals_stood looks (object + 1) hs) (signal-from object h)
        (each-weaker (IsFrom 6 (2 * (object + 1))) (IsFrom 6 (2 * object)) (λ l from. record { section_is = from.section_is; sub_from = omega (arith, from.sub_from) })
        (signals_stood looks (object + 1) hs) (signals-from (object + 1) hs))

    signals-order : (object : ℕ) (hs : List (List (Entry O R))) → InOrder (signals_stood looks object hs)
    signals-order object [] = tt
    signals-order object (h ∷ hs) =
        later-join NotAfter (one_signal looks object h) (signals_stood looks (object + 1) hs)
        (order-kind 6 (2 * object) (2 * object + 1) (entries_stood (homes.Object families.Signal object) 0 h) (seen looks object) (omega arith)
        (entries-in (homes.Object families.Signal object) 0 h)
        (order-one 6 (2 * object + 1) (seen looks object) (looks-in object (looks_at looks object))) (seen-from looks object))
        (signals-order (object + 1) hs)
        (cross (IsBefore object) (IsFrom 6 (2 * (object + 1)))
        (λ x y upto from. record { sections = omega (arith, upto.0, from.section_is); subs = λ same. omega (arith, upto.1, from.sub_from) })
        (one_signal looks object h) (signals_stood looks (object + 1) hs) (signal-before object h) (signals-from (object + 1) hs))

-- lines in order, of the kinds of parts below one
abbrev Upto : ℕ → List Stood → Type 0
Upto kind xs = InOrder xs × AllByRecursion (λ l. section_of l < kind) xs

next-kind : (kind : ℕ) (xs ys : List Stood) → Upto kind xs → InOrder ys → AllByRecursion (λ l. section_of l ≡ kind) ys → Upto (kind + 1) (xs ++ ys)
next-kind kind xs ys upto over is = (
  later-join NotAfter xs ys upto.0 over
      (cross (λ l. section_of l < kind) (λ l. section_of l ≡ kind) (λ x y less here. record { sections = omega (arith, less, here); subs = λ same. absurd (omega (arith, less, here, same)) }) xs ys upto.1 is),
  all-append (λ l. section_of l < kind + 1) xs ys (each-weaker (λ l. section_of l < kind) (λ l. section_of l < kind + 1) (λ l less. omega (arith, less)) xs upto.1)
      (each-weaker (λ l. section_of l ≡ kind) (λ l. section_of l < kind + 1) (λ l here. omega (arith, here)) ys is),
)

in-kind : (kind part : ℕ) (xs : List Stood) → AllByRecursion (IsIn kind part) xs → AllByRecursion (λ l. section_of l ≡ kind) xs
in-kind kind part xs all = each-weaker (IsIn kind part) (λ l. section_of l ≡ kind) (λ l is. is.section_is) xs all

kind-from : (kind part : ℕ) (xs : List Stood) → AllByRecursion (IsFrom kind part) xs → AllByRecursion (λ l. section_of l ≡ kind) xs
kind-from kind part xs all = each-weaker (IsFrom kind part) (λ l. section_of l ≡ kind) (λ l from. from.section_is) xs all

-- one part more, which is the next kind
one-more : (kind part : ℕ) (xs ys : List Stood) → Upto kind xs → AllByRecursion (IsIn kind part) ys → Upto (kind + 1) (xs ++ ys)
one-more kind part xs ys upto is = next-kind kind xs ys upto (order-one kind part ys is) (in-kind kind part ys is)

-- or a kind of many
many-more : (kind part : ℕ) (xs ys : List Stood) → Upto kind xs → InOrder ys → AllByRecursion (IsFrom kind part) ys → Upto (kind + 1) (xs ++ ys)
many-more kind part xs ys upto over from = next-kind kind xs ys upto over (kind-from kind part ys from)

stood-order : (t : Trace) → InOrder (stood t)
stood-order t =
    let works = entries_stood homes.Work 0 t.work in
    let items = map item_look_stood t.looks.items in
    let clocks = entries_stood homes.Clock 0 t.clock in
    let tables = entries_stood homes.Table 0 t.table in
    let sems = histories_stood families.Sem 0 t.sems in
    let msgqs = histories_stood families.Msgq 0 t.msgqs in
    let signals = signals_stood t.looks.signals 0 t.signals in
    let chans = histories_stood families.Chan 0 t.chans in
    let observers = histories_stood families.Obs 0 t.observers in
    let works_in = entries-in homes.Work 0 t.work in
    let zeroth : Upto 1 works =
    (order-one 0 0 works works_in, each-weaker (IsIn 0 0) (λ l. section_of l < 1) (λ l is. omega (arith, is.section_is)) works works_in) in
    let first = one-more 1 0 works items zeroth (items-in t.looks.items) in
    let second = one-more 2 0 (works ++ items) clocks first (entries-in homes.Clock 0 t.clock) in
    let third = one-more 3 0 (works ++ items ++ clocks) tables second (entries-in homes.Table 0 t.table) in
    let fourth = many-more 4 0 (works ++ items ++ clocks ++ tables) sems third (histories-order families.Sem 0 t.sems) (histories-from families.Sem 0 t.sems) in
    let fifth = many-more 5 0 (works ++ items ++ clocks ++ tables ++ sems) msgqs fourth (histories-order families.Msgq 0 t.msgqs) (histories-from families.Msgq 0 t.msgqs) in
    let sixth = many-more 6 0 (works ++ items ++ clocks ++ tables ++ sems ++ msgqs) signals fifth (signals-order t.looks.signals 0 t.signals) (signals-from t.looks.signals 0 t.signals) in
    let seventh = many-more 7 0 (works ++ items ++ clocks ++ tables ++ sems ++ msgqs ++ signals) chans sixth (histories-order families.Chan 0 t.chans) (histories-from families.Chan 0 t.chans) in
    (many-more 8 0 (works ++ items ++ clocks ++ tables ++ sems ++ msgqs ++ signals ++ chans) observers seventh (histories-order families.Obs 0 t.observers) (histories-from families.Obs 0 t.observers)).0

-- lines of one part stand together
pub together : (t : Trace) → AreTogether (stood t)
together t first between last a b c less later here there end same =
    let up = stood-order t in
    let ab = later-at NotAfter (stood t) up first between a b less here there in
    let bc = later-at NotAfter (stood t) up between last b c later there end in
    let part = same-part a.spot c.spot same in
    let sections : section_of a ≡ section_of c = ap section part in
    let subs : sub_of a ≡ sub_of c = ap sub part in
    let ab_section : section_of a ≡ section_of b = omega (arith, ab.sections, bc.sections, sections) in
    let bc_section : section_of b ≡ section_of c = omega (arith, ab_section, sections) in
    let ab_sub = ab.subs ab_section in
    let bc_sub = bc.subs bc_section in
    (same-rank a.spot b.spot ab_section (omega (arith, ab_sub, bc_sub, subs)), same-rank b.spot c.spot bc_section (omega (arith, ab_sub, bc_sub, subs)))
