-- A line that stands once among the lines of a trace is the only one of its step.
use Rattle.std.proofs.Common.{◌≡◌, ℕ, zero, suc, ◌+◌, ◌<◌, ◌≤◌, Bool, true, false, ◌&&◌, cond, Option, Some, None, List, [], ◌∷◌, ◌++◌, length, map, refl, sym, ap, subst, ◌∙◌, arith}
use Rattle.std.specs.List.{AllByRecursion, filter, slice_get, cons_option}
use Rattle.std.proofs.lemmas.Bool.{cond-true, cond-false}
use Rattle.std.proofs.lemmas.List.{map-append}
use Rattle.std.proofs.lemmas.List.Elements.{filter-append}
use Rattle.std.proofs.lemmas.Option.{same_Some, none-some}
use Rattle.zk_base.specs.declared.ids.Entry.{Entry}
use Rattle.zk_worker.specs.declared.log.Log.{Log}
use Rattle.zk_worker.specs.declared.steps.Spot.{Spot}
use Rattle.zk_worker.specs.declared.steps.Spot.TheVariants as spots
use Rattle.zk_worker.specs.Families.{entry_at}
use Rattle.zk_worker.specs.Shown.{is_look}
use Rattle.zk_trace.specs.declared.looks.SignalLook.{SignalLook}
use Rattle.zk_trace.specs.declared.stood.Family.{Family}
use Rattle.zk_trace.specs.declared.stood.Family.TheVariants as families
use Rattle.zk_trace.specs.declared.stood.Home.{Home}
use Rattle.zk_trace.specs.declared.stood.Home.TheVariants as homes
use Rattle.zk_trace.specs.declared.stood.Stood.{Stood}
use Rattle.zk_trace.specs.Looked.{looks_from, all_looks}
use Rattle.zk_trace.specs.Stood.{spot_in, spot_at, entries_stood, histories_stood, signal_look_stood, signals_stood}
use Rattle.zk_trace.specs.Text.{looks_at}
use Rattle.zk_trace.proofs.LooksFit.{all-append, steps-each, logs-each}

-- a line
abbrev pub line_at : ℕ → ℕ → Spot → Stood
line_at player step spot = record { player = player; step = step; spot = spot }

-- Where spots stand: in which part of a text, at which object and place.

abbrev pub part_of : Spot → ℕ
part_of (spots.Work place) = 0
part_of (spots.LookItem object flags at) = 1
part_of (spots.Clock place) = 2
part_of (spots.Table place) = 3
part_of (spots.Sem object place) = 4
part_of (spots.Msgq object place) = 5
part_of (spots.Signal object place) = 6
part_of (spots.LookSignal object seen) = 6
part_of (spots.Chan object place) = 7
part_of (spots.Obs object place) = 8

abbrev object_in : Spot → ℕ
object_in (spots.Sem object place) = object
object_in (spots.Msgq object place) = object
object_in (spots.Signal object place) = object
object_in (spots.LookSignal object seen) = object
object_in (spots.Chan object place) = object
object_in (spots.Obs object place) = object
object_in spot = 0

abbrev place_in : Spot → ℕ
place_in (spots.Work place) = place
place_in (spots.Clock place) = place
place_in (spots.Table place) = place
place_in (spots.Sem object place) = place
place_in (spots.Msgq object place) = place
place_in (spots.Signal object place) = place
place_in (spots.Chan object place) = place
place_in (spots.Obs object place) = place
place_in spot = 0

abbrev pub home_part : Home → ℕ
home_part homes.Work = 0
home_part homes.Clock = 2
home_part homes.Table = 3
home_part (homes.Object families.Sem object) = 4
home_part (homes.Object families.Msgq object) = 5
home_part (homes.Object families.Signal object) = 6
home_part (homes.Object families.Chan object) = 7
home_part (homes.Object families.Obs object) = 8

pub home-part : (home : Home) (place : ℕ) → part_of (spot_at home place) ≡ home_part home
home-part homes.Work place = refl
home-part homes.Clock place = refl
home-part homes.Table place = refl
home-part (homes.Object families.Sem object) place = refl
home-part (homes.Object families.Msgq object) place = refl
home-part (homes.Object families.Signal object) place = refl
home-part (homes.Object families.Chan object) place = refl
home-part (homes.Object families.Obs object) place = refl

home-place : (home : Home) (place : ℕ) → place_in (spot_at home place) ≡ place
home-place homes.Work place = refl
home-place homes.Clock place = refl
home-place homes.Table place = refl
home-place (homes.Object families.Sem object) place = refl
home-place (homes.Object families.Msgq object) place = refl
home-place (homes.Object families.Signal object) place = refl
home-place (homes.Object families.Chan object) place = refl
home-place (homes.Object families.Obs object) place = refl

family-object : (family : Family) (object place : ℕ) → object_in (spot_in family object place) ≡ object
family-object families.Sem object place = refl
family-object families.Msgq object place = refl
family-object families.Signal object place = refl
family-object families.Chan object place = refl
family-object families.Obs object place = refl

-- What holds of each line.

module _ (P : Stood → Type 0) where
  pub entries-each : {O R : Type 0} (home : Home) (place : ℕ) (h : List (Entry O R)) → ((p : ℕ) (e : Entry O R) → slice_get h p ≡ Some e → P (line_at e.who.number e.step (spot_at home (place + p)))) →
      AllByRecursion P (entries_stood home place h)
  entries-each home place [] each = tt
  entries-each home place (e ∷ es) each = (
    let same : place + zero ≡ place = omega arith in subst (λ (n : ℕ). P (line_at e.who.number e.step (spot_at home n))) same (each zero e refl),
    entries-each home (place + 1) es (λ p x there.
        let same : place + suc p ≡ (place + 1) + p = omega arith in subst (λ (n : ℕ). P (line_at x.who.number x.step (spot_at home n))) same (each (suc p) x there)),
  )

  pub histories-each : {O R : Type 0} (family : Family) (object : ℕ) (hs : List (List (Entry O R))) →
      ((o p : ℕ) (e : Entry O R) → entry_at hs o p ≡ Some e → P (line_at e.who.number e.step (spot_in family (object + o) p))) → AllByRecursion P (histories_stood family object hs)
  histories-each family object [] each = tt
  histories-each family object (h ∷ hs) each =
      all-append P (entries_stood (homes.Object family object) 0 h) (histories_stood family (object + 1) hs)
      (entries-each (homes.Object family object) 0 h (λ p e there.
      let same : object + zero ≡ object = omega arith in
      let begin : 0 + p ≡ p = omega arith in
      subst (λ (n : ℕ). P (line_at e.who.number e.step (spot_in family object n))) (sym begin) (subst (λ (n : ℕ). P (line_at e.who.number e.step (spot_in family n p))) same (each zero p e there))))
      (histories-each family (object + 1) hs (λ o p e there.
      let same : object + suc o ≡ (object + 1) + o = omega arith in subst (λ (n : ℕ). P (line_at e.who.number e.step (spot_in family n p))) same (each (suc o) p e there)))

  pub mapped-each : {L : Type 0} (f : L → Stood) (ls : List L) → AllByRecursion (λ l. P (f l)) ls → AllByRecursion P (map f ls)
  mapped-each f [] all = tt
  mapped-each f (l ∷ ls) all = (all.0, mapped-each f ls all.1)

  pub signals-each : {O R : Type 0} (looks : List (List SignalLook)) (object : ℕ) (hs : List (List (Entry O R))) →
      ((o p : ℕ) (e : Entry O R) → entry_at hs o p ≡ Some e → P (line_at e.who.number e.step (spots.Signal (object + o) p))) →
      ((o : ℕ) → o < length hs → AllByRecursion (λ l. P (signal_look_stood (object + o) l)) (looks_at looks (object + o))) → AllByRecursion P (signals_stood looks object hs)
  signals-each looks object [] each looked = tt
  signals-each looks object (h ∷ hs) each looked =
      let here : object + zero ≡ object = omega arith in
      all-append P (entries_stood (homes.Object families.Signal object) 0 h ++ map (signal_look_stood object) (looks_at looks object)) (signals_stood looks (object + 1) hs)
      (all-append P (entries_stood (homes.Object families.Signal object) 0 h) (map (signal_look_stood object) (looks_at looks object))
      (entries-each (homes.Object families.Signal object) 0 h (λ p e there.
      let begin : 0 + p ≡ p = omega arith in
      subst (λ (n : ℕ). P (line_at e.who.number e.step (spots.Signal object n))) (sym begin) (subst (λ (n : ℕ). P (line_at e.who.number e.step (spots.Signal n p))) here (each zero p e there))))
      (mapped-each (signal_look_stood object) (looks_at looks object) (subst (λ (n : ℕ). AllByRecursion (λ l. P (signal_look_stood n l)) (looks_at looks n)) here (looked zero (omega arith)))))
      (signals-each looks (object + 1) hs
      (λ o p e there. let same : object + suc o ≡ (object + 1) + o = omega arith in subst (λ (n : ℕ). P (line_at e.who.number e.step (spots.Signal n p))) same (each (suc o) p e there))
      (λ o within. let same : object + suc o ≡ (object + 1) + o = omega arith in subst (λ (n : ℕ). AllByRecursion (λ l. P (signal_look_stood n l)) (looks_at looks n)) same (looked (suc o) (omega arith))))

-- One line among others.

-- what both tests keep
pub filter-both : {A : Type 0} (p q : A → Bool) (xs : List A) → filter p (filter q xs) ≡ filter (λ x. q x && p x) xs
filter-both p q [] = refl
filter-both {A} p q (x ∷ xs) = by (q x) (filter-both p q xs) where
  by : (b : Bool) → filter p (filter q xs) ≡ filter (λ x. q x && p x) xs → filter p (cond b (x ∷ filter q xs) (filter q xs)) ≡ cond (b && p x) (x ∷ filter (λ x. q x && p x) xs) (filter (λ x. q x && p x) xs)
  by true rest = ap (λ (l : List A). cond (p x) (x ∷ l) l) rest
  by false rest = rest

module _ (mine : Stood → Bool) where
  -- none is kept where none passes
  pub none-mine : (xs : List Stood) → AllByRecursion (λ l. mine l ≡ true → ⊥) xs → filter mine xs ≡ []
  none-mine [] none = refl
  none-mine (x ∷ xs) none = cond-false (mine x) (x ∷ filter mine xs) (filter mine xs) (by (mine x) none.0) ∙ none-mine xs none.1 where
    by : (b : Bool) → (b ≡ true → ⊥) → b ≡ false
    by true never = absurd (never refl)
    by false never = refl

  -- one that passes in front of others none of which does
  one-mine : (x : Stood) (xs : List Stood) → mine x ≡ true → AllByRecursion (λ l. mine l ≡ true → ⊥) xs → filter mine (x ∷ xs) ≡ x ∷ []
  one-mine x xs is none = cond-true (mine x) (x ∷ filter mine xs) (filter mine xs) is ∙ ap (λ (l : List Stood). x ∷ l) (none-mine xs none)

  -- one that doesn't
  not-mine : (x : Stood) (xs : List Stood) → (mine x ≡ true → ⊥) → filter mine (x ∷ xs) ≡ filter mine xs
  not-mine x xs never = cond-false (mine x) (x ∷ filter mine xs) (filter mine xs) (by (mine x) never) where
    by : (b : Bool) → (b ≡ true → ⊥) → b ≡ false
    by true never = absurd (never refl)
    by false never = refl

  module _ (line : Stood) (is_mine : mine line ≡ true) where
    -- an entry stands at one place of its history
    pub entries-one : {O R : Type 0} (home : Home) (place : ℕ) (h : List (Entry O R)) (p : ℕ) (e : Entry O R) → slice_get h p ≡ Some e → line_at e.who.number e.step (spot_at home (place + p)) ≡ line →
        AllByRecursion (λ l. mine l ≡ true → l.spot ≡ line.spot) (entries_stood home place h) → filter mine (entries_stood home place h) ≡ line ∷ []
    entries-one home place [] p e there is each = absurd (none-some e there)
    entries-one {O = O} {R = R} home place (x ∷ xs) zero e there is each =
        let first : line_at x.who.number x.step (spot_at home place) ≡ line =
        let here : place + zero ≡ place = omega arith in
        ap (λ (y : Entry O R). line_at y.who.number y.step (spot_at home place)) (same_Some x e there) ∙ ap (λ (n : ℕ). line_at e.who.number e.step (spot_at home n)) (sym here) ∙ is in
        one-mine (line_at x.who.number x.step (spot_at home place)) (entries_stood home (place + 1) xs) (ap mine first ∙ is_mine)
        (others xs (place + 1) (omega arith) first each.1) ∙ ap (λ (l : Stood). l ∷ []) first
      where
        others : (ys : List (Entry O R)) (from : ℕ) → place < from → line_at x.who.number x.step (spot_at home place) ≡ line → AllByRecursion (λ l. mine l ≡ true → l.spot ≡ line.spot) (entries_stood home from ys) →
            AllByRecursion (λ l. mine l ≡ true → ⊥) (entries_stood home from ys)
        others [] from above first each = tt
        others (y ∷ ys) from above first each = (
          λ passes.
              let spot : spot_at home from ≡ spot_at home place = each.0 passes ∙ ap (λ (l : Stood). l.spot) (sym first) in
              let same : from ≡ place = sym (home-place home from) ∙ ap place_in spot ∙ home-place home place in
              absurd (omega arith),
          others ys (from + 1) (omega arith) first each.1,
        )
    entries-one home place (x ∷ xs) (suc p) e there is each =
        not-mine (line_at x.who.number x.step (spot_at home place)) (entries_stood home (place + 1) xs)
        (λ passes.
        let spot : spot_at home place ≡ spot_at home (place + suc p) = each.0 passes ∙ ap (λ (l : Stood). l.spot) (sym is) in
        let same : place ≡ place + suc p = sym (home-place home place) ∙ ap place_in spot ∙ home-place home (place + suc p) in
        absurd (omega arith))
        ∙ entries-one home (place + 1) xs p e there (let next : (place + 1) + p ≡ place + suc p = omega arith in ap (λ (n : ℕ). line_at e.who.number e.step (spot_at home n)) next ∙ is) each.1

    -- each line that passes stands where this one does
    abbrev pub Stays : Stood → Type 0
    Stays l = mine l ≡ true → l.spot ≡ line.spot

    pub none-by : (Q : Stood → Type 0) (xs : List Stood) → AllByRecursion Q xs → AllByRecursion Stays xs → ((l : Stood) → Q l → l.spot ≡ line.spot → ⊥) → filter mine xs ≡ []
    none-by Q xs all stays never = none-mine xs (each xs all stays) where
      each : (xs : List Stood) → AllByRecursion Q xs → AllByRecursion Stays xs → AllByRecursion (λ l. mine l ≡ true → ⊥) xs
      each [] all stays = tt
      each (x ∷ xs) all stays = (λ passes. never x all.0 (stays.0 passes), each xs all.1 stays.1)

    front : (xs ys : List Stood) → AllByRecursion Stays (xs ++ ys) → AllByRecursion Stays xs
    front [] ys stays = tt
    front (x ∷ xs) ys stays = (stays.0, front xs ys stays.1)

    back : (xs ys : List Stood) → AllByRecursion Stays (xs ++ ys) → AllByRecursion Stays ys
    back [] ys stays = stays
    back (x ∷ xs) ys stays = back xs ys stays.1

    -- what passes of both
    first-alone : (xs ys : List Stood) → filter mine xs ≡ line ∷ [] → filter mine ys ≡ [] → filter mine (xs ++ ys) ≡ line ∷ []
    first-alone xs ys one none = filter-append mine xs ys ∙ ap (λ (l : List Stood). l ++ filter mine ys) one ∙ ap (λ (l : List Stood). line ∷ l) none

    second-alone : (xs ys : List Stood) → filter mine xs ≡ [] → filter mine ys ≡ line ∷ [] → filter mine (xs ++ ys) ≡ line ∷ []
    second-alone xs ys none one = filter-append mine xs ys ∙ ap (λ (l : List Stood). l ++ filter mine ys) none ∙ one

    both-none : (xs ys : List Stood) → filter mine xs ≡ [] → filter mine ys ≡ [] → filter mine (xs ++ ys) ≡ []
    both-none xs ys none more = filter-append mine xs ys ∙ ap (λ (l : List Stood). l ++ filter mine ys) none ∙ more

    -- where an object is
    abbrev IsIn : ℕ → Stood → Type 0
    IsIn object l = object_in l.spot ≡ object

    abbrev IsFrom : ℕ → Stood → Type 0
    IsFrom object l = object ≤ object_in l.spot

    entries-in : {O R : Type 0} (family : Family) (object : ℕ) (h : List (Entry O R)) → AllByRecursion (IsIn object) (entries_stood (homes.Object family object) 0 h)
    entries-in family object h = entries-each (IsIn object) (homes.Object family object) 0 h (λ p e there. family-object family object (0 + p))

    histories-from : {O R : Type 0} (family : Family) (object : ℕ) (hs : List (List (Entry O R))) → AllByRecursion (IsFrom object) (histories_stood family object hs)
    histories-from family object hs = histories-each (IsFrom object) family object hs (λ o p e there. let is = family-object family (object + o) p in omega arith)

    -- an entry stands in the history of one object
    pub histories-one : {O R : Type 0} (family : Family) (object : ℕ) (hs : List (List (Entry O R))) (o p : ℕ) (e : Entry O R) → entry_at hs o p ≡ Some e →
        line_at e.who.number e.step (spot_in family (object + o) p) ≡ line → AllByRecursion Stays (histories_stood family object hs) → filter mine (histories_stood family object hs) ≡ line ∷ []
    histories-one family object [] o p e there is stays = absurd (none-some e there)
    histories-one family object (h ∷ hs) zero p e there is stays =
        let first = entries_stood (homes.Object family object) 0 h in
        let rest = histories_stood family (object + 1) hs in
        let here : object + zero ≡ object = omega arith in
        let begin : 0 + p ≡ p = omega arith in
        let at : object_in line.spot ≡ object = ap (λ (l : Stood). object_in l.spot) (sym is) ∙ family-object family (object + zero) p ∙ here in
        first-alone first rest
        (entries-one (homes.Object family object) 0 h p e there
        (ap (λ (n : ℕ). line_at e.who.number e.step (spot_in family object n)) begin ∙ ap (λ (n : ℕ). line_at e.who.number e.step (spot_in family n p)) (sym here) ∙ is) (front first rest stays))
        (none-by (IsFrom (object + 1)) rest (histories-from family (object + 1) hs) (back first rest stays) (λ l above spot. let same : object_in l.spot ≡ object_in line.spot = ap object_in spot in absurd (omega arith)))
    histories-one family object (h ∷ hs) (suc o) p e there is stays =
        let first = entries_stood (homes.Object family object) 0 h in
        let rest = histories_stood family (object + 1) hs in
        let next : (object + 1) + o ≡ object + suc o = omega arith in
        let at : object_in line.spot ≡ object + suc o = ap (λ (l : Stood). object_in l.spot) (sym is) ∙ family-object family (object + suc o) p in
        second-alone first rest
        (none-by (IsIn object) first (entries-in family object h) (front first rest stays) (λ l own spot. let same : object_in l.spot ≡ object_in line.spot = ap object_in spot in absurd (omega arith)))
        (histories-one family (object + 1) hs o p e there (ap (λ (n : ℕ). line_at e.who.number e.step (spot_in family n p)) next ∙ is) (back first rest stays))

    -- the same of a write to a signal
    looks-in : (object : ℕ) (ls : List SignalLook) → AllByRecursion (IsIn object) (map (signal_look_stood object) ls)
    looks-in object [] = tt
    looks-in object (l ∷ ls) = (refl, looks-in object ls)

    abbrev IsLook : Stood → Type 0
    IsLook l = is_look l.spot ≡ true

    all-looks : (object : ℕ) (ls : List SignalLook) → AllByRecursion IsLook (map (signal_look_stood object) ls)
    all-looks object [] = tt
    all-looks object (l ∷ ls) = (refl, all-looks object ls)

    look-froms : (object from : ℕ) (ls : List SignalLook) → from ≤ object → AllByRecursion (λ l. IsFrom from (signal_look_stood object l)) ls
    look-froms object from [] above = tt
    look-froms object from (l ∷ ls) above = (above, look-froms object from ls above)

    signals-from : {O R : Type 0} (looks : List (List SignalLook)) (object : ℕ) (hs : List (List (Entry O R))) → AllByRecursion (IsFrom object) (signals_stood looks object hs)
    signals-from looks object hs =
        signals-each (IsFrom object) looks object hs (λ o p e there. let is = family-object families.Signal (object + o) p in omega arith)
        (λ o within. look-froms (object + o) object (looks_at looks (object + o)) (omega arith))

    pub signals-write : {O R : Type 0} (looks : List (List SignalLook)) (object : ℕ) (hs : List (List (Entry O R))) (o p : ℕ) (e : Entry O R) → entry_at hs o p ≡ Some e →
        line_at e.who.number e.step (spots.Signal (object + o) p) ≡ line → AllByRecursion Stays (signals_stood looks object hs) → filter mine (signals_stood looks object hs) ≡ line ∷ []
    signals-write looks object [] o p e there is stays = absurd (none-some e there)
    signals-write looks object (h ∷ hs) zero p e there is stays =
        let first = entries_stood (homes.Object families.Signal object) 0 h in
        let seen = map (signal_look_stood object) (looks_at looks object) in
        let rest = signals_stood looks (object + 1) hs in
        let here : object + zero ≡ object = omega arith in
        let begin : 0 + p ≡ p = omega arith in
        let at : object_in line.spot ≡ object = ap (λ (l : Stood). object_in l.spot) (sym is) ∙ family-object families.Signal (object + zero) p ∙ here in
        let own = front (first ++ seen) rest stays in
        first-alone (first ++ seen) rest
        (first-alone first seen
        (entries-one (homes.Object families.Signal object) 0 h p e there
        (ap (λ (n : ℕ). line_at e.who.number e.step (spots.Signal object n)) begin ∙ ap (λ (n : ℕ). line_at e.who.number e.step (spots.Signal n p)) (sym here) ∙ is) (front first seen own))
        (none-by IsLook seen (all-looks object (looks_at looks object)) (back first seen own)
        (λ l look spot. let other : is_look line.spot ≡ false = ap (λ (l : Stood). is_look l.spot) (sym is) in let same : is_look l.spot ≡ is_look line.spot = ap is_look spot in absurd (cc))))
        (none-by (IsFrom (object + 1)) rest (signals-from looks (object + 1) hs) (back (first ++ seen) rest stays) (λ l above spot. let same : object_in l.spot ≡ object_in line.spot = ap object_in spot in absurd (omega arith)))
    signals-write looks object (h ∷ hs) (suc o) p e there is stays =
        let first = entries_stood (homes.Object families.Signal object) 0 h in
        let seen = map (signal_look_stood object) (looks_at looks object) in
        let rest = signals_stood looks (object + 1) hs in
        let next : (object + 1) + o ≡ object + suc o = omega arith in
        let at : object_in line.spot ≡ object + suc o = ap (λ (l : Stood). object_in l.spot) (sym is) ∙ family-object families.Signal (object + suc o) p in
        let own = front (first ++ seen) rest stays in
        second-alone (first ++ seen) rest
        (both-none first seen
        (none-by (IsIn object) first (entries-in families.Signal object h) (front first seen own) (λ l in_it spot. let same : object_in l.spot ≡ object_in line.spot = ap object_in spot in absurd (omega arith)))
        (none-by (IsIn object) seen (looks-in object (looks_at looks object)) (back first seen own) (λ l in_it spot. let same : object_in l.spot ≡ object_in line.spot = ap object_in spot in absurd (omega arith))))
        (signals-write looks (object + 1) hs o p e there (ap (λ (n : ℕ). line_at e.who.number e.step (spots.Signal n p)) next ∙ is) (back (first ++ seen) rest stays))

    -- and of a look at one
    abbrev IsEntry : Stood → Type 0
    IsEntry l = is_look l.spot ≡ false

    pub signals-look : {O R : Type 0} (looks : List (List SignalLook)) (object : ℕ) (hs : List (List (Entry O R))) (o : ℕ) → o < length hs → is_look line.spot ≡ true → object_in line.spot ≡ object + o →
        filter mine (map (signal_look_stood (object + o)) (looks_at looks (object + o))) ≡ line ∷ [] → AllByRecursion Stays (signals_stood looks object hs) → filter mine (signals_stood looks object hs) ≡ line ∷ []
    signals-look looks object [] o within look at one stays = absurd (omega arith)
    signals-look looks object (h ∷ hs) zero within look at one stays =
        let first = entries_stood (homes.Object families.Signal object) 0 h in
        let seen = map (signal_look_stood object) (looks_at looks object) in
        let rest = signals_stood looks (object + 1) hs in
        let here : object + zero ≡ object = omega arith in
        let own = front (first ++ seen) rest stays in
        first-alone (first ++ seen) rest
        (second-alone first seen
        (none-by IsEntry first (entries-each IsEntry (homes.Object families.Signal object) 0 h (λ p e there. refl)) (front first seen own)
        (λ l entry spot. let same : is_look l.spot ≡ is_look line.spot = ap is_look spot in absurd (cc)))
        (subst (λ (n : ℕ). filter mine (map (signal_look_stood n) (looks_at looks n)) ≡ line ∷ []) here one))
        (none-by (IsFrom (object + 1)) rest (signals-from looks (object + 1) hs) (back (first ++ seen) rest stays) (λ l above spot. let same : object_in l.spot ≡ object_in line.spot = ap object_in spot in absurd (omega arith)))
    signals-look looks object (h ∷ hs) (suc o) within look at one stays =
        let first = entries_stood (homes.Object families.Signal object) 0 h in
        let seen = map (signal_look_stood object) (looks_at looks object) in
        let rest = signals_stood looks (object + 1) hs in
        let next : (object + 1) + o ≡ object + suc o = omega arith in
        let own = front (first ++ seen) rest stays in
        second-alone (first ++ seen) rest
        (both-none first seen
        (none-by (IsIn object) first (entries-in families.Signal object h) (front first seen own) (λ l in_it spot. let same : object_in l.spot ≡ object_in line.spot = ap object_in spot in absurd (omega arith)))
        (none-by (IsIn object) seen (looks-in object (looks_at looks object)) (back first seen own) (λ l in_it spot. let same : object_in l.spot ≡ object_in line.spot = ap object_in spot in absurd (omega arith))))
        (signals-look looks (object + 1) hs o (omega arith) look (at ∙ sym next)
        (subst (λ (n : ℕ). filter mine (map (signal_look_stood n) (looks_at looks n)) ≡ line ∷ []) (sym next) one) (back (first ++ seen) rest stays))

    -- Looks of logs.

    module _ (own_line : (l : Stood) → mine l ≡ true → (l.player ≡ line.player) × (l.step ≡ line.step)) {L : Type 0} (look_at : ℕ → ℕ → Spot → Option L) (step_of : L → ℕ × ℕ)
        (own : (number step : ℕ) (spot : Spot) (l : L) → look_at number step spot ≡ Some l → ◌≡◌ {A = ℕ × ℕ} (step_of l) (number, step)) (f : L → Stood)
        (law : (number step : ℕ) (spot : Spot) (l : L) → look_at number step spot ≡ Some l → f l ≡ line_at number step spot) where
      abbrev Never : L → Type 0
      Never l = mine (f l) ≡ true → ⊥

      elsewhere : (number step : ℕ) (spot : Spot) (l : L) → look_at number step spot ≡ Some l → (number ≡ line.player → step ≡ line.step → ⊥) → Never l
      elsewhere number step spot l is other passes =
          let at = law number step spot l is in
          let here = own_line (f l) passes in
          other (ap (λ (l : Stood). l.player) (sym at) ∙ here.0) (ap (λ (l : Stood). l.step) (sym at) ∙ here.1)

      steps-none : (number step : ℕ) (steps : List Spot) → ((k : ℕ) → number ≡ line.player → step + k ≡ line.step → ⊥) → filter mine (map f (looks_from look_at number step steps)) ≡ []
      steps-none number step steps other =
          none-mine (map f (looks_from look_at number step steps))
          (mapped-each (λ l. mine l ≡ true → ⊥) f (looks_from look_at number step steps)
          (steps-each look_at step_of own Never number step steps (λ k spot l there is. elsewhere number (step + k) spot l is (other k))))

      steps-one : (number step : ℕ) (steps : List Spot) (k : ℕ) (spot : Spot) (l : L) → slice_get steps k ≡ Some spot → look_at number (step + k) spot ≡ Some l → line_at number (step + k) spot ≡ line →
          filter mine (map f (looks_from look_at number step steps)) ≡ line ∷ []
      steps-one number step [] k spot l there is same = absurd (none-some spot there)
      steps-one number step (s ∷ ss) zero spot l there is same =
          let here : step + zero ≡ step = omega arith in
          let first : look_at number step s ≡ Some l = ap (look_at number step) (same_Some s spot there) ∙ ap (λ (n : ℕ). look_at number n spot) (sym here) ∙ is in
          let at : f l ≡ line = law number step spot l (ap (λ (n : ℕ). look_at number n spot) (sym here) ∙ is) ∙ ap (λ (n : ℕ). line_at number n spot) (sym here) ∙ same in
          let rest = looks_from look_at number (step + 1) ss in
          let none : filter mine (map f rest) ≡ [] = steps-none number (step + 1) ss (λ k player later. let it : step + zero ≡ line.step = ap (λ (l : Stood). l.step) same in absurd (omega arith)) in
          ap (λ (o : Option L). filter mine (map f (cons_option o rest))) first
          ∙ cond-true (mine (f l)) (f l ∷ filter mine (map f rest)) (filter mine (map f rest)) (ap mine at ∙ is_mine)
          ∙ ap (λ (xs : List Stood). f l ∷ xs) none ∙ ap (λ (x : Stood). x ∷ []) at
      steps-one number step (s ∷ ss) (suc k) spot l there is same =
          by (look_at number step s) refl
          (steps-one number (step + 1) ss k spot l there (ap (λ (n : ℕ). look_at number n spot) next ∙ is) (ap (λ (n : ℕ). line_at number n spot) next ∙ same))
        where
          next : (step + 1) + k ≡ step + suc k
          next = omega arith

          by : (o : Option L) → look_at number step s ≡ o → filter mine (map f (looks_from look_at number (step + 1) ss)) ≡ line ∷ [] →
              filter mine (map f (cons_option o (looks_from look_at number (step + 1) ss))) ≡ line ∷ []
          by None told rest = rest
          by (Some x) told rest =
              not-mine (f x) (map f (looks_from look_at number (step + 1) ss))
              (elsewhere number step s x told (λ player here. let it : step + suc k ≡ line.step = ap (λ (l : Stood). l.step) same in absurd (omega arith))) ∙ rest

      logs-none : (number : ℕ) (logs : List Log) → ((o : ℕ) → number + o ≡ line.player → ⊥) → filter mine (map f (all_looks look_at number logs)) ≡ []
      logs-none number logs other =
          none-mine (map f (all_looks look_at number logs))
          (mapped-each (λ l. mine l ≡ true → ⊥) f (all_looks look_at number logs)
          (logs-each look_at step_of own Never number logs (λ o log k spot l at there is. elsewhere (number + o) k spot l is (λ player step. other o player))))

      -- a look is among them once
      pub logs-one : (number : ℕ) (logs : List Log) (o : ℕ) (log : Log) (k : ℕ) (spot : Spot) (l : L) → slice_get logs o ≡ Some log → slice_get log.steps k ≡ Some spot → look_at (number + o) k spot ≡ Some l →
          line_at (number + o) k spot ≡ line → filter mine (map f (all_looks look_at number logs)) ≡ line ∷ []
      logs-one number [] o log k spot l at there is same = absurd (none-some log at)
      logs-one number (first ∷ logs) zero log k spot l at there is same =
          let xs = looks_from look_at number 0 first.steps in
          let ys = all_looks look_at (number + 1) logs in
          let here : number + zero ≡ number = omega arith in
          let begin : 0 + k ≡ k = omega arith in
          ap (filter mine) (map-append f xs ys)
          ∙ first-alone (map f xs) (map f ys)
          (steps-one number 0 first.steps k spot l (ap (λ (g : Log). slice_get g.steps k) (same_Some first log at) ∙ there)
          (ap (λ (n : ℕ). look_at number n spot) begin ∙ ap (λ (n : ℕ). look_at n k spot) (sym here) ∙ is) (ap (λ (n : ℕ). line_at number n spot) begin ∙ ap (λ (n : ℕ). line_at n k spot) (sym here) ∙ same))
          (logs-none (number + 1) logs (λ o player. let it : number + zero ≡ line.player = ap (λ (l : Stood). l.player) same in absurd (omega arith)))
      logs-one number (first ∷ logs) (suc o) log k spot l at there is same =
          let xs = looks_from look_at number 0 first.steps in
          let ys = all_looks look_at (number + 1) logs in
          let next : (number + 1) + o ≡ number + suc o = omega arith in
          ap (filter mine) (map-append f xs ys)
          ∙ second-alone (map f xs) (map f ys)
          (steps-none number 0 first.steps (λ k player step. let it : number + suc o ≡ line.player = ap (λ (l : Stood). l.player) same in absurd (omega arith)))
          (logs-one (number + 1) logs o log k spot l at there (ap (λ (n : ℕ). look_at n k spot) next ∙ is) (ap (λ (n : ℕ). line_at n k spot) next ∙ same))
