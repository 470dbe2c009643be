-- What is kept at first stands for the table before the first entry.
use Rattle.std.proofs.Common.{◌≡◌, ℕ, zero, suc, ◌+◌, ◌<◌, ◌≤◌, Bool, true, false, eqb, ltb, ◌&&◌, ◌||◌, ◌⊎◌, inl, inr, Option}
use Rattle.std.proofs.Common.{Some, None, List, [], ◌∷◌, ◌++◌, length, set, slice_get, refl, sym, ap, subst, ◌∙◌, arith}
use Rattle.std.specs.List.{list_any}
use Rattle.std.proofs.Math.Bool.{or-false, and-false}
use Rattle.std.specs.Option.{option_map_or}
use Rattle.std.proofs.lemmas.Bool.{eqb-true, eqb-false, ne_eqb, eq-eqb, ltb-true, ltb-false, lt-ltb, le-ltb}
use Rattle.std.proofs.lemmas.List.Folds.{list_any-append}
use Rattle.std.proofs.lemmas.Option.{same_Some, slice_get_within, slice_get_past}
use Rattle.zk_base.specs.declared.kinds.Kind.TheVariants as kinds
use Rattle.zk_base.specs.Limits.{most_players}
use Rattle.zk_model_bus.specs.declared.table.TableOp.TheVariants as ops
use Rattle.zk_model_bus.specs.Table.{Setup, new_table, IsSetup, is_thread, is_declared, begins_ready}
use Rattle.zk_objects.specs.declared.object.Object.{Object}
use Rattle.zk_objects.specs.First.{allowing, declares_user, IsFirstThread, AreFirst}
use Rattle.zk_objects.specs.Kept.{IsObject, IsStateOf, IsChanged, AreChanged}
use Rattle.zk_player_set.specs.Players.{has}
use Rattle.zk_objects.specs.Players.{Marked}
use Rattle.zk_objects.proofs.Standing.{past-none}

declares-past : (threads : List (ℕ × Bool)) (player : ℕ) → length threads ≤ player → declares_user threads player ≡ false
declares-past threads player past =
    ap (λ (d : Option (ℕ × Bool)). option_map_or (λ (t : ℕ × Bool). t.1) d false) (slice_get_past threads player past)

next : (a b : ℕ) → a ≤ b → (a ≡ b → ⊥) → a + 1 ≤ b
next a b ge ne = grind arith

below : (a b : ℕ) → a < b + 1 → (a ≡ b → ⊥) → a < b
below a b le ne = grind arith

-- the set of the first players has those of which a test holds: one player more
more-so : (test : ℕ → Bool) (i p : ℕ) → ((ltb p i && test p) || (eqb i p && test i)) ≡ (ltb p (i + 1) && test p)
more-so test i p = by (ltb p i) refl (eqb i p) refl where
  by : (before : Bool) → ltb p i ≡ before → (here : Bool) → eqb i p ≡ here →
      ((before && test p) || (here && test i)) ≡ (ltb p (i + 1) && test p)
  by true less true same = let lt = ltb-true p i less in let eq = eqb-true i p same in absurd (omega arith)
  by true less false other =
      let lt = ltb-true p i less in
      or-false (test p) ∙ ap (λ (b : Bool). b && test p) (sym (lt-ltb p (i + 1) (omega arith)))
  by false more true same =
      let eq = eqb-true i p same in
      ap test eq ∙ ap (λ (b : Bool). b && test p) (sym (lt-ltb p (i + 1) (omega arith)))
  by false more false other =
      let ge = ltb-false p i more in
      let ne = eqb-false i p other in
      ap (λ (b : Bool). b && test p) (sym (le-ltb p (i + 1) (next i p ge ne)))

pub one-more : (test : ℕ → Bool) (i p : ℕ) (before : Bool) → i < most_players → test i ≡ true → before ≡ (ltb p i && test p) →
    (before || (eqb i p && ltb i most_players)) ≡ (ltb p (i + 1) && test p)
one-more test i p before small holds is =
    ap (λ (b : Bool). before || (eqb i p && b)) (lt-ltb i most_players small ∙ sym holds)
    ∙ ap (λ (b : Bool). b || (eqb i p && test i)) is ∙ more-so test i p

pub none-more : (test : ℕ → Bool) (i p : ℕ) (before : Bool) → test i ≡ false → before ≡ (ltb p i && test p) →
    before ≡ (ltb p (i + 1) && test p)
none-more test i p before fails is =
    is ∙ sym (or-false (ltb p i && test p)) ∙ ap (λ (b : Bool). (ltb p i && test p) || b) (sym (and-false (eqb i p)))
    ∙ ap (λ (b : Bool). (ltb p i && test p) || (eqb i p && b)) (sym fails) ∙ more-so test i p

-- and all players
pub all-seen : (test : ℕ → Bool) (i p : ℕ) (before : Bool) → most_players ≤ i → i ≤ most_players → before ≡ (ltb p i && test p) →
    before ≡ (ltb p most_players && test p)
all-seen test i p before least most is = let end : i ≡ most_players = omega arith in is ∙ ap (λ (n : ℕ). ltb p n && test p) end

-- a test that holds of none above those that a scenario can have
within-limit : (test : Bool) (player : ℕ) → (most_players ≤ player → test ≡ false) → (ltb player most_players && test) ≡ test
within-limit test player none = by (ltb player most_players) refl where
  by : (low : Bool) → ltb player most_players ≡ low → (low && test) ≡ test
  by true small = refl
  by false big = sym (none (ltb-false player most_players big))

-- the player is the thread of this object, or there is no such thread among the first so many
abbrev pub IsThreadBelow : ℕ → List (ℕ × Bool) → ℕ → ℕ → Type 0
IsThreadBelow count threads object player =
    ((declared : ℕ × Bool) × (slice_get threads player ≡ Some declared) × (declared.0 ≡ object))
    ⊎ ((other : ℕ) (declared : ℕ × Bool) → other < count → slice_get threads other ≡ Some declared → declared.0 ≡ object → ⊥)

-- a list after one of its places is set
set-read : (xs : List ℕ) (i x j y : ℕ) → slice_get (set xs i x) j ≡ Some y →
    ((i ≡ j) × (x ≡ y)) ⊎ ((i ≡ j → ⊥) × (slice_get xs j ≡ Some y))
set-read [] i x j y has = absurd (cc)
set-read (z ∷ zs) zero x zero y has = inl (refl, same_Some x y has)
set-read (z ∷ zs) zero x (suc j) y has = inr (λ same. omega arith, has)
set-read (z ∷ zs) (suc i) x zero y has = inr (λ same. omega arith, has)
set-read (z ∷ zs) (suc i) x (suc j) y has = by (set-read zs i x j y has) where
  by : ((i ≡ j) × (x ≡ y)) ⊎ ((i ≡ j → ⊥) × (slice_get zs j ≡ Some y)) →
      ((suc i ≡ suc j) × (x ≡ y)) ⊎ ((suc i ≡ suc j → ⊥) × (slice_get zs j ≡ Some y))
  by (inl own) = inl (ap suc own.0, own.1)
  by (inr other) = inr (λ same. other.0 (omega arith), other.1)

-- the players by object number, once one more thread is noted, and after the last one
pub noted-more : (threads : List (ℕ × Bool)) (i : ℕ) (thread : ℕ × Bool) (players : List ℕ) → slice_get threads i ≡ Some thread →
    ((object player : ℕ) → slice_get players object ≡ Some player → IsThreadBelow i threads object player) →
    (object player : ℕ) → slice_get (set players thread.0 i) object ≡ Some player → IsThreadBelow (i + 1) threads object player
noted-more threads i thread players here before object player has = by (set-read players thread.0 i object player has) where
  later : (thread.0 ≡ object → ⊥) →
      ((other : ℕ) (declared : ℕ × Bool) → other < i → slice_get threads other ≡ Some declared → declared.0 ≡ object → ⊥) →
      (other : ℕ) (declared : ℕ × Bool) → other < i + 1 → slice_get threads other ≡ Some declared → declared.0 ≡ object → ⊥
  later apart none other declared less is own = test (eqb other i) refl where
    test : (b : Bool) → eqb other i ≡ b → ⊥
    test true same =
        let one = same_Some declared thread (sym is ∙ ap (slice_get threads) (eqb-true other i same) ∙ here) in
        apart (ap (λ (t : ℕ × Bool). t.0) (sym one) ∙ own)
    test false differ = none other declared (below other i less (eqb-false other i differ)) is own

  further : (thread.0 ≡ object → ⊥) → IsThreadBelow i threads object player → IsThreadBelow (i + 1) threads object player
  further apart (inl found) = inl found
  further apart (inr none) = inr (later apart none)

  by : ((thread.0 ≡ object) × (i ≡ player)) ⊎ ((thread.0 ≡ object → ⊥) × (slice_get players object ≡ Some player)) →
      IsThreadBelow (i + 1) threads object player
  by (inl own) = inl (thread, sym (ap (slice_get threads) own.1) ∙ here, own.0)
  by (inr other) = further other.0 (before object player other.1)

pub all-noted : (threads : List (ℕ × Bool)) (i object player : ℕ) → length threads ≤ i → IsThreadBelow i threads object player →
    IsFirstThread threads object player
all-noted threads i object player past (inl found) = inl found
all-noted threads i object player past (inr none) =
    inr (λ other declared is own. let within = slice_get_within threads other declared is in
    none other declared (omega arith) is own)

-- the thread of an object, where it is one
thread-found : (setup : Setup) (object player : ℕ) → IsSetup setup → IsFirstThread setup.threads object player →
    slice_get setup.kinds object ≡ Some kinds.Thread →
    (player < most_players) × ((p : ℕ) → is_thread setup p object ≡ eqb player p)
thread-found setup object player is (inr none) kind =
    let there = is.each object kind in absurd (none there.0 there.1 there.2 there.3)
thread-found setup object player is (inl found) kind =
    let within = slice_get_within setup.threads player found.0 found.1 in
    let few = is.few in
    (omega arith, λ p. by p (slice_get setup.threads p) refl) where
      by : (p : ℕ) (d : Option (ℕ × Bool)) → slice_get setup.threads p ≡ d →
          option_map_or (λ (t : ℕ × Bool). eqb t.0 object) d false ≡ eqb player p
      by p None none =
          sym (ne_eqb player p (λ same. absurd (let both = sym found.1 ∙ ap (slice_get setup.threads) same ∙ none in cc)))
      by p (Some d) has = test (eqb d.0 object) refl where
        test : (b : Bool) → eqb d.0 object ≡ b → b ≡ eqb player p
        test true same = sym (eq-eqb player p (is.once player p found.0 d found.1 has (found.2 ∙ sym (eqb-true d.0 object same))))
        test false other = sym (ne_eqb player p (λ same.
            let eq : Some found.0 ≡ Some d = sym found.1 ∙ ap (slice_get setup.threads) same ∙ has in
            let own : d.0 ≡ object = ap (λ (t : ℕ × Bool). t.0) (sym (same_Some found.0 d eq)) ∙ found.2 in
            absurd (let both = sym other ∙ eq-eqb d.0 object own in cc)))

-- one object before any permission is given
pub first-object : (setup : Setup) (object : ℕ) (x : Object) → IsSetup setup → slice_get setup.kinds object ≡ Some x.kind →
    ((player : ℕ) → has x.granted player ≡ false) → x.public ≡ false →
    slice_get setup.ready object ≡ Some x.ready → IsFirstThread setup.threads object x.player →
    IsObject (new_table (allowing [] setup)) object x
first-object setup object x is kind none public ready thread = record {
  kind = kind;
  granted = none;
  public = public;
  ready = ap (λ (r : Option Bool). option_map_or (λ (b : Bool). b) r false) (sym ready)
      ∙ sym (or-false (begins_ready setup object));
  small = λ is-thread. (thread-found setup object x.player is thread (kind ∙ ap Some is-thread)).0;
  thread = λ is-thread p. (thread-found setup object x.player is thread (kind ∙ ap Some is-thread)).1 p;
}

-- one permission more is declared
one-allowed : (setup : Setup) (before : List (ℕ × ℕ)) (a : ℕ × ℕ) (player object : ℕ) →
    is_declared (allowing (before ++ a ∷ []) setup) player object
    ≡ (is_declared (allowing before setup) player object || (eqb a.0 player && eqb a.1 object))
one-allowed setup before a player object =
    let test : ℕ × ℕ → Bool = λ b. eqb b.0 player && eqb b.1 object in
    list_any-append test before (a ∷ []) ∙ ap (λ (b : Bool). list_any test before || b) (or-false (test a))

-- the object that it names, once it is given, and any other
given-object : (setup : Setup) (before : List (ℕ × ℕ)) (a : ℕ × ℕ) (object : ℕ) (x y : Object) → a.0 < most_players →
    eqb a.1 object ≡ true →
    IsObject (new_table (allowing before setup)) object x → IsChanged a.0 (ops.Grant 0 a.1) x y →
    IsObject (new_table (allowing (before ++ a ∷ []) setup)) object y
given-object setup before a object x y small own is made = record {
  kind = is.kind ∙ ap Some (sym made.kind);
  granted = λ player.
      made.granted player
      ∙ ap (λ (b : Bool). b || (eqb a.0 player && ltb a.0 most_players)) (is.granted player)
      ∙ ap (λ (b : Bool). is_declared (allowing before setup) player object || (eqb a.0 player && b))
      (lt-ltb a.0 most_players small ∙ sym own)
      ∙ sym (one-allowed setup before a player object);
  public = made.public ∙ or-false x.public ∙ is.public;
  ready = made.ready ∙ or-false x.ready ∙ is.ready;
  small = λ thread. subst (λ (n : ℕ). n < most_players) (sym made.player) (is.small (sym made.kind ∙ thread));
  thread = λ thread player. is.thread (sym made.kind ∙ thread) player ∙ ap (λ (n : ℕ). eqb n player) (sym made.player);
}

other-object : (setup : Setup) (before : List (ℕ × ℕ)) (a : ℕ × ℕ) (object : ℕ) (x : Object) → eqb a.1 object ≡ false →
    IsObject (new_table (allowing before setup)) object x → IsObject (new_table (allowing (before ++ a ∷ []) setup)) object x
other-object setup before a object x miss is = record {
  kind = is.kind;
  granted = λ player.
      let was = is_declared (allowing before setup) player object in
      is.granted player ∙ sym (or-false was)
      ∙ ap (λ (b : Bool). was || b) (sym (and-false (eqb a.0 player)) ∙ ap (λ (b : Bool). eqb a.0 player && b) (sym miss))
      ∙ sym (one-allowed setup before a player object);
  public = is.public;
  ready = is.ready;
  small = is.small;
  thread = is.thread;
}

-- all objects, once it is given
pub allowed-more : (setup : Setup) (before : List (ℕ × ℕ)) (a : ℕ × ℕ) (xs ys : List Object) → a.0 < most_players →
    AreFirst (allowing before setup) xs →
    AreChanged a.0 (ops.Grant 0 a.1) xs ys → AreFirst (allowing (before ++ a ∷ []) setup) ys
allowed-more setup before a xs ys small first made = record { long = made.long ∙ first.long; each = each } where
  after : Setup
  after = allowing (before ++ a ∷ []) setup

  own : (object : ℕ) (y : Object) → eqb a.1 object ≡ true → slice_get ys object ≡ Some y → (kept : Option Object) →
      slice_get xs object ≡ kept → IsObject (new_table after) object y
  own object y is has None none =
      let past = past-none xs object none in
      let within = slice_get_within ys object y has in
      let long = made.long in
      absurd (omega arith)
  own object y is has (Some x) there =
      given-object setup before a object x y small is (first.each object x there)
      (made.own object x y (ap Some (eqb-true a.1 object is)) there has)

  each : (object : ℕ) (y : Object) → slice_get ys object ≡ Some y → IsObject (new_table after) object y
  each object y has = by (eqb a.1 object) refl where
    by : (b : Bool) → eqb a.1 object ≡ b → IsObject (new_table after) object y
    by true is = own object y is has (slice_get xs object) refl
    by false miss =
        let same = made.others object (λ named. eqb-false a.1 object miss (same_Some a.1 object named)) in
        other-object setup before a object y miss (first.each object y (sym same ∙ has))

-- one object more behind the others
last-object : (xs : List Object) (y x : Object) (i : ℕ) → slice_get (xs ++ y ∷ []) i ≡ Some x →
    (slice_get xs i ≡ Some x) ⊎ ((i ≡ length xs) × (y ≡ x))
last-object [] y x zero has = inr (refl, same_Some y x has)
last-object [] y x (suc i) has = absurd (cc)
last-object (z ∷ zs) y x zero has = inl has
last-object (z ∷ zs) y x (suc i) has = by (last-object zs y x i has) where
  by : (slice_get zs i ≡ Some x) ⊎ ((i ≡ length zs) × (y ≡ x)) →
      (slice_get (z ∷ zs) (suc i) ≡ Some x) ⊎ ((suc i ≡ length (z ∷ zs)) × (y ≡ x))
  by (inl here) = inl here
  by (inr last) = inr (ap suc last.0, last.1)

pub objects-more : (setup : Setup) (xs : List Object) (y : Object) → IsObject (new_table setup) (length xs) y →
    ((object : ℕ) (x : Object) → slice_get xs object ≡ Some x → IsObject (new_table setup) object x) →
    (object : ℕ) (x : Object) → slice_get (xs ++ y ∷ []) object ≡ Some x → IsObject (new_table setup) object x
objects-more setup xs y is each object x has = by (last-object xs y x object has) where
  by : (slice_get xs object ≡ Some x) ⊎ ((object ≡ length xs) × (y ≡ x)) → IsObject (new_table setup) object x
  by (inl here) = each object x here
  by (inr last) =
      subst (IsObject (new_table setup) object) last.1 (subst (λ (o : ℕ). IsObject (new_table setup) o y) (sym last.0) is)

-- the table before the first entry
pub stands-first : (setup : Setup) (objects : List Object) (users dead : Marked) → IsSetup setup → AreFirst setup objects →
    ((player : ℕ) → has users.within player ≡ (ltb player most_players && declares_user setup.threads player)) →
    users.above ≡ [] →
    ((player : ℕ) → has dead.within player ≡ false) → dead.above ≡ [] → IsStateOf objects users dead (new_table setup)
stands-first setup objects users dead is first declared none-users alive none-dead = record {
  long = first.long;
  each = first.each;
  of_users = λ player.
      ap (λ (above : List ℕ). has users.within player || list_any (λ (k : ℕ). eqb k player) above) none-users
      ∙ ap (λ (b : Bool). b || false) (declared player
      ∙ within-limit (declares_user setup.threads player) player (λ big. let few = is.few in
      declares-past setup.threads player (omega arith)));
  of_dead = λ player.
      ap (λ (above : List ℕ). has dead.within player || list_any (λ (k : ℕ). eqb k player) above) none-dead
      ∙ ap (λ (b : Bool). b || false) (alive player);
}
