-- What is kept of the objects stands for the state of the table, and goes on to do so.
use Rattle.std.proofs.Common.{◌≡◌, ℕ, zero, suc, ◌<◌, ◌≤◌, Bool, true, false, not, eqb, ltb, cond, ◌&&◌, ◌||◌, Option, Some, None}
use Rattle.std.proofs.Common.{List, [], ◌∷◌, ◌++◌, length, slice_get, refl, sym, ap, subst, ◌∙◌, arith}
use Rattle.std.specs.Cmp.{first_so}
use Rattle.std.specs.List.{list_any}
use Rattle.std.proofs.Math.Bool.{or_assoc, or-false, or-true, and-false, and-true}
use Rattle.std.specs.Option.{option_map_or}
use Rattle.std.proofs.lemmas.Bool.{eqb-true, eqb-false, ltb-true, lt-ltb}
use Rattle.std.proofs.lemmas.List.Folds.{list_any-append}
use Rattle.std.proofs.lemmas.List.Sums.{fold-append}
use Rattle.std.proofs.lemmas.Option.{same_Some, slice_get_within, slice_get_past}
use Rattle.zk_base.specs.Limits.{most_players}
use Rattle.zk_base.specs.declared.ids.Who.{Who}
use Rattle.zk_base.specs.declared.kinds.Kind.{Kind}
use Rattle.zk_base.specs.declared.kinds.Kind.TheVariants as kinds
use Rattle.zk_base.specs.declared.kinds.Need.{Need}
use Rattle.zk_base.specs.declared.kinds.Need.TheVariants as needs
use Rattle.zk_model_bus.specs.declared.table.OopsWhy.{OopsWhy}
use Rattle.zk_model_bus.specs.declared.table.OopsWhy.TheVariants.{WrongKind, NotGranted, NotInit}
use Rattle.zk_model_bus.specs.declared.table.TableEntry.{TableEntry}
use Rattle.zk_model_bus.specs.declared.table.TableOp.{TableOp}
use Rattle.zk_model_bus.specs.declared.table.TableOp.TheVariants as ops
use Rattle.zk_model_bus.specs.declared.table.TableReply.{TableReply}
use Rattle.zk_model_bus.specs.declared.table.TableReply.TheVariants.{Done, Already, Oops}
use Rattle.zk_model_bus.specs.Table.{Setup, Table, has_kind, is_thread, is_declared, said, is_allowed, publishes, is_public}
use Rattle.zk_model_bus.specs.Table.{initialises, begins_ready, was_initialised, is_ready, enters, begins_as_user}
use Rattle.zk_model_bus.specs.Table.{has_entered_user_mode, is_user, is_oops, is_dead, is_for, may, check_reply, answer}
use Rattle.zk_model_bus.specs.Table.{table_reply, entry_of, table_next, is_object, names_objects}
use Rattle.zk_base.specs.Kinds.{meets, is_any}
use Rattle.zk_objects.specs.declared.object.Object.{Object}
use Rattle.zk_player_set.specs.Players.{has}
use Rattle.zk_objects.specs.Players.{Marked, is_marked}
use Rattle.zk_objects.specs.Kept.{IsObject, IsStateOf, object_reply, init_reply, answered, target_of, object_of, granted_after}
use Rattle.zk_objects.specs.Kept.{makes_public, makes_ready, IsChanged, AreChanged}

-- One entry more.

any-snoc : (test : TableEntry → Bool) (es : List TableEntry) (e : TableEntry) →
    list_any test (es ++ e ∷ []) ≡ (list_any test es || test e)
any-snoc test es e = list_any-append test es (e ∷ []) ∙ ap (λ (b : Bool). list_any test es || b) (or-false (test e))

allowed-next : (t : Table) (who : Who) (op : TableOp) (player object : ℕ) →
    is_allowed (table_next t who op) player object ≡ said t.setup player object (is_allowed t player object) who.number op
allowed-next t who op player object =
    fold-append (λ (before : Bool) (e : TableEntry). said t.setup player object before e.player e.op)
    (is_declared t.setup player object) t.entries (entry_of t who op ∷ [])

public-next : (t : Table) (who : Who) (op : TableOp) (object : ℕ) →
    is_public (table_next t who op) object ≡ (is_public t object || publishes object op)
public-next t who op object = any-snoc (λ (e : TableEntry). publishes object e.op) t.entries (entry_of t who op)

ready-next : (t : Table) (who : Who) (op : TableOp) (object : ℕ) →
    is_ready (table_next t who op) object ≡ (is_ready t object || initialises object op)
ready-next t who op object =
    ap (λ (b : Bool). begins_ready t.setup object || b) (any-snoc (λ (e : TableEntry). initialises object e.op) t.entries
    (entry_of t who op))
    ∙ sym (or_assoc (begins_ready t.setup object) (was_initialised t object) (initialises object op))

user-next : (t : Table) (who : Who) (op : TableOp) (player : ℕ) →
    is_user (table_next t who op) player ≡ (is_user t player || (eqb who.number player && enters op))
user-next t who op player =
    ap (λ (b : Bool). begins_as_user t.setup player
    || b) (any-snoc (λ (e : TableEntry). eqb e.player player && enters e.op) t.entries (entry_of t who op))
    ∙ sym (or_assoc (begins_as_user t.setup player) (has_entered_user_mode t player) (eqb who.number player && enters op))

dead-next : (t : Table) (who : Who) (op : TableOp) (player : ℕ) →
    is_dead (table_next t who op) player ≡ (is_dead t player || (eqb who.number player && is_oops (answer t who.number op)))
dead-next t who op player = any-snoc (λ (e : TableEntry). eqb e.player player && is_oops e.reply) t.entries (entry_of t who op)

pub past-none : (xs : List Object) (i : ℕ) → slice_get xs i ≡ None → length xs ≤ i
past-none [] i none = omega arith
past-none (x ∷ xs) zero none = absurd (cc)
past-none (x ∷ xs) (suc i) none = let rest = past-none xs i none in omega arith

-- What is answered.

object-told : (t : Table) (objects : List Object) (users dead : Marked) (object : ℕ) (player : ℕ) (need : Need) →
    IsStateOf objects users dead t → (kept : Option Object) → slice_get objects object ≡ kept →
    object_reply player need kept ≡ check_reply t player (Some object) need
object-told t objects users dead object player need stands None none =
    let past = past-none objects object none in
    let no-kind : slice_get t.setup.kinds object
    ≡ None = slice_get_past t.setup.kinds object (let long = stands.long in omega arith) in
    ap (λ (k : Option Kind). cond (not (option_map_or (meets need) k false)) (Oops WrongKind)
    (cond (not (is_allowed t player object || is_public t object)) (Oops NotGranted)
    (cond (not (is_any need || is_ready t object)) (Oops NotInit) Done))) (sym no-kind)
object-told t objects users dead object player need stands (Some x) has =
    let is = stands.each object x has in
    let tests : Bool → Bool → Bool →
    TableReply = λ k g i. cond (not k) (Oops WrongKind) (cond (not g) (Oops NotGranted) (cond (not i) (Oops NotInit) Done)) in
    ap (λ (g : Bool). tests (meets need x.kind) (g || x.public) (is_any need || x.ready)) (is.granted player)
    ∙ ap (λ (p : Bool). tests (meets need x.kind) (is_allowed t player object || p) (is_any need || x.ready)) is.public
    ∙ ap (λ (r : Bool). tests (meets need x.kind) (is_allowed t player object || is_public t object) (is_any need || r)) is.ready
    ∙ ap (λ (k : Option Kind). tests (option_map_or (meets need) k false) (is_allowed t player object || is_public t object)
    (is_any need || is_ready t object)) (sym is.kind)

init-told : (t : Table) (objects : List Object) (users dead : Marked) (object : ℕ) → IsStateOf objects users dead t →
    object < length t.setup.kinds → (kept : Option Object) → slice_get objects object ≡ kept →
    init_reply kept ≡ cond (is_ready t object) Already Done
init-told t objects users dead object stands below None none =
    let past = past-none objects object none in
    let long = stands.long in
    absurd (omega arith)
init-told t objects users dead object stands below (Some x) has =
    ap (λ (r : Bool). cond r Already Done) (stands.each object x has).ready

answer-so : (t : Table) (objects : List Object) (users dead : Marked) (player : ℕ) (op : TableOp) →
    IsStateOf objects users dead t → names_objects t.setup op ≡ true →
    answered objects player op ≡ answer t player op
answer-so t objects users dead player (ops.Check None need) stands range = refl
answer-so t objects users dead player (ops.Check (Some object) need) stands range =
    object-told t objects users dead object player need stands (slice_get objects object) refl
answer-so t objects users dead player (ops.Init object) stands range =
    init-told t objects users dead object stands (ltb-true object (length t.setup.kinds) range) (slice_get objects object) refl
answer-so t objects users dead player (ops.Grant thread object) stands range = refl
answer-so t objects users dead player (ops.Revoke thread object) stands range = refl
answer-so t objects users dead player (ops.Release object) stands range = refl
answer-so t objects users dead player (ops.Public object) stands range = refl
answer-so t objects users dead player ops.EnterUser stands range = refl

-- Whose permission an operation changes.

kind-thread : (kind : Kind) → meets needs.Thread kind ≡ true → kind ≡ kinds.Thread
kind-thread kinds.Thread is = refl
kind-thread kind is = absurd (cc)

thread-kind : (kind : Option Kind) → option_map_or (meets needs.Thread) kind false ≡ true → kind ≡ Some kinds.Thread
thread-kind (Some kind) is = ap Some (kind-thread kind is)
thread-kind None is = absurd (cc)

thread-so : (t : Table) (objects : List Object) (users dead : Marked) (thread player : ℕ) → IsStateOf objects users dead t →
    has_kind t.setup thread needs.Thread ≡ true → (kept : Option Object) → slice_get objects thread ≡ kept →
    (option_map_or (λ (x : Object). x.player) kept most_players < most_players)
    × (is_thread t.setup player thread ≡ eqb (option_map_or (λ (x : Object). x.player) kept most_players) player)
thread-so t objects users dead thread player stands range None none =
    let is = thread-kind (slice_get t.setup.kinds thread) range in
    let within = slice_get_within t.setup.kinds thread kinds.Thread is in
    let past = past-none objects thread none in
    let long = stands.long in
    absurd (omega arith)
thread-so t objects users dead thread player stands range (Some x) has =
    let kept = stands.each thread x has in
    let is : x.kind ≡ kinds.Thread = same_Some x.kind kinds.Thread
    (sym kept.kind ∙ thread-kind (slice_get t.setup.kinds thread) range) in
    (kept.small is, kept.thread is player)

-- The object that an operation changes, and the others.

-- the operation changes this object
abbrev hits : ℕ → TableOp → Bool
hits object op = option_map_or (λ (own : ℕ). eqb own object) (object_of op) false

missed : (setup : Setup) (player object : ℕ) (before : Bool) (by : ℕ) (op : TableOp) → hits object op ≡ false →
    (said setup player object before by op ≡ before) × (publishes object op ≡ false) × (initialises object op ≡ false)
missed setup player object before by (ops.Check named need) miss = (refl, refl, refl)
missed setup player object before by (ops.Grant thread own) miss = (
  ap (λ (b : Bool). cond (is_thread setup player thread && b) true before) miss
      ∙ ap (λ (b : Bool). cond b true before) (and-false (is_thread setup player thread)),
  refl,
  refl,
)
missed setup player object before by (ops.Revoke thread own) miss = (
  ap (λ (b : Bool). cond (is_thread setup player thread && b) false before) miss
      ∙ ap (λ (b : Bool). cond b false before) (and-false (is_thread setup player thread)),
  refl,
  refl,
)
missed setup player object before by (ops.Release own) miss = (
  ap (λ (b : Bool). cond (eqb by player && b) false before) miss
      ∙ ap (λ (b : Bool). cond b false before) (and-false (eqb by player)),
  refl,
  refl,
)
missed setup player object before by (ops.Public own) miss = (refl, miss, refl)
missed setup player object before by (ops.Init own) miss = (refl, refl, miss)
missed setup player object before by ops.EnterUser miss = (refl, refl, refl)

-- an object that an operation doesn't change
missed-object : (t : Table) (who : Who) (op : TableOp) (object : ℕ) (x : Object) → IsObject t object x → hits object op ≡ false →
    IsObject (table_next t who op) object x
missed-object t who op object x is miss = record {
  kind = is.kind;
  granted = λ player. is.granted player ∙ sym (missed t.setup player object (is_allowed t player object) who.number op miss).0
      ∙ sym (allowed-next t who op player object);
  public = is.public ∙ sym (or-false (is_public t object))
      ∙ ap (λ (b : Bool). is_public t object || b) (sym (missed t.setup 0 object false who.number op miss).1)
      ∙ sym (public-next t who op object);
  ready = is.ready ∙ sym (or-false (is_ready t object))
      ∙ ap (λ (b : Bool). is_ready t object || b) (sym (missed t.setup 0 object false who.number op miss).2)
      ∙ sym (ready-next t who op object);
  small = is.small;
  thread = is.thread;
}

-- what an operation says of a permission on the object that it changes

given-so : (before thread own small hit : Bool) → thread ≡ own → small ≡ true → hit ≡ true →
    (before || (own && small)) ≡ cond (thread && hit) true before
given-so before thread true true true is low here = or-true before ∙ ap (λ (b : Bool). cond (b && true) true before) (sym is)
given-so before thread false true true is low here = or-false before ∙ ap (λ (b : Bool). cond (b && true) true before) (sym is)
given-so before thread own false hit is low here = absurd (cc)
given-so before thread own small false is low here = absurd (cc)

taken-so : (before thread own hit : Bool) → thread ≡ own → hit ≡ true → (before && not own) ≡ cond (thread && hit) false before
taken-so before thread true true is here = and-false before ∙ ap (λ (b : Bool). cond (b && true) false before) (sym is)
taken-so before thread false true is here = and-true before ∙ ap (λ (b : Bool). cond (b && true) false before) (sym is)
taken-so before thread own false is here = absurd (cc)

said-so : (t : Table) (objects : List Object) (users dead : Marked) (by : ℕ) (op : TableOp) (player object : ℕ) (before : Bool) →
    IsStateOf objects users dead t → names_objects t.setup op ≡ true →
    hits object op ≡ true → granted_after (target_of objects by op) op player before ≡ said t.setup player object before by op
said-so t objects users dead by (ops.Grant thread own) player object before stands range hit =
    let known = first_so (has_kind t.setup thread needs.Thread) (is_object t.setup own) range in
    let is = thread-so t objects users dead thread player stands known (slice_get objects thread) refl in
    let target = target_of objects by (ops.Grant thread own) in
    given-so before (is_thread t.setup player thread) (eqb target player) (ltb target most_players) (eqb own object) is.1
    (lt-ltb target most_players is.0) hit
said-so t objects users dead by (ops.Revoke thread own) player object before stands range hit =
    let known = first_so (has_kind t.setup thread needs.Thread) (is_object t.setup own) range in
    let is = thread-so t objects users dead thread player stands known (slice_get objects thread) refl in
    taken-so before (is_thread t.setup player thread) (eqb (target_of objects by (ops.Revoke thread own)) player)
    (eqb own object) is.1 hit
said-so t objects users dead by (ops.Release own) player object before stands range hit =
    taken-so before (eqb by player) (eqb by player) (eqb own object) refl hit
said-so t objects users dead by op player object before stands range hit = refl

-- and of its flags
flags-so : (object : ℕ) (op : TableOp) → hits object op ≡ true →
    (makes_public op ≡ publishes object op) × (makes_ready op ≡ initialises object op)
flags-so object (ops.Public own) hit = (sym hit, refl)
flags-so object (ops.Init own) hit = (refl, sym hit)
flags-so object op hit = (refl, refl)

-- the object that an operation changes
hit-object : (t : Table) (objects : List Object) (users dead : Marked) (who : Who) (op : TableOp) (object : ℕ) (x y : Object) →
    IsStateOf objects users dead t → names_objects t.setup op ≡ true →
    IsObject t object x → hits object op ≡ true → IsChanged (target_of objects who.number op) op x y →
    IsObject (table_next t who op) object y
hit-object t objects users dead who op object x y stands range is hit made = record {
  kind = is.kind ∙ ap Some (sym made.kind);
  granted = λ player.
      made.granted player ∙ said-so t objects users dead who.number op player object (has x.granted player) stands range hit
      ∙ ap (λ (b : Bool). said t.setup player object b who.number op) (is.granted player)
      ∙ sym (allowed-next t who op player object);
  public =
      made.public ∙ ap (λ (b : Bool). b || makes_public op) is.public
      ∙ ap (λ (b : Bool). is_public t object || b) (flags-so object op hit).0 ∙ sym (public-next t who op object);
  ready = made.ready ∙ ap (λ (b : Bool). b || makes_ready op) is.ready
      ∙ ap (λ (b : Bool). is_ready t object || b) (flags-so object op hit).1 ∙ sym (ready-next t who op object);
  small = λ thread. subst (λ (n : ℕ). n < most_players) (sym made.player) (is.small (sym made.kind ∙ thread));
  thread = λ thread player. is.thread (sym made.kind ∙ thread) player ∙ ap (λ (n : ℕ). eqb n player) (sym made.player);
}

-- All objects after an operation.

own-hits : (op : TableOp) (own object : ℕ) (b : Bool) → object_of op ≡ Some own → eqb own object ≡ b → hits object op ≡ b
own-hits op own object b is same = ap (λ (o : Option ℕ). option_map_or (λ (k : ℕ). eqb k object) o false) is ∙ same

each-after : (t : Table) (objects after : List Object) (users dead : Marked) (who : Who) (op : TableOp) →
    IsStateOf objects users dead t → names_objects t.setup op ≡ true →
    AreChanged (target_of objects who.number op) op objects after → (object : ℕ) (y : Object) → slice_get after object ≡ Some y →
    IsObject (table_next t who op) object y
each-after t objects after users dead who op stands range made object y has = by (object_of op) refl where
  other : (object_of op ≡ Some object → ⊥) → hits object op ≡ false → IsObject (table_next t who op) object y
  other apart miss = missed-object t who op object y (stands.each object y (sym (made.others object apart) ∙ has)) miss

  changed : object_of op ≡ Some object → hits object op ≡ true → (kept : Option Object) → slice_get objects object ≡ kept →
      IsObject (table_next t who op) object y
  changed own hit None none =
      let past = past-none objects object none in
      let within = slice_get_within after object y has in
      let long = made.long in
      absurd (omega arith)
  changed own hit (Some x) there =
      hit-object t objects users dead who op object x y stands range (stands.each object x there) hit
      (made.own object x y own there has)

  split : (at : ℕ) → object_of op ≡ Some at → (b : Bool) → eqb at object ≡ b → IsObject (table_next t who op) object y
  split at own true same =
      changed (own ∙ ap Some (eqb-true at object same)) (own-hits op at object true own same) (slice_get objects object) refl
  split at own false differ =
      other (λ named. eqb-false at object differ (same_Some at object (sym own ∙ named))) (own-hits op at object false own differ)

  by : (named : Option ℕ) → object_of op ≡ named → IsObject (table_next t who op) object y
  by None none =
      other (λ named. absurd (let both = sym none ∙ named in cc)) (ap
      (λ (o : Option ℕ). option_map_or (λ (k : ℕ). eqb k object) o false) none)
  by (Some at) own = split at own (eqb at object) refl

-- what is kept stands for the next state, where it has the change of the operation
pub stands-next : (t : Table) (objects after : List Object) (users dead users' dead' : Marked) (who : Who) (op : TableOp) →
    IsStateOf objects users dead t → names_objects t.setup op ≡ true →
    AreChanged (target_of objects who.number op) op objects after →
    ((player : ℕ) → is_marked users' player ≡ (is_marked users player || (eqb who.number player && enters op))) →
    ((player : ℕ) → is_marked dead' player ≡ (is_marked dead player
    || (eqb who.number player && is_oops (answered objects who.number op)))) →
    IsStateOf after users' dead' (table_next t who op)
stands-next t objects after users dead users' dead' who op stands range made users-so dead-so = record {
  long = made.long ∙ stands.long;
  each = each-after t objects after users dead who op stands range made;
  of_users = λ player. users-so player ∙ ap (λ (b : Bool). b || (eqb who.number player && enters op)) (stands.of_users player)
      ∙ sym (user-next t who op player);
  of_dead = λ player.
      dead-so player
      ∙ ap (λ (b : Bool). b || (eqb who.number player && is_oops (answered objects who.number op))) (stands.of_dead player)
      ∙ ap (λ (r : TableReply). is_dead t player || (eqb who.number player && is_oops r))
      (answer-so t objects users dead who.number op stands range)
      ∙ sym (dead-next t who op player);
}

may-so : (t : Table) (objects : List Object) (users dead : Marked) (player : ℕ) (op : TableOp) → IsStateOf objects users dead t →
    (not (is_marked dead player) && is_for (is_marked users player) op) ≡ may t player op
may-so t objects users dead player op stands =
    ap (λ (b : Bool). not b && is_for (is_marked users player) op) (stands.of_dead player)
    ∙ ap (λ (b : Bool). not (is_dead t player) && is_for b op) (stands.of_users player)

may-true : (dead mode : Bool) → dead ≡ false → mode ≡ true → (not dead && mode) ≡ true
may-true true mode alive is = absurd (cc)
may-true false mode alive is = is

-- what a caller that isn't dead and in whose mode the operation is possible is answered
pub reply-so : (t : Table) (objects : List Object) (users dead : Marked) (who : Who) (op : TableOp) (reply : TableReply) →
    IsStateOf objects users dead t → names_objects t.setup op ≡ true →
    is_marked dead who.number ≡ false → is_for (is_marked users who.number) op ≡ true → reply ≡ answered objects who.number op →
    table_reply t who op ≡ Some reply
reply-so t objects users dead who op reply stands range alive mode is =
    let may-is = sym (may-so t objects users dead who.number op stands)
    ∙ may-true (is_marked dead who.number) (is_for (is_marked users who.number) op) alive mode in
    ap (λ (b : Bool). cond b (Some (answer t who.number op)) None) may-is
    ∙ ap Some (sym (is ∙ answer-so t objects users dead who.number op stands range))

-- What is kept tells the kinds, so that what is in range in one state that it stands for is in range in each.

kinds-at : (t s : Table) (objects : List Object) (users dead : Marked) (object : ℕ) → IsStateOf objects users dead t →
    IsStateOf objects users dead s → (kept : Option Object) → slice_get objects object ≡ kept →
    slice_get t.setup.kinds object ≡ slice_get s.setup.kinds object
kinds-at t s objects users dead object one other None none =
    let past = past-none objects object none in
    let long = one.long in
    let as-long = other.long in
    slice_get_past t.setup.kinds object (omega arith) ∙ sym (slice_get_past s.setup.kinds object (omega arith))
kinds-at t s objects users dead object one other (Some x) has = (one.each object x has).kind ∙ sym (other.each object x has).kind

object-there : (t s : Table) (objects : List Object) (users dead : Marked) (object : ℕ) → IsStateOf objects users dead t →
    IsStateOf objects users dead s → is_object t.setup object ≡ is_object s.setup object
object-there t s objects users dead object one other = ap (λ (n : ℕ). ltb object n) (sym one.long ∙ other.long)

thread-there : (t s : Table) (objects : List Object) (users dead : Marked) (thread object : ℕ) → IsStateOf objects users dead t →
    IsStateOf objects users dead s →
    (has_kind t.setup thread needs.Thread && is_object t.setup object)
    ≡ (has_kind s.setup thread needs.Thread && is_object s.setup object)
thread-there t s objects users dead thread object one other =
    ap (λ (k : Option Kind). option_map_or (meets needs.Thread) k false && is_object t.setup object)
    (kinds-at t s objects users dead thread one other (slice_get objects thread) refl)
    ∙ ap (λ (b : Bool). has_kind s.setup thread needs.Thread && b) (object-there t s objects users dead object one other)

pub range-same : (t s : Table) (objects : List Object) (users dead : Marked) (op : TableOp) → IsStateOf objects users dead t →
    IsStateOf objects users dead s → names_objects t.setup op ≡ names_objects s.setup op
range-same t s objects users dead (ops.Check None need) one other = refl
range-same t s objects users dead (ops.Check (Some object) need) one other = object-there t s objects users dead object one other
range-same t s objects users dead (ops.Grant thread object) one other =
    thread-there t s objects users dead thread object one other
range-same t s objects users dead (ops.Revoke thread object) one other =
    thread-there t s objects users dead thread object one other
range-same t s objects users dead (ops.Release object) one other = object-there t s objects users dead object one other
range-same t s objects users dead (ops.Public object) one other = object-there t s objects users dead object one other
range-same t s objects users dead (ops.Init object) one other = object-there t s objects users dead object one other
range-same t s objects users dead ops.EnterUser one other = refl

-- Where nobody is marked.

pub enters-none : (op : TableOp) → (op ≡ ops.EnterUser → ⊥) → enters op ≡ false
enters-none ops.EnterUser none = absurd (none refl)
enters-none (ops.Check object need) none = refl
enters-none (ops.Grant thread object) none = refl
enters-none (ops.Revoke thread object) none = refl
enters-none (ops.Release object) none = refl
enters-none (ops.Public object) none = refl
enters-none (ops.Init object) none = refl

pub oops-none : (reply : TableReply) → ((why : OopsWhy) → reply ≡ Oops why → ⊥) → is_oops reply ≡ false
oops-none (Oops why) none = absurd (none why refl)
oops-none Done none = refl
oops-none Already none = refl

pub unmarked : (was own does : Bool) → does ≡ false → was ≡ (was || (own && does))
unmarked was own does none =
    sym (ap (λ (b : Bool). was || (own && b)) none ∙ ap (λ (b : Bool). was || b) (and-false own) ∙ or-false was)
