-- What is read off a history of the object table, and what its entries are answered.
use Rattle.std.proofs.Common.{◌≡◌, ℕ, ◌⊎◌, inl, inr, Bool, true, false, not, eqb, cond, ◌&&◌, ◌||◌, Option, Some, None, List, [], ◌∷◌, ◌++◌, map, fold, slice_get, refl, sym, ap, subst, ◌∙◌, append_assoc, append-nil}
use Rattle.std.specs.Cmp.{first_so, second_so}
use Rattle.std.specs.List.{list_any}
use Rattle.std.specs.Option.{option_map_or}
use Rattle.std.proofs.lemmas.Bool.{eqb-true, and_from, or_cases, or_from, or_left, or_right, not-true, both_ways}
use Rattle.std.proofs.lemmas.Option.{same_Some}
use Rattle.zk_base.specs.declared.ids.Who.{Who}
use Rattle.zk_base.specs.declared.ids.Entry.{Entry}
use Rattle.zk_base.specs.History.{IsEntry}
use Rattle.zk_base.specs.Legal.{Replays, state_after}
use Rattle.zk_base.proofs.Histories.{Replays-front, Replays-rest}
use Rattle.zk_base.proofs.WaitsOnce.{eqb-same}
use Rattle.zk_base.specs.declared.kinds.Kind.{Kind}
use Rattle.zk_base.specs.declared.kinds.Need.{Need}
use Rattle.zk_model_bus.specs.declared.table.OopsWhy.{OopsWhy}
use Rattle.zk_model_bus.specs.declared.table.OopsWhy.TheVariants.{NoObject, WrongKind, NotGranted, NotInit}
use Rattle.zk_model_bus.specs.declared.table.TableEntry.{TableEntry}
use Rattle.zk_model_bus.specs.declared.table.TableOp.{TableOp}
use Rattle.zk_model_bus.specs.declared.table.TableOp.TheVariants as ops
use Rattle.zk_model_bus.specs.declared.table.TableReply.{TableReply}
use Rattle.zk_model_bus.specs.declared.table.TableReply.TheVariants.{Done, Already, Oops}
use Rattle.zk_model_bus.specs.Table.{Setup, Table, new_table, has_kind, is_declared, said, is_allowed, publishes, is_public, initialises, begins_ready, was_initialised, is_ready, enters, begins_as_user, has_entered_user_mode, is_user, is_oops, is_dead, is_for, may, check_reply, answer, table_reply, entry_of, table_next, table_machine}
use Rattle.zk_base.specs.Kinds.{meets, is_any}
use Rattle.zk_model_bus.specs.TableLaws.{TableHistory, OfEachTable, speaks_of, Speaks, is_grant, Unspoken, GrantedLast, IsGranted, IsPublic, IsReady, IsUser, HasOops, is_check, is_for_all, is_for_supervisors, is_just_done, IsOfCheck, IsPossible, NoObjectExactly, WrongKindFirst, GrantStands, PublicForGood, NoneWithoutAGrant, ReadyForGood, NoneBeforeInit, InitDoneOnce, IsAnswered, DeadMakesNoEntry, UsersAreChecked, UserForGood, LivingMay}

abbrev TableStep : Type 0
TableStep = Entry TableOp TableReply

-- Truth values.

not-so : (b : Bool) → (b ≡ true → ⊥) → b ≡ false
not-so true none = absurd (none refl)
not-so false none = refl

neither : (a b : Bool) → (a ≡ true → ⊥) → (b ≡ true → ⊥) → (a || b) ≡ false
neither a b no-a no-b = or_from a b (not-so a no-a) (not-so b no-b)

-- What the table keeps of a history.

abbrev kept : TableStep → TableEntry
kept e = record { player = e.who.number; op = e.op; reply = e.reply }

abbrev at : Setup → List TableEntry → Table
at setup entries = record { setup = setup; entries = entries }

told-so : (b : Bool) (given reply : TableReply) → cond b (Some given) None ≡ Some reply → (b ≡ true) × (given ≡ reply)
told-so true given reply is = (refl, same_Some given reply is)
told-so false given reply is = absurd (cc)

keeps-all : (setup : Setup) (before : List TableEntry) (h : TableHistory) → Replays table_machine (at setup before) h →
    state_after table_machine (at setup before) h ≡ at setup (before ++ map kept h)
keeps-all setup before [] replays = ap (at setup) (sym (append-nil before))
keeps-all setup before (e ∷ es) replays =
    let t = at setup before in
    let told = (told-so (may t e.who.number e.op) (answer t e.who.number e.op) e.reply replays.0).1 in
    let made : entry_of t e.who e.op ≡ kept e =
    ap (λ (reply : TableReply). record { player = e.who.number; op = e.op; reply = reply }) told in
    let next : table_next t e.who e.op ≡ at setup (before ++ kept e ∷ []) =
    ap (λ (entry : TableEntry). at setup (before ++ entry ∷ [])) made in
    let same = append_assoc before (kept e ∷ []) (map kept es) in
    ap (λ (s : Table). state_after table_machine s es) next
    ∙ keeps-all setup (before ++ kept e ∷ []) es (subst (λ (s : Table). Replays table_machine s es) next replays.1)
    ∙ ap (at setup) same

-- the table after a history
abbrev after : Setup → TableHistory → Table
after setup h = at setup (map kept h)

state-so : (setup : Setup) (h : TableHistory) → Replays table_machine (new_table setup) h →
    state_after table_machine (new_table setup) h ≡ after setup h
state-so setup h replays = keeps-all setup [] h replays

-- an entry was possible, and is answered as the table answers after what stands before it
entry-told : (setup : Setup) (h front : TableHistory) (e : TableStep) → Replays table_machine (new_table setup) h →
    IsEntry h front e →
    (may (after setup front) e.who.number e.op ≡ true) × (answer (after setup front) e.who.number e.op ≡ e.reply)
entry-told setup h front e replays is =
    let whole = subst (Replays table_machine (new_table setup)) is.whole replays in
    let here = (Replays-rest table_machine (new_table setup) front (e ∷ is.rest) whole).0 in
    let same = state-so setup front (Replays-front table_machine (new_table setup) front (e ∷ is.rest) whole) in
    let t = after setup front in
    told-so (may t e.who.number e.op) (answer t e.who.number e.op) e.reply
    (subst (λ (s : Table). table_reply s e.who e.op ≡ Some e.reply) same here)

-- Entries that pass a test.

first-entry : (e : TableStep) (es : TableHistory) → IsEntry (e ∷ es) [] e
first-entry e es = record { rest = es; whole = refl }

later-entry : (e : TableStep) (es front : TableHistory) (f : TableStep) → IsEntry es front f → IsEntry (e ∷ es) (e ∷ front) f
later-entry e es front f is = record { rest = is.rest; whole = ap (λ (l : TableHistory). e ∷ l) is.whole }

any-entry : (test : TableEntry → Bool) (h : TableHistory) → list_any test (map kept h) ≡ true →
    (front : TableHistory) × (e : TableStep) × IsEntry h front e × (test (kept e) ≡ true)
any-entry test [] is = absurd (cc)
any-entry test (e ∷ es) is = by (or_cases (test (kept e)) (list_any test (map kept es)) is)
    (λ later. any-entry test es later) where
      by : (test (kept e) ≡ true) ⊎ (list_any test (map kept es) ≡ true) →
          (list_any test (map kept es) ≡ true → (front : TableHistory) × (f : TableStep) × IsEntry es front f
          × (test (kept f) ≡ true)) →
          (front : TableHistory) × (f : TableStep) × IsEntry (e ∷ es) front f × (test (kept f) ≡ true)
      by (inl here) rest = ([], e, first-entry e es, here)
      by (inr later) rest =
          let found = rest later in
          (e ∷ found.0, found.1, later-entry e es found.0 found.1 found.2, found.3)

any-at : (test : TableEntry → Bool) (front rest : TableHistory) (e : TableStep) → test (kept e) ≡ true →
    list_any test (map kept (front ++ e ∷ rest)) ≡ true
any-at test [] rest e is = or_left (test (kept e)) (list_any test (map kept rest)) is
any-at test (f ∷ fs) rest e is = or_right (test (kept f)) (list_any test (map kept (fs ++ e ∷ rest))) (any-at test fs rest e is)

entry-any : (test : TableEntry → Bool) (h front : TableHistory) (e : TableStep) → IsEntry h front e →
    test (kept e) ≡ true → list_any test (map kept h) ≡ true
entry-any test h front e is passes = subst (λ (l : TableHistory). list_any test (map kept l) ≡ true) (sym is.whole)
    (any-at test front is.rest e passes)

-- What is public.

public-op : (object : ℕ) (op : TableOp) → publishes object op ≡ true → op ≡ ops.Public object
public-op object (ops.Public own) is = ap ops.Public (eqb-true own object is)
public-op object op is = absurd (cc)

public-so : (setup : Setup) (object : ℕ) (h : TableHistory) → is_public (after setup h) object ≡ true → IsPublic object h
public-so setup object h is =
    let found = any-entry (λ (e : TableEntry). publishes object e.op) h is in
    (found.0, found.1, found.2, public-op object found.1.op found.3)

so-public : (setup : Setup) (object : ℕ) (h : TableHistory) → IsPublic object h → is_public (after setup h) object ≡ true
so-public setup object h is =
    entry-any (λ (e : TableEntry). publishes object e.op) h is.0 is.1 is.2
    (subst (λ (op : TableOp). publishes object op ≡ true) (sym is.3) (eqb-same object))

-- What is initialised.

init-op : (object : ℕ) (op : TableOp) → initialises object op ≡ true → op ≡ ops.Init object
init-op object (ops.Init own) is = ap ops.Init (eqb-true own object is)
init-op object op is = absurd (cc)

ready-so : (setup : Setup) (object : ℕ) (h : TableHistory) → is_ready (after setup h) object ≡ true → IsReady setup object h
ready-so setup object h is = by (or_cases (begins_ready setup object) (was_initialised (after setup h) object) is) where
  by : (begins_ready setup object ≡ true) ⊎ (was_initialised (after setup h) object ≡ true) → IsReady setup object h
  by (inl begins) = inl begins
  by (inr later) =
      let found = any-entry (λ (e : TableEntry). initialises object e.op) h later in
      inr (found.0, found.1, found.2, init-op object found.1.op found.3)

so-ready : (setup : Setup) (object : ℕ) (h : TableHistory) → IsReady setup object h → is_ready (after setup h) object ≡ true
so-ready setup object h (inl begins) = or_left (begins_ready setup object) (was_initialised (after setup h) object) begins
so-ready setup object h (inr is) =
    or_right (begins_ready setup object) (was_initialised (after setup h) object)
    (entry-any (λ (e : TableEntry). initialises object e.op) h is.0 is.1 is.2
    (subst (λ (op : TableOp). initialises object op ≡ true) (sym is.3) (eqb-same object)))

-- Who is a user.

enter-op : (op : TableOp) → enters op ≡ true → op ≡ ops.EnterUser
enter-op ops.EnterUser is = refl
enter-op op is = absurd (cc)

user-so : (setup : Setup) (player : ℕ) (h : TableHistory) → is_user (after setup h) player ≡ true → IsUser setup player h
user-so setup player h is = by (or_cases (begins_as_user setup player) (has_entered_user_mode (after setup h) player) is) where
  by : (begins_as_user setup player ≡ true) ⊎ (has_entered_user_mode (after setup h) player ≡ true) → IsUser setup player h
  by (inl begins) = inl begins
  by (inr later) =
      let found = any-entry (λ (e : TableEntry). eqb e.player player && enters e.op) h later in
      let e = found.1 in
      inr (
        found.0,
        e,
        found.2,
        eqb-true e.who.number player (first_so (eqb e.who.number player) (enters e.op) found.3),
        enter-op e.op (second_so (eqb e.who.number player) (enters e.op) found.3),
      )

same-test : (a b : ℕ) → a ≡ b → eqb a b ≡ true
same-test a b is = subst (λ (n : ℕ). eqb a n ≡ true) is (eqb-same a)

so-user : (setup : Setup) (player : ℕ) (h : TableHistory) → IsUser setup player h → is_user (after setup h) player ≡ true
so-user setup player h (inl begins) = or_left (begins_as_user setup player) (has_entered_user_mode (after setup h) player) begins
so-user setup player h (inr is) =
    let e = is.1 in
    or_right (begins_as_user setup player) (has_entered_user_mode (after setup h) player)
    (entry-any (λ (k : TableEntry). eqb k.player player && enters k.op) h is.0 e is.2
    (and_from (eqb e.who.number player) (enters e.op) (same-test e.who.number player is.3)
    (subst (λ (op : TableOp). enters op ≡ true) (sym is.4) refl)))

-- Who is dead.

oops-reply : (reply : TableReply) → is_oops reply ≡ true → (why : OopsWhy) × (reply ≡ Oops why)
oops-reply (Oops why) is = (why, refl)
oops-reply reply is = absurd (cc)

dead-so : (setup : Setup) (player : ℕ) (h : TableHistory) → is_dead (after setup h) player ≡ true → HasOops player h
dead-so setup player h is =
    let found = any-entry (λ (e : TableEntry). eqb e.player player && is_oops e.reply) h is in
    let e = found.1 in
    let why = oops-reply e.reply (second_so (eqb e.who.number player) (is_oops e.reply) found.3) in (
      found.0,
      e,
      why.0,
      found.2,
      eqb-true e.who.number player (first_so (eqb e.who.number player) (is_oops e.reply) found.3),
      why.1,
    )

so-dead : (setup : Setup) (player : ℕ) (h : TableHistory) → HasOops player h → is_dead (after setup h) player ≡ true
so-dead setup player h is =
    let e = is.1 in
    entry-any (λ (k : TableEntry). eqb k.player player && is_oops k.reply) h is.0 e is.3
    (and_from (eqb e.who.number player) (is_oops e.reply) (same-test e.who.number player is.4)
    (subst (λ (reply : TableReply). is_oops reply ≡ true) (sym is.5) refl))

-- The last word on a permission.

said-so : (setup : Setup) (player object : ℕ) (before : Bool) (by : ℕ) (op : TableOp) →
    said setup player object before by op ≡ cond (speaks_of setup player object by op) (is_grant op) before
said-so setup player object before by (ops.Check named need) = refl
said-so setup player object before by (ops.Grant thread own) = refl
said-so setup player object before by (ops.Revoke thread own) = refl
said-so setup player object before by (ops.Release own) = refl
said-so setup player object before by (ops.Public own) = refl
said-so setup player object before by (ops.Init own) = refl
said-so setup player object before by ops.EnterUser = refl

-- the word of an entry that the table keeps
abbrev word : Setup → ℕ → ℕ → Bool → TableEntry → Bool
word setup player object before e = said setup player object before e.player e.op

unspoken-nil : (setup : Setup) (player object : ℕ) → Unspoken setup player object []
unspoken-nil setup player object [] e is speaks = let w = is.whole in cc
unspoken-nil setup player object (f ∷ fs) e is speaks = let w = is.whole in cc

unspoken-cons : (setup : Setup) (player object : ℕ) (e : TableStep) (es : TableHistory) →
    speaks_of setup player object e.who.number e.op ≡ false →
    Unspoken setup player object es → Unspoken setup player object (e ∷ es)
unspoken-cons setup player object e es silent none [] f is speaks =
    let same : e ≡ f = heads e f es is.rest is.whole in
    absurd (let both = sym silent ∙ ap (λ (g : TableStep). speaks_of setup player object g.who.number g.op) same
    ∙ speaks in cc) where
      heads : (x y : TableStep) (xs ys : TableHistory) → x ∷ xs ≡ y ∷ ys → x ≡ y
      heads x y xs ys same = cc
unspoken-cons setup player object e es silent none (g ∷ gs) f is speaks =
    none gs f (record { rest = is.rest; whole = tails e g es (gs ++ f ∷ is.rest) is.whole }) speaks where
      tails : (x y : TableStep) (xs ys : TableHistory) → x ∷ xs ≡ y ∷ ys → xs ≡ ys
      tails x y xs ys same = cc

unspoken-tail : (setup : Setup) (player object : ℕ) (e : TableStep) (es : TableHistory) →
    Unspoken setup player object (e ∷ es) → Unspoken setup player object es
unspoken-tail setup player object e es none front f is speaks = none (e ∷ front) f (later-entry e es front f is) speaks

-- where no entry speaks, the word before stays
silent-word : (setup : Setup) (player object : ℕ) (before : Bool) (h : TableHistory) → Unspoken setup player object h →
    fold (word setup player object) before (map kept h) ≡ before
silent-word setup player object before [] none = refl
silent-word setup player object before (e ∷ es) none =
    let silent = not-so (speaks_of setup player object e.who.number e.op) (none [] e (first-entry e es)) in
    let here : word setup player object before (kept e) ≡ before =
    said-so setup player object before e.who.number e.op ∙ ap (λ (b : Bool). cond b (is_grant e.op) before) silent in
    ap (λ (b : Bool). fold (word setup player object) b (map kept es)) here
    ∙ silent-word setup player object before es (unspoken-tail setup player object e es none)

granted-word : (setup : Setup) (player object : ℕ) (before : Bool) (front rest : TableHistory) (e : TableStep) →
    Speaks setup player object e →
    is_grant e.op ≡ true → Unspoken setup player object rest →
    fold (word setup player object) before (map kept (front ++ e ∷ rest)) ≡ true
granted-word setup player object before [] rest e speaks grant none =
    let here : word setup player object before (kept e) ≡ true =
    said-so setup player object before e.who.number e.op ∙ ap (λ (b : Bool). cond b (is_grant e.op) before) speaks ∙ grant in
    silent-word setup player object (word setup player object before (kept e)) rest none ∙ here
granted-word setup player object before (f ∷ fs) rest e speaks grant none =
    granted-word setup player object (word setup player object before (kept f)) fs rest e speaks grant none

so-granted : (setup : Setup) (player object : ℕ) (h : TableHistory) → IsGranted setup player object h →
    is_allowed (after setup h) player object ≡ true
so-granted setup player object h (inl g) =
    ap (λ (l : TableHistory). fold (word setup player object) (is_declared setup player object) (map kept l)) g.whole
    ∙ granted-word setup player object (is_declared setup player object) g.front g.rest g.e g.speaks g.grant g.last
so-granted setup player object h (inr is) = silent-word setup player object (is_declared setup player object) h is.1 ∙ is.0

abbrev GrantedFrom : Setup → ℕ → ℕ → Bool → TableHistory → Type 0
GrantedFrom setup player object before h = GrantedLast setup player object h ⊎ ((before ≡ true) × Unspoken setup player object h)

word-granted : (setup : Setup) (player object : ℕ) (before : Bool) (h : TableHistory) →
    fold (word setup player object) before (map kept h) ≡ true → GrantedFrom setup player object before h
word-granted setup player object before [] is = inr (is, unspoken-nil setup player object)
word-granted setup player object before (e ∷ es) is =
    by (word-granted setup player object (word setup player object before (kept e)) es is)
    (speaks_of setup player object e.who.number e.op) refl where
      here : (b : Bool) → speaks_of setup player object e.who.number e.op ≡ b →
          word setup player object before (kept e) ≡ cond b (is_grant e.op) before
      here b spoke = said-so setup player object before e.who.number e.op ∙ ap (λ (c : Bool). cond c (is_grant e.op) before) spoke

      by : GrantedFrom setup player object (word setup player object before (kept e)) es → (b : Bool) →
          speaks_of setup player object e.who.number e.op ≡ b →
          GrantedFrom setup player object before (e ∷ es)
      by (inl g) b spoke = inl (record {
        front = e ∷ g.front;
        e = g.e;
        rest = g.rest;
        whole = ap (λ (l : TableHistory). e ∷ l) g.whole;
        speaks = g.speaks;
        grant = g.grant;
        last = g.last;
      })
      by (inr rest) true spoke = inl (record {
        front = [];
        e = e;
        rest = es;
        whole = refl;
        speaks = spoke;
        grant = sym (here true spoke) ∙ rest.0;
        last = rest.1;
      })
      by (inr rest) false spoke = inr (sym (here false spoke) ∙ rest.0, unspoken-cons setup player object e es spoke rest.1)

granted-so : (setup : Setup) (player object : ℕ) (h : TableHistory) → is_allowed (after setup h) player object ≡ true →
    IsGranted setup player object h
granted-so setup player object h is = word-granted setup player object (is_declared setup player object) h is

-- What a check is told.

-- the three tests of a check of an object: its kind, the permission, and whether it is initialised
abbrev tests : Bool → Bool → Bool → TableReply
tests kind granted ready =
    cond (not kind) (Oops WrongKind) (cond (not granted) (Oops NotGranted) (cond (not ready) (Oops NotInit) Done))

finds-object : (k g i : Bool) → tests k g i ≡ Oops NoObject → ⊥
finds-object false g i is = cc
finds-object true false i is = cc
finds-object true true false is = cc
finds-object true true true is = cc

right-kind : (k g i : Bool) → k ≡ true → tests k g i ≡ Oops WrongKind → ⊥
right-kind false g i right is = cc
right-kind true false i right is = cc
right-kind true true false right is = cc
right-kind true true true right is = cc

wrong-kind : (k g i : Bool) → k ≡ false → tests k g i ≡ Oops WrongKind
wrong-kind false g i wrong = refl
wrong-kind true g i wrong = absurd (cc)

not-refused : (k g i : Bool) → g ≡ true → tests k g i ≡ Oops NotGranted → ⊥
not-refused false g i granted is = cc
not-refused true false i granted is = cc
not-refused true true false granted is = cc
not-refused true true true granted is = cc

no-further : (k g i : Bool) → g ≡ false → tests k g i ≡ Oops NotInit → ⊥
no-further false g i none is = cc
no-further true false i none is = cc
no-further true true i none is = cc

not-passed : (k g i : Bool) → g ≡ false → tests k g i ≡ Done → ⊥
not-passed false g i none is = cc
not-passed true false i none is = cc
not-passed true true i none is = cc

is-ready : (k g i : Bool) → i ≡ true → tests k g i ≡ Oops NotInit → ⊥
is-ready false g i ready is = cc
is-ready true false i ready is = cc
is-ready true true false ready is = cc
is-ready true true true ready is = cc

not-ready : (k g i : Bool) → i ≡ false → tests k g i ≡ Done → ⊥
not-ready false g i raw is = cc
not-ready true false i raw is = cc
not-ready true true false raw is = cc
not-ready true true true raw is = cc

tests-told : (k g i : Bool) → IsOfCheck (tests k g i)
tests-told false g i = inr (WrongKind, refl)
tests-told true false i = inr (NotGranted, refl)
tests-told true true false = inr (NotInit, refl)
tests-told true true true = inl refl

check-told : (setup : Setup) (h front : TableHistory) (e : TableStep) (object : Option ℕ) (need : Need) →
    Replays table_machine (new_table setup) h → IsEntry h front e →
    e.op ≡ ops.Check object need → e.reply ≡ check_reply (after setup front) e.who.number object need
check-told setup h front e object need replays is op =
    sym (entry-told setup h front e replays is).1 ∙ ap (λ (o : TableOp). answer (after setup front) e.who.number o) op

pub no_object_exactly : OfEachTable NoObjectExactly
no_object_exactly setup h legal = record {
  none = λ front e need is op. check-told setup h front e None need legal.0 is op;
  some = λ front e object need is op told.
      let t = after setup front in
      finds-object (has_kind setup object need) (is_allowed t e.who.number object || is_public t object)
      (is_any need || is_ready t object)
      (sym (check-told setup h front e (Some object) need legal.0 is op) ∙ told);
}

kind-met : (setup : Setup) (object : ℕ) (need : Need) (kind : Kind) (b : Bool) →
    slice_get setup.kinds object ≡ Some kind → meets need kind ≡ b → has_kind setup object need ≡ b
kind-met setup object need kind b has met = ap (λ (k : Option Kind). option_map_or (meets need) k false) has ∙ met

pub wrong_kind_first : OfEachTable WrongKindFirst
wrong_kind_first setup h legal = record {
  wrong = λ front e object need kind is op has unmet.
      let t = after setup front in
      check-told setup h front e (Some object) need legal.0 is op
      ∙ wrong-kind (has_kind setup object need) (is_allowed t e.who.number object || is_public t object)
      (is_any need || is_ready t object)
      (kind-met setup object need kind false has unmet);
  right = λ front e object need kind is op has met told.
      let t = after setup front in
      right-kind (has_kind setup object need) (is_allowed t e.who.number object || is_public t object)
      (is_any need || is_ready t object)
      (kind-met setup object need kind true has met) (sym (check-told setup h front e (Some object) need legal.0 is op) ∙ told);
}

pub grant_stands : OfEachTable GrantStands
grant_stands setup h legal front e object need is op granted told =
    let t = after setup front in
    let own = is_allowed t e.who.number object in
    not-refused (has_kind setup object need) (own || is_public t object) (is_any need || is_ready t object)
    (or_left own (is_public t object) (so-granted setup e.who.number object front granted))
    (sym (check-told setup h front e (Some object) need legal.0 is op) ∙ told)

pub public_for_good : OfEachTable PublicForGood
public_for_good setup h legal front e object need is op public told =
    let t = after setup front in
    let own = is_allowed t e.who.number object in
    not-refused (has_kind setup object need) (own || is_public t object) (is_any need || is_ready t object)
    (or_right own (is_public t object) (so-public setup object front public))
    (sym (check-told setup h front e (Some object) need legal.0 is op) ∙ told)

none-granted : (setup : Setup) (player object : ℕ) (h : TableHistory) → (IsGranted setup player object h → ⊥) →
    (IsPublic object h → ⊥) →
    (is_allowed (after setup h) player object || is_public (after setup h) object) ≡ false
none-granted setup player object h none private =
    neither (is_allowed (after setup h) player object) (is_public (after setup h) object)
    (λ is. none (granted-so setup player object h is)) (λ is. private (public-so setup object h is))

pub none_without_a_grant : OfEachTable NoneWithoutAGrant
none_without_a_grant setup h legal = record {
  passed = λ front e object need is op none private told.
      let t = after setup front in
      not-passed (has_kind setup object need) (is_allowed t e.who.number object || is_public t object)
      (is_any need || is_ready t object)
      (none-granted setup e.who.number object front none private)
      (sym (check-told setup h front e (Some object) need legal.0 is op) ∙ told);
  next = λ front e object need is op none private told.
      let t = after setup front in
      no-further (has_kind setup object need) (is_allowed t e.who.number object || is_public t object)
      (is_any need || is_ready t object)
      (none-granted setup e.who.number object front none private)
      (sym (check-told setup h front e (Some object) need legal.0 is op) ∙ told);
}

pub ready_for_good : OfEachTable ReadyForGood
ready_for_good setup h legal = record {
  ready = λ front e object need is op ready told.
      let t = after setup front in
      is-ready (has_kind setup object need) (is_allowed t e.who.number object || is_public t object)
      (is_any need || is_ready t object)
      (or_right (is_any need) (is_ready t object) (so-ready setup object front ready))
      (sym (check-told setup h front e (Some object) need legal.0 is op) ∙ told);
  any = λ front e object need is op any told.
      let t = after setup front in
      is-ready (has_kind setup object need) (is_allowed t e.who.number object || is_public t object)
      (is_any need || is_ready t object)
      (or_left (is_any need) (is_ready t object) any) (sym (check-told setup h front e (Some object) need legal.0 is op) ∙ told);
}

pub none_before_init : OfEachTable NoneBeforeInit
none_before_init setup h legal front e object need is op some raw told =
    let t = after setup front in
    let no-any : is_any need ≡ true → ⊥ = λ any. absurd (let both = sym some ∙ any in cc) in
    not-ready (has_kind setup object need) (is_allowed t e.who.number object || is_public t object)
    (is_any need || is_ready t object)
    (neither (is_any need) (is_ready t object) no-any (λ ready. raw (ready-so setup object front ready)))
    (sym (check-told setup h front e (Some object) need legal.0 is op) ∙ told)

-- What the other operations are answered.

init-told : (setup : Setup) (h front : TableHistory) (e : TableStep) (object : ℕ) (ready : Bool) →
    Replays table_machine (new_table setup) h → IsEntry h front e →
    e.op ≡ ops.Init object → is_ready (after setup front) object ≡ ready → e.reply ≡ cond ready Already Done
init-told setup h front e object ready replays is op was =
    sym (entry-told setup h front e replays is).1 ∙ ap (λ (o : TableOp). answer (after setup front) e.who.number o) op
    ∙ ap (λ (b : Bool). cond b Already Done) was

pub init_done_once : OfEachTable InitDoneOnce
init_done_once setup h legal = record {
  done = λ front e object is op raw.
      init-told setup h front e object false legal.0 is op
      (not-so (is_ready (after setup front) object) (λ ready. raw (ready-so setup object front ready)));
  already = λ front e object is op ready. init-told setup h front e object true legal.0 is op (so-ready setup object front ready);
}

check-answer : (t : Table) (player : ℕ) (op : TableOp) → is_check op ≡ true → IsOfCheck (answer t player op)
check-answer t player (ops.Check None need) is = inr (NoObject, refl)
check-answer t player (ops.Check (Some object) need) is =
    tests-told (has_kind t.setup object need) (is_allowed t player object || is_public t object)
    (is_any need || is_ready t object)
check-answer t player op is = absurd (cc)

done-answer : (t : Table) (player : ℕ) (op : TableOp) → is_just_done op ≡ true → answer t player op ≡ Done
done-answer t player (ops.Check object need) is = absurd (cc)
done-answer t player (ops.Init object) is = absurd (cc)
done-answer t player (ops.Grant thread object) is = refl
done-answer t player (ops.Revoke thread object) is = refl
done-answer t player (ops.Release object) is = refl
done-answer t player (ops.Public object) is = refl
done-answer t player ops.EnterUser is = refl

pub is_answered : OfEachTable IsAnswered
is_answered setup h legal = record {
  check = λ front e is check.
      subst IsOfCheck (entry-told setup h front e legal.0 is).1 (check-answer (after setup front) e.who.number e.op check);
  done = λ front e is done.
      sym (entry-told setup h front e legal.0 is).1 ∙ done-answer (after setup front) e.who.number e.op done;
}

-- Who may do what.

not-of : (b : Bool) → (b ≡ true → ⊥) → not b ≡ true
not-of true none = absurd (none refl)
not-of false none = refl

alive : (setup : Setup) (h front : TableHistory) (e : TableStep) → Replays table_machine (new_table setup) h →
    IsEntry h front e → not (is_dead (after setup front) e.who.number) ≡ true
alive setup h front e replays is =
    let t = after setup front in
    first_so (not (is_dead t e.who.number)) (is_for (is_user t e.who.number) e.op) (entry-told setup h front e replays is).0

in-mode : (setup : Setup) (h front : TableHistory) (e : TableStep) → Replays table_machine (new_table setup) h →
    IsEntry h front e → is_for (is_user (after setup front) e.who.number) e.op ≡ true
in-mode setup h front e replays is =
    let t = after setup front in
    second_so (not (is_dead t e.who.number)) (is_for (is_user t e.who.number) e.op) (entry-told setup h front e replays is).0

pub dead_makes_no_entry : OfEachTable DeadMakesNoEntry
dead_makes_no_entry setup h legal front e is oops =
    let dead = is_dead (after setup front) e.who.number in
    both_ways dead (not-true dead (alive setup h front e legal.0 is)) (so-dead setup e.who.number front oops)

check-mode : (user : Bool) (op : TableOp) → is_check op ≡ true → is_for user op ≡ user
check-mode user (ops.Check object need) is = refl
check-mode user op is = absurd (cc)

supervisor-mode : (user : Bool) (op : TableOp) → is_for_supervisors op ≡ true → is_for user op ≡ not user
supervisor-mode user (ops.Check object need) is = absurd (cc)
supervisor-mode user (ops.Grant thread object) is = absurd (cc)
supervisor-mode user (ops.Release object) is = absurd (cc)
supervisor-mode user (ops.Revoke thread object) is = refl
supervisor-mode user (ops.Public object) is = refl
supervisor-mode user (ops.Init object) is = refl
supervisor-mode user ops.EnterUser is = refl

all-mode : (user : Bool) (op : TableOp) → is_for_all op ≡ true → is_for user op ≡ true
all-mode user (ops.Grant thread object) is = refl
all-mode user (ops.Release object) is = refl
all-mode user op is = absurd (cc)

pub users_are_checked : OfEachTable UsersAreChecked
users_are_checked setup h legal front e is check =
    let user = is_user (after setup front) e.who.number in
    user-so setup e.who.number front (sym (check-mode user e.op check) ∙ in-mode setup h front e legal.0 is)

pub user_for_good : OfEachTable UserForGood
user_for_good setup h legal front e is supervisors user =
    let now = is_user (after setup front) e.who.number in
    both_ways now (not-true now (sym (supervisor-mode now e.op supervisors) ∙ in-mode setup h front e legal.0 is))
    (so-user setup e.who.number front user)

possible : (setup : Setup) (h : TableHistory) (who : Who) (op : TableOp) → Replays table_machine (new_table setup) h →
    (HasOops who.number h → ⊥) →
    is_for (is_user (after setup h) who.number) op ≡ true → IsPossible setup h who op
possible setup h who op replays living mode =
    let t = after setup h in
    let lives = not-of (is_dead t who.number) (λ dead. living (dead-so setup who.number h dead)) in
    let may-so : may t who.number op ≡ true =
    and_from (not (is_dead t who.number)) (is_for (is_user t who.number) op) lives mode in
    let reply = answer t who.number op in (
      reply,
      ap (λ (s : Table). table_reply s who op) (state-so setup h replays)
          ∙ ap (λ (b : Bool). cond b (Some reply) None) may-so,
    )

pub living_may : OfEachTable LivingMay
living_may setup h legal = record {
  all = λ who op living all. possible setup h who op legal.0 living (all-mode (is_user (after setup h) who.number) op all);
  user = λ who op living user check.
      possible setup h who op legal.0 living (check-mode (is_user (after setup h) who.number) op check
      ∙ so-user setup who.number h user);
  supervisor = λ who op living none supervisors.
      let now = is_user (after setup h) who.number in
      possible setup h who op legal.0 living (supervisor-mode now op supervisors
      ∙ not-of now (λ user. none (user-so setup who.number h user)));
}
