-- Names are read exactly: of objects of any kind and of one, of items and of queues.
use Rattle.std.proofs.Common.{◌≡◌, ℕ, ◌+◌, ◌<◌, zero, suc, Bool, true, false, cond, Option, Some, None, List, [], ◌∷◌, length, take, get_or, refl, sym, ap, subst, inl, inr, ◌∙◌, arith}
use Rattle.std.specs.Prelude.{option_map, option_and_then, bytes_eq, count_by, slice_get}
use Rattle.std.specs.Option.{option_map_or}
use Rattle.std.proofs.lemmas.Bool.{cases_Bool, cond-true, cond-false, false≢true}
use Rattle.std.proofs.lemmas.List.Quantifiers.{position-Some}
use Rattle.std.proofs.lemmas.Option.{same_Some, cond_some, none-some, slice_get-get_or, slice_get_within, option_and_then_some}
use Rattle.std.proofs.lemmas.Slice.Eq.{bytes_eq-Decides}
use Rattle.zk_base.specs.Names.{is_name}
use Rattle.zk_line.specs.declared.types.Decl.{Decl}
use Rattle.zk_line.specs.declared.types.Decl.TheVariants.{Thread, Queue, Item, Sem, Msgq, Signal, Listener, Sub, Chan}
use Rattle.zk_line.specs.Objects.{AreNames, is_item, is_queue, name_of, has_kind_of, places_from, places, number_of, object_of, name_at, is_at}
use Rattle.zk_line.proofs.Lists.{count_by-cons}
use Rattle.zk_line.proofs.Options.{one_part}
use Rattle.zk_trace.specs.Exact.{IsPlain, IsExact}
use Rattle.zk_trace.specs.Fields.{object_named, number_named, item_of, queue_of, IsItem, IsQueue, IsOf, IsObject}
use Rattle.zk_trace.specs.Names.{object_name, item_name, queue_name}
use Rattle.zk_trace.proofs.PlainWords.{plain-name}

-- an object and its declaration, which passes a test
pub record Declares (test : Decl → Bool) (decls : List Decl) (object : ℕ) : Type 0 where
  pub d : Decl
  pub there : slice_get decls object ≡ Some d
  pub passes : test d ≡ true

pub declared : (test : Decl → Bool) (decls : List Decl) (object : ℕ) → is_at test decls object ≡ true → Declares test decls object
declared test decls object is = by (slice_get decls object) refl is where
  by : (o : Option Decl) → slice_get decls object ≡ o → option_map_or test o false ≡ true → Declares test decls object
  by None there is = absurd (false≢true is)
  by (Some d) there is = record { d = d; there = there; passes = is }

name-is : (decls : List Decl) (object : ℕ) (d : Decl) → slice_get decls object ≡ Some d → name_at decls object ≡ name_of d
name-is decls object d there = ap (λ o. option_map_or name_of o []) there

-- the name of the object that is found is the word
pub object-spelled : (decls : List Decl) (word : List ℕ) (object : ℕ) → object_of decls word ≡ Some object → (word ≡ name_at decls object) × (object < length decls)
object-spelled decls word object found =
    let any : Decl = Item [] in
    let at = position-Some (λ d. bytes_eq (name_of d) word) decls object any found in
    let there = slice_get-get_or decls object any at.0 in
    (sym (name-is decls object (get_or decls object any) there ∙ (bytes_eq-Decides (name_of (get_or decls object any)) word).0 at.1), at.0)

module _ (decls : List Decl) (are : AreNames decls) where
  within : (object : ℕ) → object < length decls → (d : Decl) × (slice_get decls object ≡ Some d)
  within object below = let any : Decl = Item [] in (get_or decls object any, slice_get-get_or decls object any below)

  pub object-again : (object : ℕ) → object < length decls → object_of decls (name_at decls object) ≡ Some object
  object-again object below =
      let there = within object below in
      ap (object_of decls) (name-is decls object there.0 there.1) ∙ are.distinct object there.0 there.1

  -- a declared name is one
  pub is_name-at : (object : ℕ) → object < length decls → is_name (name_at decls object) ≡ true
  is_name-at object below =
      let there = within object below in
      ap is_name (name-is decls object there.0 there.1) ∙ are.formed object there.0 there.1

  -- no object has a name that is none
  pub unnamed : (word : List ℕ) → is_name word ≡ false → object_of decls word ≡ None
  unnamed word no_name = by (object_of decls word) refl where
    by : (o : Option ℕ) → object_of decls word ≡ o → object_of decls word ≡ None
    by None found = found
    by (Some object) found =
        let is = object-spelled decls word object found in
        absurd (false≢true (sym no_name ∙ ap is_name is.0 ∙ is_name-at object is.1))

  -- an object of any kind
  pub object_exact : IsExact (name_at decls) (IsObject decls) (object_of decls)
  object_exact = record {
    again = object-again;
    spelled = object-spelled decls;
    plain = λ object below. plain-name (name_at decls object) (is_name-at object below);
  }

  -- nor one of a kind
  pub unnamed_of : (test : Decl → Bool) (word : List ℕ) → is_name word ≡ false → object_named test decls word ≡ None
  unnamed_of test word no_name = ap (option_and_then (λ object. cond (is_at test decls object) (Some object) None)) (unnamed word no_name)

  below-at : (test : Decl → Bool) (object : ℕ) → IsOf test decls object → object < length decls
  below-at test object is = let o = declared test decls object is in slice_get_within decls object o.d o.there

  -- an object of a kind
  pub object_named_exact : (test : Decl → Bool) → IsExact (name_at decls) (IsOf test decls) (object_named test decls)
  object_named_exact test = record {
    again = again;
    spelled = spelled;
    plain = λ object is. object_exact.plain object (below-at test object is);
  } where
    again : (object : ℕ) → IsOf test decls object → object_named test decls (name_at decls object) ≡ Some object
    again object is =
        ap (option_and_then (λ object. cond (is_at test decls object) (Some object) None)) (object-again object (below-at test object is))
        ∙ cond-true (is_at test decls object) (Some object) None is

    spelled : (word : List ℕ) (object : ℕ) → object_named test decls word ≡ Some object → (word ≡ name_at decls object) × IsOf test decls object
    spelled word object said = option_and_then_some (λ object. cond (is_at test decls object) (Some object) None) (object_of decls word) object said
        (λ o found given.
        let is = cond_some (is_at test decls o) o object given in
        subst (λ k. (word ≡ name_at decls k) × IsOf test decls k) is.1 ((object-spelled decls word o found).0, is.0))

-- an object at a place of its kind's list: it is of that kind, and so many of that kind stand before it
record StandsAt (test : Decl → Bool) (decls : List Decl) (n place object : ℕ) : Type 0 where
  at : ℕ
  d : Decl
  same : object ≡ n + at
  there : slice_get decls at ≡ Some d
  kind : test d ≡ true
  before : count_by test (take at decls) ≡ place

deeper : (test : Decl → Bool) (d : Decl) (ds : List Decl) (n p q object : ℕ) → StandsAt test ds (n + 1) p object → cond (test d) 1 0 + p ≡ q → StandsAt test (d ∷ ds) n q object
deeper test d ds n p q object s sum = record {
  at = suc s.at;
  d = s.d;
  same = let is = s.same in omega arith;
  there = s.there;
  kind = s.kind;
  before = count_by-cons test d (take s.at ds) ∙ ap (λ m. cond (test d) 1 0 + m) s.before ∙ sum;
}

places-at : (test : Decl → Bool) (n : ℕ) (decls : List Decl) (place object : ℕ) → slice_get (places_from n test decls) place ≡ Some object → StandsAt test decls n place object
places-at test n [] place object e = absurd (none-some object e)
places-at test n (d ∷ ds) place object e = elim (cases_Bool (test d)) [
  | inl passes ↦ first place (λ p. places-at test (n + 1) ds p object) (sym (ap (λ l. slice_get l place) (cond-true (test d) (n ∷ places_from (n + 1) test ds) (places_from (n + 1) test ds) passes)) ∙ e) passes
  | inr fails ↦ deeper test d ds n place place object
      (places-at test (n + 1) ds place object (sym (ap (λ l. slice_get l place) (cond-false (test d) (n ∷ places_from (n + 1) test ds) (places_from (n + 1) test ds) fails)) ∙ e))
      (let none : cond (test d) 1 0 ≡ 0 = ap {B = ℕ} (λ b. cond b 1 0) fails in omega arith)
] where
  first : (p : ℕ) → ((q : ℕ) → slice_get (places_from (n + 1) test ds) q ≡ Some object → StandsAt test ds (n + 1) q object)
      → slice_get (n ∷ places_from (n + 1) test ds) p ≡ Some object → test d ≡ true → StandsAt test (d ∷ ds) n p object
  first zero more is passes = record { at = 0; d = d; same = let e = same_Some n object is in omega arith; there = refl; kind = passes; before = refl }
  first (suc p) more is passes = deeper test d ds n p (suc p) object (more p is) (let one : cond (test d) 1 0 ≡ 1 = ap {B = ℕ} (λ b. cond b 1 0) passes in omega arith)

at-places : (test : Decl → Bool) (n : ℕ) (decls : List Decl) (at : ℕ) (d : Decl) → slice_get decls at ≡ Some d → test d ≡ true → slice_get (places_from n test decls) (count_by test (take at decls)) ≡ Some (n + at)
at-places test n [] at d there kind = absurd (none-some d there)
at-places test n (x ∷ ds) zero d there kind =
    let passes = ap test (same_Some x d there) ∙ kind in
    let same : n ≡ n + 0 = omega arith in
    ap (λ l. slice_get l 0) (cond-true (test x) (n ∷ places_from (n + 1) test ds) (places_from (n + 1) test ds) passes) ∙ ap Some same
at-places test n (x ∷ ds) (suc at) d there kind =
    let next = at-places test (n + 1) ds at d there kind in
    let count = count_by-cons test x (take at ds) in
    let sum : n + 1 + at ≡ n + suc at = omega arith in
    elim (cases_Bool (test x)) [
      | inl passes ↦
          let one : cond {A = ℕ} (test x) 1 0 ≡ 1 = ap {B = ℕ} (λ b. cond b 1 0) passes in
          let more : count_by test (x ∷ take at ds) ≡ suc (count_by test (take at ds)) = omega arith in
          ap (slice_get (places_from n test (x ∷ ds))) more
          ∙ ap (λ l. slice_get l (suc (count_by test (take at ds)))) (cond-true (test x) (n ∷ places_from (n + 1) test ds) (places_from (n + 1) test ds) passes) ∙ next ∙ ap Some sum
      | inr fails ↦
          let none : cond {A = ℕ} (test x) 1 0 ≡ 0 = ap {B = ℕ} (λ b. cond b 1 0) fails in
          let same : count_by test (x ∷ take at ds) ≡ count_by test (take at ds) = omega arith in
          ap (slice_get (places_from n test (x ∷ ds))) same
          ∙ ap (λ l. slice_get l (count_by test (take at ds))) (cond-false (test x) (n ∷ places_from (n + 1) test ds) (places_from (n + 1) test ds) fails) ∙ next ∙ ap Some sum
    ]

-- the number of an object by its declaration
number-at : (decls : List Decl) (at : ℕ) (d : Decl) → slice_get decls at ≡ Some d → number_of decls at ≡ count_by (has_kind_of d) (take at decls)
number-at decls at d there = ap (λ o. option_map_or (λ x. count_by (has_kind_of x) (take at decls)) o 0) there

module _ (decls : List Decl) (are : AreNames decls) (test : Decl → Bool) (counts : (d : Decl) → test d ≡ true → has_kind_of d ≡ test) where
  -- what stands at a number of a kind's list is of that kind, and has that number
  of-place : (i object : ℕ) → slice_get (places test decls) i ≡ Some object → IsOf test decls object × (number_of decls object ≡ i)
  of-place i object e =
      let s = places-at test 0 decls i object e in
      let same : s.at ≡ object = let is = s.same in omega arith in
      subst (λ k. IsOf test decls k × (number_of decls k ≡ i)) same (
        ap (λ o. option_map_or test o false) s.there ∙ s.kind,
        number-at decls s.at s.d s.there ∙ ap (λ t. count_by t (take s.at decls)) (counts s.d s.kind) ∙ s.before,
      )

  -- an object of a kind stands in the kind's list at its number
  place-of : (object : ℕ) → IsOf test decls object → slice_get (places test decls) (number_of decls object) ≡ Some object
  place-of object is =
      let o = declared test decls object is in
      let z : 0 + object ≡ object = omega arith in
      ap (slice_get (places test decls)) (number-at decls object o.d o.there ∙ ap (λ t. count_by t (take object decls)) (counts o.d o.passes))
      ∙ at-places test 0 decls object o.d o.there o.passes ∙ ap Some z

  -- what is counted among its kind
  pub number_named_exact : IsExact (λ i. object_name decls (slice_get (places test decls) i)) (λ i. i < length (places test decls)) (number_named test decls)
  number_named_exact = record { again = again; spelled = spelled; plain = plain } where
    object : (i : ℕ) → i < length (places test decls) → (o : ℕ) × (slice_get (places test decls) i ≡ Some o)
    object i below = (get_or (places test decls) i 0, slice_get-get_or (places test decls) i 0 below)

    name : (i o : ℕ) → slice_get (places test decls) i ≡ Some o → object_name decls (slice_get (places test decls) i) ≡ name_at decls o
    name i o at = ap (object_name decls) at

    again : (i : ℕ) → i < length (places test decls) → number_named test decls (object_name decls (slice_get (places test decls) i)) ≡ Some i
    again i below =
        let o = object i below in
        let of = of-place i o.0 o.1 in
        ap (number_named test decls) (name i o.0 o.1) ∙ ap (option_map (number_of decls)) ((object_named_exact decls are test).again o.0 of.0) ∙ ap Some of.1

    spelled : (word : List ℕ) (i : ℕ) → number_named test decls word ≡ Some i → (word ≡ object_name decls (slice_get (places test decls) i)) × (i < length (places test decls))
    spelled word i said =
        let o = one_part (number_of decls) (object_named test decls word) i said in
        let found = (object_named_exact decls are test).spelled word o.0 o.1 in
        let at : slice_get (places test decls) i ≡ Some o.0 = ap (slice_get (places test decls)) (sym o.2) ∙ place-of o.0 found.1 in
        (found.0 ∙ sym (name i o.0 at), slice_get_within (places test decls) i o.0 at)

    plain : (i : ℕ) → i < length (places test decls) → IsPlain (object_name decls (slice_get (places test decls) i))
    plain i below =
        let o = object i below in
        subst IsPlain (sym (name i o.0 o.1)) ((object_named_exact decls are test).plain o.0 (of-place i o.0 o.1).0)

counts_item : (d : Decl) → is_item d ≡ true → has_kind_of d ≡ is_item
counts_item (Thread name prio user) is = absurd (false≢true is)
counts_item (Queue name prio on) is = absurd (false≢true is)
counts_item (Item name) is = refl
counts_item (Sem name initial limit raw) is = absurd (false≢true is)
counts_item (Msgq name size capacity raw) is = absurd (false≢true is)
counts_item (Signal name raw) is = absurd (false≢true is)
counts_item (Listener name) is = absurd (false≢true is)
counts_item (Sub name capacity) is = absurd (false≢true is)
counts_item (Chan name message valid observers) is = absurd (false≢true is)

counts_queue : (d : Decl) → is_queue d ≡ true → has_kind_of d ≡ is_queue
counts_queue (Thread name prio user) is = absurd (false≢true is)
counts_queue (Queue name prio on) is = refl
counts_queue (Item name) is = absurd (false≢true is)
counts_queue (Sem name initial limit raw) is = absurd (false≢true is)
counts_queue (Msgq name size capacity raw) is = absurd (false≢true is)
counts_queue (Signal name raw) is = absurd (false≢true is)
counts_queue (Listener name) is = absurd (false≢true is)
counts_queue (Sub name capacity) is = absurd (false≢true is)
counts_queue (Chan name message valid observers) is = absurd (false≢true is)

-- an item
pub item_exact : (decls : List Decl) → AreNames decls → IsExact (item_name decls) (IsItem decls) (item_of decls)
item_exact decls are = number_named_exact decls are is_item counts_item

-- a queue
pub queue_exact : (decls : List Decl) → AreNames decls → IsExact (queue_name decls) (IsQueue decls) (queue_of decls)
queue_exact decls are = number_named_exact decls are is_queue counts_queue
