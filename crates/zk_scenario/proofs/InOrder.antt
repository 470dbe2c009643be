-- The lines among the declarations, with one line more.
use Rattle.std.proofs.Common.{◌≡◌, ℕ, zero, suc, ◌<◌, ◌≤◌, Bool, true, false, not, cond, nat_lt, ◌&&◌, Option, None, Some, List, [], ◌∷◌, ◌++◌, length, take, drop, slice_get, count_by, refl, sym, ap, ◌∙◌, ⊎_elim, arith, length-append}
use Rattle.std.specs.Option.{option_map_or}
use Rattle.std.proofs.lemmas.Bool.{and_parts, and_from, cases_order, eq-eqb, ltb-true, lt-ltb}
use Rattle.std.proofs.lemmas.List.{take-append-drop, take-append-le}
use Rattle.std.proofs.lemmas.List.Sums.{sum_by-append}
use Rattle.std.proofs.lemmas.Option.{none-some, slice_get_past, slice_get_within}
use Rattle.std.proofs.Math.Seq.{take-append_seam}
use Rattle.zk_line.specs.declared.types.Decl.{Decl}
use Rattle.zk_line.specs.declared.types.Declared.{Declared}
use Rattle.zk_line.specs.declared.types.Declared.TheVariants.{Object, Allow}
use Rattle.zk_line.specs.Objects.{is_at, is_thread}
use Rattle.zk_line.proofs.Lists.{slice_get-append_left, slice_get-push, count_by-cons, count_by-push}
use Rattle.zk_scenario.specs.Written.{is_object, objects_in, is_allowed, follows, AreInOrder}

-- an element that passes counts behind those before it
pub count_by-take-lt : {X : Type 0} (p : X → Bool) (xs : List X) (k : ℕ) (x : X) → slice_get xs k ≡ Some x → p x ≡ true → count_by p (take k xs) < count_by p xs
count_by-take-lt p [] k x e yep = absurd (cc)
count_by-take-lt p (y ∷ xs) zero x e yep =
    let same : p y ≡ true = ap (λ o. option_map_or p o false) e ∙ yep in
    omega (arith, count_by-cons p y xs, ap {B = ℕ} (λ b. cond b 1 0) same)
count_by-take-lt p (y ∷ xs) (suc k) x e yep = omega (arith, count_by-take-lt p xs k x e yep, count_by-cons p y xs, count_by-cons p y (take k xs))

-- an object that is declared is one of the declarations
pub is_at-within : (test : Decl → Bool) (decls : List Decl) (object : ℕ) → is_at test decls object ≡ true → object < length decls
is_at-within test decls object at = by_place (slice_get decls object) refl at where
  by_place : (o : Option Decl) → slice_get decls object ≡ o → option_map_or test o false ≡ true → object < length decls
  by_place None e here = absurd (cc)
  by_place (Some d) e here = slice_get_within decls object d e

-- what is declared among the first declarations is declared
pub is_at-take : (test : Decl → Bool) (decls : List Decl) (n object : ℕ) → is_at test (take n decls) object ≡ true → is_at test decls object ≡ true
is_at-take test decls zero object at = absurd (cc)
is_at-take test [] (suc n) object at = absurd (cc)
is_at-take test (d ∷ decls) (suc n) zero at = at
is_at-take test (d ∷ decls) (suc n) (suc object) at = is_at-take test decls n object at

-- no more objects are declared by the first lines than by all
pub objects_in-take : (written : List Declared) (n : ℕ) → objects_in (take n written) ≤ objects_in written
objects_in-take written n =
    omega (arith, ap objects_in (take-append-drop n written), sum_by-append (λ line. cond (is_object line) 1 0) (take n written) (drop n written))

-- a permission is of a thread on an object that are declared
pub permission-declared : (decls : List Decl) (written : List Declared) (n thread object : ℕ) → AreInOrder decls written → slice_get written n ≡ Some (Allow thread object) → (is_at is_thread decls thread ≡ true) × (object < length decls)
permission-declared decls written n thread object held e =
    let before = objects_in (take n written) in
    let fits = and_parts (is_at is_thread (take before decls) thread && nat_lt object before) (not (is_allowed (take n written) thread object)) (held.each n (Allow thread object) e) in
    let both = and_parts (is_at is_thread (take before decls) thread) (nat_lt object before) fits.0 in
    (is_at-take is_thread decls before thread both.0, omega (arith, ltb-true object before both.1, held.all, objects_in-take written n))

-- what follows from declarations follows from these and further ones, where its line stands behind no more objects
follows-more : (decls : List Decl) (d : Decl) (before : List Declared) (line : Declared) → objects_in before ≤ length decls → follows decls before line ≡ true → follows (decls ++ d ∷ []) before line ≡ true
follows-more decls d before (Object object) few e = e
follows-more decls d before (Allow thread object) few e =
    ap (λ ds. is_at is_thread ds thread && nat_lt object (objects_in before) && not (is_allowed before thread object)) (take-append-le (objects_in before) decls (d ∷ []) few) ∙ e

-- each line follows from those before it, with one line more that does
each-push : (decls : List Decl) (written : List Declared) (line : Declared) → ((n : ℕ) (l : Declared) → slice_get written n ≡ Some l → follows decls (take n written) l ≡ true) → follows decls written line ≡ true
    → (n : ℕ) (l : Declared) → slice_get (written ++ line ∷ []) n ≡ Some l → follows decls (take n (written ++ line ∷ [])) l ≡ true
each-push decls written line held fits n l e =
    ⊎_elim
    (λ at.
    let here : l ≡ line = cc (slice_get-push written line, ap (slice_get (written ++ line ∷ [])) at) in
    ap (λ k. follows decls (take k (written ++ line ∷ [])) l) at ∙ ap (λ before. follows decls before l) (take-append_seam written (line ∷ [])) ∙ ap (follows decls written) here ∙ fits)
    (⊎_elim
    (λ below. ap (λ before. follows decls before l) (take-append-le n written (line ∷ []) (omega arith)) ∙ held n l (sym (slice_get-append_left written (line ∷ []) n below) ∙ e))
    (λ above. absurd (none-some l (sym (slice_get_past (written ++ line ∷ []) n (omega (arith, length-append written (line ∷ [])))) ∙ e))))
    (cases_order n (length written))

-- the lines with the next object
pub in_order-declared : (decls : List Decl) (written : List Declared) (d : Decl) → AreInOrder decls written → AreInOrder (decls ++ d ∷ []) (written ++ Object (length decls) ∷ [])
in_order-declared decls written d held = record {
  all = omega (arith, held.all, count_by-push is_object written (Object (length decls)), length-append decls (d ∷ []));
  each = each-push (decls ++ d ∷ []) written (Object (length decls))
      (λ n l e. follows-more decls d (take n written) l (omega (arith, held.all, objects_in-take written n)) (held.each n l e))
      (eq-eqb (length decls) (objects_in written) (sym held.all));
}

-- the lines with a permission that wasn't said, of a thread on an object
pub in_order-permitted : (decls : List Decl) (written : List Declared) (thread object : ℕ) → AreInOrder decls written → is_at is_thread decls thread ≡ true → object < length decls → is_allowed written thread object ≡ false
    → AreInOrder decls (written ++ Allow thread object ∷ [])
in_order-permitted decls written thread object held player declared new =
    let whole : take (objects_in written) decls ≡ decls = ap (λ n. take n decls) held.all ∙ take_all-length decls in
    record {
      all = omega (arith, held.all, count_by-push is_object written (Allow thread object));
      each = each-push decls written (Allow thread object) held.each
          (and_from (is_at is_thread (take (objects_in written) decls) thread && nat_lt object (objects_in written)) (not (is_allowed written thread object))
          (and_from (is_at is_thread (take (objects_in written) decls) thread) (nat_lt object (objects_in written)) (ap (λ ds. is_at is_thread ds thread) whole ∙ player) (lt-ltb object (objects_in written) (omega (arith, held.all))))
          (ap not new));
    } where
      take_all-length : {X : Type 0} (xs : List X) → take (length xs) xs ≡ xs
      take_all-length [] = refl
      take_all-length (x ∷ xs) = ap (λ ys. x ∷ ys) (take_all-length xs)
