-- Lemmas on truth values, options and plain lists that several crates use and the standard library doesn't have.
use Rattle.std.proofs.Common.{◌≡◌, ℕ, zero, suc, Bool, true, false, ◌&&◌, cond, Option, Some, None, is_some, List, [], ◌∷◌, ◌++◌, find, slice_get, All, refl, ◌∙◌, sym, ap, inl, inr}
use Rattle.std.specs.List.{list_all}
use Rattle.std.proofs.lemmas.Bool.{and_parts, cases_Bool, cond-true, cond-false}
use Rattle.std.proofs.lemmas.Option.{same_Some}
use Rattle.std.proofs.lemmas.List.Elements.{All-nil, All-cons, All-head, All-tail}

-- where the first of two holds and not both do, the second doesn't
pub and_second : (b c : Bool) → b ≡ true → (b && c) ≡ false → c ≡ false
and_second true c is both = both
and_second false c is both = absurd (cc)

-- what isn't there is nothing
pub none_from_is_some : {A : Type 0} (o : Option A) → is_some o ≡ false → o ≡ None
none_from_is_some None is = refl
none_from_is_some (Some x) is = absurd (cc)

-- what is given only where a test holds, and is there, is given by a test that holds
pub cond_chosen : {A : Type 0} (b : Bool) (o : Option A) (x : A) → cond b o None ≡ Some x → (b ≡ true) × (o ≡ Some x)
cond_chosen true o x is = (refl, is)
cond_chosen false o x is = absurd (cc)

-- an element of a list that is given only where a test holds
pub cond_nil-at : {A : Type 0} (b : Bool) (xs : List A) (k : ℕ) (x : A) → slice_get (cond b xs []) k ≡ Some x →
    (b ≡ true) × (slice_get xs k ≡ Some x)
cond_nil-at true xs k x at = (refl, at)
cond_nil-at false xs k x at = absurd (cc)

-- an element of a list of one is that one
pub slice_get-one : {A : Type 0} (y x : A) (k : ℕ) → slice_get (y ∷ []) k ≡ Some x → y ≡ x
slice_get-one y x zero at = same_Some y x at
slice_get-one y x (suc k) at = absurd (cc)

-- what holds of each element holds of those of a front
pub All-front : {A : Type 0} (P : A → Type 0) (xs ys : List A) → All P (xs ++ ys) → All P xs
All-front P [] ys all = All-nil P
All-front P (x ∷ xs) ys all = All-cons P x xs (All-head P x (xs ++ ys) all) (All-front P xs ys (All-tail P x (xs ++ ys) all))

-- and of those behind it
pub All-back : {A : Type 0} (P : A → Type 0) (xs ys : List A) → All P (xs ++ ys) → All P ys
All-back P [] ys all = all
All-back P (x ∷ xs) ys all = All-back P xs ys (All-tail P x (xs ++ ys) all)

-- and of the one at a place
pub All-at : {A : Type 0} (P : A → Type 0) (xs : List A) (k : ℕ) (x : A) → All P xs → slice_get xs k ≡ Some x → P x
All-at P [] k x all at = absurd (cc)
All-at P (y ∷ ys) zero x all at = rw (same_Some y x at) at (All-head P y ys all)
All-at P (y ∷ ys) (suc k) x all at = All-at P ys k x (All-tail P y ys all) at

-- where all pass a test, the one at a place does
pub list_all-at : {A : Type 0} (test : A → Bool) (xs : List A) (k : ℕ) (x : A) → list_all test xs ≡ true →
    slice_get xs k ≡ Some x → test x ≡ true
list_all-at test [] k x all at = absurd (cc)
list_all-at test (y ∷ ys) zero x all at = ap test (sym (same_Some y x at)) ∙ (and_parts (test y) (list_all test ys) all).0
list_all-at test (y ∷ ys) (suc k) x all at = list_all-at test ys k x (and_parts (test y) (list_all test ys) all).1 at

-- what is found passes the test
pub find-passes : {A : Type 0} (test : A → Bool) (xs : List A) (x : A) → find test xs ≡ Some x → test x ≡ true
find-passes test [] x found = absurd (cc)
find-passes test (y ∷ ys) x found = elim (cases_Bool (test y)) [
  | inl passes ↦ ap test (sym (same_Some y x (sym (cond-true (test y) _ _ passes) ∙ found))) ∙ passes
  | inr fails ↦ find-passes test ys x (sym (cond-false (test y) _ _ fails) ∙ found)
]
