-- Parts of an array, one behind the other.
use Rattle.std.proofs.Common.{◌≡◌, ℕ, ◌+◌, ◌<◌, Bool, true, false, ◌||◌, nat_lt, suc, List, [], ◌∷◌, ◌++◌, length, drop, slice_get, get_or, Some, OnOk, Result, Ok, Err, refl, sym, ap, ◌∙◌, append_assoc, arith}
use Rattle.std.proofs.Math.Seq.{drop-cons}
use Rattle.std.proofs.lemmas.Bool.Decides.{nat_tests}
use Rattle.std.proofs.lemmas.Option.{slice_get_within, get_or_from_slice_get}
use Rattle.zk_show_json.specs.Arrays.{comma, parts}

-- a text was put, and then one more
pub put-more : (old a b w x : List ℕ) → a ≡ old ++ w → b ≡ a ++ x → b ≡ old ++ (w ++ x)
put-more old a b w x first next = next ∙ ap (λ (l : List ℕ). l ++ x) first ∙ append_assoc old w x

is-begun : (begun : Bool) (count : ℕ) → (begun || nat_lt 0 (suc count)) ≡ true
is-begun true count = refl
is-begun false count = grind (arith, nat_tests)

-- parts behind others
pub parts-append : {X : Type 0} (text : X → List ℕ) (begun : Bool) (xs ys : List X) →
    parts text begun (xs ++ ys) ≡ parts text begun xs ++ parts text (begun || nat_lt 0 (length xs)) ys
parts-append text true [] ys = refl
parts-append text false [] ys = refl
parts-append text begun (x ∷ xs) ys =
    ap (λ (l : List ℕ). comma begun ++ text x ++ l) (parts-append text true xs ys) ∙
    sym (append_assoc (comma begun ++ text x) (parts text true xs) (parts text true ys)) ∙
    ap (λ (b : Bool). parts text begun (x ∷ xs) ++ parts text b ys) (sym (is-begun begun (length xs)))

-- what was put, and what is put behind it
pub both-put : {X T E : Type 0} (text : X → List ℕ) (begun : Bool) (xs ys : List X) (r : Result T E) (old mid new : List ℕ) →
    mid ≡ old ++ parts text begun xs → OnOk r (new ≡ mid ++ parts text (begun || nat_lt 0 (length xs)) ys) →
    OnOk r (new ≡ old ++ parts text begun (xs ++ ys))
both-put text begun xs ys (Ok x) old mid new first next =
    next ∙ ap (λ (l : List ℕ). l ++ parts text (begun || nat_lt 0 (length xs)) ys) first ∙
    append_assoc old (parts text begun xs) (parts text (begun || nat_lt 0 (length xs)) ys) ∙
    ap (λ (l : List ℕ). old ++ l) (sym (parts-append text begun xs ys))
both-put text begun xs ys (Err e) old mid new first next = next

-- what is left of a list from a place on: what stands there, and the rest
pub drop-next : {X : Type 0} (xs : List X) (place : ℕ) (x : X) → slice_get xs place ≡ Some x → drop place xs ≡ x ∷ drop (place + 1) xs
drop-next xs place x there =
    let next : suc place ≡ place + 1 = omega arith in
    drop-cons xs place x (slice_get_within xs place x there) ∙
    ap (λ (y : _). y ∷ drop (suc place) xs) (get_or_from_slice_get xs place x x there) ∙
    ap (λ (n : ℕ). x ∷ drop n xs) next

-- the next part is put, and the others are left
pub part-on : {X : Type 0} (text : X → List ℕ) (begun : Bool) (x : X) (xs rest : List X) (old mid new whole : List ℕ) → xs ≡ x ∷ rest →
    mid ≡ old ++ comma begun → new ≡ mid ++ text x → old ++ parts text begun xs ≡ whole → new ++ parts text true rest ≡ whole
part-on text begun x xs rest old mid new whole left first next before =
    ap (λ (l : List ℕ). l ++ parts text true rest) (next ∙ ap (λ (l : List ℕ). l ++ text x) first ∙ append_assoc old (comma begun) (text x)) ∙
    append_assoc old (comma begun ++ text x) (parts text true rest) ∙
    ap (λ (ys : List _). old ++ parts text begun ys) (sym left) ∙ before
