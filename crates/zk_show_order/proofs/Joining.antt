-- Lists joined end to end, one of which loses its first element, or has one more at its end.
use Rattle.std.proofs.Common.{◌≡◌, ℕ, zero, suc, ◌+◌, ◌<◌, List, [], ◌∷◌, ◌++◌, length, get_or, sym, ap, subst, ◌∙◌, arith}
use Rattle.std.proofs.Math.ListN.{set}
use Rattle.std.specs.List.{concat, flat_map, range_with_len}
use Rattle.std.specs.List.Sorted.{IsPermutation}
use Rattle.std.proofs.lemmas.List.{append_assoc}
use Rattle.std.proofs.lemmas.List.Sorted.{IsPermutation-refl, IsPermutation-trans, IsPermutation-append_right, IsPermutation-middle, IsPermutation-append_comm}

-- the first element of a list is taken out
pub joined-taken : (lists : List (List ℕ)) (k n : ℕ) (more : List ℕ) → k < length lists → get_or lists k [] ≡ n ∷ more →
    IsPermutation (concat lists) (n ∷ concat (set lists k more))
joined-taken [] k n more within is = absurd (omega arith)
joined-taken (l ∷ ls) zero n more within is =
    subst (λ (l : List ℕ). IsPermutation (l ++ concat ls) (n ∷ (more ++ concat ls))) (sym is)
    (IsPermutation-refl (n ∷ (more ++ concat ls)))
joined-taken (l ∷ ls) (suc k) n more within is =
    let rest = concat (set ls k more) in
    IsPermutation-trans (l ++ concat ls) (l ++ n ∷ rest) (n ∷ (l ++ rest))
    (IsPermutation-append_right l (concat ls) (n ∷ rest) (joined-taken ls k n more (omega arith) is))
    (IsPermutation-middle l n rest)

-- an element is put at the end of a list
pub joined-put : {X : Type 0} (f : List X → List ℕ) (n : ℕ) (x : X) → ((l : List X) → f (l ++ x ∷ []) ≡ f l ++ n ∷ []) →
    (lists : List (List X)) (k : ℕ) → k < length lists →
    IsPermutation (flat_map f lists ++ n ∷ []) (flat_map f (set lists k (get_or lists k [] ++ x ∷ [])))
joined-put f n x put [] k within = absurd (omega arith)
joined-put f n x put (l ∷ ls) zero within =
    let rest = flat_map f ls in
    subst (λ (first : List ℕ). IsPermutation ((f l ++ rest) ++ n ∷ []) (first ++ rest)) (sym (put l))
    (subst (λ (from : List ℕ). IsPermutation from ((f l ++ n ∷ []) ++ rest)) (sym (append_assoc (f l) rest (n ∷ [])))
    (subst (λ (to : List ℕ). IsPermutation (f l ++ (rest ++ n ∷ [])) to) (sym (append_assoc (f l) (n ∷ []) rest))
    (IsPermutation-append_right (f l) (rest ++ n ∷ []) (n ∷ rest) (IsPermutation-append_comm rest (n ∷ [])))))
joined-put f n x put (l ∷ ls) (suc k) within =
    let rest = flat_map f (set ls k (get_or ls k [] ++ x ∷ [])) in
    subst (λ (from : List ℕ). IsPermutation from (f l ++ rest)) (sym (append_assoc (f l) (flat_map f ls) (n ∷ [])))
    (IsPermutation-append_right (f l) (flat_map f ls ++ n ∷ []) rest (joined-put f n x put ls k (omega arith)))

-- numbers up to one more
range-more : (a n : ℕ) → range_with_len a (suc n) ≡ range_with_len a n ++ (a + n) ∷ []
range-more a zero = let same : a ≡ a + 0 = omega arith in ap (λ (b : ℕ). b ∷ []) same
range-more a (suc n) =
    let same : (a + 1) + n ≡ a + suc n = omega arith in
    ap (λ (l : List ℕ). a ∷ l) (range-more (a + 1) n ∙ ap (λ (b : ℕ). range_with_len (a + 1) n ++ b ∷ []) same)

pub range-next : (n : ℕ) → range_with_len 0 (n + 1) ≡ range_with_len 0 n ++ n ∷ []
range-next n =
    let next : n + 1 ≡ suc n = omega arith in
    let same : 0 + n ≡ n = omega arith in
    ap (range_with_len 0) next ∙ range-more 0 n ∙ ap (λ (m : ℕ). range_with_len 0 n ++ m ∷ []) same
