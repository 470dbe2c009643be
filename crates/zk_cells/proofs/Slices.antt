-- A slice of all of a list.
use Rattle.std.proofs.Common.{◌≡◌, ℕ, List, ◌++◌, length, take, drop, ap, ◌∙◌, arith, append-nil}
use Rattle.std.proofs.lemmas.List.{drop_all, take_all}

-- what a slice of all of a list leaves there is the slice
pub written-back : {A : Type 0} (old new : List A) (n : ℕ) → length new ≡ length old → n ≡ length old → take n (new ++ drop (length new) old) ≡ new
written-back {A} old new n long many =
    ap (λ (l : List A). take n (new ++ l)) (drop_all (length new) old (omega (arith, long)))
    ∙ ap (λ (l : List A). take n l) (append-nil new) ∙ take_all n new (omega (arith, long, many))
