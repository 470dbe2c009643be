-- Words that are put one behind the other.
use Rattle.std.proofs.Common.{◌≡◌, ℕ, Ok, Err, List, ◌++◌, OnOk, Result, ap, ◌∙◌, append_assoc}

-- what is put behind words that were put stands with them behind what was there
pub put_next : {T E : Type 0} (r : Result T E) (old mid new front back : List ℕ) → mid ≡ old ++ front →
    OnOk r (new ≡ mid ++ back) → OnOk r (new ≡ old ++ (front ++ back))
put_next (Ok x) old mid new front back first further =
    further ∙ ap (λ (l : List ℕ). l ++ back) first ∙ append_assoc old front back
put_next (Err e) old mid new front back first further = further
