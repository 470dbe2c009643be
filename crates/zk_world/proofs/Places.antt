-- Places of a list.
use Rattle.std.proofs.Common.{◌≡◌, ℕ, zero, suc, ◌<◌, Some, List, [], ◌∷◌, length, refl, arith}
use Rattle.std.specs.List.{slice_get}

-- where a list is long enough something is at a place
pub there-is : {A : Type 0} (xs : List A) (p : ℕ) → p < length xs → (x : A) × (slice_get xs p ≡ Some x)
there-is [] p within = absurd (omega arith)
there-is (x ∷ xs) zero within = (x, refl)
there-is (x ∷ xs) (suc p) within = there-is xs p (omega arith)
