-- How many writes and looks there are of each signal, from one on.
use Rattle.std.proofs.Common.{◌≡◌, ℕ, zero, suc, ◌+◌, ◌<◌, List, [], ◌∷◌, length, get_or, drop, arith, ap}
use Rattle.zk_trace.specs.Text.{looks_at}
use Rattle.zk_failures.specs.Lines.{both_lengths}

module _ {A B : Type 0} where
  pub both-more : (hs : List (List A)) (looks : List (List B)) (object : ℕ) (h : List A) → object < length hs → h ≡ get_or hs object h →
      both_lengths (drop object hs) (drop object looks) ≡ (length h + length (looks_at looks object)) ∷ both_lengths (drop (suc object) hs) (drop (suc object) looks)
  both-more [] looks object h within is = absurd (omega (arith, within))
  both-more (x ∷ hs) [] zero h within is = ap (λ n. n ∷ both_lengths {B = B} hs []) (let same = ap length is in omega (arith, same))
  both-more (x ∷ hs) (l ∷ looks) zero h within is = ap (λ n. n ∷ both_lengths hs looks) (let same = ap length is in omega (arith, same))
  both-more (x ∷ hs) [] (suc object) h within is = nothing object (both-more hs [] object h (omega (arith, within)) is) where
    nothing : (n : ℕ) → both_lengths {B = B} (drop n hs) (drop n []) ≡ (length h + length (looks_at {L = B} [] n)) ∷ both_lengths {B = B} (drop (suc n) hs) [] →
        both_lengths {B = B} (drop n hs) [] ≡ (length h + length (looks_at {L = B} [] (suc n))) ∷ both_lengths {B = B} (drop (suc n) hs) []
    nothing zero same = same
    nothing (suc n) same = same
  both-more (x ∷ hs) (l ∷ looks) (suc object) h within is = both-more hs looks object h (omega (arith, within)) is
