-- Words that begin with the letters of busy flags.
use Rattle.std.proofs.Common.{◌≡◌, ℕ, ◌+◌, true, false, ◌&&◌, eqb, Option, Some, None, MatchOption, List, [], ◌∷◌, ◌++◌, length, take, drop, refl, sym, ap, inl, inr, ◌∙◌, arith}
use Rattle.std.specs.Borrow.{Bor}
use Rattle.std.specs.Str.{bytes_eq}
use Rattle.std.proofs.lemmas.Bool.{cases_Bool, false≢true}
use Rattle.std.proofs.lemmas.List.{append-nil, take-append-drop}
use Rattle.std.proofs.lemmas.Slice.Eq.{bytes_eq-Decides}
use Rattle.std.proofs.Math.Seq.{take-append_seam}
use Rattle.zk_trace.specs.Letters.{BeginsOtherwise, GoesOn}

-- the same front leaves it to the rests
same-front : (front rest more : List ℕ) → bytes_eq (front ++ rest) (front ++ more) ≡ bytes_eq rest more
same-front [] rest more = refl
same-front (b ∷ front) rest more = ap (λ t. t && bytes_eq (front ++ rest) (front ++ more)) (same b) ∙ same-front front rest more where
  same : (n : ℕ) → eqb n n ≡ true
  same n = grind arith

-- what is known of a front that is taken off
pub taken-off : (word front letter : List ℕ) → front ≡ letter → (r : Option (Bor (List ℕ)))
    → MatchOption r (bytes_eq (take (length letter) word) letter ≡ false) (λ x. (bytes_eq (take (length letter) word) letter ≡ true) × (x.now ≡ drop (length letter) word) × (length x.now + length letter ≡ length word))
    → MatchOption r (BeginsOtherwise front word) (λ x. GoesOn front word x.now)
taken-off word front letter is None other = λ more. elim (cases_Bool (bytes_eq word (front ++ more))) [
  | inl same ↦ absurd (false≢true
      (sym other ∙ (bytes_eq-Decides (take (length letter) word) letter).1
      (ap (take (length letter)) ((bytes_eq-Decides word (front ++ more)).0 same ∙ ap (λ f. f ++ more) is) ∙ take-append_seam letter more)))
  | inr differs ↦ differs
]
taken-off word front letter is (Some x) both = λ more.
    ap (λ f. bytes_eq word (f ++ more)) is
    ∙ ap (λ w. bytes_eq w (letter ++ more))
    (sym (take-append-drop (length letter) word) ∙ ap (λ l. l ++ drop (length letter) word) ((bytes_eq-Decides (take (length letter) word) letter).0 both.0))
    ∙ same-front letter (drop (length letter) word) more ∙ ap (λ l. bytes_eq l more) (sym both.1)

-- all of a word is a front where nothing is left
pub all-front : (front word rest : List ℕ) → GoesOn front word rest → eqb (length rest) 0 ≡ bytes_eq word front
all-front front word rest on = by rest ∙ sym (on []) ∙ ap (bytes_eq word) (append-nil front) where
  by : (rest : List ℕ) → eqb (length rest) 0 ≡ bytes_eq rest []
  by [] = refl
  by (b ∷ bs) = grind arith

pub no-front : (front word : List ℕ) → BeginsOtherwise front word → false ≡ bytes_eq word front
no-front front word other = sym (other []) ∙ ap (bytes_eq word) (append-nil front)
