-- The first place of a byte in a text.
use Rattle.std.proofs.Common.{◌≡◌, ℕ, ◌+◌, ◌<◌, zero, suc, Bool, true, false, not, cond, eqb, ltb, Option, Some, None, List, [], ◌∷◌, length, refl, sym, ap, inl, inr, ◌∙◌, arith}
use Rattle.std.specs.Prelude.{slice_index}
use Rattle.std.specs.List.{position, position_or_len}
use Rattle.std.proofs.lemmas.Bool.{cases_Bool, cond-true, cond-false, ltb-true, ltb-false}
use Rattle.memchr.specs.Find.{IsFirstByte, is_byte}

-- at the head of a text, or behind it
pub here : (byte b : ℕ) (bs : List ℕ) → eqb b byte ≡ true → position_or_len (λ x. eqb x byte) (b ∷ bs) ≡ 0
here byte b bs same = ap (λ (t : Bool). cond (not t) (1 + position_or_len (λ x. eqb x byte) bs) 0) same

pub later : (byte b : ℕ) (bs : List ℕ) → eqb b byte ≡ false → position_or_len (λ x. eqb x byte) (b ∷ bs) ≡ 1 + position_or_len (λ x. eqb x byte) bs
later byte b bs other = ap (λ (t : Bool). cond (not t) (1 + position_or_len (λ x. eqb x byte) bs) 0) other

-- the first place, and where there is none, as a search names them
place-at : (byte : ℕ) (bs : List ℕ) (k : ℕ) → ((i : ℕ) → i < k → eqb (slice_index bs i) byte ≡ true → ⊥) → k < length bs → eqb (slice_index bs k) byte ≡ true →
    position_or_len (λ x. eqb x byte) bs ≡ k
place-at byte [] k none within is = absurd (omega arith)
place-at byte (b ∷ bs) zero none within is = here byte b bs is
place-at byte (b ∷ bs) (suc k) none within is = elim (cases_Bool (eqb b byte)) [
  | inl same ↦ absurd (none 0 (omega arith) same)
  | inr other ↦ omega (arith, later byte b bs other, place-at byte bs k (λ i below. none (suc i) (omega (arith, below))) (omega (arith, within)) is)
]

place-none : (byte : ℕ) (bs : List ℕ) → ((i : ℕ) → i < length bs → eqb (slice_index bs i) byte ≡ true → ⊥) → position_or_len (λ x. eqb x byte) bs ≡ length bs
place-none byte [] none = refl
place-none byte (b ∷ bs) none = elim (cases_Bool (eqb b byte)) [
  | inl same ↦ absurd (none 0 (omega arith) same)
  | inr other ↦ omega (arith, later byte b bs other, place-none byte bs (λ i below. none (suc i) (omega (arith, below))))
]

pub first-place : (byte : ℕ) (bs : List ℕ) (r : Option ℕ) → IsFirstByte (is_byte byte) bs r → r ≡ position (λ x. eqb x byte) bs
first-place byte bs None first = elim (cases_Bool (ltb (position_or_len (λ x. eqb x byte) bs) (length bs))) [
  | inl within ↦
      let below = ltb-true (position_or_len (λ x. eqb x byte) bs) (length bs) within in
      absurd (omega (arith, below, place-none byte bs (λ i there. first i (omega arith) there)))
  | inr past ↦ sym (cond-false (ltb (position_or_len (λ x. eqb x byte) bs) (length bs)) (Some (position_or_len (λ x. eqb x byte) bs)) None past)
]
first-place byte bs (Some k) first =
    let at = place-at byte bs k (λ i below. first.0.before i (omega arith) below) first.0.high first.1 in
    elim (cases_Bool (ltb (position_or_len (λ x. eqb x byte) bs) (length bs))) [
      | inl within ↦ ap Some (sym at) ∙ sym (cond-true (ltb (position_or_len (λ x. eqb x byte) bs) (length bs)) (Some (position_or_len (λ x. eqb x byte) bs)) None within)
      | inr past ↦
          let beyond = ltb-false (position_or_len (λ x. eqb x byte) bs) (length bs) past in
          let high = first.0.high in
          absurd (omega (arith, beyond, high, at))
    ]
