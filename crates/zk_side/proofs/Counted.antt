-- How many entries each player of a side script has: none at first, and one more with an entry.
use Rattle.std.proofs.Common.{◌≡◌, ℕ, ◌+◌, ◌<◌, ◌≤◌, Bool, eqb, cond, List, [], ◌∷◌, ◌++◌, length, get_or, set, replicate, sym, ap, add-zero, inl, inr, ◌∙◌, arith}
use Rattle.std.proofs.lemmas.Bool.{cases_eq, cond-true, cond-false, eq-eqb, ne_eqb}
use Rattle.std.proofs.lemmas.List.{get_or-set_same, get_or-set_other, get_or-replicate}
use Rattle.std.proofs.lemmas.List.Elements.{All-nil, All-push, All-weaker}
use Rattle.std.proofs.lemmas.List.Sums.{sum_by_push, count_by-le-length}
use Rattle.zk_base.specs.declared.ids.Entry.{Entry}
use Rattle.zk_base.specs.History.{IsAbove}
use Rattle.zk_side.specs.Kept.{AreCounted}
use Rattle.zk_side.specs.Played.{step_of}

-- a player has an entry more where it is its own
pub step_of-snoc : {O R : Type 0} (h : List (Entry O R)) (e : Entry O R) (player : ℕ) →
    step_of (h ++ e ∷ []) player ≡ step_of h player + cond (eqb e.who.number player) 1 0
step_of-snoc {O} {R} h e player = let own : Entry O R → ℕ = λ f. cond (eqb f.who.number player) 1 0 in sum_by_push own h e

-- no player has more entries than there are
pub step_of-most : {O R : Type 0} (h : List (Entry O R)) (player : ℕ) → step_of h player ≤ length h
step_of-most {O} {R} h player = let own : Entry O R → Bool = λ e. eqb e.who.number player in count_by-le-length own h

-- no entry: none is counted
pub AreCounted-none : {O R : Type 0} → AreCounted {O = O} {R = R} [] (replicate 64 0)
AreCounted-none {O} {R} = record {
  counted = λ player few. get_or-replicate 64 player 0 0 (omega arith);
  below = λ player.
      let P : Entry O R → Type 0 = λ e. e.who.number ≡ player → e.step < step_of {O = O} {R = R} [] player in
      All-nil P;
}

module _ {O R : Type 0} (h : List (Entry O R)) (e : Entry O R) (next : e.step ≡ step_of h e.who.number) where
  -- the steps of its player
  own : (player : ℕ) → e.who.number ≡ player → step_of (h ++ e ∷ []) player ≡ e.step + 1
  own player same =
      step_of-snoc h e player
      ∙ ap (λ n. step_of h player + n) (cond-true (eqb e.who.number player) 1 0 (eq-eqb e.who.number player same))
      ∙ ap (λ n. n + 1) (ap (step_of h) (sym same) ∙ sym next)

  others : (player : ℕ) → (e.who.number ≡ player → ⊥) → step_of (h ++ e ∷ []) player ≡ step_of h player
  others player other =
      step_of-snoc h e player
      ∙ ap (λ n. step_of h player + n) (cond-false (eqb e.who.number player) 1 0 (ne_eqb e.who.number player other))
      ∙ add-zero (step_of h player)

  grown : (player : ℕ) → step_of h player ≤ step_of (h ++ e ∷ []) player
  grown player = omega (arith, step_of-snoc h e player)

  below_more : (player : ℕ) → IsAbove h player (step_of h player) → IsAbove (h ++ e ∷ []) player (step_of (h ++ e ∷ []) player)
  below_more player below =
      let P : Entry O R → Type 0 = λ f. f.who.number ≡ player → f.step < step_of h player in
      let Q : Entry O R → Type 0 = λ f. f.who.number ≡ player → f.step < step_of (h ++ e ∷ []) player in
      All-push Q h e (All-weaker P Q (λ f earlier same. omega (arith, earlier same, grown player)) h below)
      (λ same. omega (arith, own player same))

  counted_more : (steps : List ℕ) (player : ℕ) → e.who.number < length steps → get_or steps player 0 ≡ step_of h player →
      get_or (set steps e.who.number (e.step + 1)) player 0 ≡ step_of (h ++ e ∷ []) player
  counted_more steps player within before = elim (cases_eq e.who.number player) [
    | inl same ↦ ap (λ k. get_or (set steps e.who.number (e.step + 1)) k 0) (sym same)
        ∙ get_or-set_same steps e.who.number (e.step + 1) 0 within ∙ sym (own player same)
    | inr other ↦ get_or-set_other steps e.who.number player (e.step + 1) 0 (λ same. other (sym same))
        ∙ before ∙ sym (others player other)
  ]

  -- an entry: one more is counted of its player
  pub AreCounted-entry : (steps : List ℕ) → AreCounted h steps → e.who.number < length steps →
      AreCounted (h ++ e ∷ []) (set steps e.who.number (e.step + 1))
  AreCounted-entry steps kept within = record {
    counted = λ player few. counted_more steps player within (kept.counted player few);
    below = λ player. below_more player (kept.below player);
  }
