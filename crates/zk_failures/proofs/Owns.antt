-- What the lines of each player are so far, with one line more.
use Rattle.std.proofs.Common.{◌≡◌, ℕ, zero, suc, ◌+◌, ◌≤◌, max, Bool, true, false, ◌&&◌, ◌||◌, cond, eqb, Option, Some, None, List, [], ◌∷◌, ◌++◌, length, slice_get, slice_set, arith, refl, sym, ap, subst, inl, inr, ◌⊎◌, ◌∙◌}
use Rattle.std.specs.HashSet as sets
use Rattle.std.specs.List.{list_any, count_by}
use Rattle.std.specs.Option.{option_or}
use Rattle.std.proofs.lemmas.Bool.{eq-eqb, ne_eqb}
use Rattle.std.proofs.lemmas.List.Folds.{list_any-append}
use Rattle.std.proofs.lemmas.List.Sums.{sum_by_push}
use Rattle.std.proofs.lemmas.Option.{none-some, same_Some, slice_get_within}
use Rattle.zk_trace.specs.declared.stood.Stood.{Stood}
use Rattle.zk_trace.specs.Stood.{is_of}
use Rattle.zk_failures.specs.declared.own.Own.{Own}
use Rattle.zk_failures.specs.Own.{IsOwn, AreOwn}
use Rattle.zk_failures.specs.Standing.{is_step, last_of, above_of}

-- What lines have with one more.

any-more : (player step : ℕ) (lines : List Stood) (line : Stood) → list_any (is_step player step) (lines ++ line ∷ []) ≡ (list_any (is_step player step) lines || is_step player step line)
any-more player step lines line = list_any-append (is_step player step) lines (line ∷ []) ∙ ap (λ b. list_any (is_step player step) lines || b) (alone (is_step player step line)) where
  alone : (b : Bool) → (b || false) ≡ b
  alone true = refl
  alone false = refl

last-more : (player : ℕ) (lines : List Stood) (line : Stood) → last_of player (lines ++ line ∷ []) ≡ option_or (cond (eqb line.player player) (Some line) None) (last_of player lines)
last-more player [] line = alone (cond (eqb line.player player) (Some line) None) where
  alone : (o : Option Stood) → o ≡ option_or o None
  alone None = refl
  alone (Some l) = refl
last-more player (x ∷ lines) line =
    ap (λ o. option_or o (cond (eqb x.player player) (Some x) None)) (last-more player lines line)
    ∙ later (cond (eqb line.player player) (Some line) None) (last_of player lines) (cond (eqb x.player player) (Some x) None) where
      later : (a b c : Option Stood) → option_or (option_or a b) c ≡ option_or a (option_or b c)
      later None b c = refl
      later (Some l) b c = refl

above-more : (player : ℕ) (lines : List Stood) (line : Stood) → above_of player (lines ++ line ∷ []) ≡ max (above_of player lines) (cond (eqb line.player player) (line.step + 1) 0)
above-more player [] line = omega arith
above-more player (x ∷ lines) line = let rest = above-more player lines line in omega (arith, rest)

rows-more : (player : ℕ) (lines : List Stood) (line : Stood) → count_by (is_of player) (lines ++ line ∷ []) ≡ count_by (is_of player) lines + cond (eqb line.player player) 1 0
rows-more player lines line = sum_by_push (λ l. cond (is_of player l) 1 0) lines line

-- one line more of the player
pub own-more : (lines : List Stood) (line : Stood) (old new : Own) → IsOwn line.player lines old →
    ((step : ℕ) → sets.contains (λ k other. eqb k other) new.steps step ≡ cond (eqb line.step step) true (sets.contains (λ k other. eqb k other) old.steps step)) →
    new.last ≡ Some line → new.rows ≡ old.rows + 1 → new.above ≡ max old.above (line.step + 1) → IsOwn line.player (lines ++ line ∷ []) new
own-more lines line old new own steps last rows above =
    let player = line.player in
    let mine : eqb player player ≡ true = eq-eqb player player refl in record {
      steps = λ step.
          steps step ∙ ap (λ b. cond (eqb line.step step) true b) (own.steps step) ∙ pick (eqb line.step step) (list_any (is_step player step) lines)
          ∙ sym (any-more player step lines line ∙ ap (λ b. list_any (is_step player step) lines || (b && eqb line.step step)) mine);
      last = last ∙ sym (last-more player lines line ∙ ap (λ b. option_or (cond b (Some line) None) (last_of player lines)) mine);
      rows = rows ∙ ap (λ n. n + 1) own.rows ∙ sym (rows-more player lines line ∙ ap (λ b. count_by (is_of player) lines + cond b 1 0) mine);
      above = above ∙ ap (λ n. max n (line.step + 1)) own.above ∙ sym (above-more player lines line ∙ ap (λ b. max (above_of player lines) (cond b (line.step + 1) 0)) mine);
    } where
      pick : (same was : Bool) → cond same true was ≡ (was || (true && same))
      pick true true = refl
      pick true false = refl
      pick false true = refl
      pick false false = refl

-- or of another one
own-other : (player : ℕ) (lines : List Stood) (line : Stood) (own : Own) → eqb line.player player ≡ false → IsOwn player lines own → IsOwn player (lines ++ line ∷ []) own
own-other player lines line own other is = record {
  steps = λ step.
      is.steps step ∙ sym (any-more player step lines line ∙ ap (λ b. list_any (is_step player step) lines || (b && eqb line.step step)) other ∙ alone (list_any (is_step player step) lines));
  last = is.last ∙ sym (last-more player lines line ∙ ap (λ b. option_or (cond b (Some line) None) (last_of player lines)) other);
  rows = is.rows ∙ sym (rows-more player lines line ∙ ap (λ b. count_by (is_of player) lines + cond b 1 0) other ∙ nothing (count_by (is_of player) lines));
  above = is.above ∙ sym (above-more player lines line ∙ ap (λ b. max (above_of player lines) (cond b (line.step + 1) 0)) other ∙ least (above_of player lines));
} where
  alone : (b : Bool) → (b || false) ≡ b
  alone true = refl
  alone false = refl

  nothing : (n : ℕ) → n + 0 ≡ n
  nothing n = omega arith

  least : (n : ℕ) → max n 0 ≡ n
  least n = omega arith

-- Of all players.

set-get : {A : Type 0} (xs : List A) (i k : ℕ) (v x : A) → slice_get (slice_set xs i v) k ≡ Some x → ((k ≡ i) × (v ≡ x)) ⊎ ((k ≡ i → ⊥) × (slice_get xs k ≡ Some x))
set-get [] i k v x there = absurd (none-some x there)
set-get (y ∷ xs) zero zero v x there = inl (refl, same_Some v x there)
set-get (y ∷ xs) zero (suc k) v x there = inr ((λ same. omega (arith, same)), there)
set-get (y ∷ xs) (suc i) zero v x there = inr ((λ same. omega (arith, same)), there)
set-get (y ∷ xs) (suc i) (suc k) v x there = elim (set-get xs i k v x there) [
  | inl is ↦ inl (ap suc is.0, is.1)
  | inr other ↦ inr ((λ same. other.0 (omega (arith, same))), other.1)
]

-- a line more of a player that is there
pub owns-put : (lines : List Stood) (line : Stood) (owns : List Own) (old new : Own) → AreOwn lines owns → slice_get owns line.player ≡ Some old →
    (IsOwn line.player lines old → IsOwn line.player (lines ++ line ∷ []) new) → AreOwn (lines ++ line ∷ []) (slice_set owns line.player new)
owns-put lines line owns old new are there put player own here = elim (set-get owns line.player player new own here) [
  | inl is ↦ subst (λ (n : ℕ). IsOwn n (lines ++ line ∷ []) own) (sym is.0) (subst (λ (o : Own). IsOwn line.player (lines ++ line ∷ []) o) is.1 (put (are line.player old there)))
  | inr other ↦ own-other player lines line own (ne_eqb line.player player (λ same. other.0 (sym same))) (are player own other.1)
]

-- or of one that isn't
pub owns-past : (lines : List Stood) (line : Stood) (owns : List Own) → AreOwn lines owns → length owns ≤ line.player → AreOwn (lines ++ line ∷ []) owns
owns-past lines line owns are past player own here =
    let within = slice_get_within owns player own here in
    own-other player lines line own (ne_eqb line.player player (λ same. omega (arith, same, within, past))) (are player own here)

-- a player more who has none
pub owns-none : (owns : List Own) (new : Own) → AreOwn [] owns → ((player : ℕ) → IsOwn player [] new) → AreOwn [] (owns ++ new ∷ [])
owns-none owns new are none player own there = by owns player there (are player) where
  by : (os : List Own) (k : ℕ) → slice_get (os ++ new ∷ []) k ≡ Some own → ((o : Own) → slice_get os k ≡ Some o → IsOwn player [] o) → IsOwn player [] own
  by [] zero here each = subst (λ (o : Own). IsOwn player [] o) (same_Some new own here) (none player)
  by [] (suc k) here each = absurd (none-some own here)
  by (o ∷ os) zero here each = each own here
  by (o ∷ os) (suc k) here each = by os k here each
