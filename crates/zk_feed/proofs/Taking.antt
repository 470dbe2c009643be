-- The last seats of lines, taken one after the other.
use Rattle.std.proofs.Common.{◌≡◌, ℕ, ◌+◌, ◌<◌, ◌≤◌, ⊎_elim, Some, List, [], ◌∷◌, ◌++◌, length, set, slice_get, Vec, Global, sym, ap, ◌∙◌, arith}
use Rattle.std.proofs.lemmas.Option.{same_Some, slice_get_within}
use Rattle.zk_msgsub.specs.declared.seats.PubSeat.{PubSeat}
use Rattle.zk_feed.specs.Lasts.{IsShorter}
use Rattle.zk_feed.proofs.Places.{at-last, at-set, at-unset}

abbrev Seats : Type 0
Seats = Vec PubSeat Global

module _ (old now : List Seats) (lasts : List PubSeat) (i : ℕ) (line after : Seats) (last : PubSeat)
    (inside : i < length now) (many : length lasts ≡ i) (stood : slice_get now i ≡ Some line)
    (is : line.items ≡ after.items ++ last ∷ [])
    (left : (k : ℕ) → i ≤ k → slice_get now k ≡ slice_get old k) where
  -- those behind it are as they were
  pub left-still : (k : ℕ) → i + 1 ≤ k → slice_get (set now i after) k ≡ slice_get old k
  left-still k behind = at-unset now i k after (λ same. omega arith) ∙ left k (omega arith)

  -- and one more is taken
  pub taken-more : ((k : ℕ) (o n : Seats) (x : PubSeat) → slice_get old k ≡ Some o → slice_get now k ≡ Some n →
      slice_get lasts k ≡ Some x → IsShorter o n x) → (k : ℕ) (o n : Seats) (x : PubSeat) → slice_get old k ≡ Some o →
      slice_get (set now i after) k ≡ Some n → slice_get (lasts ++ last ∷ []) k ≡ Some x → IsShorter o n x
  taken-more taken k o n x at there here = ⊎_elim
      (λ before.
      let within = slice_get_within lasts k x before in
      taken k o n x at (sym (at-unset now i k after (λ same. omega arith)) ∙ there) before)
      (λ end.
      let place : k ≡ i = end.0 ∙ many in
      let was : line ≡ o = same_Some line o (sym stood ∙ left i (omega arith) ∙ ap (slice_get old) (sym place) ∙ at) in
      let becomes : after ≡ n = same_Some after n (sym (at-set now i after inside)
      ∙ ap (slice_get (set now i after)) (sym place) ∙ there) in
      record {
        items = ap (λ (s : Seats). s.items) (sym was) ∙ is
            ∙ ap (λ (s : Seats). s.items ++ last ∷ []) becomes ∙ ap (λ (y : PubSeat). n.items ++ y ∷ []) end.1;
      })
      (at-last lasts last x k here)
