-- One message more of a publisher, and what was taken out of lists of two.
use Rattle.std.proofs.Common.{◌≡◌, ℕ, suc, ◌+◌, ◌-◌, ◌<◌, ◌≤◌, All, List, [], ◌∷◌, ◌++◌, length, ap, subst, ◌∙◌, arith}
use Rattle.std.proofs.lemmas.List.{length-append}
use Rattle.std.proofs.lemmas.List.Elements.{All-head, All-weaker}
use Rattle.zk_base.proofs.Lists.{All-back, All-front}
use Rattle.zk_msgsub.specs.declared.publisher.Publisher.{Publisher}
use Rattle.zk_msgsub.specs.Publishers.{IsPublisherOf, publisher_room, publisher_seats}
use Rattle.zk_msgsub.specs.Seats.{seat_room}
use Rattle.zk_test_msgsub.specs.declared.parts.Shared.{Shared}
use Rattle.zk_test_msgsub.specs.declared.parts.TheConstants.{ROUNDS}
use Rattle.zk_test_msgsub.specs.Parts.{IsSending}

pub one-more : (f : Shared) (n : ℕ) (old new : Publisher) → IsSending f n old → n < ROUNDS →
    IsPublisherOf f.fan f.subs.items new →
    publisher_room old ≤ publisher_room new + 1 →
    ((k : ℕ) → All (λ s. k < seat_room s) (publisher_seats old) → All (λ s. k ≤ seat_room s) (publisher_seats new)) →
    IsSending f (n + 1) new
one-more f n old new sending below own room falls =
    let so_far = sending.room in
    let k = ROUNDS - suc n in
    record {
      own = own;
      room = omega arith;
      rooms = All-weaker (λ s. k ≤ seat_room s) (λ s. ROUNDS ≤ seat_room s + (n + 1)) (λ s some. omega arith)
          (publisher_seats new)
          (falls k (All-weaker (λ s. ROUNDS ≤ seat_room s + n) (λ s. k < seat_room s) (λ s some. omega arith)
          (publisher_seats old)
          sending.rooms));
    }

module _ {A : Type 0} where
  -- the last two of two
  pub the-two : (xs ys zs : List A) (first second : A) → length xs ≡ 2 → xs ≡ ys ++ second ∷ [] → ys ≡ zs ++ first ∷ [] →
      xs ≡ first ∷ second ∷ []
  the-two xs ys [] first second two last before = last ∙ ap (λ l. l ++ second ∷ []) before
  the-two xs ys (z ∷ zs) first second two last before =
      let long = length-append ys (second ∷ []) in
      let long' = length-append zs (first ∷ []) in
      let one = ap (λ (l : List A). length l) last in
      let other = ap (λ (l : List A). length l) before in
      absurd (omega arith)

  -- what holds of all holds of the last, and of the one before it
  pub of-last : (P : A → Type 0) (xs ys : List A) (x : A) → xs ≡ ys ++ x ∷ [] → All P xs → P x
  of-last P xs ys x is all = All-head P x [] (All-back P ys (x ∷ []) (subst (All P) is all))

  pub of-others : (P : A → Type 0) (xs ys : List A) (x : A) → xs ≡ ys ++ x ∷ [] → All P xs → All P ys
  of-others P xs ys x is all = All-front P ys (x ∷ []) (subst (All P) is all)
