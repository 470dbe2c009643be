-- The first player of a seat gets a seat of its own.
use Rattle.std.proofs.Common.{◌≡◌, inl, inr, ⊎_elim, ℕ, ◌+◌, List, [], ◌∷◌, ◌++◌, set, get_or, sum_by, subst, ◌∙◌, arith}
use Rattle.std.proofs.lemmas.List.Sums.{sum_by_push}
use Rattle.atomic_table.specs.Table.{Splits}
use Rattle.atomic_table.proofs.Lists.{at_set, at_snoc}
use Rattle.zk_signal.specs.declared.views.View.{View}
use Rattle.zk_signal.specs.Rule.{player_count, drawn_count, stamp_count, write_count, IsValue, SeatStands, SignalStands}
use Rattle.zk_signal.specs.Views.{opened, dealt_from, dealt}
use Rattle.zk_signal.proofs.Starting.{fresh}
use Rattle.zk_signal.proofs.Moving.{still_stands}
use Rattle.zk_signal.proofs.Seats.{sum-set}

pub deals : (count id player : ℕ) (others : List ℕ) →
    Splits (SignalStands count) id (opened (player ∷ others)) (dealt_from (opened (player ∷ others))) (dealt (opened (player ∷ others)))
deals count id player others s r at =
    record {
      words = r.words;
      few = r.few;
      players = sums player_count (omega arith) ∙ r.players;
      drawn = sums drawn_count (omega arith) ∙ r.drawn;
      stamps = λ n. sums (stamp_count n) (omega arith) ∙ r.stamps n;
      value = still (get_or s.words 0 0) r.value;
      tidy = r.tidy;
      each = λ j u there. ⊎_elim
          (λ t. ⊎_elim
          (λ q. subst Stands q.1 (fresh views (get_or s.words 0 0) others))
          (λ q. still_stands s.views views (get_or s.words 0 0) (get_or s.words 0 0) u still (omega arith) (r.each j u q.1))
          (at_set s.views id j left u t))
          (λ same. subst Stands same (fresh views (get_or s.words 0 0) (player ∷ [])))
          (at_snoc (set s.views id left) right u j there);
    }
  where
    left : View
    left = opened others

    right : View
    right = opened (player ∷ [])

    views : List View
    views = set s.views id left ++ right ∷ []

    Stands : View → Type 0
    Stands x = SeatStands views (get_or s.words 0 0) x

    sums : (f : View → ℕ) → f left + f right ≡ f (opened (player ∷ others)) + 0 → sum_by f views ≡ sum_by f s.views
    sums f both =
        let moved = sum-set f s.views id (opened (player ∷ others)) left at in
        let more = sum_by_push f (set s.views id left) right in
        omega arith

    still : (n : ℕ) → IsValue s.views n → IsValue views n
    still n is = ⊎_elim (λ first. inl first) (λ lt. let sum = sums (write_count n) (omega arith) in inr (omega arith)) is
