-- Passes that are joined keep the rule of a pool.
use Rattle.std.proofs.Common.{⊎_elim, ℕ, ◌<◌, set, refl, subst, arith}
use Rattle.std.proofs.lemmas.List.{length-append}
use Rattle.crossbeam_queue.specs.Fifo.{Merges}
use Rattle.crossbeam_queue.proofs.Lists.{at_set}
use Rattle.zk_pool.specs.declared.views.View.{View}
use Rattle.zk_pool.specs.Rule.{hand_count, held_count, held_length, ViewStands, PoolStands}
use Rattle.zk_pool.specs.Views.{joined, spent}
use Rattle.zk_pool.proofs.Counts.{tally-append}
use Rattle.zk_pool.proofs.Keeping.{knows, rests}
use Rattle.zk_pool.proofs.Sums.{sum-set}

module _ {T H : Type 0} (number : T → ℕ) (home : T → H) (kept : T → Type 0) where
  pub joins : (id : ℕ) (v : View H) (other : ℕ) (u : View H) → 0 < v.hands →
      Merges (PoolStands number home kept) id v other u (joined v u) spent
  joins id v other u some_hand items views r at differ at' =
      let both = joined v u in
      let vs = set views id both in
      let stands = r.each id v at in
      record {
        made = r.made;
        numbers = r.numbers;
        house = r.house;
        hands =
            let first = sum-set hand_count views id v both at in
            let second = sum-set hand_count vs other u spent at' in
            let all = r.hands in
            omega arith;
        once = λ n.
            let first = sum-set (held_count n) views id v both at in
            let second = sum-set (held_count n) vs other u spent at' in
            let together = tally-append n v.held u.held in
            let all = r.once n in
            omega arith;
        count =
            let first = sum-set held_length views id v both at in
            let second = sum-set held_length vs other u spent at' in
            let together = length-append v.held u.held in
            let all = r.count in
            omega arith;
        suits = r.suits;
        each = λ j x there. ⊎_elim
            (λ last. subst (ViewStands r.made r.numbers r.house) last.1 (rests r.made r.numbers r.house spent refl refl))
            (λ old. ⊎_elim
            (λ here. subst (ViewStands r.made r.numbers r.house) here.1
            (knows r.made r.numbers r.house both (stands.all_made some_hand) (stands.all_numbers some_hand)
            (stands.all_home some_hand) (omega arith)))
            (λ else. r.each j x else.1)
            (at_set views id j both x old.1))
            (at_set vs other j spent x there);
      }
