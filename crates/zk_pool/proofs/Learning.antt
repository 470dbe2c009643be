-- What a pass learns from the rule of a pool.
use Rattle.std.proofs.Common.{◌≡◌, ℕ, ◌<◌, List, [], ◌∷◌, length, sum_by, sym, ap, ◌∙◌, arith}
use Rattle.crossbeam_queue.specs.Fifo.{Learns}
use Rattle.zk_pool.specs.declared.views.View.{View}
use Rattle.zk_pool.specs.Counts.{tally}
use Rattle.zk_pool.specs.Rule.{hand_count, held_count, held_length, PoolStands}
use Rattle.zk_pool.specs.Steps.{AreAll, AllHasRest, HasRoom}
use Rattle.zk_pool.proofs.Sums.{sum-one, sum-only}

module _ {T H : Type 0} (number : T → ℕ) (home : T → H) (kept : T → Type 0) where
  pub room_is_there : (id : ℕ) (v : View H) → 0 < v.hands → Learns (PoolStands number home kept) id v (HasRoom v)
  room_is_there id v some_hand items views r at =
      let one = sum-one held_length views id v at in
      let all = r.count in
      let same = ap (λ (l : List ℕ). length l) ((r.each id v at).all_numbers some_hand) in
      omega arith

  pub rest_is_there : (id : ℕ) (v : View H) → 0 < v.hands → Learns (PoolStands number home kept) id v (AllHasRest number v)
  rest_is_there id v some_hand items views r at all =
      let stands = r.each id v at in
      let sum : sum_by hand_count views ≡ v.hands = r.hands ∙ sym (all ∙ stands.all_made some_hand) in
      let known = stands.all_numbers some_hand in
      record {
        once = λ n.
            let only = sum-only (held_count n) hand_count views id v (λ j u there none. ap (tally n) ((r.each j u there).idle none)) at sum in
            let were = r.once n in
            let same = ap (tally n) known in
            omega arith;
        count =
            let only = sum-only held_length hand_count views id v (λ j u there none. ap (λ (l : List ℕ). length l) ((r.each j u there).idle none)) at sum in
            let were = r.count in
            let same = ap (λ (l : List ℕ). length l) known in
            omega arith;
      }

-- where the queue is empty, the hands hold all numbers
pub holds-all : {T H : Type 0} (number : T → ℕ) (v : View H) (items : List T) → AreAll number v items → length items ≡ 0 → (n : ℕ) → tally n v.held ≡ tally n v.numbers
holds-all number v [] all none n = let once = all.once n in omega arith
holds-all number v (x ∷ items) all none n = absurd (omega arith)
