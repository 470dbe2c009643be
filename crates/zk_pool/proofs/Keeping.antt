-- What still holds of a view, and of all views, when one pass changes.
use Rattle.std.proofs.Common.{◌≡◌, ◌≢◌, ⊎_elim, ℕ, ◌+◌, ◌<◌, ◌≤◌, Option, List, [], ◌∷◌, ◌++◌, length, map, set, All, ap, subst, arith}
use Rattle.std.proofs.lemmas.List.Sums.{sum_by_push}
use mathlib.Core.Option.{some}
use lib.ListN.{get_elem?}
use Rattle.crossbeam_queue.proofs.Lists.{at_set, at_snoc}
use Rattle.zk_pool.specs.declared.views.View.{View}
use Rattle.zk_pool.specs.Counts.{tally}
use Rattle.zk_pool.specs.Rule.{hand_count, held_count, held_length, Suits, ViewStands, PoolStands}
use Rattle.zk_pool.specs.Views.{holding}
use Rattle.zk_pool.proofs.Sums.{sum-set, sum-one, sum-two}

module _ {H : Type 0} (made : ℕ) (numbers : List ℕ) (house : Option H) where
  -- a view with a hand, whatever it holds
  pub knows : (v : View H) → v.made ≡ made → v.numbers ≡ numbers → v.home ≡ house → 0 < v.hands → ViewStands made numbers house v
  knows v is_made are_numbers is_home some_hand = record {
    idle = λ none. absurd (omega arith);
    all_made = λ lt. is_made;
    all_numbers = λ lt. are_numbers;
    all_home = λ lt. is_home;
  }

  -- a view without one
  pub rests : (v : View H) → v.hands ≡ 0 → v.held ≡ [] → ViewStands made numbers house v
  rests v none held = record {
    idle = λ _. held;
    all_made = λ lt. absurd (omega arith);
    all_numbers = λ lt. absurd (omega arith);
    all_home = λ lt. absurd (omega arith);
  }

module _ {T H : Type 0} (number : T → ℕ) (home : T → H) (kept : T → Type 0) (items : List T) (views : List (View H))
    (r : PoolStands number home kept items views) (id : ℕ) (v : View H) (at : get_elem? views id ≡ some v) where
  -- where a pass stands for all hands, no other has one
  pub others_idle : v.hands ≡ r.made → (j : ℕ) (u : View H) → j ≢ id → get_elem? views j ≡ some u → u.hands ≡ 0
  others_idle all j u differ there =
      let both = sum-two hand_count views id j v u at there differ in
      let sum = r.hands in
      omega arith

  -- one pass holds other numbers, and the queue other items: all numbers are there as often
  pub moved : (items' : List T) (held : List ℕ) → 0 < v.hands →
      ((n : ℕ) → tally n (map number items') + tally n held ≡ tally n (map number items) + tally n v.held) →
      length items' + length held ≡ length items + length v.held → All (Suits number home kept r.house) items' →
      PoolStands number home kept items' (set views id (holding v held))
  moved items' held some_hand as_often as_many suit =
      let w = holding v held in
      let stands = r.each id v at in
      record {
        made = r.made;
        numbers = r.numbers;
        house = r.house;
        hands = let sum = sum-set hand_count views id v w at in let all = r.hands in omega arith;
        once = λ n. let sum = sum-set (held_count n) views id v w at in let all = r.once n in let same = as_often n in omega arith;
        count = let sum = sum-set held_length views id v w at in let all = r.count in omega arith;
        suits = suit;
        each = λ j u there. ⊎_elim
            (λ here. subst (ViewStands r.made r.numbers r.house) here.1
            (knows r.made r.numbers r.house w (stands.all_made some_hand) (stands.all_numbers some_hand) (stands.all_home some_hand) some_hand))
            (λ else. r.each j u else.1)
            (at_set views id j w u there);
      }

  -- one pass more, which holds nothing
  pub forked : (made : ℕ) (w s : View H) → w.hands + s.hands + r.made ≡ v.hands + made → w.held ≡ v.held → s.held ≡ [] →
      ViewStands made r.numbers r.house w → ViewStands made r.numbers r.house s →
      ((j : ℕ) (u : View H) → j ≢ id → get_elem? views j ≡ some u → ViewStands made r.numbers r.house u) →
      PoolStands number home kept items (set views id w ++ s ∷ [])
  forked made w s parts held none left right others =
      let vs = set views id w in
      record {
        made = made;
        numbers = r.numbers;
        house = r.house;
        hands =
            let sum = sum-set hand_count views id v w at in
            let more = sum_by_push hand_count vs s in
            let all = r.hands in
            omega arith;
        once = λ n.
            let sum = sum-set (held_count n) views id v w at in
            let more = sum_by_push (held_count n) vs s in
            let all = r.once n in
            let same = ap (tally n) held in
            let nothing = ap (tally n) none in
            omega arith;
        count =
            let sum = sum-set held_length views id v w at in
            let more = sum_by_push held_length vs s in
            let all = r.count in
            let same = ap (λ (l : List ℕ). length l) held in
            let nothing = ap (λ (l : List ℕ). length l) none in
            omega arith;
        suits = r.suits;
        each = λ j u there. ⊎_elim
            (λ old. ⊎_elim (λ here. subst (ViewStands made r.numbers r.house) here.1 left) (λ else. others j u else.0 else.1) (at_set views id j w u old))
            (λ last. subst (ViewStands made r.numbers r.house) last right)
            (at_snoc vs s u j there);
      }

  -- with a hand, no number is in its hands more often than among all
  pub within : 0 < v.hands → ((n : ℕ) → tally n v.held ≤ tally n v.numbers) × (length v.held ≤ length v.numbers)
  within some_hand =
      let known = (r.each id v at).all_numbers some_hand in (
        (λ n.
            let one = sum-one (held_count n) views id v at in
            let all = r.once n in
            let same = ap (tally n) known in
            omega arith),
        (let one = sum-one held_length views id v at in
            let all = r.count in
            let same = ap (λ (l : List ℕ). length l) known in
            omega arith),
      )
