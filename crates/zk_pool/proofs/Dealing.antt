-- Passes that are made keep the rule of a pool.
use Rattle.std.proofs.Common.{◌≡◌, ℕ, ◌+◌, ◌<◌, refl, ap, ◌∙◌, arith}
use Rattle.crossbeam_queue.specs.Fifo.{Forks}
use Rattle.zk_pool.specs.declared.views.View.{View}
use Rattle.zk_pool.specs.Rule.{PoolStands}
use Rattle.zk_pool.specs.Views.{spent, grown, dealt_from, dealt, found_nothing}
use Rattle.zk_pool.proofs.Keeping.{knows, rests, others_idle, forked}

module _ {T H : Type 0} (number : T → ℕ) (home : T → H) (kept : T → Type 0) where
  pub grows : (id : ℕ) (v : View H) → 0 < v.hands → v.hands ≡ v.made → Forks (PoolStands number home kept) id v (grown v) spent
  grows id v some_hand all items views r at =
      let stands = r.each id v at in
      forked number home kept items views r id v at (r.made + 1) (grown v) spent (omega arith) refl refl
      (knows (r.made + 1) r.numbers r.house (grown v) (ap (λ (n : ℕ). n + 1) (stands.all_made some_hand))
      (stands.all_numbers some_hand) (stands.all_home some_hand) (omega arith))
      (rests (r.made + 1) r.numbers r.house spent refl refl)
      (λ j u differ there.
      let none = others_idle number home kept items views r id v at (all ∙ stands.all_made some_hand) j u differ there in
      rests (r.made + 1) r.numbers r.house u none ((r.each j u there).idle none))

  pub deals : (id : ℕ) (v : View H) → 1 < v.hands → Forks (PoolStands number home kept) id v (dealt_from v) (dealt v)
  deals id v two_hands items views r at =
      let stands = r.each id v at in
      let some_hand : 0 < v.hands = omega arith in
      forked number home kept items views r id v at r.made (dealt_from v) (dealt v) (omega arith) refl refl
      (knows r.made r.numbers r.house (dealt_from v) (stands.all_made some_hand) (stands.all_numbers some_hand)
      (stands.all_home some_hand) (omega arith))
      (knows r.made r.numbers r.house (dealt v) (stands.all_made some_hand) (stands.all_numbers some_hand)
      (stands.all_home some_hand) (omega arith))
      (λ j u differ there. r.each j u there)

  pub finds_nothing : (id : ℕ) (v : View H) → Forks (PoolStands number home kept) id v (found_nothing v) spent
  finds_nothing id v items views r at =
      let stands = r.each id v at in
      forked number home kept items views r id v at r.made (found_nothing v) spent (omega arith) refl refl
      (record { idle = stands.idle; all_made = stands.all_made; all_numbers = stands.all_numbers; all_home = stands.all_home })
      (rests r.made r.numbers r.house spent refl refl)
      (λ j u differ there. r.each j u there)
