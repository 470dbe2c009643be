-- Takes and gives keep the rule of a pool.
use Rattle.std.proofs.Common.{ℕ, ◌<◌, [], ◌∷◌, ◌++◌, map, set, refl, sym, ap, ◌∙◌, arith}
use Rattle.std.proofs.lemmas.List.{length-append, map-append}
use Rattle.std.proofs.lemmas.List.Elements.{All-head, All-tail, All-push}
use Rattle.std.proofs.lemmas.List.Sums.{sum_by-cons}
use Rattle.crossbeam_queue.specs.Fifo.{Pushes, Pops}
use Rattle.zk_pool.specs.declared.views.View.{View}
use Rattle.zk_pool.specs.Counts.{tally, without}
use Rattle.zk_pool.specs.Rule.{Suits, PoolStands}
use Rattle.zk_pool.specs.Steps.{Takes, Gives}
use Rattle.zk_pool.specs.Views.{holding}
use Rattle.zk_pool.proofs.Counts.{equal, tally-push, tally-without, length-without}
use Rattle.zk_pool.proofs.Keeping.{moved, within}
use Rattle.zk_pool.proofs.Sums.{at-set}

module _ {T H : Type 0} (number : T → ℕ) (home : T → H) (kept : T → Type 0) where
  pub takes : (id : ℕ) (v : View H) → 0 < v.hands →
      Pops (PoolStands number home kept) id v (Takes number home kept v)
  takes id v some_hand x items views r at =
      let held = v.held ++ number x ∷ [] in
      let w = holding v held in
      let first = All-head (Suits number home kept r.house) x items r.suits in
      let rule = moved number home kept (x ∷ items) views r id v at items held some_hand
      (λ n.
      let here = tally-push n (number x) v.held in
      let front = sum_by-cons (equal n) (number x) (map number items) in
      omega arith)
      (let long = length-append v.held (number x ∷ []) in omega arith)
      (All-tail (Suits number home kept r.house) x items r.suits) in
      let most = within number home kept items (set views id w) rule id w (at-set views id v w at) some_hand in (
        w,
        rule,
        record {
          now = refl;
          suits = (first.0 ∙ sym ((r.each id v at).all_home some_hand), first.1);
          once = most.0;
          count = most.1;
        },
      )

  pub gives : (room id : ℕ) (v : View H) (x : T) → 0 < v.hands → 0 < tally (number x) v.held →
      Suits number home kept v.home x → Pushes (PoolStands number home kept) room id v x (Gives number v x)
  gives room id v x some_hand held suits items views short r at =
      let left = without (number x) v.held in (
        holding v left,
        moved number home kept items views r id v at (items ++ x ∷ []) left some_hand
            (λ n.
            let behind = ap (tally n) (map-append number items (x ∷ [])) ∙ tally-push n (number x) (map number items) in
            let less = tally-without (number x) v.held held n in
            omega arith)
            (let long = length-append items (x ∷ []) in
            let less = length-without (number x) v.held held in
            omega arith)
            (All-push (Suits number home kept r.house) items x r.suits
            (suits.0 ∙ (r.each id v at).all_home some_hand, suits.1)),
        refl,
      )
