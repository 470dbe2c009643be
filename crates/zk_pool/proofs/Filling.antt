-- A new pool stands, and each item of `new` that goes in keeps its rule.
use Rattle.std.proofs.Common.{◌≡◌, ◌⊎◌, inl, inr, ⊎_elim, true≢false, is_some, ℕ, zero, suc, ◌<◌, Option, Some, None, List, [], ◌∷◌, ◌++◌, map, reverse, refl, sym, ap, subst, ◌∙◌, arith}
use Rattle.std.proofs.lemmas.List.{append_assoc, length-append, map-append, reverse-append}
use Rattle.std.proofs.lemmas.List.Elements.{All-nil, All-push, All-weaker}
use mathlib.Core.Option.{some, some-injective, some-ne-none}
use lib.ListN.{get_elem?}
use Rattle.crossbeam_queue.specs.Fifo.{Pushes}
use Rattle.crossbeam_queue.proofs.Lists.{at_set}
use Rattle.zk_pool.specs.declared.views.View.{View}
use Rattle.zk_pool.specs.Counts.{tally}
use Rattle.zk_pool.specs.Hands.{home_in, undealt}
use Rattle.zk_pool.specs.Rule.{hand_count, held_count, held_length, Suits, ViewStands, PoolStands}
use Rattle.zk_pool.specs.Steps.{Fills}
use Rattle.zk_pool.specs.Views.{opened, filled}
use Rattle.zk_pool.proofs.Counts.{tally-push}
use Rattle.zk_pool.proofs.Keeping.{knows, rests, others_idle}
use Rattle.zk_pool.proofs.Sums.{sum-set}

module _ {T H : Type 0} (number : T → ℕ) (home : T → H) (kept : T → Type 0) where
  -- an empty queue and its first pass
  pub begins : PoolStands number home kept [] (opened ∷ [])
  begins = record {
    made = 1;
    numbers = [];
    house = None;
    hands = refl;
    once = λ n. refl;
    count = refl;
    suits = All-nil (Suits number home kept None);
    each = first;
  } where
    first : (j : ℕ) (v : View H) → get_elem? (opened ∷ []) j ≡ some v → ViewStands 1 [] None v
    first zero v at = subst (ViewStands 1 [] None) (some-injective opened v at) (knows 1 [] None opened refl refl refl (omega arith))
    first (suc j) v at = absurd (some-ne-none v (sym at))

  -- where no home is known yet, or this one, all items are of this one
  same_home : (house : Option H) (x y : T) → (house ≡ None) ⊎ (house ≡ Some (home x)) → Some (home y) ≡ house →
      Some (home y) ≡ Some (home x)
  same_home house x y (inl none) is = absurd (true≢false (ap (λ (o : Option H). is_some o) (is ∙ none)))
  same_home house x y (inr one) is = is ∙ one

  pub fills : (room id : ℕ) (v : View H) (x : T) → 0 < v.hands → v.hands ≡ v.made →
      (v.home ≡ None) ⊎ (v.home ≡ Some (home x)) → kept x → Pushes (PoolStands number home kept) room id v x (Fills number home v x)
  fills room id v x some_hand all house is_kept items views short r at =
      let stands = r.each id v at in
      let w = filled v (number x) (Some (home x)) in
      let numbers = r.numbers ++ number x ∷ [] in
      let before : T → Type 0 = Suits number home kept r.house in
      let after : T → Type 0 = Suits number home kept (Some (home x)) in (
        w,
        record {
          made = r.made;
          numbers = numbers;
          house = Some (home x);
          hands = let sum = sum-set hand_count views id v w at in let were = r.hands in omega arith;
          once = λ n.
              let sum = sum-set (held_count n) views id v w at in
              let were = r.once n in
              let queued = ap (tally n) (map-append number items (x ∷ [])) ∙ tally-push n (number x) (map number items) in
              let known = tally-push n (number x) r.numbers in
              omega arith;
          count =
              let sum = sum-set held_length views id v w at in
              let were = r.count in
              let queued = length-append items (x ∷ []) in
              let known = length-append r.numbers (number x ∷ []) in
              omega arith;
          suits = All-push after items x
              (All-weaker before after (λ y suits. (same_home v.home x y house (suits.0 ∙ sym (stands.all_home some_hand)), suits.1)) items r.suits)
              (refl, is_kept);
          each = λ j u there. ⊎_elim
              (λ here. subst (ViewStands r.made numbers (Some (home x))) here.1
              (knows r.made numbers (Some (home x)) w (stands.all_made some_hand)
              (ap (λ (l : List ℕ). l ++ number x ∷ []) (stands.all_numbers some_hand)) refl some_hand))
              (λ else.
              let none = others_idle number home kept items views r id v at (all ∙ stands.all_made some_hand) j u else.0 else.1 in
              rests r.made numbers (Some (home x)) u none ((r.each j u else.1).idle none))
              (at_set views id j w u there);
        },
        refl,
      )

-- the items that are in and those still to come, the last of which is next, are all
pub whole-next : {T : Type 0} (done before rest all : List T) (x : T) → before ≡ rest ++ x ∷ [] → done ++ reverse before ≡ all →
    done ++ x ∷ reverse rest ≡ all
whole-next done before rest all x is whole = ap (λ l. done ++ l) (sym (ap reverse is ∙ reverse-append rest (x ∷ []))) ∙ whole

-- and so they are when that one is in
pub whole-push : {T : Type 0} (done rest all : List T) (x : T) → done ++ x ∷ rest ≡ all → (done ++ x ∷ []) ++ rest ≡ all
whole-push done rest all x whole = append_assoc done (x ∷ []) rest ∙ whole

module _ {T H : Type 0} (number : T → ℕ) (home : T → H) where
  -- before the first item no home is known, and then that of all
  pub home-next : (done rest all : List T) (x : T) (house : Option H) → house ≡ home_in home done → done ++ x ∷ rest ≡ all →
      Some (home x) ≡ home_in home all → (house ≡ None) ⊎ (house ≡ Some (home x))
  home-next [] rest all x house is whole one = inl is
  home-next (y ∷ done) rest all x house is whole one = inr (is ∙ ap (home_in home) whole ∙ sym one)

  home-push : (done : List T) (x : T) → (home_in home done ≡ None) ⊎ (home_in home done ≡ Some (home x)) →
      Some (home x) ≡ home_in home (done ++ x ∷ [])
  home-push [] x house = refl
  home-push (y ∷ done) x (inl none) = absurd (true≢false (ap (λ (o : Option H). is_some o) none))
  home-push (y ∷ done) x (inr one) = sym one

  undealt-push : (done : List T) (x : T) → (home_in home done ≡ None) ⊎ (home_in home done ≡ Some (home x)) →
      filled (undealt number home 1 done) (number x) (Some (home x)) ≡ undealt number home 1 (done ++ x ∷ [])
  undealt-push done x house = λ i. record {
    hands = 1;
    made = 1;
    numbers = sym (map-append number done (x ∷ [])) i;
    home = home-push done x house i;
    held = [];
    empties = 0;
  }

  -- one item more is in
  pub undealt-next : (done : List T) (x : T) (v w : View H) → v ≡ undealt number home 1 done →
      w ≡ filled v (number x) (Some (home x)) → (home_in home done ≡ None) ⊎ (home_in home done ≡ Some (home x)) →
      w ≡ undealt number home 1 (done ++ x ∷ [])
  undealt-next done x v w so_far is house =
      is ∙ ap (λ (u : View H). filled u (number x) (Some (home x))) so_far ∙ undealt-push done x house
