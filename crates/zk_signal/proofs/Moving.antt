-- A seat changes what it knows, and for the others the rule stays.
use Rattle.std.proofs.Common.{◌≡◌, inl, inr, ⊎_elim, ℕ, ◌+◌, ◌≤◌, List, length, set, get_or, ap, subst, arith}
use Rattle.std.proofs.lemmas.List.Elements.{All-weaker}
use mathlib.Core.Option.{some}
use lib.ListN.{get_elem?}
use Rattle.atomic_table.specs.Table.{State}
use Rattle.atomic_table.proofs.Lists.{at_set}
use Rattle.zk_signal.specs.declared.views.View.{View}
use Rattle.zk_signal.specs.Counts.{once}
use Rattle.zk_signal.specs.Limits.{most_writes, most_stamps}
use Rattle.zk_signal.specs.Rule.{player_count, drawn_count, stamp_count, write_count, IsValue, SeatStands, SignalStands}
use Rattle.zk_signal.specs.Words.{stamp_in, seen_in, IsTidy}
use Rattle.zk_signal.proofs.Counts.{tally-map, once-within}
use Rattle.zk_signal.proofs.Seats.{sum-set, sum-times, sum-below}

-- the value of a stamp stays so where no writes are lost
pub still_value : (views : List View) (id : ℕ) (v w : View) (word : ℕ) → get_elem? views id ≡ some v →
    write_count word v ≤ write_count word w → IsValue views word → IsValue (set views id w) word
still_value views id v w word at kept is =
    ⊎_elim (λ first. inl first) (λ lt. let moved = sum-set (write_count word) views id v w at in inr (omega arith)) is

-- what holds of a seat holds where values stay values and the word isn't older
pub still_stands : (views others : List View) (word next : ℕ) (v : View) → ((n : ℕ) → IsValue views n → IsValue others n) →
    stamp_in word ≤ stamp_in next → SeatStands views word v → SeatStands others next v
still_stands views others word next v still up stands = record {
  room = stands.room;
  newest = let newest = stands.newest in omega arith;
  looks = All-weaker (IsValue views) (IsValue others) still v.looks stands.looks;
}

module _ (count : ℕ) (s : State ℕ View) (r : SignalStands count s) where
  pub few_drawn : get_or s.words 1 0 ≤ most_stamps
  few_drawn =
      let most = sum-times most_writes drawn_count player_count s.views (λ j u there. (r.each j u there).room) in
      let drawn = r.drawn in
      let players = r.players in
      let few = r.few in
      omega arith

  -- the stamp of each value was drawn
  pub value_drawn : (word : ℕ) → IsValue s.views word → stamp_in word ≤ get_or s.words 1 0
  value_drawn word is = ⊎_elim
      (λ first. let none = ap stamp_in first in omega arith)
      (λ lt.
      let le = sum-below (write_count word) (stamp_count (stamp_in word)) s.views
      (λ v. let mapped = tally-map stamp_in word v.writes in omega arith) in
      let stamps = r.stamps (stamp_in word) in
      once-within (get_or s.words 1 0) (stamp_in word) (omega arith))
      is

  -- a seat changes what it knows and stands for the same players
  pub moved : (id : ℕ) (v w : View) (words : List ℕ) → get_elem? s.views id ≡ some v → w.players ≡ v.players →
      2 ≤ length words →
      drawn_count w + get_or s.words 1 0 ≡ drawn_count v + get_or words 1 0 →
      ((n : ℕ) → stamp_count n w + once (get_or s.words 1 0) n ≡ stamp_count n v + once (get_or words 1 0) n) →
      ((word : ℕ) → write_count word v ≤ write_count word w) →
      stamp_in (get_or s.words 0 0) ≤ stamp_in (get_or words 0 0) →
      IsValue (set s.views id w) (get_or words 0 0) →
      IsTidy (seen_in (get_or words 0 0)) →
      SeatStands (set s.views id w) (get_or words 0 0) w →
      SignalStands count record { words = words; homes = s.homes; views = set s.views id w }
  moved id v w words at same two drawn_so stamps_so kept up value_so tidy_so mine = record {
    words = two;
    few = r.few;
    players =
        let sum = sum-set player_count s.views id v w at in
        let long = ap (λ (ps : List ℕ). length ps) same in
        let players = r.players in
        omega arith;
    drawn = let sum = sum-set drawn_count s.views id v w at in let drawn = r.drawn in omega arith;
    stamps = λ n.
        let sum = sum-set (stamp_count n) s.views id v w at in
        let stamps = r.stamps n in
        let so = stamps_so n in
        omega arith;
    value = value_so;
    tidy = tidy_so;
    each = λ j u there. ⊎_elim
        (λ t. subst (λ (x : View). SeatStands (set s.views id w) (get_or words 0 0) x) t.1 mine)
        (λ t. still_stands s.views (set s.views id w) (get_or s.words 0 0) (get_or words 0 0) u
        (λ n is. still_value s.views id v w n at (kept n) is) up (r.each j u t.1))
        (at_set s.views id j w u there);
  }
