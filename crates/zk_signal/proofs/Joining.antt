-- Two seats become one.
use Rattle.std.proofs.Common.{◌≡◌, inl, inr, ⊎_elim, ℕ, ◌+◌, ◌≤◌, List, [], map, set, get_or, sum_by, sym, ap, subst, ◌∙◌, arith}
use Rattle.std.proofs.Math.Nat.{max-le}
use Rattle.std.proofs.lemmas.List.{length-append, map-append}
use Rattle.std.proofs.lemmas.List.Elements.{All-append}
use mathlib.Core.Option.{some}
use lib.ListN.{get_elem?}
use Rattle.atomic_table.specs.Table.{Joins}
use Rattle.atomic_table.proofs.Lists.{at_set, set_else}
use Rattle.zk_signal.specs.declared.views.View.{View}
use Rattle.zk_signal.specs.Counts.{tally}
use Rattle.zk_signal.specs.Rule.{player_count, drawn_count, stamp_count, write_count, IsValue, SeatStands, SignalStands}
use Rattle.zk_signal.specs.Views.{joined, spent}
use Rattle.zk_signal.specs.Words.{stamp_in}
use Rattle.zk_signal.proofs.Starting.{fresh}
use Rattle.zk_signal.proofs.Counts.{tally-append}
use Rattle.zk_signal.proofs.Moving.{still_stands}
use Rattle.zk_signal.proofs.Seats.{sum-set}
use Rattle.zk_signal.proofs.Wording.{top-joined}

pub merges : (count id other : ℕ) (v w : View) → Joins (SignalStands count) id v other w (joined v w) spent
merges count id other v w s r at differ at_after =
    record {
      words = r.words;
      few = r.few;
      players = sums player_count (let long = length-append v.players w.players in omega arith) ∙ r.players;
      drawn = sums drawn_count
          (let one = length-append v.drawn w.drawn in let two = length-append v.writes w.writes in omega arith) ∙ r.drawn;
      stamps = λ n. sums (stamp_count n)
          (let one = tally-append n v.drawn w.drawn in
          let two = ap (tally n) (map-append stamp_in v.writes w.writes)
          ∙ tally-append n (map stamp_in v.writes) (map stamp_in w.writes) in
          omega arith) ∙ r.stamps n;
      value = still (get_or s.words 0 0) r.value;
      tidy = r.tidy;
      each = λ j u there. ⊎_elim
          (λ q. subst Stands q.1 (fresh views (get_or s.words 0 0) []))
          (λ q. ⊎_elim (λ t. subst Stands t.1 both_stands) (λ t. others u (r.each j u t.1))
          (at_set s.views id j (joined v w) u q.1))
          (at_set (set s.views id (joined v w)) other j spent u there);
    }
  where
    views : List View
    views = set (set s.views id (joined v w)) other spent

    Stands : View → Type 0
    Stands x = SeatStands views (get_or s.words 0 0) x

    at_before : get_elem? s.views other ≡ some w
    at_before = sym (set_else s.views id other (joined v w) differ) ∙ at_after

    sums : (f : View → ℕ) → f (joined v w) + f spent ≡ f v + f w → sum_by f views ≡ sum_by f s.views
    sums f both =
        let one = sum-set f s.views id v (joined v w) at in
        let two = sum-set f (set s.views id (joined v w)) other w spent at_after in
        omega arith

    still : (n : ℕ) → IsValue s.views n → IsValue views n
    still n is = ⊎_elim (λ first. inl first)
        (λ lt. let sum = sums (write_count n) (let one = tally-append n v.writes w.writes in omega arith) in inr (omega arith)) is

    others : (u : View) → SeatStands s.views (get_or s.words 0 0) u → Stands u
    others u stands = still_stands s.views views (get_or s.words 0 0) (get_or s.words 0 0) u still (omega arith) stands

    both_stands : Stands (joined v w)
    both_stands =
        let a = others v (r.each id v at) in
        let b = others w (r.each other w at_before) in
        let room_a = a.room in
        let room_b = b.room in
        let players = length-append v.players w.players in
        let drawn = length-append v.drawn w.drawn in
        let writes = length-append v.writes w.writes in
        record {
          room = omega arith;
          newest = subst (λ n. n ≤ stamp_in (get_or s.words 0 0)) (sym (top-joined v w)) (max-le a.newest b.newest);
          looks = All-append (IsValue views) v.looks w.looks a.looks b.looks;
        }
