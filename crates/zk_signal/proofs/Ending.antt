-- The rule at the end, where one seat stands for all players.
use Rattle.std.proofs.Common.{◌≡◌, ◌⊎◌, inl, inr, ⊎_elim, ℕ, ◌<◌, ◌≤◌, List, length, map, get_or, sum_by, [], All, ap, subst, ◌∙◌, arith}
use Rattle.std.proofs.lemmas.List.{length-map}
use Rattle.std.proofs.lemmas.List.Elements.{All-weaker, All-map}
use Rattle.std.proofs.lemmas.Simd.{map-map}
use mathlib.Core.Option.{some}
use lib.ListN.{get_elem?}
use Rattle.atomic_table.specs.Table.{State, Final, Seen}
use Rattle.zk_signal.specs.declared.views.View.{View}
use Rattle.zk_signal.specs.Counts.{tally, EachOnceTo}
use Rattle.zk_signal.specs.Limits.{most_stamps}
use Rattle.zk_signal.specs.Rule.{player_count, drawn_count, stamp_count, write_count, IsValue, SignalStands}
use Rattle.zk_signal.specs.Words.{stamp_in, seen_in, stamp_of, IsValueIn}
use Rattle.zk_signal.proofs.Counts.{tally-le-length, tally-contains}
use Rattle.zk_signal.proofs.Moving.{few_drawn}
use Rattle.zk_signal.proofs.Seats.{at-get_or, sum-only}

-- what the seat that stands for all players knows at the end
pub record Ends (v : View) (count : ℕ) : Type 0 where
  pub few : count ≤ most_stamps
  pub drawn : length v.writes ≡ count
  pub stamps : EachOnceTo count (map stamp_in v.writes)
  pub looks : All (λ n. (n ≡ 0) ⊎ (0 < tally n v.writes)) v.looks

ends : (players id : ℕ) (v : View) (s : State ℕ View) → SignalStands players s → get_elem? s.views id ≡ some v →
    v.drawn ≡ [] → length v.players ≡ players → Ends v (get_or s.words 1 0)
ends players id v s r at idle all =
    let none_drawn = ap (λ (l : List ℕ). length l) idle in
    record {
      few = few_drawn players s r;
      drawn = let drawn = r.drawn in let mine = only drawn_count (λ u. omega arith) in omega arith;
      stamps = λ n.
          let mine = only (stamp_count n) (λ u. stamps_below n u) in
          let once = r.stamps n in
          let none_left = ap (λ (l : List ℕ). tally n l) idle in
          omega arith;
      looks = All-weaker (IsValue s.views) (λ n. (n ≡ 0) ⊎ (0 < tally n v.writes))
          (λ n is. ⊎_elim (λ first. inl first)
          (λ lt. let mine = only (write_count n) (λ u. let le = tally-le-length n u.writes in omega arith) in inr (omega arith)) is)
          v.looks (r.each id v at).looks;
    }
  where
    alone : sum_by player_count s.views ≡ player_count v
    alone = let sum = r.players in omega arith

    only : (f : View → ℕ) → ((u : View) → f u ≤ drawn_count u) → sum_by f s.views ≡ f v
    only f below = sum-only f player_count s.views id v
        (λ j u there none_left. let le = below u in let room = (r.each j u there).room in omega arith) at alone

    stamps_below : (n : ℕ) (u : View) → stamp_count n u ≤ drawn_count u
    stamps_below n u =
        let one = tally-le-length n u.drawn in
        let two = tally-le-length n (map stamp_in u.writes) in
        let long = length-map u.writes stamp_in in
        omega arith

-- what the words say that are left at the end
pub closes : (players id : ℕ) (v : View) (words slots : List ℕ) (count : ℕ) → v.drawn ≡ [] → length v.players ≡ players →
    Final (Seen (SignalStands players) id v) words slots → get_elem? words 1 ≡ some count → Ends v count
closes players id v words slots count idle all last there =
    subst (Ends v) (ap (λ (l : List ℕ). get_or l 1 0) last.2 ∙ at-get_or words 1 count 0 there)
    (ends players id v last.0 last.1.0 last.1.1 idle all)

pub all_stamps : (v : View) (count : ℕ) → Ends v count → EachOnceTo count (map stamp_of (map seen_in v.writes))
all_stamps v count e n = ap (tally n) (map-map stamp_of seen_in v.writes) ∙ e.stamps n

pub all_values : (v : View) (count : ℕ) → Ends v count → All (IsValueIn (map seen_in v.writes)) (map seen_in v.looks)
all_values v count e =
    All-map (IsValueIn (map seen_in v.writes)) seen_in v.looks
    (All-weaker (λ n. (n ≡ 0) ⊎ (0 < tally n v.writes)) (λ n. IsValueIn (map seen_in v.writes) (seen_in n))
    (λ n is. ⊎_elim (λ first. inl (ap seen_in first)) (λ lt. inr (tally-contains seen_in n v.writes lt)) is) v.looks e.looks)
