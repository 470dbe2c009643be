-- The rule at the start, where one seat stands for all players.
use Rattle.std.proofs.Common.{◌≡◌, inl, ℕ, zero, suc, ◌≤◌, List, [], ◌∷◌, length, sum_by, refl, sym, subst, arith}
use Rattle.std.proofs.lemmas.List.Elements.{All-nil}
use mathlib.Core.Option.{some, some-injective, some-ne-none}
use lib.ListN.{get_elem?}
use Rattle.atomic_table.specs.Table.{opening}
use Rattle.zk_signal.specs.declared.views.View.{View}
use Rattle.zk_signal.specs.Counts.{once}
use Rattle.zk_signal.specs.Limits.{most_players}
use Rattle.zk_signal.specs.Rule.{stamp_count, IsValue, SeatStands, SignalStands}
use Rattle.zk_signal.specs.Views.{opened}
use Rattle.zk_signal.proofs.Counts.{once-past}

-- a seat that has written and found nothing
pub fresh : (views : List View) (word : ℕ) (players : List ℕ) → SeatStands views word (opened players)
fresh views word players =
    let P = IsValue views in record { room = omega arith; newest = omega arith; looks = All-nil P }

pub starts : (players : List ℕ) → length players ≤ most_players →
    SignalStands (length players) (opening (0 ∷ 0 ∷ []) [] (opened players))
starts players few = record {
  words = omega arith;
  few = few;
  players = omega arith;
  drawn = refl;
  stamps = none_yet;
  value = inl refl;
  tidy = λ clear. refl;
  each = one;
} where
  none_yet : (n : ℕ) → sum_by (stamp_count n) (opened players ∷ []) ≡ once 0 n
  none_yet zero = refl
  none_yet (suc n) = sym (once-past 0 n (omega arith))

  one : (j : ℕ) (v : View) → get_elem? (opened players ∷ []) j ≡ some v → SeatStands (opened players ∷ []) 0 v
  one zero v at = subst (λ (x : View). SeatStands (opened players ∷ []) 0 x) (some-injective (opened players) v at)
      (fresh (opened players ∷ []) 0 players)
  one (suc j) v at = absurd (some-ne-none v (sym at))
