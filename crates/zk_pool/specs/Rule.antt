-- Inner: no contract of a top call is made of this file.
-- The rule of a pool: what holds of its queue and its passes at every moment.
use Rattle.std.specs.Prelude.{◌≡◌, ℕ, ◌+◌, ◌<◌, Option, All, List, [], length, map}
use Rattle.std.specs.List.{sum_by}
use Rattle.std.specs.declared.option.Option.TheVariants.{Some}
use mathlib.Core.Option.{some}
use lib.ListN.{get_elem?}
use Rattle.zk_pool.specs.declared.views.View.{View}
use Rattle.zk_pool.specs.Counts.{tally}

module _ {H : Type 0} where
  -- how many hands a view stands for
  abbrev pub hand_count : View H → ℕ
  hand_count v = v.hands

  -- how often a number is in its hands
  abbrev pub held_count : ℕ → View H → ℕ
  held_count n v = tally n v.held

  -- how many numbers are in its hands
  abbrev pub held_length : View H → ℕ
  held_length v = length v.held

  -- what holds of one view: with a hand it knows what there is, and without one it holds nothing
  pub record ViewStands (made : ℕ) (numbers : List ℕ) (house : Option H) (v : View H) : Type 0 where
    pub idle : v.hands ≡ 0 → v.held ≡ []
    pub all_made : 0 < v.hands → v.made ≡ made
    pub all_numbers : 0 < v.hands → v.numbers ≡ numbers
    pub all_home : 0 < v.hands → v.home ≡ house

module _ {T H : Type 0} (number : T → ℕ) (home : T → H) (kept : T → Type 0) where
  -- the item is of this home, and what the pool keeps of it holds
  abbrev pub Suits : Option H → T → Type 0
  Suits house x = (Some (home x) ≡ house) × kept x

  -- the rule: so many hands are made, these are the numbers of all items, and this is their home
  pub record PoolStands (items : List T) (views : List (View H)) : Type 0 where
    pub made : ℕ
    pub numbers : List ℕ
    pub house : Option H
    pub hands : sum_by hand_count views ≡ made
    -- each number is as often in the queue and in all hands together as among all
    pub once : (n : ℕ) → tally n (map number items) + sum_by (held_count n) views ≡ tally n numbers
    pub count : length items + sum_by held_length views ≡ length numbers
    pub suits : All (Suits house) items
    pub each : (place : ℕ) (v : View H) → get_elem? views place ≡ some v → ViewStands made numbers house v
