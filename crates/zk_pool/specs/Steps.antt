-- Inner: no contract of a top call is made of this file.
-- What each step of the queue tells the pass that makes it.
use Rattle.std.specs.Prelude.{◌≡◌, ℕ, ◌+◌, ◌≤◌, List, [], ◌∷◌, ◌++◌, length, map}
use Rattle.std.specs.declared.option.Option.TheVariants.{Some}
use Rattle.zk_pool.specs.declared.views.View.{View}
use Rattle.zk_pool.specs.Counts.{tally, without}
use Rattle.zk_pool.specs.Rule.{Suits}
use Rattle.zk_pool.specs.Views.{filled, holding}

module _ {T H : Type 0} (number : T → ℕ) where
  -- a give: the item's number is once less in the hands
  abbrev pub Gives : View H → T → View H → Type 0
  Gives v x w = w ≡ holding v (without (number x) v.held)

  -- the numbers in the queue and in these hands are all numbers
  pub record AreAll (v : View H) (items : List T) : Type 0 where
    pub once : (n : ℕ) → tally n (map number items) + tally n v.held ≡ tally n v.numbers
    pub count : length items + length v.held ≡ length v.numbers

  -- where a pass stands for all hands, it holds what isn't in the queue
  abbrev pub AllHasRest : View H → List T → Type 0
  AllHasRest v items = v.hands ≡ v.made → AreAll v items

-- the queue has room for all that these hands hold
abbrev pub HasRoom : {T H : Type 0} → View H → List T → Type 0
HasRoom v items = length items + length v.held ≤ length v.numbers

module _ {T H : Type 0} (number : T → ℕ) (home : T → H) where
  -- a fill: the item's number stands behind the others
  abbrev pub Fills : View H → T → View H → Type 0
  Fills v x w = w ≡ filled v (number x) (Some (home x))

module _ {T H : Type 0} (number : T → ℕ) (home : T → H) (kept : T → Type 0) where
  -- a take: the item suits, and its number is in the hands, none of whose numbers is there more often than among all
  pub record Takes (v : View H) (x : T) (w : View H) : Type 0 where
    pub now : w ≡ holding v (v.held ++ number x ∷ [])
    pub suits : Suits number home kept v.home x
    pub once : (n : ℕ) → tally n w.held ≤ tally n v.numbers
    pub count : length w.held ≤ length v.numbers
