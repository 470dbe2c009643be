-- Inner: no contract of a top call is made of this file.
-- What a contract sees of a pool and of a hand.
use Rattle.std.specs.Prelude.{◌≡◌, ℕ, Option, All, List, [], ◌∷◌, length, map, vec_capacity}
use Rattle.std.specs.declared.option.Option.TheVariants.{Some, None}
use Rattle.crossbeam_queue.specs.Passes.{view, IsPassOf}
use Rattle.zk_pool.specs.declared.hand.Hand.{Hand}
use Rattle.zk_pool.specs.declared.pool.Pool.{Pool}
use Rattle.zk_pool.specs.declared.room.Room.{Room}
use Rattle.zk_pool.specs.declared.views.View.{View}
use Rattle.zk_pool.specs.Counts.{tally}
use Rattle.zk_pool.specs.Views.{resting}

-- how many items there is room for
abbrev pub room_size : {T : Type 0} → Room T → ℕ
room_size room = vec_capacity room.items

module _ {T H : Type 0} where
  -- the numbers that the hand holds
  abbrev pub hand_held : Hand T H → List ℕ
  hand_held h = (view h.pass).held

  -- how many of its takes found the queue empty
  abbrev pub hand_empties : Hand T H → ℕ
  hand_empties h = (view h.pass).empties

  -- the items that the pool was made of
  abbrev pub pool_items : Pool T H → List T
  pool_items p = p.given.value.items

  -- how many hands were made with it
  abbrev pub pool_hands : Pool T H → ℕ
  pool_hands p = p.hands

module _ {T H : Type 0} (number : T → ℕ) where
  -- the numbers of its items
  abbrev pub pool_numbers : Pool T H → List ℕ
  pool_numbers p = map number (pool_items p)

  -- the hand holds all of them
  pub record HoldsAll (p : Pool T H) (h : Hand T H) : Type 0 where
    pub once : (n : ℕ) → tally n (hand_held h) ≡ tally n (pool_numbers p)
    pub count : length (hand_held h) ≡ length (pool_numbers p)

module _ {T H : Type 0} (home : T → H) where
  -- the home of the first item
  abbrev pub home_in : List T → Option H
  home_in [] = None
  home_in (x ∷ xs) = Some (home x)

  -- all items are of one home
  abbrev pub HaveOneHome : List T → Type 0
  HaveOneHome xs = All (λ x. Some (home x) ≡ home_in xs) xs

  -- the home of the pool's items
  abbrev pub pool_home : Pool T H → Option H
  pool_home p = home_in (pool_items p)

module _ {T H : Type 0} (number : T → ℕ) (home : T → H) where
  -- what a pass knows that stands for all hands, before they are dealt
  abbrev pub undealt : ℕ → List T → View H
  undealt hands xs = resting hands hands (map number xs) (home_in home xs)

  -- a view stands for so many hands of this pool
  pub record StandsFor (p : Pool T H) (count : ℕ) (v : View H) : Type 0 where
    pub hands : v.hands ≡ count
    pub made : v.made ≡ pool_hands p
    pub numbers : v.numbers ≡ pool_numbers number p
    pub house : v.home ≡ pool_home home p

  -- it is a hand of this pool
  pub record IsHandOf (p : Pool T H) (h : Hand T H) : Type 0 where
    pub own : IsPassOf p.queue h.pass
    pub stands : StandsFor p 1 (view h.pass)

  -- it is a hand of this pool that has taken nothing yet
  pub record IsNewHand (p : Pool T H) (h : Hand T H) : Type 0 where
    pub own : IsHandOf p h
    pub held : hand_held h ≡ []
    pub empties : hand_empties h ≡ 0
