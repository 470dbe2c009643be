-- Inner: no contract of a top call is made of this file.
-- A hand, and the items that its thread keeps.
use Rattle.std.specs.Prelude.{◌≡◌, ℕ, ◌+◌, ◌<◌, ◌≤◌, All, List, [], ◌∷◌, ◌++◌, length, map, vec_capacity}
use Rattle.zk_pool.specs.declared.keeper.Keeper.{Keeper}
use Rattle.zk_pool.specs.declared.pool.Pool.{Pool}
use Rattle.zk_pool.specs.Counts.{tally}
use Rattle.zk_pool.specs.Hands.{IsHandOf, hand_empties, hand_held, pool_home, pool_numbers}
use Rattle.zk_pool.specs.Rule.{Suits}

-- the items that it keeps
abbrev pub keeper_aside : {T H : Type 0} → Keeper T H → List T
keeper_aside k = k.aside.items

-- how many of its takes found the queue empty
abbrev pub keeper_empties : {T H : Type 0} → Keeper T H → ℕ
keeper_empties k = hand_empties k.hand

module _ {T H : Type 0} (number : T → ℕ) (home : T → H) (kept : T → Type 0) where
  -- its hand is one of this pool and holds just the numbers of what it keeps, and it has room for all items
  pub record Keeps (p : Pool T H) (k : Keeper T H) : Type 0 where
    pub own : IsHandOf number home p k.hand
    pub held : (n : ℕ) → tally n (hand_held k.hand) ≡ tally n (map number k.aside.items)
    pub count : length (hand_held k.hand) ≡ length k.aside.items
    pub suits : All (Suits number home kept (pool_home home p)) k.aside.items
    pub room : length (pool_numbers number p) ≤ vec_capacity k.aside
    pub few : length k.aside.items ≤ length (pool_numbers number p)

  -- its hand holds one number beside these
  pub record Carries (p : Pool T H) (k : Keeper T H) (one : ℕ) : Type 0 where
    pub own : IsHandOf number home p k.hand
    pub held : (n : ℕ) → tally n (hand_held k.hand) ≡ tally n (map number k.aside.items ++ one ∷ [])
    pub count : length (hand_held k.hand) ≡ length k.aside.items + 1
    pub suits : All (Suits number home kept (pool_home home p)) k.aside.items
    pub room : length (pool_numbers number p) ≤ vec_capacity k.aside
    pub few : length k.aside.items < length (pool_numbers number p)
