-- Inner: no contract of a top call is made of this file.
-- Balls, and hands that hold none.
use Rattle.std.specs.Prelude.{◌≡◌, ℕ, ◌+◌, ◌*◌, ◌≤◌, []}
use Rattle.zk_pool.specs.declared.hand.Hand.{Hand}
use Rattle.zk_pool.specs.declared.pool.Pool.{Pool}
use Rattle.zk_pool.specs.Hands.{IsHandOf, hand_empties, hand_held}
use Rattle.zk_uses.specs.declared.ball.Ball.{Ball}

-- the number of a ball
abbrev pub ball_number : Ball → ℕ
ball_number ball = ball.number

-- its color, which all balls of a pool have
abbrev pub ball_color : Ball → ℕ
ball_color ball = ball.color

-- each ball has the color of the tests
abbrev pub IsWhole : Ball → Type 0
IsWhole ball = ball.color ≡ 7

-- it is a hand of this pool that holds nothing
abbrev pub IsFree : {T H : Type 0} → (T → ℕ) → (T → H) → Pool T H → Hand T H → Type 0
IsFree number home pool hand = IsHandOf number home pool hand × (hand_held hand ≡ [])

-- of so many takes each has caught an item or is counted as one that found nothing
pub record AreTaken (times empties empties' caught : ℕ) : Type 0 where
  pub fell : empties ≤ empties'
  pub all : empties' + caught ≡ empties + times

-- so many takes were made by a hand, and by each of two, of four
abbrev pub HaveTaken : {T H : Type 0} → ℕ → Hand T H → Hand T H → ℕ → Type 0
HaveTaken times old new caught = AreTaken times (hand_empties old) (hand_empties new) caught

abbrev pub both_empties : {T H : Type 0} → Hand T H × Hand T H → ℕ
both_empties hands = hand_empties hands.0 + hand_empties hands.1

abbrev pub HaveTakenBoth : {T H : Type 0} → ℕ → Hand T H × Hand T H → Hand T H × Hand T H → ℕ → Type 0
HaveTakenBoth times old new caught = AreTaken (2 * times) (both_empties old) (both_empties new) caught

abbrev pub HaveTakenAll : {T H : Type 0} → ℕ → (Hand T H × Hand T H) × (Hand T H × Hand T H) →
    (Hand T H × Hand T H) × (Hand T H × Hand T H) → ℕ → Type 0
HaveTakenAll times old new caught =
    AreTaken (4 * times) (both_empties old.0 + both_empties old.1) (both_empties new.0 + both_empties new.1) caught
