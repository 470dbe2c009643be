use Rattle.std.specs.Prelude.{◌≡◌, ℕ, zero, suc, ◌+◌, if◌then◌else◌, Option, Some, None, length, slice_get}
use Rattle.zk_scenario.specs.Content.{Content}
use Rattle.zk_worker.specs.Places.{PlayerPlace}
use Rattle.zk_worker.specs.Choosing.{chosen}
use Rattle.zk_worker.specs.Machines.{Machines}
use Rattle.zk_world.specs.World.{World, first, stepped, is_spent}

module _ (m : Machines) (s : Content) where
  abbrev pub turn_of : World → ℕ → Option PlayerPlace → World
  turn_of w player None = w
  turn_of w player (Some at) = stepped s w player at (chosen m s w.shown at)

  -- the world after a turn of a player: it makes the first of its attempts that is possible, unless the run is spent
  abbrev pub turn : World → ℕ → World
  turn w player = if is_spent s w then w else turn_of w player (slice_get w.players player)

  -- the world after a turn of each of so many players, from this one on
  abbrev pub turns : World → ℕ → ℕ → World
  turns w zero player = w
  turns w (suc n) player = turns (turn w player) n (player + 1)

  -- the world after a turn of each player in order
  abbrev pub round : World → World
  round w = turns w (length w.players) 0

  -- the world after so many rounds
  abbrev pub rounds : ℕ → World → World
  rounds zero w = w
  rounds (suc n) w = round (rounds n w)

-- the round robin run of a scenario: the world after some number of rounds that a further round leaves as it is
abbrev pub IsRun : Machines → Content → World → Type 0
IsRun m s w = (n : ℕ) × (w ≡ rounds m s n (first s)) × (round m s w ≡ w)
