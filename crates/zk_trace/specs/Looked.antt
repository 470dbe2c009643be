use Rattle.std.specs.Prelude.{ℕ, ◌+◌, ◌==◌, if◌then◌else◌, Option, Some, None, List, [], ◌∷◌, ◌++◌, map}
use Rattle.std.specs.List.{cons_option, range_with_len}
use Rattle.zk_worker.specs.declared.log.Log.{Log}
use Rattle.zk_worker.specs.declared.steps.Spot.{Spot}
use Rattle.zk_worker.specs.declared.steps.Spot.TheVariants as spots
use Rattle.zk_trace.specs.declared.looks.ItemLook.{ItemLook}
use Rattle.zk_trace.specs.declared.looks.SignalLook.{SignalLook}

-- the look at an item that a player's step of a number is, if it is one
abbrev pub item_look_at : ℕ → ℕ → Spot → Option ItemLook
item_look_at player step (spots.LookItem item flags at) =
    Some (record { player = player; step = step; item = item; flags = flags; at = at })
item_look_at player step spot = None

-- the look at the signal of an object number that it is
abbrev pub signal_look_at : ℕ → ℕ → ℕ → Spot → Option SignalLook
signal_look_at object player step (spots.LookSignal at seen) =
    if at == object then Some (record { player = player; step = step; seen = seen }) else None
signal_look_at object player step spot = None

module _ {L : Type 0} (look_at : ℕ → ℕ → Spot → Option L) where
  -- the looks among the steps of a player, from the step of a number on
  abbrev pub looks_from : ℕ → ℕ → List Spot → List L
  looks_from player step [] = []
  looks_from player step (spot ∷ more) =
      cons_option (look_at player step spot) (looks_from player (step + 1) more)

  -- the looks of all players, from the player of a number on
  abbrev pub all_looks : ℕ → List Log → List L
  all_looks player [] = []
  all_looks player (log ∷ logs) = looks_from player 0 log.steps ++ all_looks (player + 1) logs

-- all looks at items, by player and then by step
abbrev pub item_looks_of : List Log → List ItemLook
item_looks_of logs = all_looks item_look_at 0 logs

-- the looks at each of so many objects, by object number
abbrev pub signal_looks_of : ℕ → List Log → List (List SignalLook)
signal_looks_of objects logs = map (λ object. all_looks (signal_look_at object) 0 logs) (range_with_len 0 objects)
