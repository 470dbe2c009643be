use Rattle.std.specs.Prelude.{◌≡◌, ℕ, ◌+◌, ◌^◌, ◌<◌, Option, Some, None, List, length, slice_get, option_map, option_and_then}
use Rattle.zk_base.specs.declared.ids.Who.{Who}
use Rattle.zk_line.specs.declared.types.Decl.{Decl}
use Rattle.zk_line.specs.declared.types.Decl.TheVariants.{Thread, Queue}
use Rattle.zk_line.specs.Objects.{places, is_thread, number_of, object_of}
use Rattle.zk_scenario.specs.Players.{players, who_of}
use Rattle.zk_trace.specs.Fields.{narrow_of}
use Rattle.zk_trace.specs.Sides.{halves, pair}

-- the byte between the name of a player and the number of its step
abbrev pub point : ℕ
point = 46

-- the player of what is declared with a number among its kind, behind so many threads: a thread, or the worker of a queue
abbrev pub player_made : ℕ → ℕ → Decl → Option ℕ
player_made threads number (Thread name prio user) = Some number
player_made threads number (Queue name prio on) = Some (threads + number)
player_made threads number decl = None

-- the player of an object
abbrev pub player_at : List Decl → ℕ → Option ℕ
player_at decls object =
    option_and_then (player_made (length (places is_thread decls)) (number_of decls object)) (slice_get decls object)

-- the player of a name: a thread's own, or a worker's queue's
abbrev pub player_of : List Decl → List ℕ → Option ℕ
player_of decls name = option_and_then (player_at decls) (object_of decls name)

-- a player and the number of one of its steps, by its name, a point and the number
abbrev pub named_step : List Decl → List ℕ × List ℕ → Option (ℕ × ℕ)
named_step decls cut =
    option_and_then (λ player. option_map (pair player) (narrow_of cut.1)) (player_of decls cut.0)

abbrev pub step_of : List Decl → List ℕ → Option (ℕ × ℕ)
step_of decls word = option_and_then (named_step decls) (halves point word)

-- the same, with the player as the services know it
abbrev pub known_step : List Decl → ℕ × ℕ → Option (Who × ℕ)
known_step decls step = option_map (λ who. pair who step.1) (who_of decls step.0)

abbrev pub spot_of : List Decl → List ℕ → Option (Who × ℕ)
spot_of decls word = option_and_then (known_step decls) (step_of decls word)

-- a player that there is, and a number of 32 bits
abbrev pub IsStep : List Decl → ℕ × ℕ → Type 0
IsStep decls step = (step.0 < length (players decls)) × (step.1 < 2 ^ 32)

-- the same, with the player as the services know it
abbrev pub IsSpot : List Decl → Who × ℕ → Type 0
IsSpot decls spot = (who_of decls spot.0.number ≡ Some spot.0) × (spot.1 < 2 ^ 32)
