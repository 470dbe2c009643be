use Rattle.std.specs.Prelude.{ℕ, ◌+◌, Bool, true, false, List, [], ◌∷◌, codes, slice_get, if◌then◌else◌}
use Rattle.std.specs.Option.{option_map_or}
use Rattle.zk_line.specs.declared.types.Decl.{Decl}
use Rattle.zk_line.specs.Objects.{name_of}
use Rattle.zk_scenario.specs.Players.{players}
use Rattle.zk_worker.specs.declared.log.Log.{Log}
use Rattle.zk_worker.specs.declared.log.PlayerState.{PlayerState}
use Rattle.zk_worker.specs.declared.log.PlayerState.TheVariants.{Spent, Oops, Done, Standing}
use Rattle.zk_trace.specs.declared.trace.Trace.{Trace}

-- whether two states of players are one
abbrev pub same_state : PlayerState → PlayerState → Bool
same_state Spent Spent = true
same_state Oops Oops = true
same_state Done Done = true
same_state Standing Standing = true
same_state state other = false

-- the places of the logs that say this state, counted from the first one's own place
abbrev pub places_from : ℕ → PlayerState → List Log → List ℕ
places_from n state [] = []
places_from n state (log ∷ logs) =
    (if same_state log.state state then n ∷ places_from (n + 1) state logs else places_from (n + 1) state logs)

-- the players whose logs say this state, in order
abbrev pub players_in : PlayerState → Trace → List ℕ
players_in state t = places_from 0 state t.logs

-- the players that have made all their steps
abbrev pub spent_players : Trace → List ℕ
spent_players t = players_in Spent t

-- the players that stand in a call
abbrev pub open_players : Trace → List ℕ
open_players t = players_in Standing t

-- the players that an oops has ended
abbrev pub oops_players : Trace → List ℕ
oops_players t = players_in Oops t

-- the name of an object
abbrev pub name_of_object : List Decl → ℕ → List ℕ
name_of_object decls object = option_map_or name_of (slice_get decls object) (codes "?")

-- the name of a player: of a thread, or of the queue of a worker
abbrev pub player_name : List Decl → ℕ → List ℕ
player_name decls player = option_map_or (name_of_object decls) (slice_get (players decls) player) (codes "?")
