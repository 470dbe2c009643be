use Rattle.std.specs.Prelude.{ℕ, ℤ, pos, ◌==◌, Option, List, [], ◌∷◌, ◌++◌, slice_get, option_map, option_and_then, if◌then◌else◌}
use Rattle.zk_base.specs.declared.ids.Who.{Who}
use Rattle.zk_line.specs.declared.types.Decl.{Decl}
use Rattle.zk_line.specs.declared.types.Decl.TheVariants.{Thread, Queue, Item, Sem, Msgq, Signal, Listener, Sub, Chan}
use Rattle.zk_line.specs.declared.types.Call.{Call}
use Rattle.zk_line.specs.Objects.{places, is_thread, is_queue}
use Rattle.zk_scenario.specs.declared.types.Script.{Script}

-- the priority of a player: of a thread, or of the worker of a queue
abbrev pub prio_of : Decl → ℤ
prio_of (Thread name prio user) = prio
prio_of (Queue name prio on) = prio
prio_of (Item name) = pos 0
prio_of (Sem name initial limit raw) = pos 0
prio_of (Msgq name size capacity raw) = pos 0
prio_of (Signal name raw) = pos 0
prio_of (Listener name) = pos 0
prio_of (Sub name capacity) = pos 0
prio_of (Chan name message valid observers) = pos 0

-- the objects of the players: the threads in declared order, then the queues, each for its worker
abbrev pub players : List Decl → List ℕ
players decls = places is_thread decls ++ places is_queue decls

-- the player of a number, if there is one, as the services know it
abbrev pub who_of : List Decl → ℕ → Option Who
who_of decls player =
    option_and_then (λ object. option_map (λ d. record { number = player; prio = prio_of d }) (slice_get decls object))
    (slice_get (players decls) player)

-- the calls of the script of an object; what has no script has an empty one
abbrev pub calls_of : List Script → ℕ → List Call
calls_of [] owner = []
calls_of (script ∷ more) owner = (if script.owner == owner then script.calls else calls_of more owner)
