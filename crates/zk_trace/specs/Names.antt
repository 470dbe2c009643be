use Rattle.std.specs.Prelude.{ℕ, Option, Some, None, List, [], ◌∷◌, ◌++◌, slice_get, option_and_then, codes}
use Rattle.std.specs.List.{flat_map}
use Rattle.std.specs.Option.{option_map_or}
use Rattle.zk_line.specs.declared.types.Decl.{Decl}
use Rattle.zk_line.specs.Objects.{places, is_item, is_queue, name_of, name_at}
use Rattle.zk_scenario.specs.Players.{players}

-- the name of an object, if there is one
abbrev pub object_name : List Decl → Option ℕ → List ℕ
object_name decls object = option_map_or name_of (option_and_then (slice_get decls) object) []

-- the name of an item, by its number among the items
abbrev pub item_name : List Decl → ℕ → List ℕ
item_name decls item = object_name decls (slice_get (places is_item decls) item)

-- the name of a queue, by its number among the queues
abbrev pub queue_name : List Decl → ℕ → List ℕ
queue_name decls queue = object_name decls (slice_get (places is_queue decls) queue)

-- the name of the queue that a submission names, and a dash for none
abbrev pub target_name : List Decl → Option ℕ → List ℕ
target_name decls None = codes "-"
target_name decls (Some queue) = queue_name decls queue

-- the name of the object that a check asks of, and a question mark for none
abbrev pub checked_name : List Decl → Option ℕ → List ℕ
checked_name decls None = codes "?"
checked_name decls (Some object) = name_at decls object

-- the name of an object behind a space
abbrev pub name_behind : List Decl → ℕ → List ℕ
name_behind decls object = codes " " ++ name_at decls object

-- the names of objects with a space between two, and a dash for none
abbrev pub names_word : List Decl → List ℕ → List ℕ
names_word decls [] = codes "-"
names_word decls (object ∷ more) = name_at decls object ++ flat_map (name_behind decls) more

-- the name of a player: a thread's own, and a worker's queue's
abbrev pub player_name : List Decl → ℕ → List ℕ
player_name decls player = object_name decls (slice_get (players decls) player)
