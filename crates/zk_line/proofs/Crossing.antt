-- Calls, declarations and what they name are shared by threads. In parts, since one search for all of it breaks off.
use denote.RattleType.{RattleType}
use denote.Param.Send.{IsSync, AllSync, EachSync, enum_sync, recorded_sync, sendable}
use denote.Enum.Declared.{shape as variants}
use Rattle.std.proofs.Common.{ℕ, zero, suc, List, [], ◌∷◌}
use Rattle.std.proofs.MapsCrossing as maps
use Rattle.std.proofs.Crossing.{crosses}
use Rattle.zk_base.specs.contracts.message.Msg as message
use Rattle.zk_base.specs.contracts.name.Name as name
use Rattle.zk_line.specs.contracts.types.Ref as ref
use Rattle.zk_line.specs.contracts.types.Decl as decl
use Rattle.zk_line.specs.contracts.types.Declared as declared
use Rattle.zk_line.specs.contracts.types.Call as call
use Rattle.zk_line.specs.contracts.events.Event as event
use Rattle.zk_line.specs.contracts.events.Events as events
use Rattle.zk_line.specs.contracts.names.Names as names
use Rattle.zk_line.specs.contracts.kind_lists.Lists as lists
use Rattle.zk_line.specs.contracts.objects.Objects as objects

message_sync : IsSync message.the_row
message_sync = search (sendable, crosses) depth 60 fits 20000

name_sync : IsSync name.the_row
name_sync = search (sendable, crosses) depth 60 fits 20000

named_sync : IsSync ref.the_row
named_sync = search (sendable, crosses) depth 60 fits 20000

event_sync : IsSync event.the_row
event_sync = search (sendable, crosses) depth 60 fits 20000

events_sync : IsSync events.the_row
events_sync = search (event_sync, sendable, crosses) depth 60 fits 20000

decl_sync : IsSync decl.the_row
decl_sync = search (name_sync, message_sync, sendable, crosses) depth 60 fits 20000

pub declared_sync : IsSync declared.the_row
declared_sync = search (sendable, crosses) depth 60 fits 20000

ruleset parts = (message_sync, named_sync, events_sync, sendable, crosses)

-- the fields of the variant of this number
abbrev fields_at : List (List RattleType) → ℕ → List RattleType
fields_at [] n = []
fields_at (Ts ∷ Tss) zero = Ts
fields_at (Ts ∷ Tss) (suc n) = fields_at Tss n

-- what a call of this number has beside its kind
abbrev fields : ℕ → List RattleType
fields n = fields_at (variants call.the_type).variants n

object_maybe : AllSync (fields 0)
object_maybe = search parts depth 20 fits 20000

object : AllSync (fields 1)
object = search parts depth 20 fits 20000

two_objects_number : AllSync (fields 4)
two_objects_number = search parts depth 20 fits 20000

object_truth : AllSync (fields 9)
object_truth = search parts depth 20 fits 20000

number : AllSync (fields 12)
number = search parts depth 20 fits 20000

object_wait : AllSync (fields 13)
object_wait = search parts depth 20 fits 20000

object_message_wait : AllSync (fields 17)
object_message_wait = search parts depth 20 fits 20000

object_message : AllSync (fields 18)
object_message = search parts depth 20 fits 20000

object_number : AllSync (fields 21)
object_number = search parts depth 20 fits 20000

object_result : AllSync (fields 25)
object_result = search parts depth 20 fits 20000

wait_events : AllSync (fields 28)
wait_events = search parts depth 20 fits 20000

two_objects_truth : AllSync (fields 34)
two_objects_truth = search parts depth 20 fits 20000

two_objects : AllSync (fields 37)
two_objects = search parts depth 20 fits 20000

-- the variants in their order, each by what it has
infixr 5 ◌▸◌
◌▸◌ : {A B : Type 0} → A → B → A × B
a ▸ b = (a, b)

call_parts : EachSync (variants call.the_type).variants
call_parts =
    object_maybe ▸ object ▸ object ▸ object ▸ two_objects_number ▸ two_objects_number ▸ object ▸ object ▸ object
    ▸ object_truth ▸ object ▸ object ▸ number ▸ object_wait ▸ object ▸ object ▸ object ▸ object_message_wait
    ▸ object_message ▸ object_wait ▸ object ▸ object_number ▸ object ▸ object ▸ object ▸ object_result ▸ object
    ▸ object ▸ wait_events ▸ object_wait ▸ object ▸ object_message_wait ▸ object_wait ▸ object_wait
    ▸ two_objects_truth ▸ object_truth ▸ object_wait ▸ two_objects ▸ object ▸ two_objects ▸ object ▸ object ▸ tt ▸ tt

pub call_sync : IsSync call.the_row
call_sync = recorded_sync _ _ _ call.the_type.to_one (enum_sync (variants call.the_type) call_parts)

names_part : IsSync (names.the_field).row
names_part = search (maps.HashMap-sync, sendable, crosses) depth 40 fits 20000

lists_part : IsSync (lists.the_field).row
lists_part = search (sendable, crosses) depth 60 fits 20000

pub objects_part : IsSync (objects.the_field).row
objects_part = search (decl_sync, names_part, lists_part, sendable, crosses) depth 60 fits 20000
