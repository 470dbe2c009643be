use Rattle.std.specs.Prelude.{◌≡◌, ℕ, ◌<◌, ◌≤◌, Bool, true, false, not, ◌==◌, ◌&&◌, ◌||◌, nat_lt, if◌then◌else◌, Option, Some, None, is_some, List, [], ◌∷◌, ◌++◌, length, slice_get, All}
use Rattle.std.specs.List.{fold, list_any}
use Rattle.std.specs.Option.{option_map_or}
use Rattle.zk_base.specs.declared.ids.Who.{Who}
use Rattle.zk_base.specs.Kinds.{meets, is_any}
use Rattle.zk_base.specs.Legal.{Machine}
use Rattle.zk_base.specs.Limits.{most_players}
use Rattle.zk_base.specs.declared.kinds.Kind.{Kind}
use Rattle.zk_base.specs.declared.kinds.Kind.TheVariants as kinds
use Rattle.zk_base.specs.declared.kinds.Need.{Need}
use Rattle.zk_base.specs.declared.kinds.Need.TheVariants as needs
use Rattle.zk_model_bus.specs.declared.table.OopsWhy.TheVariants.{NoObject, WrongKind, NotGranted, NotInit}
use Rattle.zk_model_bus.specs.declared.table.TableEntry.{TableEntry}
use Rattle.zk_model_bus.specs.declared.table.TableOp.{TableOp}
use Rattle.zk_model_bus.specs.declared.table.TableOp.TheVariants as ops
use Rattle.zk_model_bus.specs.declared.table.TableReply.{TableReply}
use Rattle.zk_model_bus.specs.declared.table.TableReply.TheVariants.{Done, Already, Oops}

-- what is declared: the kind of each object and whether it is ready from the start; each thread, as the number of its
-- object and whether it is a user; and each permission, as a player and an object
pub record Setup : Type 0 where
  pub kinds : List Kind
  pub ready : List Bool
  pub threads : List (ℕ × Bool)
  pub allowed : List (ℕ × ℕ)

-- the state of the table: what is declared, and all entries so far, the oldest first
pub record Table : Type 0 where
  pub setup : Setup
  pub entries : List TableEntry

-- what a contract sees of the table that is kept: its state, and how many entries it takes without memory
pub record TableView : Type 0 where
  pub table : Table
  pub room : ℕ

-- the state before the first entry
abbrev pub new_table : Setup → Table
new_table setup = record { setup = setup; entries = [] }

-- the declarations fit together: each thread is another object of the kind Thread, each such object is a thread, there are
-- no more of them than a scenario has players, and permissions are of threads, on objects that there are
pub record IsSetup (setup : Setup) : Type 0 where
  pub long : length setup.ready ≡ length setup.kinds
  pub few : length setup.threads ≤ most_players
  pub threads : (player : ℕ) (thread : ℕ × Bool) → slice_get setup.threads player ≡ Some thread →
      slice_get setup.kinds thread.0 ≡ Some kinds.Thread
  pub once : (p q : ℕ) (a b : ℕ × Bool) → slice_get setup.threads p ≡ Some a → slice_get setup.threads q ≡ Some b →
      a.0 ≡ b.0 → p ≡ q
  pub each : (object : ℕ) → slice_get setup.kinds object ≡ Some kinds.Thread →
      (player : ℕ) × (thread : ℕ × Bool) × (slice_get setup.threads player ≡ Some thread) × (thread.0 ≡ object)
  pub allowed : All (λ a. (a.0 < length setup.threads) × (a.1 < length setup.kinds)) setup.allowed

-- the object of this number meets the need
abbrev pub has_kind : Setup → ℕ → Need → Bool
has_kind setup object need = option_map_or (meets need) (slice_get setup.kinds object) false

-- the player is the thread of this object number
abbrev pub is_thread : Setup → ℕ → ℕ → Bool
is_thread setup player thread = option_map_or (λ declared. declared.0 == thread) (slice_get setup.threads player) false

-- the permission is declared
abbrev pub is_declared : Setup → ℕ → ℕ → Bool
is_declared setup player object = list_any (λ a. a.0 == player && a.1 == object) setup.allowed

-- what an operation says of the permission of a player on an object: a grant gives it, a revoke takes it away, and so does a
-- release of the player's own. Any other leaves it as it was before
abbrev pub said : Setup → ℕ → ℕ → Bool → ℕ → TableOp → Bool
said setup player object before by (ops.Grant thread own) =
    if is_thread setup player thread && own == object then true else before
said setup player object before by (ops.Revoke thread own) =
    if is_thread setup player thread && own == object then false else before
said setup player object before by (ops.Release own) = if by == player && own == object then false else before
said setup player object before by op = before

-- the last word on the permission: that of the entries, and of the declarations where no entry says anything
abbrev pub is_allowed : Table → ℕ → ℕ → Bool
is_allowed t player object =
    fold (λ before e. said t.setup player object before e.player e.op) (is_declared t.setup player object) t.entries

-- the operation makes this object public
abbrev pub publishes : ℕ → TableOp → Bool
publishes object (ops.Public own) = own == object
publishes object op = false

-- an entry has made the object public, which it is for good
abbrev pub is_public : Table → ℕ → Bool
is_public t object = list_any (λ e. publishes object e.op) t.entries

-- the operation initialises this object
abbrev pub initialises : ℕ → TableOp → Bool
initialises object (ops.Init own) = own == object
initialises object op = false

-- the object is declared initialised, which it is where it isn't declared raw
abbrev pub begins_ready : Setup → ℕ → Bool
begins_ready setup object = option_map_or (λ ready. ready) (slice_get setup.ready object) false

-- an entry has initialised it
abbrev pub was_initialised : Table → ℕ → Bool
was_initialised t object = list_any (λ e. initialises object e.op) t.entries

-- it is initialised, which it is for good
abbrev pub is_ready : Table → ℕ → Bool
is_ready t object = begins_ready t.setup object || was_initialised t object

-- the operation makes its caller a user
abbrev pub enters : TableOp → Bool
enters ops.EnterUser = true
enters op = false

-- the player is declared a user
abbrev pub begins_as_user : Setup → ℕ → Bool
begins_as_user setup player = option_map_or (λ declared. declared.1) (slice_get setup.threads player) false

-- an entry of the player has made it a user
abbrev pub has_entered_user_mode : Table → ℕ → Bool
has_entered_user_mode t player = list_any (λ e. e.player == player && enters e.op) t.entries

-- it is a user, which it is for good
abbrev pub is_user : Table → ℕ → Bool
is_user t player = begins_as_user t.setup player || has_entered_user_mode t player

-- the reply is an oops
abbrev pub is_oops : TableReply → Bool
is_oops (Oops why) = true
is_oops reply = false

-- a check of the player has ended in an oops, and the player with it
abbrev pub is_dead : Table → ℕ → Bool
is_dead t player = list_any (λ e. e.player == player && is_oops e.reply) t.entries

-- whether an operation is possible for a user, or for a supervisor: checks are made by users, a grant and a release by
-- both, and all else by supervisors
abbrev pub is_for : Bool → TableOp → Bool
is_for user (ops.Check object need) = user
is_for user (ops.Grant thread object) = true
is_for user (ops.Release object) = true
is_for user op = not user

-- the operation is possible for the player: nothing is for a dead one
abbrev pub may : Table → ℕ → TableOp → Bool
may t player op = not (is_dead t player) && is_for (is_user t player) op

-- the four tests of a check, in their order
abbrev pub check_reply : Table → ℕ → Option ℕ → Need → TableReply
check_reply t player None need = Oops NoObject
check_reply t player (Some object) need =
    if not (has_kind t.setup object need) then Oops WrongKind
    else if not (is_allowed t player object || is_public t object) then Oops NotGranted
    else if not (is_any need || is_ready t object) then Oops NotInit
    else Done

-- what an operation is answered, where it is possible
abbrev pub answer : Table → ℕ → TableOp → TableReply
answer t player (ops.Check object need) = check_reply t player object need
answer t player (ops.Init object) = if is_ready t object then Already else Done
answer t player op = Done

-- the reply to each operation, where it is possible
abbrev pub table_reply : Table → Who → TableOp → Option TableReply
table_reply t who op = if may t who.number op then Some (answer t who.number op) else None

-- the entry that an operation makes, as far as the table reads it
abbrev pub entry_of : Table → Who → TableOp → TableEntry
entry_of t who op = record { player = who.number; op = op; reply = answer t who.number op }

-- the state after an entry
abbrev pub table_next : Table → Who → TableOp → Table
table_next t who op = record t { entries = t.entries ++ entry_of t who op ∷ [] }

-- the state after an operation with this reply: nothing changes where there is none
abbrev pub table_after : Table → Who → TableOp → Option TableReply → Table
table_after t who op reply = if is_some reply then table_next t who op else t

-- there is an object of this number
abbrev pub is_object : Setup → ℕ → Bool
is_object setup object = nat_lt object (length setup.kinds)

-- the objects that an operation names are declared, and where it names a thread it is one
abbrev pub names_objects : Setup → TableOp → Bool
names_objects setup (ops.Check None need) = true
names_objects setup (ops.Check (Some object) need) = is_object setup object
names_objects setup (ops.Grant thread object) = has_kind setup thread needs.Thread && is_object setup object
names_objects setup (ops.Revoke thread object) = has_kind setup thread needs.Thread && is_object setup object
names_objects setup (ops.Release object) = is_object setup object
names_objects setup (ops.Public object) = is_object setup object
names_objects setup (ops.Init object) = is_object setup object
names_objects setup ops.EnterUser = true

-- the declarations don't change, so what is in range in one state is in each
abbrev pub table_in_range : Table → TableOp → Bool
table_in_range t op = names_objects t.setup op

-- the machine of the object table
abbrev pub table_machine : Machine Table TableOp TableReply
table_machine = record { reply_of = table_reply; next = table_next; in_range = table_in_range }
