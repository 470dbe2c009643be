-- Inner: no contract of a top call is made of this file.
use Rattle.std.specs.Prelude.{◌≡◌, ℕ, ◌<◌, Bool, true, false, not, ◌==◌, ◌&&◌, ◌||◌, nat_lt, if◌then◌else◌, Option, Some, None}
use Rattle.std.specs.Prelude.{List, length, slice_get}
use Rattle.std.specs.Option.{option_map_or}
use Rattle.zk_base.specs.declared.kinds.Kind.TheVariants as kinds
use Rattle.zk_base.specs.declared.kinds.Need.{Need}
use Rattle.zk_base.specs.Limits.{most_players}
use Rattle.zk_model_bus.specs.declared.table.OopsWhy.TheVariants.{NoObject, WrongKind, NotGranted, NotInit}
use Rattle.zk_model_bus.specs.declared.table.TableOp.{TableOp}
use Rattle.zk_model_bus.specs.declared.table.TableOp.TheVariants as ops
use Rattle.zk_model_bus.specs.declared.table.TableReply.{TableReply}
use Rattle.zk_model_bus.specs.declared.table.TableReply.TheVariants.{Done, Already, Oops}
use Rattle.zk_model_bus.specs.Table.{Table, is_thread, is_allowed, is_public, is_ready, is_user, is_dead}
use Rattle.zk_base.specs.Kinds.{meets, is_any}
use Rattle.zk_objects.specs.declared.object.Object.{Object}
use Rattle.zk_player_set.specs.Players.{has}
use Rattle.zk_objects.specs.Players.{Marked, is_marked}

-- the permissions and the flags of an object say what the last words of the history say, of every player
pub record IsObject (t : Table) (object : ℕ) (x : Object) : Type 0 where
  pub kind : slice_get t.setup.kinds object ≡ Some x.kind
  pub granted : (player : ℕ) → has x.granted player ≡ is_allowed t player object
  pub public : x.public ≡ is_public t object
  pub ready : x.ready ≡ is_ready t object
  pub small : x.kind ≡ kinds.Thread → x.player < most_players
  pub thread : x.kind ≡ kinds.Thread → (player : ℕ) → is_thread t.setup player object ≡ (x.player == player)

-- what is kept stands for a state of the table
pub record IsStateOf (objects : List Object) (users dead : Marked) (t : Table) : Type 0 where
  pub long : length objects ≡ length t.setup.kinds
  pub each : (object : ℕ) (x : Object) → slice_get objects object ≡ Some x → IsObject t object x
  pub of_users : (player : ℕ) → is_marked users player ≡ is_user t player
  pub of_dead : (player : ℕ) → is_marked dead player ≡ is_dead t player

-- the tests of a check of an object, by its permissions and its flags
abbrev pub object_reply : ℕ → Need → Option Object → TableReply
object_reply player need None = Oops WrongKind
object_reply player need (Some x) =
    if not (meets need x.kind) then Oops WrongKind
    else if not (has x.granted player || x.public) then Oops NotGranted
    else if not (is_any need || x.ready) then Oops NotInit
    else Done

-- a check finds no object where it names none
abbrev pub checked : List Object → ℕ → Option ℕ → Need → TableReply
checked objects player None need = Oops NoObject
checked objects player (Some object) need = object_reply player need (slice_get objects object)

-- an init is told whether the object was initialised before
abbrev pub init_reply : Option Object → TableReply
init_reply None = Done
init_reply (Some x) = if x.ready then Already else Done

-- what an operation is answered
abbrev pub answered : List Object → ℕ → TableOp → TableReply
answered objects player (ops.Check object need) = checked objects player object need
answered objects player (ops.Init object) = init_reply (slice_get objects object)
answered objects player op = Done

-- the player whose permission an operation changes
abbrev pub target_of : List Object → ℕ → TableOp → ℕ
target_of objects player (ops.Grant thread object) = option_map_or (λ x. x.player) (slice_get objects thread) most_players
target_of objects player (ops.Revoke thread object) = option_map_or (λ x. x.player) (slice_get objects thread) most_players
target_of objects player op = player

-- the object that an operation changes
abbrev pub object_of : TableOp → Option ℕ
object_of (ops.Check object need) = None
object_of (ops.Grant thread object) = Some object
object_of (ops.Revoke thread object) = Some object
object_of (ops.Release object) = Some object
object_of (ops.Public object) = Some object
object_of (ops.Init object) = Some object
object_of ops.EnterUser = None

-- what an operation that changes an object leaves of a player's permission on it: a grant gives that of the target, a revoke
-- and a release take it away, and any other leaves it as it was before
abbrev pub granted_after : ℕ → TableOp → ℕ → Bool → Bool
granted_after target (ops.Grant thread object) player before = before || (target == player && nat_lt target most_players)
granted_after target (ops.Revoke thread object) player before = before && not (target == player)
granted_after target (ops.Release object) player before = before && not (target == player)
granted_after target op player before = before

-- the operation makes the object that it changes public
abbrev pub makes_public : TableOp → Bool
makes_public (ops.Public object) = true
makes_public op = false

-- the operation initialises the object that it changes
abbrev pub makes_ready : TableOp → Bool
makes_ready (ops.Init object) = true
makes_ready op = false

-- what an operation makes of the object that it changes
pub record IsChanged (target : ℕ) (op : TableOp) (x y : Object) : Type 0 where
  pub kind : y.kind ≡ x.kind
  pub granted : (player : ℕ) → has y.granted player ≡ granted_after target op player (has x.granted player)
  pub public : y.public ≡ (x.public || makes_public op)
  pub ready : y.ready ≡ (x.ready || makes_ready op)
  pub player : y.player ≡ x.player

-- the objects after an operation: the one that it names is changed, where there is one, and the others are as they were
pub record AreChanged (target : ℕ) (op : TableOp) (xs ys : List Object) : Type 0 where
  pub long : length ys ≡ length xs
  pub own : (object : ℕ) (x y : Object) → object_of op ≡ Some object → slice_get xs object ≡ Some x →
      slice_get ys object ≡ Some y → IsChanged target op x y
  pub others : (object : ℕ) → (object_of op ≡ Some object → ⊥) → slice_get ys object ≡ slice_get xs object
