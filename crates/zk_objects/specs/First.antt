-- Inner: no contract of a top call is made of this file.
use Rattle.std.specs.Prelude.{◌≡◌, ℕ, Bool, false, ◌⊎◌, Some, List, length, slice_get}
use Rattle.std.specs.Option.{option_map_or}
use Rattle.zk_model_bus.specs.Table.{Setup, new_table}
use Rattle.zk_objects.specs.declared.object.Object.{Object}
use Rattle.zk_objects.specs.Kept.{IsObject}

-- the player is declared a user
abbrev pub declares_user : List (ℕ × Bool) → ℕ → Bool
declares_user threads player = option_map_or (λ declared. declared.1) (slice_get threads player) false

-- the player is the thread of this object, or there is no such thread
abbrev pub IsFirstThread : List (ℕ × Bool) → ℕ → ℕ → Type 0
IsFirstThread threads object player =
    ((declared : ℕ × Bool) × (slice_get threads player ≡ Some declared) × (declared.0 ≡ object))
    ⊎ ((other : ℕ) (declared : ℕ × Bool) → slice_get threads other ≡ Some declared → declared.0 ≡ object → ⊥)

-- the players of the threads of so many objects, by object number
pub record ArePlayers (threads : List (ℕ × Bool)) (objects : ℕ) (players : List ℕ) : Type 0 where
  pub long : length players ≡ objects
  pub each : (object player : ℕ) → slice_get players object ≡ Some player → IsFirstThread threads object player

-- the same declarations with other permissions
abbrev pub allowing : List (ℕ × ℕ) → Setup → Setup
allowing allowed setup = record setup { allowed = allowed }

-- what is kept of the objects at first
pub record AreFirst (setup : Setup) (objects : List Object) : Type 0 where
  pub long : length objects ≡ length setup.kinds
  pub each : (object : ℕ) (x : Object) → slice_get objects object ≡ Some x → IsObject (new_table setup) object x
