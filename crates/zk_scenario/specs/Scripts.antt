use Rattle.std.specs.Prelude.{◌≡◌, ℕ, ◌==◌, Option, List, slice_get}
use Rattle.std.specs.List.{position}
use Rattle.std.specs.Option.{option_flatten}
use Rattle.zk_scenario.specs.declared.types.Script.{Script}

-- the place of the script of an object among the scripts, if it has one
abbrev pub script_of : List Script → ℕ → Option ℕ
script_of scripts owner = position (λ s. s.owner == owner) scripts

-- the table has under each object the place of its script
abbrev pub IsByOwner : List Script → List (Option ℕ) → Type 0
IsByOwner scripts table = (owner : ℕ) → option_flatten (slice_get table owner) ≡ script_of scripts owner
