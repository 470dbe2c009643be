use Rattle.std.specs.Prelude.{◌≡◌, ℕ, ◌+◌, ◌≤◌, List, [], ◌++◌, length, take, drop, Option, Some, None, ⊤}
use Rattle.std.specs.Io.KnownBytes.{Consumes}
use Rattle.zk_base.specs.Causes.{Rose}
use Rattle.zk_forms.specs.declared.input.NoInput.{NoInput}
use Rattle.zk_forms.specs.declared.input.NoInput.TheVariants.{Fault, NoMemory}

-- the source gave all its bytes, or one byte above the limit, and keeps the rest
abbrev pub HasRead : ℕ → Option (List ℕ) → Option (List ℕ) → List ℕ → Type 0
HasRead limit None left read = ⊤
HasRead limit (Some input) None read = ⊥
HasRead limit (Some input) (Some left) read = (read ≡ take (limit + 1) input) × (left ≡ drop (limit + 1) input)

-- the source gave so many of its bytes at most, from the front
abbrev pub GaveAtMost : ℕ → Option (List ℕ) → Option (List ℕ) → Type 0
GaveAtMost most old new = (bytes : List ℕ) × (length bytes ≤ most) × Consumes old new bytes

-- the next n bytes moved from the source to the end of what was read, and 0 is the end
abbrev pub Moves : Option (List ℕ) → Option (List ℕ) → List ℕ → List ℕ → ℕ → Type 0
Moves None left old new n = ⊤
Moves (Some input) None old new n = ⊥
Moves (Some input) (Some left) old new n =
    (piece : List ℕ) × (input ≡ piece ++ left) × (new ≡ old ++ piece) × (n ≡ 0 → left ≡ [])

-- a fault of reading comes only where the count of faults rose, and want of memory leaves the count
abbrev pub IsCaused : ℕ → ℕ → NoInput → Type 0
IsCaused old new Fault = Rose old new
IsCaused old new NoMemory = new ≡ old
