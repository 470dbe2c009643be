use Rattle.std.specs.Prelude.{◌≡◌, ℕ, ◌^◌, ◌+◌, ◌*◌, ◌<◌, Bool, true, false, not, ◌==◌, nat_lt, ◌&&◌, Some, List, [], ◌∷◌, length, take, slice_get, count_by}
use Rattle.std.specs.HashSet as sets
use Rattle.std.specs.List.{list_any, flat_map}
use Rattle.zk_line.specs.declared.types.Decl.{Decl}
use Rattle.zk_line.specs.declared.types.Declared.{Declared}
use Rattle.zk_line.specs.declared.types.Declared.TheVariants.{Object, Allow}
use Rattle.zk_line.specs.Objects.{is_at, is_thread}
use Rattle.zk_scenario.specs.declared.pairs.Pairs.{Pairs}
use Rattle.zk_scenario.specs.Content.{Content}

-- whether a line declares an object
abbrev pub is_object : Declared → Bool
is_object (Object object) = true
is_object (Allow thread object) = false

-- how many objects are declared
abbrev pub objects_in : List Declared → ℕ
objects_in written = count_by is_object written

-- whether a line allows a thread to use an object
abbrev pub permits : ℕ → ℕ → Declared → Bool
permits thread object (Object own) = false
permits thread object (Allow other own) = other == thread && own == object

-- whether one of the lines does
abbrev pub is_allowed : List Declared → ℕ → ℕ → Bool
is_allowed written thread object = list_any (permits thread object) written

-- the permission that a line says, if it says one, by the numbers of its thread and its object
abbrev pub permission_in : Declared → List (ℕ × ℕ)
permission_in (Object object) = []
permission_in (Allow thread object) = (thread, object) ∷ []

-- the permissions of the lines, in their order
abbrev pub permissions : List Declared → List (ℕ × ℕ)
permissions written = flat_map permission_in written

-- the permissions of a scenario
abbrev pub allowed : Content → List (ℕ × ℕ)
allowed p = permissions p.written

-- whether a line may stand behind these: it declares the next object, or allows a thread to use an object, where both
-- are declared before and it wasn't said before
abbrev pub follows : List Decl → List Declared → Declared → Bool
follows decls before (Object object) = object == objects_in before
follows decls before (Allow thread object) =
    is_at is_thread (take (objects_in before) decls) thread && nat_lt object (objects_in before)
    && not (is_allowed before thread object)

-- the lines declare all objects, in their order, and each permission is of a thread on an object, both declared before
-- it, and is said once
pub record AreInOrder (decls : List Decl) (written : List Declared) : Type 0 where
  pub all : objects_in written ≡ length decls
  pub each : (n : ℕ) (line : Declared) → slice_get written n ≡ Some line → follows decls (take n written) line ≡ true

-- whether two numbers are one of the pairs
abbrev pub has_pair : Pairs → ℕ → ℕ → Bool
has_pair pairs first second = sets.contains (λ k other. k == other) pairs.keys (first * 2 ^ 32 + second)

-- the pairs are the permissions of the lines; an object's number has 32 bits
abbrev pub ArePermissions : List Declared → Pairs → Type 0
ArePermissions written pairs =
    (thread object : ℕ) → object < 2 ^ 32 → has_pair pairs thread object ≡ is_allowed written thread object
