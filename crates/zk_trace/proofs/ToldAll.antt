-- Numbers of 64 bits can be told in each format.
use Rattle.std.proofs.Common.{ℕ, ◌^◌, ◌<◌, List, [], ◌∷◌, All}
use Rattle.std.specs.List.{AllByRecursion}
use Rattle.std.proofs.lemmas.List.Elements.{recursion_from_All}
use Rattle.zk_trace.specs.declared.format.Format.{Format}
use Rattle.zk_trace.specs.declared.format.Format.TheVariants.{One, Two}
use Rattle.zk_trace.specs.Formats.{CanTell}

pub can-tell : (f : Format) (lines : ℕ) → lines < 2 ^ 64 → CanTell f lines
can-tell One lines small = tt
can-tell Two lines small = small

each-tell : (f : Format) {X : Type 0} (long : X → ℕ) (xs : List X) → AllByRecursion (λ x. long x < 2 ^ 64) xs → AllByRecursion (λ x. CanTell f (long x)) xs
each-tell f long [] small = tt
each-tell f long (x ∷ xs) small = (can-tell f (long x) small.0, each-tell f long xs small.1)

pub all-tell : (f : Format) {X : Type 0} (long : X → ℕ) (xs : List X) → All (λ x. long x < 2 ^ 64) xs → AllByRecursion (λ x. CanTell f (long x)) xs
all-tell f long xs small = each-tell f long xs (recursion_from_All (λ x. long x < 2 ^ 64) xs small)
