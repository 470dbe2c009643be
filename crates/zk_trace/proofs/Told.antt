-- What some words say, no more than so many, word by word.
use Rattle.std.proofs.Common.{ℕ, Option, List, ◌++◌}
use Rattle.std.specs.Prelude.{option_map, option_and_then}
use Rattle.zk_trace.specs.Fields.{each_of, up_to}

-- what was told so far, and what the words left tell
abbrev pub told_with : {A : Type 0} → ℕ → (List ℕ → Option A) → List A → List (List ℕ) → Option (List A)
told_with most of told words = option_and_then (λ more. up_to most (told ++ more)) (each_of of words)

-- the same of any number
abbrev pub each_with : {A : Type 0} → (List ℕ → Option A) → List A → List (List ℕ) → Option (List A)
each_with of told words = option_map (λ more. told ++ more) (each_of of words)
