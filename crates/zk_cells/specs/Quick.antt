-- Inner: no contract of a top call is made of this file.
-- Steps that take no turn: writes and looks at signals, and looks at items.
use Rattle.std.specs.Prelude.{◌≡◌, Bool, true, false, Some, List, [], ◌∷◌, ◌++◌}
use Rattle.zk_base.specs.declared.seen.Seen.{Seen}
use Rattle.zk_worker.specs.declared.steps.Step.{Step}
use Rattle.zk_worker.specs.declared.steps.Step.TheVariants as steps
use Rattle.zk_worker.specs.Looks.{looks_at}
use Rattle.zk_worker.specs.Shown.{Shown}

-- whether a step is a write or a look at a signal, or a look at an item
abbrev pub is_quick : Step → Bool
is_quick (steps.Signal object op) = true
is_quick (steps.LookSignal object must) = true
is_quick (steps.LookItem object) = true
is_quick step = false

-- a look that had to find its signal raised found it clear: it is the one that came to the looks that are shown
abbrev pub FoundClear : Step → Shown → Shown → Type 0
FoundClear (steps.LookSignal object true) old new =
    (before : List Seen) × (seen : Seen) × (looks_at old.looks object ≡ Some before)
    × (looks_at new.looks object ≡ Some (before ++ seen ∷ [])) × (seen.raised ≡ false)
FoundClear step old new = ⊥
