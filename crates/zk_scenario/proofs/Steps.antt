-- How many steps a player of a scenario may make.
use Rattle.std.proofs.Common.{ℕ, ◌<◌, ◌≤◌, true, false, cond, leb, length, arith}
use Rattle.zk_scenario.specs.declared.scenario.TheConstants.{FEW_PLAYERS, MOST_STEPS, STEPS_OF_MANY}
use Rattle.zk_scenario.specs.Content.{Content}
use Rattle.zk_scenario.specs.Players.{players}
use Rattle.zk_scenario.specs.Steps.{steps_of}

-- no more than there is room for at most
pub steps-most : (s : Content) → steps_of s ≤ MOST_STEPS
steps-most s =
    elim (leb (length (players s.decls)) FEW_PLAYERS) as (λ b. cond b MOST_STEPS STEPS_OF_MANY ≤ MOST_STEPS)
    [ true ↦ omega arith | false ↦ omega arith ]

-- each may make one
pub steps-some : (s : Content) → 0 < steps_of s
steps-some s =
    elim (leb (length (players s.decls)) FEW_PLAYERS) as (λ b. 0 < cond b MOST_STEPS STEPS_OF_MANY)
    [ true ↦ omega arith | false ↦ omega arith ]
