use Rattle.std.specs.Prelude.{◌≡◌, ◌⊎◌, ℕ, ◌<◌, true, false, List, [], ◌∷◌, length}
use Rattle.std.specs.List.{list_any}
use Rattle.zk_scenario.specs.Content.{Content}
use Rattle.zk_scenario.specs.Steps.{steps_of}
use Rattle.zk_worker.specs.declared.frames.Frame.{Frame}
use Rattle.zk_worker.specs.declared.frames.Role.TheVariants.{Worker}
use Rattle.zk_worker.specs.declared.frames.Stage.TheVariants.{Start}
use Rattle.zk_worker.specs.declared.log.PlayerState.{PlayerState}
use Rattle.zk_worker.specs.declared.log.PlayerState.TheVariants.{Spent, Oops, Done, Standing}
use Rattle.zk_player_laws.specs.CheckLaws.{fails}
use Rattle.zk_worker.specs.Follows.{StepMade, IsFollowing, log_of}
use Rattle.zk_worker.specs.Places.{PlayerPlace}
use Rattle.zk_worker.specs.Shown.{Shown}

-- a thread is through its script: nothing is open. Or a worker is between two runs: nothing is open but its own loop, at the start
abbrev pub IsAtRest : List Frame → Type 0
IsAtRest frames =
    (frames ≡ []) ⊎ ((queue next : ℕ) × (frames ≡ record { role = Worker queue; next = next; stage = Start } ∷ []))

-- the state of a player that has made these steps and stands at this place: spent where it has made all that it may make, and else
-- oops where a check of it has failed, and else done where it is at rest, and else standing. At most one of the four holds
abbrev pub IsStateOf : Content → List StepMade → PlayerPlace → PlayerState → Type 0
IsStateOf s made end Spent = length made ≡ steps_of s
IsStateOf s made end Oops = (length made < steps_of s) × (list_any fails made ≡ true)
IsStateOf s made end Done = (length made < steps_of s) × (list_any fails made ≡ false) × IsAtRest end.frames
IsStateOf s made end Standing = (length made < steps_of s) × (list_any fails made ≡ false) × (IsAtRest end.frames → ⊥)

-- the log of a player has the steps that it has made and the answers that it has got, all of them, in their order
abbrev pub EachLogIsWhole : Type 0
EachLogIsWhole = (s : Content) (at : PlayerPlace) → ((log_of s at).steps ≡ at.spots) × ((log_of s at).answers ≡ at.answers)

-- of each player that follows a scenario, whatever is shown: its log tells its state
abbrev pub EachStateTells : Type 0
EachStateTells = (s : Content) (number : ℕ) (shown : Shown) (at : PlayerPlace) (is : IsFollowing s number shown at) →
    IsStateOf s is.made at (log_of s at).state
