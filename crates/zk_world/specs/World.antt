use Rattle.std.specs.Prelude.{ℕ, Bool, Option, Some, None, List, length, slice_set}
use Rattle.std.specs.List.{list_any}
use Rattle.zk_scenario.specs.Content.{Content}
use Rattle.zk_scenario.specs.Players.{players}
use Rattle.zk_worker.specs.declared.steps.Step.{Step}
use Rattle.zk_worker.specs.declared.steps.StepReply.{StepReply}
use Rattle.zk_worker.specs.Places.{PlayerPlace}
use Rattle.zk_worker.specs.Protocol.{after}
use Rattle.zk_worker.specs.Follows.{is_spent_at}
use Rattle.zk_worker.specs.Shown.{Shown, nothing_shown, shown_after}
use Rattle.zk_services.specs.Starts.{starts}

-- all that services and their players have come to: what the services show, and where each player stands
pub record World : Type 0 where
  pub shown : Shown
  pub players : List PlayerPlace

-- what is shown, and these players
abbrev pub world : Shown → List PlayerPlace → World
world shown players = record { shown = shown; players = players }

-- the world in which nothing was done
abbrev pub first : Content → World
first s = record { shown = nothing_shown s.decls; players = starts s (length (players s.decls)) }

-- the world after a step of the player of this number, if it makes one
abbrev pub stepped : Content → World → ℕ → PlayerPlace → Option (Step × StepReply) → World
stepped s w player at None = w
stepped s w player at (Some made) = record {
  shown = shown_after w.shown at.who (length at.spots) made.0 made.1;
  players = slice_set w.players player (after s at made.0 made.1);
}

-- whether some player has made all its steps
abbrev pub is_spent : Content → World → Bool
is_spent s w = list_any (is_spent_at s) w.players
