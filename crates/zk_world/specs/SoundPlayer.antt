-- Inner: no contract of a top call is made of this file.
use Rattle.std.specs.Prelude.{◌≡◌, ◌≤◌, Some, length, All}
use Rattle.zk_scenario.specs.Content.{Content}
use Rattle.zk_scenario.specs.Steps.{steps_of}
use Rattle.zk_worker.specs.declared.steps.Spot.{Spot}
use Rattle.zk_worker.specs.Follows.{IsFollowing}
use Rattle.zk_worker.specs.Machines.{machines_of}
use Rattle.zk_worker.specs.Places.{PlayerPlace}
use Rattle.zk_worker.specs.Ranges.{IsFit}
use Rattle.zk_worker.specs.Right.{LooksRight}
use Rattle.zk_worker.specs.Shown.{Shown, ShowsLog}
use Rattle.zk_world.specs.Requests.{Request, request_at, IsKnownWho, RequestFits, LookFits}
use Rattle.zk_world.specs.Tending.{IsAtWork}

-- what holds of a player, its log and what is shown of it, whoever shows it and whoever else plays
pub record IsSoundPlayer (s : Content) (shown : Shown) (at : PlayerPlace) : Type 0 where
  -- just the steps of its log are shown of it
  pub log : ShowsLog shown at.who.number at.spots
  -- what it found when it looked is right
  pub looks : LooksRight (machines_of s) shown at.spots
  -- it is where its script leads it by the replies that are shown
  pub follows : IsFollowing s at.who.number shown at
  -- what it does next is declared
  pub fits : IsFit s at
  -- it has made no more steps than it may
  pub short : length at.spots ≤ steps_of s
  -- it is a player of the scenario
  pub known : IsKnownWho s at.who
  -- what its entries asked is declared, and they have its priority
  pub asked : (spot : Spot) (x : Request) → request_at shown spot ≡ Some x → x.who.number ≡ at.who.number →
      (x.who ≡ at.who) × RequestFits s x
  -- and what it looked at is declared
  pub sighted : All (LookFits s.decls) at.spots
  -- if it is the worker of a queue, it works at it
  pub works : IsAtWork s shown at
