-- Inner: no contract of a top call is made of this file.
-- What a thread has of a cell with an event object.
use Rattle.std.specs.Prelude.{◌≡◌, ◌<◌, Option, Some, None, [], ◌∷◌}
use Rattle.zk_base.specs.Legal.{IsLegal}
use Rattle.zk_event.specs.declared.event.EventOp.{EventOp}
use Rattle.zk_event.specs.declared.event.EventReply.{EventReply}
use Rattle.zk_event.specs.declared.service.Event.{Event}
use Rattle.zk_event.specs.Event as model
use Rattle.zk_event.specs.Seen.{event_start}
use Rattle.zk_event.specs.Waiting.{EventPass}
use Rattle.zk_turn.specs.declared.cell.Cell.{Cell}
use Rattle.zk_turn.specs.Passes.{IsPassOf, pass_who, pass_players, pass_mine, pass_room}
use Rattle.zk_test_event.specs.declared.parts.Part.{Part}

abbrev pub EventCell : Type 0
EventCell = Cell Event EventOp EventReply model.Event

-- a pass of one player, by which no entry was made yet
pub record IsFresh (c : EventCell) (p : EventPass) : Type 0 where
  pub of_cell : IsPassOf (IsLegal model.event_machine) event_start c p
  pub alone : pass_players p ≡ pass_who p ∷ []
  pub none : pass_mine p ≡ []
  pub room : pass_room p ≡ 20000

-- a pass by which some were made, and one more may be
pub record IsLeft (c : EventCell) (p : EventPass) : Type 0 where
  pub of_cell : IsPassOf (IsLegal model.event_machine) event_start c p
  pub room : 0 < pass_room p

-- there is one
abbrev pub IsFreshAt : EventCell → Option EventPass → Type 0
IsFreshAt c None = ⊥
IsFreshAt c (Some p) = IsFresh c p

abbrev pub IsLeftAt : EventCell → Option EventPass → Type 0
IsLeftAt c None = ⊥
IsLeftAt c (Some p) = IsLeft c p

-- a part that may play, and one that has played
abbrev pub IsReady : EventCell → Part → Type 0
IsReady c part = IsFreshAt c part.pass

abbrev pub IsDone : EventCell → Part → Type 0
IsDone c part = IsLeftAt c part.pass
