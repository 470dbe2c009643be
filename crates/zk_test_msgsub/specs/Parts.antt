-- Inner: no contract of a top call is made of this file.
-- What two parts share, and how far each of them is.
use Rattle.std.specs.Prelude.{◌≡◌, ℕ, ◌+◌, ◌<◌, ◌≤◌, Option, Some, None, All, List, [], ◌∷◌, length, slice_get}
use Rattle.zk_base.specs.declared.ids.Who.{Who}
use Rattle.zk_base.specs.History.{IsAbove}
use Rattle.zk_base.specs.Legal.{IsLegal}
use Rattle.zk_turn.specs.Passes.{IsNewPass, IsPassOf, pass_mine, pass_players, pass_room, pass_who, players_in}
use Rattle.zk_turn.specs.Players.{room_of_a_pass}
use Rattle.zk_msgsub.specs.declared.msg_sub.MsgSub.{MsgSub}
use Rattle.zk_msgsub.specs.declared.publisher.Publisher.{Publisher}
use Rattle.zk_msgsub.specs.declared.seats.PubSeat.{PubSeat}
use Rattle.zk_msgsub.specs.declared.seats.SubSeat.{SubSeat}
use Rattle.zk_msgsub.specs.Fan.{fan_machine}
use Rattle.zk_msgsub.specs.FanSeen.{fan_start}
use Rattle.zk_msgsub.specs.Publishers.{AreSeatsOf, FanCell, FanPass, IsPublisherOf, publisher_room, publisher_seats}
use Rattle.zk_msgsub.specs.Seats.{IsSeatOf, IsTakerOf, seat_room}
use Rattle.zk_test_msgsub.specs.declared.parts.Part.{Part}
use Rattle.zk_test_msgsub.specs.declared.parts.Shared.{Shared}
use Rattle.zk_test_msgsub.specs.declared.parts.TheConstants.{ROUNDS}

-- there are two subscribers, and four players
pub record IsOpen (f : Shared) : Type 0 where
  pub two : length f.subs.items ≡ 2
  pub four : length (players_in f.fan) ≡ 4

-- it is a new pass of somebody
abbrev pub IsFresh : FanCell → FanPass → Type 0
IsFresh c p = (w : Who) × IsNewPass (IsLegal fan_machine) fan_start c w p

-- seats at all subscribers, with which nothing was pushed
pub record AreFreshSeats (f : Shared) (seats : List PubSeat) : Type 0 where
  pub own : AreSeatsOf f.subs.items seats
  pub rooms : All (λ s. ROUNDS ≤ seat_room s) seats

-- the pass of one player at the fan, whose steps are below this one
pub record IsChanger (fan : FanCell) (steps : ℕ) (p : FanPass) : Type 0 where
  pub of_cell : IsPassOf (IsLegal fan_machine) fan_start fan p
  pub alone : pass_players p ≡ pass_who p ∷ []
  pub later : IsAbove (pass_mine p) (pass_who p).number steps
  pub room : room_of_a_pass ≤ pass_room p + steps

abbrev pub IsChangerAt : FanCell → ℕ → Option FanPass → Type 0
IsChangerAt fan steps None = ⊥
IsChangerAt fan steps (Some p) = IsChanger fan steps p

-- a publisher that has sent so many messages at most
pub record IsSending (f : Shared) (n : ℕ) (p : Publisher) : Type 0 where
  pub own : IsPublisherOf f.fan f.subs.items p
  pub room : room_of_a_pass ≤ publisher_room p + n
  pub rooms : All (λ s. ROUNDS ≤ seat_room s + n) (publisher_seats p)

-- a part before its first round, and one after its last
pub record IsReady (f : Shared) (part : Part) : Type 0 where
  pub publisher : IsSending f 0 part.publisher
  pub changer : IsChangerAt f.fan 0 part.changer
  pub subscriber : part.subscriber < 8

pub record IsDone (f : Shared) (part : Part) : Type 0 where
  pub publisher : IsPublisherOf f.fan f.subs.items part.publisher
  pub changer : IsChangerAt f.fan ROUNDS part.changer

-- a seat at each of the two subscribers
pub record HasSeatsOf (f : Shared) (first second : PubSeat) : Type 0 where
  pub at_first : (m : MsgSub) → slice_get f.subs.items 0 ≡ Some m → IsSeatOf m first
  pub at_second : (m : MsgSub) → slice_get f.subs.items 1 ≡ Some m → IsSeatOf m second

-- what takes at each of them
pub record AreTakers (f : Shared) (first second : SubSeat) : Type 0 where
  pub at_first : (m : MsgSub) → slice_get f.subs.items 0 ≡ Some m → IsTakerOf m first
  pub at_second : (m : MsgSub) → slice_get f.subs.items 1 ≡ Some m → IsTakerOf m second
