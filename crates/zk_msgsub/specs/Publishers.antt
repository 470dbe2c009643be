-- Inner: no contract of a top call is made of this file.
-- What a contract sees of a publisher, and what a send does.
use Rattle.std.specs.Prelude.{◌≡◌, ℕ, ◌+◌, ◌*◌, ◌<◌, ◌≤◌, Bool, true, false, not, nat_lt, if◌then◌else◌, Option, Some, None, List, [], ◌∷◌, ◌++◌, filter, length, slice_get}
use Rattle.zk_base.specs.History.{IsAbove}
use Rattle.zk_base.specs.Legal.{IsLegal}
use Rattle.zk_turn.specs.declared.cell.Cell.{Cell}
use Rattle.zk_turn.specs.declared.pass.Pass.{Pass}
use Rattle.zk_turn.specs.Calls.{IsEntered}
use Rattle.zk_turn.specs.Passes.{IsPassOf, given_to, pass_holds, pass_mine, pass_players, pass_room, pass_seen, pass_who}
use Rattle.zk_turn.specs.Players.{GoesOn, room_of_a_pass}
use Rattle.zk_msgsub.specs.declared.fan.Fan.{Fan}
use Rattle.zk_msgsub.specs.declared.fan_state.FanOp.{FanOp}
use Rattle.zk_msgsub.specs.declared.fan_state.FanOp.TheVariants.{Open}
use Rattle.zk_msgsub.specs.declared.fan_state.FanReply.{FanReply}
use Rattle.zk_msgsub.specs.declared.fan_state.FanReply.TheVariants.{Subs}
use Rattle.zk_msgsub.specs.declared.msg_sub.MsgSub.{MsgSub}
use Rattle.zk_msgsub.specs.declared.publisher.Publisher.{Publisher}
use Rattle.zk_msgsub.specs.declared.publisher.Sent.{Sent}
use Rattle.zk_msgsub.specs.declared.seats.PubSeat.{PubSeat}
use Rattle.zk_msgsub.specs.Fan.{Roster, fan_machine, is_in}
use Rattle.zk_msgsub.specs.FanSeen.{fan_start}
use Rattle.zk_msgsub.specs.Notes.{Message}
use Rattle.zk_msgsub.specs.Seats.{IsSeatOf, seat_fulls, seat_publisher, seat_room, seat_sent, sub_capacity, sub_each, sub_publishers}

-- a shared fan, and a pass of one
abbrev pub FanCell : Type 0
FanCell = Cell Fan FanOp FanReply Roster

abbrev pub FanPass : Type 0
FanPass = Pass Fan FanOp FanReply Roster

-- its pass of the fan, which is away only while a call of the fan goes on
abbrev pub publisher_pass : Publisher → Option FanPass
publisher_pass p = p.pass

-- the number of its next step
abbrev pub publisher_step : Publisher → ℕ
publisher_step p = p.step

-- its seats, by subscriber
abbrev pub publisher_seats : Publisher → List PubSeat
publisher_seats p = p.seats.items

-- how many sends its pass has room for
abbrev pub room_in : Option FanPass → ℕ
room_in None = 0
room_in (Some pass) = pass_room pass

abbrev pub publisher_room : Publisher → ℕ
publisher_room p = room_in p.pass

-- the seat at each position belongs to the subscriber at that position, and there are as many
pub record AreSeatsOf (subs : List MsgSub) (seats : List PubSeat) : Type 0 where
  pub many : length seats ≡ length subs
  pub each : (k : ℕ) (m : MsgSub) (s : PubSeat) → slice_get subs k ≡ Some m → slice_get seats k ≡ Some s → IsSeatOf m s

-- it has a pass of the fan that stands for one player, whose earlier steps are below its next one
pub record HasPassOf (fan : FanCell) (p : Publisher) : Type 0 where
  pub pass : FanPass
  pub there : publisher_pass p ≡ Some pass
  pub own : IsPassOf (IsLegal fan_machine) fan_start fan pass
  pub alone : pass_players pass ≡ pass_who pass ∷ []
  pub later : IsAbove (pass_mine pass) (pass_who pass).number (publisher_step p)
  pub steps : publisher_step p + pass_room pass ≤ room_of_a_pass

-- it is a publisher of this fan to these subscribers
pub record IsPublisherOf (fan : FanCell) (subs : List MsgSub) (p : Publisher) : Type 0 where
  pub pass : HasPassOf fan p
  pub seats : AreSeatsOf subs (publisher_seats p)

-- it made its Open and added just this entry, whose reply lists these
pub record HasOpened (fan : FanCell) (old new : Publisher) (listed : List ℕ) : Type 0 where
  pub before : FanPass
  pub after : FanPass
  pub was : publisher_pass old ≡ Some before
  pub is : publisher_pass new ≡ Some after
  pub place : ℕ
  pub entered : IsEntered fan_machine (fan_start (given_to fan)) (pass_who before) (publisher_step old) Open (Subs listed) place
      (pass_seen before) (pass_seen after)
  pub who : pass_who after ≡ pass_who before
  pub holds : pass_holds after ≡ pass_holds before + 1
  pub room : pass_room after + 1 ≡ pass_room before
  pub step : publisher_step new ≡ publisher_step old + 1

-- it added no entry, and saw what others added
pub record HasNotOpened (old new : Publisher) : Type 0 where
  pub before : FanPass
  pub after : FanPass
  pub was : publisher_pass old ≡ Some before
  pub is : publisher_pass new ≡ Some after
  pub since : GoesOn (pass_who before ∷ []) (pass_seen before) (pass_seen after)
  pub who : pass_who after ≡ pass_who before
  pub holds : pass_holds after ≡ pass_holds before + 1
  pub room : pass_room after ≡ pass_room before
  pub step : publisher_step new ≡ publisher_step old

-- the queue of this seat took the copy
pub record TookCopy (message : Message) (old new : PubSeat) : Type 0 where
  pub publisher : seat_publisher new ≡ seat_publisher old
  pub sent : seat_sent new ≡ seat_sent old ++ message ∷ []
  pub fulls : seat_fulls new ≡ seat_fulls old
  pub room : seat_room new + 1 ≡ seat_room old

-- it was found full, which is counted. What a push says of Full holds of it
pub record FoundFull (m : MsgSub) (old new : PubSeat) : Type 0 where
  pub publisher : seat_publisher new ≡ seat_publisher old
  pub sent : seat_sent new ≡ seat_sent old
  pub fulls : seat_fulls new ≡ seat_fulls old + 1
  pub room : seat_room new + 1 ≡ seat_room old
  pub alone : sub_publishers m ≡ 1 → sub_capacity m ≤ length (seat_sent old)
  pub never : sub_capacity m < sub_publishers m * sub_each m

-- a seat after a send, by whether its subscriber is a member, and whether it took the copy
abbrev pub SeatAfter : Bool → Bool → MsgSub → Message → PubSeat → PubSeat → Type 0
SeatAfter false took m message old new = new ≡ old
SeatAfter true true m message old new = TookCopy message old new
SeatAfter true false m message old new = FoundFull m old new

-- the members of a list for whom there is a subscriber, in their order
abbrev pub members : List MsgSub → List ℕ → List ℕ
members subs listed = filter (λ k. nat_lt k (length subs)) listed

-- one push was made for each member, and none for anybody else: each took the copy or was full, in their order
pub record HasPushed (subs : List MsgSub) (to : List ℕ) (message : Message) (old new : List PubSeat)
    (pushed full : List ℕ) : Type 0 where
  pub pushed_are : pushed ≡ filter (is_in pushed) to
  pub full_are : full ≡ filter (λ k. not (is_in pushed k)) to
  pub many : length new ≡ length old
  pub each : (k : ℕ) (m : MsgSub) (s s' : PubSeat) → slice_get subs k ≡ Some m → slice_get old k ≡ Some s →
      slice_get new k ≡ Some s' → SeatAfter (is_in to k) (is_in pushed k) m message s s'

-- a send: the publisher made its Open, and then pushed to just the members of the reply
pub record HasSent (fan : FanCell) (subs : List MsgSub) (message : Message) (old new : Publisher) (sent : Sent) : Type 0 where
  pub listed : List ℕ
  pub opened : HasOpened fan old new listed
  pub pushed : HasPushed subs (members subs listed) message (publisher_seats old) (publisher_seats new) sent.pushed sent.full

-- one push for a member, which is noted
pub record PushesOne (m : MsgSub) (k : ℕ) (message : Message) (old new : PubSeat) (before after : Sent) : Type 0 where
  pub took : Bool
  pub seat : SeatAfter true took m message old new
  pub pushed : after.pushed ≡ before.pushed ++ (if took then k ∷ [] else [])
  pub full : after.full ≡ before.full ++ (if took then [] else k ∷ [])
