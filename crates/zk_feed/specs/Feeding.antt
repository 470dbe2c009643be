-- Inner: no contract of a top call is made of this file.
-- What the publishers of a feed share, and how far each of them is.
use Rattle.std.specs.Prelude.{◌≡◌, ℕ, zero, suc, ◌+◌, ◌*◌, ◌<◌, ◌≤◌, true, false, Option, Some, None, All, List, [], ◌∷◌, ◌++◌, length, map, slice_get, pos, Vec}
use Rattle.std.specs.Global.{Global}
use Rattle.zk_base.specs.declared.ids.Who.{Who}
use Rattle.zk_base.specs.declared.ids.Entry.{Entry}
use Rattle.zk_base.specs.Legal.{IsLegal}
use Rattle.zk_turn.specs.Passes.{IsPassOf, given_to, pass_players, pass_seen, players_in}
use Rattle.zk_turn.specs.Players.{GoesOn, is_by, room_of_a_pass}
use Rattle.zk_msgsub.specs.declared.fan_state.FanOp.{FanOp}
use Rattle.zk_msgsub.specs.declared.fan_state.FanOp.TheVariants.{Open}
use Rattle.zk_msgsub.specs.declared.fan_state.FanReply.{FanReply}
use Rattle.zk_msgsub.specs.declared.fan_state.FanReply.TheVariants.{Subs}
use Rattle.zk_msgsub.specs.declared.msg_sub.MsgSub.{MsgSub}
use Rattle.zk_msgsub.specs.declared.note.Note.{Note}
use Rattle.zk_msgsub.specs.declared.publisher.Publisher.{Publisher}
use Rattle.zk_msgsub.specs.declared.seats.PubSeat.{PubSeat}
use Rattle.zk_msgsub.specs.declared.seats.SubSeat.{SubSeat}
use Rattle.zk_msgsub.specs.Fan.{fan_machine, new_fan}
use Rattle.zk_msgsub.specs.FanSeen.{fan_start}
use Rattle.zk_msgsub.specs.Notes.{Message, upto}
use Rattle.zk_msgsub.specs.Publishers.{AreSeatsOf, FanPass, IsPublisherOf, publisher_pass, publisher_room, publisher_seats}
use Rattle.zk_msgsub.specs.Seats.{IsNewSeat, IsTakerOf, seat_publisher, seat_room, seat_sent, sub_capacity, sub_each, sub_publishers, sub_taken}
use Rattle.zk_feed.specs.declared.feeder.Feeder.{Feeder}
use Rattle.zk_feed.specs.declared.shared.Shared.{Shared}
use Rattle.zk_feed.specs.declared.size.FeedSize.{FeedSize}
use Rattle.zk_feed.specs.declared.size.TheConstants.{MOST_MESSAGES, MOST_PUBLISHERS, MOST_SUBSCRIBERS}
use Rattle.zk_feed.specs.Output.{messages}

-- a feed may be so large
pub record IsInRange (size : FeedSize) : Type 0 where
  pub some_publishers : 1 ≤ size.publishers
  pub most_publishers : size.publishers ≤ MOST_PUBLISHERS
  pub some_subscribers : 1 ≤ size.subscribers
  pub most_subscribers : size.subscribers ≤ MOST_SUBSCRIBERS
  pub some_messages : 1 ≤ size.messages
  pub most_messages : size.messages ≤ MOST_MESSAGES

-- the publishers as players: each has its number
abbrev pub player : ℕ → Who
player n = record { number = n; prio = pos 0 }

abbrev pub players_upto : ℕ → List Who
players_upto zero = []
players_upto (suc n) = players_upto n ++ player n ∷ []

-- the items of a list of notes
abbrev pub notes_in : Vec Note Global → List Note
notes_in notes = notes.items

-- Subscribers, before the first message.

-- it has room for all messages
pub record IsSubOf (size : FeedSize) (m : MsgSub) : Type 0 where
  pub capacity : sub_capacity m ≡ size.publishers * size.messages
  pub publishers : sub_publishers m ≡ size.publishers
  pub each : sub_each m ≡ size.messages

-- what takes at it has taken nothing
pub record IsIdle (m : MsgSub) (taker : SubSeat) : Type 0 where
  pub own : IsTakerOf m taker
  pub taken : sub_taken taker ≡ []

-- the seats of its publishers below n, with which nothing was pushed
pub record IsColumn (m : MsgSub) (n : ℕ) (seats : List PubSeat) : Type 0 where
  pub fresh : All (IsNewSeat m) seats
  pub order : map seat_publisher seats ≡ upto n

-- subscribers, and what takes at each
pub record AreSubs (size : FeedSize) (subs : List MsgSub) (takers : List SubSeat) : Type 0 where
  pub all : All (IsSubOf size) subs
  pub many : length takers ≡ length subs
  pub each : (k : ℕ) (m : MsgSub) (t : SubSeat) → slice_get subs k ≡ Some m → slice_get takers k ≡ Some t → IsIdle m t

-- the seats at each, of the publishers below n
pub record AreColumns (n : ℕ) (subs : List MsgSub) (columns : List (Vec PubSeat Global)) : Type 0 where
  pub many : length columns ≡ length subs
  pub each : (k : ℕ) (m : MsgSub) (c : Vec PubSeat Global) → slice_get subs k ≡ Some m → slice_get columns k ≡ Some c →
      IsColumn m n c.items

-- Rows: the seats of one publisher, by subscriber.

-- a seat of this publisher, in which just these messages are listed
pub record HasSeat (p : ℕ) (sent : List Message) (s : PubSeat) : Type 0 where
  pub publisher : seat_publisher s ≡ p
  pub is_sent : seat_sent s ≡ sent

pub record IsRow (subs : List MsgSub) (p : ℕ) (sent : List Message) (seats : List PubSeat) : Type 0 where
  pub own : AreSeatsOf subs seats
  pub each : All (HasSeat p sent) seats

-- with so many pushes left
pub record IsNewRow (subs : List MsgSub) (n p : ℕ) (seats : List PubSeat) : Type 0 where
  pub row : IsRow subs p [] seats
  pub rooms : All (λ s. n ≤ seat_room s) seats

-- those of the publishers from n on, the last one first
pub record AreNewRows (size : FeedSize) (subs : List MsgSub) (n : ℕ) (rows : List (Vec PubSeat Global)) : Type 0 where
  pub many : length rows + n ≡ size.publishers
  pub each : (k p : ℕ) (r : Vec PubSeat Global) → slice_get rows k ≡ Some r → k + p + 1 ≡ size.publishers →
      IsNewRow subs size.messages p r.items

-- Publishers.

-- the fan lists all subscribers at first, and has a player for each publisher
pub record IsOpen (f : Shared) : Type 0 where
  pub range : IsInRange f.size
  pub start : fan_start (given_to f.fan) ≡ new_fan (upto f.size.subscribers)
  pub players : length (players_in f.fan) ≡ f.size.publishers
  pub many : length f.subs.items ≡ f.size.subscribers
  pub subs_are : All (IsSubOf f.size) f.subs.items

-- of the entries that it has seen, those of its players are opens
abbrev pub OpensAlone : FanPass → Type 0
OpensAlone pass = All (λ e. is_by (pass_players pass) e ≡ true → e.op ≡ Open) (pass_seen pass)

-- each entry told of all subscribers
abbrev pub ToldAll : ℕ → List (Entry FanOp FanReply) → Type 0
ToldAll many h = All (λ e. e.reply ≡ Subs (upto many)) h

-- a publisher has sent its messages below n: where each open told of all subscribers, each has them
pub record IsFeeding (f : Shared) (p n : ℕ) (publisher : Publisher) : Type 0 where
  pub own : IsPublisherOf f.fan f.subs.items publisher
  pub room : room_of_a_pass ≤ publisher_room publisher + n
  pub opens : (pass : FanPass) → publisher_pass publisher ≡ Some pass → OpensAlone pass
  pub told : (pass : FanPass) → publisher_pass publisher ≡ Some pass → ToldAll f.size.subscribers (pass_seen pass) →
      All (λ s. seat_sent s ≡ messages n) (publisher_seats publisher)
  pub whose : All (λ s. seat_publisher s ≡ p) (publisher_seats publisher)
  pub rooms : All (λ s. f.size.messages ≤ seat_room s + n) (publisher_seats publisher)

-- publisher p before its first message
pub record IsReady (f : Shared) (p : ℕ) (feeder : Feeder) : Type 0 where
  pub below : p < f.size.publishers
  pub fine : feeder.refused ≡ false
  pub feeding : IsFeeding f p 0 feeder.publisher

-- and after its last, unless it found no memory
abbrev pub IsFed : Shared → ℕ → Feeder → Type 0
IsFed f p feeder = feeder.refused ≡ false → IsFeeding f p f.size.messages feeder.publisher

-- one for each publisher, by number
pub record AreReady (f : Shared) (many : ℕ) (feeders : List Feeder) : Type 0 where
  pub count : length feeders ≡ many
  pub each : (p : ℕ) (feeder : Feeder) → slice_get feeders p ≡ Some feeder → IsReady f p feeder

pub record AreFed (f : Shared) (many : ℕ) (feeders : List Feeder) : Type 0 where
  pub count : length feeders ≡ many
  pub each : (p : ℕ) (feeder : Feeder) → slice_get feeders p ≡ Some feeder → IsFed f p feeder

-- After the last message.

-- the rows of the publishers, by number, in which all messages are listed
pub record AreRows (subs : List MsgSub) (n : ℕ) (rows : List (Vec PubSeat Global)) : Type 0 where
  pub each : (p : ℕ) (r : Vec PubSeat Global) → slice_get rows p ≡ Some r → IsRow subs p (messages n) r.items

-- a pass for so many publishers, and their rows
pub record IsGathered (f : Shared) (many : ℕ) (pass : FanPass) (rows : List (Vec PubSeat Global)) : Type 0 where
  pub own : IsPassOf (IsLegal fan_machine) fan_start f.fan pass
  pub players : length (pass_players pass) ≡ many
  pub opens : OpensAlone pass
  pub count : length rows ≡ many
  pub told : ToldAll f.size.subscribers (pass_seen pass) → AreRows f.subs.items f.size.messages rows

-- two passes in one, which goes on from what each of them had seen with entries of others
pub record JoinsTwo (f : Shared) (all pass new : FanPass) : Type 0 where
  pub own : IsPassOf (IsLegal fan_machine) fan_start f.fan new
  pub players : pass_players new ≡ pass_players all ++ pass_players pass
  pub first : GoesOn (pass_players all) (pass_seen all) (pass_seen new)
  pub second : GoesOn (pass_players pass) (pass_seen pass) (pass_seen new)

abbrev pub IsJoined : Shared → Option FanPass → FanPass → FanPass → Type 0
IsJoined f None pass new = new ≡ pass
IsJoined f (Some all) pass new = JoinsTwo f all pass new

-- what is put together so far: nothing, or so many
abbrev pub IsSoFar : Shared → ℕ → Option FanPass → List (Vec PubSeat Global) → Type 0
IsSoFar f many None rows = many ≡ 0
IsSoFar f many (Some all) rows = IsGathered f many all rows
