-- Inner: no contract of a top call is made of this file.
-- What a contract sees of a subscriber's queue and of its seats.
use Rattle.std.specs.Prelude.{◌≡◌, ℕ, ◌+◌, All, Contains, List, [], ◌∷◌, length, true}
use Rattle.crossbeam_queue.specs.Passes.{Pass, view, IsPassOf, ruled_capacity}
use Rattle.zk_msgsub.specs.declared.msg_sub.MsgSub.{MsgSub}
use Rattle.zk_msgsub.specs.declared.note.Note.{Note}
use Rattle.zk_msgsub.specs.declared.seats.PubSeat.{PubSeat}
use Rattle.zk_msgsub.specs.declared.seats.SubSeat.{SubSeat}
use Rattle.zk_msgsub.specs.declared.views.View.{View}
use Rattle.zk_msgsub.specs.Notes.{Message}
use Rattle.zk_msgsub.specs.Steps.{first_messages}
use Rattle.zk_msgsub.specs.Views.{pushed_by}

-- how many notes it has room for
abbrev pub sub_capacity : MsgSub → ℕ
sub_capacity m = ruled_capacity m.queue

-- how many publishers it has
abbrev pub sub_publishers : MsgSub → ℕ
sub_publishers m = m.publishers

-- how many pushes each publisher has
abbrev pub sub_each : MsgSub → ℕ
sub_each m = m.each

-- whose seat it is
abbrev pub seat_publisher : PubSeat → ℕ
seat_publisher s = s.publisher

-- how many pushes it still has
abbrev pub seat_room : PubSeat → ℕ
seat_room s = s.room

-- the messages whose push was answered Ok
abbrev pub seat_sent : PubSeat → List Message
seat_sent s = first_messages (view s.pass).lists

-- how many of its pushes found the queue full
abbrev pub seat_fulls : PubSeat → ℕ
seat_fulls s = (view s.pass).fulls

-- the notes that it took
abbrev pub sub_taken : SubSeat → List Note
sub_taken s = (view s.pass).taken

-- how many of its takes found the queue empty
abbrev pub sub_empties : SubSeat → ℕ
sub_empties s = (view s.pass).empties

-- a view of a publisher's seat
pub record IsSeatView (publishers each p : ℕ) (v : View) : Type 0 where
  pub one_list : v.lists ≡ pushed_by p (first_messages v.lists) ∷ []
  pub of_publishers : v.publishers ≡ publishers
  pub of_each : v.each ≡ each

-- it is a publisher's seat of this one; each of its calls so far was a push or a refusal
pub record IsSeatOf (m : MsgSub) (s : PubSeat) : Type 0 where
  pub own : IsPassOf m.queue s.pass
  pub stands : IsSeatView m.publishers m.each s.publisher (view s.pass)
  pub number : s.next ≡ length (seat_sent s)
  pub calls : length (seat_sent s) + seat_fulls s + s.room ≡ m.each

-- nobody has pushed with it
pub record IsNewSeat (m : MsgSub) (s : PubSeat) : Type 0 where
  pub own : IsSeatOf m s
  pub sent : seat_sent s ≡ []
  pub fulls : seat_fulls s ≡ 0
  pub room : seat_room s ≡ m.each

-- it is the taker's seat of this one
pub record IsTakerOf (m : MsgSub) (s : SubSeat) : Type 0 where
  pub own : IsPassOf m.queue s.pass
  pub takes : (view s.pass).takes ≡ true
  pub none : (view s.pass).lists ≡ []
  pub of_publishers : (view s.pass).publishers ≡ m.publishers

-- it is the taker's pass, whatever lists it has
pub record IsTakerPass (m : MsgSub) (p : Pass Note View) : Type 0 where
  pub own : IsPassOf m.queue p
  pub takes : (view p).takes ≡ true
  pub of_publishers : (view p).publishers ≡ m.publishers

-- the taker's pass has the lists of all these seats, and has taken these notes
pub record Gathers (m : MsgSub) (seats : List PubSeat) (taken : List Note) (p : Pass Note View) : Type 0 where
  pub is : IsTakerPass m p
  pub lists : All (λ s. Contains (view p).lists (pushed_by (seat_publisher s) (seat_sent s))) seats
  pub taken_is : (view p).taken ≡ taken
