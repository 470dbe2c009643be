use Rattle.std.specs.Prelude.{◌≡◌, ℕ, ◌-◌, ◌<◌, ◌≤◌, Bool, true, false, ◌==◌, ◌&&◌, ◌||◌, ◌⊎◌, if◌then◌else◌, Option, Some, None, List, [], ◌∷◌, ◌++◌, length, count_by, slice_get}
use Rattle.std.specs.List.{list_any}
use Rattle.std.specs.Str.{bytes_eq}
use Rattle.zk_base.specs.declared.ids.Who.{Who}
use Rattle.zk_base.specs.declared.ids.Entry.{Entry}
use Rattle.zk_base.specs.declared.waits.Waiter.{Waiter}
use Rattle.zk_base.specs.declared.waits.Decision.{Decision}
use Rattle.zk_base.specs.History.{IsEntry}
use Rattle.zk_base.specs.Legal.{state_after, IsLegal}
use Rattle.zk_base.specs.Waits.{Waits}
use Rattle.zk_base.specs.WaitLaws.{handed_by, IsDecidedBy, KeepsWaits}
use Rattle.zk_model_wait.specs.declared.msgq.MsgqOp.{MsgqOp}
use Rattle.zk_model_wait.specs.declared.msgq.MsgqOp.TheVariants as ops
use Rattle.zk_model_wait.specs.declared.msgq.MsgqReply.{MsgqReply}
use Rattle.zk_model_wait.specs.declared.msgq.MsgqReply.TheVariants.{Done, NoMsg, Wait, Bytes, Number, Ready, NotReady, Armed, Noted}
use Rattle.zk_model_wait.specs.Msgq.{Msgq, new_msgq, msgq_reply, msgq_next, msgq_machine}
use Rattle.zk_model_wait.specs.MsgqWaits.{putters, getters, pollers}
use Rattle.zk_model_wait.specs.Polls.{NotesOne}

-- a history of a message queue
abbrev pub MsgqHistory : Type 0
MsgqHistory = List (Entry MsgqOp MsgqReply)

-- the queue after a history, from a first state on
abbrev pub msgq_after_all : Msgq → MsgqHistory → Msgq
msgq_after_all q h = state_after msgq_machine q h

-- it holds of each legal history of each message queue, however many messages it holds
abbrev pub OfEachMsgq : (Msgq → MsgqHistory → Type 0) → Type 0
OfEachMsgq P = (most : ℕ) (h : MsgqHistory) → IsLegal msgq_machine (new_msgq most) h → P (new_msgq most) h

-- the message of a reply, if it has one
abbrev pub message_of : MsgqReply → List (List ℕ)
message_of (Bytes message) = message ∷ []
message_of reply = []

-- the reply says that it is done
abbrev pub is_done : MsgqReply → Bool
is_done Done = true
is_done reply = false

-- the put of this place is decided to be done
abbrev pub is_done_at : ℕ → Waits (List ℕ) MsgqReply → Bool
is_done_at place ws = list_any (λ d. d.place == place && is_done d.answer) ws.decided

-- the messages that move in: of these waiting puts, those that are done after
abbrev pub moved_by : Waits (List ℕ) MsgqReply → List (Waiter (List ℕ)) → List (List ℕ)
moved_by after [] = []
moved_by after (w ∷ ws) = (if is_done_at w.place after then w.payload ∷ [] else []) ++ moved_by after ws

-- the messages that an entry accepts: that of a put that is done, in front or not, and those of the waiting puts that a get
-- lets be done
abbrev pub accepted : Msgq → Msgq → MsgqOp → MsgqReply → List (List ℕ)
accepted before after (ops.Put message waits) Done = message ∷ []
accepted before after (ops.PutFront message) Done = message ∷ []
accepted before after (ops.Get waits) reply = moved_by after.puts before.puts.waiting
accepted before after op reply = []

-- the messages that leave by an entry: the one that is got, those that gets are handed by a put, and all that are discarded
abbrev pub leaving : Msgq → Msgq → MsgqOp → MsgqReply → List (List ℕ)
leaving before after (ops.Get waits) reply = message_of reply
leaving before after (ops.Put message waits) reply = handed_by message_of before.gets after.gets.decided
leaving before after (ops.PutFront message) reply = handed_by message_of before.gets after.gets.decided
leaving before after ops.Purge reply = before.messages
leaving before after op reply = []

-- all that is accepted along a history, in order
abbrev pub all_accepted : Msgq → MsgqHistory → List (List ℕ)
all_accepted q [] = []
all_accepted q (e ∷ es) =
    accepted q (msgq_next q e.who e.op) e.op e.reply ++ all_accepted (msgq_next q e.who e.op) es

-- all that leaves along a history, in order
abbrev pub all_leaving : Msgq → MsgqHistory → List (List ℕ)
all_leaving q [] = []
all_leaving q (e ∷ es) =
    leaving q (msgq_next q e.who e.op) e.op e.reply ++ all_leaving (msgq_next q e.who e.op) es

-- the entry puts a message in front of those that are there: it is a put in front that is done where no get waits
abbrev pub goes_in_front : Msgq → MsgqOp → MsgqReply → Bool
goes_in_front before (ops.PutFront message) reply = is_done reply && length before.gets.waiting == 0
goes_in_front before op reply = false

-- some entry of a history does
abbrev pub some_in_front : Msgq → MsgqHistory → Bool
some_in_front q [] = false
some_in_front q (e ∷ es) = goes_in_front q e.op e.reply || some_in_front (msgq_next q e.who e.op) es

-- the message that an operation puts, in front or not
abbrev pub message_put : MsgqOp → Option (List ℕ)
message_put (ops.Put message waits) = Some message
message_put (ops.PutFront message) = Some message
message_put op = None

-- how often a message stands in a list
abbrev pub times : List ℕ → List (List ℕ) → ℕ
times message messages = count_by (bytes_eq message) messages

-- what a put is told: it is done where a get waits or there is room
pub record PutIsTold (most : ℕ) (q : Msgq) (waits : Bool) (reply : MsgqReply) : Type 0 where
  pub handed : (q.gets.waiting ≡ [] → ⊥) → reply ≡ Done
  pub room : length q.messages < most → reply ≡ Done
  pub wait : q.gets.waiting ≡ [] → most ≤ length q.messages → waits ≡ true → reply ≡ Wait
  pub full : q.gets.waiting ≡ [] → most ≤ length q.messages → waits ≡ false → reply ≡ NoMsg

-- what a get is told: the first message
pub record GetIsTold (q : Msgq) (waits : Bool) (reply : MsgqReply) : Type 0 where
  pub got : (m : List ℕ) (ms : List (List ℕ)) → q.messages ≡ m ∷ ms → reply ≡ Bytes m
  pub wait : q.messages ≡ [] → waits ≡ true → reply ≡ Wait
  pub empty : q.messages ≡ [] → waits ≡ false → reply ≡ NoMsg

-- what a look at the message at an index is told
pub record PeekIsTold (q : Msgq) (index : ℕ) (reply : MsgqReply) : Type 0 where
  pub there : (m : List ℕ) → slice_get q.messages index ≡ Some m → reply ≡ Bytes m
  pub past : length q.messages ≤ index → reply ≡ NoMsg

-- what a poll is told at these messages
pub record PollIsTold (messages : List (List ℕ)) (waits : Bool) (reply : MsgqReply) : Type 0 where
  pub ready : 0 < length messages → reply ≡ Ready
  pub armed : messages ≡ [] → waits ≡ true → reply ≡ Armed
  pub not_ready : messages ≡ [] → waits ≡ false → reply ≡ NotReady

-- the entry is a chance for who polls: a put, in front or not, that is done where no get waits
pub record IsChance (q : Msgq) (e : Entry MsgqOp MsgqReply) : Type 0 where
  pub put : (message : List ℕ) × (message_put e.op ≡ Some message)
  pub done : e.reply ≡ Done
  pub nobody : q.gets.waiting ≡ []

-- the operation begins a poll, ends one, or gives one up
abbrev pub polls : MsgqOp → Bool
polls (ops.PollArm waits) = true
polls (ops.PollEnd place) = true
polls (ops.PollQuit place) = true
polls _ = false

-- Each of what follows is said of one history, from its first state on.

-- first in, first out, as long as none goes in front: what is there and then is accepted is what leaves and then is there,
-- in the same order
abbrev pub FirstInFirstOut : Msgq → MsgqHistory → Type 0
FirstInFirstOut q h = (front part : MsgqHistory) → h ≡ front ++ part → some_in_front (msgq_after_all q front) part ≡ false →
    (msgq_after_all q front).messages ++ all_accepted (msgq_after_all q front) part
    ≡ all_leaving (msgq_after_all q front) part ++ (msgq_after_all q h).messages

-- a message that goes in front is the first one then, and the others stay behind it as they were
abbrev pub PutFrontGoesFirst : Msgq → MsgqHistory → Type 0
PutFrontGoesFirst q h = (front : MsgqHistory) (e : Entry MsgqOp MsgqReply) (message : List ℕ) → IsEntry h front e →
    e.op ≡ ops.PutFront message → goes_in_front (msgq_after_all q front) e.op e.reply ≡ true →
    (msgq_after_all q (front ++ e ∷ [])).messages ≡ message ∷ (msgq_after_all q front).messages

-- nothing is lost and nothing comes from nowhere, wherever it goes in: each message is as often among those that are there
-- and are then accepted as among those that leave and are there then
abbrev pub NothingIsLost : Msgq → MsgqHistory → Type 0
NothingIsLost q h = (front part : MsgqHistory) (message : List ℕ) → h ≡ front ++ part →
    times message ((msgq_after_all q front).messages ++ all_accepted (msgq_after_all q front) part)
    ≡ times message (all_leaving (msgq_after_all q front) part ++ (msgq_after_all q h).messages)

-- there are never more messages than the queue holds
abbrev pub RingWithinMax : Msgq → MsgqHistory → Type 0
RingWithinMax q h = length (msgq_after_all q h).messages ≤ q.most

-- no get waits while there is a message
abbrev pub NoneWaitsToGetWhileMessages : Msgq → MsgqHistory → Type 0
NoneWaitsToGetWhileMessages q h =
    0 < length (msgq_after_all q h).messages → (msgq_after_all q h).gets.waiting ≡ []

-- no put waits while there is room
abbrev pub NoneWaitsToPutWhileRoom : Msgq → MsgqHistory → Type 0
NoneWaitsToPutWhileRoom q h =
    length (msgq_after_all q h).messages < q.most → (msgq_after_all q h).puts.waiting ≡ []

-- a put is done where a get waits or there is room. Else it waits, or is told so
abbrev pub PutWaitsOnlyAtFull : Msgq → MsgqHistory → Type 0
PutWaitsOnlyAtFull q h = (front : MsgqHistory) (e : Entry MsgqOp MsgqReply) (message : List ℕ) (waits : Bool) →
    IsEntry h front e → e.op ≡ ops.Put message waits → PutIsTold q.most (msgq_after_all q front) waits e.reply

-- a put in front is told what a put is that doesn't wait
abbrev pub PutFrontIsTold : Msgq → MsgqHistory → Type 0
PutFrontIsTold q h = (front : MsgqHistory) (e : Entry MsgqOp MsgqReply) (message : List ℕ) →
    IsEntry h front e → e.op ≡ ops.PutFront message → PutIsTold q.most (msgq_after_all q front) false e.reply

-- a get is answered the first message. Where there is none it waits, or is told so
abbrev pub GetWaitsOnlyAtEmpty : Msgq → MsgqHistory → Type 0
GetWaitsOnlyAtEmpty q h = (front : MsgqHistory) (e : Entry MsgqOp MsgqReply) (waits : Bool) → IsEntry h front e →
    e.op ≡ ops.Get waits → GetIsTold (msgq_after_all q front) waits e.reply

-- an entry that decides the wait of a put is a get of a message, and the put is done, or a purge, and it isn't
abbrev pub PutDecidedByGetOrPurge : Msgq → MsgqHistory → Type 0
PutDecidedByGetOrPurge q h = (front : MsgqHistory) (e : Entry MsgqOp MsgqReply) (d : Decision MsgqReply) → IsEntry h front e →
    IsDecidedBy msgq_machine putters q front e d →
    ((waits : Bool) × (e.op ≡ ops.Get waits) × (d.answer ≡ Done)) ⊎ ((e.op ≡ ops.Purge) × (d.answer ≡ NoMsg))

-- an entry that decides the wait of a get is a put that is done, in front or not, and the get is answered its message
abbrev pub GetDecidedByItsPut : Msgq → MsgqHistory → Type 0
GetDecidedByItsPut q h = (front : MsgqHistory) (e : Entry MsgqOp MsgqReply) (d : Decision MsgqReply) → IsEntry h front e →
    IsDecidedBy msgq_machine getters q front e d →
    (message : List ℕ) × (message_put e.op ≡ Some message) × (e.reply ≡ Done) × (d.answer ≡ Bytes message)

-- what is told of the messages is so
pub record LooksTellTheRing (q : Msgq) (h : MsgqHistory) : Type 0 where
  pub peek : (front : MsgqHistory) (e : Entry MsgqOp MsgqReply) → IsEntry h front e → e.op ≡ ops.Peek →
      PeekIsTold (msgq_after_all q front) 0 e.reply
  pub peek_at : (front : MsgqHistory) (e : Entry MsgqOp MsgqReply) (index : ℕ) → IsEntry h front e →
      e.op ≡ ops.PeekAt index → PeekIsTold (msgq_after_all q front) index e.reply
  pub used : (front : MsgqHistory) (e : Entry MsgqOp MsgqReply) → IsEntry h front e → e.op ≡ ops.Used →
      e.reply ≡ Number (length (msgq_after_all q front).messages)
  pub free : (front : MsgqHistory) (e : Entry MsgqOp MsgqReply) → IsEntry h front e → e.op ≡ ops.Free →
      e.reply ≡ Number (q.most - length (msgq_after_all q front).messages)

-- the operation ends a wait or a poll, or gives one up
abbrev pub ends_wait : MsgqOp → Bool
ends_wait (ops.PutEnd place) = true
ends_wait (ops.PutQuit place) = true
ends_wait (ops.GetEnd place) = true
ends_wait (ops.GetQuit place) = true
ends_wait (ops.PollEnd place) = true
ends_wait (ops.PollQuit place) = true
ends_wait _ = false

-- all but the end of a wait or a poll is possible at any time
abbrev pub MayAlways : Msgq → MsgqHistory → Type 0
MayAlways q h = (who : Who) (op : MsgqOp) → ends_wait op ≡ false →
    (reply : MsgqReply) × (msgq_reply (msgq_after_all q h) who op ≡ Some reply)

-- a purge is told that it is done
abbrev pub PurgeIsDone : Msgq → MsgqHistory → Type 0
PurgeIsDone q h = (front : MsgqHistory) (e : Entry MsgqOp MsgqReply) → IsEntry h front e → e.op ≡ ops.Purge →
    e.reply ≡ Done

-- after a purge there is no message and no put waits
abbrev pub PurgeEndsEveryPut : Msgq → MsgqHistory → Type 0
PurgeEndsEveryPut q h = (front : MsgqHistory) (e : Entry MsgqOp MsgqReply) → IsEntry h front e → e.op ≡ ops.Purge →
    ((msgq_after_all q (front ++ e ∷ [])).messages ≡ []) × ((msgq_after_all q (front ++ e ∷ [])).puts.waiting ≡ [])

-- a poll is told whether there is a message. Where there is none it is registered, or told that it isn't
abbrev pub PollArmAnswers : Msgq → MsgqHistory → Type 0
PollArmAnswers q h = (front : MsgqHistory) (e : Entry MsgqOp MsgqReply) (waits : Bool) → IsEntry h front e →
    e.op ≡ ops.PollArm waits → PollIsTold (msgq_after_all q front).messages waits e.reply

-- an entry that decides a poll is a chance, and notifies it
abbrev pub NotedAtAChance : Msgq → MsgqHistory → Type 0
NotedAtAChance q h = (front : MsgqHistory) (e : Entry MsgqOp MsgqReply) (d : Decision MsgqReply) → IsEntry h front e →
    IsDecidedBy msgq_machine pollers q front e d → IsChance (msgq_after_all q front) e × (d.answer ≡ Noted)

-- each chance notifies one poll, if there is one that isn't notified yet
abbrev pub EachChanceNotesOne : Msgq → MsgqHistory → Type 0
EachChanceNotesOne q h = (front : MsgqHistory) (e : Entry MsgqOp MsgqReply) → IsEntry h front e →
    IsChance (msgq_after_all q front) e →
    NotesOne (msgq_after_all q front).pollers (msgq_after_all q (front ++ e ∷ [])).pollers

-- polling leaves the messages as they are
abbrev pub PollingTakesNothing : Msgq → MsgqHistory → Type 0
PollingTakesNothing q h = (front : MsgqHistory) (e : Entry MsgqOp MsgqReply) → IsEntry h front e → polls e.op ≡ true →
    (msgq_after_all q (front ++ e ∷ [])).messages ≡ (msgq_after_all q front).messages

-- the laws of a message queue
pub record KeepsMsgqLaws (q : Msgq) (h : MsgqHistory) : Type 0 where
  pub in_order : FirstInFirstOut q h
  pub in_front : PutFrontGoesFirst q h
  pub lost : NothingIsLost q h
  pub within : RingWithinMax q h
  pub gets : NoneWaitsToGetWhileMessages q h
  pub puts : NoneWaitsToPutWhileRoom q h
  pub put : PutWaitsOnlyAtFull q h
  pub put_front : PutFrontIsTold q h
  pub get : GetWaitsOnlyAtEmpty q h
  pub looks : LooksTellTheRing q h
  pub purge : PurgeEndsEveryPut q h
  pub put_decided : PutDecidedByGetOrPurge q h
  pub get_decided : GetDecidedByItsPut q h
  pub always : MayAlways q h
  pub done : PurgeIsDone q h
  pub put_waits : KeepsWaits msgq_machine putters q h
  pub get_waits : KeepsWaits msgq_machine getters q h
  pub armed : PollArmAnswers q h
  pub noted : NotedAtAChance q h
  pub chances : EachChanceNotesOne q h
  pub nothing : PollingTakesNothing q h
  pub polls : KeepsWaits msgq_machine pollers q h
