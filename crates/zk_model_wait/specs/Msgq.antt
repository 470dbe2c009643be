use Rattle.zk_base.specs.Limits.{most_entries}
use Rattle.std.specs.Prelude.{ℕ, ◌+◌, ◌-◌, ◌≤◌, Bool, true, false, nat_lt, if◌then◌else◌, Option, Some, is_some, List, [], ◌∷◌, ◌++◌, length, slice_get}
use Rattle.std.specs.Option.{option_map_or}
use Rattle.zk_base.specs.declared.ids.Who.{Who}
use Rattle.zk_base.specs.declared.waits.Waiter.{Waiter}
use Rattle.zk_base.specs.Legal.{Machine}
use Rattle.zk_base.specs.Waits.{Waits, no_waits, open_waits, joined, ended, quitted, first_decided, all_decided, decision_of, quit_answer}
use Rattle.zk_model_wait.specs.declared.msgq.MsgqOp.{MsgqOp}
use Rattle.zk_model_wait.specs.declared.msgq.MsgqOp.TheVariants as ops
use Rattle.zk_model_wait.specs.declared.msgq.MsgqReply.{MsgqReply}
use Rattle.zk_model_wait.specs.declared.msgq.MsgqReply.TheVariants.{Done, NoMsg, Wait, Again, Bytes, Number, Ready, NotReady, Armed, Noted, Plain}

-- the state of a message queue: the most messages that it holds, the number of entries so far,
-- its messages, the one that is got next first, who waits to put one and to get one, and who is registered to be notified when
-- there is one: who is notified is decided with that
pub record Msgq : Type 0 where
  pub most : ℕ
  pub entries : ℕ
  pub messages : List (List ℕ)
  pub puts : Waits (List ℕ) MsgqReply
  pub gets : Waits Unit MsgqReply
  pub pollers : Waits Unit MsgqReply

-- what a contract sees of the queue that is kept: its state, and how many waits and polls it takes without memory
pub record MsgqView : Type 0 where
  pub msgq : Msgq
  pub room : ℕ

-- the state before the first entry
abbrev pub new_msgq : ℕ → Msgq
new_msgq most = record {
  most = most;
  entries = 0;
  messages = [];
  puts = no_waits;
  gets = no_waits;
  pollers = no_waits;
}

-- the waits and the polls that haven't ended
abbrev pub open_calls : Msgq → ℕ
open_calls q = open_waits q.puts + open_waits q.gets + open_waits q.pollers

-- a queue that holds no more than it may, and at which no more wait or poll than have called
pub record IsWithin (q : Msgq) : Type 0 where
  pub within : length q.messages ≤ q.most
  pub most : q.most ≤ 256
  pub few : q.entries ≤ most_entries
  pub called : open_calls q ≤ q.entries

-- what a call that finds nothing to do at once is answered, by whether it waits
abbrev pub else_reply : Bool → MsgqReply
else_reply true = Wait
else_reply false = NoMsg

-- what a put is answered: a get that waits takes the message, or there is room for it
abbrev pub put_reply : List (Waiter Unit) → Msgq → Bool → MsgqReply
put_reply (w ∷ ws) q waits = Done
put_reply [] q waits = if nat_lt (length q.messages) q.most then Done else else_reply waits

-- what a get is answered: the first message
abbrev pub get_reply : List (List ℕ) → Bool → MsgqReply
get_reply (m ∷ ms) waits = Bytes m
get_reply [] waits = else_reply waits

-- the message at an index, the first at 0
abbrev pub peek_reply : Msgq → ℕ → MsgqReply
peek_reply q index = option_map_or Bytes (slice_get q.messages index) NoMsg

-- what a poll answers at these messages, by whether it waits
abbrev pub poll_reply : List (List ℕ) → Bool → MsgqReply
poll_reply (m ∷ ms) waits = Ready
poll_reply [] true = Armed
poll_reply [] false = NotReady

-- the reply to each operation, where it is possible
abbrev pub msgq_reply : Msgq → Who → MsgqOp → Option MsgqReply
msgq_reply q who (ops.Put message waits) = Some (put_reply q.gets.waiting q waits)
msgq_reply q who (ops.PutFront message) = Some (put_reply q.gets.waiting q false)
msgq_reply q who (ops.PutEnd place) = decision_of q.puts who.number place
msgq_reply q who (ops.PutQuit place) = quit_answer Again q.puts who.number place
msgq_reply q who (ops.Get waits) = Some (get_reply q.messages waits)
msgq_reply q who (ops.GetEnd place) = decision_of q.gets who.number place
msgq_reply q who (ops.GetQuit place) = quit_answer Again q.gets who.number place
msgq_reply q who ops.Peek = Some (peek_reply q 0)
msgq_reply q who (ops.PeekAt index) = Some (peek_reply q index)
msgq_reply q who ops.Purge = Some Done
msgq_reply q who ops.Used = Some (Number (length q.messages))
msgq_reply q who ops.Free = Some (Number (q.most - length q.messages))
msgq_reply q who (ops.PollArm waits) = Some (poll_reply q.messages waits)
msgq_reply q who (ops.PollEnd place) = decision_of q.pollers who.number place
msgq_reply q who (ops.PollQuit place) = quit_answer Plain q.pollers who.number place

-- the wait of a put begins, with its message
abbrev pub awaits_room : Msgq → Who → List ℕ → Msgq
awaits_room q who message =
    record q { puts = joined q.puts (record { place = q.entries; who = who; payload = message }) }

-- the wait of a get begins
abbrev pub awaits_message : Msgq → Who → Msgq
awaits_message q who = record q { gets = joined q.gets (record { place = q.entries; who = who; payload = tt }) }

-- a put that finds no room waits, if it is to wait
abbrev pub put_at_full : Msgq → Who → List ℕ → Bool → Msgq
put_at_full q who message true = awaits_room q who message
put_at_full q who message false = q

-- a message goes behind the others, and a poller is notified
abbrev pub appended : Msgq → List ℕ → Msgq
appended q message = record q { messages = q.messages ++ message ∷ []; pollers = first_decided Noted q.pollers }

-- a put hands its message to the first get that waits. Where none does it goes behind the others, if there is room
abbrev pub put_to : List (Waiter Unit) → Msgq → Who → List ℕ → Bool → Msgq
put_to (w ∷ ws) q who message waits = record q { gets = first_decided (Bytes message) q.gets }
put_to [] q who message waits =
    if nat_lt (length q.messages) q.most then appended q message
    else put_at_full q who message waits

-- a message goes before the others, and a poller is notified
abbrev pub prepended : Msgq → List ℕ → Msgq
prepended q message = record q { messages = message ∷ q.messages; pollers = first_decided Noted q.pollers }

-- a put in front hands its message to the first get that waits. Where none does it goes before the others, if there is room
abbrev pub put_front_to : List (Waiter Unit) → Msgq → List ℕ → Msgq
put_front_to (w ∷ ws) q message = record q { gets = first_decided (Bytes message) q.gets }
put_front_to [] q message = if nat_lt (length q.messages) q.most then prepended q message else q

-- the message of the first put that waits moves in, and that put is done
abbrev pub moved_in : List (Waiter (List ℕ)) → Msgq → Msgq
moved_in [] q = q
moved_in (w ∷ ws) q = record q { messages = q.messages ++ w.payload ∷ []; puts = first_decided Done q.puts }

-- a get takes the first message, and one that waits moves in. Where there is none it waits, if it is to wait
abbrev pub get_from : List (List ℕ) → Msgq → Who → Bool → Msgq
get_from (m ∷ ms) q who waits = moved_in q.puts.waiting (record q { messages = ms })
get_from [] q who true = awaits_message q who
get_from [] q who false = q

-- a poll where there is no message registers its caller, if it is to wait
abbrev pub arm_at : List (List ℕ) → Msgq → Who → Bool → Waits Unit MsgqReply
arm_at (m ∷ ms) q who waits = q.pollers
arm_at [] q who true = joined q.pollers (record { place = q.entries; who = who; payload = tt })
arm_at [] q who false = q.pollers

-- what each operation changes, where it is possible
abbrev pub msgq_changed : Msgq → Who → MsgqOp → Msgq
msgq_changed q who (ops.Put message waits) = put_to q.gets.waiting q who message waits
msgq_changed q who (ops.PutFront message) = put_front_to q.gets.waiting q message
msgq_changed q who (ops.PutEnd place) = record q { puts = ended q.puts who.number place }
msgq_changed q who (ops.PutQuit place) = record q { puts = quitted q.puts who.number place }
msgq_changed q who (ops.Get waits) = get_from q.messages q who waits
msgq_changed q who (ops.GetEnd place) = record q { gets = ended q.gets who.number place }
msgq_changed q who (ops.GetQuit place) = record q { gets = quitted q.gets who.number place }
msgq_changed q who ops.Purge = record q { messages = []; puts = all_decided NoMsg q.puts }
msgq_changed q who (ops.PollArm waits) = record q { pollers = arm_at q.messages q who waits }
msgq_changed q who (ops.PollEnd place) = record q { pollers = ended q.pollers who.number place }
msgq_changed q who (ops.PollQuit place) = record q { pollers = quitted q.pollers who.number place }
msgq_changed q who op = q

-- the state after an entry, which is counted
abbrev pub msgq_next : Msgq → Who → MsgqOp → Msgq
msgq_next q who op = let after = msgq_changed q who op in record after { entries = q.entries + 1 }

-- the state after an operation with this reply: nothing changes where there is none
abbrev pub msgq_after : Msgq → Who → MsgqOp → Option MsgqReply → Msgq
msgq_after q who op reply = if is_some reply then msgq_next q who op else q

-- the operation changes nothing but the number of entries
abbrev pub only_looks : MsgqOp → Bool
only_looks ops.Peek = true
only_looks (ops.PeekAt index) = true
only_looks ops.Used = true
only_looks ops.Free = true
only_looks _ = false

-- the operation may begin a wait or a poll
abbrev pub may_wait : MsgqOp → Bool
may_wait (ops.Put message waits) = waits
may_wait (ops.Get waits) = waits
may_wait (ops.PollArm waits) = waits
may_wait _ = false

-- the end of a wait or of a poll gives an entry that is owed: one for each that hasn't ended
abbrev pub msgq_closes : MsgqOp → Bool
msgq_closes (ops.PutEnd place) = true
msgq_closes (ops.PutQuit place) = true
msgq_closes (ops.GetEnd place) = true
msgq_closes (ops.GetQuit place) = true
msgq_closes (ops.PollEnd place) = true
msgq_closes (ops.PollQuit place) = true
msgq_closes _ = false

-- an operation names nothing that could be missing
abbrev pub msgq_in_range : Msgq → MsgqOp → Bool
msgq_in_range q op = true

-- the machine of a message queue
abbrev pub msgq_machine : Machine Msgq MsgqOp MsgqReply
msgq_machine = record { reply_of = msgq_reply; next = msgq_next; in_range = msgq_in_range }
