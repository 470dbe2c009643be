use Rattle.std.specs.Prelude.{ℕ, Option, Some, None, List, [], ◌∷◌}
use Rattle.zk_base.specs.declared.waits.Waiter.{Waiter}
use Rattle.zk_base.specs.WaitLaws.{Decides, nobody, first, all, WaitKind}
use Rattle.zk_model_wait.specs.declared.msgq.MsgqOp.{MsgqOp}
use Rattle.zk_model_wait.specs.declared.msgq.MsgqOp.TheVariants as ops
use Rattle.zk_model_wait.specs.declared.msgq.MsgqReply.{MsgqReply}
use Rattle.zk_model_wait.specs.declared.msgq.MsgqReply.TheVariants.{Done, NoMsg, Wait, Again, Bytes, Armed, Noted, Plain}
use Rattle.zk_model_wait.specs.Msgq.{Msgq}

-- a put that is told to wait opens a wait, with its message
abbrev pub put_opens : MsgqOp → MsgqReply → Option (List ℕ)
put_opens (ops.Put message waits) Wait = Some message
put_opens op reply = None

-- the place of the put that is ended
abbrev pub put_ends : MsgqOp → Option ℕ
put_ends (ops.PutEnd place) = Some place
put_ends op = None

-- and of the one that is given up
abbrev pub put_quits : MsgqOp → Option ℕ
put_quits (ops.PutQuit place) = Some place
put_quits op = None

-- a get that takes a message decides the first put that waits, and a purge decides all
abbrev pub get_decides : List (List ℕ) → Decides MsgqReply (List ℕ)
get_decides [] = nobody
get_decides (m ∷ ms) = first Done

abbrev pub put_decides : Msgq → MsgqOp → MsgqReply → Decides MsgqReply (List ℕ)
put_decides q (ops.Get waits) reply = get_decides q.messages
put_decides q ops.Purge reply = all NoMsg
put_decides q op reply = nobody

-- who waits to put a message
abbrev pub putters : WaitKind Msgq MsgqOp MsgqReply (List ℕ)
putters = record {
  waits = λ q. q.puts;
  entries = λ q. q.entries;
  opens = put_opens;
  ends = put_ends;
  quits = put_quits;
  gives_up = Again;
  decides = put_decides;
}

-- a get that is told to wait opens a wait
abbrev pub get_opens : MsgqOp → MsgqReply → Option Unit
get_opens (ops.Get waits) Wait = Some tt
get_opens op reply = None

-- the place of the get that is ended
abbrev pub get_ends : MsgqOp → Option ℕ
get_ends (ops.GetEnd place) = Some place
get_ends op = None

-- and of the one that is given up
abbrev pub get_quits : MsgqOp → Option ℕ
get_quits (ops.GetQuit place) = Some place
get_quits op = None

-- a put decides the first get that waits, and so does a put in front: it gets the message
abbrev pub take_decides : Msgq → MsgqOp → MsgqReply → Decides MsgqReply Unit
take_decides q (ops.Put message waits) Done = first (Bytes message)
take_decides q (ops.PutFront message) Done = first (Bytes message)
take_decides q op reply = nobody

-- who waits to get a message
abbrev pub getters : WaitKind Msgq MsgqOp MsgqReply Unit
getters = record {
  waits = λ q. q.gets;
  entries = λ q. q.entries;
  opens = get_opens;
  ends = get_ends;
  quits = get_quits;
  gives_up = Again;
  decides = take_decides;
}

-- a poll that is told that it is registered opens a wait for its note
abbrev pub poll_opens : MsgqOp → MsgqReply → Option Unit
poll_opens (ops.PollArm waits) Armed = Some tt
poll_opens op reply = None

-- the place of the poll that is ended
abbrev pub poll_ends : MsgqOp → Option ℕ
poll_ends (ops.PollEnd place) = Some place
poll_ends op = None

-- and of the one that is given up
abbrev pub poll_quits : MsgqOp → Option ℕ
poll_quits (ops.PollQuit place) = Some place
poll_quits op = None

-- a put that is done, in front or not, notifies the first who polls, where no get waits
abbrev pub put_notifies : List (Waiter Unit) → MsgqReply → Decides MsgqReply Unit
put_notifies [] Done = first Noted
put_notifies waiting reply = nobody

abbrev pub poll_decides : Msgq → MsgqOp → MsgqReply → Decides MsgqReply Unit
poll_decides q (ops.Put message waits) reply = put_notifies q.gets.waiting reply
poll_decides q (ops.PutFront message) reply = put_notifies q.gets.waiting reply
poll_decides q op reply = nobody

-- who polls a message queue: who is notified is decided
abbrev pub pollers : WaitKind Msgq MsgqOp MsgqReply Unit
pollers = record {
  waits = λ q. q.pollers;
  entries = λ q. q.entries;
  opens = poll_opens;
  ends = poll_ends;
  quits = poll_quits;
  gives_up = Plain;
  decides = poll_decides;
}
