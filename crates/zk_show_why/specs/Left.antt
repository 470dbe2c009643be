-- What a run leaves behind: submissions in vain, admissions that were dropped, delays, messages.
use Rattle.std.specs.Prelude.{ℕ, ◌+◌, ◌-◌, ◌^◌, ◌==◌, min, nat_lt, Bool, true, false, not, ◌&&◌, is_some, Option, Some, None, List, [], ◌∷◌, ◌++◌, length, slice_get, option_map, option_and_then, if◌then◌else◌}
use Rattle.std.specs.Option.{option_map_or, option_to_list}
use Rattle.zk_base.specs.declared.errors.Errno.{Errno}
use Rattle.zk_base.specs.declared.ids.Entry.{Entry}
use Rattle.zk_line.specs.Objects.{places, is_item, is_msgq, is_thread}
use Rattle.zk_line.specs.declared.types.Decl.{Decl}
use Rattle.zk_model_wait.specs.declared.msgq.MsgqOp.{MsgqOp}
use Rattle.zk_model_wait.specs.declared.msgq.MsgqOp.TheVariants as msgq_ops
use Rattle.zk_model_wait.specs.declared.msgq.MsgqReply.{MsgqReply}
use Rattle.zk_model_wait.specs.declared.msgq.MsgqReply.TheVariants as msgqs
use Rattle.zk_model_work.specs.declared.ops.Submitted.{Submitted}
use Rattle.zk_model_work.specs.declared.ops.Submitted.TheVariants as answers
use Rattle.zk_model_work.specs.declared.ops.WorkOp.{WorkOp}
use Rattle.zk_model_work.specs.declared.ops.WorkReply.{WorkReply}
use Rattle.zk_model_work.specs.declared.ops.WorkReply.TheVariants as replies
use Rattle.zk_trace.specs.declared.trace.Trace.{Trace}
use Rattle.zk_show_why.specs.declared.left.Left.{Left}
use Rattle.zk_show_why.specs.declared.left.What.{What}
use Rattle.zk_show_why.specs.declared.left.What.TheVariants as whats
use Rattle.zk_show_why.specs.declared.stock.Stock.{Stock}
use Rattle.zk_show_why.specs.declared.whereabouts.Armed.{Armed}
use Rattle.zk_show_why.specs.declared.whereabouts.Asked.{Asked}
use Rattle.zk_show_why.specs.declared.whereabouts.Asked.TheVariants as asks
use Rattle.zk_show_why.specs.declared.whereabouts.Made.{Made}
use Rattle.zk_show_why.specs.declared.whereabouts.Whereabouts.{Whereabouts}
use Rattle.zk_show_why.specs.Times.{due_of}
use Rattle.zk_show_why.specs.Whereabouts.{after, asked_of, expiry_of, is_number, made_by, nowhere}

-- why a submission was refused, if it was
abbrev pub refused : Submitted → Option Errno
refused (answers.Refused errno) = Some errno
refused answer = None

-- a submission by a call that was refused
abbrev pub lost_by_submission : WorkReply → Option What
lost_by_submission (replies.Sub answer) = option_map (λ errno. whats.Refused errno) (refused answer)
lost_by_submission reply = None

-- whether a flush that is answered so has submitted an item, which was delayed, in vain: it waits for nothing, or for the run
abbrev pub is_vain : Whereabouts → WorkReply → Bool
is_vain at (replies.WaitFor number) = is_number at.run number && not (is_number at.waiting number)
is_vain at reply = true

abbrev pub lost_by_flush : Whereabouts → WorkReply → Option What
lost_by_flush at reply = if is_some at.armed && is_vain at reply then Some whats.Hurried else None

-- the admission that a cancel drops, if it does
abbrev pub lost_by_cancel : Whereabouts → Option What
lost_by_cancel at = option_map (λ a. whats.Dropped a.number) at.waiting

-- what came to nothing by a call for an item, where that was, if something did
abbrev pub lost_by_call : Whereabouts → Asked → WorkReply → Option What
lost_by_call at asks.Nothing reply = None
lost_by_call at asks.Submission reply = lost_by_submission reply
lost_by_call at (asks.Delay queue) reply = lost_by_submission reply
lost_by_call at (asks.OtherDelay queue) reply = lost_by_submission reply
lost_by_call at asks.Cancelling reply = lost_by_cancel at
lost_by_call at asks.Flushing reply = lost_by_flush at reply

-- the same by an entry: the end of a delay may submit it in vain too
abbrev pub lost_by_reply : ℕ → Whereabouts → WorkOp → WorkReply → Option What
lost_by_reply item at op (replies.Now time expiries) =
    option_map (λ errno. whats.Expired errno) (option_and_then (λ answer. refused answer) (expiry_of item expiries))
lost_by_reply item at op reply = lost_by_call at (asked_of item op) reply

abbrev pub lost_by : ℕ → Whereabouts → Entry WorkOp WorkReply → Option What
lost_by item at e = lost_by_reply item at e.op e.reply

-- whether two came to nothing in the same way
abbrev pub is_alike : What → What → Bool
is_alike (whats.Refused errno) (whats.Refused other) = true
is_alike (whats.Expired errno) (whats.Expired other) = true
is_alike whats.Hurried whats.Hurried = true
is_alike (whats.Dropped number) (whats.Dropped other) = true
is_alike what other = false

-- whether one of these is a player's, and like this
abbrev pub is_among : ℕ → What → List Left → Bool
is_among player what [] = false
is_among player what (left ∷ lefts) =
    if left.made.player == player && is_alike left.what what then true else is_among player what lefts

-- whether it is told already: of a worker, whose runs may be many, the first of those that are alike is told for all
abbrev pub is_told : ℕ → List Left → Left → Bool
is_told threads told left = not (nat_lt left.made.player threads) && is_among left.made.player left.what told

-- with one more, unless it is told already
abbrev pub with_left : ℕ → List Left → Left → List Left
with_left threads told left = if is_told threads told left then told else told ++ left ∷ []

-- with what came to nothing by an entry, if something did
abbrev pub with_lost : ℕ → List Left → ℕ → Option What → Made → List Left
with_lost threads told object what made =
    option_map_or (λ what. with_left threads told (record { what = what; object = object; made = made })) what told

-- the delay of an item, which ends at a moment
abbrev pub delayed : ℕ → Armed → ℕ → Left
delayed object armed moment = record { what = whats.Delayed moment; object = object; made = armed.made }

-- the delay that is left of an item, if there is one
abbrev pub delay_left : Trace → ℕ → ℕ → Whereabouts → Option Left
delay_left t item object at =
    option_and_then (λ armed. option_map (λ moment. delayed object armed moment) (due_of t item)) at.armed

-- what came to nothing of the item of a number and an object by these entries, and the delay that is left of it
abbrev pub item_left_from : ℕ → Trace → ℕ → ℕ → Whereabouts → List Left → List (Entry WorkOp WorkReply) → List Left
item_left_from threads t item object at told [] = told ++ option_to_list (delay_left t item object at)
item_left_from threads t item object at told (e ∷ es) =
    item_left_from threads t item object (after item at e) (with_lost threads told object (lost_by item at e) (made_by e)) es

-- what is left of an item at the end of a run
abbrev pub item_left : ℕ → Trace → ℕ → ℕ → List Left
item_left threads t item object = item_left_from threads t item object nowhere [] t.work

-- the same of the items of these objects, which are numbered from the first one's number on
abbrev pub items_left : ℕ → Trace → ℕ → List ℕ → List Left
items_left threads t item [] = []
items_left threads t item (object ∷ objects) = item_left threads t item object ++ items_left threads t (item + 1) objects

-- a message queue that nobody has used
abbrev pub empty_stock : Stock
empty_stock = record { messages = 0; getters = 0; putters = 0; last = None }

abbrev pub one_more : ℕ → ℕ
one_more n = min (n + 1) (2 ^ 64 - 1)

-- a message goes in: whoever waits for one has it
abbrev pub goes_in : Stock → Stock
goes_in s = if s.getters == 0 then record s { messages = one_more s.messages } else record s { getters = s.getters - 1 }

-- a message goes out: that of whoever waits for room moves in
abbrev pub goes_out : Stock → Stock
goes_out s = if s.putters == 0 then record s { messages = s.messages - 1 } else record s { putters = s.putters - 1 }

-- behind a put, the end of a put's wait, and a put that is given up, of whoever made it
abbrev pub after_put : Stock → Made → MsgqReply → Stock
after_put s made msgqs.Done = goes_in (record s { last = Some made })
after_put s made msgqs.Wait = record s { putters = one_more s.putters }
after_put s made reply = s

abbrev pub after_put_end : Stock → Made → MsgqReply → Stock
after_put_end s made msgqs.Done = record s { last = Some made }
after_put_end s made reply = s

abbrev pub after_put_quit : Stock → Made → MsgqReply → Stock
after_put_quit s made msgqs.Done = record s { last = Some made }
after_put_quit s made msgqs.Again = record s { putters = s.putters - 1 }
after_put_quit s made reply = s

-- behind a get, and one that is given up
abbrev pub after_get : Stock → MsgqReply → Stock
after_get s (msgqs.Bytes message) = goes_out s
after_get s msgqs.Wait = record s { getters = one_more s.getters }
after_get s reply = s

abbrev pub after_get_quit : Stock → MsgqReply → Stock
after_get_quit s msgqs.Again = record s { getters = s.getters - 1 }
after_get_quit s reply = s

-- what a message queue holds behind an operation that is answered so
abbrev pub after_op : Stock → Made → MsgqOp → MsgqReply → Stock
after_op s made (msgq_ops.Put message waits) reply = after_put s made reply
after_op s made (msgq_ops.PutFront message) reply = after_put s made reply
after_op s made (msgq_ops.PutEnd place) reply = after_put_end s made reply
after_op s made (msgq_ops.PutQuit place) reply = after_put_quit s made reply
after_op s made (msgq_ops.Get waits) reply = after_get s reply
after_op s made (msgq_ops.GetQuit place) reply = after_get_quit s reply
after_op s made msgq_ops.Purge reply = record s { messages = 0; putters = 0 }
after_op s made op reply = s

-- what it holds behind these entries
abbrev pub stock_from : Stock → List (Entry MsgqOp MsgqReply) → Stock
stock_from s [] = s
stock_from s (e ∷ es) = stock_from (after_op s (made_by e) e.op e.reply) es

-- the messages that are left in a message queue, by whoever made the last put there
abbrev pub held : ℕ → Stock → Made → Left
held object s made = record { what = whats.Holds s.messages; object = object; made = made }

abbrev pub msgq_left : ℕ → Stock → Option Left
msgq_left object s = if s.messages == 0 then None else option_map (λ made. held object s made) s.last

-- what is left in the message queue of an object
abbrev pub msgq_of : Trace → ℕ → Option Left
msgq_of t object = option_and_then (λ h. msgq_left object (stock_from empty_stock h)) (slice_get t.msgqs object)

-- what is left in the message queues of these objects
abbrev pub msgqs_left : Trace → List ℕ → List Left
msgqs_left t [] = []
msgqs_left t (object ∷ objects) = option_to_list (msgq_of t object) ++ msgqs_left t objects

-- all that a run leaves behind
abbrev pub left_of : List Decl → Trace → List Left
left_of decls t =
    items_left (length (places is_thread decls)) t 0 (places is_item decls) ++ msgqs_left t (places is_msgq decls)
