-- The laws of the entries that a message queue owes, over all states and operations.
use Rattle.std.proofs.Common.{◌≡◌, ℕ, ◌+◌, ◌≤◌, Bool, true, false, cond, nat_lt, is_some, List, [], ◌∷◌, length, refl, arith}
use Rattle.zk_base.specs.declared.ids.Who.{Who}
use Rattle.zk_base.specs.declared.waits.Waiter.{Waiter}
use Rattle.zk_base.specs.Waits.{open_waits}
use Rattle.zk_base.proofs.WaitMoves.{open-joined, open-ended, open-ended-most, open-quitted, open-quitted-most, open-first, open-all}
use Rattle.zk_model_wait.specs.declared.msgq.MsgqOp.{MsgqOp}
use Rattle.zk_model_wait.specs.declared.msgq.MsgqOp.TheVariants as ops
use Rattle.zk_model_wait.specs.declared.msgq.MsgqReply.TheVariants.{Done, NoMsg, Again, Bytes, Noted, Plain}
use Rattle.zk_model_wait.specs.Msgq.{Msgq, open_calls, msgq_reply, msgq_next, msgq_in_range, msgq_closes, put_at_full, appended, put_to, prepended, put_front_to, moved_in, get_from, arm_at}

-- each entry is counted
pub counts : (q : Msgq) (who : Who) (op : MsgqOp) → (msgq_next q who op).entries ≡ q.entries + 1
counts q who op = refl

-- what is in range stays so
pub ranges : (q : Msgq) (who : Who) (op : MsgqOp) → msgq_in_range (msgq_next q who op) ≡ msgq_in_range q
ranges q who op = refl

full-adds : (q : Msgq) (who : Who) (message : List ℕ) (waits : Bool) →
    open_calls (put_at_full q who message waits) ≤ open_calls q + 2
full-adds q who message true =
    let one = open-joined q.puts (record { place = q.entries; who = who; payload = message }) in
    omega arith
full-adds q who message false = omega arith

either-adds : (q : Msgq) (who : Who) (message : List ℕ) (waits room : Bool) →
    open_calls (cond room (appended q message) (put_at_full q who message waits))
    ≤ open_calls q + 2
either-adds q who message waits true = let same = open-first Noted q.pollers in omega arith
either-adds q who message waits false = full-adds q who message waits

put-adds : (waiting : List (Waiter Unit)) (q : Msgq) (who : Who) (message : List ℕ) (waits : Bool) →
    open_calls (put_to waiting q who message waits) ≤ open_calls q + 2
put-adds (w ∷ ws) q who message waits = let same = open-first (Bytes message) q.gets in omega arith
put-adds [] q who message waits = either-adds q who message waits (nat_lt (length q.messages) q.most)

front-adds : (waiting : List (Waiter Unit)) (q : Msgq) (message : List ℕ) → open_calls (put_front_to waiting q message) ≤ open_calls q + 2
front-adds (w ∷ ws) q message = let same = open-first (Bytes message) q.gets in omega arith
front-adds [] q message = by (nat_lt (length q.messages) q.most) where
  by : (room : Bool) → open_calls (cond room (prepended q message) q) ≤ open_calls q + 2
  by true = let same = open-first Noted q.pollers in omega arith
  by false = omega arith

moved-adds : (waiting : List (Waiter (List ℕ))) (q : Msgq) → open_calls (moved_in waiting q) ≤ open_calls q
moved-adds [] q = omega arith
moved-adds (w ∷ ws) q = let same = open-first Done q.puts in omega arith

get-adds : (messages : List (List ℕ)) (q : Msgq) (who : Who) (waits : Bool) →
    open_calls (get_from messages q who waits) ≤ open_calls q + 2
get-adds (m ∷ ms) q who waits = let most = moved-adds q.puts.waiting (record q { messages = ms }) in omega arith
get-adds [] q who true = let one = open-joined q.gets (record { place = q.entries; who = who; payload = tt }) in omega arith
get-adds [] q who false = omega arith

arm-adds : (messages : List (List ℕ)) (q : Msgq) (who : Who) (waits : Bool) →
    open_waits (arm_at messages q who waits) ≤ open_waits q.pollers + 1
arm-adds (m ∷ ms) q who waits = omega arith
arm-adds [] q who true = let one = open-joined q.pollers (record { place = q.entries; who = who; payload = tt }) in omega arith
arm-adds [] q who false = omega arith

-- an operation adds at most two owed entries
pub adds : (q : Msgq) (who : Who) (op : MsgqOp) → open_calls (msgq_next q who op) ≤ open_calls q + 2
adds q who (ops.Put message waits) = put-adds q.gets.waiting q who message waits
adds q who (ops.PutFront message) = front-adds q.gets.waiting q message
adds q who (ops.PutEnd place) = let most = open-ended-most q.puts who.number place in omega arith
adds q who (ops.PutQuit place) = let most = open-quitted-most q.puts who.number place in omega arith
adds q who (ops.Get waits) = get-adds q.messages q who waits
adds q who (ops.GetEnd place) = let most = open-ended-most q.gets who.number place in omega arith
adds q who (ops.GetQuit place) = let most = open-quitted-most q.gets who.number place in omega arith
adds q who ops.Purge = let same = open-all NoMsg q.puts in omega arith
adds q who (ops.PollArm waits) = let most = arm-adds q.messages q who waits in omega arith
adds q who (ops.PollEnd place) = let most = open-ended-most q.pollers who.number place in omega arith
adds q who (ops.PollQuit place) = let most = open-quitted-most q.pollers who.number place in omega arith
adds q who op = omega arith

-- the end of a wait or of a poll gives one
pub gives : (q : Msgq) (who : Who) (op : MsgqOp) → msgq_closes op ≡ true → is_some (msgq_reply q who op) ≡ true →
    1 + open_calls (msgq_next q who op) ≤ open_calls q
gives q who (ops.PutEnd place) closes some = let one = open-ended q.puts who.number place some in omega arith
gives q who (ops.PutQuit place) closes some = let one = open-quitted q.puts who.number place Again some in omega arith
gives q who (ops.GetEnd place) closes some = let one = open-ended q.gets who.number place some in omega arith
gives q who (ops.GetQuit place) closes some = let one = open-quitted q.gets who.number place Again some in omega arith
gives q who (ops.PollEnd place) closes some = let one = open-ended q.pollers who.number place some in omega arith
gives q who (ops.PollQuit place) closes some = let one = open-quitted q.pollers who.number place Plain some in omega arith
gives q who op closes some = absurd (cc)
