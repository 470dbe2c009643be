-- A message queue has waits: puts, and gets.
use Rattle.std.proofs.Common.{◌≡◌, ℕ, Bool, true, false, ltb, cond, Some, None, List, [], ◌∷◌, length, refl, sym, ap, subst}
use Rattle.std.proofs.lemmas.Option.{same_Some}
use Rattle.zk_base.specs.declared.ids.Who.{Who}
use Rattle.zk_base.specs.declared.waits.Waiter.{Waiter}
use Rattle.zk_base.specs.Waits.{Waits, decides_first}
use Rattle.zk_base.specs.WaitLaws.{nobody, first, after_decision, after_entry, HasWaits, IsFirst, KeepsWaits}
use Rattle.zk_base.proofs.WaitsKept.{keeps_waits}
use Rattle.zk_model_wait.specs.MsgqLaws.{OfEachMsgq}
use Rattle.zk_model_wait.specs.declared.msgq.MsgqOp.{MsgqOp}
use Rattle.zk_model_wait.specs.declared.msgq.MsgqOp.TheVariants as ops
use Rattle.zk_model_wait.specs.declared.msgq.MsgqReply.{MsgqReply}
use Rattle.zk_model_wait.specs.declared.msgq.MsgqReply.TheVariants.{Done, NoMsg, Bytes}
use Rattle.zk_model_wait.specs.Msgq.{Msgq, new_msgq, else_reply, put_reply, get_reply, msgq_reply, msgq_next, msgq_machine, put_at_full, appended, put_to, prepended, put_front_to, moved_in, get_from}
use Rattle.zk_model_wait.specs.MsgqWaits.{put_opens, get_opens, get_decides, take_decides, putters, getters}

-- where nobody waits, the first is nobody
first-none : {M : Type 0} (answer : MsgqReply) (ws : Waits M MsgqReply) → ws.waiting ≡ [] →
    ws ≡ decides_first answer ws.waiting ws.decided
first-none {M} answer ws none =
    let P : List (Waiter M) → Type 0 =
    λ l. ◌≡◌ {A = Waits M MsgqReply} (record { waiting = l; decided = ws.decided }) (decides_first answer l ws.decided) in
    subst P (sym none) refl

-- what a put does to the puts that wait
full-puts : (q : Msgq) (who : Who) (message : List ℕ) (waits : Bool) →
    (put_at_full q who message waits).puts ≡ after_entry q.puts q.entries who nobody
    (put_opens (ops.Put message waits) (else_reply waits)) None None
full-puts q who message true = refl
full-puts q who message false = refl

room-puts : (q : Msgq) (who : Who) (message : List ℕ) (waits room : Bool) →
    (cond room (appended q message) (put_at_full q who message waits)).puts
    ≡ after_entry q.puts q.entries who nobody (put_opens (ops.Put message waits) (cond room Done (else_reply waits))) None None
room-puts q who message waits true = refl
room-puts q who message waits false = full-puts q who message waits

put-puts : (waiting : List (Waiter Unit)) (q : Msgq) (who : Who) (message : List ℕ) (waits : Bool) →
    (put_to waiting q who message waits).puts ≡ after_entry q.puts q.entries who nobody
    (put_opens (ops.Put message waits) (put_reply waiting q waits)) None None
put-puts (w ∷ ws) q who message waits = refl
put-puts [] q who message waits = room-puts q who message waits (ltb (length q.messages) q.most)

front-puts : (waiting : List (Waiter Unit)) (q : Msgq) (message : List ℕ) → (put_front_to waiting q message).puts ≡ q.puts
front-puts (w ∷ ws) q message = refl
front-puts [] q message = by (ltb (length q.messages) q.most) where
  by : (room : Bool) → (cond room (prepended q message) q).puts ≡ q.puts
  by true = refl
  by false = refl

moved-puts : (waiting : List (Waiter (List ℕ))) (q : Msgq) → q.puts.waiting ≡ waiting →
    (moved_in waiting q).puts ≡ after_decision (first Done) q.puts
moved-puts [] q none = first-none Done q.puts none
moved-puts (w ∷ ws) q some = refl

get-puts : (messages : List (List ℕ)) (q : Msgq) (who : Who) (waits : Bool) →
    (get_from messages q who waits).puts ≡ after_decision (get_decides messages) q.puts
get-puts (m ∷ ms) q who waits = moved-puts q.puts.waiting (record q { messages = ms }) refl
get-puts [] q who true = refl
get-puts [] q who false = refl

put-moves : (q : Msgq) (who : Who) (op : MsgqOp) (reply : MsgqReply) → msgq_reply q who op ≡ Some reply →
    (msgq_next q who op).puts ≡ after_entry q.puts q.entries who (putters.decides q op reply) (putters.opens op reply)
    (putters.ends op) (putters.quits op)
put-moves q who (ops.Put message waits) reply is =
    subst (λ (r : MsgqReply). (put_to q.gets.waiting q who message waits).puts ≡ after_entry q.puts q.entries who nobody
    (put_opens (ops.Put message waits) r) None None)
    (same_Some (put_reply q.gets.waiting q waits) reply is) (put-puts q.gets.waiting q who message waits)
put-moves q who (ops.PutFront message) reply is = front-puts q.gets.waiting q message
put-moves q who (ops.PutEnd place) reply is = refl
put-moves q who (ops.PutQuit place) reply is = refl
put-moves q who (ops.Get waits) reply is = get-puts q.messages q who waits
put-moves q who (ops.GetEnd place) reply is = refl
put-moves q who (ops.GetQuit place) reply is = refl
put-moves q who ops.Peek reply is = refl
put-moves q who (ops.PeekAt index) reply is = refl
put-moves q who ops.Purge reply is = refl
put-moves q who ops.Used reply is = refl
put-moves q who ops.Free reply is = refl
put-moves q who (ops.PollArm waits) reply is = refl
put-moves q who (ops.PollEnd place) reply is = refl
put-moves q who (ops.PollQuit place) reply is = refl

-- what a put does to the gets that wait
full-gets : (q : Msgq) (who : Who) (message : List ℕ) (waits : Bool) →
    (put_at_full q who message waits).gets ≡ after_decision (take_decides q (ops.Put message waits) (else_reply waits)) q.gets
full-gets q who message true = refl
full-gets q who message false = refl

room-gets : (q : Msgq) (who : Who) (message : List ℕ) (waits room : Bool) → q.gets.waiting ≡ [] →
    (cond room (appended q message) (put_at_full q who message waits)).gets
    ≡ after_decision (take_decides q (ops.Put message waits) (cond room Done (else_reply waits))) q.gets
room-gets q who message waits true none = first-none (Bytes message) q.gets none
room-gets q who message waits false none = full-gets q who message waits

put-gets : (waiting : List (Waiter Unit)) (q : Msgq) (who : Who) (message : List ℕ) (waits : Bool) → q.gets.waiting ≡ waiting →
    (put_to waiting q who message waits).gets
    ≡ after_decision (take_decides q (ops.Put message waits) (put_reply waiting q waits)) q.gets
put-gets (w ∷ ws) q who message waits some = refl
put-gets [] q who message waits none = room-gets q who message waits (ltb (length q.messages) q.most) none

front-gets : (waiting : List (Waiter Unit)) (q : Msgq) (message : List ℕ) → q.gets.waiting ≡ waiting →
    (put_front_to waiting q message).gets
    ≡ after_decision (take_decides q (ops.PutFront message) (put_reply waiting q false)) q.gets
front-gets (w ∷ ws) q message some = refl
front-gets [] q message none = by (ltb (length q.messages) q.most) where
  by : (room : Bool) →
      (cond room (prepended q message) q).gets
      ≡ after_decision (take_decides q (ops.PutFront message) (cond room Done NoMsg)) q.gets
  by true = first-none (Bytes message) q.gets none
  by false = refl

moved-gets : (waiting : List (Waiter (List ℕ))) (q : Msgq) → (moved_in waiting q).gets ≡ q.gets
moved-gets [] q = refl
moved-gets (w ∷ ws) q = refl

get-gets : (messages : List (List ℕ)) (q : Msgq) (who : Who) (waits : Bool) →
    (get_from messages q who waits).gets ≡ after_entry q.gets q.entries who nobody
    (get_opens (ops.Get waits) (get_reply messages waits)) None None
get-gets (m ∷ ms) q who waits = moved-gets q.puts.waiting (record q { messages = ms })
get-gets [] q who true = refl
get-gets [] q who false = refl

get-moves : (q : Msgq) (who : Who) (op : MsgqOp) (reply : MsgqReply) → msgq_reply q who op ≡ Some reply →
    (msgq_next q who op).gets ≡ after_entry q.gets q.entries who (getters.decides q op reply) (getters.opens op reply)
    (getters.ends op) (getters.quits op)
get-moves q who (ops.Put message waits) reply is =
    subst (λ (r : MsgqReply). (put_to q.gets.waiting q who message waits).gets
    ≡ after_decision (take_decides q (ops.Put message waits) r) q.gets)
    (same_Some (put_reply q.gets.waiting q waits) reply is) (put-gets q.gets.waiting q who message waits refl)
get-moves q who (ops.PutFront message) reply is =
    subst (λ (r : MsgqReply). (put_front_to q.gets.waiting q message).gets
    ≡ after_decision (take_decides q (ops.PutFront message) r) q.gets)
    (same_Some (put_reply q.gets.waiting q false) reply is) (front-gets q.gets.waiting q message refl)
get-moves q who (ops.PutEnd place) reply is = refl
get-moves q who (ops.PutQuit place) reply is = refl
get-moves q who (ops.Get waits) reply is =
    subst (λ (r : MsgqReply). (get_from q.messages q who waits).gets ≡ after_entry q.gets q.entries who nobody
    (get_opens (ops.Get waits) r) None None)
    (same_Some (get_reply q.messages waits) reply is) (get-gets q.messages q who waits)
get-moves q who (ops.GetEnd place) reply is = refl
get-moves q who (ops.GetQuit place) reply is = refl
get-moves q who ops.Peek reply is = refl
get-moves q who (ops.PeekAt index) reply is = refl
get-moves q who ops.Purge reply is = refl
get-moves q who ops.Used reply is = refl
get-moves q who ops.Free reply is = refl
get-moves q who (ops.PollArm waits) reply is = refl
get-moves q who (ops.PollEnd place) reply is = refl
get-moves q who (ops.PollQuit place) reply is = refl

put-ends : (q : Msgq) (who : Who) (op : MsgqOp) (place : ℕ) → putters.ends op ≡ Some place →
    msgq_reply q who op ≡ msgq_reply q who (ops.PutEnd place)
put-ends q who (ops.PutEnd at) place is = ap (λ (p : ℕ). msgq_reply q who (ops.PutEnd p)) (same_Some at place is)
put-ends q who op place is = absurd (cc)

put-quits : (q : Msgq) (who : Who) (op : MsgqOp) (place : ℕ) → putters.quits op ≡ Some place →
    msgq_reply q who op ≡ msgq_reply q who (ops.PutQuit place)
put-quits q who (ops.PutQuit at) place is = ap (λ (p : ℕ). msgq_reply q who (ops.PutQuit p)) (same_Some at place is)
put-quits q who op place is = absurd (cc)

get-ends : (q : Msgq) (who : Who) (op : MsgqOp) (place : ℕ) → getters.ends op ≡ Some place →
    msgq_reply q who op ≡ msgq_reply q who (ops.GetEnd place)
get-ends q who (ops.GetEnd at) place is = ap (λ (p : ℕ). msgq_reply q who (ops.GetEnd p)) (same_Some at place is)
get-ends q who op place is = absurd (cc)

get-quits : (q : Msgq) (who : Who) (op : MsgqOp) (place : ℕ) → getters.quits op ≡ Some place →
    msgq_reply q who op ≡ msgq_reply q who (ops.GetQuit place)
get-quits q who (ops.GetQuit at) place is = ap (λ (p : ℕ). msgq_reply q who (ops.GetQuit p)) (same_Some at place is)
get-quits q who op place is = absurd (cc)

put-opens_alone : (op : MsgqOp) (reply : MsgqReply) (payload : List ℕ) → putters.opens op reply ≡ Some payload →
    (putters.ends op ≡ None) × (putters.quits op ≡ None)
put-opens_alone (ops.Put message waits) reply payload is = (refl, refl)
put-opens_alone op reply payload is = absurd (cc)

put-ends_alone : (op : MsgqOp) (place : ℕ) → putters.ends op ≡ Some place → putters.quits op ≡ None
put-ends_alone (ops.PutEnd at) place is = refl
put-ends_alone op place is = absurd (cc)

get-opens_alone : (op : MsgqOp) (reply : MsgqReply) (payload : Unit) → getters.opens op reply ≡ Some payload →
    (getters.ends op ≡ None) × (getters.quits op ≡ None)
get-opens_alone (ops.Get waits) reply payload is = (refl, refl)
get-opens_alone op reply payload is = absurd (cc)

get-ends_alone : (op : MsgqOp) (place : ℕ) → getters.ends op ≡ Some place → getters.quits op ≡ None
get-ends_alone (ops.GetEnd at) place is = refl
get-ends_alone op place is = absurd (cc)

pub has_putters : HasWaits msgq_machine putters
has_putters = record {
  counts = λ q who op. refl;
  moves = put-moves;
  ends = put-ends;
  quits = put-quits;
  opens_alone = put-opens_alone;
  ends_alone = put-ends_alone;
}

pub has_getters : HasWaits msgq_machine getters
has_getters = record {
  counts = λ q who op. refl;
  moves = get-moves;
  ends = get-ends;
  quits = get-quits;
  opens_alone = get-opens_alone;
  ends_alone = get-ends_alone;
}

pub first_putters : (most : ℕ) → IsFirst putters (new_msgq most)
first_putters most = record { none = refl; new = refl }

pub first_getters : (most : ℕ) → IsFirst getters (new_msgq most)
first_getters most = record { none = refl; new = refl }

pub puts_hold : OfEachMsgq (KeepsWaits msgq_machine putters)
puts_hold most h legal = keeps_waits msgq_machine putters has_putters (new_msgq most) h (first_putters most) legal.0

pub gets_hold : OfEachMsgq (KeepsWaits msgq_machine getters)
gets_hold most h legal = keeps_waits msgq_machine getters has_getters (new_msgq most) h (first_getters most) legal.0
