-- Polls at a message queue.
use Rattle.std.proofs.Common.{◌≡◌, ℕ, Bool, true, false, ltb, cond, Some, None, List, [], ◌∷◌, length, refl, sym, ap, subst, ◌∙◌, arith}
use Rattle.std.proofs.lemmas.Option.{same_Some}
use Rattle.zk_base.specs.declared.ids.Who.{Who}
use Rattle.zk_base.specs.declared.ids.Entry.{Entry}
use Rattle.zk_base.specs.declared.waits.Waiter.{Waiter}
use Rattle.zk_base.specs.Waits.{Waits}
use Rattle.zk_base.specs.WaitLaws.{nobody, after_decision, after_entry, HasWaits, IsFirst, KeepsWaits}
use Rattle.zk_base.proofs.Histories.{state_after-snoc}
use Rattle.zk_base.proofs.WaitDecisions.{said, decides-said}
use Rattle.zk_base.proofs.WaitsKept.{keeps_waits}
use Rattle.zk_model_wait.specs.declared.msgq.MsgqOp.{MsgqOp}
use Rattle.zk_model_wait.specs.declared.msgq.MsgqOp.TheVariants as ops
use Rattle.zk_model_wait.specs.declared.msgq.MsgqReply.{MsgqReply}
use Rattle.zk_model_wait.specs.declared.msgq.MsgqReply.TheVariants.{Done, NoMsg, Noted}
use Rattle.zk_model_wait.specs.Msgq.{Msgq, new_msgq, else_reply, put_reply, poll_reply, msgq_reply, msgq_next, msgq_machine, put_at_full, appended, put_to, prepended, put_front_to, moved_in, get_from, arm_at}
use Rattle.zk_model_wait.specs.MsgqWaits.{poll_opens, put_notifies, poll_decides, pollers}
use Rattle.zk_model_wait.specs.MsgqLaws.{MsgqHistory, OfEachMsgq, msgq_after_all, message_put, PollIsTold, IsChance, polls, PollArmAnswers, NotedAtAChance, EachChanceNotesOne, PollingTakesNothing}
use Rattle.zk_model_wait.specs.Polls.{NotesOne}
use Rattle.zk_model_wait.proofs.MsgqOrder.{replied}
use Rattle.zk_model_wait.proofs.Polls.{one-noted}

-- what a put does to who polls
full-polls : (q : Msgq) (who : Who) (message : List ℕ) (waits : Bool) →
    (put_at_full q who message waits).pollers ≡ after_decision (put_notifies [] (else_reply waits)) q.pollers
full-polls q who message true = refl
full-polls q who message false = refl

room-polls : (q : Msgq) (who : Who) (message : List ℕ) (waits room : Bool) →
    (cond room (appended q message) (put_at_full q who message waits)).pollers
    ≡ after_decision (put_notifies [] (cond room Done (else_reply waits))) q.pollers
room-polls q who message waits true = refl
room-polls q who message waits false = full-polls q who message waits

put-polls : (waiting : List (Waiter Unit)) (q : Msgq) (who : Who) (message : List ℕ) (waits : Bool) →
    (put_to waiting q who message waits).pollers ≡ after_decision (put_notifies waiting (put_reply waiting q waits)) q.pollers
put-polls (w ∷ ws) q who message waits = refl
put-polls [] q who message waits = room-polls q who message waits (ltb (length q.messages) q.most)

front-polls : (waiting : List (Waiter Unit)) (q : Msgq) (message : List ℕ) →
    (put_front_to waiting q message).pollers ≡ after_decision (put_notifies waiting (put_reply waiting q false)) q.pollers
front-polls (w ∷ ws) q message = refl
front-polls [] q message = by (ltb (length q.messages) q.most) where
  by : (room : Bool) →
      (cond room (prepended q message) q).pollers ≡ after_decision (put_notifies [] (cond room Done NoMsg)) q.pollers
  by true = refl
  by false = refl

moved-polls : (waiting : List (Waiter (List ℕ))) (q : Msgq) → (moved_in waiting q).pollers ≡ q.pollers
moved-polls [] q = refl
moved-polls (w ∷ ws) q = refl

get-polls : (messages : List (List ℕ)) (q : Msgq) (who : Who) (waits : Bool) → (get_from messages q who waits).pollers ≡ q.pollers
get-polls (m ∷ ms) q who waits = moved-polls q.puts.waiting (record q { messages = ms })
get-polls [] q who true = refl
get-polls [] q who false = refl

arm-moves : (messages : List (List ℕ)) (q : Msgq) (who : Who) (waits : Bool) (reply : MsgqReply) →
    poll_reply messages waits ≡ reply →
    arm_at messages q who waits ≡ after_entry q.pollers q.entries who nobody (poll_opens (ops.PollArm waits) reply) None None
arm-moves messages q who waits reply told =
    subst (λ (r : MsgqReply). arm_at messages q who waits ≡ after_entry q.pollers q.entries who nobody
    (poll_opens (ops.PollArm waits) r) None None) told (by messages waits) where
      by : (messages : List (List ℕ)) (waits : Bool) →
          arm_at messages q who waits ≡ after_entry q.pollers q.entries who nobody
          (poll_opens (ops.PollArm waits) (poll_reply messages waits)) None None
      by (m ∷ ms) waits = refl
      by [] true = refl
      by [] false = refl

poll-moves : (q : Msgq) (who : Who) (op : MsgqOp) (reply : MsgqReply) → msgq_reply q who op ≡ Some reply →
    (msgq_next q who op).pollers ≡ after_entry q.pollers q.entries who (pollers.decides q op reply)
    (pollers.opens op reply) (pollers.ends op) (pollers.quits op)
poll-moves q who (ops.Put message waits) reply is =
    subst (λ (r : MsgqReply). (put_to q.gets.waiting q who message waits).pollers
    ≡ after_decision (put_notifies q.gets.waiting r) q.pollers)
    (same_Some (put_reply q.gets.waiting q waits) reply is) (put-polls q.gets.waiting q who message waits)
poll-moves q who (ops.PutFront message) reply is =
    subst (λ (r : MsgqReply). (put_front_to q.gets.waiting q message).pollers
    ≡ after_decision (put_notifies q.gets.waiting r) q.pollers)
    (same_Some (put_reply q.gets.waiting q false) reply is) (front-polls q.gets.waiting q message)
poll-moves q who (ops.PutEnd place) reply is = refl
poll-moves q who (ops.PutQuit place) reply is = refl
poll-moves q who (ops.Get waits) reply is = get-polls q.messages q who waits
poll-moves q who (ops.GetEnd place) reply is = refl
poll-moves q who (ops.GetQuit place) reply is = refl
poll-moves q who ops.Peek reply is = refl
poll-moves q who (ops.PeekAt index) reply is = refl
poll-moves q who ops.Purge reply is = refl
poll-moves q who ops.Used reply is = refl
poll-moves q who ops.Free reply is = refl
poll-moves q who (ops.PollArm waits) reply is =
    arm-moves q.messages q who waits reply (same_Some (poll_reply q.messages waits) reply is)
poll-moves q who (ops.PollEnd place) reply is = refl
poll-moves q who (ops.PollQuit place) reply is = refl

poll-ends : (q : Msgq) (who : Who) (op : MsgqOp) (place : ℕ) → pollers.ends op ≡ Some place →
    msgq_reply q who op ≡ msgq_reply q who (ops.PollEnd place)
poll-ends q who (ops.PollEnd at) place is = ap (λ (p : ℕ). msgq_reply q who (ops.PollEnd p)) (same_Some at place is)
poll-ends q who op place is = absurd (cc)

poll-quits : (q : Msgq) (who : Who) (op : MsgqOp) (place : ℕ) → pollers.quits op ≡ Some place →
    msgq_reply q who op ≡ msgq_reply q who (ops.PollQuit place)
poll-quits q who (ops.PollQuit at) place is = ap (λ (p : ℕ). msgq_reply q who (ops.PollQuit p)) (same_Some at place is)
poll-quits q who op place is = absurd (cc)

poll-opens_alone : (op : MsgqOp) (reply : MsgqReply) (payload : Unit) → pollers.opens op reply ≡ Some payload →
    (pollers.ends op ≡ None) × (pollers.quits op ≡ None)
poll-opens_alone (ops.PollArm waits) reply payload is = (refl, refl)
poll-opens_alone op reply payload is = absurd (cc)

poll-ends_alone : (op : MsgqOp) (place : ℕ) → pollers.ends op ≡ Some place → pollers.quits op ≡ None
poll-ends_alone (ops.PollEnd at) place is = refl
poll-ends_alone op place is = absurd (cc)

-- polls are waits: those for a note
pub has_pollers : HasWaits msgq_machine pollers
has_pollers = record {
  counts = λ q who op. refl;
  moves = poll-moves;
  ends = poll-ends;
  quits = poll-quits;
  opens_alone = poll-opens_alone;
  ends_alone = poll-ends_alone;
}

first_pollers : (most : ℕ) → IsFirst pollers (new_msgq most)
first_pollers most = record { none = refl; new = refl }

pub pollers_hold : OfEachMsgq (KeepsWaits msgq_machine pollers)
pollers_hold most h legal = keeps_waits msgq_machine pollers has_pollers (new_msgq most) h (first_pollers most) legal.0

poll-told : (messages : List (List ℕ)) (waits : Bool) → PollIsTold messages waits (poll_reply messages waits)
poll-told (m ∷ ms) waits = record { ready = λ some. refl; armed = λ none is. absurd (cc); not_ready = λ none is. absurd (cc) }
poll-told [] true = record { ready = λ some. absurd (omega arith); armed = λ none is. refl; not_ready = λ none is. absurd (cc) }
poll-told [] false = record { ready = λ some. absurd (omega arith); armed = λ none is. absurd (cc); not_ready = λ none is. refl }

pub poll_arm_answers : OfEachMsgq PollArmAnswers
poll_arm_answers most h legal front e waits at op =
    let q = msgq_after_all (new_msgq most) front in
    subst (PollIsTold q.messages waits)
    (same_Some (poll_reply q.messages waits) e.reply
    (replied (new_msgq most) h front e (ops.PollArm waits) legal.0 at op)) (poll-told q.messages waits)

notified-so : (waiting : List (Waiter Unit)) (reply answer : MsgqReply) (for : Unit {0}) →
    said (put_notifies waiting reply) for ≡ Some answer → (waiting ≡ []) × (reply ≡ Done) × (answer ≡ Noted)
notified-so [] Done answer for is = (refl, refl, sym (same_Some Noted answer is))
notified-so waiting reply answer for is = absurd (cc)

noted-so : (q : Msgq) (e : Entry MsgqOp MsgqReply) (own : MsgqOp) (answer : MsgqReply) (for : Unit {0}) → e.op ≡ own →
    said (poll_decides q own e.reply) for ≡ Some answer → IsChance q e × (answer ≡ Noted)
noted-so q e (ops.Put message waits) answer for same is =
    let so = notified-so q.gets.waiting e.reply answer for is in
    (record { put = (message, ap message_put same); done = so.1; nobody = so.0 }, so.2)
noted-so q e (ops.PutFront message) answer for same is =
    let so = notified-so q.gets.waiting e.reply answer for is in
    (record { put = (message, ap message_put same); done = so.1; nobody = so.0 }, so.2)
noted-so q e own answer for same is = absurd (cc)

pub noted_at_a_chance : OfEachMsgq NotedAtAChance
noted_at_a_chance most h legal front e d at decides =
    let new = new_msgq most in
    let whose = decides-said msgq_machine pollers has_pollers new h legal.0 front e d at decides in
    noted-so (msgq_after_all new front) e e.op d.answer whose.0.payload refl whose.3

put-notes : (waiting : List (Waiter Unit)) (ws : Waits Unit MsgqReply) (reply : MsgqReply) → waiting ≡ [] → reply ≡ Done →
    NotesOne ws (after_decision (put_notifies waiting reply) ws)
put-notes [] ws Done none is = one-noted Noted ws.waiting ws.decided
put-notes waiting ws reply none is = absurd (cc)

chance-notes : (q : Msgq) (who : Who) (op : MsgqOp) (message : List ℕ) (reply : MsgqReply) → message_put op ≡ Some message →
    msgq_reply q who op ≡ Some reply → q.gets.waiting ≡ [] → reply ≡ Done → NotesOne q.pollers (msgq_next q who op).pollers
chance-notes q who (ops.Put put waits) message reply puts told none done =
    subst (NotesOne q.pollers) (sym (poll-moves q who (ops.Put put waits) reply told))
    (put-notes q.gets.waiting q.pollers reply none done)
chance-notes q who (ops.PutFront put) message reply puts told none done =
    subst (NotesOne q.pollers) (sym (poll-moves q who (ops.PutFront put) reply told))
    (put-notes q.gets.waiting q.pollers reply none done)
chance-notes q who op message reply puts told none done = absurd (cc)

pub each_chance_notes_one : OfEachMsgq EachChanceNotesOne
each_chance_notes_one most h legal front e at chance =
    let new = new_msgq most in
    let q = msgq_after_all new front in
    subst (λ (r : Msgq). NotesOne q.pollers r.pollers) (sym (state_after-snoc msgq_machine new front e))
    (chance-notes q e.who e.op chance.put.0 e.reply chance.put.1 (replied new h front e e.op legal.0 at refl) chance.nobody chance.done)

polled-messages : (q : Msgq) (who : Who) (op : MsgqOp) → polls op ≡ true → (msgq_next q who op).messages ≡ q.messages
polled-messages q who (ops.PollArm waits) is = refl
polled-messages q who (ops.PollEnd place) is = refl
polled-messages q who (ops.PollQuit place) is = refl
polled-messages q who op is = absurd (cc)

pub polling_takes_nothing : (q : Msgq) (h : MsgqHistory) → PollingTakesNothing q h
polling_takes_nothing q h front e at is =
    ap (λ (r : Msgq). r.messages) (state_after-snoc msgq_machine q front e)
    ∙ polled-messages (msgq_after_all q front) e.who e.op is
