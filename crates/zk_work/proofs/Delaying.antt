-- What delays, and what an operation does to an item that has one, make of the engine.
use Rattle.zk_base.specs.Limits.{most_entries}
use Rattle.std.proofs.Common.{◌≡◌, ℕ, ◌+◌, ◌^◌, ◌<◌, ◌≤◌, Bool, true, false, not, ◌&&◌, ◌||◌, cond, eqb, Option, Some, None, is_some, option_map, option_to_list, List, [], ◌∷◌, ◌++◌, length, map, refl, sym, ap, subst, ◌∙◌, arith}
use Rattle.std.specs.Option.{option_map_or}
use Rattle.std.specs.List.{filter, list_any, find}
use Rattle.std.proofs.lemmas.List.Sums.{length-filter, count_by-le-length}
use Rattle.zk_base.specs.declared.ids.Who.{Who}
use Rattle.zk_base.specs.Order.{Ascends}
use Rattle.zk_base.proofs.Order.{length-put_by}
use Rattle.zk_model_work.specs.declared.parts.Life.TheVariants.{Waiting}
use Rattle.zk_model_work.specs.declared.parts.Arm.{Arm}
use Rattle.zk_model_work.specs.declared.parts.Wait.{Wait}
use Rattle.zk_model_work.specs.declared.parts.Awaited.TheVariants.{Cancel, Flush}
use Rattle.zk_model_work.specs.declared.ops.Submitted.{Submitted}
use Rattle.zk_model_work.specs.declared.parts.Item.{Item}
use Rattle.zk_model_work.specs.Questions.{running, live_arm, item_of as machine_item, deadline_of as machine_deadline, armed}
use Rattle.zk_model_work.specs.Answers.{submission, admitted_to, is_pending, flush_wait, cancel_wait, delay_reply, remaining}
use Rattle.zk_model_work.specs.Machine.{submit, submit_arms, arm, disarm, delayed, hurried, flush_start, cancel, cancel_start, drop_one, awaiting, is_pending_in, delay_reply_in, flushed_of}
use Rattle.zk_model_work.specs.State.{State, IsTimed}
use Rattle.zk_model_work.proofs.Overlaps.{submission-admits, submission-within}
use Rattle.zk_queue.specs.Open as active
use Rattle.zk_time.specs.declared.timeout.Timeout.{Timeout}
use Rattle.zk_time.specs.Timeouts.{Timeouts, is_of, is_due, is_armed, deadline_of, queue_of, count_due, due_first, due_rest, drop_due, IsOrdered}
use Rattle.zk_time.specs.Timeouts as timeouts
use Rattle.zk_time.proofs.Orders.{IsOrdered-arm, IsOrdered-disarm}
use Rattle.zk_work.specs.EngineState.{EngineState, IsWhole, StandsFor, is_there, timeout_of, timeouts_of}
use Rattle.zk_work.specs.Engine as engine
use Rattle.zk_work.specs.Engine.{answer_of, admitted, submitted, disarmed, settled, cancelled, expired_next, expired, told, expiry_of}
use Rattle.zk_work.proofs.Arms.{timeouts-arm, timeouts-disarm, armed-same, found-same}
use Rattle.zk_work.proofs.Replies.{item-same, answer-same}
use Rattle.zk_work.proofs.Awaited.{Later-drop, found-begun, found-made}
use Rattle.zk_work.proofs.Awaiting.{runs_by, flushed-same, new-wait}
use Rattle.zk_work.proofs.Beside.{submitted-same, entries-later, whole-beside, counted-stands, wait-stands, rearmed}
use Rattle.zk_work.proofs.Admissions.{admitted-stands, cancel-stands}

pub fewer-filter : (p : Timeout → Bool) (ts : List Timeout) → length (filter p ts) ≤ length ts
fewer-filter p ts =
    let long = length-filter p ts in
    let most = count_by-le-length p ts in
    omega arith

-- an item is disarmed
pub disarmed-stands : (k : EngineState) (s : State) (item : ℕ) → StandsFor k s →
    StandsFor (disarmed k item) (record s { arms = disarm s.arms item })
disarmed-stands k s item st =
    let fewer = st.whole.fewer in
    let less = fewer-filter (λ (t : Timeout). not (is_of item t)) k.timeouts.live in
    rearmed k s (timeouts.disarm k.timeouts item) (disarm s.arms item) st st.whole.armed
    (IsOrdered-disarm k.timeouts item st.whole.ordered) (omega arith)
    (ap (filter (λ (t : Timeout). not (is_of item t))) st.arms ∙ sym (timeouts-disarm s.arms item))

-- and is armed no longer
pub disarmed-free : (t : Timeouts) (item : ℕ) → is_armed (timeouts.disarm t item) item ≡ false
disarmed-free t item = none t.live where
  none : (ts : List Timeout) → list_any (is_of item) (filter (λ (a : Timeout). not (is_of item a)) ts) ≡ false
  none [] = refl
  none (a ∷ ts) = by (is_of item a) refl (none ts) where
    rest : List Timeout
    rest = filter (λ (b : Timeout). not (is_of item b)) ts

    by : (b : Bool) → is_of item a ≡ b → list_any (is_of item) rest ≡ false →
        list_any (is_of item) (cond (not (is_of item a)) (a ∷ rest) rest) ≡ false
    by true is so = ap (λ c. list_any (is_of item) (cond (not c) (a ∷ rest) rest)) is ∙ so
    by false is so = ap (λ c. list_any (is_of item) (cond (not c) (a ∷ rest) rest)) is
        ∙ ap (λ c. c || list_any (is_of item) rest) is ∙ so

-- an item is armed
pub armed-stands : (k : EngineState) (s : State) (item queue delay : ℕ) → StandsFor k s → item < s.items →
    is_armed k.timeouts item ≡ false → k.time + delay < 2 ^ 64 → k.made + length k.timeouts.live < k.entries →
    StandsFor (record k { timeouts = timeouts.arm k.timeouts item queue (k.time + delay) })
    (record s { arms = arm s.arms item queue (s.time + delay) })
armed-stands k s item queue delay st item_in free fits room =
    let w = st.whole in
    let armed = w.armed in
    let items = st.admissions.items in
    let long = length-put_by (λ (t : Timeout). t.deadline)
    (record { item = item; queue = queue; deadline = k.time + delay }) k.timeouts.live in
    rearmed k s (timeouts.arm k.timeouts item queue (k.time + delay)) (arm s.arms item queue (s.time + delay)) st w.armed
    (IsOrdered-arm k.timeouts item queue (k.time + delay) w.ordered (omega arith) free fits) (omega arith)
    (ap (λ (ts : List Timeout). Rattle.zk_base.specs.Order.put_by (λ (t : Timeout). t.deadline)
    (record { item = item; queue = queue; deadline = k.time + delay }) ts) st.arms
    ∙ ap (λ n. Rattle.zk_base.specs.Order.put_by (λ (t : Timeout). t.deadline)
    (record { item = item; queue = queue; deadline = n + delay }) (timeouts_of s.arms)) st.time
    ∙ sym (timeouts-arm s.arms item queue (s.time + delay)))

-- the time and the delay together
pub deadline-fits : (time entries delay : ℕ) → IsTimed time entries → entries < most_entries → delay < 2 ^ 32 →
    time + delay < 2 ^ 64
deadline-fits time entries delay timed few short = let bound = timed.bound in omega arith

-- a submission by a player or by nobody
pub submit-stands : (k : EngineState) (s : State) (caller : Option ℕ) (item : ℕ) (named : Option ℕ) → StandsFor k s →
    item < s.items → k.made + length k.timeouts.live < k.entries →
    StandsFor (submitted k item (answer_of k caller item named))
    (record s {
      admissions = submit s.admissions item
          (submission (machine_item s.admissions s.marks item) s.queues caller named);
    })
submit-stands k s caller item named st item_in room =
    subst (λ (a : Submitted). StandsFor (submitted k item a)
    (record s {
      admissions = submit s.admissions item
          (submission (machine_item s.admissions s.marks item) s.queues caller named);
    }))
    (sym (answer-same k s st caller item named)) (by (admitted_to answer) refl) where
      answer : Submitted
      answer = submission (machine_item s.admissions s.marks item) s.queues caller named

      by : (to : Option ℕ) → admitted_to answer ≡ to →
          StandsFor (option_map_or (admitted k item) to k)
          (record s {
            admissions = option_map_or
                (λ queue. s.admissions ++ record { item = item; queue = queue; life = Waiting } ∷ []) to s.admissions;
          })
      by None is = st
      by (Some queue) is =
          admitted-stands k s item queue named st
          (submission-admits (machine_item s.admissions s.marks item) s.queues caller named queue is) item_in
          (submission-within (machine_item s.admissions s.marks item) s.queues caller named queue is) room

-- whether the item is armed
pub is_armed-same : (k : EngineState) (s : State) (item : ℕ) → StandsFor k s →
    is_armed k.timeouts item ≡ is_some (armed s.arms item)
is_armed-same k s item st = ap (list_any (is_of item)) st.arms ∙ armed-same s.arms item

-- the item is pending alike
pub pending-same : (k : EngineState) (s : State) (item : ℕ) → StandsFor k s → engine.is_pending_in k item ≡ is_pending_in s item
pending-same k s item st =
    ap (λ (i : Item). is_pending i (is_armed k.timeouts item)) (item-same k s st item)
    ∙ ap (is_pending (machine_item s.admissions s.marks item)) (is_armed-same k s item st)

-- an item that isn't armed is given a delay
pub delayed-stands : (k : EngineState) (s : State) (who : Who) (item queue delay : ℕ) → StandsFor k s → item < s.items →
    is_armed k.timeouts item ≡ false → k.time + delay < 2 ^ 64 → k.made + length k.timeouts.live < k.entries →
    StandsFor (engine.delayed k who item queue delay) (delayed s who item queue delay)
delayed-stands k s who item queue delay st item_in free fits room = by (eqb delay 0) where
  by : (b : Bool) →
      StandsFor (cond b (submitted k item (answer_of k (Some who.number) item (Some queue)))
      (record k { timeouts = timeouts.arm k.timeouts item queue (k.time + delay) }))
      (cond b (record s {
        admissions = submit s.admissions item
            (submission (machine_item s.admissions s.marks item) s.queues (Some who.number) (Some queue));
      })
      (record s { arms = arm s.arms item queue (s.time + delay) }))
  by true = submit-stands k s (Some who.number) item (Some queue) st item_in room
  by false = armed-stands k s item queue delay st item_in free fits room

-- what it is answered
pub delay_reply-same : (k : EngineState) (s : State) (who : Who) (item queue delay : ℕ) → StandsFor k s →
    engine.delay_reply_in k who item queue delay ≡ delay_reply_in s who item queue delay
delay_reply-same k s who item queue delay st =
    ap (λ (a : Submitted). delay_reply a delay) (answer-same k s st (Some who.number) item (Some queue))

-- the timeout of the item's live arm
found-arm : (k : EngineState) (s : State) (item : ℕ) → StandsFor k s →
    find (is_of item) k.timeouts.live ≡ option_map timeout_of (live_arm s.arms item)
found-arm k s item st =
    ap (find (is_of item)) st.arms
    ∙ found-same s.arms item (subst (λ (ts : List Timeout). timeouts.Differ ts) st.arms st.whole.ordered.differ)

-- what is kept of it
kept-arm : (f : Timeout → ℕ) (o : Option Arm) →
    option_map f (option_map timeout_of o) ≡ option_map (λ (a : Arm). f (timeout_of a)) o
kept-arm f None = refl
kept-arm f (Some a) = refl

-- the ticks that are left
pub remaining-same : (k : EngineState) (s : State) (item : ℕ) → StandsFor k s →
    remaining (deadline_of k.timeouts item) k.time ≡ remaining (machine_deadline s.arms item) s.time
remaining-same k s item st =
    let f : Timeout → ℕ = λ t. t.deadline in
    ap (λ (o : Option ℕ). remaining o k.time) (ap (option_map f) (found-arm k s item st) ∙ kept-arm f (live_arm s.arms item))
    ∙ ap (remaining (machine_deadline s.arms item)) st.time

-- a flush ends the item's delay
queue-same : (k : EngineState) (s : State) (item : ℕ) → StandsFor k s →
    queue_of k.timeouts item ≡ option_map (λ (a : Arm). a.queue) (live_arm s.arms item)
queue-same k s item st =
    let f : Timeout → ℕ = λ t. t.queue in
    ap (option_map f) (found-arm k s item st) ∙ kept-arm f (live_arm s.arms item)

live-item : (arms : List Arm) (item : ℕ) (a : Arm) → live_arm arms item ≡ Some a → a.item ≡ item
live-item [] item a is = absurd (cc)
live-item (x ∷ xs) item a is = by (eqb x.item item) (Rattle.zk_model_work.specs.Questions.is_live x.fate) refl is
    (live-item xs item a) where
      by : (i b : Bool) → eqb x.item item ≡ i → cond (i && b) (Some x) (live_arm xs item) ≡ Some a →
          (live_arm xs item ≡ Some a → a.item ≡ item) → a.item ≡ item
      by true true same is rest = sym (ap (λ (c : Arm). c.item) (Rattle.std.proofs.lemmas.Option.same_Some x a is))
          ∙ Rattle.std.proofs.lemmas.Bool.eqb-true x.item item same
      by true false same is rest = rest is
      by false b same is rest = rest is

pub hurried-stands : (k : EngineState) (s : State) (who : Who) (item : ℕ) → StandsFor k s → item < s.items →
    k.made + length k.timeouts.live < k.entries →
    StandsFor (engine.hurried k who item) (record s { admissions = hurried s who item; arms = disarm s.arms item })
hurried-stands k s who item st item_in room =
    subst (λ (o : Option ℕ).
    StandsFor (option_map_or (λ queue. submitted d item (answer_of d (Some who.number) item (Some queue))) o d)
    (record s { admissions = hurried s who item; arms = disarm s.arms item })) (sym (queue-same k s item st))
    (by (live_arm s.arms item) refl) where
      d : EngineState
      d = disarmed k item

      e : State
      e = record s { arms = disarm s.arms item }

      stands : StandsFor d e
      stands = disarmed-stands k s item st

      by : (o : Option Arm) → live_arm s.arms item ≡ o →
          StandsFor (option_map_or (λ queue. submitted d item (answer_of d (Some who.number) item (Some queue)))
          (option_map (λ (a : Arm). a.queue) o) d)
          (record s {
            admissions = submit_arms s.marks s.queues (Some who.number) (option_to_list o) s.admissions;
            arms = disarm s.arms item;
          })
      by None is = stands
      by (Some a) is =
          let less = fewer-filter (λ (t : Timeout). not (is_of item t)) k.timeouts.live in
          subst (λ i. StandsFor (submitted d item (answer_of d (Some who.number) item (Some a.queue)))
          (record s {
            admissions = submit s.admissions i
                (submission (machine_item s.admissions s.marks i) s.queues (Some who.number) (Some a.queue));
            arms =
                disarm s.arms item;
          })) (sym (live-item s.arms item a is))
          (submit-stands d e (Some who.number) item (Some a.queue) stands item_in (omega arith))

-- the start of a flush, behind an entry that is counted
pub flush_start-stands : (k : EngineState) (s : State) (who : Who) (item : ℕ) → StandsFor k s → item < s.items →
    s.entries < most_entries →
    StandsFor (record (engine.flush_started k who item) { entries = k.entries + 1 })
    (record (flush_start s who item) { entries = s.entries + 1 })
flush_start-stands k s who item st item_in few =
    let fewer = st.whole.fewer in
    let c = counted-stands k s st few in
    let h = hurried-stands (record k { entries = k.entries + 1 }) (record s { entries = s.entries + 1 }) who item c
    item_in (omega arith) in
    let e : State = record s { admissions = hurried s who item; arms = disarm s.arms item; entries = s.entries + 1 } in
    let K : EngineState = record (engine.hurried k who item) { entries = k.entries + 1 } in
    let same = entries_stay k who item in
    let H : StandsFor K e = subst (λ (j : EngineState). StandsFor j e) same h in
    let n = flushed_of s who item in
    let wait : flush_wait (engine.hurried k who item).entries who
    (engine.flushed_of (engine.hurried k who item).active item) ≡ flush_wait s.entries who n =
    ap (λ p. flush_wait p who (engine.flushed_of (engine.hurried k who item).active item)) (entries_of k who item ∙ st.entries)
    ∙ ap (flush_wait s.entries who) (flushed-same K e H item) in
    subst (λ (o : Option Wait).
    StandsFor (record (engine.hurried k who item) {
      waits = awaiting (engine.hurried k who item).waits o;
      entries = k.entries + 1;
    })
    (record (flush_start s who item) { entries = s.entries + 1 })) (sym wait)
    (wait-stands (flush_wait s.entries who n) K e H
    (λ w is. let new = new-wait K e H s.entries who Flush n w is in sym (ap (λ (v : Wait). v.answered) new.2))
    (λ w is. let new = new-wait K e H s.entries who Flush n w is in
    subst (λ (v : Wait). is_there (hurried s who item) v.awaited v.answered ≡ true) new.2
    (found-made (hurried s who item) item new.0 new.1))) where
      entries_stay : (k : EngineState) (who : Who) (item : ℕ) →
          engine.hurried (record k { entries = k.entries + 1 }) who item
          ≡ record (engine.hurried k who item) { entries = k.entries + 1 }
      entries_stay k who item = by (queue_of k.timeouts item) where
        by : (o : Option ℕ) →
            option_map_or (λ queue. submitted (record (disarmed k item) { entries = k.entries + 1 }) item
            (answer_of (disarmed k item) (Some who.number) item (Some queue))) o
            (record (disarmed k item) { entries = k.entries + 1 })
            ≡ record (option_map_or
            (λ queue. submitted (disarmed k item) item
            (answer_of (disarmed k item) (Some who.number) item (Some queue))) o (disarmed k item))
            { entries = k.entries + 1 }
        by None = refl
        by (Some queue) = entries-later (disarmed k item) item (answer_of (disarmed k item) (Some who.number) item (Some queue))

      entries_of : (k : EngineState) (who : Who) (item : ℕ) → (engine.hurried k who item).entries ≡ k.entries
      entries_of k who item = by (queue_of k.timeouts item) where
        by : (o : Option ℕ) →
            (option_map_or (λ queue. submitted (disarmed k item) item
            (answer_of (disarmed k item) (Some who.number) item (Some queue))) o (disarmed k item)).entries ≡ k.entries
        by None = refl
        by (Some queue) = submitted-same (λ (j : EngineState). j.entries) (disarmed k item) item
            (answer_of (disarmed k item) (Some who.number) item (Some queue)) (λ queue. refl)

-- a cancel
pub cancelled-stands : (k : EngineState) (s : State) (item : ℕ) → StandsFor k s → item < s.items → s.entries < most_entries →
    StandsFor (record (settled (disarmed k item) (cancelled k.active item)) { entries = k.entries + 1 })
    (record (cancel s item) { entries = s.entries + 1 })
cancelled-stands k s item st item_in few = cancel-stands (disarmed k item) (record s { arms = disarm s.arms item }) item
    (disarmed-stands k s item st) item_in few

-- the start of a sync cancel
pub cancel_start-stands : (k : EngineState) (s : State) (who : Who) (item : ℕ) → StandsFor k s → item < s.items →
    s.entries < most_entries →
    StandsFor (record (engine.cancel_started k who item) { entries = k.entries + 1 })
    (record (cancel_start s who item) { entries = s.entries + 1 })
cancel_start-stands k s who item st item_in few =
    let run = running s.admissions item in
    let wait : cancel_wait k.entries who (active.running k.active item) ≡ cancel_wait s.entries who run =
    ap (λ p. cancel_wait p who (active.running k.active item)) st.entries
    ∙ ap (cancel_wait s.entries who) (runs_by k s st item) in
    let T : EngineState = record (settled (disarmed k item) (cancelled k.active item)) { entries = k.entries + 1 } in
    subst (λ (o : Option Wait). StandsFor (record T { waits = awaiting k.waits o })
    (record (cancel_start s who item) { entries = s.entries + 1 })) (sym wait)
    (wait-stands (cancel_wait s.entries who run) T (record (cancel s item) { entries = s.entries + 1 })
    (cancelled-stands k s item st item_in few)
    (λ w is. let new = new-wait k s st s.entries who Cancel run w is in sym (ap (λ (v : Wait). v.answered) new.2))
    (λ w is. let new = new-wait k s st s.entries who Cancel run w is in
    subst (λ (v : Wait). is_there (map (drop_one item) s.admissions) v.awaited v.answered ≡ true) new.2
    ((Later-drop item s.admissions).begun new.0 (found-begun s.admissions item new.0 new.1))))

-- and leaves a place for what becomes of it
pub drop-room : (time : ℕ) (ts : List Timeout) → is_some (due_first time ts) ≡ true → length (due_rest time ts) + 1 ≡ length ts
drop-room time [] some = absurd (cc)
drop-room time (t ∷ ts) some = by (is_due time t) some where
  by : (b : Bool) → is_some (cond b (Some t) None) ≡ true → length (cond b ts (t ∷ ts)) + 1 ≡ length (t ∷ ts)
  by true some = omega arith
  by false some = absurd (cc)

-- an item is disarmed
pub disarmed-whole : (k : EngineState) (item : ℕ) → IsWhole k → IsWhole (disarmed k item)
disarmed-whole k item w =
    let fewer = w.fewer in
    let less = fewer-filter (λ (t : Timeout). not (is_of item t)) k.timeouts.live in
    whole-beside k k.time k.entries (timeouts.disarm k.timeouts item) k.waits k.queues w w.counted w.timed
    (omega arith) w.armed (IsOrdered-disarm k.timeouts item w.ordered) w.queues
