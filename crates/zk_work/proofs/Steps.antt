-- Each operation of the engine is a step of the machine.
use Rattle.zk_base.specs.Limits.{most_entries}
use Rattle.std.proofs.Common.{◌≡◌, ℕ, ◌+◌, ◌-◌, ◌^◌, ◌<◌, Bool, true, false, ◌||◌, cond, eqb, ltb, Option, Some, None, is_some, option_map, List, length, refl, sym, ap, subst, ◌∙◌, arith}
use Rattle.std.specs.Cmp.{first_so}
use Rattle.std.specs.Option.{option_map_or}
use Rattle.std.proofs.lemmas.Bool.{ltb-true}
use Rattle.zk_base.proofs.Lists.{cond_chosen}
use Rattle.zk_base.specs.declared.ids.Who.{Who}
use Rattle.zk_model_work.specs.declared.ops.WorkOp.{WorkOp}
use Rattle.zk_model_work.specs.declared.ops.WorkOp.TheVariants.{Submit, Cancel, CancelStart, CancelDone, FlushStart, FlushDone, Schedule, Reschedule, Remaining, Start, DrainStart, DrainDone, Unplug, Stop, Announce, Begin, End}
use Rattle.zk_model_work.specs.declared.ops.Submitted.{Submitted}
use Rattle.zk_model_work.specs.declared.ops.WorkReply.{WorkReply}
use Rattle.zk_model_work.specs.declared.ops.WorkReply.TheVariants.{Sub, Flags, Truth, Number, Done, Run}
use Rattle.zk_model_work.specs.declared.parts.Closing.TheVariants as closings
use Rattle.zk_model_work.specs.declared.parts.Life.TheVariants.{Running}
use Rattle.zk_model_work.specs.declared.parts.Change.TheVariants as changes
use Rattle.zk_model_work.specs.declared.parts.Queue.{Queue}
use Rattle.zk_model_work.specs.Lists.{first}
use Rattle.zk_model_work.specs.Questions.{waits_for, line, is_empty_and_idle, item_of}
use Rattle.zk_model_work.specs.Answers.{submission, cancel_start_reply, flush_start_reply, start_reply, drain_reply, unplug_reply, stop_reply, is_worker, schedule_reply}
use Rattle.zk_model_work.specs.Machine.{submit, arm, disarm, set_life, flags_of, cancel, work_reply, work_next, is_among}
use Rattle.zk_model_work.specs.State.{State}
use Rattle.zk_model_work.specs.Machine as machine
use Rattle.zk_model_work.proofs.Lines.{first_of_places}
use Rattle.zk_queue.specs.declared.ticket.Ticket.{Ticket}
use Rattle.zk_time.specs.Timeouts as timeouts
use Rattle.zk_time.specs.Timeouts.{is_armed, queue_of}
use Rattle.zk_queue.specs.Open as active
use Rattle.zk_queue.specs.Open.{Open}
use Rattle.zk_work.specs.EngineState.{EngineState, StandsFor}
use Rattle.zk_work.specs.Engine.{answer_of, submitted, disarmed, hurried, flushed_of, is_pending_in, delayed, cancelled, settled, IsTimely, reply_of, entered}
use Rattle.zk_work.proofs.Tickets.{position-first}
use Rattle.zk_work.proofs.Replies.{answer-same, begin-same, end-same}
use Rattle.zk_work.proofs.Awaiting.{flags-same, runs_by, flushed-same, may_close-same, closed-stands}
use Rattle.zk_work.proofs.Beside.{entries-later, counted-stands, change-stands}
use Rattle.zk_work.proofs.Admissions.{idle-same, drain-stands, stop-stands, begin-stands, end-stands}
use Rattle.zk_work.proofs.Delaying.{disarmed-stands, disarmed-free, deadline-fits, submit-stands, pending-same, delayed-stands, delay_reply-same, remaining-same, hurried-stands, flush_start-stands, cancelled-stands, cancel_start-stands}
use Rattle.zk_work.proofs.Announcing.{announced-stands, announce_reply-same}

-- the items and queues of an operation are those that there are
pub ranges-same : (k : EngineState) (s : State) (op : WorkOp) → StandsFor k s →
    is_among k.active.items k.active.queues op ≡ is_among s.items (length s.queues) op
ranges-same k s op st =
    ap (λ n. is_among n k.active.queues op) st.admissions.items
    ∙ ap (λ n. is_among s.items n op) (sym st.whole.queues ∙ ap length st.queues)

-- an item that isn't pending isn't armed
free-item : (k : EngineState) (item : ℕ) → is_pending_in k item ≡ false → is_armed k.timeouts item ≡ false
free-item k item free = by (is_armed k.timeouts item) free where
  by : (b : Bool) → (b || active.is_queued k.active item || (active.marks_of k.active item).cancelling) ≡ false → b ≡ false
  by true free = absurd (cc)
  by false free = refl

-- an item that isn't armed is given a delay
scheduled : (k : EngineState) (s : State) (who : Who) (item queue delay : ℕ) → StandsFor k s → item < s.items →
    s.entries < most_entries → delay < 2 ^ 32 → is_armed k.timeouts item ≡ false →
    StandsFor (record (delayed k who item queue delay) { entries = k.entries + 1 })
    (record (machine.delayed s who item queue delay) { entries = s.entries + 1 })
scheduled k s who item queue delay st item_in few short free =
    let fewer = st.whole.fewer in
    let entries = st.entries in
    let fits = deadline-fits k.time k.entries delay st.whole.timed (omega arith) short in
    let done = delayed-stands (record k { entries = k.entries + 1 }) (record s { entries = s.entries + 1 }) who item queue
    delay (counted-stands k s st few) item_in free fits (omega arith) in
    by (eqb delay 0) done where
      armed_k : EngineState
      armed_k = record k { timeouts = timeouts.arm k.timeouts item queue (k.time + delay) }

      by : (b : Bool) →
          StandsFor (cond b (submitted (record k { entries = k.entries + 1 }) item
          (answer_of k (Some who.number) item (Some queue)))
          (record k { timeouts = timeouts.arm k.timeouts item queue (k.time + delay); entries = k.entries + 1 }))
          (cond b (record s {
            admissions = submit s.admissions item
                (submission (item_of s.admissions s.marks item) s.queues (Some who.number) (Some queue));
            entries =
                s.entries + 1;
          }) (record s { arms = arm s.arms item queue (s.time + delay); entries = s.entries + 1 })) →
          StandsFor (record (cond b (submitted k item (answer_of k (Some who.number) item (Some queue)))
          (record k { timeouts = timeouts.arm k.timeouts item queue (k.time + delay) })) { entries = k.entries + 1 })
          (record (cond b (record s {
            admissions = submit s.admissions item
                (submission (item_of s.admissions s.marks item) s.queues (Some who.number) (Some queue));
          })
          (record s { arms = arm s.arms item queue (s.time + delay) })) { entries = s.entries + 1 })
      by true done = subst (λ (j : EngineState).
          StandsFor j (record s {
            admissions = submit s.admissions item
                (submission (item_of s.admissions s.marks item) s.queues (Some who.number) (Some queue));
            entries =
                s.entries + 1;
          })) (entries-later k item (answer_of k (Some who.number) item (Some queue))) done
      by false done = done

-- an entry more changes nothing of what is open after a flush has ended a delay
active-hurried : (k : EngineState) (who : Who) (item : ℕ) →
    (hurried (record k { entries = k.entries + 1 }) who item).active ≡ (hurried k who item).active
active-hurried k who item = by (queue_of k.timeouts item) where
  by : (o : Option ℕ) →
      (option_map_or (λ queue. submitted (record (disarmed k item) { entries = k.entries + 1 }) item
      (answer_of (disarmed k item) (Some who.number) item (Some queue))) o
      (record (disarmed k item) { entries = k.entries + 1 })).active
      ≡ (option_map_or (λ queue. submitted (disarmed k item) item
      (answer_of (disarmed k item) (Some who.number) item (Some queue))) o (disarmed k item)).active
  by None = refl
  by (Some queue) = ap (λ (j : EngineState). j.active)
      (entries-later (disarmed k item) item (answer_of (disarmed k item) (Some who.number) item (Some queue)))

-- the reply
pub reply-same : (k : EngineState) (s : State) (who : Who) (op : WorkOp) → StandsFor k s →
    is_among s.items (length s.queues) op ≡ true → s.entries < most_entries → reply_of k who op ≡ work_reply s who op
reply-same k s who (Submit item named) st range few =
    ap (λ (a : Submitted). Some (Sub a)) (answer-same k s st (Some who.number) item named)
reply-same k s who (Cancel item) st range few =
    let after = cancelled-stands k s item st (ltb-true item s.items range) few in
    ap (λ n. Some (Flags n))
    (flags-same (record (settled (disarmed k item) (cancelled k.active item)) { entries = k.entries + 1 })
    (record (cancel s item) { entries = s.entries + 1 }) after item)
reply-same k s who (CancelStart item) st range few =
    ap (λ n. Some (cancel_start_reply n (is_some (active.running k.active item)))) (flags-same k s st item)
    ∙ ap (λ (o : Option ℕ). Some (cancel_start_reply (flags_of s item) (is_some o))) (runs_by k s st item)
reply-same k s who (CancelDone place) st range few =
    ap (λ b. cond b (Some (Truth true)) None) (may_close-same k s st closings.Cancel who place)
reply-same k s who (FlushStart item) st range few =
    let fewer = st.whole.fewer in
    let c = counted-stands k s st few in
    let h = hurried-stands (record k { entries = k.entries + 1 }) (record s { entries = s.entries + 1 }) who item c
    (ltb-true item s.items range) (omega arith) in
    ap (λ (o : Option ℕ). Some (flush_start_reply o))
    (ap (λ (o : Open). flushed_of o item) (sym (active-hurried k who item))
    ∙ flushed-same (hurried (record k { entries = k.entries + 1 }) who item)
    (record s { admissions = machine.hurried s who item; arms = disarm s.arms item; entries = s.entries + 1 }) h item)
reply-same k s who (FlushDone place) st range few =
    ap (λ b. cond b (Some (Truth true)) None) (may_close-same k s st closings.Flush who place)
reply-same k s who (Schedule item queue delay) st range few =
    ap (λ b. Some (schedule_reply b (answer_of k (Some who.number) item (Some queue)) delay)) (pending-same k s item st)
    ∙ ap (λ (a : Submitted). Some (schedule_reply (machine.is_pending_in s item) a delay))
    (answer-same k s st (Some who.number) item (Some queue))
reply-same k s who (Reschedule item queue delay) st range few =
    ap (λ (r : WorkReply). Some r) (delay_reply-same k s who item queue delay st)
reply-same k s who (Remaining item) st range few = ap (λ n. Some (Number n)) (remaining-same k s item st)
reply-same k s who (Start queue) st range few = ap (λ (qs : List Queue). Some (start_reply qs queue)) st.queues
reply-same k s who (DrainStart queue plug) st range few =
    ap (λ b. Some (drain_reply b)) (idle-same k.active s.admissions queue (st.admissions.lines queue) (st.admissions.runs queue))
reply-same k s who (DrainDone place) st range few =
    ap (λ b. cond b (Some (Number 1)) None) (may_close-same k s st closings.Drain who place)
reply-same k s who (Unplug queue) st range few = ap (λ (qs : List Queue). Some (unplug_reply qs queue)) st.queues
reply-same k s who (Stop queue) st range few =
    ap (λ b. Some (stop_reply b k.queues queue))
    (idle-same k.active s.admissions queue (st.admissions.lines queue) (st.admissions.runs queue))
    ∙ ap (λ (qs : List Queue). Some (stop_reply (is_empty_and_idle s.admissions queue) qs queue)) st.queues
reply-same k s who (Announce ticks) st range few = ap (λ (r : WorkReply). Some r) (announce_reply-same k s ticks st)
reply-same k s who (Begin queue) st range few = begin-same k s st who queue
reply-same k s who (End queue) st range few = end-same k s st who queue

-- the state
pub next-stands : (k : EngineState) (s : State) (who : Who) (op : WorkOp) (reply : WorkReply) → StandsFor k s →
    is_among s.items (length s.queues) op ≡ true → s.entries < most_entries → IsTimely op → reply_of k who op ≡ Some reply →
    StandsFor (entered k who op) (work_next s who op)
next-stands k s who (Submit item named) reply st range few timely is =
    let fewer = st.whole.fewer in
    let item_in = ltb-true item s.items
    (first_so (ltb item s.items) (option_map_or (λ queue. ltb queue (length s.queues)) named true) range) in
    let done = submit-stands (record k { entries = k.entries + 1 }) (record s { entries = s.entries + 1 })
    (Some who.number) item named (counted-stands k s st few) item_in (omega arith) in
    subst (λ (j : EngineState). StandsFor j (work_next s who (Submit item named)))
    (entries-later k item (answer_of k (Some who.number) item named)) done
next-stands k s who (Cancel item) reply st range few timely is = cancelled-stands k s item st (ltb-true item s.items range) few
next-stands k s who (CancelStart item) reply st range few timely is =
    cancel_start-stands k s who item st (ltb-true item s.items range) few
next-stands k s who (CancelDone place) reply st range few timely is = closed-stands k s st closings.Cancel who place few
next-stands k s who (FlushStart item) reply st range few timely is =
    flush_start-stands k s who item st (ltb-true item s.items range) few
next-stands k s who (FlushDone place) reply st range few timely is = closed-stands k s st closings.Flush who place few
next-stands k s who (Schedule item queue delay) reply st range few timely is =
    let fewer = st.whole.fewer in
    let item_in = ltb-true item s.items (first_so (ltb item s.items) (ltb queue (length s.queues)) range) in
    let c = counted-stands k s st few in
    subst (λ b. StandsFor (record (cond b k (delayed k who item queue delay)) { entries = k.entries + 1 })
    (work_next s who (Schedule item queue delay))) (sym (pending-same k s item st))
    (by (machine.is_pending_in s item) refl) where
      by : (b : Bool) → machine.is_pending_in s item ≡ b →
          StandsFor (record (cond b k (delayed k who item queue delay)) { entries = k.entries + 1 })
          (record (cond b s (machine.delayed s who item queue delay)) { entries = s.entries + 1 })
      by true is = counted-stands k s st few
      by false is = scheduled k s who item queue delay st
          (ltb-true item s.items (first_so (ltb item s.items) (ltb queue (length s.queues)) range)) few timely
          (free-item k item (pending-same k s item st ∙ is))
next-stands k s who (Reschedule item queue delay) reply st range few timely is =
    scheduled (disarmed k item) (record s { arms = disarm s.arms item }) who item queue delay (disarmed-stands k s item st)
    (ltb-true item s.items (first_so (ltb item s.items) (ltb queue (length s.queues)) range)) few timely
    (disarmed-free k.timeouts item)
next-stands k s who (Remaining item) reply st range few timely is = counted-stands k s st few
next-stands k s who (Start queue) reply st range few timely is = change-stands changes.Start k s queue st few
next-stands k s who (DrainStart queue plug) reply st range few timely is = drain-stands k s who queue plug st few
next-stands k s who (DrainDone place) reply st range few timely is = closed-stands k s st closings.Drain who place few
next-stands k s who (Unplug queue) reply st range few timely is = change-stands changes.Unplug k s queue st few
next-stands k s who (Stop queue) reply st range few timely is = stop-stands k s queue st few
next-stands k s who (Announce ticks) reply st range few timely is = announced-stands k s ticks st few timely
next-stands k s who (Begin queue) reply st range few timely is =
    by (active.run k.active queue) (first (active.line k.active queue)) refl refl
    (cond_chosen (is_worker k.queues queue who.number)
    (option_map (λ (t : Ticket). Run t.item t.number) (active.next k.active queue)) reply is).1 where
      lowest : (t : Ticket) → first (active.line k.active queue) ≡ Some t → first (line s.admissions queue) ≡ Some t.number
      lowest t is =
          sym (first_of_places (waits_for queue) s.admissions) ∙ position-first (waits_for queue) s.admissions
          ∙ ap (λ (ts : List Ticket). option_map (λ (t : Ticket). t.number) (first ts)) (sym (st.admissions.lines queue))
          ∙ ap (option_map (λ (t : Ticket). t.number)) is

      by : (r l : Option Ticket) → active.run k.active queue ≡ r → first (active.line k.active queue) ≡ l →
          option_map (λ (t : Ticket). Run t.item t.number) (active.if_free r l) ≡ Some reply →
          StandsFor (record k {
            active = option_map_or (active.begun k.active queue) (active.if_free r l) k.active;
            running = k.running + 1;
            entries = k.entries + 1;
          })
          (record s {
            admissions = option_map_or (λ number. set_life s.admissions number Running)
                (first (line s.admissions queue)) s.admissions;
            entries = s.entries + 1;
          })
      by None None idle none is = absurd (cc)
      by (Some t) l idle none is = absurd (cc)
      by None (Some t) idle first_is is =
          subst (λ (o : Option ℕ).
          StandsFor (record k { active = active.begun k.active queue t; running = k.running + 1; entries = k.entries + 1 })
          (record s {
            admissions = option_map_or (λ number. set_life s.admissions number Running) o s.admissions;
            entries = s.entries + 1;
          })) (sym (lowest t first_is))
          (begin-stands k s queue t st (ltb-true queue (length s.queues) range) few idle first_is)
next-stands k s who (End queue) reply st range few timely is =
    by (active.run k.active queue) refl
    (cond_chosen (is_worker k.queues queue who.number) (option_map (λ (t : Ticket). Done) (active.run k.active queue))
    reply is).1 where
      by : (r : Option Ticket) → active.run k.active queue ≡ r → option_map (λ (t : Ticket). Done) r ≡ Some reply →
          StandsFor (record (option_map_or
          (λ (t : Ticket). record (settled k (active.mark (active.end k.active queue) t.item 0))
          { running = k.running - 1 }) r k) { entries = k.entries + 1 }) (work_next s who (End queue))
      by None run is = absurd (cc)
      by (Some t) run is = end-stands k s queue t st (ltb-true queue (length s.queues) range) few run

-- what is asked where an operation is tried
abbrev pub Ready : EngineState → WorkOp → Type 0
Ready k op = (s : State) × StandsFor k s × (is_among s.items (length s.queues) op ≡ true) × (s.entries < most_entries)

among : (k : EngineState) (s : State) (op : WorkOp) → Ready k op → StandsFor k s → is_among s.items (length s.queues) op ≡ true
among k s op ready st = sym (ranges-same k s op st) ∙ ranges-same k ready.0 op ready.1 ∙ ready.2

short : (k : EngineState) (s : State) (op : WorkOp) → Ready k op → StandsFor k s → s.entries < most_entries
short k s op ready st =
    let one = st.entries in
    let other = ready.1.entries in
    let few = ready.3 in
    omega arith

-- an operation that isn't possible
pub refused : (k : EngineState) (s : State) (who : Who) (op : WorkOp) → Ready k op → StandsFor k s →
    reply_of k who op ≡ None → work_reply s who op ≡ None
refused k s who op ready st is = sym (reply-same k s who op st (among k s op ready st) (short k s op ready st)) ∙ is

-- one that is possible
pub stepped : (k : EngineState) (s : State) (who : Who) (op : WorkOp) (reply : WorkReply) → Ready k op → StandsFor k s →
    IsTimely op → reply_of k who op ≡ Some reply →
    (work_reply s who op ≡ Some reply) × StandsFor (entered k who op) (work_next s who op)
stepped k s who op reply ready st timely is =
    let in_range = among k s op ready st in
    let few = short k s op ready st in
    (sym (reply-same k s who op st in_range few) ∙ is, next-stands k s who op reply st in_range few timely is)
