-- Who is told that a wait is over, and who may be.
use Rattle.std.proofs.Common.{◌≡◌, ℕ, zero, ◌+◌, ◌<◌, ◌≤◌, ◌⊎◌, inl, inr, Bool, true, false, not, ◌&&◌, ◌||◌, cond, eqb, ltb, ◌==◌, Option, Some, None, is_some, option_map, List, [], ◌∷◌, ◌++◌, length, slice_get, All, refl, sym, ap, subst, ◌∙◌, append_assoc, arith}
use Rattle.std.specs.List.{list_any}
use Rattle.std.specs.Option.{option_map_or}
use Rattle.std.proofs.lemmas.Bool.{eqb-true, eq-eqb, false≢true, ltb-true, and_from}
use Rattle.std.proofs.lemmas.Bool.Decides.{nat_tests}
use Rattle.std.proofs.lemmas.List.Elements.{All-head, All-tail}
use Rattle.std.proofs.lemmas.Option.{same_Some, slice_get_cases}
use Rattle.zk_base.specs.declared.ids.Who.{Who}
use Rattle.zk_base.specs.declared.ids.Entry.{Entry}
use Rattle.zk_base.specs.Legal.{state_after}
use Rattle.zk_base.proofs.Histories.{state_after-append}
use Rattle.zk_model_work.specs.declared.parts.Life.{Life}
use Rattle.zk_model_work.specs.declared.parts.Life.TheVariants.{Ended}
use Rattle.zk_model_work.specs.declared.parts.Admission.{Admission}
use Rattle.zk_model_work.specs.declared.parts.Queue.{Queue}
use Rattle.zk_model_work.specs.declared.parts.Awaited.{Awaited}
use Rattle.zk_model_work.specs.declared.parts.Awaited.TheVariants as awaiteds
use Rattle.zk_model_work.specs.declared.parts.Wait.{Wait}
use Rattle.zk_model_work.specs.declared.parts.Closing.{Closing}
use Rattle.zk_model_work.specs.declared.parts.Closing.TheVariants as closings
use Rattle.zk_model_work.specs.declared.ops.WorkOp.{WorkOp}
use Rattle.zk_model_work.specs.declared.ops.WorkOp.TheVariants.{Submit, Cancel, CancelStart, CancelDone, FlushStart, FlushDone, Schedule, Reschedule, Remaining, Start, DrainStart, DrainDone, Unplug, Stop, Announce, Begin, End}
use Rattle.zk_model_work.specs.declared.ops.WorkReply.{WorkReply}
use Rattle.zk_model_work.specs.declared.ops.WorkReply.TheVariants as replies
use Rattle.zk_model_work.specs.Questions.{is_open, is_ended, passes_at, running, waiting, armed, is_empty_and_idle}
use Rattle.zk_model_work.specs.State.{State}
use Rattle.zk_model_work.specs.Machine.{has_come, may_close, flags_of, flushed_of, work_reply, work_next, work_machine, in_range}
use Rattle.zk_model_work.specs.Answers.{cancel_start_reply, flush_start_reply, drain_reply, cancel_wait, flush_wait, drain_wait, drained_of, wait_for, is_unanswered, closes}
use Rattle.zk_model_work.specs.Histories.{WorkHistory, IsFreshHistory, OfEach, is_done_of, ends_wait_of, done_for, has_to_wait, HasStart, HasCome, MayGoOn}
use Rattle.zk_model_work.specs.Laws.{MayBeDone, DoneHasItsStart}
use Rattle.zk_model_work.proofs.AwaitedEnds.{entries-after}
use Rattle.zk_model_work.proofs.Drains.{AllKeep, AllKeep-after, AllKeep-fresh}
use Rattle.zk_model_work.proofs.Entries.{entry-replied, fresh-front}
use Rattle.zk_model_work.proofs.Replies.{said-where}
use Rattle.zk_model_work.proofs.Found.{cancel-start-said}
use Rattle.zk_model_work.proofs.Queues.{queue_next, queues-next, counted-next, drained-start}
use Rattle.zk_model_work.proofs.Waits.{new_wait, new-parts, unanswered, same-start, wait-at, at-any, closing-of, all-have, has-wait}

-- what an operation that begins a wait was answered
waits-told : (s : State) (who : Who) (op : WorkOp) (reply : WorkReply) (w : Wait) → work_reply s who op ≡ Some reply →
    new_wait s who op ≡ Some w → has_to_wait reply ≡ true
waits-told s who (Submit item named) reply w is new = absurd (cc)
waits-told s who (Cancel item) reply w is new = absurd (cc)
waits-told s who (CancelStart item) reply w is new = by (running s.admissions item) refl new where
  told : cond (is_some (running s.admissions item)) replies.Wait
      (replies.Truth (is_some (waiting s.admissions item) || is_some (armed s.arms item))) ≡ reply
  told = sym (cancel-start-said s item)
      ∙ same_Some (cancel_start_reply (flags_of s item) (is_some (running s.admissions item))) reply is

  by : (o : Option ℕ) → running s.admissions item ≡ o → cancel_wait s.entries who o ≡ Some w → has_to_wait reply ≡ true
  by None runs new = absurd (cc)
  by (Some n) runs new =
      ap has_to_wait (sym told)
      ∙ ap (λ (o : Option ℕ).
      has_to_wait (cond (is_some o) replies.Wait
      (replies.Truth (is_some (waiting s.admissions item) || is_some (armed s.arms item))))) runs
waits-told s who (CancelDone place) reply w is new = absurd (cc)
waits-told s who (FlushStart item) reply w is new =
    by (flushed_of s who item) (same_Some (flush_start_reply (flushed_of s who item)) reply is) new where
      by : (o : Option ℕ) → flush_start_reply o ≡ reply → flush_wait s.entries who o ≡ Some w → has_to_wait reply ≡ true
      by None said new = absurd (cc)
      by (Some n) said new = ap has_to_wait (sym said)
waits-told s who (FlushDone place) reply w is new = absurd (cc)
waits-told s who (Schedule item queue delay) reply w is new = absurd (cc)
waits-told s who (Reschedule item queue delay) reply w is new = absurd (cc)
waits-told s who (Remaining item) reply w is new = absurd (cc)
waits-told s who (Start queue) reply w is new = absurd (cc)
waits-told s who (DrainStart queue plug) reply w is new =
    by (is_empty_and_idle s.admissions queue) (same_Some (drain_reply (is_empty_and_idle s.admissions queue)) reply is) new where
      by : (idle : Bool) → drain_reply idle ≡ reply → drain_wait idle s.entries s.queues who queue ≡ Some w →
          has_to_wait reply ≡ true
      by true said new = absurd (cc)
      by false said new = ap has_to_wait (sym said)
waits-told s who (DrainDone place) reply w is new = absurd (cc)
waits-told s who (Unplug queue) reply w is new = absurd (cc)
waits-told s who (Stop queue) reply w is new = absurd (cc)
waits-told s who (Announce ticks) reply w is new = absurd (cc)
waits-told s who (Begin queue) reply w is new = absurd (cc)
waits-told s who (End queue) reply w is new = absurd (cc)

-- which kind of wait an operation ends, and which kind another one begins
abbrev kind : Closing → Awaited → Bool
kind closings.Cancel (awaiteds.Cancel n) = true
kind closings.Flush (awaiteds.Flush n) = true
kind closings.Drain (awaiteds.Drain queue n) = true
kind closing awaited = false

abbrev done_op : Closing → ℕ → WorkOp
done_op closings.Cancel place = CancelDone place
done_op closings.Flush place = FlushDone place
done_op closings.Drain place = DrainDone place

come-kind : (s : State) (closing : Closing) (a : Awaited) → has_come s.admissions s.queues closing a ≡ true →
    kind closing a ≡ true
come-kind s closings.Cancel (awaiteds.Cancel n) is = refl
come-kind s closings.Cancel (awaiteds.Flush n) is = is
come-kind s closings.Cancel (awaiteds.Drain queue n) is = is
come-kind s closings.Flush (awaiteds.Cancel n) is = is
come-kind s closings.Flush (awaiteds.Flush n) is = refl
come-kind s closings.Flush (awaiteds.Drain queue n) is = is
come-kind s closings.Drain (awaiteds.Cancel n) is = is
come-kind s closings.Drain (awaiteds.Flush n) is = is
come-kind s closings.Drain (awaiteds.Drain queue n) is = refl

kind-cancel : (closing : Closing) (place item n : ℕ) → kind closing (awaiteds.Cancel n) ≡ true →
    ends_wait_of (done_op closing place) (CancelStart item) ≡ true
kind-cancel closings.Cancel place item n is = refl
kind-cancel closings.Flush place item n is = absurd (cc)
kind-cancel closings.Drain place item n is = absurd (cc)

kind-flush : (closing : Closing) (place item n : ℕ) → kind closing (awaiteds.Flush n) ≡ true →
    ends_wait_of (done_op closing place) (FlushStart item) ≡ true
kind-flush closings.Cancel place item n is = absurd (cc)
kind-flush closings.Flush place item n is = refl
kind-flush closings.Drain place item n is = absurd (cc)

kind-drain : (closing : Closing) (place queue n : ℕ) (plug : Bool) → kind closing (awaiteds.Drain queue n) ≡ true →
    ends_wait_of (done_op closing place) (DrainStart queue plug) ≡ true
kind-drain closings.Cancel place queue n plug is = absurd (cc)
kind-drain closings.Flush place queue n plug is = absurd (cc)
kind-drain closings.Drain place queue n plug is = refl

new-kind : (s : State) (who : Who) (op : WorkOp) (w : Wait) (closing : Closing) (place : ℕ) → new_wait s who op ≡ Some w →
    kind closing w.awaited ≡ true → ends_wait_of (done_op closing place) op ≡ true
new-kind s who (Submit item named) w closing place new is = absurd (cc)
new-kind s who (Cancel item) w closing place new is = absurd (cc)
new-kind s who (CancelStart item) w closing place new is = by (running s.admissions item) new where
  by : (o : Option ℕ) → cancel_wait s.entries who o ≡ Some w → ends_wait_of (done_op closing place) (CancelStart item) ≡ true
  by None new = absurd (cc)
  by (Some n) new =
      kind-cancel closing place item n
      (ap (λ (v : Wait). kind closing v.awaited) (same_Some (wait_for s.entries who (awaiteds.Cancel n)) w new) ∙ is)
new-kind s who (CancelDone other) w closing place new is = absurd (cc)
new-kind s who (FlushStart item) w closing place new is = by (flushed_of s who item) new where
  by : (o : Option ℕ) → flush_wait s.entries who o ≡ Some w → ends_wait_of (done_op closing place) (FlushStart item) ≡ true
  by None new = absurd (cc)
  by (Some n) new =
      kind-flush closing place item n
      (ap (λ (v : Wait). kind closing v.awaited) (same_Some (wait_for s.entries who (awaiteds.Flush n)) w new) ∙ is)
new-kind s who (FlushDone other) w closing place new is = absurd (cc)
new-kind s who (Schedule item queue delay) w closing place new is = absurd (cc)
new-kind s who (Reschedule item queue delay) w closing place new is = absurd (cc)
new-kind s who (Remaining item) w closing place new is = absurd (cc)
new-kind s who (Start queue) w closing place new is = absurd (cc)
new-kind s who (DrainStart queue plug) w closing place new is = by (is_empty_and_idle s.admissions queue) new where
  by : (idle : Bool) → drain_wait idle s.entries s.queues who queue ≡ Some w →
      ends_wait_of (done_op closing place) (DrainStart queue plug) ≡ true
  by true new = absurd (cc)
  by false new =
      kind-drain closing place queue (drained_of s.queues queue) plug
      (ap (λ (v : Wait). kind closing v.awaited)
      (same_Some (wait_for s.entries who (awaiteds.Drain queue (drained_of s.queues queue))) w new) ∙ is)
new-kind s who (DrainDone other) w closing place new is = absurd (cc)
new-kind s who (Unplug queue) w closing place new is = absurd (cc)
new-kind s who (Stop queue) w closing place new is = absurd (cc)
new-kind s who (Announce ticks) w closing place new is = absurd (cc)
new-kind s who (Begin queue) w closing place new is = absurd (cc)
new-kind s who (End queue) w closing place new is = absurd (cc)

-- a Done that is answered has its start
start-of : (start : State) (h front rest : WorkHistory) (e : Entry WorkOp WorkReply) (closing : Closing) (place : ℕ) →
    IsFreshHistory start h → h ≡ front ++ e ∷ rest →
    e.op ≡ done_op closing place → may_close (state_after work_machine start front) closing e.who place ≡ true →
    HasStart front e.who e.op place
start-of start h front rest e closing place fresh parts op may =
    let s = state_after work_machine start front in
    let found = closing-of s closing e.who place may in
    let w = found.0.wait in
    let has = all-have start front (fresh-front start h front (e ∷ rest) fresh parts) found.0.index w found.0.there in
    let b = state_after work_machine start has.before in
    let new = new-parts b has.first.who has.first.op (unanswered w) has.begins in
    let at = wait-at start front w has in
    let zero_first = fresh.first in
    let w_at = found.0.at in
    record {
      before = has.before;
      since = has.since;
      first = has.first;
      parts = has.parts;
      at = omega arith;
      same = sym new.1 ∙ found.0.same;
      starts = ap (λ (o : WorkOp). ends_wait_of o has.first.op) op
          ∙ new-kind b has.first.who has.first.op (unanswered w) closing place has.begins (come-kind s closing w.awaited found.1);
      waits = waits-told b has.first.who has.first.op has.first.reply (unanswered w) has.replied has.begins;
      untold = ap (λ n. list_any (λ (f : Entry WorkOp WorkReply). is_done_of n f.op) has.since) (sym w_at)
          ∙ sym has.answered ∙ found.0.waits;
    }

done-start : (start : State) (h front rest : WorkHistory) (e : Entry WorkOp WorkReply) (place : ℕ) (op : WorkOp) →
    IsFreshHistory start h → h ≡ front ++ e ∷ rest → e.op ≡ op →
    work_reply (state_after work_machine start front) e.who op ≡ Some e.reply → is_done_of place op ≡ true →
    HasStart front e.who e.op place
done-start start h front rest e place (Submit item named) fresh parts op is done = absurd (cc)
done-start start h front rest e place (Cancel item) fresh parts op is done = absurd (cc)
done-start start h front rest e place (CancelStart item) fresh parts op is done = absurd (cc)
done-start start h front rest e place (CancelDone other) fresh parts op is done =
    let same = eqb-true place other done in
    let may = (said-where (may_close (state_after work_machine start front) closings.Cancel e.who other)
    (replies.Truth true) e.reply is).0 in
    start-of start h front rest e closings.Cancel place fresh parts (op
    ∙ ap CancelDone (sym same)) (ap (may_close (state_after work_machine start front) closings.Cancel e.who) same ∙ may)
done-start start h front rest e place (FlushStart item) fresh parts op is done = absurd (cc)
done-start start h front rest e place (FlushDone other) fresh parts op is done =
    let same = eqb-true place other done in
    let may = (said-where (may_close (state_after work_machine start front) closings.Flush e.who other)
    (replies.Truth true) e.reply is).0 in
    start-of start h front rest e closings.Flush place fresh parts (op
    ∙ ap FlushDone (sym same)) (ap (may_close (state_after work_machine start front) closings.Flush e.who) same ∙ may)
done-start start h front rest e place (Schedule item queue delay) fresh parts op is done = absurd (cc)
done-start start h front rest e place (Reschedule item queue delay) fresh parts op is done = absurd (cc)
done-start start h front rest e place (Remaining item) fresh parts op is done = absurd (cc)
done-start start h front rest e place (Start queue) fresh parts op is done = absurd (cc)
done-start start h front rest e place (DrainStart queue plug) fresh parts op is done = absurd (cc)
done-start start h front rest e place (DrainDone other) fresh parts op is done =
    let same = eqb-true place other done in
    let may = (said-where (may_close (state_after work_machine start front) closings.Drain e.who other) (replies.Number 1)
    e.reply is).0 in
    start-of start h front rest e closings.Drain place fresh parts (op
    ∙ ap DrainDone (sym same)) (ap (may_close (state_after work_machine start front) closings.Drain e.who) same ∙ may)
done-start start h front rest e place (Unplug queue) fresh parts op is done = absurd (cc)
done-start start h front rest e place (Stop queue) fresh parts op is done = absurd (cc)
done-start start h front rest e place (Announce ticks) fresh parts op is done = absurd (cc)
done-start start h front rest e place (Begin queue) fresh parts op is done = absurd (cc)
done-start start h front rest e place (End queue) fresh parts op is done = absurd (cc)

pub done_has_its_start : OfEach DoneHasItsStart
done_has_its_start start h fresh front rest e place parts done =
    done-start start h front rest e place e.op fresh parts refl (entry-replied start h front rest e fresh parts) done

-- a wait whose Done hasn't come, and what it awaits has
may-end : (start : State) (h before since : WorkHistory) (first : Entry WorkOp WorkReply) (who : Who) (closing : Closing)
    (a : Awaited) → IsFreshHistory start h → h ≡ before ++ first ∷ since →
    new_wait (state_after work_machine start before) first.who first.op
    ≡ Some (wait_for (state_after work_machine start before).entries first.who a) → who.number ≡ first.who.number →
    list_any (λ (e : Entry WorkOp WorkReply). is_done_of (length before) e.op) since ≡ false →
    has_come (state_after work_machine start h).admissions (state_after work_machine start h).queues closing a ≡ true →
    may_close (state_after work_machine start h) closing who (length before) ≡ true
may-end start h before since first_one who closing a fresh parts new same untold come =
    let s = state_after work_machine start before in
    let t = state_after work_machine start h in
    let w = wait_for s.entries first_one.who a in
    let found = has-wait start before since first_one w new in
    let v = found.1 in
    let there : slice_get t.waits found.0 ≡ Some v =
    ap (λ (l : WorkHistory). slice_get (state_after work_machine start l).waits found.0) parts ∙ found.2 in
    let has = all-have start h fresh found.0 v there in
    let long = entries-after start before in
    let v_at : v.place ≡ start.entries + length before = found.3 ∙ long in
    let is = same-start start h v before since first_one parts v_at has in
    let begun : Some (unanswered v) ≡ Some w =
    sym has.begins ∙ ap (λ (b : WorkHistory). new_wait (state_after work_machine start b) has.first.who has.first.op) is.0
    ∙ ap (λ (e : Entry WorkOp WorkReply). new_wait s e.who e.op) is.1 ∙ new in
    let v_is = same_Some (unanswered v) w begun in
    let zero_first = fresh.first in
    let place : v.place ≡ length before = omega arith in
    let player : v.player ≡ who.number = ap (λ (u : Wait). u.player) v_is ∙ sym same in
    let unsaid : v.answered ≡ false =
    has.answered ∙ ap (λ n. list_any (λ (e : Entry WorkOp WorkReply). is_done_of n e.op) has.since) place
    ∙ ap (λ (l : WorkHistory). list_any (λ (e : Entry WorkOp WorkReply). is_done_of (length before) e.op) l) is.2 ∙ untold in
    let awaits : v.awaited ≡ a = ap (λ (u : Wait). u.awaited) v_is in
    let two = and_from (v.place == length before) (v.player == who.number) (eq-eqb v.place (length before) place)
    (eq-eqb v.player who.number player) in
    let three = and_from ((v.place == length before) && (v.player == who.number)) (not v.answered) two (ap not unsaid) in
    let all = and_from (is_unanswered (length before) who.number v) (has_come t.admissions t.queues closing v.awaited)
    three (ap (has_come t.admissions t.queues closing) awaits ∙ come) in
    at-any (closes (has_come t.admissions t.queues closing) who (length before)) t.waits found.0 v there all

-- an admission whose life passes
passes-life : (p : Life → Bool) (xs : List Admission) (n : ℕ) (life : Life) →
    option_map (λ (a : Admission). a.life) (slice_get xs n) ≡ Some life → p life ≡ true →
    passes_at (λ (a : Admission). p a.life) xs n ≡ true
passes-life p xs n life is passes = by (slice_get xs n) is where
  by : (o : Option Admission) → option_map (λ (a : Admission). a.life) o ≡ Some life →
      option_map_or (λ (a : Admission). p a.life) o false ≡ true
  by None is = absurd (cc)
  by (Some a) is = ap p (same_Some a.life life is) ∙ passes

-- the drainings of a queue that drains, until it rests
abbrev Goes : State → ℕ → ℕ → Type 0
Goes t queue count = (r : Queue) × (slice_get t.queues queue ≡ Some r)
    × (((r.draining ≡ true) × (count ≤ r.drained)) ⊎ (count < r.drained))

more : (d e : Bool) (was now count : ℕ) → now ≡ was + cond (d && not e) 1 0 →
    ((d ≡ true) × (count ≤ was)) ⊎ (count < was) → ((e ≡ true) × (count ≤ now)) ⊎ (count < now)
more true true was now count is (inl goes) = let le = goes.1 in inl (refl, omega arith)
more true false was now count is (inl goes) = let le = goes.1 in inr (omega arith)
more false e was now count is (inl goes) = absurd (false≢true goes.0)
more true true was now count is (inr less) = inr (omega arith)
more true false was now count is (inr less) = inr (omega arith)
more false e was now count is (inr less) = inr (omega arith)

goes-next : (s : State) (who : Who) (op : WorkOp) (queue count : ℕ) → Goes s queue count → Goes (work_next s who op) queue count
goes-next s who op queue count it =
    let r = queue_next s op queue it.0 in (
      r,
      queues-next s who op queue ∙ ap (option_map (queue_next s op queue)) it.1,
      more it.0.draining r.draining it.0.drained r.drained count (counted-next s op queue it.0) it.2,
    )

goes-after : (s : State) (h : WorkHistory) (queue count : ℕ) → Goes s queue count →
    Goes (state_after work_machine s h) queue count
goes-after s [] queue count it = it
goes-after s (e ∷ es) queue count it = goes-after (work_next s e.who e.op) es queue count (goes-next s e.who e.op queue count it)

more-next : (s : State) (who : Who) (op : WorkOp) (queue count : ℕ) → count < drained_of s.queues queue →
    count < drained_of (work_next s who op).queues queue
more-next s who op queue count less = by (slice_get s.queues queue) refl less where
  by : (o : Option Queue) → slice_get s.queues queue ≡ o → count < option_map_or (λ (q : Queue). q.drained) o 0 →
      count < drained_of (work_next s who op).queues queue
  by None at less = absurd (omega arith)
  by (Some q) at less =
      let r = queue_next s op queue q in
      let there : drained_of (work_next s who op).queues queue ≡ r.drained =
      ap (λ (o : Option Queue). option_map_or (λ (q : Queue). q.drained) o 0) (queues-next s who op queue
      ∙ ap (option_map (queue_next s op queue)) at) in
      let counts = counted-next s op queue q in
      omega arith

more-after : (s : State) (h : WorkHistory) (queue count : ℕ) → count < drained_of s.queues queue →
    count < drained_of (state_after work_machine s h).queues queue
more-after s [] queue count less = less
more-after s (e ∷ es) queue count less =
    more-after (work_next s e.who e.op) es queue count (more-next s e.who e.op queue count less)

-- a queue that an entry names is there
named-in_range : (P : Entry WorkOp WorkReply → Type 0) (before since : WorkHistory) (e : Entry WorkOp WorkReply) →
    All P (before ++ e ∷ since) → P e
named-in_range P [] since e all = All-head P e since all
named-in_range P (x ∷ xs) since e all = named-in_range P xs since e (All-tail P x (xs ++ e ∷ since) all)

queue-after : (s : State) (h : WorkHistory) (queue : ℕ) (q : Queue) → slice_get s.queues queue ≡ Some q →
    (r : Queue) × (slice_get (state_after work_machine s h).queues queue ≡ Some r)
queue-after s [] queue q at = (q, at)
queue-after s (e ∷ es) queue q at = queue-after (work_next s e.who e.op) es queue (queue_next s e.op queue q)
    (queues-next s e.who e.op queue ∙ ap (option_map (queue_next s e.op queue)) at)

queue-there : (qs : List Queue) (queue : ℕ) → ltb queue (length qs) ≡ true → (q : Queue) × (slice_get qs queue ≡ Some q)
queue-there qs queue is = by (slice_get_cases qs queue).1 where
  by : ((q : Queue) × (queue < length qs) × (slice_get qs queue ≡ Some q)
      × (Rattle.std.proofs.Common.get_or qs queue q ≡ q)) ⊎ ((length qs ≤ queue) × (slice_get qs queue ≡ None)) →
      (q : Queue) × (slice_get qs queue ≡ Some q)
  by (inl it) = (it.0, it.2)
  by (inr past) = let below = ltb-true queue (length qs) is in let above = past.0 in absurd (omega arith)

-- the drainings counted since the start of a drain that waits
drained-since : (start : State) (h before soon late : WorkHistory) (first : Entry WorkOp WorkReply) (queue : ℕ)
    (plug : Bool) → IsFreshHistory start h → h ≡ before ++ first ∷ (soon ++ late) →
    first.op ≡ DrainStart queue plug → is_empty_and_idle (state_after work_machine start before).admissions queue ≡ false →
    is_empty_and_idle (state_after work_machine start (before ++ first ∷ soon)).admissions queue ≡ true →
    drained_of (state_after work_machine start before).queues queue < drained_of (state_after work_machine start h).queues queue
drained-since start h before soon late first_one queue plug fresh parts op busy rests =
    subst (λ (u : State). drained_of s.queues queue < drained_of u.queues queue) (sym whole)
    (more-after m late queue (drained_of s.queues queue) at_rest) where
      s : State
      s = state_after work_machine start before

      t : State
      t = work_next s first_one.who (DrainStart queue plug)

      m : State
      m = state_after work_machine t soon

      m_is : state_after work_machine start (before ++ first_one ∷ soon) ≡ m
      m_is = state_after-append work_machine start before (first_one ∷ soon)
          ∙ ap (λ (o : WorkOp). state_after work_machine (work_next s first_one.who o) soon) op

      whole : state_after work_machine start h ≡ state_after work_machine m late
      whole =
          ap (state_after work_machine start) parts ∙ state_after-append work_machine start before (first_one ∷ (soon ++ late))
          ∙ ap (λ (o : WorkOp). state_after work_machine (work_next s first_one.who o) (soon ++ late)) op
          ∙ state_after-append work_machine t soon late

      fresh_before : IsFreshHistory start before
      fresh_before = fresh-front start h before (first_one ∷ (soon ++ late)) fresh parts

      fresh_soon : IsFreshHistory start (before ++ first_one ∷ soon)
      fresh_soon = fresh-front start h (before ++ first_one ∷ soon) late fresh (parts
          ∙ sym (append_assoc before (first_one ∷ soon) late))

      keep : AllKeep s
      keep = AllKeep-after start before (AllKeep-fresh start before fresh_before)

      keep_soon : AllKeep m
      keep_soon = subst AllKeep m_is
          (AllKeep-after start (before ++ first_one ∷ soon) (AllKeep-fresh start (before ++ first_one ∷ soon) fresh_soon))

      ranged : ltb queue (length start.queues) ≡ true
      ranged =
          let all = subst (All (λ (e : Entry WorkOp WorkReply). in_range start e.op ≡ true)) parts fresh.work.legal.2 in
          ap (in_range start) (sym op)
          ∙ named-in_range (λ (e : Entry WorkOp WorkReply). in_range start e.op ≡ true) before (soon ++ late) first_one all

      q : (r : Queue) × (slice_get s.queues queue ≡ Some r)
      q = let it = queue-there start.queues queue ranged in queue-after start before queue it.0 it.1

      r : Queue
      r = queue_next s (DrainStart queue plug) queue q.0

      r_at : slice_get t.queues queue ≡ Some r
      r_at = queues-next s first_one.who (DrainStart queue plug) queue
          ∙ ap (option_map (queue_next s (DrainStart queue plug) queue)) q.1

      r_drains : r.draining ≡ true
      r_drains = drained-start s first_one.who queue plug r keep r_at ∙ ap not busy

      count : drained_of s.queues queue ≡ q.0.drained
      count = ap (λ (o : Option Queue). option_map_or (λ (q : Queue). q.drained) o 0) q.1

      goes : Goes t queue (drained_of s.queues queue)
      goes =
          let counts = counted-next s (DrainStart queue plug) queue q.0 in
          let is = count in
          (r, r_at, inl (r_drains, omega arith))

      at_rest : drained_of s.queues queue < drained_of m.queues queue
      at_rest = by (goes-after t soon queue (drained_of s.queues queue) goes) where
        by : Goes m queue (drained_of s.queues queue) → drained_of s.queues queue < drained_of m.queues queue
        by it = which it.2 where
          there : drained_of m.queues queue ≡ it.0.drained
          there = ap (λ (o : Option Queue). option_map_or (λ (q : Queue). q.drained) o 0) it.1

          which : ((it.0.draining ≡ true) × (drained_of s.queues queue ≤ it.0.drained))
              ⊎ (drained_of s.queues queue < it.0.drained) → drained_of s.queues queue < drained_of m.queues queue
          which (inl drains) =
              absurd (false≢true (sym ((keep_soon queue it.0 it.1).until drains.0)
              ∙ ap (λ (u : State). is_empty_and_idle u.admissions queue) (sym m_is) ∙ rests))
          which (inr less) = let is = there in omega arith

-- what is told to be done, by the operation that started it
told-where : (b : Bool) (said : WorkReply) → b ≡ true → (reply : WorkReply) × (cond b (Some said) None ≡ Some reply)
told-where b said is = (said, ap (λ c. cond c (Some said) None) is)

may-done : (start : State) (h before since : WorkHistory) (first : Entry WorkOp WorkReply) (who : Who) (op : WorkOp) →
    IsFreshHistory start h → h ≡ before ++ first ∷ since → first.op ≡ op →
    has_to_wait first.reply ≡ true → who.number ≡ first.who.number →
    list_any (λ (e : Entry WorkOp WorkReply). is_done_of (length before) e.op) since ≡ false →
    HasCome start before first since op → MayGoOn start h who (done_for op (length before))
may-done start h before since first_one who (Submit item named) fresh parts op waits same untold come = absurd come
may-done start h before since first_one who (Cancel item) fresh parts op waits same untold come = absurd come
may-done start h before since first_one who (CancelStart item) fresh parts op waits same untold come =
    let s = state_after work_machine start before in
    let t = state_after work_machine start h in
    let new : new_wait s first_one.who first_one.op ≡ Some (wait_for s.entries first_one.who (awaiteds.Cancel come.0)) =
    ap (new_wait s first_one.who) op ∙ ap (cancel_wait s.entries first_one.who) come.1 in
    let life = ap (λ (l : WorkHistory). option_map (λ (a : Admission). a.life)
    (slice_get (state_after work_machine start l).admissions come.0)) parts ∙ come.2 in
    told-where (may_close t closings.Cancel who (length before)) (replies.Truth true)
    (may-end start h before since first_one who closings.Cancel (awaiteds.Cancel come.0) fresh parts new same untold
    (passes-life is_ended t.admissions come.0 Ended life refl))
may-done start h before since first_one who (CancelDone place) fresh parts op waits same untold come = absurd come
may-done start h before since first_one who (FlushStart item) fresh parts op waits same untold come =
    let s = state_after work_machine start before in
    let t = state_after work_machine start h in
    let replied = ap (work_reply s first_one.who) (sym op) ∙ entry-replied start h before since first_one fresh parts in
    let found : flushed_of s first_one.who item ≡ Some come.0 =
    names (flushed_of s first_one.who item)
    (same_Some (flush_start_reply (flushed_of s first_one.who item)) first_one.reply replied ∙ come.1) in
    let new : new_wait s first_one.who first_one.op ≡ Some (wait_for s.entries first_one.who (awaiteds.Flush come.0)) =
    ap (new_wait s first_one.who) op ∙ ap (flush_wait s.entries first_one.who) found in
    let over = ap (λ (l : WorkHistory).
    option_map is_open (option_map (λ (a : Admission). a.life)
    (slice_get (state_after work_machine start l).admissions come.0))) parts ∙ come.2 in
    told-where (may_close t closings.Flush who (length before)) (replies.Truth true)
    (may-end start h before since first_one who closings.Flush (awaiteds.Flush come.0) fresh parts new same untold
    (closed (slice_get t.admissions come.0) over)) where
      names : {n : ℕ} (o : Option ℕ) → flush_start_reply o ≡ replies.WaitFor n → o ≡ Some n
      names None is = absurd (cc)
      names {n} (Some k) is = ap Some (inner k is) where
        inner : (k : ℕ) → replies.WaitFor k ≡ replies.WaitFor n → k ≡ n
        inner k is = cc

      closed : (o : Option Admission) → option_map is_open (option_map (λ (a : Admission). a.life) o) ≡ Some false →
          option_map_or (λ (a : Admission). not (is_open a.life)) o false ≡ true
      closed None is = absurd (cc)
      closed (Some a) is = ap not (same_Some (is_open a.life) false is)
may-done start h before since first_one who (FlushDone place) fresh parts op waits same untold come = absurd come
may-done start h before since first_one who (Schedule item queue delay) fresh parts op waits same untold come = absurd come
may-done start h before since first_one who (Reschedule item queue delay) fresh parts op waits same untold come = absurd come
may-done start h before since first_one who (Remaining item) fresh parts op waits same untold come = absurd come
may-done start h before since first_one who (Start queue) fresh parts op waits same untold come = absurd come
may-done start h before since first_one who (DrainStart queue plug) fresh parts op waits same untold come =
    let s = state_after work_machine start before in
    let t = state_after work_machine start h in
    let replied = ap (work_reply s first_one.who) (sym op) ∙ entry-replied start h before since first_one fresh parts in
    let busy : is_empty_and_idle s.admissions queue ≡ false =
    idle (is_empty_and_idle s.admissions queue)
    (ap has_to_wait (same_Some (drain_reply (is_empty_and_idle s.admissions queue)) first_one.reply replied) ∙ waits) in
    let count = drained_of s.queues queue in
    let new : new_wait s first_one.who first_one.op ≡ Some (wait_for s.entries first_one.who (awaiteds.Drain queue count)) =
    ap (new_wait s first_one.who) op ∙ ap (λ b. drain_wait b s.entries s.queues first_one.who queue) busy in
    let whole : h ≡ before ++ first_one ∷ (come.0 ++ come.1) = parts ∙ ap (λ (l : WorkHistory). before ++ first_one ∷ l) come.2 in
    let less = drained-since start h before come.0 come.1 first_one queue plug fresh whole op busy come.3 in
    told-where (may_close t closings.Drain who (length before)) (replies.Number 1)
    (may-end start h before since first_one who closings.Drain (awaiteds.Drain queue count) fresh parts new same untold
    (below count (drained_of t.queues queue) less)) where
      idle : (b : Bool) → has_to_wait (drain_reply b) ≡ true → b ≡ false
      idle true is = absurd (false≢true is)
      idle false is = refl

      below : (m n : ℕ) → m < n → ltb m n ≡ true
      below m n less = grind (arith, nat_tests)
may-done start h before since first_one who (DrainDone place) fresh parts op waits same untold come = absurd come
may-done start h before since first_one who (Unplug queue) fresh parts op waits same untold come = absurd come
may-done start h before since first_one who (Stop queue) fresh parts op waits same untold come = absurd come
may-done start h before since first_one who (Announce ticks) fresh parts op waits same untold come = absurd come
may-done start h before since first_one who (Begin queue) fresh parts op waits same untold come = absurd come
may-done start h before since first_one who (End queue) fresh parts op waits same untold come = absurd come

pub may_be_done : OfEach MayBeDone
may_be_done start h fresh before since first_one who parts waits same untold come =
    may-done start h before since first_one who first_one.op fresh parts refl waits same untold come
