-- What one entry makes of each queue.
use Rattle.std.proofs.Common.{◌≡◌, ℕ, zero, suc, ◌+◌, Bool, true, false, not, ◌&&◌, ◌||◌, cond, eqb, Option, Some, None, option_map, List, [], ◌∷◌, slice_get, refl, sym, ap, subst, ◌∙◌, add-zero, arith}
use Rattle.std.specs.Option.{option_map_or}
use Rattle.std.proofs.Math.Bool.{or-false}
use Rattle.std.proofs.lemmas.Bool.{eqb-true, eq-eqb, false≢true}
use Rattle.std.proofs.lemmas.Bool.Decides.{nat_tests}
use Rattle.std.proofs.lemmas.Iterator.Adapters.{option_map_id}
use Rattle.std.proofs.lemmas.Option.{same_Some}
use Rattle.zk_base.specs.declared.ids.Who.{Who}
use Rattle.zk_base.specs.Legal.{state_after}
use Rattle.zk_model_work.specs.declared.parts.Queue.{Queue}
use Rattle.zk_model_work.specs.declared.parts.Change.{Change}
use Rattle.zk_model_work.specs.declared.parts.Change.TheVariants as changes
use Rattle.zk_model_work.specs.declared.ops.WorkOp.{WorkOp}
use Rattle.zk_model_work.specs.declared.ops.WorkOp.TheVariants.{Submit, Cancel, CancelStart, CancelDone, FlushStart, FlushDone, Schedule, Reschedule, Remaining, Start, DrainStart, DrainDone, Unplug, Stop, Announce, Begin, End}
use Rattle.zk_model_work.specs.declared.ops.WorkReply.{WorkReply}
use Rattle.zk_model_work.specs.declared.ops.WorkReply.TheVariants as replies
use Rattle.zk_model_work.specs.Questions.{is_empty_and_idle}
use Rattle.zk_model_work.specs.State.{State}
use Rattle.zk_model_work.specs.Machine.{work_reply, work_next, work_machine, disarm, drop_waiting, end_run, settle_one, changed_queue, change, change_where, drain}
use Rattle.zk_model_work.specs.Answers.{start_reply, is_started, unplug_reply, stop_reply, drain_reply}
use Rattle.zk_model_work.specs.Histories.{WorkHistory, IsFreshHistory, OfEach, drains, plug_after, started_after}
use Rattle.zk_model_work.specs.Laws.{StartedStays, PluggedAsAsked, StartTells, StopTells, DrainTells, DrainingStays}
use Rattle.zk_model_work.proofs.Moves.{schedule-keeps, delayed-keeps}
use Rattle.zk_model_work.proofs.Drains.{Keeps, AllKeep, AllKeep-next, AllKeep-after, AllKeep-fresh, settled-at, may_stop}
use Rattle.zk_model_work.proofs.Entries.{at_each, at_each_in}

AllKeep-history : (start : State) (h : WorkHistory) → IsFreshHistory start h → AllKeep (state_after work_machine start h)
AllKeep-history start h fresh = AllKeep-after start h (AllKeep-fresh start h fresh)

-- a change of the queue of one number, where it is asked for, read at each number
changed-get : (c : Change) (qs : List Queue) (k m : ℕ) →
    slice_get (change c qs k) m ≡ option_map (λ (q : Queue). cond (eqb m k) (changed_queue c q) q) (slice_get qs m)
changed-get c [] k m = refl
changed-get c (q ∷ qs) zero zero = refl
changed-get c (q ∷ qs) zero (suc m) =
    let apart : false ≡ eqb (suc m) 0 = grind (arith, nat_tests) in
    sym (option_map_id (slice_get qs m))
    ∙ ap (λ b. option_map (λ (q : Queue). cond b (changed_queue c q) q) (slice_get qs m)) apart
changed-get c (q ∷ qs) (suc k) zero =
    let apart : false ≡ eqb 0 (suc k) = grind (arith, nat_tests) in
    ap (λ b. Some (cond b (changed_queue c q) q)) apart
changed-get c (q ∷ qs) (suc k) (suc m) =
    let same : eqb m k ≡ eqb (suc m) (suc k) = grind (arith, nat_tests) in
    changed-get c qs k m ∙ ap (λ b. option_map (λ (q : Queue). cond b (changed_queue c q) q) (slice_get qs m)) same

changed-where : (asked : Bool) (c : Change) (qs : List Queue) (k m : ℕ) →
    slice_get (change_where asked c qs k) m ≡ option_map (λ (q : Queue). cond (asked && eqb m k) (changed_queue c q) q)
    (slice_get qs m)
changed-where false c qs k m = sym (option_map_id (slice_get qs m))
changed-where true c qs k m = changed-get c qs k m

option_map-twice : (f g : Queue → Queue) (o : Option Queue) →
    option_map f (option_map g o) ≡ option_map (λ (q : Queue). f (g q)) o
option_map-twice f g None = refl
option_map-twice f g (Some q) = refl

-- what an operation makes of the queue of this number
abbrev with_plug : Bool → Queue → Queue
with_plug b q = cond b (changed_queue changes.Plug q) q

abbrev draining_more : Bool → Queue → Queue
draining_more b q = cond b (changed_queue changes.Drain q) q

abbrev pub queue_next : State → WorkOp → ℕ → Queue → Queue
queue_next s (Cancel item) n q = settle_one (is_empty_and_idle (drop_waiting s.admissions item)) n q
queue_next s (CancelStart item) n q = settle_one (is_empty_and_idle (drop_waiting s.admissions item)) n q
queue_next s (Start k) n q = cond (eqb n k) (changed_queue changes.Start q) q
queue_next s (DrainStart k plug) n q = draining_more (not (is_empty_and_idle s.admissions k) && eqb n k)
    (with_plug (plug && eqb n k) q)
queue_next s (Unplug k) n q = cond (eqb n k) (changed_queue changes.Unplug q) q
queue_next s (Stop k) n q = cond (may_stop s k && eqb n k) (changed_queue changes.Stop q) q
queue_next s (End k) n q = settle_one (is_empty_and_idle (end_run s.admissions k)) n q
queue_next s op n q = q

settled-get : (idle : ℕ → Bool) (qs : List Queue) (n : ℕ) →
    slice_get (Rattle.zk_model_work.specs.Machine.settle_from idle 0 qs) n ≡ option_map (settle_one idle n) (slice_get qs n)
settled-get idle qs n = let same : 0 + n ≡ n = omega arith in settled-at idle 0 qs n
    ∙ ap (λ m. option_map (settle_one idle m) (slice_get qs n)) same

pub queues-next : (s : State) (who : Who) (op : WorkOp) (n : ℕ) →
    slice_get (work_next s who op).queues n ≡ option_map (queue_next s op n) (slice_get s.queues n)
queues-next s who (Submit item named) n = sym (option_map_id (slice_get s.queues n))
queues-next s who (Cancel item) n = settled-get (is_empty_and_idle (drop_waiting s.admissions item)) s.queues n
queues-next s who (CancelStart item) n = settled-get (is_empty_and_idle (drop_waiting s.admissions item)) s.queues n
queues-next s who (CancelDone place) n = sym (option_map_id (slice_get s.queues n))
queues-next s who (FlushStart item) n = sym (option_map_id (slice_get s.queues n))
queues-next s who (FlushDone place) n = sym (option_map_id (slice_get s.queues n))
queues-next s who (Schedule item k delay) n =
    let same = sym (option_map_id (slice_get s.queues n)) in
    schedule-keeps (λ t. slice_get t.queues n ≡ option_map (λ (q : Queue). q) (slice_get s.queues n)) s who item k delay
    same same (λ free later. same)
queues-next s who (Reschedule item k delay) n =
    let same = sym (option_map_id (slice_get s.queues n)) in
    delayed-keeps (λ t. slice_get t.queues n ≡ option_map (λ (q : Queue). q) (slice_get s.queues n))
    (record s { arms = disarm s.arms item }) who item k delay same (λ later. same)
queues-next s who (Remaining item) n = sym (option_map_id (slice_get s.queues n))
queues-next s who (Start k) n = changed-where true changes.Start s.queues k n
queues-next s who (DrainStart k plug) n =
    let busy = not (is_empty_and_idle s.admissions k) in
    changed-where busy changes.Drain (change_where plug changes.Plug s.queues k) k n
    ∙ ap (option_map (draining_more (busy && eqb n k))) (changed-where plug changes.Plug s.queues k n)
    ∙ option_map-twice (draining_more (busy && eqb n k)) (with_plug (plug && eqb n k)) (slice_get s.queues n)
queues-next s who (DrainDone place) n = sym (option_map_id (slice_get s.queues n))
queues-next s who (Unplug k) n = changed-where true changes.Unplug s.queues k n
queues-next s who (Stop k) n = changed-where (may_stop s k) changes.Stop s.queues k n
queues-next s who (Announce ticks) n = sym (option_map_id (slice_get s.queues n))
queues-next s who (Begin k) n = sym (option_map_id (slice_get s.queues n))
queues-next s who (End k) n = settled-get (is_empty_and_idle (end_run s.admissions k)) s.queues n

queue-is : (s : State) (who : Who) (op : WorkOp) (n : ℕ) (q r : Queue) → slice_get s.queues n ≡ Some q →
    slice_get (work_next s who op).queues n ≡ Some r → queue_next s op n q ≡ r
queue-is s who op n q r at there = same_Some (queue_next s op n q) r (sym (ap (option_map (queue_next s op n)) at)
    ∙ sym (queues-next s who op n) ∙ there)

-- a part of a queue that a change leaves
part-cond : {A : Type 0} (f : Queue → A) (b : Bool) (x y : Queue) → f x ≡ f y → f (cond b x y) ≡ f y
part-cond f true x y same = same
part-cond f false x y same = refl

-- a part of the queues that no operation changes
part-next : {A : Type 0} (f : Queue → A) → ((q : Queue) → f (changed_queue changes.Start q) ≡ f q) →
    ((q : Queue) → f (changed_queue changes.Plug q) ≡ f q) →
    ((q : Queue) → f (changed_queue changes.Unplug q) ≡ f q) → ((q : Queue) → f (changed_queue changes.Stop q) ≡ f q) →
    ((q : Queue) → f (changed_queue changes.Drain q) ≡ f q) →
    ((q : Queue) → f (record q { draining = false; drained = q.drained + 1 }) ≡ f q) →
    (s : State) (op : WorkOp) (n : ℕ) (q : Queue) → f (queue_next s op n q) ≡ f q
part-next f st pl un sp dr se s (Submit item named) n q = refl
part-next f st pl un sp dr se s (Cancel item) n q =
    part-cond f (q.draining && is_empty_and_idle (drop_waiting s.admissions item) n)
    (record q { draining = false; drained = q.drained + 1 }) q (se q)
part-next f st pl un sp dr se s (CancelStart item) n q =
    part-cond f (q.draining && is_empty_and_idle (drop_waiting s.admissions item) n)
    (record q { draining = false; drained = q.drained + 1 }) q (se q)
part-next f st pl un sp dr se s (CancelDone place) n q = refl
part-next f st pl un sp dr se s (FlushStart item) n q = refl
part-next f st pl un sp dr se s (FlushDone place) n q = refl
part-next f st pl un sp dr se s (Schedule item k delay) n q = refl
part-next f st pl un sp dr se s (Reschedule item k delay) n q = refl
part-next f st pl un sp dr se s (Remaining item) n q = refl
part-next f st pl un sp dr se s (Start k) n q = part-cond f (eqb n k) (changed_queue changes.Start q) q (st q)
part-next f st pl un sp dr se s (DrainStart k plug) n q =
    let p = with_plug (plug && eqb n k) q in
    part-cond f (not (is_empty_and_idle s.admissions k) && eqb n k) (changed_queue changes.Drain p) p (dr p)
    ∙ part-cond f (plug && eqb n k) (changed_queue changes.Plug q) q (pl q)
part-next f st pl un sp dr se s (DrainDone place) n q = refl
part-next f st pl un sp dr se s (Unplug k) n q = part-cond f (eqb n k) (changed_queue changes.Unplug q) q (un q)
part-next f st pl un sp dr se s (Stop k) n q = part-cond f (may_stop s k && eqb n k) (changed_queue changes.Stop q) q (sp q)
part-next f st pl un sp dr se s (Announce ticks) n q = refl
part-next f st pl un sp dr se s (Begin k) n q = refl
part-next f st pl un sp dr se s (End k) n q = part-cond f (q.draining && is_empty_and_idle (end_run s.admissions k) n)
    (record q { draining = false; drained = q.drained + 1 }) q (se q)

settled-part : {A : Type 0} (f : Queue → A) (idle : ℕ → Bool) (n : ℕ) (q : Queue) →
    f (record q { draining = false; drained = q.drained + 1 }) ≡ f q → f (settle_one idle n q) ≡ f q
settled-part f idle n q same = part-cond f (q.draining && idle n) (record q { draining = false; drained = q.drained + 1 }) q same

-- who is started

-- where a stop is answered by whether the queue was started, and may be stopped
abbrev stop_told : Bool → Bool → WorkReply
stop_told started may = cond (not started) replies.Already (cond may replies.Done replies.Busy)

stop-next : (n k : ℕ) (q : Queue) (started may here : Bool) → eqb n k ≡ here → (here ≡ true → q.started ≡ started) →
    (cond (may && here) (changed_queue changes.Stop q) q).started
    ≡ started_after n (Stop k) (stop_told started may) q.started
stop-next n k q true true true here same = and-false q.started ∙ ap (λ b. q.started && not b) (sym here) where
  and-false : (b : Bool) → false ≡ (b && false)
  and-false true = refl
  and-false false = refl
stop-next n k q true true false here same = and-true q.started ∙ ap (λ b. q.started && not b) (sym here) where
  and-true : (b : Bool) → b ≡ (b && true)
  and-true true = refl
  and-true false = refl
stop-next n k q true false here is same = refl
stop-next n k q false true true here same = sym (same refl)
stop-next n k q false true false here same = refl
stop-next n k q false false here is same = refl

started-next : (s : State) (who : Who) (op : WorkOp) (reply : WorkReply) (n : ℕ) (q : Queue) →
    work_reply s who op ≡ Some reply → slice_get s.queues n ≡ Some q →
    (queue_next s op n q).started ≡ started_after n op reply q.started
started-next s who (Submit item named) reply n q is at = refl
started-next s who (Cancel item) reply n q is at =
    settled-part (λ (p : Queue). p.started) (is_empty_and_idle (drop_waiting s.admissions item)) n q refl
started-next s who (CancelStart item) reply n q is at =
    settled-part (λ (p : Queue). p.started) (is_empty_and_idle (drop_waiting s.admissions item)) n q refl
started-next s who (CancelDone place) reply n q is at = refl
started-next s who (FlushStart item) reply n q is at = refl
started-next s who (FlushDone place) reply n q is at = refl
started-next s who (Schedule item k delay) reply n q is at = refl
started-next s who (Reschedule item k delay) reply n q is at = refl
started-next s who (Remaining item) reply n q is at = refl
started-next s who (Start k) reply n q is at = by (eqb n k) where
  or-true : (b : Bool) → true ≡ (b || true)
  or-true true = refl
  or-true false = refl

  by : (b : Bool) → (cond b (changed_queue changes.Start q) q).started ≡ (q.started || b)
  by true = or-true q.started
  by false = sym (or-false q.started)
started-next s who (DrainStart k plug) reply n q is at =
    let p = with_plug (plug && eqb n k) q in
    part-cond (λ (p : Queue). p.started) (not (is_empty_and_idle s.admissions k) && eqb n k)
    (changed_queue changes.Drain p) p refl
    ∙ part-cond (λ (p : Queue). p.started) (plug && eqb n k) (changed_queue changes.Plug q) q refl
started-next s who (DrainDone place) reply n q is at = refl
started-next s who (Unplug k) reply n q is at =
    part-cond (λ (p : Queue). p.started) (eqb n k) (changed_queue changes.Unplug q) q refl
started-next s who (Stop k) reply n q is at =
    stop-next n k q (is_started s.queues k) (may_stop s k) (eqb n k) refl
    (λ here. sym (ap (λ (o : Option Queue). option_map_or (λ (p : Queue). p.started) o false) at)
    ∙ ap (is_started s.queues) (eqb-true n k here))
    ∙ ap (λ r. started_after n (Stop k) r q.started)
    (same_Some (stop_reply (is_empty_and_idle s.admissions k) s.queues k) reply is)
started-next s who (Announce ticks) reply n q is at = refl
started-next s who (Begin k) reply n q is at = refl
started-next s who (End k) reply n q is at =
    settled-part (λ (p : Queue). p.started) (is_empty_and_idle (end_run s.admissions k)) n q refl

pub started_stays : OfEach StartedStays
started_stays = at_each _ (λ s e is queue q at. (
  queue_next s e.op queue q,
  queues-next s e.who e.op queue ∙ ap (option_map (queue_next s e.op queue)) at,
  part-next (λ (p : Queue). p.worker) (λ q. refl) (λ q. refl) (λ q. refl) (λ q. refl) (λ q. refl) (λ q. refl) s e.op queue q,
  started-next s e.who e.op e.reply queue q is at,
))

-- who is plugged
plugged-next : (s : State) (op : WorkOp) (n : ℕ) (q : Queue) → (queue_next s op n q).plugged ≡ plug_after n op q.plugged
plugged-next s (Submit item named) n q = refl
plugged-next s (Cancel item) n q =
    settled-part (λ (p : Queue). p.plugged) (is_empty_and_idle (drop_waiting s.admissions item)) n q refl
plugged-next s (CancelStart item) n q =
    settled-part (λ (p : Queue). p.plugged) (is_empty_and_idle (drop_waiting s.admissions item)) n q refl
plugged-next s (CancelDone place) n q = refl
plugged-next s (FlushStart item) n q = refl
plugged-next s (FlushDone place) n q = refl
plugged-next s (Schedule item k delay) n q = refl
plugged-next s (Reschedule item k delay) n q = refl
plugged-next s (Remaining item) n q = refl
plugged-next s (Start k) n q = part-cond (λ (p : Queue). p.plugged) (eqb n k) (changed_queue changes.Start q) q refl
plugged-next s (DrainStart k plug) n q =
    let p = with_plug (plug && eqb n k) q in
    part-cond (λ (p : Queue). p.plugged) (not (is_empty_and_idle s.admissions k) && eqb n k)
    (changed_queue changes.Drain p) p refl ∙ by (plug && eqb n k) where
      or-true : (b : Bool) → true ≡ (b || true)
      or-true true = refl
      or-true false = refl

      by : (b : Bool) → (with_plug b q).plugged ≡ (q.plugged || b)
      by true = or-true q.plugged
      by false = sym (or-false q.plugged)
plugged-next s (DrainDone place) n q = refl
plugged-next s (Unplug k) n q = by q.plugged (eqb n k) refl where
  by : (was b : Bool) → q.plugged ≡ was → (cond b (changed_queue changes.Unplug q) q).plugged ≡ (was && not b)
  by true true is = refl
  by true false is = is
  by false true is = refl
  by false false is = is
plugged-next s (Stop k) n q =
    part-cond (λ (p : Queue). p.plugged) (may_stop s k && eqb n k) (changed_queue changes.Stop q) q refl
plugged-next s (Announce ticks) n q = refl
plugged-next s (Begin k) n q = refl
plugged-next s (End k) n q = settled-part (λ (p : Queue). p.plugged) (is_empty_and_idle (end_run s.admissions k)) n q refl

pub plugged_as_asked : OfEach PluggedAsAsked
plugged_as_asked = at_each _ (λ s e is queue q r at there.
    ap (λ (p : Queue). p.plugged) (sym (queue-is s e.who e.op queue q r at there)) ∙ plugged-next s e.op queue q)

pub start_tells : OfEach StartTells
start_tells = at_each _ (λ s e is queue q at. (
  λ op. sym (same_Some (start_reply s.queues queue) e.reply (ap (work_reply s e.who) (sym op) ∙ is))
      ∙ ap (λ (o : Option Queue). cond (option_map_or (λ (p : Queue). p.started) o false) replies.Already replies.Done) at,
  λ op. sym (same_Some (unplug_reply s.queues queue) e.reply (ap (work_reply s e.who) (sym op) ∙ is))
      ∙ ap (λ (o : Option Queue). cond (option_map_or (λ (p : Queue). p.plugged) o false) replies.Done replies.Already) at,
))

pub stop_tells : OfEach StopTells
stop_tells = at_each _ (λ s e is queue q at op.
    let idle = is_empty_and_idle s.admissions queue in
    sym (same_Some (stop_reply idle s.queues queue) e.reply (ap (work_reply s e.who) (sym op) ∙ is))
    ∙ ap (λ (o : Option Queue). cond (not (option_map_or (λ (p : Queue). p.started) o false)) replies.Already
    (cond (option_map_or (λ (p : Queue). p.plugged) o false && idle) replies.Done replies.Busy)) at)

-- who drains

-- where the draining stays as it was, since a queue drains only while it doesn't rest
unsettled : (d rests : Bool) → (d ≡ true → rests ≡ false) → d ≡ ((d || false) && not rests)
unsettled true rests until = ap not (sym (until refl))
unsettled false rests until = refl

abbrev settled_by : Bool → Queue → Queue
settled_by b q = cond b (record q { draining = false; drained = q.drained + 1 }) q

draining-settled : (rests : Bool) (q : Queue) →
    (settled_by (q.draining && rests) q).draining ≡ ((q.draining || false) && not rests)
draining-settled rests q = by q.draining rests refl where
  by : (d r : Bool) → q.draining ≡ d → (settled_by (d && r) q).draining ≡ ((d || false) && not r)
  by true true is = refl
  by true false is = is
  by false true is = is
  by false false is = is

-- the start of a drain
draining-started : (rests there here plug : Bool) (q : Queue) → (here ≡ true → there ≡ rests) →
    (q.draining ≡ true → rests ≡ false) →
    (draining_more (not there && here) (with_plug plug q)).draining ≡ ((q.draining || here) && not rests)
draining-started rests there here plug q same until = by there here q.draining refl refl refl where
  left : (with_plug plug q).draining ≡ q.draining
  left = part-cond (λ (p : Queue). p.draining) plug (changed_queue changes.Plug q) q refl

  or-true : (b : Bool) → (b || true) ≡ true
  or-true true = refl
  or-true false = refl

  by : (t b d : Bool) → there ≡ t → here ≡ b → q.draining ≡ d →
      (draining_more (not t && b) (with_plug plug q)).draining ≡ ((d || b) && not rests)
  by true true true t_is b_is d_is = absurd (false≢true (sym (until d_is) ∙ sym (same b_is) ∙ t_is))
  by true true false t_is b_is d_is = left ∙ d_is ∙ ap not (sym t_is ∙ same b_is)
  by true false true t_is b_is d_is = left ∙ d_is ∙ ap not (sym (until d_is))
  by true false false t_is b_is d_is = left ∙ d_is
  by false true true t_is b_is d_is = ap not (sym t_is ∙ same b_is)
  by false true false t_is b_is d_is = ap not (sym t_is ∙ same b_is)
  by false false true t_is b_is d_is = left ∙ d_is ∙ ap not (sym (until d_is))
  by false false false t_is b_is d_is = left ∙ d_is

-- the queue after an operation keeps the invariant
kept-next : (s : State) (who : Who) (op : WorkOp) (n : ℕ) (q : Queue) → AllKeep s → slice_get s.queues n ≡ Some q →
    Keeps (work_next s who op).admissions n (queue_next s op n q)
kept-next s who op n q keep at = AllKeep-next s who op keep n (queue_next s op n q) (queues-next s who op n
    ∙ ap (option_map (queue_next s op n)) at)

pub draining-next : (s : State) (who : Who) (op : WorkOp) (n : ℕ) (q : Queue) → AllKeep s → slice_get s.queues n ≡ Some q →
    (queue_next s op n q).draining ≡ ((q.draining || drains n op) && not (is_empty_and_idle (work_next s who op).admissions n))
draining-next s who (Submit item named) n q keep at =
    unsettled q.draining (is_empty_and_idle (work_next s who (Submit item named)).admissions n)
    (kept-next s who (Submit item named) n q keep at).until
draining-next s who (Cancel item) n q keep at = draining-settled (is_empty_and_idle (drop_waiting s.admissions item) n) q
draining-next s who (CancelStart item) n q keep at = draining-settled (is_empty_and_idle (drop_waiting s.admissions item) n) q
draining-next s who (CancelDone place) n q keep at = unsettled q.draining (is_empty_and_idle s.admissions n) (keep n q at).until
draining-next s who (FlushStart item) n q keep at =
    unsettled q.draining (is_empty_and_idle (work_next s who (FlushStart item)).admissions n)
    (kept-next s who (FlushStart item) n q keep at).until
draining-next s who (FlushDone place) n q keep at = unsettled q.draining (is_empty_and_idle s.admissions n) (keep n q at).until
draining-next s who (Schedule item k delay) n q keep at =
    unsettled q.draining (is_empty_and_idle (work_next s who (Schedule item k delay)).admissions n)
    (kept-next s who (Schedule item k delay) n q keep at).until
draining-next s who (Reschedule item k delay) n q keep at =
    unsettled q.draining (is_empty_and_idle (work_next s who (Reschedule item k delay)).admissions n)
    (kept-next s who (Reschedule item k delay) n q keep at).until
draining-next s who (Remaining item) n q keep at = unsettled q.draining (is_empty_and_idle s.admissions n) (keep n q at).until
draining-next s who (Start k) n q keep at =
    part-cond (λ (p : Queue). p.draining) (eqb n k) (changed_queue changes.Start q) q refl
    ∙ unsettled q.draining (is_empty_and_idle s.admissions n) (keep n q at).until
draining-next s who (DrainStart k plug) n q keep at =
    draining-started (is_empty_and_idle s.admissions n) (is_empty_and_idle s.admissions k) (eqb n k) (plug && eqb n k) q
    (λ same. ap (is_empty_and_idle s.admissions) (sym (eqb-true n k same))) (keep n q at).until
draining-next s who (DrainDone place) n q keep at = unsettled q.draining (is_empty_and_idle s.admissions n) (keep n q at).until
draining-next s who (Unplug k) n q keep at =
    part-cond (λ (p : Queue). p.draining) (eqb n k) (changed_queue changes.Unplug q) q refl
    ∙ unsettled q.draining (is_empty_and_idle s.admissions n) (keep n q at).until
draining-next s who (Stop k) n q keep at =
    part-cond (λ (p : Queue). p.draining) (may_stop s k && eqb n k) (changed_queue changes.Stop q) q refl
    ∙ unsettled q.draining (is_empty_and_idle s.admissions n) (keep n q at).until
draining-next s who (Announce ticks) n q keep at =
    unsettled q.draining (is_empty_and_idle (work_next s who (Announce ticks)).admissions n)
    (kept-next s who (Announce ticks) n q keep at).until
draining-next s who (Begin k) n q keep at =
    unsettled q.draining (is_empty_and_idle (work_next s who (Begin k)).admissions n)
    (kept-next s who (Begin k) n q keep at).until
draining-next s who (End k) n q keep at = draining-settled (is_empty_and_idle (end_run s.admissions k) n) q

-- how often it has drained
not-counted : (q r : Queue) → r.drained ≡ q.drained → (q.draining ≡ true → r.draining ≡ true) →
    r.drained ≡ q.drained + cond (q.draining && not r.draining) 1 0
not-counted q r same goes_on = same ∙ sym (add-zero q.drained)
    ∙ ap (λ b. q.drained + cond b 1 0) (sym (by q.draining r.draining refl refl)) where
      by : (d e : Bool) → q.draining ≡ d → r.draining ≡ e → (d && not e) ≡ false
      by true true d_is e_is = refl
      by true false d_is e_is = absurd (false≢true (sym e_is ∙ goes_on d_is))
      by false e d_is e_is = refl

counted-settled : (rests : Bool) (q : Queue) →
    (settled_by (q.draining && rests) q).drained
    ≡ q.drained + cond (q.draining && not (settled_by (q.draining && rests) q).draining) 1 0
counted-settled rests q = by q.draining rests refl where
  by : (d r : Bool) → q.draining ≡ d →
      (settled_by (d && r) q).drained ≡ q.drained + cond (d && not (settled_by (d && r) q).draining) 1 0
  by true true is = refl
  by true false is = sym (add-zero q.drained) ∙ ap (λ b. q.drained + cond (true && not b) 1 0) (sym is)
  by false true is = sym (add-zero q.drained)
  by false false is = sym (add-zero q.drained)

pub counted-next : (s : State) (op : WorkOp) (n : ℕ) (q : Queue) →
    (queue_next s op n q).drained ≡ q.drained + cond (q.draining && not (queue_next s op n q).draining) 1 0
counted-next s (Submit item named) n q = not-counted q q refl (λ d. d)
counted-next s (Cancel item) n q = counted-settled (is_empty_and_idle (drop_waiting s.admissions item) n) q
counted-next s (CancelStart item) n q = counted-settled (is_empty_and_idle (drop_waiting s.admissions item) n) q
counted-next s (CancelDone place) n q = not-counted q q refl (λ d. d)
counted-next s (FlushStart item) n q = not-counted q q refl (λ d. d)
counted-next s (FlushDone place) n q = not-counted q q refl (λ d. d)
counted-next s (Schedule item k delay) n q = not-counted q q refl (λ d. d)
counted-next s (Reschedule item k delay) n q = not-counted q q refl (λ d. d)
counted-next s (Remaining item) n q = not-counted q q refl (λ d. d)
counted-next s (Start k) n q =
    not-counted q (queue_next s (Start k) n q)
    (part-cond (λ (p : Queue). p.drained) (eqb n k) (changed_queue changes.Start q) q refl)
    (λ d. part-cond (λ (p : Queue). p.draining) (eqb n k) (changed_queue changes.Start q) q refl ∙ d)
counted-next s (DrainStart k plug) n q =
    let p = with_plug (plug && eqb n k) q in
    let b = not (is_empty_and_idle s.admissions k) && eqb n k in
    not-counted q (draining_more b p)
    (part-cond (λ (p : Queue). p.drained) b (changed_queue changes.Drain p) p refl
    ∙ part-cond (λ (p : Queue). p.drained) (plug && eqb n k) (changed_queue changes.Plug q) q refl)
    (λ d. by b p (part-cond (λ (p : Queue). p.draining) (plug && eqb n k) (changed_queue changes.Plug q) q refl ∙ d)) where
      by : (b : Bool) (p : Queue) → p.draining ≡ true → (draining_more b p).draining ≡ true
      by true p is = refl
      by false p is = is
counted-next s (DrainDone place) n q = not-counted q q refl (λ d. d)
counted-next s (Unplug k) n q =
    not-counted q (queue_next s (Unplug k) n q)
    (part-cond (λ (p : Queue). p.drained) (eqb n k) (changed_queue changes.Unplug q) q refl)
    (λ d. part-cond (λ (p : Queue). p.draining) (eqb n k) (changed_queue changes.Unplug q) q refl ∙ d)
counted-next s (Stop k) n q =
    let b = may_stop s k && eqb n k in
    not-counted q (queue_next s (Stop k) n q)
    (part-cond (λ (p : Queue). p.drained) b (changed_queue changes.Stop q) q refl)
    (λ d. part-cond (λ (p : Queue). p.draining) b (changed_queue changes.Stop q) q refl ∙ d)
counted-next s (Announce ticks) n q = not-counted q q refl (λ d. d)
counted-next s (Begin k) n q = not-counted q q refl (λ d. d)
counted-next s (End k) n q = counted-settled (is_empty_and_idle (end_run s.admissions k) n) q

pub draining_stays : OfEach DrainingStays
draining_stays = at_each_in AllKeep AllKeep-history _ (λ s e keep is queue q r at there.
    let same = queue-is s e.who e.op queue q r at there in (
      ap (λ (p : Queue). p.draining) (sym same) ∙ draining-next s e.who e.op queue q keep at,
      subst (λ (p : Queue). p.drained ≡ q.drained + cond (q.draining && not p.draining) 1 0) same (counted-next s e.op queue q),
    ))

-- a drain that is started
pub drained-start : (s : State) (who : Who) (queue : ℕ) (plug : Bool) (r : Queue) → AllKeep s →
    slice_get (work_next s who (DrainStart queue plug)).queues queue ≡ Some r →
    r.draining ≡ not (is_empty_and_idle s.admissions queue)
drained-start s who queue plug r keep there = by (slice_get s.queues queue) refl where
  or-true : (b : Bool) → (b || true) ≡ true
  or-true true = refl
  or-true false = refl

  by : (o : Option Queue) → slice_get s.queues queue ≡ o → r.draining ≡ not (is_empty_and_idle s.admissions queue)
  by None at = absurd (nothing (sym (queues-next s who (DrainStart queue plug) queue
      ∙ ap (option_map (queue_next s (DrainStart queue plug) queue)) at) ∙ there)) where
        nothing : None ≡ Some r → ⊥
        nothing is = cc
  by (Some q) at =
      ap (λ (p : Queue). p.draining) (sym (queue-is s who (DrainStart queue plug) queue q r at there))
      ∙ draining-next s who (DrainStart queue plug) queue q keep at
      ∙ ap (λ b. b && not (is_empty_and_idle s.admissions queue)) (ap (λ b. q.draining || b) (eq-eqb queue queue refl)
      ∙ or-true q.draining)

pub drain_tells : OfEach DrainTells
drain_tells = at_each_in AllKeep AllKeep-history _ (λ s e keep is queue plug op. (
  sym (same_Some (drain_reply (is_empty_and_idle s.admissions queue)) e.reply (ap (work_reply s e.who) (sym op) ∙ is)),
  λ r there. drained-start s e.who queue plug r keep
      (subst (λ (o : WorkOp). slice_get (work_next s e.who o).queues queue ≡ Some r) op there),
))
