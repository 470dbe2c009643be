-- What is awaited has come where a wait ends.
use Rattle.std.proofs.Common.{◌≡◌, ℕ, ◌+◌, ◌<◌, Bool, true, false, not, ◌&&◌, ◌||◌, cond, ◌==◌, Option, Some, None, option_map, List, [], ◌∷◌, ◌++◌, length, slice_get, All, refl, sym, ap, subst, ◌∙◌, add-zero, arith}
use Rattle.std.specs.Cmp.{first_so, second_so}
use Rattle.std.specs.List.{list_any}
use Rattle.std.specs.Option.{option_map_or, IfSome}
use Rattle.std.proofs.lemmas.Bool.{eqb-true, ltb-true}
use Rattle.std.proofs.lemmas.List.Elements.{All-nil, All-cons, All-head, All-tail, All-append, All-map, All-weaker}
use Rattle.std.proofs.lemmas.Option.{same_Some}
use Rattle.zk_base.specs.declared.ids.Who.{Who}
use Rattle.zk_base.specs.declared.ids.Entry.{Entry}
use Rattle.zk_base.specs.Legal.{state_after}
use Rattle.zk_base.proofs.Histories.{state_after-append, Replays-rest}
use Rattle.zk_model_work.specs.declared.parts.Life.{Life}
use Rattle.zk_model_work.specs.declared.parts.Life.TheVariants.{Waiting, Running, Ended, Dropped}
use Rattle.zk_model_work.specs.declared.parts.Admission.{Admission}
use Rattle.zk_model_work.specs.declared.parts.Awaited.{Awaited}
use Rattle.zk_model_work.specs.declared.parts.Awaited.TheVariants as awaiteds
use Rattle.zk_model_work.specs.declared.parts.Wait.{Wait}
use Rattle.zk_model_work.specs.declared.parts.Closing.{Closing}
use Rattle.zk_model_work.specs.declared.parts.Closing.TheVariants as closings
use Rattle.zk_model_work.specs.declared.ops.WorkOp.{WorkOp}
use Rattle.zk_model_work.specs.declared.ops.WorkOp.TheVariants.{Submit, Cancel, CancelStart, CancelDone, FlushStart, FlushDone, Schedule, Reschedule, Remaining, Start, DrainStart, DrainDone, Unplug, Stop, Announce, Begin, End}
use Rattle.zk_model_work.specs.declared.ops.WorkReply.{WorkReply}
use Rattle.zk_model_work.specs.declared.ops.WorkReply.TheVariants as replies
use Rattle.zk_model_work.specs.Questions.{is_open, is_ended, passes_at, is_empty_and_idle, running}
use Rattle.zk_model_work.specs.State.{State}
use Rattle.zk_model_work.specs.Machine.{disarm, answer_one, work_reply, work_next, work_machine, awaiting, has_come, may_close, answer_where, answered_waits, flushed_of}
use Rattle.zk_model_work.specs.Answers.{drained_of, drain_wait, is_unanswered, wait_for, cancel_wait, flush_wait, closes, flush_start_reply}
use Rattle.zk_model_work.specs.Histories.{IsFreshHistory, OfEach}
use Rattle.zk_model_work.specs.Laws.{DrainDoneAfterItsEnd, CancelDoneAfterRun, FlushDoneAfterItsEnd}
use Rattle.zk_model_work.proofs.Moves.{schedule-keeps, delayed-keeps}
use Rattle.zk_model_work.proofs.Begins.{Replays-parts}

-- the wait that a drain began

pub entries-next : (s : State) (who : Who) (op : WorkOp) → (work_next s who op).entries ≡ s.entries + 1
entries-next s who (Submit item named) = refl
entries-next s who (Cancel item) = refl
entries-next s who (CancelStart item) = refl
entries-next s who (CancelDone place) = refl
entries-next s who (FlushStart item) = refl
entries-next s who (FlushDone place) = refl
entries-next s who (Schedule item k delay) = refl
entries-next s who (Reschedule item k delay) = refl
entries-next s who (Remaining item) = refl
entries-next s who (Start k) = refl
entries-next s who (DrainStart k plug) = refl
entries-next s who (DrainDone place) = refl
entries-next s who (Unplug k) = refl
entries-next s who (Stop k) = refl
entries-next s who (Announce ticks) = refl
entries-next s who (Begin k) = refl
entries-next s who (End k) = refl

pub entries-after : (s : State) (h : List (Entry WorkOp WorkReply)) →
    (state_after work_machine s h).entries ≡ s.entries + length h
entries-after s [] = sym (add-zero s.entries)
entries-after s (e ∷ es) =
    let next = entries-next s e.who e.op in
    let rest = entries-after (work_next s e.who e.op) es in
    omega arith

place-answered : (so : Bool) (w : Wait) → (answer_where so w).place ≡ w.place
place-answered true w = refl
place-answered false w = refl

awaited-answered : (so : Bool) (w : Wait) → (answer_where so w).awaited ≡ w.awaited
awaited-answered true w = refl
awaited-answered false w = refl

more-waits : (P : Wait → Type 0) (ws : List Wait) (o : Option Wait) → IfSome o P → All P ws → All P (awaiting ws o)
more-waits P ws None new all = All-append P ws [] all (All-nil P)
more-waits P ws (Some w) new all = All-append P ws (w ∷ []) all (All-cons P w [] new (All-nil P))

waits-answered : (P : Wait → Type 0) (s : State) (closing : Closing) (who : Who) (place : ℕ) →
    ((so : Bool) (w : Wait) → P w → P (answer_where so w)) → All P s.waits → All P (answered_waits s closing who place)
waits-answered P s closing who place answered all =
    All-map P (answer_one s.admissions s.queues closing who place) s.waits
    (All-weaker P (λ (w : Wait). P (answer_one s.admissions s.queues closing who place w))
    (λ w. answered (closes (has_come s.admissions s.queues closing) who place w) w) s.waits all)

-- what holds of each wait, of a new one and of an answered one, holds after an entry
waits-next : (P : Wait → Type 0) (s : State) (who : Who) (op : WorkOp) →
    ((so : Bool) (w : Wait) → P w → P (answer_where so w)) → ((awaited : Awaited) → P (wait_for s.entries who awaited)) →
    All P s.waits → All P (work_next s who op).waits
waits-next P s who (Submit item named) answered new all = all
waits-next P s who (Cancel item) answered new all = all
waits-next P s who (CancelStart item) answered new all =
    more-waits P s.waits (cancel_wait s.entries who (running s.admissions item)) (by (running s.admissions item)) all where
      by : (o : Option ℕ) → IfSome (option_map (λ number. wait_for s.entries who (awaiteds.Cancel number)) o) P
      by None = tt
      by (Some number) = new (awaiteds.Cancel number)
waits-next P s who (CancelDone place) answered new all = waits-answered P s closings.Cancel who place answered all
waits-next P s who (FlushStart item) answered new all =
    more-waits P s.waits (flush_wait s.entries who (flushed_of s who item)) (by (flushed_of s who item)) all where
      by : (o : Option ℕ) → IfSome (option_map (λ number. wait_for s.entries who (awaiteds.Flush number)) o) P
      by None = tt
      by (Some number) = new (awaiteds.Flush number)
waits-next P s who (FlushDone place) answered new all = waits-answered P s closings.Flush who place answered all
waits-next P s who (Schedule item k delay) answered new all =
    schedule-keeps (λ t. All P t.waits) s who item k delay all all (λ free later. all)
waits-next P s who (Reschedule item k delay) answered new all =
    delayed-keeps (λ t. All P t.waits) (record s { arms = disarm s.arms item }) who item k delay all (λ later. all)
waits-next P s who (Remaining item) answered new all = all
waits-next P s who (Start k) answered new all = all
waits-next P s who (DrainStart k plug) answered new all =
    more-waits P s.waits (drain_wait (is_empty_and_idle s.admissions k) s.entries s.queues who k)
    (by (is_empty_and_idle s.admissions k)) all where
      by : (idle : Bool) → IfSome (drain_wait idle s.entries s.queues who k) P
      by true = tt
      by false = new (awaiteds.Drain k (drained_of s.queues k))
waits-next P s who (DrainDone place) answered new all = waits-answered P s closings.Drain who place answered all
waits-next P s who (Unplug k) answered new all = all
waits-next P s who (Stop k) answered new all = all
waits-next P s who (Announce ticks) answered new all = all
waits-next P s who (Begin k) answered new all = all
waits-next P s who (End k) answered new all = all

-- each wait began at an earlier entry
earlier-next : (s : State) (who : Who) (op : WorkOp) → All (λ (w : Wait). w.place < s.entries) s.waits →
    All (λ (w : Wait). w.place < (work_next s who op).entries) (work_next s who op).waits
earlier-next s who op all =
    let next = entries-next s who op in
    waits-next (λ (w : Wait). w.place < (work_next s who op).entries) s who op
    (λ so w less. let same = place-answered so w in omega arith)
    (λ awaited. omega arith)
    (All-weaker (λ (w : Wait). w.place < s.entries) (λ (w : Wait). w.place < (work_next s who op).entries)
    (λ w less. omega arith) s.waits all)

earlier-after : (s : State) (h : List (Entry WorkOp WorkReply)) → All (λ (w : Wait). w.place < s.entries) s.waits →
    All (λ (w : Wait). w.place < (state_after work_machine s h).entries) (state_after work_machine s h).waits
earlier-after s [] all = all
earlier-after s (e ∷ es) all = earlier-after (work_next s e.who e.op) es (earlier-next s e.who e.op all)

-- the waits of one place are for one thing
named-next : (s : State) (who : Who) (op : WorkOp) (p : ℕ) (a : Awaited) → p < s.entries →
    All (λ (w : Wait). w.place ≡ p → w.awaited ≡ a) s.waits →
    All (λ (w : Wait). w.place ≡ p → w.awaited ≡ a) (work_next s who op).waits
named-next s who op p a below all =
    waits-next (λ (w : Wait). w.place ≡ p → w.awaited ≡ a) s who op
    (λ so w named at. awaited-answered so w ∙ named (sym (place-answered so w) ∙ at))
    (λ awaited at. absurd (omega arith))
    all

named-after : (s : State) (h : List (Entry WorkOp WorkReply)) (p : ℕ) (a : Awaited) → p < s.entries →
    All (λ (w : Wait). w.place ≡ p → w.awaited ≡ a) s.waits →
    All (λ (w : Wait). w.place ≡ p → w.awaited ≡ a) (state_after work_machine s h).waits
named-after s [] p a below all = all
named-after s (e ∷ es) p a below all =
    let next = entries-next s e.who e.op in
    named-after (work_next s e.who e.op) es p a (omega arith) (named-next s e.who e.op p a below all)

-- an entry that begins a wait names what it is for
named-more : (s : State) (who : Who) (a : Awaited) (o : Option Wait) → IfSome o (λ w. w.awaited ≡ a) →
    All (λ (w : Wait). w.place < s.entries) s.waits →
    All (λ (w : Wait). w.place ≡ s.entries → w.awaited ≡ a) (awaiting s.waits o)
named-more s who a o new earlier =
    more-waits (λ (w : Wait). w.place ≡ s.entries → w.awaited ≡ a) s.waits o (named o new)
    (All-weaker (λ (w : Wait). w.place < s.entries) (λ (w : Wait). w.place ≡ s.entries →
    w.awaited ≡ a) (λ w less at. absurd (omega arith)) s.waits earlier) where
      named : (o : Option Wait) → IfSome o (λ w. w.awaited ≡ a) → IfSome o (λ w. w.place ≡ s.entries → w.awaited ≡ a)
      named None new = tt
      named (Some w) new = λ at. new

named-start : (s : State) (who : Who) (queue : ℕ) (plug : Bool) → All (λ (w : Wait). w.place < s.entries) s.waits →
    All (λ (w : Wait). w.place ≡ s.entries → w.awaited ≡ awaiteds.Drain queue (drained_of s.queues queue))
    (work_next s who (DrainStart queue plug)).waits
named-start s who queue plug earlier =
    named-more s who (awaiteds.Drain queue (drained_of s.queues queue))
    (drain_wait (is_empty_and_idle s.admissions queue) s.entries s.queues who queue)
    (by (is_empty_and_idle s.admissions queue)) earlier where
      by : (idle : Bool) →
          IfSome (drain_wait idle s.entries s.queues who queue)
          (λ w. w.awaited ≡ awaiteds.Drain queue (drained_of s.queues queue))
      by true = tt
      by false = refl

-- a wait that passes a test, of which something holds
found-wait : (P : Wait → Type 0) (test : Wait → Bool) (ws : List Wait) → list_any test ws ≡ true → All P ws →
    (w : Wait) × (P w) × (test w ≡ true)
found-wait P test [] found all = absurd (cc)
found-wait P test (w ∷ ws) found all = by (test w) refl found (λ rest. found-wait P test ws rest (All-tail P w ws all)) where
  by : (b : Bool) → test w ≡ b → (b || list_any test ws) ≡ true →
      (list_any test ws ≡ true → (w : Wait) × (P w) × (test w ≡ true)) → (w : Wait) × (P w) × (test w ≡ true)
  by true is found further = (w, All-head P w ws all, is)
  by false is found further = further found

may-done : (possible : Bool) (said reply : WorkReply) → cond possible (Some said) None ≡ Some reply → possible ≡ true
may-done true said reply is = refl
may-done false said reply is = absurd (cc)

-- what a player waited for since a place has come where it ends that wait
come-by : (t : State) (closing : Closing) (who : Who) (p : ℕ) (a : Awaited) → may_close t closing who p ≡ true →
    All (λ (w : Wait). w.place ≡ p → w.awaited ≡ a) t.waits → has_come t.admissions t.queues closing a ≡ true
come-by t closing who p a may named =
    let it = found-wait (λ (w : Wait). w.place ≡ p → w.awaited ≡ a)
    (closes (has_come t.admissions t.queues closing) who p) t.waits may named in
    let unanswered = first_so (is_unanswered p who.number it.0) (has_come t.admissions t.queues closing it.0.awaited) it.2 in
    let both = first_so ((it.0.place == p) && (it.0.player == who.number)) (not it.0.answered) unanswered in
    let at = eqb-true it.0.place p (first_so (it.0.place == p) (it.0.player == who.number) both) in
    ap (has_come t.admissions t.queues closing) (sym (it.1 at))
    ∙ second_so (is_unanswered p who.number it.0) (has_come t.admissions t.queues closing it.0.awaited) it.2

-- what is known of two entries, of which the later one ends the wait that the earlier one began
record Closed (start : State) (front between : List (Entry WorkOp WorkReply)) (first done : Entry WorkOp WorkReply)
    (a : Awaited) : Type 0 where
  pub place : (state_after work_machine start front).entries ≡ length front
  pub earlier : All (λ (w : Wait). w.place < (state_after work_machine start front).entries)
      (state_after work_machine start front).waits
  pub replays : work_reply (state_after work_machine (work_next (state_after work_machine start front) first.who first.op)
      between) done.who done.op ≡ Some done.reply

closed-entries : (start : State) (h front between rest : List (Entry WorkOp WorkReply))
    (first done : Entry WorkOp WorkReply) (a : Awaited) → IsFreshHistory start h →
    h ≡ front ++ first ∷ (between ++ done ∷ rest) → Closed start front between first done a
closed-entries start h front between rest first_one done a fresh parts =
    let c = work_next (state_after work_machine start front) first_one.who first_one.op in
    let zero_first = fresh.first in
    let long = entries-after start front in
    record {
      place = omega arith;
      earlier = earlier-after start front (subst (All (λ (w : Wait). w.place < start.entries)) (sym fresh.waits)
          (All-nil (λ (w : Wait). w.place < start.entries)));
      replays = (Replays-rest work_machine c between (done ∷ rest)
          (Replays-rest work_machine start front (first_one ∷ (between ++ done ∷ rest))
          (Replays-parts start h (front ++ first_one ∷ (between ++ done ∷ rest)) fresh parts)).1).0;
    }

-- what the earlier one awaits has come before the later one
come-before : (start : State) (front between : List (Entry WorkOp WorkReply)) (first done : Entry WorkOp WorkReply)
    (a : Awaited) (closing : Closing) (said : WorkReply) → Closed start front between first done a →
    All (λ (w : Wait). w.place ≡ (state_after work_machine start front).entries →
    w.awaited ≡ a) (work_next (state_after work_machine start front) first.who first.op).waits →
    ((t : State) (who : Who) (place : ℕ) → place ≡ length front →
    work_reply t who done.op ≡ cond (may_close t closing who place) (Some said) None) →
    has_come (state_after work_machine (work_next (state_after work_machine start front) first.who first.op) between).admissions
    (state_after work_machine (work_next (state_after work_machine start front) first.who first.op) between).queues
    closing a ≡ true
come-before start front between first_one done a closing said it named reply =
    let s = state_after work_machine start front in
    let c = work_next s first_one.who first_one.op in
    let t = state_after work_machine c between in
    let next = entries-next s first_one.who first_one.op in
    let later = named-after c between s.entries a (omega arith) named in
    come-by t closing done.who s.entries a (may-done (may_close t closing done.who s.entries) said done.reply
    (sym (reply t done.who s.entries it.place) ∙ it.replays)) later

pub drain_done_after_its_end : OfEach DrainDoneAfterItsEnd
drain_done_after_its_end start h fresh front between rest first_one done queue plug parts starts dones =
    let s = state_after work_machine start front in
    let a : Awaited = awaiteds.Drain queue (drained_of s.queues queue) in
    let it = closed-entries start h front between rest first_one done a fresh parts in
    let named = subst (λ (o : WorkOp). All (λ (w : Wait). w.place ≡ s.entries → w.awaited ≡ a)
    (work_next s first_one.who o).waits) (sym starts) (named-start s first_one.who queue plug it.earlier) in
    let t = state_after work_machine (work_next s first_one.who first_one.op) between in
    let come = come-before start front between first_one done a closings.Drain (replies.Number 1) it named
    (λ u who place same. ap (work_reply u who) (dones ∙ ap DrainDone (sym same))) in
    subst (λ (u : State). drained_of s.queues queue < drained_of u.queues queue)
    (sym (state_after-append work_machine start front (first_one ∷ between)))
    (ltb-true (drained_of s.queues queue) (drained_of t.queues queue) come)

-- an admission of which a test of its life holds
life-where : (p : Life → Bool) (xs : List Admission) (n : ℕ) → passes_at (λ (a : Admission). p a.life) xs n ≡ true →
    (life : Life) × (option_map (λ (a : Admission). a.life) (slice_get xs n) ≡ Some life) × (p life ≡ true)
life-where p xs n is = by (slice_get xs n) is where
  by : (o : Option Admission) → option_map_or (λ (a : Admission). p a.life) o false ≡ true →
      (life : Life) × (option_map (λ (a : Admission). a.life) o ≡ Some life) × (p life ≡ true)
  by None is = absurd (cc)
  by (Some a) is = (a.life, refl, is)

only-ended : (life : Life) → is_ended life ≡ true → life ≡ Ended
only-ended Waiting is = absurd (cc)
only-ended Running is = absurd (cc)
only-ended Ended is = refl
only-ended Dropped is = absurd (cc)

not-open : (life : Life) → not (is_open life) ≡ true → is_open life ≡ false
not-open Waiting is = absurd (cc)
not-open Running is = absurd (cc)
not-open Ended is = refl
not-open Dropped is = refl

pub cancel_done_after_run : OfEach CancelDoneAfterRun
cancel_done_after_run start h fresh front between rest first_one done item run parts starts found dones =
    let s = state_after work_machine start front in
    let a : Awaited = awaiteds.Cancel run in
    let it = closed-entries start h front between rest first_one done a fresh parts in
    let new : IfSome (cancel_wait s.entries first_one.who (running s.admissions item)) (λ w. w.awaited ≡ a) =
    subst (λ (o : Option ℕ). IfSome (option_map (λ number. wait_for s.entries first_one.who (awaiteds.Cancel number)) o)
    (λ w. w.awaited ≡ a)) (sym found) refl in
    let named = subst (λ (o : WorkOp). All (λ (w : Wait). w.place ≡ s.entries → w.awaited ≡ a)
    (work_next s first_one.who o).waits) (sym starts)
    (named-more s first_one.who a (cancel_wait s.entries first_one.who (running s.admissions item)) new it.earlier) in
    let t = state_after work_machine (work_next s first_one.who first_one.op) between in
    let come = come-before start front between first_one done a closings.Cancel (replies.Truth true) it named
    (λ u who place same. ap (work_reply u who) (dones ∙ ap CancelDone (sym same))) in
    let life = life-where is_ended t.admissions run come in
    ap (λ (u : State). option_map (λ (a : Admission). a.life) (slice_get u.admissions run))
    (state_after-append work_machine start front (first_one ∷ between)) ∙ life.1 ∙ ap Some (only-ended life.0 life.2)

pub flush_done_after_its_end : OfEach FlushDoneAfterItsEnd
flush_done_after_its_end start h fresh front between rest first_one done item number parts starts said dones =
    let s = state_after work_machine start front in
    let a : Awaited = awaiteds.Flush number in
    let it = closed-entries start h front between rest first_one done a fresh parts in
    let replied : work_reply s first_one.who (FlushStart item) ≡ Some first_one.reply =
    ap (work_reply s first_one.who) (sym starts)
    ∙ (Replays-rest work_machine start front (first_one ∷ (between ++ done ∷ rest))
    (Replays-parts start h (front ++ first_one ∷ (between ++ done ∷ rest)) fresh parts)).0 in
    let found : flushed_of s first_one.who item ≡ Some number =
    names (flushed_of s first_one.who item)
    (same_Some (flush_start_reply (flushed_of s first_one.who item)) first_one.reply replied ∙ said) in
    let new : IfSome (flush_wait s.entries first_one.who (flushed_of s first_one.who item)) (λ w. w.awaited ≡ a) =
    subst (λ (o : Option ℕ). IfSome (option_map (λ number. wait_for s.entries first_one.who (awaiteds.Flush number)) o)
    (λ w. w.awaited ≡ a)) (sym found) refl in
    let named = subst (λ (o : WorkOp). All (λ (w : Wait). w.place ≡ s.entries → w.awaited ≡ a)
    (work_next s first_one.who o).waits) (sym starts)
    (named-more s first_one.who a (flush_wait s.entries first_one.who (flushed_of s first_one.who item)) new it.earlier) in
    let t = state_after work_machine (work_next s first_one.who first_one.op) between in
    let come = come-before start front between first_one done a closings.Flush (replies.Truth true) it named
    (λ u who place same. ap (work_reply u who) (dones ∙ ap FlushDone (sym same))) in
    let life = life-where (λ (l : Life). not (is_open l)) t.admissions number come in
    ap (λ (u : State). option_map is_open (option_map (λ (a : Admission). a.life) (slice_get u.admissions number)))
    (state_after-append work_machine start front (first_one ∷ between))
    ∙ ap (option_map is_open) life.1 ∙ ap Some (not-open life.0 life.2) where
      names : (o : Option ℕ) → option_map_or replies.WaitFor o (replies.Truth false) ≡ replies.WaitFor number → o ≡ Some number
      names None is = absurd (cc)
      names (Some n) is = ap Some (same n is) where
        same : (n : ℕ) → replies.WaitFor n ≡ replies.WaitFor number → n ≡ number
        same n is = cc
