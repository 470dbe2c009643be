-- The replies of the work service are of their operations, and name items and queues that are declared.
use Rattle.std.proofs.Common.{◌≡◌, ℕ, zero, suc, ◌+◌, ◌<◌, ◌≤◌, Bool, true, false, not, ◌&&◌, cond, eqb, ◌⊎◌, inl, inr, Option, Some, None, is_some, option_map, List, [], ◌∷◌, length, find, All, refl, sym, ap, subst, arith}
use Rattle.std.specs.List.{AllByRecursion, slice_get}
use Rattle.std.specs.Option.{option_map_or, option_and_then, option_or}
use Rattle.std.proofs.lemmas.List.Elements.{All-head, All-tail}
use Rattle.std.proofs.lemmas.Option.{same_Some, none-some, cond_some, slice_get_within}
use Rattle.zk_base.specs.declared.errors.Errno.TheVariants.{Busy, Inval, NoDev}
use Rattle.zk_base.specs.declared.ids.Who.{Who}
use Rattle.zk_base.specs.declared.ids.Entry.{Entry}
use Rattle.zk_base.specs.Legal.{Replays}
use Rattle.zk_base.proofs.Firsts.{All-found}
use Rattle.zk_base.proofs.Lists.{All-at, cond_chosen}
use Rattle.zk_line.specs.declared.types.Decl.{Decl}
use Rattle.zk_line.specs.Objects.{places, is_queue}
use Rattle.zk_model_work.specs.declared.ops.Expiry.{Expiry}
use Rattle.zk_model_work.specs.declared.ops.Submitted.{Submitted}
use Rattle.zk_model_work.specs.declared.ops.Submitted.TheVariants.{Already, Fresh, Rerun, Refused}
use Rattle.zk_model_work.specs.declared.ops.WorkOp.{WorkOp}
use Rattle.zk_model_work.specs.declared.ops.WorkOp.TheVariants as ops
use Rattle.zk_model_work.specs.declared.ops.WorkReply.{WorkReply}
use Rattle.zk_model_work.specs.declared.ops.WorkReply.TheVariants as replies
use Rattle.zk_model_work.specs.declared.parts.Admission.{Admission}
use Rattle.zk_model_work.specs.declared.parts.Arm.{Arm}
use Rattle.zk_model_work.specs.declared.parts.Closing.TheVariants as closings
use Rattle.zk_model_work.specs.declared.parts.Item.{Item}
use Rattle.zk_model_work.specs.declared.parts.Queue.{Queue}
use Rattle.zk_model_work.specs.Answers.{is_chained, target, admission, submission_to, submission_at, submission, flush_start_reply, cancel_start_reply, start_reply, is_started, unplug_reply, is_plugged, stop_reply, drain_reply, remaining}
use Rattle.zk_model_work.specs.Lists.{first}
use Rattle.zk_model_work.specs.Machine.{submit, submission_in, cancel, flags_of, flushed_of, expiries, is_pending_in, delay_reply_in, schedule_reply_in, announce_reply, may_close, may_begin, may_end, taken_up, work_reply, work_machine}
use Rattle.zk_model_work.specs.Questions.{runs_as, running, last_queue, line, due, deadline_of, is_empty_and_idle, weight, busy_flags, item_of}
use Rattle.zk_model_work.specs.State.{State}
use Rattle.zk_trace.specs.declared.work.Verb.{Verb}
use Rattle.zk_trace.specs.declared.work.Verb.TheVariants as verbs
use Rattle.zk_blocks.specs.Choices.{IsIn}
use Rattle.zk_trace.specs.Fields.{IsItem, IsQueue}
use Rattle.zk_trace.specs.Sized.{AreSized, IsSizedExpiry, IsSizedWork}
use Rattle.zk_trace.specs.Work.{said_of, submitted_parts}
use Rattle.zk_trace.specs.WorkRead.{FitsOp, FitsAdmitted, fixed_submissions, IsExpiry, AnswersTo}
use Rattle.zk_trace.proofs.Kept.{answers-along}
use Rattle.zk_trace.proofs.WorkStates.{Admits, Arms, Keeps, submitted-all, due-all, keeps}

-- flags are below 32
weight-most : (n : ℕ) (b : Bool) → weight n b ≤ n
weight-most n true = omega arith
weight-most n false = omega arith

pub flags-below : (running cancelling queued armed flushing : Bool) → busy_flags running cancelling queued armed flushing < 32
flags-below a b c d e = omega (arith, weight-most 1 a, weight-most 2 b, weight-most 4 c, weight-most 8 d, weight-most 16 e)

module _ (decls : List Decl) where
  -- it is of its operation, if its numbers are within their types
  abbrev Says : WorkOp → WorkReply → Type 0
  Says op r = IsSizedWork r → AnswersTo decls (said_of op).0 r

  -- Submissions.

  -- one that was admitted, to a queue that is declared
  abbrev Admitted : Submitted → Type 0
  Admitted (Fresh number queue) = IsQueue decls queue
  Admitted (Rerun number queue) = IsQueue decls queue
  Admitted other = ⊥

  -- what becomes of one that has a queue to go to
  abbrev Goes : Submitted → Type 0
  Goes s = IsIn s fixed_submissions ⊎ Admitted s

  -- and of any
  abbrev Comes : Submitted → Type 0
  Comes s = Goes s ⊎ (s ≡ Refused Inval)

  fits : (s : Submitted) → Admitted s → AreSized (submitted_parts s) → FitsAdmitted decls s
  fits Already is sized = absurd is
  fits (Fresh number queue) is sized = (sized.1.0, is)
  fits (Rerun number queue) is sized = (sized.1.0, is)
  fits (Refused errno) is sized = absurd is

  admission-goes : (i : Item) (number : ℕ) → IsQueue decls number → Goes (admission i number)
  admission-goes i number is = by i.running where
    by : (b : Bool) → Goes (cond b (Rerun i.next number) (Fresh i.next number))
    by true = inr is
    by false = inr is

  to-goes : (i : Item) (caller : Option ℕ) (number : ℕ) (queue : Queue) → IsQueue decls number → Goes (submission_to i caller number queue)
  to-goes i caller number queue is = by (not queue.started) (queue.draining && not (is_chained queue caller)) (queue.plugged && not queue.draining) where
    by : (a b c : Bool) → Goes (option_map_or Refused (cond a (Some NoDev) (cond b (Some Busy) (cond c (Some Busy) None))) (admission i number))
    by true b c = inl (inr (inr (inl refl)))
    by false true c = inl (inr (inl refl))
    by false false true = inl (inr (inl refl))
    by false false false = admission-goes i number is

  -- one that goes nowhere is refused
  at-comes : (i : Item) (queues : List Queue) (caller : Option ℕ) (o : Option ℕ) → length queues ≡ length (places is_queue decls) → Comes (submission_at i queues caller o)
  at-comes i queues caller None long = inr refl
  at-comes i queues caller (Some number) long = by (slice_get queues number) refl where
    by : (o : Option Queue) → slice_get queues number ≡ o → Comes (option_map_or (submission_to i caller number) o (Refused Inval))
    by None there = inr refl
    by (Some queue) there = inl (to-goes i caller number queue (subst (λ (n : ℕ). number < n) long (slice_get_within queues number queue there)))

  -- and one that goes to a queue isn't
  at-goes : (i : Item) (queues : List Queue) (caller : Option ℕ) (number : ℕ) → length queues ≡ length (places is_queue decls) → IsQueue decls number →
      Goes (submission_at i queues caller (Some number))
  at-goes i queues caller number long is = by (there queues number (omega arith)) where
    there : (qs : List Queue) (n : ℕ) → n < length qs → (queue : Queue) × (slice_get qs n ≡ Some queue)
    there [] n below = absurd (omega arith)
    there (q ∷ qs) zero below = (q, refl)
    there (q ∷ qs) (suc n) below = there qs n (omega arith)

    by : (queue : Queue) × (slice_get queues number ≡ Some queue) → Goes (option_map_or (submission_to i caller number) (slice_get queues number) (Refused Inval))
    by found = subst (λ (o : Option Queue). Goes (option_map_or (submission_to i caller number) o (Refused Inval))) (sym found.1) (to-goes i caller number found.0 is)

  asked-goes : (i : Item) (at : Submitted) → Goes at → Goes (cond i.cancelling (Refused Busy) (cond i.queued Already at))
  asked-goes i at goes = by i.cancelling i.queued where
    by : (a b : Bool) → Goes (cond a (Refused Busy) (cond b Already at))
    by true b = inl (inr (inl refl))
    by false true = inl (inl refl)
    by false false = goes

  asked-comes : (i : Item) (at : Submitted) → Comes at → Comes (cond i.cancelling (Refused Busy) (cond i.queued Already at))
  asked-comes i at (inl goes) = inl (asked-goes i at goes)
  asked-comes i at (inr is) = by i.cancelling i.queued where
    by : (a b : Bool) → Comes (cond a (Refused Busy) (cond b Already at))
    by true b = inl (inl (inr (inl refl)))
    by false true = inl (inl (inl refl))
    by false false = inr is

  -- an item that runs goes to the queue that runs it, and else to the one that is named
  target-is : (xs : List Admission) (marks : List ℕ) (item queue : ℕ) → All (Admits decls) xs → IsQueue decls queue →
      (number : ℕ) × (target (item_of xs marks item) (Some queue) ≡ Some number) × IsQueue decls number
  target-is xs marks item queue all is = by (find (runs_as item) xs) refl where
    by : (o : Option Admission) → find (runs_as item) xs ≡ o →
        (number : ℕ) × (option_or (option_map (λ (a : Admission). a.queue) o) (option_or (Some queue) (last_queue xs item)) ≡ Some number) × IsQueue decls number
    by None found = (queue, refl, is)
    by (Some a) found = (a.queue, refl, (All-found (Admits decls) (runs_as item) xs a all found).1)

  named-goes : (xs : List Admission) (marks : List ℕ) (queues : List Queue) (caller : Option ℕ) (item queue : ℕ) → All (Admits decls) xs → length queues ≡ length (places is_queue decls) → IsQueue decls queue →
      Goes (submission (item_of xs marks item) queues caller (Some queue))
  named-goes xs marks queues caller item queue all long is =
      let i = item_of xs marks item in
      let to = target-is xs marks item queue all is in
      asked-goes i (submission_at i queues caller (target i (Some queue)))
      (subst (λ (o : Option ℕ). Goes (submission_at i queues caller o)) (sym to.1) (at-goes i queues caller to.0 long to.2))

  any-comes : (xs : List Admission) (marks : List ℕ) (queues : List Queue) (caller : Option ℕ) (item : ℕ) (named : Option ℕ) → length queues ≡ length (places is_queue decls) →
      Comes (submission (item_of xs marks item) queues caller named)
  any-comes xs marks queues caller item named long =
      let i = item_of xs marks item in
      asked-comes i (submission_at i queues caller (target i named)) (at-comes i queues caller (target i named) long)

  -- Replies.

  submit-says : (s : Submitted) → Comes s → IsSizedWork (replies.Sub s) → AnswersTo decls verbs.Submit (replies.Sub s)
  submit-says s (inl (inl (inl is))) sized = inl (inl (ap replies.Sub is))
  submit-says s (inl (inl (inr (inl is)))) sized = inl (inr (inl (ap replies.Sub is)))
  submit-says s (inl (inl (inr (inr (inl is))))) sized = inl (inr (inr (inr (inl (ap replies.Sub is)))))
  submit-says s (inl (inl (inr (inr (inr none))))) sized = absurd none
  submit-says s (inl (inr admitted)) sized = inr (fits s admitted sized.parts)
  submit-says s (inr is) sized = inl (inr (inr (inl (ap replies.Sub is))))

  schedule-says : (s : Submitted) → Goes s → IsSizedWork (replies.Sub s) → AnswersTo decls verbs.Schedule (replies.Sub s)
  schedule-says s (inl (inl is)) sized = inl (inl (ap replies.Sub is))
  schedule-says s (inl (inr (inl is))) sized = inl (inr (inr (inl (ap replies.Sub is))))
  schedule-says s (inl (inr (inr (inl is)))) sized = inl (inr (inr (inr (inl (ap replies.Sub is)))))
  schedule-says s (inl (inr (inr (inr none)))) sized = absurd none
  schedule-says s (inr admitted) sized = inr (fits s admitted sized.parts)

  delay-says : (delay : ℕ) (s : Submitted) → Goes s → IsSizedWork (cond (eqb delay 0) (replies.Sub s) replies.Armed) → AnswersTo decls verbs.Schedule (cond (eqb delay 0) (replies.Sub s) replies.Armed)
  delay-says delay s goes = by (eqb delay 0) where
    by : (b : Bool) → IsSizedWork (cond b (replies.Sub s) replies.Armed) → AnswersTo decls verbs.Schedule (cond b (replies.Sub s) replies.Armed)
    by true sized = schedule-says s goes sized
    by false sized = inl (inr (inl refl))

  pending-says : (pending : Bool) (delay : ℕ) (s : Submitted) → Goes s → IsSizedWork (cond pending (replies.Sub Already) (cond (eqb delay 0) (replies.Sub s) replies.Armed)) →
      AnswersTo decls verbs.Schedule (cond pending (replies.Sub Already) (cond (eqb delay 0) (replies.Sub s) replies.Armed))
  pending-says true delay s goes sized = inl (inl refl)
  pending-says false delay s goes sized = delay-says delay s goes sized

  cancel_start-says : (flags : ℕ) (runs : Bool) → AnswersTo decls verbs.CancelStart (cancel_start_reply flags runs)
  cancel_start-says flags runs = by (eqb flags 0) runs where
    by : (a b : Bool) → AnswersTo decls verbs.CancelStart (cond a (replies.Truth false) (cond b replies.Wait (replies.Truth true)))
    by true b = inl (inr (inr (inl refl)))
    by false true = inl (inl refl)
    by false false = inl (inr (inl refl))

  flush-says : (number : Option ℕ) → IsSizedWork (flush_start_reply number) → AnswersTo decls verbs.FlushStart (flush_start_reply number)
  flush-says None sized = inl (inr (inl refl))
  flush-says (Some number) sized = inr sized.parts.1.0

  -- one of two replies, by a test
  either : (verb : Verb) (b : Bool) (x y : WorkReply) → AnswersTo decls verb x → AnswersTo decls verb y → AnswersTo decls verb (cond b x y)
  either verb true x y one two = one
  either verb false x y one two = two

  drain-says : (b : Bool) → IsSizedWork (cond b (replies.Number 0) replies.Wait) → AnswersTo decls verbs.DrainStart (cond b (replies.Number 0) replies.Wait)
  drain-says true sized = inr sized.parts.0
  drain-says false sized = inl (inl refl)

  expired-is : (e : Expiry) → IsItem decls e.item → Goes e.submitted → IsSizedExpiry e → IsExpiry decls e
  expired-is e is (inl fixed) sized = (is, inl fixed)
  expired-is e is (inr admitted) sized = (is, inr (fits e.submitted admitted sized))

  expiries-are : (marks : List ℕ) (queues : List Queue) (arms : List Arm) (xs : List Admission) → length queues ≡ length (places is_queue decls) → All (Arms decls) arms → All (Admits decls) xs →
      AllByRecursion IsSizedExpiry (expiries marks queues arms xs) → AllByRecursion (IsExpiry decls) (expiries marks queues arms xs)
  expiries-are marks queues [] xs long each all sized = tt
  expiries-are marks queues (a ∷ arms) xs long each all sized =
      let here = All-head (Arms decls) a arms each in
      let answer = submission (item_of xs marks a.item) queues None (Some a.queue) in
      let e : Expiry = record { item = a.item; submitted = answer } in (
        expired-is e here.0 (named-goes xs marks queues None a.item a.queue all long here.1) sized.0,
        expiries-are marks queues arms (submit xs a.item answer) long (All-tail (Arms decls) a arms each)
            (submitted-all decls xs marks queues None a.item (Some a.queue) long here.0 all) sized.1,
      )

  begin-says : (s : State) (queue : ℕ) (r : WorkReply) → Keeps decls s → taken_up s.admissions queue ≡ Some r → IsSizedWork r → AnswersTo decls verbs.Begin r
  begin-says s queue r kept is = by (first (line s.admissions queue)) is where
    taken : (number : ℕ) (o : Option Admission) → slice_get s.admissions number ≡ o → option_map (λ (a : Admission). replies.Run a.item number) o ≡ Some r → IsSizedWork r → AnswersTo decls verbs.Begin r
    taken number None there is = absurd (none-some r is)
    taken number (Some a) there is =
        subst (λ (r : WorkReply). IsSizedWork r → AnswersTo decls verbs.Begin r) (same_Some (replies.Run a.item number) r is)
        (λ sized. inr ((All-at (Admits decls) s.admissions number a kept.admissions there).0, sized.parts.1.0))

    by : (o : Option ℕ) → option_and_then (λ number. option_map (λ (a : Admission). replies.Run a.item number) (slice_get s.admissions number)) o ≡ Some r → IsSizedWork r → AnswersTo decls verbs.Begin r
    by None is = absurd (none-some r is)
    by (Some number) is = taken number (slice_get s.admissions number) refl is

  says : (s : State) (who : Who) (op : WorkOp) (r : WorkReply) → Keeps decls s → FitsOp decls op → work_reply s who op ≡ Some r → Says op r
  says s who (ops.Submit item named) r kept is told =
      subst (Says (ops.Submit item named)) (same_Some (replies.Sub (submission_in s (Some who.number) item named)) r told)
      (submit-says (submission_in s (Some who.number) item named) (any-comes s.admissions s.marks s.queues (Some who.number) item named kept.queues))
  says s who (ops.Cancel item) r kept is told = subst (Says (ops.Cancel item)) (same_Some (replies.Flags (flags_of (cancel s item) item)) r told) (λ sized. inr (below (cancel s item) item)) where
    below : (t : State) (item : ℕ) → flags_of t item < 32
    below t item = flags-below _ _ _ _ _
  says s who (ops.CancelStart item) r kept is told =
      subst (Says (ops.CancelStart item)) (same_Some (cancel_start_reply (flags_of s item) (is_some (running s.admissions item))) r told)
      (λ sized. cancel_start-says (flags_of s item) (is_some (running s.admissions item)))
  says s who (ops.CancelDone place) r kept is told = λ sized. inl (inl (sym (cond_some (may_close s closings.Cancel who place) (replies.Truth true) r told).1))
  says s who (ops.FlushStart item) r kept is told =
      subst (Says (ops.FlushStart item)) (same_Some (flush_start_reply (flushed_of s who item)) r told) (flush-says (flushed_of s who item))
  says s who (ops.FlushDone place) r kept is told = λ sized. inl (inl (sym (cond_some (may_close s closings.Flush who place) (replies.Truth true) r told).1))
  says s who (ops.Schedule item queue delay) r kept is told =
      subst (Says (ops.Schedule item queue delay)) (same_Some (schedule_reply_in s who item queue delay) r told)
      (pending-says (is_pending_in s item) delay (submission_in s (Some who.number) item (Some queue)) (named-goes s.admissions s.marks s.queues (Some who.number) item queue kept.admissions kept.queues is.1))
  says s who (ops.Reschedule item queue delay) r kept is told =
      subst (Says (ops.Reschedule item queue delay)) (same_Some (delay_reply_in s who item queue delay) r told)
      (delay-says delay (submission_in s (Some who.number) item (Some queue)) (named-goes s.admissions s.marks s.queues (Some who.number) item queue kept.admissions kept.queues is.1))
  says s who (ops.Remaining item) r kept is told =
      subst (Says (ops.Remaining item)) (same_Some (replies.Number (remaining (deadline_of s.arms item) s.time)) r told) (λ sized. inr sized.parts.0)
  says s who (ops.Start queue) r kept is told = subst (Says (ops.Start queue)) (same_Some (start_reply s.queues queue) r told) (λ sized. either verbs.Start (is_started s.queues queue) replies.Already replies.Done (inl (inr (inl refl))) (inl (inl refl)))
  says s who (ops.DrainStart queue plug) r kept is told =
      subst (Says (ops.DrainStart queue plug)) (same_Some (drain_reply (is_empty_and_idle s.admissions queue)) r told) (drain-says (is_empty_and_idle s.admissions queue))
  says s who (ops.DrainDone place) r kept is told =
      subst (Says (ops.DrainDone place)) (cond_some (may_close s closings.Drain who place) (replies.Number 1) r told).1 (λ sized. inr sized.parts.0)
  says s who (ops.Unplug queue) r kept is told = subst (Says (ops.Unplug queue)) (same_Some (unplug_reply s.queues queue) r told) (λ sized. either verbs.Unplug (is_plugged s.queues queue) replies.Done replies.Already (inl (inl refl)) (inl (inr (inl refl))))
  says s who (ops.Stop queue) r kept is told =
      let idle = is_empty_and_idle s.admissions queue in
      let may = is_plugged s.queues queue && idle in
      subst (Says (ops.Stop queue)) (same_Some (stop_reply idle s.queues queue) r told) (λ sized. either verbs.Stop (not (is_started s.queues queue)) replies.Already (cond may replies.Done replies.Busy) (inl (inr (inl refl))) (either verbs.Stop may replies.Done replies.Busy (inl (inl refl)) (inl (inr (inr (inl refl))))))
  says s who (ops.Announce ticks) r kept is told =
      subst (Says (ops.Announce ticks)) (same_Some (announce_reply s ticks) r told)
      (λ sized. inr (sized.parts.1.0, expiries-are s.marks s.queues (due (s.time + ticks) s.arms) s.admissions kept.queues (due-all decls (s.time + ticks) s.arms kept.arms) kept.admissions sized.expiries))
  says s who (ops.Begin queue) r kept is told =
      begin-says s queue r kept (cond_chosen (may_begin s.admissions s.queues who queue) (taken_up s.admissions queue) r told).1
  says s who (ops.End queue) r kept is told = λ sized. inl (inl (sym (cond_some (may_end s.admissions s.queues who queue) replies.Done r told).1))

  -- each reply of a history is of its operation, where the operations fit
  pub work-answers : (start : State) (h : List (Entry WorkOp WorkReply)) → Keeps decls start → Replays work_machine start h → AllByRecursion (λ e. FitsOp decls e.op) h →
      AllByRecursion (λ e. IsSizedWork e.reply → AnswersTo decls (said_of e.op).0 e.reply) h
  work-answers start h kept replays fit = answers-along work_machine (Keeps decls) (FitsOp decls) Says says (keeps decls) start h kept replays fit
