-- What an entry makes, and where it goes.
use Rattle.std.proofs.Common.{◌≡◌, ℕ, suc, ◌+◌, ◌≤◌, ◌⊎◌, inl, inr, Bool, true, false, not, ◌&&◌, cond, eqb, ◌==◌, Option, Some, None, option_map, option_to_list, List, [], ◌∷◌, ◌++◌, length, map, find, slice_get, refl, sym, ap, subst, ◌∙◌, arith}
use Rattle.std.proofs.lemmas.Bool.{eq-eqb, false≢true, and_right}
use Rattle.std.proofs.lemmas.List.{length-append, length-map}
use Rattle.std.proofs.lemmas.Option.{same_Some, slice_get_within, slice_get-map}
use Rattle.zk_base.specs.declared.ids.Who.{Who}
use Rattle.zk_base.specs.declared.errors.Errno.TheVariants as errnos
use Rattle.zk_base.specs.Legal.{state_after}
use Rattle.zk_base.proofs.Histories.{state_after-snoc}
use Rattle.zk_model_work.specs.declared.parts.Life.TheVariants.{Waiting, Running, Ended, Dropped}
use Rattle.zk_model_work.specs.declared.parts.Admission.{Admission}
use Rattle.zk_model_work.specs.declared.parts.Arm.{Arm}
use Rattle.zk_model_work.specs.declared.parts.Item.{Item}
use Rattle.zk_model_work.specs.declared.parts.Queue.{Queue}
use Rattle.zk_model_work.specs.declared.ops.WorkOp.{WorkOp}
use Rattle.zk_model_work.specs.declared.ops.WorkOp.TheVariants.{Submit, Cancel, CancelStart, CancelDone, FlushStart, FlushDone, Schedule, Reschedule, Remaining, Start, DrainStart, DrainDone, Unplug, Stop, Announce, Begin, End}
use Rattle.zk_model_work.specs.declared.ops.Submitted.{Submitted}
use Rattle.zk_model_work.specs.declared.ops.Submitted.TheVariants.{Already, Fresh, Rerun, Refused}
use Rattle.zk_model_work.specs.declared.ops.Expiry.{Expiry}
use Rattle.zk_model_work.specs.declared.ops.WorkReply.{WorkReply}
use Rattle.zk_model_work.specs.declared.ops.WorkReply.TheVariants as replies
use Rattle.zk_model_work.specs.Questions.{is_waiting, is_running, is_open, runs_on, arms_item, live_arm, due, item_of}
use Rattle.zk_model_work.specs.State.{State}
use Rattle.zk_model_work.specs.Answers.{is_chained, target, refusal, submission}
use Rattle.zk_model_work.specs.Machine.{submission_in, submit, submit_arms, expiries, arm, disarm, hurried, drop_one, begin, end_one, with_life, is_pending_in, schedule_reply_in, delay_reply_in, announce_reply, work_reply, work_next, work_machine}
use Rattle.zk_model_work.specs.Histories.{OfEach, cancels, hands_out, submitter, Makes, target_of, IsArmedFor, Named, IsSubmission, IsNewest, NoneIsOpen}
use Rattle.zk_model_work.specs.Laws.{MadeWaiting, WaitsOn, GoesToItsQueue, StartedAdmits}
use Rattle.zk_model_work.proofs.Moves.{still-submit, schedule-keeps, delayed-keeps}
use Rattle.zk_model_work.proofs.Overlaps.{begin-is, still-cond}
use Rattle.zk_model_work.proofs.Lives.{set_life-aside}
use Rattle.zk_model_work.proofs.Begins.{Begun-reply}
use Rattle.zk_model_work.proofs.Drains.{made-took}
use Rattle.zk_model_work.proofs.Found.{flush_waits_for_newest}
use Rattle.zk_model_work.proofs.Cancels.{length-begin, none-new}
use Rattle.zk_model_work.proofs.Delays.{one_live_arm}
use Rattle.zk_model_work.proofs.Entries.{entry-replied, at_each, at_each_in}
use Rattle.zk_model_work.proofs.Replies.{OneIsLive, item-live}
use Rattle.zk_model_work.proofs.Submissions.{Says, says, waiting_one, Makes_one, made-one, submits, named-once, stays-arms}

-- what an entry makes

-- a flush hurries the item of a live arm
abbrev Hurries : State → Who → WorkOp → ℕ → Admission → Type 0
Hurries s who op n b = (item : ℕ) × (a : Arm) × (op ≡ FlushStart item) × (live_arm s.arms item ≡ Some a) × (b.item ≡ a.item)
    × ((submission (item_of s.admissions s.marks a.item) s.queues (Some who.number) (Some a.queue) ≡ Fresh n b.queue)
    ⊎ (submission (item_of s.admissions s.marks a.item) s.queues (Some who.number) (Some a.queue) ≡ Rerun n b.queue))

abbrev Tells : State → Who → WorkOp → WorkReply → ℕ → Admission → Type 0
Tells s who op reply n b = (b.life ≡ Waiting)
    × (IsSubmission op reply b.item (Fresh n b.queue) ⊎ (IsSubmission op reply b.item (Rerun n b.queue) ⊎ Hurries s who op n b))

made-arms : (marks : List ℕ) (queues : List Queue) (arms : List Arm) (ys : List Admission) (n : ℕ) (b : Admission) →
    slice_get (submit_arms marks queues None arms ys) n ≡ Some b →
    (slice_get ys n ≡ Some b) ⊎ ((k : ℕ) × (x : Expiry) × (slice_get (expiries marks queues arms ys) k ≡ Some x)
    × (x.item ≡ b.item) × ((x.submitted ≡ Fresh n b.queue) ⊎ (x.submitted ≡ Rerun n b.queue)) × (b.life ≡ Waiting))
made-arms marks queues [] ys n b at = inl at
made-arms marks queues (a ∷ arms) ys n b at = by (made-arms marks queues arms (submit ys a.item answer) n b at) where
  answer : Submitted
  answer = submission (item_of ys marks a.item) queues None (Some a.queue)

  first : (slice_get ys n ≡ Some b) ⊎ Makes_one answer a.item n b →
      (slice_get ys n ≡ Some b) ⊎ ((k : ℕ) × (x : Expiry) × (slice_get (expiries marks queues (a ∷ arms) ys) k ≡ Some x)
      × (x.item ≡ b.item) × ((x.submitted ≡ Fresh n b.queue) ⊎ (x.submitted ≡ Rerun n b.queue)) × (b.life ≡ Waiting))
  first (inl old) = inl old
  first (inr new) = inr (0, record { item = a.item; submitted = answer }, refl, sym new.1, new.0, new.2)

  by : (slice_get (submit ys a.item answer) n ≡ Some b)
      ⊎ ((k : ℕ) × (x : Expiry) × (slice_get (expiries marks queues arms (submit ys a.item answer)) k ≡ Some x)
      × (x.item ≡ b.item) × ((x.submitted ≡ Fresh n b.queue) ⊎ (x.submitted ≡ Rerun n b.queue)) × (b.life ≡ Waiting)) →
      (slice_get ys n ≡ Some b) ⊎ ((k : ℕ) × (x : Expiry) × (slice_get (expiries marks queues (a ∷ arms) ys) k ≡ Some x)
      × (x.item ≡ b.item) × ((x.submitted ≡ Fresh n b.queue) ⊎ (x.submitted ≡ Rerun n b.queue)) × (b.life ≡ Waiting))
  by (inl here) = first (made-one ys marks queues None (Some a.queue) a.item n b here)
  by (inr it) = inr (suc it.0, it.1, it.2, it.3, it.4, it.5)

-- what one submission of a player makes
tells-one : (s : State) (who : Who) (op : WorkOp) (reply : WorkReply) (item : ℕ) (named : Option ℕ) (n : ℕ)
    (b : Admission) → length s.admissions ≤ n →
    slice_get (submit s.admissions item (submission_in s (Some who.number) item named)) n ≡ Some b →
    ((answer : Submitted) → submission_in s (Some who.number) item named ≡ answer → (answer ≡ Already → ⊥) →
    item ≡ b.item → IsSubmission op reply b.item answer) → Tells s who op reply n b
tells-one s who op reply item named n b past at told =
    by (made-one s.admissions s.marks s.queues (Some who.number) named item n b at) where
      by : (slice_get s.admissions n ≡ Some b) ⊎ Makes_one (submission_in s (Some who.number) item named) item n b →
          Tells s who op reply n b
      by (inl old) = let within = slice_get_within s.admissions n b old in absurd (omega arith)
      by (inr it) = which it.0 where
        which : (submission_in s (Some who.number) item named ≡ Fresh n b.queue)
            ⊎ (submission_in s (Some who.number) item named ≡ Rerun n b.queue) → Tells s who op reply n b
        which (inl is) = (it.2, inl (told (Fresh n b.queue) is (λ no. absurd (cc)) (sym it.1)))
        which (inr is) = (it.2, inr (inl (told (Rerun n b.queue) is (λ no. absurd (cc)) (sym it.1))))

made-step : (s : State) (who : Who) (op : WorkOp) (reply : WorkReply) (n : ℕ) (b : Admission) →
    work_reply s who op ≡ Some reply → length s.admissions ≤ n →
    slice_get (work_next s who op).admissions n ≡ Some b → Tells s who op reply n b
made-step s who (Submit item named) reply n b is past at =
    let said = same_Some (replies.Sub (submission_in s (Some who.number) item named)) reply is in
    tells-one s who (Submit item named) reply item named n b past at
    (λ answer so other same. subst (λ (r : WorkReply). IsSubmission (Submit item named) r b.item answer) said (same, so))
made-step s who (Cancel item) reply n b is past at =
    absurd (none-new s.admissions (map (drop_one item) s.admissions) n b (length-map s.admissions (drop_one item)) at past)
made-step s who (CancelStart item) reply n b is past at =
    absurd (none-new s.admissions (map (drop_one item) s.admissions) n b (length-map s.admissions (drop_one item)) at past)
made-step s who (CancelDone place) reply n b is past at = absurd (none-new s.admissions s.admissions n b refl at past)
made-step s who (FlushStart item) reply n b is past at = by (live_arm s.arms item) refl at where
  by : (o : Option Arm) → live_arm s.arms item ≡ o →
      slice_get (submit_arms s.marks s.queues (Some who.number) (option_to_list o) s.admissions) n ≡ Some b →
      Tells s who (FlushStart item) reply n b
  by None none at = absurd (none-new s.admissions s.admissions n b refl at past)
  by (Some a) there at = which (made-one s.admissions s.marks s.queues (Some who.number) (Some a.queue) a.item n b at) where
    which : (slice_get s.admissions n ≡ Some b)
        ⊎ Makes_one (submission (item_of s.admissions s.marks a.item) s.queues (Some who.number) (Some a.queue)) a.item n
        b → Tells s who (FlushStart item) reply n b
    which (inl old) = absurd (none-new s.admissions s.admissions n b refl old past)
    which (inr it) = (it.2, inr (inr (item, a, refl, there, it.1, it.0)))
made-step s who (FlushDone place) reply n b is past at = absurd (none-new s.admissions s.admissions n b refl at past)
made-step s who (Schedule item queue delay) reply n b is past at =
    by (is_pending_in s item) (eqb delay 0) (same_Some (schedule_reply_in s who item queue delay) reply is) at where
      by : (p d : Bool) → cond p (replies.Sub Already)
          (cond d (replies.Sub (submission_in s (Some who.number) item (Some queue))) replies.Armed) ≡ reply →
          slice_get (cond p s (cond d
          (record s { admissions = submit s.admissions item (submission_in s (Some who.number) item (Some queue)) })
          (record s { arms = arm s.arms item queue (s.time + delay) }))).admissions n ≡ Some b →
          Tells s who (Schedule item queue delay) reply n b
      by true d said at = absurd (none-new s.admissions s.admissions n b refl at past)
      by false true said at =
          tells-one s who (Schedule item queue delay) reply item (Some queue) n b past at
          (λ answer so other same. subst (λ (r : WorkReply). IsSubmission (Schedule item queue delay) r b.item answer) said (
            same,
            so,
            other,
          ))
      by false false said at = absurd (none-new s.admissions s.admissions n b refl at past)
made-step s who (Reschedule item queue delay) reply n b is past at =
    by (eqb delay 0) (same_Some (delay_reply_in s who item queue delay) reply is) at where
      t : State
      t = record s { arms = disarm s.arms item }

      by : (d : Bool) → cond d (replies.Sub (submission_in s (Some who.number) item (Some queue))) replies.Armed ≡ reply →
          slice_get (cond d (record t
          { admissions = submit t.admissions item (submission_in t (Some who.number) item (Some queue)) })
          (record t { arms = arm t.arms item queue (t.time + delay) })).admissions n ≡ Some b →
          Tells s who (Reschedule item queue delay) reply n b
      by true said at =
          tells-one s who (Reschedule item queue delay) reply item (Some queue) n b past at
          (λ answer so other same. subst (λ (r : WorkReply). IsSubmission (Reschedule item queue delay) r b.item answer) said (same, so))
      by false said at = absurd (none-new s.admissions s.admissions n b refl at past)
made-step s who (Remaining item) reply n b is past at = absurd (none-new s.admissions s.admissions n b refl at past)
made-step s who (Start queue) reply n b is past at = absurd (none-new s.admissions s.admissions n b refl at past)
made-step s who (DrainStart queue plug) reply n b is past at = absurd (none-new s.admissions s.admissions n b refl at past)
made-step s who (DrainDone place) reply n b is past at = absurd (none-new s.admissions s.admissions n b refl at past)
made-step s who (Unplug queue) reply n b is past at = absurd (none-new s.admissions s.admissions n b refl at past)
made-step s who (Stop queue) reply n b is past at = absurd (none-new s.admissions s.admissions n b refl at past)
made-step s who (Announce ticks) reply n b is past at =
    by (made-arms s.marks s.queues (due (s.time + ticks) s.arms) s.admissions n b at) where
      told : List Expiry
      told = expiries s.marks s.queues (due (s.time + ticks) s.arms) s.admissions

      tells : (answer : Submitted) (k : ℕ) (x : Expiry) → slice_get told k ≡ Some x → x.item ≡ b.item → x.submitted ≡ answer →
          IsSubmission (Announce ticks) reply b.item answer
      tells answer k x there item so = subst (λ (r : WorkReply). IsSubmission (Announce ticks) r b.item answer)
          (same_Some (announce_reply s ticks) reply is) (k, x, there, item, so)

      by : (slice_get s.admissions n ≡ Some b) ⊎ ((k : ℕ) × (x : Expiry) × (slice_get told k ≡ Some x) × (x.item ≡ b.item)
          × ((x.submitted ≡ Fresh n b.queue) ⊎ (x.submitted ≡ Rerun n b.queue)) × (b.life ≡ Waiting)) →
          Tells s who (Announce ticks) reply n b
      by (inl old) = absurd (none-new s.admissions s.admissions n b refl old past)
      by (inr it) = which it.4 where
        which : (it.1.submitted ≡ Fresh n b.queue) ⊎ (it.1.submitted ≡ Rerun n b.queue) → Tells s who (Announce ticks) reply n b
        which (inl so) = (it.5, inl (tells (Fresh n b.queue) it.0 it.1 it.2 it.3 so))
        which (inr so) = (it.5, inr (inl (tells (Rerun n b.queue) it.0 it.1 it.2 it.3 so)))
made-step s who (Begin queue) reply n b is past at =
    absurd (none-new s.admissions (begin s.admissions queue) n b (length-begin s.admissions queue) at past)
made-step s who (End queue) reply n b is past at =
    absurd (none-new s.admissions (map (end_one queue) s.admissions) n b (length-map s.admissions (end_one queue)) at past)

-- a flush that makes an admission waits for it
abbrev Flushed : State → WorkOp → WorkReply → Type 0
Flushed u op reply = (item : ℕ) → op ≡ FlushStart item →
    ((number : ℕ) × (reply ≡ replies.WaitFor number) × IsNewest u item number)
    ⊎ ((reply ≡ replies.Truth false) × NoneIsOpen u item)

find-at : (p : Arm → Bool) (xs : List Arm) (a : Arm) → find p xs ≡ Some a → (n : ℕ) × (slice_get xs n ≡ Some a) × (p a ≡ true)
find-at p [] a is = absurd (cc)
find-at p (x ∷ xs) a is = by (p x) refl is (find-at p xs a) where
  by : (b : Bool) → p x ≡ b → cond b (Some x) (find p xs) ≡ Some a →
      (find p xs ≡ Some a → (n : ℕ) × (slice_get xs n ≡ Some a) × (p a ≡ true)) →
      (n : ℕ) × (slice_get (x ∷ xs) n ≡ Some a) × (p a ≡ true)
  by true passes is further = let same = same_Some x a is in (0, ap Some same, ap p (sym same) ∙ passes)
  by false passes is further = let it = further is in (suc it.0, it.1, it.2)

pub hurried-item : (s : State) (item : ℕ) (a : Arm) → live_arm s.arms item ≡ Some a → (a.item ≡ item) × IsArmedFor s item a.queue
hurried-item s item a is =
    let it = find-at (arms_item item) s.arms a is in
    let live = item-live item a it.2 in
    (live.0, (it.0, a, it.1, live.0, live.1, refl))

flush-waits : (s u : State) (who : Who) (op : WorkOp) (reply : WorkReply) (n : ℕ) (b : Admission) → Flushed u op reply →
    Hurries s who op n b → length u.admissions ≤ n + 1 → slice_get u.admissions n ≡ Some b → b.life ≡ Waiting →
    (op ≡ FlushStart b.item) × (reply ≡ replies.WaitFor n)
flush-waits s u who op reply n b flush it most at waits = (it.2 ∙ ap FlushStart (sym item_is), by (flush it.0 it.2)) where
  item_is : b.item ≡ it.0
  item_is = it.4 ∙ (hurried-item s it.0 it.1 it.3).0

  by : ((number : ℕ) × (reply ≡ replies.WaitFor number) × IsNewest u it.0 number)
      ⊎ ((reply ≡ replies.Truth false) × NoneIsOpen u it.0) → reply ≡ replies.WaitFor n
  by (inl newest) =
      let upper = newest.2.4 n b at item_is (ap is_open waits) in
      let within = slice_get_within u.admissions newest.0 newest.2.0 newest.2.1 in
      let same : newest.0 ≡ n = omega arith in
      newest.1 ∙ ap replies.WaitFor same
  by (inr none) = absurd (false≢true (sym (none.1 n b at item_is) ∙ ap is_open waits))

length-submit : (xs : List Admission) (item : ℕ) (answer : Submitted) → length (submit xs item answer) ≤ length xs + 1
length-submit xs item Already = omega arith
length-submit xs item (Fresh n queue) = let long = length-append xs (waiting_one item queue ∷ []) in omega arith
length-submit xs item (Rerun n queue) = let long = length-append xs (waiting_one item queue ∷ []) in omega arith
length-submit xs item (Refused cause) = omega arith

length-hurried : (s : State) (who : Who) (item : ℕ) → length (hurried s who item) ≤ length s.admissions + 1
length-hurried s who item = by (live_arm s.arms item) where
  by : (o : Option Arm) → length (submit_arms s.marks s.queues (Some who.number) (option_to_list o) s.admissions)
      ≤ length s.admissions + 1
  by None = omega arith
  by (Some a) = length-submit s.admissions a.item
      (submission (item_of s.admissions s.marks a.item) s.queues (Some who.number) (Some a.queue))

-- what each entry makes waits, and is told
made-next : (s u : State) (who : Who) (op : WorkOp) (reply : WorkReply) (n : ℕ) (b : Admission) → u ≡ work_next s who op →
    work_reply s who op ≡ Some reply → Flushed u op reply → Makes s u n b →
    (b.life ≡ Waiting) × (IsSubmission op reply b.item (Fresh n b.queue)
    ⊎ (IsSubmission op reply b.item (Rerun n b.queue) ⊎ ((op ≡ FlushStart b.item) × (reply ≡ replies.WaitFor n))))
made-next s u who op reply n b next is flush makes = (it.0, by it.1) where
  it : Tells s who op reply n b
  it = made-step s who op reply n b is makes.0 (ap (λ (v : State). slice_get v.admissions n) (sym next) ∙ makes.1)

  most : Hurries s who op n b → length u.admissions ≤ n + 1
  most flushes =
      let long = length-hurried s who flushes.0 in
      let same : length u.admissions ≡ length (hurried s who flushes.0) =
      ap (λ (v : State). length v.admissions) (next ∙ ap (work_next s who) flushes.2) in
      let past = makes.0 in
      omega arith

  by : IsSubmission op reply b.item (Fresh n b.queue) ⊎ (IsSubmission op reply b.item (Rerun n b.queue) ⊎ Hurries s who op n b) →
      IsSubmission op reply b.item (Fresh n b.queue)
      ⊎ (IsSubmission op reply b.item (Rerun n b.queue) ⊎ ((op ≡ FlushStart b.item) × (reply ≡ replies.WaitFor n)))
  by (inl fresh) = inl fresh
  by (inr (inl rerun)) = inr (inl rerun)
  by (inr (inr flushes)) = inr (inr (flush-waits s u who op reply n b flush flushes (most flushes) makes.1 it.0))

pub made_waiting : OfEach MadeWaiting
made_waiting start h fresh = record {
  each = λ front rest e parts number a makes.
      let s = state_after work_machine start front in
      made-next s (state_after work_machine start (front ++ e ∷ [])) e.who e.op e.reply number a
      (state_after-snoc work_machine start front e) (entry-replied start h front rest e fresh parts)
      ((flush_waits_for_newest start h fresh).each front rest e parts) makes;
}

-- what waits goes on waiting
dropped-one : (s : State) (item n : ℕ) (a : Admission) → slice_get s.admissions n ≡ Some a → a.life ≡ Waiting →
    slice_get (map (drop_one item) s.admissions) n ≡ Some (cond (a.item == item) (with_life Dropped a) a)
dropped-one s item n a at waits =
    slice_get-map (drop_one item) s.admissions n ∙ ap (option_map (drop_one item)) at
    ∙ ap (λ b. Some (cond b (with_life Dropped a) a)) (both (eqb a.item item) (is_waiting a.life) (ap is_waiting waits)) where
      both : (b c : Bool) → c ≡ true → (b && c) ≡ b
      both true c is = is
      both false c is = refl

waits-next : (s : State) (who : Who) (op : WorkOp) (reply : WorkReply) (n : ℕ) (a : Admission) →
    work_reply s who op ≡ Some reply → slice_get s.admissions n ≡ Some a → a.life ≡ Waiting → hands_out n reply ≡ false →
    slice_get (work_next s who op).admissions n ≡ Some (cond (cancels a.item op) (with_life Dropped a) a)
waits-next s who (Submit item named) reply n a is at waits kept =
    still-submit s.admissions item (submission_in s (Some who.number) item named) n a at
waits-next s who (Cancel item) reply n a is at waits kept = dropped-one s item n a at waits
waits-next s who (CancelStart item) reply n a is at waits kept = dropped-one s item n a at waits
waits-next s who (CancelDone place) reply n a is at waits kept = at
waits-next s who (FlushStart item) reply n a is at waits kept =
    stays-arms s.marks s.queues (Some who.number) (option_to_list (live_arm s.arms item)) s.admissions n a at
waits-next s who (FlushDone place) reply n a is at waits kept = at
waits-next s who (Schedule item queue delay) reply n a is at waits kept =
    schedule-keeps (λ t. slice_get t.admissions n ≡ Some a) s who item queue delay at
    (still-submit s.admissions item (submission_in s (Some who.number) item (Some queue)) n a at) (λ free later. at)
waits-next s who (Reschedule item queue delay) reply n a is at waits kept =
    delayed-keeps (λ t. slice_get t.admissions n ≡ Some a) (record s { arms = disarm s.arms item }) who item queue delay
    (still-submit s.admissions item (submission_in s (Some who.number) item (Some queue)) n a at) (λ later. at)
waits-next s who (Remaining item) reply n a is at waits kept = at
waits-next s who (Start queue) reply n a is at waits kept = at
waits-next s who (DrainStart queue plug) reply n a is at waits kept = at
waits-next s who (DrainDone place) reply n a is at waits kept = at
waits-next s who (Unplug queue) reply n a is at waits kept = at
waits-next s who (Stop queue) reply n a is at waits kept = at
waits-next s who (Announce ticks) reply n a is at waits kept =
    stays-arms s.marks s.queues None (due (s.time + ticks) s.arms) s.admissions n a at
waits-next s who (Begin queue) reply n a is at waits kept =
    let it = Begun-reply s who queue reply is in
    let apart : eqb it.number n ≡ false = sym (ap (hands_out n) it.replied) ∙ kept in
    ap (λ (xs : List Admission). slice_get xs n) (begin-is s.admissions queue reply it)
    ∙ set_life-aside s.admissions it.number n Running (λ same. false≢true (sym apart ∙ eq-eqb it.number n same)) ∙ at
waits-next s who (End queue) reply n a is at waits kept =
    slice_get-map (end_one queue) s.admissions n ∙ ap (option_map (end_one queue)) at
    ∙ ap Some (still-cond (runs_on queue a) a Ended (and_right (eqb a.queue queue) (is_running a.life) (ap is_running waits)))

pub waits_on : OfEach WaitsOn
waits_on = at_each _ (λ s e is number a at waits kept. waits-next s e.who e.op e.reply number a is at waits kept)

-- where it goes
goes-told : (s : State) (who : Who) (op : WorkOp) (reply : WorkReply) (n : ℕ) (b : Admission) (named : Option ℕ)
    (answer : Submitted) → OneIsLive s → work_reply s who op ≡ Some reply → Named s op b.item named →
    IsSubmission op reply b.item answer → ((i : Item) (named : Option ℕ) → Says i s.queues (submitter who op) named answer →
    target i named ≡ Some b.queue) → target_of s b.item named ≡ Some b.queue
goes-told s who op reply n b named answer one is names told says_so =
    let it = submits s who op reply b.item answer one is told in
    let i = item_of it.2.ys s.marks b.item in
    let so = subst (Says i s.queues (submitter who op) it.0) it.2.is (says i s.queues (submitter who op) it.0) in
    ap (target_of s b.item) (named-once s op b.item named it.0 one names it.1) ∙ sym it.2.same.3 ∙ says_so i it.0 so

goes-next : (s : State) (who : Who) (op : WorkOp) (reply : WorkReply) (n : ℕ) (b : Admission) (named : Option ℕ) →
    OneIsLive s → work_reply s who op ≡ Some reply → Makes s (work_next s who op) n b → Named s op b.item named →
    target_of s b.item named ≡ Some b.queue
goes-next s who op reply n b named one is makes names = by (made-step s who op reply n b is makes.0 makes.1).1 where
  hurried-to : (it : Hurries s who op n b) →
      ((i : Item) (named : Option ℕ) →
      Says i s.queues (Some who.number) named
      (submission (item_of s.admissions s.marks it.1.item) s.queues (Some who.number) (Some it.1.queue)) →
      target i named ≡ Some b.queue) → target_of s b.item named ≡ Some b.queue
  hurried-to it says_so =
      let a = it.1 in
      let found = hurried-item s it.0 a it.3 in
      let item_is : b.item ≡ it.0 = it.4 ∙ found.0 in
      let named_is : named ≡ Some a.queue =
      named-once s op b.item named (Some a.queue) one names
      (subst (λ (o : WorkOp). Named s o b.item (Some a.queue)) (sym it.2) (
        a.queue,
        refl,
        subst (λ i. IsArmedFor s i a.queue) (sym item_is) found.1,
      )) in
      let i = item_of s.admissions s.marks a.item in
      ap (target_of s b.item) named_is ∙ ap (λ k. target_of s k (Some a.queue)) it.4
      ∙ says_so i (Some a.queue) (says i s.queues (Some who.number) (Some a.queue))

  by : IsSubmission op reply b.item (Fresh n b.queue) ⊎ (IsSubmission op reply b.item (Rerun n b.queue) ⊎ Hurries s who op n b) →
      target_of s b.item named ≡ Some b.queue
  by (inl told) = goes-told s who op reply n b named (Fresh n b.queue) one is names told (λ i other so. so.4.0)
  by (inr (inl told)) = goes-told s who op reply n b named (Rerun n b.queue) one is names told (λ i other so. so.4.0)
  by (inr (inr it)) = which it.5 where
    which : (submission (item_of s.admissions s.marks it.1.item) s.queues (Some who.number) (Some it.1.queue) ≡ Fresh n b.queue)
        ⊎ (submission (item_of s.admissions s.marks it.1.item) s.queues (Some who.number) (Some it.1.queue)
        ≡ Rerun n b.queue) → target_of s b.item named ≡ Some b.queue
    which (inl is) = hurried-to it (λ i other so. (subst (Says i s.queues (Some who.number) other) is so).4.0)
    which (inr is) = hurried-to it (λ i other so. (subst (Says i s.queues (Some who.number) other) is so).4.0)

pub goes_to_its_queue : OfEach GoesToItsQueue
goes_to_its_queue = at_each_in OneIsLive one_live_arm _ (λ s e one is number a named makes names.
    goes-next s e.who e.op e.reply number a named one is makes names)

free-started : (q : Queue) (caller : Option ℕ) → refusal caller q ≡ None → q.started ≡ true
free-started q caller free = by q.started refl free where
  by : (b : Bool) → q.started ≡ b →
      cond (not b) (Some errnos.NoDev) (cond (q.draining && not (is_chained q caller)) (Some errnos.Busy)
      (cond (q.plugged && not q.draining) (Some errnos.Busy) None)) ≡ None → q.started ≡ true
  by true is free = is
  by false is free = absurd (cc)

pub started_admits : OfEach StartedAdmits
started_admits start h fresh = record {
  each = λ front rest e parts number a makes.
      let it = made-took start front e number a makes in
      (it.taker, it.there, free-started it.taker (submitter e.who e.op) it.free);
}
