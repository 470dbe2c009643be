-- What a schedule tells, and what a flush hurries.
use Rattle.std.proofs.Common.{◌≡◌, ℕ, ◌⊎◌, inl, inr, Bool, true, false, not, ◌||◌, cond, eqb, ◌==◌, Option, Some, None, is_some, option_to_list, List, [], ◌∷◌, ◌++◌, length, slice_get, refl, sym, ap, ◌∙◌}
use Rattle.std.proofs.lemmas.Bool.{eq-eqb, false≢true, and_from}
use Rattle.std.proofs.lemmas.Option.{same_Some}
use Rattle.zk_base.specs.declared.errors.Errno.{Errno}
use Rattle.zk_base.specs.declared.errors.Errno.TheVariants as errnos
use Rattle.zk_base.specs.Legal.{state_after}
use Rattle.zk_base.proofs.Histories.{state_after-snoc}
use Rattle.zk_model_work.specs.declared.parts.Admission.{Admission}
use Rattle.zk_model_work.specs.declared.parts.Arm.{Arm}
use Rattle.zk_model_work.specs.declared.parts.Item.{Item}
use Rattle.zk_model_work.specs.declared.parts.Queue.{Queue}
use Rattle.zk_model_work.specs.declared.ops.WorkOp.TheVariants.{FlushStart, Schedule, Reschedule}
use Rattle.zk_model_work.specs.declared.ops.Submitted.{Submitted}
use Rattle.zk_model_work.specs.declared.ops.Submitted.TheVariants.{Already, Fresh, Rerun, Refused}
use Rattle.zk_model_work.specs.declared.ops.WorkReply.{WorkReply}
use Rattle.zk_model_work.specs.declared.ops.WorkReply.TheVariants as replies
use Rattle.zk_model_work.specs.Questions.{is_waiting, waits_as, waiting, armed, live_arm, is_cancelling, item_of}
use Rattle.zk_model_work.specs.State.{State}
use Rattle.zk_model_work.specs.Answers.{target, submission}
use Rattle.zk_model_work.specs.Machine.{submission_in, submit, submit_arms, hurried, is_pending_in, delayed, schedule, schedule_reply_in, delay_reply_in, work_reply, work_next, work_machine}
use Rattle.zk_model_work.specs.Histories.{WorkHistory, IsFreshHistory, OfEach, is_armed, target_of, queue_refuses, IsArmedFor, IsPending, IsBeingCancelled}
use Rattle.zk_model_work.specs.Laws.{ScheduleTells, FlushHurries}
use Rattle.zk_model_work.proofs.Overlaps.{position-none}
use Rattle.zk_model_work.proofs.Delays.{one_live_arm}
use Rattle.zk_model_work.proofs.Entries.{entry-replied, fresh-front}
use Rattle.zk_model_work.proofs.Replies.{live-arm}
use Rattle.zk_model_work.proofs.Marks.{cancelling-is, is-cancelling}
use Rattle.zk_model_work.proofs.Submissions.{Says, says, waiting_one, last-push}
use Rattle.zk_model_work.proofs.Made.{hurried-item}

-- what is pending
pending-parts : (a q c : Bool) → (a || q || c) ≡ true → (a ≡ true) ⊎ ((q ≡ true) ⊎ (c ≡ true))
pending-parts true q c is = inl refl
pending-parts false true c is = inr (inl refl)
pending-parts false false c is = inr (inr is)

parts-pending : (a q c : Bool) → (a ≡ true) ⊎ ((q ≡ true) ⊎ (c ≡ true)) → (a || q || c) ≡ true
parts-pending true q c is = refl
parts-pending false true c is = refl
parts-pending false false c (inl is) = absurd (false≢true is)
parts-pending false false c (inr (inl is)) = absurd (false≢true is)
parts-pending false false c (inr (inr is)) = is

pending-is : (start : State) (h : WorkHistory) (item : ℕ) → IsFreshHistory start h →
    is_pending_in (state_after work_machine start h) item ≡ true → IsPending start h item
pending-is start h item fresh is =
    by (pending-parts (is_some (armed s.arms item)) (is_some (waiting s.admissions item))
    (is_cancelling s.admissions s.marks item) is) where
      s : State
      s = state_after work_machine start h

      by : (is_some (armed s.arms item) ≡ true)
          ⊎ ((is_some (waiting s.admissions item) ≡ true) ⊎ (is_cancelling s.admissions s.marks item ≡ true)) →
          IsPending start h item
      by (inl is) = inl is
      by (inr (inl is)) = inr (inl is)
      by (inr (inr is)) = inr (inr (cancelling-is start h item fresh is))

is-pending : (start : State) (h : WorkHistory) (item : ℕ) → IsFreshHistory start h → IsPending start h item →
    is_pending_in (state_after work_machine start h) item ≡ true
is-pending start h item fresh pending = parts-pending (is_some (armed s.arms item)) (is_some (waiting s.admissions item))
    (is_cancelling s.admissions s.marks item) (by pending) where
      s : State
      s = state_after work_machine start h

      by : IsPending start h item →
          (is_some (armed s.arms item) ≡ true)
          ⊎ ((is_some (waiting s.admissions item) ≡ true) ⊎ (is_cancelling s.admissions s.marks item ≡ true))
      by (inl is) = inl is
      by (inr (inl is)) = inr (inl is)
      by (inr (inr is)) = inr (inr (is-cancelling start h item fresh is))

not-pending : (start : State) (h : WorkHistory) (item : ℕ) → IsFreshHistory start h → (IsPending start h item → ⊥) →
    is_pending_in (state_after work_machine start h) item ≡ false
not-pending start h item fresh free = by (is_pending_in (state_after work_machine start h) item) refl where
  by : (b : Bool) → is_pending_in (state_after work_machine start h) item ≡ b →
      is_pending_in (state_after work_machine start h) item ≡ false
  by true is = absurd (free (pending-is start h item fresh is))
  by false is = is

-- a submission of an item that doesn't wait isn't answered 0
not-already : (i : Item) (queues : List Queue) (caller named : Option ℕ) → i.queued ≡ false →
    replies.Sub (submission i queues caller named) ≡ replies.Sub Already → ⊥
not-already i queues caller named empty is = by (submission i queues caller named) (says i queues caller named) is where
  by : (answer : Submitted) → Says i queues caller named answer → replies.Sub answer ≡ replies.Sub Already → ⊥
  by Already so is = false≢true (sym empty ∙ so)
  by (Fresh n queue) so is = cc
  by (Rerun n queue) so is = cc
  by (Refused cause) so is = cc

free-waits : (a q c : Bool) → (a || q || c) ≡ false → q ≡ false
free-waits true q c is = absurd (cc)
free-waits false true c is = absurd (cc)
free-waits false false c is = refl

-- the answer of a delay
abbrev delay_said : Bool → Submitted → WorkReply
delay_said d answer = cond d (replies.Sub answer) replies.Armed

delay-armed : (d : Bool) (answer : Submitted) (reply : WorkReply) → delay_said d answer ≡ reply → is_armed reply ≡ not d
delay-armed true answer reply is = ap is_armed (sym is)
delay-armed false answer reply is = ap is_armed (sym is)

delay-other : (d : Bool) (answer : Submitted) (reply : WorkReply) → (replies.Sub answer ≡ replies.Sub Already → ⊥) →
    delay_said d answer ≡ reply → reply ≡ replies.Sub Already → ⊥
delay-other true answer reply other is already = other (is ∙ already)
delay-other false answer reply other is already = armed_apart (is ∙ already) where
  armed_apart : replies.Armed ≡ replies.Sub Already → ⊥
  armed_apart is = cc

pub schedule_tells : OfEach ScheduleTells
schedule_tells start h fresh front rest e item queue delay parts = (scheduled, unpending, rescheduled) where
  s : State
  s = state_after work_machine start front

  before : IsFreshHistory start front
  before = fresh-front start h front (e ∷ rest) fresh parts

  replied : work_reply s e.who e.op ≡ Some e.reply
  replied = entry-replied start h front rest e fresh parts

  answer : Submitted
  answer = submission_in s (Some e.who.number) item (Some queue)

  scheduled : e.op ≡ Schedule item queue delay → IsPending start front item → (e.reply ≡ replies.Sub Already)
      × ((state_after work_machine start (front ++ e ∷ [])).admissions ≡ s.admissions)
      × ((state_after work_machine start (front ++ e ∷ [])).arms ≡ s.arms)
  scheduled op pending =
      let so = is-pending start front item before pending in
      let next : state_after work_machine start (front ++ e ∷ []) ≡ work_next s e.who (Schedule item queue delay) =
      state_after-snoc work_machine start front e ∙ ap (work_next s e.who) op in
      let same : schedule s e.who item queue delay ≡ s = ap (λ b. cond b s (delayed s e.who item queue delay)) so in
      let said = same_Some (schedule_reply_in s e.who item queue delay) e.reply (ap (work_reply s e.who) (sym op) ∙ replied) in (
        sym said ∙ ap (λ b. cond b (replies.Sub Already) (delay_said (eqb delay 0) answer)) so,
        ap (λ (u : State). u.admissions) next ∙ ap (λ (u : State). u.admissions) same,
        ap (λ (u : State). u.arms) next ∙ ap (λ (u : State). u.arms) same,
      )

  unpending : e.op ≡ Schedule item queue delay → (IsPending start front item → ⊥) →
      (e.reply ≡ replies.Sub Already → ⊥) × (is_armed e.reply ≡ not (delay == 0))
  unpending op free =
      let so = not-pending start front item before free in
      let empty = free-waits (is_some (armed s.arms item)) (is_some (waiting s.admissions item))
      (is_cancelling s.admissions s.marks item) so in
      let said : delay_said (eqb delay 0) answer ≡ e.reply =
      ap (λ b. cond b (replies.Sub Already) (delay_said (eqb delay 0) answer)) (sym so)
      ∙ same_Some (schedule_reply_in s e.who item queue delay) e.reply (ap (work_reply s e.who) (sym op) ∙ replied) in (
        delay-other (eqb delay 0) answer e.reply
            (not-already (item_of s.admissions s.marks item) s.queues (Some e.who.number) (Some queue) empty) said,
        delay-armed (eqb delay 0) answer e.reply said,
      )

  rescheduled : e.op ≡ Reschedule item queue delay → is_armed e.reply ≡ not (delay == 0)
  rescheduled op = delay-armed (eqb delay 0) answer e.reply
      (same_Some (delay_reply_in s e.who item queue delay) e.reply (ap (work_reply s e.who) (sym op) ∙ replied))

-- what a submission leaves waiting
waits-some : (xs : List Admission) (item n : ℕ) (a : Admission) → slice_get xs n ≡ Some a → a.item ≡ item →
    is_waiting a.life ≡ true → is_some (waiting xs item) ≡ true
waits-some xs item n a at same waits = by (waiting xs item) refl where
  by : (o : Option ℕ) → waiting xs item ≡ o → is_some o ≡ true
  by None is = absurd (false≢true (sym (position-none (waits_as item) xs n a is at)
      ∙ and_from (eqb a.item item) (is_waiting a.life) (eq-eqb a.item item same) waits))
  by (Some k) is = refl

leaves-waiting : (xs : List Admission) (marks : List ℕ) (queues : List Queue) (caller named : Option ℕ) (item number : ℕ)
    (q : Queue) → is_cancelling xs marks item ≡ false →
    target (item_of xs marks item) named ≡ Some number → slice_get queues number ≡ Some q → q.started ≡ true →
    queue_refuses q caller ≡ false →
    is_some (waiting (submit xs item (submission (item_of xs marks item) queues caller named)) item) ≡ true
leaves-waiting xs marks queues caller named item number q free to there on open_to =
    by (submission i queues caller named) (says i queues caller named) where
      i : Item
      i = item_of xs marks item

      one : (other : ℕ) (r : Queue) → (target i named ≡ Some other) × (slice_get queues other ≡ Some r) → r ≡ q
      one other r at = same_Some r q (sym at.1 ∙ ap (slice_get queues) (same_Some other number (sym at.0 ∙ to)) ∙ there)

      refused : (cause : Errno) → Says i queues caller named (Refused cause) → ⊥
      refused errnos.Busy (inl is) = false≢true (sym free ∙ is)
      refused errnos.Busy (inr it) = false≢true (sym open_to
          ∙ ap (λ (r : Queue). queue_refuses r caller) (sym (one it.0 it.1 it.2)) ∙ it.4)
      refused errnos.NoDev so = false≢true (sym so.4 ∙ ap (λ (r : Queue). r.started) (one so.1 so.2 so.3) ∙ on)
      refused errnos.Inval so = so.1 number q (to, there)
      refused cause so = so

      by : (answer : Submitted) → Says i queues caller named answer → is_some (waiting (submit xs item answer) item) ≡ true
      by Already so = so
      by (Fresh n queue) so = waits-some (xs ++ waiting_one item queue ∷ []) item (length xs) (waiting_one item queue)
          (last-push xs (waiting_one item queue)) refl refl
      by (Rerun n queue) so = waits-some (xs ++ waiting_one item queue ∷ []) item (length xs) (waiting_one item queue)
          (last-push xs (waiting_one item queue)) refl refl
      by (Refused cause) so = absurd (refused cause so)

pub flush_hurries : OfEach FlushHurries
flush_hurries start h fresh front rest e item parts op = (hurries, rests) where
  s : State
  s = state_after work_machine start front

  before : IsFreshHistory start front
  before = fresh-front start h front (e ∷ rest) fresh parts

  next : state_after work_machine start (front ++ e ∷ []) ≡ work_next s e.who (FlushStart item)
  next = state_after-snoc work_machine start front e ∙ ap (work_next s e.who) op

  free-of : (IsBeingCancelled start front item → ⊥) → is_cancelling s.admissions s.marks item ≡ false
  free-of free = by (is_cancelling s.admissions s.marks item) refl where
    by : (b : Bool) → is_cancelling s.admissions s.marks item ≡ b → is_cancelling s.admissions s.marks item ≡ false
    by true is = absurd (free (cancelling-is start front item before is))
    by false is = is

  hurries : (queue number : ℕ) (q : Queue) → IsArmedFor s item queue → (IsBeingCancelled start front item → ⊥) →
      target_of s item (Some queue) ≡ Some number →
      slice_get s.queues number ≡ Some q → q.started ≡ true → queue_refuses q (Some e.who.number) ≡ false →
      is_some (waiting (state_after work_machine start (front ++ e ∷ [])).admissions item) ≡ true
  hurries queue number q armed_for free to there on open_to =
      let a = armed_for.1 in
      let caller = Some e.who.number in
      let found = live-arm s item armed_for.0 a (one_live_arm start front before) armed_for.2 armed_for.3 armed_for.4 in
      let made : hurried s e.who item
      ≡ submit s.admissions item (submission (item_of s.admissions s.marks item) s.queues caller (Some queue)) =
      ap (λ (o : Option Arm). submit_arms s.marks s.queues caller (option_to_list o) s.admissions) found
      ∙ ap (λ i. submit s.admissions i (submission (item_of s.admissions s.marks i) s.queues caller (Some a.queue))) armed_for.3
      ∙ ap (λ k. submit s.admissions item (submission (item_of s.admissions s.marks item) s.queues caller (Some k)))
      armed_for.5 in
      ap (λ (u : State). is_some (waiting u.admissions item)) next ∙ ap (λ (xs : List Admission). is_some (waiting xs item)) made
      ∙ leaves-waiting s.admissions s.marks s.queues caller (Some queue) item number q (free-of free) to there on open_to

  rests : ((queue : ℕ) → IsArmedFor s item queue → ⊥) →
      (state_after work_machine start (front ++ e ∷ [])).admissions ≡ s.admissions
  rests none = ap (λ (u : State). u.admissions) next ∙ by (live_arm s.arms item) refl where
    by : (o : Option Arm) → live_arm s.arms item ≡ o →
        submit_arms s.marks s.queues (Some e.who.number) (option_to_list o) s.admissions ≡ s.admissions
    by None is = refl
    by (Some a) is = absurd (none a.queue (hurried-item s item a is).1)
