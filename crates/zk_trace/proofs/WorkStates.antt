-- The items and queues of the admissions and arms of the work service are declared.
use Rattle.std.proofs.Common.{◌≡◌, ℕ, zero, suc, ◌+◌, ◌<◌, Bool, true, false, cond, eqb, Option, Some, None, option_to_list, List, [], ◌∷◌, length, map, find, All, refl, subst, ◌∙◌}
use Rattle.std.specs.List.{filter}
use Rattle.std.specs.Option.{option_map_or}
use Rattle.std.proofs.lemmas.List.Elements.{All-nil, All-cons, All-head, All-tail, All-push, All-filter}
use Rattle.zk_base.specs.declared.ids.Who.{Who}
use Rattle.zk_base.proofs.Firsts.{All-found}
use Rattle.zk_base.proofs.Order.{All-by_key}
use Rattle.zk_line.specs.declared.types.Decl.{Decl}
use Rattle.zk_line.specs.Objects.{places, is_queue}
use Rattle.zk_model_work.specs.declared.ops.Submitted.{Submitted}
use Rattle.zk_model_work.specs.declared.ops.Submitted.TheVariants.{Already, Fresh, Rerun, Refused}
use Rattle.zk_model_work.specs.declared.ops.WorkOp.{WorkOp}
use Rattle.zk_model_work.specs.declared.ops.WorkOp.TheVariants as ops
use Rattle.zk_model_work.specs.declared.parts.Admission.{Admission}
use Rattle.zk_model_work.specs.declared.parts.Arm.{Arm}
use Rattle.zk_model_work.specs.declared.parts.Change.TheVariants as changes
use Rattle.zk_model_work.specs.declared.parts.Fate.TheVariants.{Live, Expired, Disarmed}
use Rattle.zk_model_work.specs.declared.parts.Life.{Life}
use Rattle.zk_model_work.specs.declared.parts.Life.TheVariants.{Waiting, Running, Ended, Dropped}
use Rattle.zk_model_work.specs.declared.parts.Queue.{Queue}
use Rattle.zk_model_work.specs.Answers.{admitted_to, submission}
use Rattle.zk_model_work.specs.Lists.{first}
use Rattle.zk_model_work.specs.Machine.{submit, submission_in, submit_arms, with_life, set_life, begin, end_one, end_run, drop_one, drop_waiting, disarm_one, disarm, arm, expire_one, expire, cancel, flush_start, delayed, is_pending_in, schedule, announce, changed, work_next}
use Rattle.zk_model_work.specs.Questions.{runs_on, waits_as, arms_item, line, is_due, due, live_arm, is_empty_and_idle, item_of}
use Rattle.zk_model_work.specs.State.{State}
use Rattle.zk_model_work.proofs.Counts.{length-settle_from, length-change, length-drain, length-stop}
use Rattle.zk_model_work.proofs.Overlaps.{submission-within}
use Rattle.zk_trace.specs.Fields.{IsItem, IsQueue}
use Rattle.zk_trace.specs.WorkRead.{FitsOp}

module _ (decls : List Decl) where
  -- the item and the queue of an admission, or of an arm
  abbrev pub Admits : Admission → Type 0
  Admits a = IsItem decls a.item × IsQueue decls a.queue

  abbrev pub Arms : Arm → Type 0
  Arms a = IsItem decls a.item × IsQueue decls a.queue

  -- there are as many queues as are declared, and each admission and arm is of an item and a queue of the declared ones
  pub record Keeps (s : State) : Type 0 where
    pub admissions : All Admits s.admissions
    pub arms : All Arms s.arms
    pub queues : length s.queues ≡ length (places is_queue decls)

  -- a submission goes to one of the queues
  admits-to : (s : Submitted) (queues : List Queue) → length queues ≡ length (places is_queue decls) → ((queue : ℕ) → admitted_to s ≡ Some queue → queue < length queues) →
      (queue : ℕ) → admitted_to s ≡ Some queue → IsQueue decls queue
  admits-to s queues long within queue to = subst (λ (n : ℕ). queue < n) long (within queue to)

  submit-all : (xs : List Admission) (item : ℕ) (answer : Submitted) → IsItem decls item → ((queue : ℕ) → admitted_to answer ≡ Some queue → IsQueue decls queue) →
      All Admits xs → All Admits (submit xs item answer)
  submit-all xs item Already is to all = all
  submit-all xs item (Fresh number queue) is to all = All-push Admits xs (record { item = item; queue = queue; life = Waiting }) all (is, to queue refl)
  submit-all xs item (Rerun number queue) is to all = All-push Admits xs (record { item = item; queue = queue; life = Waiting }) all (is, to queue refl)
  submit-all xs item (Refused cause) is to all = all

  -- what is admitted at any submission
  pub submitted-all : (xs : List Admission) (marks : List ℕ) (queues : List Queue) (caller : Option ℕ) (item : ℕ) (named : Option ℕ) → length queues ≡ length (places is_queue decls) →
      IsItem decls item → All Admits xs → All Admits (submit xs item (submission (item_of xs marks item) queues caller named))
  submitted-all xs marks queues caller item named long is all =
      let answer = submission (item_of xs marks item) queues caller named in
      submit-all xs item answer is (admits-to answer queues long (submission-within (item_of xs marks item) queues caller named)) all

  arms-submitted : (marks : List ℕ) (queues : List Queue) (caller : Option ℕ) (arms : List Arm) (xs : List Admission) → length queues ≡ length (places is_queue decls) →
      All Arms arms → All Admits xs → All Admits (submit_arms marks queues caller arms xs)
  arms-submitted marks queues caller [] xs long arms all = all
  arms-submitted marks queues caller (a ∷ more) xs long arms all =
      let answer = submission (item_of xs marks a.item) queues caller (Some a.queue) in
      arms-submitted marks queues caller more (submit xs a.item answer) long (All-tail Arms a more arms)
      (submitted-all xs marks queues caller a.item (Some a.queue) long (All-head Arms a more arms).0 all)

  map-all : {A : Type 0} (P : A → Type 0) (f : A → A) → ((a : A) → P a → P (f a)) → (xs : List A) → All P xs → All P (map f xs)
  map-all P f keeps [] all = All-nil P
  map-all P f keeps (x ∷ xs) all = All-cons P (f x) (map f xs) (keeps x (All-head P x xs all)) (map-all P f keeps xs (All-tail P x xs all))

  where-all : {A : Type 0} (P : A → Type 0) (b : Bool) (x y : A) → P x → P y → P (cond b x y)
  where-all P true x y first second = first
  where-all P false x y first second = second

  set_life-all : (xs : List Admission) (n : ℕ) (life : Life) → All Admits xs → All Admits (set_life xs n life)
  set_life-all [] n life all = all
  set_life-all (x ∷ xs) zero life all = All-cons Admits (with_life life x) xs (All-head Admits x xs all) (All-tail Admits x xs all)
  set_life-all (x ∷ xs) (suc n) life all = All-cons Admits x (set_life xs n life) (All-head Admits x xs all) (set_life-all xs n life (All-tail Admits x xs all))

  begin-all : (xs : List Admission) (queue : ℕ) → All Admits xs → All Admits (begin xs queue)
  begin-all xs queue all = by (first (line xs queue)) where
    by : (o : Option ℕ) → All Admits (option_map_or (λ number. set_life xs number Running) o xs)
    by None = all
    by (Some p) = set_life-all xs p Running all

  end-all : (xs : List Admission) (queue : ℕ) → All Admits xs → All Admits (end_run xs queue)
  end-all xs queue all = map-all Admits (end_one queue) (λ a is. where-all Admits (runs_on queue a) (with_life Ended a) a is is) xs all

  drop-all : (xs : List Admission) (item : ℕ) → All Admits xs → All Admits (drop_waiting xs item)
  drop-all xs item all = map-all Admits (drop_one item) (λ a is. where-all Admits (waits_as item a) (with_life Dropped a) a is is) xs all

  disarm-all : (arms : List Arm) (item : ℕ) → All Arms arms → All Arms (disarm arms item)
  disarm-all arms item all = map-all Arms (disarm_one item) (λ a is. where-all Arms (arms_item item a) (record a { fate = Disarmed }) a is is) arms all

  expire-all : (arms : List Arm) (time : ℕ) → All Arms arms → All Arms (expire arms time)
  expire-all arms time all = map-all Arms (expire_one time) (λ a is. where-all Arms (is_due time a) (record a { fate = Expired }) a is is) arms all

  -- the arms that are due, and the one of an item
  pub due-all : (time : ℕ) (arms : List Arm) → All Arms arms → All Arms (due time arms)
  due-all time arms all = All-by_key Arms (λ a. a.deadline) (filter (is_due time) arms) (All-filter (is_due time) Arms arms all)

  live-all : (arms : List Arm) (item : ℕ) → All Arms arms → All Arms (option_to_list (live_arm arms item))
  live-all arms item all = by (live_arm arms item) refl where
    by : (o : Option Arm) → find (arms_item item) arms ≡ o → All Arms (option_to_list o)
    by None found = All-nil Arms
    by (Some a) found = All-cons Arms a [] (All-found Arms (arms_item item) arms a all found) (All-nil Arms)

  -- What each operation leaves.

  cancel-keeps : (s : State) (item : ℕ) → Keeps s → Keeps (cancel s item)
  cancel-keeps s item kept = record {
    admissions = drop-all s.admissions item kept.admissions;
    arms = disarm-all s.arms item kept.arms;
    queues = length-settle_from (is_empty_and_idle (drop_waiting s.admissions item)) 0 s.queues ∙ kept.queues;
  }

  delayed-keeps : (s : State) (who : Who) (item queue delay : ℕ) → IsItem decls item → IsQueue decls queue → Keeps s → Keeps (delayed s who item queue delay)
  delayed-keeps s who item queue delay is to kept = by (eqb delay 0) where
    by : (b : Bool) → Keeps (cond b (record s { admissions = submit s.admissions item (submission_in s (Some who.number) item (Some queue)) }) (record s { arms = arm s.arms item queue (s.time + delay) }))
    by true = record { admissions = submitted-all s.admissions s.marks s.queues (Some who.number) item (Some queue) kept.queues is kept.admissions; arms = kept.arms; queues = kept.queues }
    by false = record {
      admissions = kept.admissions;
      arms = All-push Arms s.arms (record { item = item; queue = queue; deadline = s.time + delay; fate = Live }) kept.arms (is, to);
      queues = kept.queues;
    }

  schedule-keeps : (s : State) (who : Who) (item queue delay : ℕ) → IsItem decls item → IsQueue decls queue → Keeps s → Keeps (schedule s who item queue delay)
  schedule-keeps s who item queue delay is to kept = by (is_pending_in s item) where
    by : (b : Bool) → Keeps (cond b s (delayed s who item queue delay))
    by true = kept
    by false = delayed-keeps s who item queue delay is to kept

  flush-keeps : (s : State) (who : Who) (item : ℕ) → Keeps s → Keeps (flush_start s who item)
  flush-keeps s who item kept = record {
    admissions = arms-submitted s.marks s.queues (Some who.number) (option_to_list (live_arm s.arms item)) s.admissions kept.queues (live-all s.arms item kept.arms) kept.admissions;
    arms = disarm-all s.arms item kept.arms;
    queues = kept.queues;
  }

  announce-keeps : (s : State) (ticks : ℕ) → Keeps s → Keeps (announce s ticks)
  announce-keeps s ticks kept = record {
    admissions = arms-submitted s.marks s.queues None (due (s.time + ticks) s.arms) s.admissions kept.queues (due-all (s.time + ticks) s.arms kept.arms) kept.admissions;
    arms = expire-all s.arms (s.time + ticks) kept.arms;
    queues = kept.queues;
  }

  changed-keeps : (s : State) (who : Who) (op : WorkOp) → Keeps s → FitsOp decls op → Keeps (changed s who op)
  changed-keeps s who (ops.Submit item named) kept fits =
      record { admissions = submitted-all s.admissions s.marks s.queues (Some who.number) item named kept.queues fits.0 kept.admissions; arms = kept.arms; queues = kept.queues }
  changed-keeps s who (ops.Cancel item) kept fits = cancel-keeps s item kept
  changed-keeps s who (ops.CancelStart item) kept fits = let after = cancel-keeps s item kept in record { admissions = after.admissions; arms = after.arms; queues = after.queues }
  changed-keeps s who (ops.CancelDone place) kept fits = record { admissions = kept.admissions; arms = kept.arms; queues = kept.queues }
  changed-keeps s who (ops.FlushStart item) kept fits = flush-keeps s who item kept
  changed-keeps s who (ops.FlushDone place) kept fits = record { admissions = kept.admissions; arms = kept.arms; queues = kept.queues }
  changed-keeps s who (ops.Schedule item queue delay) kept fits = schedule-keeps s who item queue delay fits.0 fits.1 kept
  changed-keeps s who (ops.Reschedule item queue delay) kept fits =
      delayed-keeps (record s { arms = disarm s.arms item }) who item queue delay fits.0 fits.1
      (record { admissions = kept.admissions; arms = disarm-all s.arms item kept.arms; queues = kept.queues })
  changed-keeps s who (ops.Remaining item) kept fits = kept
  changed-keeps s who (ops.Start queue) kept fits = record { admissions = kept.admissions; arms = kept.arms; queues = length-change changes.Start s.queues queue ∙ kept.queues }
  changed-keeps s who (ops.DrainStart queue plug) kept fits =
      record { admissions = kept.admissions; arms = kept.arms; queues = length-drain (is_empty_and_idle s.admissions queue) plug s.queues queue ∙ kept.queues }
  changed-keeps s who (ops.DrainDone place) kept fits = record { admissions = kept.admissions; arms = kept.arms; queues = kept.queues }
  changed-keeps s who (ops.Unplug queue) kept fits = record { admissions = kept.admissions; arms = kept.arms; queues = length-change changes.Unplug s.queues queue ∙ kept.queues }
  changed-keeps s who (ops.Stop queue) kept fits = record { admissions = kept.admissions; arms = kept.arms; queues = length-stop (is_empty_and_idle s.admissions queue) s.queues queue ∙ kept.queues }
  changed-keeps s who (ops.Announce ticks) kept fits = announce-keeps s ticks kept
  changed-keeps s who (ops.Begin queue) kept fits = record { admissions = begin-all s.admissions queue kept.admissions; arms = kept.arms; queues = kept.queues }
  changed-keeps s who (ops.End queue) kept fits = record {
    admissions = end-all s.admissions queue kept.admissions;
    arms = kept.arms;
    queues = length-settle_from (is_empty_and_idle (end_run s.admissions queue)) 0 s.queues ∙ kept.queues;
  }

  -- an operation that fits keeps it
  pub keeps : (s : State) (who : Who) (op : WorkOp) → Keeps s → FitsOp decls op → Keeps (work_next s who op)
  keeps s who op kept fits = let after = changed-keeps s who op kept fits in record { admissions = after.admissions; arms = after.arms; queues = after.queues }
