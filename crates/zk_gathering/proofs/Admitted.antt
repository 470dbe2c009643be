-- Operations whose ids are in range keep that admissions and arms are of items and queues that are declared.
use Rattle.std.proofs.Common.{◌≡◌, ℕ, ◌+◌, Bool, true, false, ◌&&◌, nat_lt, cond, eqb, Option, Some, None, List, [], ◌∷◌, length, All}
use Rattle.std.specs.Option.{option_map_or}
use Rattle.std.proofs.lemmas.Bool.{and_parts, ltb-true}
use Rattle.std.proofs.lemmas.List.Elements.{All-head, All-tail, All-push, All-map, All-weaker}
use Rattle.zk_base.specs.declared.ids.Entry.{Entry}
use Rattle.zk_base.specs.declared.ids.Who.{Who}
use Rattle.zk_line.specs.declared.types.Decl.{Decl}
use Rattle.zk_line.specs.Objects.{places, is_item, is_queue}
use Rattle.zk_model_work.specs.declared.ops.WorkOp.{WorkOp}
use Rattle.zk_model_work.specs.declared.ops.WorkOp.TheVariants as ops
use Rattle.zk_model_work.specs.declared.ops.WorkReply.{WorkReply}
use Rattle.zk_model_work.specs.declared.parts.Admission.{Admission}
use Rattle.zk_model_work.specs.declared.parts.Arm.{Arm}
use Rattle.zk_model_work.specs.declared.parts.Fate.TheVariants.{Live, Expired}
use Rattle.zk_model_work.specs.declared.parts.Queue.{Queue}
use Rattle.zk_model_work.specs.Answers.{submission}
use Rattle.zk_model_work.specs.Machine.{is_among, submit, submission_in, submit_arms, disarm, arm, expire_one, delayed, is_pending_in, schedule, announce, work_next}
use Rattle.zk_model_work.specs.Questions.{is_due, due, item_of}
use Rattle.zk_model_work.specs.State.{State}
use Rattle.zk_trace.specs.Fields.{IsItem, IsQueue, IsTarget}
use Rattle.zk_trace.proofs.WorkStates.{Admits, Arms, Keeps, submitted-all, due-all, keeps}

module _ (decls : List Decl) where
  abbrev items : ℕ
  items = length (places is_item decls)

  abbrev queues : ℕ
  queues = length (places is_queue decls)

  -- the item and the queue that an entry names are declared
  abbrev pub IsDeclared : Entry WorkOp WorkReply → Type 0
  IsDeclared e = is_among items queues e.op ≡ true

  target-of : (named : Option ℕ) → option_map_or (λ queue. nat_lt queue queues) named true ≡ true → IsTarget decls named
  target-of None is = tt
  target-of (Some queue) is = ltb-true queue queues is

  both-of : (item queue : ℕ) → (nat_lt item items && nat_lt queue queues) ≡ true → IsItem decls item × IsQueue decls queue
  both-of item queue is =
      let both = and_parts (nat_lt item items) (nat_lt queue queues) is in
      (ltb-true item items both.0, ltb-true queue queues both.1)

  delayed-keeps : (s : State) (who : Who) (item queue delay : ℕ) → IsItem decls item → IsQueue decls queue → Keeps decls s → Keeps decls (delayed s who item queue delay)
  delayed-keeps s who item queue delay is to kept = by (eqb delay 0) where
    by : (b : Bool) → Keeps decls (cond b (record s { admissions = submit s.admissions item (submission_in s (Some who.number) item (Some queue)) }) (record s { arms = arm s.arms item queue (s.time + delay) }))
    by true = record {
      admissions = submitted-all decls s.admissions s.marks s.queues (Some who.number) item (Some queue) kept.queues is kept.admissions;
      arms = kept.arms;
      queues = kept.queues;
    }
    by false = record {
      admissions = kept.admissions;
      arms = All-push (Arms decls) s.arms (record { item = item; queue = queue; deadline = s.time + delay; fate = Live }) kept.arms (is, to);
      queues = kept.queues;
    }

  schedule-keeps : (s : State) (who : Who) (item queue delay : ℕ) → IsItem decls item → IsQueue decls queue → Keeps decls s → Keeps decls (schedule s who item queue delay)
  schedule-keeps s who item queue delay is to kept = by (is_pending_in s item) where
    by : (b : Bool) → Keeps decls (cond b s (delayed s who item queue delay))
    by true = kept
    by false = delayed-keeps s who item queue delay is to kept

  arms-submitted : (marks : List ℕ) (line : List Queue) (caller : Option ℕ) (arms : List Arm) (xs : List Admission) → length line ≡ queues →
      All (Arms decls) arms → All (Admits decls) xs → All (Admits decls) (submit_arms marks line caller arms xs)
  arms-submitted marks line caller [] xs long arms all = all
  arms-submitted marks line caller (a ∷ more) xs long arms all =
      let answer = submission (item_of xs marks a.item) line caller (Some a.queue) in
      arms-submitted marks line caller more (submit xs a.item answer) long (All-tail (Arms decls) a more arms)
      (submitted-all decls xs marks line caller a.item (Some a.queue) long (All-head (Arms decls) a more arms).0 all)

  expired : (b : Bool) (a : Arm) → Arms decls a → Arms decls (cond b (record a { fate = Expired }) a)
  expired true a is = is
  expired false a is = is

  announce-keeps : (s : State) (ticks : ℕ) → Keeps decls s → Keeps decls (announce s ticks)
  announce-keeps s ticks kept =
      let time = s.time + ticks in
      let After : Arm → Type 0 = λ a. Arms decls (expire_one time a) in
      record {
        admissions = arms-submitted s.marks s.queues None (due time s.arms) s.admissions kept.queues (due-all decls time s.arms kept.arms) kept.admissions;
        arms = All-map (Arms decls) (expire_one time) s.arms (All-weaker (Arms decls) After (λ a is. expired (is_due time a) a is) s.arms kept.arms);
        queues = kept.queues;
      }

  -- an operation whose ids are in range keeps it
  pub declared-keeps : (s : State) (who : Who) (op : WorkOp) → Keeps decls s → is_among items queues op ≡ true → Keeps decls (work_next s who op)
  declared-keeps s who (ops.Submit item named) kept is =
      let named_is = option_map_or (λ queue. nat_lt queue queues) named true in
      let both = and_parts (nat_lt item items) named_is is in
      keeps decls s who (ops.Submit item named) kept (ltb-true item items both.0, target-of named both.1)
  declared-keeps s who (ops.Cancel item) kept is = keeps decls s who (ops.Cancel item) kept (ltb-true item items is)
  declared-keeps s who (ops.CancelStart item) kept is = keeps decls s who (ops.CancelStart item) kept (ltb-true item items is)
  declared-keeps s who (ops.CancelDone place) kept is = record { admissions = kept.admissions; arms = kept.arms; queues = kept.queues }
  declared-keeps s who (ops.FlushStart item) kept is = keeps decls s who (ops.FlushStart item) kept (ltb-true item items is)
  declared-keeps s who (ops.FlushDone place) kept is = record { admissions = kept.admissions; arms = kept.arms; queues = kept.queues }
  declared-keeps s who (ops.Schedule item queue delay) kept is =
      let both = both-of item queue is in
      let after = schedule-keeps s who item queue delay both.0 both.1 kept in
      record { admissions = after.admissions; arms = after.arms; queues = after.queues }
  declared-keeps s who (ops.Reschedule item queue delay) kept is =
      let both = both-of item queue is in
      let disarmed : All (Arms decls) (disarm s.arms item) = (keeps decls s who (ops.Cancel item) kept both.0).arms in
      let after =
      delayed-keeps (record s { arms = disarm s.arms item }) who item queue delay both.0 both.1
      (record { admissions = kept.admissions; arms = disarmed; queues = kept.queues }) in
      record { admissions = after.admissions; arms = after.arms; queues = after.queues }
  declared-keeps s who (ops.Remaining item) kept is = keeps decls s who (ops.Remaining item) kept (ltb-true item items is)
  declared-keeps s who (ops.Start queue) kept is = keeps decls s who (ops.Start queue) kept (ltb-true queue queues is)
  declared-keeps s who (ops.DrainStart queue plug) kept is = keeps decls s who (ops.DrainStart queue plug) kept (ltb-true queue queues is)
  declared-keeps s who (ops.DrainDone place) kept is = record { admissions = kept.admissions; arms = kept.arms; queues = kept.queues }
  declared-keeps s who (ops.Unplug queue) kept is = keeps decls s who (ops.Unplug queue) kept (ltb-true queue queues is)
  declared-keeps s who (ops.Stop queue) kept is = keeps decls s who (ops.Stop queue) kept (ltb-true queue queues is)
  declared-keeps s who (ops.Announce ticks) kept is =
      let after = announce-keeps s ticks kept in
      record { admissions = after.admissions; arms = after.arms; queues = after.queues }
  declared-keeps s who (ops.Begin queue) kept is = keeps decls s who (ops.Begin queue) kept (ltb-true queue queues is)
  declared-keeps s who (ops.End queue) kept is = keeps decls s who (ops.End queue) kept (ltb-true queue queues is)
