-- What an entry is answered, and which entries are possible.
use Rattle.std.proofs.Common.{◌≡◌, ℕ, zero, suc, ◌+◌, Bool, true, false, not, ◌&&◌, cond, eqb, Option, Some, None, is_some, is_none, option_map, List, [], ◌∷◌, ◌++◌, length, map, find, drop, get_or, slice_get, refl, sym, ap, ◌∙◌}
use Rattle.std.specs.Cmp.{first_so, second_so}
use Rattle.std.specs.List.{position}
use Rattle.std.specs.Option.{option_map_or, option_and_then}
use Rattle.std.proofs.Math.Seq.{drop-append_seam, drop-length}
use Rattle.std.proofs.lemmas.Bool.{eqb-true, eq-eqb, false≢true, and_from}
use Rattle.std.proofs.lemmas.List.Quantifiers.{position-Some}
use Rattle.std.proofs.lemmas.Option.{same_Some, slice_get-get_or}
use Rattle.zk_base.specs.declared.ids.Who.{Who}
use Rattle.zk_base.specs.Legal.{state_after}
use Rattle.zk_model_work.specs.declared.parts.Life.TheVariants.{Running}
use Rattle.zk_model_work.specs.declared.parts.Admission.{Admission}
use Rattle.zk_model_work.specs.declared.parts.Fate.{Fate}
use Rattle.zk_model_work.specs.declared.parts.Fate.TheVariants.{Live, Expired, Disarmed}
use Rattle.zk_model_work.specs.declared.parts.Arm.{Arm}
use Rattle.zk_model_work.specs.declared.parts.Queue.{Queue}
use Rattle.zk_model_work.specs.declared.parts.Closing.TheVariants as closings
use Rattle.zk_model_work.specs.declared.ops.WorkOp.{WorkOp}
use Rattle.zk_model_work.specs.declared.ops.WorkOp.TheVariants.{Submit, Cancel, CancelStart, CancelDone, FlushStart, FlushDone, Schedule, Reschedule, Remaining, Start, DrainStart, DrainDone, Unplug, Stop, Announce, Begin, End}
use Rattle.zk_model_work.specs.declared.ops.Submitted.TheVariants.{Already}
use Rattle.zk_model_work.specs.declared.ops.WorkReply.{WorkReply}
use Rattle.zk_model_work.specs.declared.ops.WorkReply.TheVariants as replies
use Rattle.zk_model_work.specs.Lists.{first}
use Rattle.zk_model_work.specs.Questions.{is_live, is_waiting, is_running, waits_for, runs_on, arms_item, line, run, running, live_arm, deadline_of, is_empty_and_idle}
use Rattle.zk_model_work.specs.State.{State}
use Rattle.zk_model_work.specs.Machine.{submission_in, arm, disarm, disarm_one, is_pending_in, schedule, flushed_of, may_close, flags_of, taken_up, may_begin, may_end, schedule_reply_in, delay_reply_in, work_reply, work_next, work_machine}
use Rattle.zk_model_work.specs.Answers.{is_worker, is_started, is_plugged, flush_start_reply, remaining}
use Rattle.zk_model_work.specs.Histories.{OfEach, is_worked_by, is_armed, asked_arm, fits, is_awaited}
use Rattle.zk_model_work.specs.Laws.{ByItsWorker, EndFindsARun, RemainingTells, AnswersFit, ArmedAsAsked, MayBegin, MayEnd, MayAlways}
use Rattle.zk_model_work.proofs.Lives.{IsFirst-line}
use Rattle.zk_model_work.proofs.Lines.{first_of_places}
use Rattle.zk_model_work.proofs.Begins.{Begun-reply}
use Rattle.zk_model_work.proofs.Overlaps.{position-none}
use Rattle.zk_model_work.proofs.Singles.{runs_is}
use Rattle.zk_model_work.proofs.Delays.{one_live_arm}
use Rattle.zk_model_work.proofs.Entries.{at_each, at_each_in}

-- where something is possible, and what is said then
pub said-where : (b : Bool) (said reply : WorkReply) → cond b (Some said) None ≡ Some reply → (b ≡ true) × (said ≡ reply)
said-where true said reply is = (refl, same_Some said reply is)
said-where false said reply is = absurd (cc)

chosen-where : (b : Bool) (o : Option WorkReply) (reply : WorkReply) → cond b o None ≡ Some reply → b ≡ true
chosen-where true o reply is = refl
chosen-where false o reply is = absurd (cc)

-- the worker of a queue
worker-there : (qs : List Queue) (queue player : ℕ) → is_worker qs queue player ≡ true →
    (q : Queue) × (slice_get qs queue ≡ Some q) × (player ≡ q.worker)
worker-there qs queue player is = by (slice_get qs queue) is where
  by : (o : Option Queue) → option_map_or (λ (q : Queue). eqb player q.worker) o false ≡ true →
      (q : Queue) × (o ≡ Some q) × (player ≡ q.worker)
  by None is = absurd (cc)
  by (Some q) is = (q, refl, eqb-true player q.worker is)

is-worker : (qs : List Queue) (queue player : ℕ) (q : Queue) → slice_get qs queue ≡ Some q → q.worker ≡ player →
    is_worker qs queue player ≡ true
is-worker qs queue player q at same =
    ap (λ (o : Option Queue). option_map_or (λ (q : Queue). eqb player q.worker) o false) at ∙ eq-eqb player q.worker (sym same)

worked-by : (s : State) (who : Who) (op : WorkOp) (reply : WorkReply) (queue : ℕ) → work_reply s who op ≡ Some reply →
    is_worked_by queue op ≡ true → is_worker s.queues queue who.number ≡ true
worked-by s who (Submit item named) reply queue is by = absurd (cc)
worked-by s who (Cancel item) reply queue is by = absurd (cc)
worked-by s who (CancelStart item) reply queue is by = absurd (cc)
worked-by s who (CancelDone place) reply queue is by = absurd (cc)
worked-by s who (FlushStart item) reply queue is by = absurd (cc)
worked-by s who (FlushDone place) reply queue is by = absurd (cc)
worked-by s who (Schedule item k delay) reply queue is by = absurd (cc)
worked-by s who (Reschedule item k delay) reply queue is by = absurd (cc)
worked-by s who (Remaining item) reply queue is by = absurd (cc)
worked-by s who (Start k) reply queue is by = absurd (cc)
worked-by s who (DrainStart k plug) reply queue is by = absurd (cc)
worked-by s who (DrainDone place) reply queue is by = absurd (cc)
worked-by s who (Unplug k) reply queue is by = absurd (cc)
worked-by s who (Stop k) reply queue is by = absurd (cc)
worked-by s who (Announce ticks) reply queue is by = absurd (cc)
worked-by s who (Begin k) reply queue is by =
    let may = chosen-where (may_begin s.admissions s.queues who k) (taken_up s.admissions k) reply is in
    ap (λ n. is_worker s.queues n who.number) (eqb-true queue k by)
    ∙ first_so (is_worker s.queues k who.number) (is_none (run s.admissions k)) may
worked-by s who (End k) reply queue is by =
    let may = (said-where (may_end s.admissions s.queues who k) replies.Done reply is).0 in
    ap (λ n. is_worker s.queues n who.number) (eqb-true queue k by)
    ∙ first_so (is_worker s.queues k who.number) (is_some (run s.admissions k)) may

pub by_its_worker : OfEach ByItsWorker
by_its_worker = at_each _
    (λ s e is queue by. worker-there s.queues queue e.who.number (worked-by s e.who e.op e.reply queue is by))

-- an element that was found
pub position-at : {A : Type 0} (p : A → Bool) (xs : List A) (n : ℕ) → position p xs ≡ Some n →
    (a : A) × (slice_get xs n ≡ Some a) × (p a ≡ true)
position-at p [] n is = absurd (cc)
position-at p (x ∷ xs) n is =
    let it = position-Some p (x ∷ xs) n x is in
    (get_or (x ∷ xs) n x, slice_get-get_or (x ∷ xs) n x it.0, it.1)

run-there : (xs : List Admission) (queue : ℕ) → is_some (run xs queue) ≡ true →
    (number : ℕ) × (a : Admission) × (slice_get xs number ≡ Some a) × (a.queue ≡ queue) × (a.life ≡ Running)
run-there xs queue some = by (run xs queue) refl some where
  by : (o : Option ℕ) → run xs queue ≡ o → is_some o ≡ true →
      (number : ℕ) × (a : Admission) × (slice_get xs number ≡ Some a) × (a.queue ≡ queue) × (a.life ≡ Running)
  by None is some = absurd (cc)
  by (Some n) is some =
      let it = position-at (runs_on queue) xs n is in (
        n,
        it.0,
        it.1,
        eqb-true it.0.queue queue (first_so (eqb it.0.queue queue) (is_running it.0.life) it.2),
        runs_is it.0.life (second_so (eqb it.0.queue queue) (is_running it.0.life) it.2),
      )

pub end_finds_a_run : OfEach EndFindsARun
end_finds_a_run = at_each _ (λ s e is queue op.
    let may = (said-where (may_end s.admissions s.queues e.who queue) replies.Done e.reply
    (ap (work_reply s e.who) (sym op) ∙ is)).0 in
    run-there s.admissions queue (second_so (is_worker s.queues queue e.who.number) (is_some (run s.admissions queue)) may))

-- the one that passes is found
pub find-one : {A : Type 0} (p : A → Bool) (xs : List A) (n : ℕ) (a : A) → slice_get xs n ≡ Some a → p a ≡ true →
    ((m : ℕ) (b : A) → slice_get xs m ≡ Some b → p b ≡ true → b ≡ a) → find p xs ≡ Some a
find-one p [] n a at passes one = absurd (cc)
find-one {A} p (x ∷ xs) n a at passes one =
    by (p x) refl n at (λ k there. find-one p xs k a there passes (λ m b at_m so. one (suc m) b at_m so)) where
      by : (b : Bool) → p x ≡ b → (k : ℕ) → slice_get (x ∷ xs) k ≡ Some a →
          ((k : ℕ) → slice_get xs k ≡ Some a → find p xs ≡ Some a) → cond b (Some x) (find p xs) ≡ Some a
      by true is k at further = ap Some (one 0 x refl is)
      by false is zero at further = absurd (false≢true (sym is ∙ ap p (same_Some x a at) ∙ passes))
      by false is (suc k) at further = further k at

pub find-none : {A : Type 0} (p : A → Bool) (xs : List A) → ((n : ℕ) (a : A) → slice_get xs n ≡ Some a → p a ≡ true → ⊥) →
    find p xs ≡ None
find-none p [] none = refl
find-none {A} p (x ∷ xs) none = by (p x) refl (find-none p xs (λ n a at passes. none (suc n) a at passes)) where
  by : (b : Bool) → p x ≡ b → find p xs ≡ None → cond b (Some x) (find p xs) ≡ None
  by true is further = absurd (none 0 x refl is)
  by false is further = further

pub live-is : (fate : Fate) → is_live fate ≡ true → fate ≡ Live
live-is Live is = refl
live-is Expired is = absurd (cc)
live-is Disarmed is = absurd (cc)

pub item-live : (item : ℕ) (a : Arm) → arms_item item a ≡ true → (a.item ≡ item) × (a.fate ≡ Live)
item-live item a is = (
  eqb-true a.item item (first_so (eqb a.item item) (is_live a.fate) is),
  live-is a.fate (second_so (eqb a.item item) (is_live a.fate) is),
)

-- of an item one arm is live at most
abbrev pub OneIsLive : State → Type 0
OneIsLive s = (place other : ℕ) (a b : Arm) → slice_get s.arms place ≡ Some a → slice_get s.arms other ≡ Some b →
    a.item ≡ b.item → a.fate ≡ Live → b.fate ≡ Live → place ≡ other

pub live-arm : (s : State) (item place : ℕ) (a : Arm) → OneIsLive s → slice_get s.arms place ≡ Some a → a.item ≡ item →
    a.fate ≡ Live → live_arm s.arms item ≡ Some a
live-arm s item place a one at item_is live =
    find-one (arms_item item) s.arms place a at (and_from (eqb a.item item) (is_live a.fate) (eq-eqb a.item item item_is)
    (ap is_live live))
    (λ m b there passes.
    let it = item-live item b passes in
    let same = one m place b a there at (it.0 ∙ sym item_is) it.1 live in
    same_Some b a (sym there ∙ ap (slice_get s.arms) same ∙ at))

pub remaining_tells : OfEach RemainingTells
remaining_tells = at_each_in OneIsLive one_live_arm _ (λ s e one is item op.
    let said : replies.Number (remaining (deadline_of s.arms item) s.time) ≡ e.reply =
    same_Some (replies.Number (remaining (deadline_of s.arms item) s.time)) e.reply (ap (work_reply s e.who) (sym op)
    ∙ is) in (
      λ place a at item_is live. sym said
          ∙ ap (λ (o : Option Arm). replies.Number (remaining (option_map (λ (a : Arm). a.deadline) o) s.time))
          (live-arm s item place a one at item_is live),
      λ none. sym said ∙ ap (λ (o : Option Arm). replies.Number (remaining (option_map (λ (a : Arm). a.deadline) o) s.time))
          (find-none (arms_item item) s.arms (λ n a at passes. let it = item-live item a passes in none n a at it.0 it.1)),
    ))

-- the forms of answers
fits-cond : (op : WorkOp) (b : Bool) (x y : WorkReply) → fits op x ≡ true → fits op y ≡ true → fits op (cond b x y) ≡ true
fits-cond op true x y first second = first
fits-cond op false x y first second = second

fits-said : (op : WorkOp) (said reply : WorkReply) → Some said ≡ Some reply → fits op said ≡ true → fits op reply ≡ true
fits-said op said reply is fit = ap (fits op) (sym (same_Some said reply is)) ∙ fit

fits-flush : (item : ℕ) (o : Option ℕ) → fits (FlushStart item) (flush_start_reply o) ≡ true
fits-flush item None = refl
fits-flush item (Some n) = refl

pub fits-reply : (s : State) (who : Who) (op : WorkOp) (reply : WorkReply) → work_reply s who op ≡ Some reply →
    fits op reply ≡ true
fits-reply s who (Submit item named) reply is =
    fits-said (Submit item named) (replies.Sub (submission_in s (Some who.number) item named)) reply is refl
fits-reply s who (Cancel item) reply is = fits-said (Cancel item) _ reply is refl
fits-reply s who (CancelStart item) reply is =
    fits-said (CancelStart item) _ reply is
    (fits-cond (CancelStart item) (eqb (flags_of s item) 0) (replies.Truth false)
    (cond (is_some (running s.admissions item)) replies.Wait (replies.Truth true)) refl
    (fits-cond (CancelStart item) (is_some (running s.admissions item)) replies.Wait (replies.Truth true) refl refl))
fits-reply s who (CancelDone place) reply is =
    ap (fits (CancelDone place)) (sym (said-where (may_close s closings.Cancel who place) (replies.Truth true) reply is).1)
fits-reply s who (FlushStart item) reply is = fits-said (FlushStart item) _ reply is (fits-flush item (flushed_of s who item))
fits-reply s who (FlushDone place) reply is =
    ap (fits (FlushDone place)) (sym (said-where (may_close s closings.Flush who place) (replies.Truth true) reply is).1)
fits-reply s who (Schedule item queue delay) reply is =
    fits-said (Schedule item queue delay) _ reply is
    (fits-cond (Schedule item queue delay) (is_pending_in s item) (replies.Sub Already)
    (delay_reply_in s who item queue delay) refl
    (fits-cond (Schedule item queue delay) (eqb delay 0)
    (replies.Sub (submission_in s (Some who.number) item (Some queue))) replies.Armed refl refl))
fits-reply s who (Reschedule item queue delay) reply is =
    fits-said (Reschedule item queue delay) _ reply is
    (fits-cond (Reschedule item queue delay) (eqb delay 0)
    (replies.Sub (submission_in s (Some who.number) item (Some queue))) replies.Armed refl refl)
fits-reply s who (Remaining item) reply is = fits-said (Remaining item) _ reply is refl
fits-reply s who (Start queue) reply is =
    fits-said (Start queue) _ reply is (fits-cond (Start queue) (is_started s.queues queue) replies.Already replies.Done
    refl refl)
fits-reply s who (DrainStart queue plug) reply is =
    fits-said (DrainStart queue plug) _ reply is (fits-cond (DrainStart queue plug) (is_empty_and_idle s.admissions queue)
    (replies.Number 0) replies.Wait refl refl)
fits-reply s who (DrainDone place) reply is =
    ap (fits (DrainDone place)) (sym (said-where (may_close s closings.Drain who place) (replies.Number 1) reply is).1)
fits-reply s who (Unplug queue) reply is =
    fits-said (Unplug queue) _ reply is (fits-cond (Unplug queue) (is_plugged s.queues queue) replies.Done replies.Already
    refl refl)
fits-reply s who (Stop queue) reply is =
    let may = is_plugged s.queues queue && is_empty_and_idle s.admissions queue in
    fits-said (Stop queue) _ reply is
    (fits-cond (Stop queue) (not (is_started s.queues queue)) replies.Already (cond may replies.Done replies.Busy) refl
    (fits-cond (Stop queue) may replies.Done replies.Busy refl refl))
fits-reply s who (Announce ticks) reply is = fits-said (Announce ticks) _ reply is refl
fits-reply s who (Begin queue) reply is = ap (fits (Begin queue)) (Begun-reply s who queue reply is).replied
fits-reply s who (End queue) reply is =
    ap (fits (End queue)) (sym (said-where (may_end s.admissions s.queues who queue) replies.Done reply is).1)

pub answers_fit : OfEach AnswersFit
answers_fit = at_each _ (λ s e is. fits-reply s e.who e.op e.reply is)

-- the arms that an entry makes
none-asked : (b : Bool) → let none : List Arm = [] in none ≡ cond b none none
none-asked true = refl
none-asked false = refl

none-made : (xs : List Arm) (b : Bool) → drop (length xs) xs ≡ cond b [] []
none-made xs b = drop-length xs ∙ none-asked b

drop-map : (f : Arm → Arm) (xs ys : List Arm) → drop (length xs) (map f xs ++ ys) ≡ ys
drop-map f [] ys = refl
drop-map f (x ∷ xs) ys = drop-map f xs ys

drop-mapped : (f : Arm → Arm) (xs : List Arm) → drop (length xs) (map f xs) ≡ []
drop-mapped f [] = refl
drop-mapped f (x ∷ xs) = drop-mapped f xs

made-next : (s : State) (who : Who) (op : WorkOp) (reply : WorkReply) → work_reply s who op ≡ Some reply →
    drop (length s.arms) (work_next s who op).arms ≡ cond (is_armed reply) (asked_arm s.time op) []
made-next s who (Submit item named) reply is = none-made s.arms (is_armed reply)
made-next s who (Cancel item) reply is = drop-mapped (disarm_one item) s.arms ∙ none-asked (is_armed reply)
made-next s who (CancelStart item) reply is = drop-mapped (disarm_one item) s.arms ∙ none-asked (is_armed reply)
made-next s who (CancelDone place) reply is = none-made s.arms (is_armed reply)
made-next s who (FlushStart item) reply is = drop-mapped (disarm_one item) s.arms ∙ none-asked (is_armed reply)
made-next s who (FlushDone place) reply is = none-made s.arms (is_armed reply)
made-next s who (Schedule item queue delay) reply is =
    by (is_pending_in s item) (eqb delay 0) (same_Some (schedule_reply_in s who item queue delay) reply is) where
      a : Arm
      a = record { item = item; queue = queue; deadline = s.time + delay; fate = Live }

      by : (p d : Bool) → cond p (replies.Sub Already)
          (cond d (replies.Sub (submission_in s (Some who.number) item (Some queue))) replies.Armed) ≡ reply →
          drop (length s.arms)
          (cond p s (cond d (record s {
            admissions = Rattle.zk_model_work.specs.Machine.submit s.admissions item
                (submission_in s (Some who.number) item (Some queue));
          })
          (record s { arms = arm s.arms item queue (s.time + delay) }))).arms
          ≡ cond (is_armed reply) (a ∷ []) []
      by true d said = drop-length s.arms ∙ ap (λ (r : WorkReply). cond (is_armed r) (a ∷ []) []) said
      by false true said = drop-length s.arms ∙ ap (λ (r : WorkReply). cond (is_armed r) (a ∷ []) []) said
      by false false said = drop-append_seam s.arms (a ∷ []) ∙ ap (λ (r : WorkReply). cond (is_armed r) (a ∷ []) []) said
made-next s who (Reschedule item queue delay) reply is =
    by (eqb delay 0) (same_Some (delay_reply_in s who item queue delay) reply is) where
      a : Arm
      a = record { item = item; queue = queue; deadline = s.time + delay; fate = Live }

      t : State
      t = record s { arms = disarm s.arms item }

      by : (d : Bool) → cond d (replies.Sub (submission_in s (Some who.number) item (Some queue))) replies.Armed ≡ reply →
          drop (length s.arms)
          (cond d (record t {
            admissions = Rattle.zk_model_work.specs.Machine.submit t.admissions item
                (submission_in t (Some who.number) item (Some queue));
          })
          (record t { arms = arm t.arms item queue (t.time + delay) })).arms
          ≡ cond (is_armed reply) (a ∷ []) []
      by true said = drop-mapped (disarm_one item) s.arms ∙ ap (λ (r : WorkReply). cond (is_armed r) (a ∷ []) []) said
      by false said = drop-map (disarm_one item) s.arms (a ∷ []) ∙ ap (λ (r : WorkReply). cond (is_armed r) (a ∷ []) []) said
made-next s who (Remaining item) reply is = none-made s.arms (is_armed reply)
made-next s who (Start queue) reply is = none-made s.arms (is_armed reply)
made-next s who (DrainStart queue plug) reply is = none-made s.arms (is_armed reply)
made-next s who (DrainDone place) reply is = none-made s.arms (is_armed reply)
made-next s who (Unplug queue) reply is = none-made s.arms (is_armed reply)
made-next s who (Stop queue) reply is = none-made s.arms (is_armed reply)
made-next s who (Announce ticks) reply is = drop-mapped (Rattle.zk_model_work.specs.Machine.expire_one (s.time + ticks))
    s.arms ∙ none-asked (is_armed reply)
made-next s who (Begin queue) reply is = none-made s.arms (is_armed reply)
made-next s who (End queue) reply is = none-made s.arms (is_armed reply)

pub armed_as_asked : OfEach ArmedAsAsked
armed_as_asked = at_each _ (λ s e is. made-next s e.who e.op e.reply is)

-- what is possible
possible-begin : (s : State) (who : Who) (queue number : ℕ) (a : Admission) → is_worker s.queues queue who.number ≡ true →
    run s.admissions queue ≡ None →
    slice_get s.admissions number ≡ Some a → waits_for queue a ≡ true →
    (reply : WorkReply) × (work_reply s who (Begin queue) ≡ Some reply)
possible-begin s who queue number a worker idle at waits = by (first (line s.admissions queue)) refl where
  may : may_begin s.admissions s.queues who queue ≡ true
  may = and_from (is_worker s.queues queue who.number) (is_none (run s.admissions queue)) worker (ap is_none idle)

  taken : (number : ℕ) (o : Option Admission) → (o ≡ None → ⊥) →
      (reply : WorkReply) × (option_map (λ (a : Admission). replies.Run a.item number) o ≡ Some reply)
  taken number None some = absurd (some refl)
  taken number (Some a) some = (replies.Run a.item number, refl)

  by : (o : Option ℕ) → first (line s.admissions queue) ≡ o → (reply : WorkReply) × (work_reply s who (Begin queue) ≡ Some reply)
  by None none = absurd
      (false≢true (sym (position-none (waits_for queue) s.admissions number a
      (first_of_places (waits_for queue) s.admissions ∙ none) at) ∙ waits))
  by (Some m) is =
      let there = slice_get-get_or s.admissions m a (IsFirst-line s.admissions queue m is).within in
      let it = taken m (slice_get s.admissions m) (λ none. nothing (sym there ∙ none)) in (
        it.0,
        ap (λ b. cond b (taken_up s.admissions queue) None) may
            ∙ ap (λ (o : Option ℕ).
            option_and_then (λ number. option_map (λ (a : Admission). replies.Run a.item number)
            (slice_get s.admissions number)) o) is ∙ it.1,
      ) where
        nothing : Some (get_or s.admissions m a) ≡ None → ⊥
        nothing some = cc

none-runs : (xs : List Admission) (queue : ℕ) →
    ((other : ℕ) (b : Admission) → slice_get xs other ≡ Some b → b.queue ≡ queue → b.life ≡ Running → ⊥) → run xs queue ≡ None
none-runs xs queue none = by (run xs queue) refl where
  by : (o : Option ℕ) → run xs queue ≡ o → o ≡ None
  by None is = refl
  by (Some n) is =
      let it = position-at (runs_on queue) xs n is in
      absurd (none n it.0 it.1 (eqb-true it.0.queue queue (first_so (eqb it.0.queue queue) (is_running it.0.life) it.2))
      (runs_is it.0.life (second_so (eqb it.0.queue queue) (is_running it.0.life) it.2)))

pub may_always_begin : OfEach MayBegin
may_always_begin start h fresh who queue number q a there works at to waits idle =
    let s = state_after work_machine start h in
    possible-begin s who queue number a (is-worker s.queues queue who.number q there works) (none-runs s.admissions queue idle) at
    (and_from (eqb a.queue queue) (is_waiting a.life) (eq-eqb a.queue queue to) (ap is_waiting waits))

some-runs : (xs : List Admission) (queue number : ℕ) (a : Admission) → slice_get xs number ≡ Some a →
    runs_on queue a ≡ true → is_some (run xs queue) ≡ true
some-runs xs queue number a at runs = by (run xs queue) refl where
  by : (o : Option ℕ) → run xs queue ≡ o → is_some o ≡ true
  by None is = absurd (false≢true (sym (position-none (runs_on queue) xs number a is at) ∙ runs))
  by (Some n) is = refl

pub may_always_end : OfEach MayEnd
may_always_end start h fresh who queue number q a there works at to runs =
    let s = state_after work_machine start h in
    let found = some-runs s.admissions queue number a at
    (and_from (eqb a.queue queue) (is_running a.life) (eq-eqb a.queue queue to) (ap is_running runs)) in (
      replies.Done,
      ap (λ b. cond b (Some replies.Done) None)
          (and_from (is_worker s.queues queue who.number) (is_some (run s.admissions queue))
          (is-worker s.queues queue who.number q there works) found),
    )

possible-always : (s : State) (who : Who) (op : WorkOp) → is_awaited op ≡ false →
    (reply : WorkReply) × (work_reply s who op ≡ Some reply)
possible-always s who (Submit item named) never = (_, refl)
possible-always s who (Cancel item) never = (_, refl)
possible-always s who (CancelStart item) never = (_, refl)
possible-always s who (CancelDone place) never = absurd (cc)
possible-always s who (FlushStart item) never = (_, refl)
possible-always s who (FlushDone place) never = absurd (cc)
possible-always s who (Schedule item queue delay) never = (_, refl)
possible-always s who (Reschedule item queue delay) never = (_, refl)
possible-always s who (Remaining item) never = (_, refl)
possible-always s who (Start queue) never = (_, refl)
possible-always s who (DrainStart queue plug) never = (_, refl)
possible-always s who (DrainDone place) never = absurd (cc)
possible-always s who (Unplug queue) never = (_, refl)
possible-always s who (Stop queue) never = (_, refl)
possible-always s who (Announce ticks) never = (_, refl)
possible-always s who (Begin queue) never = absurd (cc)
possible-always s who (End queue) never = absurd (cc)

pub may_always : OfEach MayAlways
may_always start h fresh who op never = possible-always (state_after work_machine start h) who op never
