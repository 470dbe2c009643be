-- What the operations leave of the queues: where admissions go, who works, and that a queue runs nothing.
use Rattle.std.proofs.Common.{◌≡◌, ◌≢◌, ℕ, zero, suc, ◌+◌, ◌<◌, Bool, true, false, not, ◌&&◌, cond, eqb, Option, Some, None, is_none, List, [], ◌∷◌, length, map, All, refl, sym, ap, subst, ◌∙◌, arith, eq-eqb, nat_lt}
use Rattle.std.specs.List.{slice_get, position_or_len}
use Rattle.std.specs.Option.{option_map, option_map_or, option_and_then}
use Rattle.std.proofs.lemmas.Bool.{eqb-true, and_parts, and_right, and_left, and_from}
use Rattle.std.proofs.lemmas.Bool.Decides.{nat_tests}
use Rattle.std.proofs.lemmas.List.Elements.{All-nil, All-cons, All-head, All-tail, All-push}
use Rattle.std.proofs.lemmas.Option.{slice_get-map}
use Rattle.zk_base.specs.declared.ids.Who.{Who}
use Rattle.zk_model_work.specs.declared.parts.Life.{Life}
use Rattle.zk_model_work.specs.declared.parts.Life.TheVariants.{Waiting, Running, Ended, Dropped}
use Rattle.zk_model_work.specs.declared.parts.Admission.{Admission}
use Rattle.zk_model_work.specs.declared.parts.Queue.{Queue}
use Rattle.zk_model_work.specs.declared.parts.Change.{Change}
use Rattle.zk_model_work.specs.declared.parts.Change.TheVariants as changes
use Rattle.zk_model_work.specs.declared.ops.WorkOp.{WorkOp}
use Rattle.zk_model_work.specs.declared.ops.WorkOp.TheVariants as ops
use Rattle.zk_model_work.specs.declared.ops.Submitted.{Submitted}
use Rattle.zk_model_work.specs.declared.ops.Submitted.TheVariants.{Already, Fresh, Rerun, Refused}
use Rattle.zk_model_work.specs.declared.ops.WorkReply.{WorkReply}
use Rattle.zk_model_work.specs.declared.ops.WorkReply.TheVariants.{Run}
use Rattle.zk_model_work.specs.Lists.{places_from, first as first_of}
use Rattle.zk_model_work.specs.Questions.{item_of, is_waiting, waits_for, waits_as, runs_on, run, line, is_empty_and_idle}
use Rattle.zk_model_work.specs.State.{State}
use Rattle.zk_model_work.specs.Answers.{submission, admitted_to, is_worker, is_plugged}
use Rattle.zk_model_work.specs.Machine.{work_reply, work_next, submit, set_life, with_life, begin, end_one, end_run, disarm, drop_one, drop_waiting, changed_queue, change, change_where, settle_from, may_begin, taken_up}
use Rattle.zk_model_work.specs.Histories.{submitter}
use Rattle.zk_model_work.proofs.Moves.{delayed-keeps, schedule-keeps, admissions-next}
use Rattle.zk_base.proofs.Lists.{All-at}
use Rattle.zk_model_work.proofs.Overlaps.{submission-within}

-- the queue runs none of these admissions
abbrev pub RunsNone : ℕ → List Admission → Type 0
RunsNone queue xs = All (λ a. runs_on queue a ≡ false) xs

-- what holds of each admission and of one that is admitted holds after a submission
submit-all : (P : Admission → Type 0) (xs : List Admission) (item : ℕ) (answer : Submitted) →
    ((queue : ℕ) → admitted_to answer ≡ Some queue → P (record { item = item; queue = queue; life = Waiting })) → All P xs →
    All P (submit xs item answer)
submit-all P xs item Already new all = all
submit-all P xs item (Fresh number queue) new all =
    All-push P xs (record { item = item; queue = queue; life = Waiting }) all (new queue refl)
submit-all P xs item (Rerun number queue) new all =
    All-push P xs (record { item = item; queue = queue; life = Waiting }) all (new queue refl)
submit-all P xs item (Refused cause) new all = all

-- what each admission keeps holds of all that are changed
map-all : (P : Admission → Type 0) (f : Admission → Admission) → ((a : Admission) → P a → P (f a)) →
    (xs : List Admission) → All P xs → All P (map f xs)
map-all P f keeps [] all = All-nil P
map-all P f keeps (x ∷ xs) all =
    All-cons P (f x) (map f xs) (keeps x (All-head P x xs all)) (map-all P f keeps xs (All-tail P x xs all))

set_life-all : (P : Admission → Type 0) (xs : List Admission) (n : ℕ) (life : Life) →
    ((a : Admission) → slice_get xs n ≡ Some a → P (with_life life a)) → All P xs → All P (set_life xs n life)
set_life-all P [] n life new all = all
set_life-all P (x ∷ xs) zero life new all = All-cons P (with_life life x) xs (new x refl) (All-tail P x xs all)
set_life-all P (x ∷ xs) (suc n) life new all =
    All-cons P x (set_life xs n life) (All-head P x xs all) (set_life-all P xs n life new (All-tail P x xs all))

-- the first place of those that pass has an element that passes
first-passes : (test : Admission → Bool) (n : ℕ) (xs : List Admission) (p : ℕ) → first_of (places_from n test xs) ≡ Some p →
    (k : ℕ) × (p ≡ n + k) × ((a : Admission) → slice_get xs k ≡ Some a → test a ≡ true)
first-passes test n [] p is = absurd (cc)
first-passes test n (x ∷ xs) p is = by_test (test x) refl is (first-passes test (n + 1) xs p)
  where
    by_test : (b : Bool) → test x ≡ b → first_of (cond b (n ∷ places_from (n + 1) test xs) (places_from (n + 1) test xs))
        ≡ Some p →
        (first_of (places_from (n + 1) test xs) ≡ Some p →
        (k : ℕ) × (p ≡ (n + 1) + k) × ((a : Admission) → slice_get xs k ≡ Some a → test a ≡ true)) →
        (k : ℕ) × (p ≡ n + k) × ((a : Admission) → slice_get (x ∷ xs) k ≡ Some a → test a ≡ true)
    by_test true passes here further =
        let same : n ≡ p = cc in
        (0, omega arith, λ a is. let it : x ≡ a = cc in subst (λ (y : Admission). test y ≡ true) it passes)
    by_test false passes here further = let more = further here in (suc more.0, omega arith, more.2)

-- the first in the line of a queue waits for it
line-waits : (xs : List Admission) (queue p : ℕ) (a : Admission) → first_of (line xs queue) ≡ Some p →
    slice_get xs p ≡ Some a → waits_for queue a ≡ true
line-waits xs queue p a is there =
    let found = first-passes (waits_for queue) 0 xs p is in
    let same : found.0 ≡ p = omega (arith, found.1) in
    found.2 a (ap (λ (k : ℕ). slice_get xs k) same ∙ there)

begin-all : (P : Admission → Type 0) (xs : List Admission) (queue : ℕ) →
    ((a : Admission) → waits_for queue a ≡ true → P a → P (with_life Running a)) → All P xs → All P (begin xs queue)
begin-all P xs queue new all = by_first (first_of (line xs queue)) refl
  where
    by_first : (o : Option ℕ) → first_of (line xs queue) ≡ o → All P (option_map_or (λ number. set_life xs number Running) o xs)
    by_first None is = all
    by_first (Some p) is =
        set_life-all P xs p Running (λ a there. new a (line-waits xs queue p a is there) (All-at P xs p a all there)) all

cond-keeps : (P : Admission → Type 0) (b : Bool) (x y : Admission) → P x → P y → P (cond b x y)
cond-keeps P true x y hx hy = hx
cond-keeps P false x y hx hy = hy

-- each admission stays one to a queue
pub homes-next : (many : ℕ) (st : State) (who : Who) (op : WorkOp) → length st.queues ≡ many →
    All (λ a. a.queue < many) st.admissions → All (λ a. a.queue < many) (work_next st who op).admissions
homes-next many st who op long all =
    let P : Admission → Type 0 = λ a. a.queue < many in
    admissions-next (All P) st who op
    (λ ys item named stays here.
    let i = item_of ys st.marks item in
    let answer = submission i st.queues (submitter who op) named in
    submit-all P ys item answer
    (λ queue to. subst (λ (n : ℕ). queue < n) long (submission-within i st.queues (submitter who op) named queue to)) here)
    (λ item drops. map-all P (drop_one item) (λ a less. cond-keeps P (waits_as item a) (with_life Dropped a) a less less)
    st.admissions all)
    (λ queue is. begin-all P st.admissions queue (λ a waits less. less) all)
    (λ queue is. map-all P (end_one queue) (λ a less. cond-keeps P (runs_on queue a) (with_life Ended a) a less less)
    st.admissions all)
    all

settle-workers : (idle : ℕ → Bool) (n : ℕ) (queues : List Queue) →
    map (λ queue. queue.worker) (settle_from idle n queues) ≡ map (λ queue. queue.worker) queues
settle-workers idle n [] = refl
settle-workers idle n (queue ∷ queues) =
    ap (λ (w : ℕ). w ∷ map (λ (q : Queue). q.worker) (settle_from idle (n + 1) queues))
    (worker-kept queue (queue.draining && idle n))
    ∙ ap (λ (l : List ℕ). queue.worker ∷ l) (settle-workers idle (n + 1) queues)
  where
    worker-kept : (queue : Queue) (b : Bool) →
        (cond b (record queue { draining = false; drained = queue.drained + 1 }) queue).worker ≡ queue.worker
    worker-kept queue true = refl
    worker-kept queue false = refl

changed-worker : (c : Change) (queue : Queue) → (changed_queue c queue).worker ≡ queue.worker
changed-worker changes.Start queue = refl
changed-worker changes.Plug queue = refl
changed-worker changes.Unplug queue = refl
changed-worker changes.Stop queue = refl
changed-worker changes.Drain queue = refl

change-workers : (c : Change) (queues : List Queue) (number : ℕ) →
    map (λ queue. queue.worker) (change c queues number) ≡ map (λ queue. queue.worker) queues
change-workers c [] number = refl
change-workers c (queue ∷ queues) zero = ap (λ (w : ℕ). w ∷ map (λ (q : Queue). q.worker) queues) (changed-worker c queue)
change-workers c (queue ∷ queues) (suc number) = ap (λ (l : List ℕ). queue.worker ∷ l) (change-workers c queues number)

change_where-workers : (asked : Bool) (c : Change) (queues : List Queue) (number : ℕ) →
    map (λ queue. queue.worker) (change_where asked c queues number) ≡ map (λ queue. queue.worker) queues
change_where-workers true c queues number = change-workers c queues number
change_where-workers false c queues number = refl

-- a state's queues have the workers of these
abbrev HasWorkers : List Queue → State → Type 0
HasWorkers queues st = map (λ (queue : Queue). queue.worker) st.queues ≡ map (λ (queue : Queue). queue.worker) queues

-- each queue keeps its worker
pub workers-next : (st : State) (who : Who) (op : WorkOp) →
    map (λ queue. queue.worker) (work_next st who op).queues ≡ map (λ queue. queue.worker) st.queues
workers-next st who (ops.Submit item named) = refl
workers-next st who (ops.Cancel item) = settle-workers (is_empty_and_idle (drop_waiting st.admissions item)) 0 st.queues
workers-next st who (ops.CancelStart item) = settle-workers (is_empty_and_idle (drop_waiting st.admissions item)) 0 st.queues
workers-next st who (ops.CancelDone place) = refl
workers-next st who (ops.FlushStart item) = refl
workers-next st who (ops.FlushDone place) = refl
workers-next st who (ops.Schedule item queue delay) =
    schedule-keeps (HasWorkers st.queues) st who item queue delay refl refl (λ free later. refl)
workers-next st who (ops.Reschedule item queue delay) =
    delayed-keeps (HasWorkers st.queues) (record st { arms = disarm st.arms item }) who item queue delay refl (λ later. refl)
workers-next st who (ops.Remaining item) = refl
workers-next st who (ops.Start queue) = change-workers changes.Start st.queues queue
workers-next st who (ops.DrainStart queue plug) =
    change_where-workers (not (is_empty_and_idle st.admissions queue)) changes.Drain
    (change_where plug changes.Plug st.queues queue) queue
    ∙ change_where-workers plug changes.Plug st.queues queue
workers-next st who (ops.DrainDone place) = refl
workers-next st who (ops.Unplug queue) = change-workers changes.Unplug st.queues queue
workers-next st who (ops.Stop queue) =
    change_where-workers (is_plugged st.queues queue && is_empty_and_idle st.admissions queue) changes.Stop st.queues queue
workers-next st who (ops.Announce ticks) = refl
workers-next st who (ops.Begin queue) = refl
workers-next st who (ops.End queue) = settle-workers (is_empty_and_idle (end_run st.admissions queue)) 0 st.queues

-- who may begin or end a run of a queue is its worker
pub worker-is : (st : State) (queue player worker : ℕ) →
    slice_get (map (λ (q : Queue). q.worker) st.queues) queue ≡ Some worker → is_worker st.queues queue player ≡ true →
    player ≡ worker
worker-is st queue player worker is may =
    by_queue (slice_get st.queues queue) (sym (slice_get-map (λ (q : Queue). q.worker) st.queues queue) ∙ is) may
  where
    by_queue : (o : Option Queue) → option_map (λ (q : Queue). q.worker) o ≡ Some worker →
        option_map_or (λ (q : Queue). eqb player q.worker) o false ≡ true → player ≡ worker
    by_queue None is may = absurd (cc)
    by_queue (Some q) is may = let same : q.worker ≡ worker = cc in eqb-true player q.worker may ∙ same

begins-as : (st : State) (who : Who) (queue : ℕ) (reply : WorkReply) → work_reply st who (ops.Begin queue) ≡ Some reply →
    is_worker st.queues queue who.number ≡ true
begins-as st who queue reply is =
    by_both (is_worker st.queues queue who.number) (is_none (run st.admissions queue)) is
  where
    by_both : (a b : Bool) → cond (a && b) (taken_up st.admissions queue) None ≡ Some reply → a ≡ true
    by_both true b is = refl
    by_both false b is = absurd (cc)

-- what a call of a script asks of the work service
abbrev pub IsCalled : WorkOp → Type 0
IsCalled (ops.Begin queue) = ⊥
IsCalled (ops.End queue) = ⊥
IsCalled op = Unit {0}

-- a submission starts no run
idle-submitted : (queue : ℕ) (xs : List Admission) (item : ℕ) (answer : Submitted) → RunsNone queue xs →
    RunsNone queue (submit xs item answer)
idle-submitted queue xs item answer idle =
    let P : Admission → Type 0 = λ a. runs_on queue a ≡ false in
    submit-all P xs item answer (λ q to. and_right (eqb q queue) false refl) idle

-- nor does a drop
idle-dropped : (st : State) (item queue : ℕ) → RunsNone queue st.admissions → RunsNone queue (drop_waiting st.admissions item)
idle-dropped st item queue idle =
    let P : Admission → Type 0 = λ a. runs_on queue a ≡ false in
    map-all P (drop_one item) (λ a none. cond-keeps P (waits_as item a) (with_life Dropped a) a
    (and_right (eqb a.queue queue) false refl) none) st.admissions idle

-- no call starts a run
pub idle-called : (st : State) (who : Who) (op : WorkOp) (queue : ℕ) → IsCalled op → RunsNone queue st.admissions →
    RunsNone queue (work_next st who op).admissions
idle-called st who op queue called idle =
    admissions-next (RunsNone queue) st who op (λ ys item named stays here. idle-submitted queue ys item _ here)
    (λ item drops. idle-dropped st item queue idle)
    (λ number is. absurd (subst (λ (o : WorkOp). IsCalled o) is called))
    (λ number is. absurd (subst (λ (o : WorkOp). IsCalled o) is called)) idle

end_one-idle : (queue : ℕ) (a : Admission) → runs_on queue (end_one queue a) ≡ false
end_one-idle queue a = by_runs (runs_on queue a) refl
  where
    by_runs : (b : Bool) → runs_on queue a ≡ b → runs_on queue (cond b (with_life Ended a) a) ≡ false
    by_runs true is = and_right (eqb a.queue queue) false refl
    by_runs false is = is

-- a queue whose run has ended runs nothing
pub idle-ended : (queue : ℕ) (xs : List Admission) → RunsNone queue (end_run xs queue)
idle-ended queue [] = let P : Admission → Type 0 = λ a. runs_on queue a ≡ false in All-nil P
idle-ended queue (a ∷ xs) =
    let P : Admission → Type 0 = λ a. runs_on queue a ≡ false in
    All-cons P (end_one queue a) (map (end_one queue) xs) (end_one-idle queue a) (idle-ended queue xs)

-- a worker that begins is told what it runs
pub begin-told : (st : State) (who : Who) (queue : ℕ) (reply : WorkReply) →
    work_reply st who (ops.Begin queue) ≡ Some reply → (item : ℕ) × (number : ℕ) × (reply ≡ Run item number)
begin-told st who queue reply is =
    by_may (may_begin st.admissions st.queues who queue) is
  where
    by_admission : (number : ℕ) (o : Option Admission) →
        option_map (λ (a : Admission). Run a.item number) o ≡ Some reply → (item : ℕ) × (number : ℕ) × (reply ≡ Run item number)
    by_admission number None is = absurd (cc)
    by_admission number (Some a) is = (a.item, number, cc)

    by_number : (o : Option ℕ) →
        option_and_then (λ number. option_map (λ (a : Admission). Run a.item number) (slice_get st.admissions number)) o
        ≡ Some reply → (item : ℕ) × (number : ℕ) × (reply ≡ Run item number)
    by_number None is = absurd (cc)
    by_number (Some number) is = by_admission number (slice_get st.admissions number) is

    by_may : (b : Bool) → cond b (taken_up st.admissions queue) None ≡ Some reply →
        (item : ℕ) × (number : ℕ) × (reply ≡ Run item number)
    by_may true is = by_number (first_of (line st.admissions queue)) is
    by_may false is = absurd (cc)

-- a queue that runs nothing does so after any operation but a Begin of its worker
pub idle-next : (st : State) (who : Who) (op : WorkOp) (reply : WorkReply) (queue worker : ℕ) →
    slice_get (map (λ (q : Queue). q.worker) st.queues) queue ≡ Some worker → who.number ≢ worker →
    work_reply st who op ≡ Some reply → RunsNone queue st.admissions → RunsNone queue (work_next st who op).admissions
idle-next st who op reply queue worker is other made idle =
    admissions-next (RunsNone queue) st who op (λ ys item named stays here. idle-submitted queue ys item _ here)
    (λ item drops. idle-dropped st item queue idle) begins ends idle
  where
    P : Admission → Type 0
    P a = runs_on queue a ≡ false

    differs : (number : ℕ) → op ≡ ops.Begin number → number ≢ queue
    differs number begin same =
        let begun = ap (λ (o : WorkOp). work_reply st who o) (sym begin) ∙ made in
        other (worker-is st queue who.number worker is
        (subst (λ (q : ℕ). is_worker st.queues q who.number ≡ true) same (begins-as st who number reply begun)))

    apart : (number : ℕ) (a : Admission) → number ≢ queue → eqb a.queue number ≡ true → eqb a.queue queue ≡ false
    apart number a differ to = grind (arith, nat_tests, eqb-true a.queue number to, differ)

    begins : (number : ℕ) → op ≡ ops.Begin number → RunsNone queue (begin st.admissions number)
    begins number is_begin =
        begin-all P st.admissions number
        (λ a waits none. and_left (eqb a.queue queue) true
        (apart number a (differs number is_begin) (and_parts (eqb a.queue number) (is_waiting a.life) waits).0)) idle

    ends : (number : ℕ) → op ≡ ops.End number → RunsNone queue (end_run st.admissions number)
    ends number is_end =
        map-all P (end_one number)
        (λ a none. cond-keeps P (runs_on number a) (with_life Ended a) a (and_right (eqb a.queue queue) false refl)
        none) st.admissions idle

none-where : (test : Admission → Bool) (n : ℕ) (xs : List Admission) → first_of (places_from n test xs) ≡ None →
    All (λ a. test a ≡ false) xs
none-where test n [] is = let P : Admission → Type 0 = λ a. test a ≡ false in All-nil P
none-where test n (x ∷ xs) is = by_test (test x) refl is (none-where test (n + 1) xs)
  where
    by_test : (b : Bool) → test x ≡ b → first_of (cond b (n ∷ places_from (n + 1) test xs) (places_from (n + 1) test xs)) ≡ None →
        (first_of (places_from (n + 1) test xs) ≡ None → All (λ a. test a ≡ false) xs) → All (λ a. test a ≡ false) (x ∷ xs)
    by_test true passes none further = absurd (cc)
    by_test false passes none further = let P : Admission → Type 0 = λ a. test a ≡ false in All-cons P x xs passes (further none)

run-none : (queue : ℕ) (xs : List Admission) → RunsNone queue xs → run xs queue ≡ None
run-none queue [] idle = refl
run-none queue (x ∷ xs) idle =
    let P : Admission → Type 0 = λ a. runs_on queue a ≡ false in
    behind (runs_on queue x) (position_or_len (runs_on queue) xs) (length xs) (All-head P x xs idle)
    (run-none queue xs (All-tail P x xs idle))
  where
    behind : (b : Bool) (place long : ℕ) → b ≡ false → cond (nat_lt place long) (Some place) None ≡ None →
        cond (nat_lt (cond (not b) (1 + place) 0) (suc long)) (Some (cond (not b) (1 + place) 0)) None ≡ None
    behind true place long is none = absurd (cc)
    behind false place long is none = by_less (nat_lt place long) refl none
      where
        by_less : (c : Bool) → nat_lt place long ≡ c → cond c (Some place) None ≡ None →
            cond (nat_lt (1 + place) (suc long)) (Some (1 + place)) None ≡ None
        by_less true is none = absurd (cc)
        by_less false is none = let more : nat_lt (1 + place) (suc long) ≡ false = grind (arith, nat_tests) in
            ap (λ c. cond c (Some (1 + place)) None) more

first-there : (test : Admission → Bool) (n : ℕ) (xs : List Admission) (p : ℕ) →
    first_of (places_from n test xs) ≡ Some p → (k : ℕ) × (p ≡ n + k) × (a : Admission) × (slice_get xs k ≡ Some a)
first-there test n [] p is = absurd (cc)
first-there test n (x ∷ xs) p is = by_test (test x) is (first-there test (n + 1) xs p)
  where
    by_test : (b : Bool) → first_of (cond b (n ∷ places_from (n + 1) test xs) (places_from (n + 1) test xs)) ≡ Some p →
        (first_of (places_from (n + 1) test xs) ≡ Some p → (k : ℕ) × (p ≡ (n + 1) + k) × (a : Admission)
        × (slice_get xs k ≡ Some a)) →
        (k : ℕ) × (p ≡ n + k) × (a : Admission) × (slice_get (x ∷ xs) k ≡ Some a)
    by_test true here further = let same : n ≡ p = cc in (0, omega arith, x, refl)
    by_test false here further = let more = further here in (suc more.0, omega arith, more.2, more.3)

is-worker : (st : State) (queue worker : ℕ) → slice_get (map (λ (q : Queue). q.worker) st.queues) queue ≡ Some worker →
    is_worker st.queues queue worker ≡ true
is-worker st queue worker is =
    by_queue (slice_get st.queues queue) (sym (slice_get-map (λ (q : Queue). q.worker) st.queues queue) ∙ is)
  where
    by_queue : (o : Option Queue) → option_map (λ (q : Queue). q.worker) o ≡ Some worker →
        option_map_or (λ (q : Queue). eqb worker q.worker) o false ≡ true
    by_queue None is = absurd (cc)
    by_queue (Some q) is = let same : q.worker ≡ worker = cc in eq-eqb worker q.worker (sym same)

-- where the worker of a queue that runs nothing can't begin, nothing waits for the queue
pub none-waits-for : (st : State) (who : Who) (queue : ℕ) →
    slice_get (map (λ (q : Queue). q.worker) st.queues) queue ≡ Some who.number → RunsNone queue st.admissions →
    work_reply st who (ops.Begin queue) ≡ None → All (λ a. waits_for queue a ≡ false) st.admissions
none-waits-for st who queue is idle none =
    none-where (waits_for queue) 0 st.admissions (line_none (first_of (line st.admissions queue)) refl)
  where
    may : may_begin st.admissions st.queues who queue ≡ true
    may = and_from (is_worker st.queues queue who.number) (is_none (run st.admissions queue))
        (is-worker st queue who.number is) (ap (λ (o : Option ℕ). is_none o) (run-none queue st.admissions idle))

    taken : taken_up st.admissions queue ≡ None
    taken = sym (ap (λ b. cond b (taken_up st.admissions queue) None) may) ∙ none

    line_none : (o : Option ℕ) → first_of (line st.admissions queue) ≡ o → first_of (line st.admissions queue) ≡ None
    line_none None here = here
    line_none (Some p) here =
        let there = first-there (waits_for queue) 0 st.admissions p here in
        let same : there.0 ≡ p = omega (arith, there.1) in
        let a = there.2 in
        let some : taken_up st.admissions queue ≡ Some (Run a.item p) =
        ap (λ (o : Option ℕ).
        option_and_then (λ number. option_map (λ (b : Admission). Run b.item number) (slice_get st.admissions number)) o) here
        ∙ ap (λ (o : Option Admission). option_map (λ (b : Admission). Run b.item p) o)
        (ap (λ (k : ℕ). slice_get st.admissions k) (sym same) ∙ there.3) in
        let none_taken = sym some ∙ taken in
        absurd (cc)
