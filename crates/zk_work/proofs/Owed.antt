-- The laws of the engine, over all states and operations.
use Rattle.std.proofs.Common.{◌≡◌, ℕ, zero, suc, ◌+◌, ◌≤◌, Bool, true, false, not, cond, eqb, ltb, ◌==◌, ◌&&◌, ◌||◌, Option, Some, None, is_some, option_to_list, List, [], ◌∷◌, length, map, sum_by, refl, ap, ◌∙◌, arith}
use Rattle.std.specs.Cmp.{first_so, second_so}
use Rattle.std.specs.List.{position, position_or_len, list_any}
use Rattle.std.specs.Option.{option_map_or}
use Rattle.std.proofs.lemmas.List.{append-nil}
use Rattle.std.proofs.lemmas.List.Sums.{sum_by-cons, sum_by_push}
use Rattle.std.proofs.lemmas.Bool.Decides.{nat_tests}
use Rattle.zk_base.specs.declared.ids.Who.{Who}
use Rattle.zk_model_work.specs.declared.parts.Life.{Life}
use Rattle.zk_model_work.specs.declared.parts.Life.TheVariants.{Waiting, Running, Ended, Dropped}
use Rattle.zk_model_work.specs.declared.parts.Admission.{Admission}
use Rattle.zk_model_work.specs.declared.parts.Arm.{Arm}
use Rattle.zk_model_work.specs.declared.parts.Wait.{Wait}
use Rattle.zk_model_work.specs.declared.parts.Queue.{Queue}
use Rattle.zk_model_work.specs.declared.parts.Closing.{Closing}
use Rattle.zk_model_work.specs.declared.parts.Closing.TheVariants as closings
use Rattle.zk_model_work.specs.declared.parts.Change.TheVariants as changes
use Rattle.zk_model_work.specs.declared.ops.WorkOp.{WorkOp}
use Rattle.zk_model_work.specs.declared.ops.WorkOp.TheVariants.{Submit, Cancel, CancelStart, CancelDone, FlushStart, FlushDone, Schedule, Reschedule, Remaining, Start, DrainStart, DrainDone, Unplug, Stop, Announce, Begin, End}
use Rattle.zk_model_work.specs.declared.ops.Submitted.{Submitted}
use Rattle.zk_model_work.specs.declared.ops.Submitted.TheVariants.{Already, Fresh, Rerun, Refused}
use Rattle.zk_model_work.specs.declared.ops.WorkReply.{WorkReply}
use Rattle.zk_model_work.specs.declared.ops.WorkReply.TheVariants.{Truth, Number, Done}
use Rattle.zk_model_work.specs.Lists.{first}
use Rattle.zk_model_work.specs.Questions.{is_running, waits_as, runs_on, run, line, is_empty_and_idle, live_arm, due, running, item_of}
use Rattle.zk_model_work.specs.State.{State}
use Rattle.zk_model_work.specs.Machine.{work_reply, work_next, in_range, is_among, submission_in, submit, submit_arms, disarm, delayed, schedule, flushed_of, set_life, with_life, begin, end_one, end_run, drop_one, drop_waiting, awaiting, answer_where, answer_one, has_come, may_close}
use Rattle.zk_model_work.specs.Answers.{is_worker, submission, cancel_wait, flush_wait, drain_wait, is_unanswered, closes}
use Rattle.zk_model_work.proofs.Counts.{length-settle_from, length-change, length-drain, length-stop}
use Rattle.zk_model_work.proofs.Moves.{submit_arms-keeps, delayed-keeps, schedule-keeps}
use Rattle.zk_work.specs.EngineState.{work_owed, work_closes}

-- each entry is counted
pub counts : (s : State) (who : Who) (op : WorkOp) → (work_next s who op).entries ≡ s.entries + 1
counts s who (Submit item named) = refl
counts s who (Cancel item) = refl
counts s who (CancelStart item) = refl
counts s who (CancelDone place) = refl
counts s who (FlushStart item) = refl
counts s who (FlushDone place) = refl
counts s who (Schedule item queue delay) = refl
counts s who (Reschedule item queue delay) = refl
counts s who (Remaining item) = refl
counts s who (Start queue) = refl
counts s who (DrainStart queue plug) = refl
counts s who (DrainDone place) = refl
counts s who (Unplug queue) = refl
counts s who (Stop queue) = refl
counts s who (Announce ticks) = refl
counts s who (Begin queue) = refl
counts s who (End queue) = refl

-- what is in range stays so
pub ranges : (s : State) (who : Who) (op : WorkOp) → in_range (work_next s who op) ≡ in_range s
ranges s who (Submit item named) = refl
ranges s who (Cancel item) =
    ap (is_among s.items) (length-settle_from (is_empty_and_idle (drop_waiting s.admissions item)) 0 s.queues)
ranges s who (CancelStart item) =
    ap (is_among s.items) (length-settle_from (is_empty_and_idle (drop_waiting s.admissions item)) 0 s.queues)
ranges s who (CancelDone place) = refl
ranges s who (FlushStart item) = refl
ranges s who (FlushDone place) = refl
ranges s who (Schedule item queue delay) =
    schedule-keeps (λ t. in_range t ≡ in_range s) s who item queue delay refl refl (λ free later. refl)
ranges s who (Reschedule item queue delay) =
    delayed-keeps (λ t. in_range t ≡ in_range s) (record s { arms = disarm s.arms item }) who item queue delay refl
    (λ later. refl)
ranges s who (Remaining item) = refl
ranges s who (Start queue) = ap (is_among s.items) (length-change changes.Start s.queues queue)
ranges s who (DrainStart queue plug) =
    ap (is_among s.items) (length-drain (is_empty_and_idle s.admissions queue) plug s.queues queue)
ranges s who (DrainDone place) = refl
ranges s who (Unplug queue) = ap (is_among s.items) (length-change changes.Unplug s.queues queue)
ranges s who (Stop queue) = ap (is_among s.items) (length-stop (is_empty_and_idle s.admissions queue) s.queues queue)
ranges s who (Announce ticks) = refl
ranges s who (Begin queue) = refl
ranges s who (End queue) =
    ap (is_among s.items) (length-settle_from (is_empty_and_idle (end_run s.admissions queue)) 0 s.queues)

-- one for an admission that runs
abbrev runs : Admission → ℕ
runs a = cond (is_running a.life) 1 0

-- a sum over a list whose elements have been changed, where no change adds
sum_by-map : {A : Type 0} (w : A → ℕ) (f : A → A) → ((x : A) → w (f x) ≤ w x) → (xs : List A) →
    sum_by w (map f xs) ≤ sum_by w xs
sum_by-map w f less [] = omega arith
sum_by-map w f less (x ∷ xs) =
    let here = less x in
    let rest = sum_by-map w f less xs in
    omega (arith, sum_by-cons w x xs, sum_by-cons w (f x) (map f xs))

-- a place is found behind the first element, which doesn't pass
found_behind : (place long : ℕ) →
    is_some (cond (ltb (1 + place) (suc long)) (Some (1 + place)) None) ≡ true →
    is_some (cond (ltb place long) (Some place) None) ≡ true
found_behind place long found = grind (arith, nat_tests)

-- one is taken away here or behind
taken_here : (passes : Bool) (w w_before r r_before place long : ℕ) → w ≤ w_before →
    (passes ≡ true → 1 + w ≤ w_before) → r ≤ r_before →
    (is_some (cond (ltb place long) (Some place) None) ≡ true → 1 + r ≤ r_before) →
    is_some (cond (ltb (cond (not passes) (1 + place) 0) (suc long)) (Some (cond (not passes) (1 + place) 0)) None)
    ≡ true → 1 + (w + r) ≤ w_before + r_before
taken_here true w w_before r r_before place long less here rest behind found =
    let one = here refl in omega arith
taken_here false w w_before r r_before place long less here rest behind found =
    let one = behind (found_behind place long found) in omega arith

-- and the change of one that passes takes one away
sum_by-map_found : {A : Type 0} (w : A → ℕ) (f : A → A) (passes : A → Bool) → ((x : A) → w (f x) ≤ w x) →
    ((x : A) → passes x ≡ true → 1 + w (f x) ≤ w x) →
    (xs : List A) → is_some (position passes xs) ≡ true → 1 + sum_by w (map f xs) ≤ sum_by w xs
sum_by-map_found w f passes less one [] found = absurd (cc)
sum_by-map_found w f passes less one (x ∷ xs) found =
    let taken = taken_here (passes x) (w (f x)) (w x) (sum_by w (map f xs)) (sum_by w xs) (position_or_len passes xs)
    (length xs) (less x) (one x) (sum_by-map w f less xs)
    (sum_by-map_found w f passes less one xs) found in
    omega (arith, sum_by-cons w x xs, sum_by-cons w (f x) (map f xs))

owed-set_life : (xs : List Admission) (n : ℕ) (life : Life) →
    sum_by runs (set_life xs n life) ≤ sum_by runs xs + 1
owed-set_life [] n life = omega arith
owed-set_life (a ∷ rest) zero life =
    let new = most (is_running life) in
    omega (arith, sum_by-cons runs a rest, sum_by-cons runs (with_life life a) rest) where
      most : (b : Bool) → cond b 1 0 ≤ 1
      most true = omega arith
      most false = omega arith
owed-set_life (a ∷ rest) (suc n) life =
    let behind = owed-set_life rest n life in
    omega (arith, sum_by-cons runs a rest, sum_by-cons runs a (set_life rest n life))

owed-submit : (xs : List Admission) (item : ℕ) (answer : Submitted) →
    sum_by runs (submit xs item answer) ≡ sum_by runs xs
owed-submit xs item Already = refl
owed-submit xs item (Fresh number queue) =
    omega (arith, sum_by_push runs xs (record { item = item; queue = queue; life = Waiting }))
owed-submit xs item (Rerun number queue) =
    omega (arith, sum_by_push runs xs (record { item = item; queue = queue; life = Waiting }))
owed-submit xs item (Refused cause) = refl

owed-begin : (xs : List Admission) (queue : ℕ) → sum_by runs (begin xs queue) ≤ sum_by runs xs + 1
owed-begin xs queue = at (first (line xs queue)) where
  at : (number : Option ℕ) →
      sum_by runs (option_map_or (λ n. set_life xs n Running) number xs) ≤ sum_by runs xs + 1
  at None = omega arith
  at (Some number) = owed-set_life xs number Running

-- an admission that has ended or was dropped doesn't run
owed-cond : (b : Bool) (a after : Admission) → runs after ≡ 0 → runs (cond b after a) ≤ runs a
owed-cond true a after none = omega arith
owed-cond false a after none = omega arith

owed-end_one : (queue : ℕ) (a : Admission) → runs (end_one queue a) ≤ runs a
owed-end_one queue a = owed-cond (runs_on queue a) a (with_life Ended a) refl

owed-drop_one : (item : ℕ) (a : Admission) → runs (drop_one item a) ≤ runs a
owed-drop_one item a = owed-cond (waits_as item a) a (with_life Dropped a) refl

owed-end_one_run : (queue : ℕ) (a : Admission) → runs_on queue a ≡ true → 1 + runs (end_one queue a) ≤ runs a
owed-end_one_run queue a it_runs =
    let after : runs (end_one queue a) ≡ 0 = ap (λ b. runs (cond b (with_life Ended a) a)) it_runs in
    let before : runs a ≡ 1 = ap (λ b. cond b 1 0) (second_so (eqb a.queue queue) (is_running a.life) it_runs) in
    omega arith

-- the end of a run is possible where the queue runs something
runs_where_possible : (worker found : Bool) (reply : WorkReply) →
    is_some (cond (worker && found) (Some reply) None) ≡ true → found ≡ true
runs_where_possible true true reply possible = refl
runs_where_possible true false reply possible = absurd (cc)
runs_where_possible false found reply possible = absurd (cc)

-- one for a wait that isn't answered
abbrev waits_still : Wait → ℕ
waits_still w = cond (not w.answered) 1 0

-- the same sum, where the one that passes is found by a test of all
sum_by-map_any : {A : Type 0} (w : A → ℕ) (f : A → A) (passes : A → Bool) → ((x : A) → w (f x) ≤ w x) →
    ((x : A) → passes x ≡ true → 1 + w (f x) ≤ w x) →
    (xs : List A) → list_any passes xs ≡ true → 1 + sum_by w (map f xs) ≤ sum_by w xs
sum_by-map_any w f passes less one [] found = absurd (cc)
sum_by-map_any w f passes less one (x ∷ xs) found =
    let rest = sum_by-map w f less xs in
    let taken = here_or_behind (passes x) (list_any passes xs) (w (f x)) (w x) (sum_by w (map f xs)) (sum_by w xs)
    (less x) (one x) rest (sum_by-map_any w f passes less one xs) found in
    omega (arith, sum_by-cons w x xs, sum_by-cons w (f x) (map f xs)) where
      here_or_behind : (b c : Bool) (v v_before r r_before : ℕ) → v ≤ v_before →
          (b ≡ true → 1 + v ≤ v_before) → r ≤ r_before → (c ≡ true → 1 + r ≤ r_before) → (b || c) ≡ true →
          1 + (v + r) ≤ v_before + r_before
      here_or_behind true c v v_before r r_before less here rest behind found = let one = here refl in omega arith
      here_or_behind false c v v_before r r_before less here rest behind found = let one = behind found in omega arith

owed-awaiting : (ws : List Wait) (w : Option Wait) →
    sum_by waits_still (awaiting ws w) ≤ sum_by waits_still ws + 1
owed-awaiting ws None =
    let same : sum_by waits_still (awaiting ws None) ≡ sum_by waits_still ws = ap (sum_by waits_still) (append-nil ws) in
    omega arith
owed-awaiting ws (Some w) =
    let most = at_most (not w.answered) in
    omega (arith, sum_by_push waits_still ws w) where
      at_most : (b : Bool) → cond b 1 0 ≤ 1
      at_most true = omega arith
      at_most false = omega arith

owed-answer_where : (b : Bool) (w : Wait) → waits_still (answer_where b w) ≤ waits_still w
owed-answer_where true w = omega arith
owed-answer_where false w = omega arith

owed-answered : (xs : List Admission) (qs : List Queue) (closing : Closing) (who : Who) (place : ℕ) (w : Wait) →
    closes (has_come xs qs closing) who place w ≡ true →
    1 + waits_still (answer_one xs qs closing who place w) ≤ waits_still w
owed-answered xs qs closing who place w is =
    let unanswered = first_so (is_unanswered place who.number w) (has_come xs qs closing w.awaited) is in
    let before : waits_still w ≡ 1 =
    ap (λ b. cond b 1 0) (second_so ((w.place == place) && (w.player == who.number)) (not w.answered) unanswered) in
    let after : waits_still (answer_one xs qs closing who place w) ≡ 0 = ap (λ b. waits_still (answer_where b w)) is in
    omega arith

owed-closed : (s : State) (closing : Closing) (who : Who) (place : ℕ) →
    sum_by waits_still (map (answer_one s.admissions s.queues closing who place) s.waits) ≤ sum_by waits_still s.waits
owed-closed s closing who place =
    sum_by-map waits_still (answer_one s.admissions s.queues closing who place)
    (λ w. owed-answer_where (closes (has_come s.admissions s.queues closing) who place w) w) s.waits

-- the end of a wait is possible where one is over
closed_where_possible : (found : Bool) (reply : WorkReply) → is_some (cond found (Some reply) None) ≡ true →
    found ≡ true
closed_where_possible true reply possible = refl
closed_where_possible false reply possible = absurd (cc)

gives-closed : (s : State) (closing : Closing) (who : Who) (place : ℕ) (reply : WorkReply) →
    is_some (cond (may_close s closing who place) (Some reply) None) ≡ true →
    1 + sum_by waits_still (map (answer_one s.admissions s.queues closing who place) s.waits) ≤ sum_by waits_still s.waits
gives-closed s closing who place reply possible =
    sum_by-map_any waits_still (answer_one s.admissions s.queues closing who place)
    (closes (has_come s.admissions s.queues closing) who place)
    (λ w. owed-answer_where (closes (has_come s.admissions s.queues closing) who place w) w)
    (owed-answered s.admissions s.queues closing who place) s.waits
    (closed_where_possible (may_close s closing who place) reply possible)

-- submissions of arms owe nothing
owed-arms : (s : State) (caller : Option ℕ) (arms : List Arm) →
    sum_by runs (submit_arms s.marks s.queues caller arms s.admissions) ≡ sum_by runs s.admissions
owed-arms s caller arms =
    submit_arms-keeps (λ ys. sum_by runs ys ≡ sum_by runs s.admissions) s.admissions s.marks s.queues caller
    (λ ys item named stays same. owed-submit ys item (submission (item_of ys s.marks item) s.queues caller named)
    ∙ same) arms s.admissions (λ n a at. at) refl

-- nor does an item that is given a delay
owed-delayed : (s : State) (who : Who) (item queue delay : ℕ) →
    work_owed (delayed s who item queue delay) ≤ work_owed s + 2
owed-delayed s who item queue delay =
    delayed-keeps (λ t. work_owed t ≤ work_owed s + 2) s who item queue delay
    (omega (arith, owed-submit s.admissions item (submission_in s (Some who.number) item (Some queue)))) (λ later. omega arith)

owed-schedule : (s : State) (who : Who) (item queue delay : ℕ) →
    work_owed (schedule s who item queue delay) ≤ work_owed s + 2
owed-schedule s who item queue delay =
    schedule-keeps (λ t. work_owed t ≤ work_owed s + 2) s who item queue delay (omega arith)
    (omega (arith, owed-submit s.admissions item (submission_in s (Some who.number) item (Some queue))))
    (λ free later. omega arith)

-- an operation adds at most two owed entries
pub adds : (s : State) (who : Who) (op : WorkOp) → work_owed (work_next s who op) ≤ work_owed s + 2
adds s who (Submit item named) =
    omega (arith, owed-submit s.admissions item (submission_in s (Some who.number) item named))
adds s who (Cancel item) = omega (arith, sum_by-map runs (drop_one item) (owed-drop_one item) s.admissions)
adds s who (CancelStart item) =
    omega (
      arith,
      sum_by-map runs (drop_one item) (owed-drop_one item) s.admissions,
      owed-awaiting s.waits (cancel_wait s.entries who (running s.admissions item)),
    )
adds s who (CancelDone place) = omega (arith, owed-closed s closings.Cancel who place)
adds s who (FlushStart item) =
    omega (
      arith,
      owed-awaiting s.waits (flush_wait s.entries who (flushed_of s who item)),
      owed-arms s (Some who.number) (option_to_list (live_arm s.arms item)),
    )
adds s who (FlushDone place) = omega (arith, owed-closed s closings.Flush who place)
adds s who (Schedule item queue delay) = owed-schedule s who item queue delay
adds s who (Reschedule item queue delay) =
    owed-delayed (record s { arms = disarm s.arms item }) who item queue delay
adds s who (Remaining item) = omega arith
adds s who (Start queue) = omega arith
adds s who (DrainStart queue plug) =
    omega (arith, owed-awaiting s.waits (drain_wait (is_empty_and_idle s.admissions queue) s.entries s.queues who queue))
adds s who (DrainDone place) = omega (arith, owed-closed s closings.Drain who place)
adds s who (Unplug queue) = omega arith
adds s who (Stop queue) = omega arith
adds s who (Announce ticks) = omega (arith, owed-arms s None (due (s.time + ticks) s.arms))
adds s who (Begin queue) = omega (arith, owed-begin s.admissions queue)
adds s who (End queue) = omega (arith, sum_by-map runs (end_one queue) (owed-end_one queue) s.admissions)

-- the end of a run gives one
pub gives : (s : State) (who : Who) (op : WorkOp) → work_closes op ≡ true →
    is_some (work_reply s who op) ≡ true → 1 + work_owed (work_next s who op) ≤ work_owed s
gives s who (Submit item named) closes possible = absurd (cc)
gives s who (Cancel item) closes possible = absurd (cc)
gives s who (CancelStart item) closes possible = absurd (cc)
gives s who (CancelDone place) closes possible =
    omega (arith, gives-closed s closings.Cancel who place (Truth true) possible)
gives s who (FlushStart item) closes possible = absurd (cc)
gives s who (FlushDone place) closes possible =
    omega (arith, gives-closed s closings.Flush who place (Truth true) possible)
gives s who (Schedule item queue delay) closes possible = absurd (cc)
gives s who (Reschedule item queue delay) closes possible = absurd (cc)
gives s who (Remaining item) closes possible = absurd (cc)
gives s who (Start queue) closes possible = absurd (cc)
gives s who (DrainStart queue plug) closes possible = absurd (cc)
gives s who (DrainDone place) closes possible =
    omega (arith, gives-closed s closings.Drain who place (Number 1) possible)
gives s who (Unplug queue) closes possible = absurd (cc)
gives s who (Stop queue) closes possible = absurd (cc)
gives s who (Announce ticks) closes possible = absurd (cc)
gives s who (Begin queue) closes possible = absurd (cc)
gives s who (End queue) closes possible =
    let found = runs_where_possible (is_worker s.queues queue who.number) (is_some (run s.admissions queue)) Done possible in
    omega (
      arith,
      sum_by-map_found runs (end_one queue) (runs_on queue) (owed-end_one queue) (owed-end_one_run queue)
          s.admissions found,
    )
