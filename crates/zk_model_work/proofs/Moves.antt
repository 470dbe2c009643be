-- What an operation makes of the parts of the state.
use Rattle.std.proofs.Common.{◌≡◌, ℕ, zero, suc, ◌+◌, ◌⊎◌, inl, inr, Bool, true, false, not, ◌&&◌, ◌||◌, cond, eqb, Option, Some, None, is_some, option_map, option_to_list, List, [], ◌∷◌, ◌++◌, length, map, slice_get, refl, ap, ◌∙◌}
use Rattle.std.specs.Option.{option_map_or}
use Rattle.std.proofs.lemmas.Option.{slice_get-map, same_Some}
use Rattle.zk_base.proofs.Lists.{none_from_is_some}
use Rattle.zk_base.specs.declared.ids.Who.{Who}
use Rattle.zk_model_work.specs.declared.parts.Admission.{Admission}
use Rattle.zk_model_work.specs.declared.parts.Arm.{Arm}
use Rattle.zk_model_work.specs.declared.parts.Queue.{Queue}
use Rattle.zk_model_work.specs.declared.parts.Closing.TheVariants as closings
use Rattle.zk_model_work.specs.declared.ops.WorkOp.{WorkOp}
use Rattle.zk_model_work.specs.declared.ops.WorkOp.TheVariants.{Submit, Cancel, CancelStart, CancelDone, FlushStart, FlushDone, Schedule, Reschedule, Remaining, Start, DrainStart, DrainDone, Unplug, Stop, Announce, Begin, End}
use Rattle.zk_model_work.specs.declared.ops.Submitted.{Submitted}
use Rattle.zk_model_work.specs.declared.ops.Submitted.TheVariants.{Already, Fresh, Rerun, Refused}
use Rattle.zk_model_work.specs.declared.ops.WorkReply.{WorkReply}
use Rattle.zk_model_work.specs.declared.ops.WorkReply.TheVariants as replies
use Rattle.zk_model_work.specs.Lists.{first}
use Rattle.zk_model_work.specs.Questions.{waiting, running, is_empty_and_idle, is_cancelling, armed, live_arm, due, item_of}
use Rattle.zk_model_work.specs.State.{State}
use Rattle.zk_model_work.specs.Machine.{submission_in, submit, submit_arms, arm, disarm, expire, begin, end_run, drop_waiting, is_pending_in, delayed, schedule, flushed_of, may_close, may_end, flags_of, work_reply, work_next}
use Rattle.zk_model_work.specs.Answers.{submission, is_started, is_plugged}
use Rattle.zk_model_work.specs.Histories.{Cancels, disarms, submitter}

-- each element of the first list stands in its place in the second
abbrev pub Stays : {A : Type 0} → List A → List A → Type 0
Stays {A} xs ys = (n : ℕ) (a : A) → slice_get xs n ≡ Some a → slice_get ys n ≡ Some a

pub still-push : {A : Type 0} (xs : List A) (x : A) → Stays xs (xs ++ x ∷ [])
still-push [] x n a at = absurd (cc)
still-push (y ∷ ys) x zero a at = at
still-push (y ∷ ys) x (suc n) a at = still-push ys x n a at

-- one element more: it is an old one, or the new one in its place
pub pushed : {A : Type 0} (xs : List A) (x : A) (n : ℕ) (b : A) → slice_get (xs ++ x ∷ []) n ≡ Some b →
    (slice_get xs n ≡ Some b) ⊎ ((n ≡ length xs) × (x ≡ b))
pushed [] x zero b at = inr (refl, same_Some x b at)
pushed [] x (suc n) b at = absurd (cc)
pushed (y ∷ ys) x zero b at = inl at
pushed {A} (y ∷ ys) x (suc n) b at = up (pushed ys x n b at) where
  up : (slice_get ys n ≡ Some b) ⊎ ((n ≡ length ys) × (x ≡ b)) → (slice_get ys n ≡ Some b) ⊎ ((suc n ≡ suc (length ys)) × (x ≡ b))
  up (inl old) = inl old
  up (inr new) = inr (ap suc new.0, new.1)

-- a change of each element that leaves this one
pub still-map : {A : Type 0} (f : A → A) (xs : List A) (n : ℕ) (a : A) → f a ≡ a → slice_get xs n ≡ Some a →
    slice_get (map f xs) n ≡ Some a
still-map f xs n a same at = slice_get-map f xs n ∙ ap (option_map f) at ∙ ap Some same

pub still-submit : (xs : List Admission) (item : ℕ) (answer : Submitted) → Stays xs (submit xs item answer)
still-submit xs item Already n a at = at
still-submit xs item (Fresh number queue) n a at = still-push xs _ n a at
still-submit xs item (Rerun number queue) n a at = still-push xs _ n a at
still-submit xs item (Refused cause) n a at = at

-- what each submission keeps, and so do the submissions of arms one after another
pub submit_arms-keeps : (P : List Admission → Type 0) (xs : List Admission) (marks : List ℕ) (queues : List Queue)
    (caller : Option ℕ) →
    ((ys : List Admission) (item : ℕ) (named : Option ℕ) → Stays xs ys → P ys →
    P (submit ys item (submission (item_of ys marks item) queues caller named))) →
    (arms : List Arm) (ys : List Admission) → Stays xs ys → P ys → P (submit_arms marks queues caller arms ys)
submit_arms-keeps P xs marks queues caller each [] ys stays holds = holds
submit_arms-keeps P xs marks queues caller each (a ∷ arms) ys stays holds =
    let answer = submission (item_of ys marks a.item) queues caller (Some a.queue) in
    submit_arms-keeps P xs marks queues caller each arms (submit ys a.item answer)
    (λ n b at. still-submit ys a.item answer n b (stays n b at)) (each ys a.item (Some a.queue) stays holds)

-- the state after a submission by the player, and after an arming
abbrev pub submitted : State → Who → ℕ → ℕ → State
submitted s who item queue =
    record s { admissions = submit s.admissions item (submission_in s (Some who.number) item (Some queue)) }

abbrev pub armed_more : State → ℕ → ℕ → ℕ → State
armed_more s item queue delay = record s { arms = arm s.arms item queue (s.time + delay) }

-- an item with a delay is submitted or armed
pub delayed-keeps : (P : State → Type 0) (s : State) (who : Who) (item queue delay : ℕ) → P (submitted s who item queue) →
    (eqb delay 0 ≡ false → P (armed_more s item queue delay)) → P (delayed s who item queue delay)
delayed-keeps P s who item queue delay submits arms = by (eqb delay 0) refl where
  by : (b : Bool) → eqb delay 0 ≡ b → P (cond b (submitted s who item queue) (armed_more s item queue delay))
  by true is = submits
  by false is = arms is

-- and so is one that is scheduled, unless it is pending
pub schedule-keeps : (P : State → Type 0) (s : State) (who : Who) (item queue delay : ℕ) → P s →
    P (submitted s who item queue) → (is_pending_in s item ≡ false → eqb delay 0 ≡ false → P (armed_more s item queue delay)) →
    P (schedule s who item queue delay)
schedule-keeps P s who item queue delay same submits arms = by (is_pending_in s item) refl where
  by : (b : Bool) → is_pending_in s item ≡ b → P (cond b s (delayed s who item queue delay))
  by true is = same
  by false is = delayed-keeps P s who item queue delay submits (arms is)

-- the admissions change by submissions, by a cancel, by a begin and by an end
pub admissions-next : (P : List Admission → Type 0) (s : State) (who : Who) (op : WorkOp) →
    ((ys : List Admission) (item : ℕ) (named : Option ℕ) → Stays s.admissions ys → P ys →
    P (submit ys item (submission (item_of ys s.marks item) s.queues (submitter who op) named))) →
    ((item : ℕ) → Cancels item op → P (drop_waiting s.admissions item)) →
    ((queue : ℕ) → op ≡ Begin queue → P (begin s.admissions queue)) →
    ((queue : ℕ) → op ≡ End queue → P (end_run s.admissions queue)) →
    P s.admissions → P (work_next s who op).admissions
admissions-next P s who (Submit item named) submits drops begins ends same = submits s.admissions item named (λ n a at. at) same
admissions-next P s who (Cancel item) submits drops begins ends same = drops item (inl refl)
admissions-next P s who (CancelStart item) submits drops begins ends same = drops item (inr refl)
admissions-next P s who (CancelDone place) submits drops begins ends same = same
admissions-next P s who (FlushStart item) submits drops begins ends same =
    submit_arms-keeps P s.admissions s.marks s.queues (Some who.number) submits (option_to_list (live_arm s.arms item))
    s.admissions (λ n a at. at) same
admissions-next P s who (FlushDone place) submits drops begins ends same = same
admissions-next P s who (Schedule item queue delay) submits drops begins ends same =
    schedule-keeps (λ t. P t.admissions) s who item queue delay same
    (submits s.admissions item (Some queue) (λ n a at. at) same) (λ free later. same)
admissions-next P s who (Reschedule item queue delay) submits drops begins ends same =
    delayed-keeps (λ t. P t.admissions) (record s { arms = disarm s.arms item }) who item queue delay
    (submits s.admissions item (Some queue) (λ n a at. at) same) (λ later. same)
admissions-next P s who (Remaining item) submits drops begins ends same = same
admissions-next P s who (Start queue) submits drops begins ends same = same
admissions-next P s who (DrainStart queue plug) submits drops begins ends same = same
admissions-next P s who (DrainDone place) submits drops begins ends same = same
admissions-next P s who (Unplug queue) submits drops begins ends same = same
admissions-next P s who (Stop queue) submits drops begins ends same = same
admissions-next P s who (Announce ticks) submits drops begins ends same =
    submit_arms-keeps P s.admissions s.marks s.queues None submits (due (s.time + ticks) s.arms) s.admissions (λ n a at. at) same
admissions-next P s who (Begin queue) submits drops begins ends same = begins queue refl
admissions-next P s who (End queue) submits drops begins ends same = ends queue refl

pub unarmed : (b c d : Bool) → (b || c || d) ≡ false → b ≡ false
unarmed true c d free = absurd (cc)
unarmed false c d free = refl

-- the operation gives up the delay of this item and of no other, or of none
abbrev pub DisarmsJust : ℕ → WorkOp → Type 0
DisarmsJust item op = (other : ℕ) → disarms other op ≡ eqb other item

abbrev pub DisarmsNone : WorkOp → Type 0
DisarmsNone op = (other : ℕ) → disarms other op ≡ false

-- the arms and the time change where an item is disarmed, where one is armed that wasn't or is disarmed before, and by an
-- announce
pub arms-next : (P : List Arm → ℕ → Type 0) (s : State) (who : Who) (op : WorkOp) →
    ((item : ℕ) → DisarmsJust item op → P (disarm s.arms item) s.time) →
    ((item queue delay : ℕ) → DisarmsNone op → armed s.arms item ≡ None → eqb delay 0 ≡ false →
    P (arm s.arms item queue (s.time + delay)) s.time) →
    ((item queue delay : ℕ) → DisarmsJust item op → eqb delay 0 ≡ false →
    P (arm (disarm s.arms item) item queue (s.time + delay)) s.time) →
    ((ticks : ℕ) → op ≡ Announce ticks → P (expire s.arms (s.time + ticks)) (s.time + ticks)) →
    (DisarmsNone op → P s.arms s.time) → P (work_next s who op).arms (work_next s who op).time
arms-next P s who (Submit item named) disarms arms rearms expires same = same (λ other. refl)
arms-next P s who (Cancel item) disarms arms rearms expires same = disarms item (λ other. refl)
arms-next P s who (CancelStart item) disarms arms rearms expires same = disarms item (λ other. refl)
arms-next P s who (CancelDone place) disarms arms rearms expires same = same (λ other. refl)
arms-next P s who (FlushStart item) disarms arms rearms expires same = disarms item (λ other. refl)
arms-next P s who (FlushDone place) disarms arms rearms expires same = same (λ other. refl)
arms-next P s who (Schedule item queue delay) disarms arms rearms expires same =
    schedule-keeps (λ t. P t.arms t.time) s who item queue delay (same (λ other. refl)) (same (λ other. refl))
    (λ free later. arms item queue delay (λ other. refl)
    (none_from_is_some (armed s.arms item)
    (unarmed (is_some (armed s.arms item)) (is_some (waiting s.admissions item))
    (is_cancelling s.admissions s.marks item) free)) later)
arms-next P s who (Reschedule item queue delay) disarms arms rearms expires same =
    delayed-keeps (λ t. P t.arms t.time) (record s { arms = disarm s.arms item }) who item queue delay
    (disarms item (λ other. refl)) (rearms item queue delay (λ other. refl))
arms-next P s who (Remaining item) disarms arms rearms expires same = same (λ other. refl)
arms-next P s who (Start queue) disarms arms rearms expires same = same (λ other. refl)
arms-next P s who (DrainStart queue plug) disarms arms rearms expires same = same (λ other. refl)
arms-next P s who (DrainDone place) disarms arms rearms expires same = same (λ other. refl)
arms-next P s who (Unplug queue) disarms arms rearms expires same = same (λ other. refl)
arms-next P s who (Stop queue) disarms arms rearms expires same = same (λ other. refl)
arms-next P s who (Announce ticks) disarms arms rearms expires same = expires ticks refl
arms-next P s who (Begin queue) disarms arms rearms expires same = same (λ other. refl)
arms-next P s who (End queue) disarms arms rearms expires same = same (λ other. refl)

-- a reply that hands nothing out
not_run : (b : Bool) (one other : WorkReply) (item number : ℕ) → (one ≡ replies.Run item number → ⊥) →
    (other ≡ replies.Run item number → ⊥) → cond b one other ≡ replies.Run item number → ⊥
not_run true one other item number first second is = first is
not_run false one other item number first second is = second is

not_possible : (b : Bool) (said : WorkReply) (item number : ℕ) → (said ≡ replies.Run item number → ⊥) →
    cond b (Some said) None ≡ Some (replies.Run item number) → ⊥
not_possible true said item number never is = never (same_Some said (replies.Run item number) is)
not_possible false said item number never is = cc

not_flushed : (o : Option ℕ) (item number : ℕ) →
    option_map_or replies.WaitFor o (replies.Truth false) ≡ replies.Run item number → ⊥
not_flushed None item number is = cc
not_flushed (Some n) item number is = cc

-- what hands an admission out is a begin
pub is_begin : (s : State) (who : Who) (op : WorkOp) (item number : ℕ) →
    work_reply s who op ≡ Some (replies.Run item number) → (queue : ℕ) × (op ≡ Begin queue)
is_begin s who (Submit other named) item number is = absurd (cc)
is_begin s who (Cancel other) item number is = absurd (cc)
is_begin s who (CancelStart other) item number is =
    absurd (not_run (eqb (flags_of s other) 0) (replies.Truth false)
    (cond (is_some (running s.admissions other)) replies.Wait (replies.Truth true)) item number (λ no. cc)
    (not_run (is_some (running s.admissions other)) replies.Wait (replies.Truth true) item number (λ no. cc) (λ no. cc))
    (same_Some _ _ is))
is_begin s who (CancelDone place) item number is =
    absurd (not_possible (may_close s closings.Cancel who place) (replies.Truth true) item number (λ no. cc) is)
is_begin s who (FlushStart other) item number is = absurd (not_flushed (flushed_of s who other) item number (same_Some _ _ is))
is_begin s who (FlushDone place) item number is =
    absurd (not_possible (may_close s closings.Flush who place) (replies.Truth true) item number (λ no. cc) is)
is_begin s who (Schedule other queue delay) item number is =
    absurd (not_run (is_pending_in s other) (replies.Sub Already)
    (cond (eqb delay 0) (replies.Sub (submission_in s (Some who.number) other (Some queue))) replies.Armed) item
    number (λ no. cc)
    (not_run (eqb delay 0) (replies.Sub (submission_in s (Some who.number) other (Some queue))) replies.Armed item number
    (λ no. cc) (λ no. cc)) (same_Some _ _ is))
is_begin s who (Reschedule other queue delay) item number is =
    absurd (not_run (eqb delay 0) (replies.Sub (submission_in s (Some who.number) other (Some queue))) replies.Armed item
    number (λ no. cc) (λ no. cc) (same_Some _ _ is))
is_begin s who (Remaining other) item number is = absurd (cc)
is_begin s who (Start queue) item number is =
    absurd (not_run (is_started s.queues queue) replies.Already replies.Done item number (λ no. cc) (λ no. cc) (same_Some _ _ is))
is_begin s who (DrainStart queue plug) item number is =
    absurd (not_run (is_empty_and_idle s.admissions queue) (replies.Number 0) replies.Wait item number (λ no. cc)
    (λ no. cc) (same_Some _ _ is))
is_begin s who (DrainDone place) item number is =
    absurd (not_possible (may_close s closings.Drain who place) (replies.Number 1) item number (λ no. cc) is)
is_begin s who (Unplug queue) item number is =
    absurd (not_run (is_plugged s.queues queue) replies.Done replies.Already item number (λ no. cc) (λ no. cc) (same_Some _ _ is))
is_begin s who (Stop queue) item number is =
    let may = is_plugged s.queues queue && is_empty_and_idle s.admissions queue in
    absurd (not_run (not (is_started s.queues queue)) replies.Already (cond may replies.Done replies.Busy) item number
    (λ no. cc) (not_run may replies.Done replies.Busy item number (λ no. cc) (λ no. cc)) (same_Some _ _ is))
is_begin s who (Announce ticks) item number is = absurd (cc)
is_begin s who (Begin queue) item number is = (queue, refl)
is_begin s who (End queue) item number is =
    absurd (not_possible (may_end s.admissions s.queues who queue) replies.Done item number (λ no. cc) is)
