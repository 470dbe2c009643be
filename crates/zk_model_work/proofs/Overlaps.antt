-- An item runs once at a time, and its next admission waits at the queue that runs it.
use Rattle.std.proofs.Common.{◌≡◌, ℕ, zero, suc, ◌+◌, ◌<◌, ◌≢◌, ◌⊎◌, inl, inr, Bool, true, false, not, cond, eqb, ltb, Option, Some, None, is_none, option_map, List, [], ◌∷◌, ◌++◌, length, map, find, slice_get, refl, sym, ap, subst, ◌∙◌, arith}
use Rattle.std.specs.Cmp.{first_so, second_so}
use Rattle.std.specs.List.{position, position_or_len, list_any}
use Rattle.std.specs.Option.{option_map_or, option_or}
use Rattle.std.proofs.lemmas.Bool.{eqb-true, eq-eqb, false≢true, cases_order, and_from, and_left, and_right, or_parts}
use Rattle.std.proofs.lemmas.Bool.Decides.{eqb_tells, nat_tests}
use Rattle.std.proofs.lemmas.Option.{slice_get-map, slice_get_within, same_Some}
use Rattle.zk_base.proofs.Lists.{and_second, none_from_is_some}
use Rattle.zk_base.specs.declared.ids.Who.{Who}
use Rattle.zk_base.specs.declared.ids.Entry.{Entry}
use Rattle.zk_base.specs.Legal.{state_after, Replays}
use Rattle.zk_base.specs.declared.errors.Errno.{Errno}
use Rattle.zk_base.specs.declared.errors.Errno.TheVariants.{Busy, Inval}
use Rattle.zk_base.proofs.Histories.{state_after-append, Replays-rest}
use Rattle.zk_model_work.specs.declared.parts.Life.{Life}
use Rattle.zk_model_work.specs.declared.parts.Life.TheVariants.{Waiting, Running, Ended, Dropped}
use Rattle.zk_model_work.specs.declared.parts.Admission.{Admission}
use Rattle.zk_model_work.specs.declared.parts.Queue.{Queue}
use Rattle.zk_model_work.specs.declared.ops.WorkOp.{WorkOp}
use Rattle.zk_model_work.specs.declared.ops.WorkOp.TheVariants.{Begin}
use Rattle.zk_model_work.specs.declared.ops.WorkReply.{WorkReply}
use Rattle.zk_model_work.specs.declared.ops.WorkReply.TheVariants as replies
use Rattle.zk_model_work.specs.declared.ops.Submitted.{Submitted}
use Rattle.zk_model_work.specs.declared.ops.Submitted.TheVariants.{Already, Fresh, Rerun, Refused}
use Rattle.zk_model_work.specs.Lists.{first}
use Rattle.zk_model_work.specs.Questions.{is_waiting, is_running, is_open, waits_as, runs_as, runs_on, waiting, running, running_queue, last_queue, line, run, item_of}
use Rattle.zk_model_work.specs.State.{State}
use Rattle.zk_model_work.specs.Machine.{work_next, work_reply, work_machine, submit, set_life, with_life, begin, end_one, drop_one, may_begin, taken_up}
use Rattle.zk_model_work.specs.Answers.{target, admission, refusal, submission_to, submission_at, submission, admitted_to, is_worker}
use Rattle.zk_model_work.specs.declared.parts.Item.{Item}
use Rattle.zk_model_work.specs.Histories.{IsFreshHistory, OfEach, submitter, admission_after, ends}
use Rattle.zk_model_work.specs.Laws.{RunsToItsEnd, EndsBetweenBegins}
use Rattle.zk_model_work.proofs.Lives.{open-waiting, open-running, IsFirst, IsFirst-line, set_life-at, set_life-aside}
use Rattle.zk_model_work.proofs.Moves.{pushed, still-map, still-submit, admissions-next, is_begin}
use Rattle.zk_model_work.proofs.Begins.{Begun, Begun-reply, Begun-entry, Replays-parts}

-- what a life is

pub waiting-running : (life : Life) → is_waiting life ≡ true → is_running life ≡ true → ⊥
waiting-running Waiting w r = false≢true r
waiting-running Running w r = false≢true w
waiting-running Ended w r = false≢true w
waiting-running Dropped w r = false≢true w

pub runs-open : (life : Life) → is_open life ≡ true → is_waiting life ≡ false → is_running life ≡ true
runs-open Waiting o w = absurd (cc)
runs-open Running o w = refl
runs-open Ended o w = absurd (cc)
runs-open Dropped o w = absurd (cc)

-- where no place is found, no element passes
abbrev found_at : ℕ → ℕ → Option ℕ
found_at place long = cond (ltb place long) (Some place) None

behind : (place long : ℕ) → found_at (1 + place) (suc long) ≡ None → found_at place long ≡ None
behind place long none = grind (arith, nat_tests)

at_front : (long : ℕ) → found_at 0 (suc long) ≡ None → ⊥
at_front long none = grind (arith, nat_tests)

fails_at_front : (b : Bool) (place long : ℕ) → found_at (cond (not b) (1 + place) 0) (suc long) ≡ None →
    (b ≡ false) × (found_at place long ≡ None)
fails_at_front true place long none = absurd (at_front long none)
fails_at_front false place long none = (refl, behind place long none)

pub position-none : {A : Type 0} (p : A → Bool) (xs : List A) (n : ℕ) (a : A) → position p xs ≡ None →
    slice_get xs n ≡ Some a → p a ≡ false
position-none p [] n a none at = absurd (cc)
position-none p (x ∷ xs) zero a none at = ap p (sym (same_Some x a at))
    ∙ (fails_at_front (p x) (position_or_len p xs) (length xs) none).0
position-none p (x ∷ xs) (suc n) a none at =
    position-none p xs n a (fails_at_front (p x) (position_or_len p xs) (length xs) none).1 at

-- the first that passes is of this queue, where each that passes is
pub found_queue : (p : Admission → Bool) (xs : List Admission) (queue n : ℕ) (a : Admission) →
    ((m : ℕ) (b : Admission) → slice_get xs m ≡ Some b → p b ≡ true → b.queue ≡ queue) →
    slice_get xs n ≡ Some a → p a ≡ true → option_map (λ (b : Admission). b.queue) (find p xs) ≡ Some queue
found_queue p [] queue n a each at passes = absurd (cc)
found_queue p (x ∷ xs) queue n a each at passes =
    by (p x) refl n at (λ k there. found_queue p xs queue k a (λ m b at_m. each (suc m) b at_m) there passes) where
      by : (b : Bool) → p x ≡ b → (k : ℕ) → slice_get (x ∷ xs) k ≡ Some a →
          ((k : ℕ) → slice_get xs k ≡ Some a → option_map (λ (b : Admission). b.queue) (find p xs) ≡ Some queue) →
          option_map (λ (b : Admission). b.queue) (cond b (Some x) (find p xs)) ≡ Some queue
      by true is k at further = ap Some (each 0 x refl is)
      by false is zero at further = absurd (false≢true (sym is ∙ ap p (same_Some x a at) ∙ passes))
      by false is (suc k) at further = further k at

-- one runs, the other waits, and both are to one queue
abbrev Follow : Admission → Admission → Type 0
Follow a b = (is_running a.life ≡ true) × (is_waiting b.life ≡ true) × (a.queue ≡ b.queue)

-- of two open admissions of one item the one with the lower number runs, and the other waits for its queue
abbrev pub Ordered : List Admission → Type 0
Ordered xs = (m n : ℕ) (a b : Admission) → m < n → slice_get xs m ≡ Some a → slice_get xs n ≡ Some b → a.item ≡ b.item →
    is_open a.life ≡ true → is_open b.life ≡ true → Follow a b

Ordered-nil : Ordered []
Ordered-nil m n a b below at there = absurd (cc)

-- fewer are open
Ordered-fewer : (xs ys : List Admission) → ((n : ℕ) (b : Admission) → slice_get ys n ≡ Some b → is_open b.life ≡ true →
    slice_get xs n ≡ Some b) → Ordered xs → Ordered ys
Ordered-fewer xs ys each ordered m n a b below at there same open_a open_b =
    ordered m n a b below (each m a at open_a) (each n b there open_b) same open_a open_b

mapped : (f : Admission → Admission) (o : Option Admission) (b : Admission) →
    ((a : Admission) → is_open (f a).life ≡ true → f a ≡ a) → option_map f o ≡ Some b → is_open b.life ≡ true → o ≡ Some b
mapped f None b same at open_b = absurd (cc)
mapped f (Some a) b same at open_b =
    let is = same_Some (f a) b at in
    ap Some (sym (same a (ap (λ (c : Admission). is_open c.life) is ∙ open_b)) ∙ is)

Ordered-map : (f : Admission → Admission) → ((a : Admission) → is_open (f a).life ≡ true → f a ≡ a) →
    (xs : List Admission) → Ordered xs → Ordered (map f xs)
Ordered-map f same xs ordered =
    Ordered-fewer xs (map f xs) (λ n b at open_b. mapped f (slice_get xs n) b same (sym (slice_get-map f xs n)
    ∙ at) open_b) ordered

kept-cond : (b : Bool) (a : Admission) (life : Life) → is_open life ≡ false →
    is_open (cond b (with_life life a) a).life ≡ true → cond b (with_life life a) a ≡ a
kept-cond true a life over opens = absurd (false≢true (sym over ∙ opens))
kept-cond false a life over opens = refl

kept-end_one : (queue : ℕ) (a : Admission) → is_open (end_one queue a).life ≡ true → end_one queue a ≡ a
kept-end_one queue a opens = kept-cond (runs_on queue a) a Ended refl opens

kept-drop_one : (item : ℕ) (a : Admission) → is_open (drop_one item a).life ≡ true → drop_one item a ≡ a
kept-drop_one item a opens = kept-cond (waits_as item a) a Dropped refl opens

past : (b : Bool) (x y : Submitted) (queue : ℕ) → admitted_to x ≡ None → admitted_to (cond b x y) ≡ Some queue →
    (b ≡ false) × (admitted_to y ≡ Some queue)
past true x y queue none is = absurd (cc)
past false x y queue none is = (refl, is)

admission-to : (b : Bool) (long number queue : ℕ) →
    admitted_to (cond b (Rerun long number) (Fresh long number)) ≡ Some queue → number ≡ queue
admission-to true long number queue is = same_Some number queue is
admission-to false long number queue is = same_Some number queue is

pub submission_to-admitted : (i : Item) (caller : Option ℕ) (number : ℕ) (q : Queue) (queue : ℕ) →
    admitted_to (submission_to i caller number q) ≡ Some queue → number ≡ queue
submission_to-admitted i caller number q queue is = by (refusal caller q) is where
  by : (r : Option Errno) → admitted_to (option_map_or Refused r (admission i number)) ≡ Some queue → number ≡ queue
  by None is = admission-to i.running i.next number queue is
  by (Some cause) is = absurd (cc)

submission_at-admitted : (i : Item) (queues : List Queue) (caller : Option ℕ) (o : Option ℕ) (queue : ℕ) →
    admitted_to (submission_at i queues caller o) ≡ Some queue → o ≡ Some queue
submission_at-admitted i queues caller None queue is = absurd (cc)
submission_at-admitted i queues caller (Some number) queue is = by (slice_get queues number) is where
  by : (q : Option Queue) → admitted_to (option_map_or (submission_to i caller number) q (Refused Inval)) ≡ Some queue →
      Some number ≡ Some queue
  by None is = absurd (cc)
  by (Some q) is = ap Some (submission_to-admitted i caller number q queue is)

-- there is such a queue
submission_at-within : (i : Item) (queues : List Queue) (caller : Option ℕ) (o : Option ℕ) (queue : ℕ) →
    admitted_to (submission_at i queues caller o) ≡ Some queue → queue < length queues
submission_at-within i queues caller None queue is = absurd (cc)
submission_at-within i queues caller (Some number) queue is = by (slice_get queues number) refl is where
  by : (q : Option Queue) → slice_get queues number ≡ q →
      admitted_to (option_map_or (submission_to i caller number) q (Refused Inval)) ≡ Some queue → queue < length queues
  by None there is = absurd (cc)
  by (Some q) there is =
      let same = submission_to-admitted i caller number q queue is in
      let within = slice_get_within queues number q there in
      omega arith

-- a submission that admits finds the item neither cancelled or_parts waiting, and goes to its target
pub record Admits (i : Item) (named : Option ℕ) (queue : ℕ) : Type 0 where
  pub not_cancelling : i.cancelling ≡ false
  pub not_waiting : i.queued ≡ false
  pub target_is : target i named ≡ Some queue

pub submission-admits : (i : Item) (queues : List Queue) (caller : Option ℕ) (named : Option ℕ) (queue : ℕ) →
    admitted_to (submission i queues caller named) ≡ Some queue → Admits i named queue
submission-admits i queues caller named queue is =
    let at = submission_at i queues caller (target i named) in
    let one = past i.cancelling (Refused Busy) (cond i.queued Already at) queue refl is in
    let two = past i.queued Already at queue refl one.1 in
    record {
      not_cancelling = one.0;
      not_waiting = two.0;
      target_is = submission_at-admitted i queues caller (target i named) queue two.1;
    }

pub submission-within : (i : Item) (queues : List Queue) (caller : Option ℕ) (named : Option ℕ) (queue : ℕ) →
    admitted_to (submission i queues caller named) ≡ Some queue → queue < length queues
submission-within i queues caller named queue is =
    let at = submission_at i queues caller (target i named) in
    let one = past i.cancelling (Refused Busy) (cond i.queued Already at) queue refl is in
    let two = past i.queued Already at queue refl one.1 in
    submission_at-within i queues caller (target i named) queue two.1

None-is_none : {A : Type 0} (o : Option A) → is_none o ≡ true → o ≡ None
None-is_none None is = refl
None-is_none (Some x) is = absurd (cc)

-- of what runs an item, each is of the queue of any other
one_queue : (xs : List Admission) (item : ℕ) → Ordered xs → (n m : ℕ) (a b : Admission) → slice_get xs n ≡ Some a →
    runs_as item a ≡ true → slice_get xs m ≡ Some b → runs_as item b ≡ true → b.queue ≡ a.queue
one_queue xs item ordered n m a b at runs there runs_too =
    let item_a = eqb-true a.item item (first_so (eqb a.item item) (is_running a.life) runs) in
    let item_b = eqb-true b.item item (first_so (eqb b.item item) (is_running b.life) runs_too) in
    let run_a = second_so (eqb a.item item) (is_running a.life) runs in
    let run_b = second_so (eqb b.item item) (is_running b.life) runs_too in
    by (cases_order n m) (item_a ∙ sym item_b) run_a run_b where
      by : (n ≡ m) ⊎ ((n < m) ⊎ (m < n)) → a.item ≡ b.item → is_running a.life ≡ true → is_running b.life ≡ true →
          b.queue ≡ a.queue
      by (inl same) items run_a run_b =
          ap (λ (c : Admission). c.queue) (same_Some b a (sym there ∙ ap (slice_get xs) (sym same) ∙ at))
      by (inr (inl below)) items run_a run_b =
          absurd (waiting-running b.life (ordered n m a b below at there items (open-running a.life run_a)
          (open-running b.life run_b)).1 run_b)
      by (inr (inr above)) items run_a run_b =
          absurd (waiting-running a.life (ordered m n b a above there at (sym items) (open-running b.life run_b)
          (open-running a.life run_a)).1 run_a)

-- an admission of an item that doesn't wait, at the queue that runs it
abbrev waiting_at : ℕ → ℕ → Admission
waiting_at item queue = record { item = item; queue = queue; life = Waiting }

Ordered-push : (xs : List Admission) (marks : List ℕ) (item : ℕ) (named : Option ℕ) (queue : ℕ) →
    Admits (item_of xs marks item) named queue → Ordered xs → Ordered (xs ++ waiting_at item queue ∷ [])
Ordered-push xs marks item named queue admits ordered m n a b below at there same open_a open_b =
    by (pushed xs (waiting_at item queue) m a at) (pushed xs (waiting_at item queue) n b there) where
      newest : slice_get xs m ≡ Some a → waiting_at item queue ≡ b → Follow a b
      newest old is =
          let item_is : a.item ≡ item = same ∙ ap (λ (c : Admission). c.item) (sym is) in
          let none = position-none (waits_as item) xs m a (none_from_is_some (waiting xs item) admits.not_waiting) old in
          let a_runs = runs-open a.life open_a
          (and_second (eqb a.item item) (is_waiting a.life) (eq-eqb a.item item item_is) none) in
          let runs = and_from (eqb a.item item) (is_running a.life) (eq-eqb a.item item item_is) a_runs in
          let found : running_queue xs item ≡ Some a.queue =
          found_queue (runs_as item) xs a.queue m a
          (λ k c there passes. one_queue xs item ordered m k a c old runs there passes) old runs in
          let to : Some a.queue ≡ Some queue =
          sym (ap (λ (o : Option ℕ). option_or o (option_or named (last_queue xs item))) found) ∙ admits.target_is in (
            a_runs,
            ap (λ (c : Admission). is_waiting c.life) (sym is),
            same_Some a.queue queue to
                ∙ ap (λ (c : Admission). c.queue) is,
          )

      by : (slice_get xs m ≡ Some a) ⊎ ((m ≡ length xs) × (waiting_at item queue ≡ a)) →
          (slice_get xs n ≡ Some b) ⊎ ((n ≡ length xs) × (waiting_at item queue ≡ b)) → Follow a b
      by (inl old) (inl older) = ordered m n a b below old older same open_a open_b
      by (inl old) (inr is) = newest old is.1
      by (inr is) (inl older) = let within = slice_get_within xs n b older in let long = is.0 in absurd (omega arith)
      by (inr is) (inr too) = let long = is.0 in let longer = too.0 in absurd (omega arith)

Ordered-submit : (xs : List Admission) (marks : List ℕ) (item : ℕ) (named : Option ℕ) (answer : Submitted) →
    ((queue : ℕ) → admitted_to answer ≡ Some queue → Admits (item_of xs marks item) named queue) → Ordered xs →
    Ordered (submit xs item answer)
Ordered-submit xs marks item named Already admits ordered = ordered
Ordered-submit xs marks item named (Fresh number queue) admits ordered =
    Ordered-push xs marks item named queue (admits queue refl) ordered
Ordered-submit xs marks item named (Rerun number queue) admits ordered =
    Ordered-push xs marks item named queue (admits queue refl) ordered
Ordered-submit xs marks item named (Refused cause) admits ordered = ordered

-- an element of the list after a begin: the one that was taken up, or an old one
pub record Taken (xs : List Admission) (m n : ℕ) (b : Admission) : Type 0 where
  pub place : m ≡ n
  pub was : Admission
  pub there : slice_get xs m ≡ Some was
  pub is : with_life Running was ≡ b

pub taken : (xs : List Admission) (m n : ℕ) (b : Admission) (a : Admission) → slice_get xs m ≡ Some a →
    slice_get (set_life xs m Running) n ≡ Some b → Taken xs m n b ⊎ (slice_get xs n ≡ Some b)
taken xs m n b a there at = by (eqb_tells m n) where
  by : ((eqb m n ≡ true) × (m ≡ n)) ⊎ ((eqb m n ≡ false) × (m ≢ n)) → Taken xs m n b ⊎ (slice_get xs n ≡ Some b)
  by (inl same) = inl (record {
    place = same.1;
    was = a;
    there = there;
    is = same_Some (with_life Running a) b (sym (set_life-at xs m Running a there)
        ∙ ap (slice_get (set_life xs m Running)) same.1 ∙ at);
  })
  by (inr other) = inr (sym (set_life-aside xs m n Running other.1) ∙ at)

-- the first of a line that runs nothing is taken up
Ordered-set_life : (xs : List Admission) (queue m : ℕ) (first_one : Admission) → IsFirst xs queue m →
    slice_get xs m ≡ Some first_one → run xs queue ≡ None → Ordered xs → Ordered (set_life xs m Running)
Ordered-set_life xs queue m first_one is first_there idle ordered i j a b below at there same open_a open_b =
    by (taken xs m i a first_one first_there at) (taken xs m j b first_one first_there there) where
      waits : (c : Admission) → slice_get xs m ≡ Some c → is_waiting c.life ≡ true
      waits c there = second_so (eqb c.queue queue) (is_waiting c.life) (is.waits c there)

      lower : Taken xs m i a → slice_get xs j ≡ Some b → Follow a b
      lower t old =
          let item_is : t.was.item ≡ b.item = ap (λ (c : Admission). c.item) t.is ∙ same in
          let place = t.place in
          let w = waits t.was t.there in
          absurd (waiting-running t.was.life w
          (ordered m j t.was b (omega arith) t.there old item_is (open-waiting t.was.life w) open_b).0)

      upper : slice_get xs i ≡ Some a → Taken xs m j b → Follow a b
      upper old t =
          let item_is : a.item ≡ t.was.item = same ∙ ap (λ (c : Admission). c.item) (sym t.is) in
          let place = t.place in
          let three = ordered i m a t.was (omega arith) old t.there item_is open_a
          (open-waiting t.was.life (waits t.was t.there)) in
          let queue_is : a.queue ≡ queue =
          three.2 ∙ eqb-true t.was.queue queue
          (first_so (eqb t.was.queue queue) (is_waiting t.was.life) (is.waits t.was t.there)) in
          let runs = and_from (eqb a.queue queue) (is_running a.life) (eq-eqb a.queue queue queue_is) three.0 in
          absurd (false≢true (sym (position-none (runs_on queue) xs i a idle old) ∙ runs))

      by : Taken xs m i a ⊎ (slice_get xs i ≡ Some a) → Taken xs m j b ⊎ (slice_get xs j ≡ Some b) → Follow a b
      by (inl t) (inl u) = let one = t.place in let two = u.place in absurd (omega arith)
      by (inl t) (inr old) = lower t old
      by (inr old) (inl t) = upper old t
      by (inr old) (inr older) = ordered i j a b below old older same open_a open_b

-- a begin is possible where the queue runs nothing
chosen_when : (b : Bool) (o : Option WorkReply) (reply : WorkReply) → cond b o None ≡ Some reply → b ≡ true
chosen_when true o reply is = refl
chosen_when false o reply is = absurd (cc)

pub idle-begin : (s : State) (who : Who) (queue : ℕ) (reply : WorkReply) → work_reply s who (Begin queue) ≡ Some reply →
    run s.admissions queue ≡ None
idle-begin s who queue reply is =
    let may = chosen_when (may_begin s.admissions s.queues who queue) (taken_up s.admissions queue) reply is in
    None-is_none (run s.admissions queue) (second_so (is_worker s.queues queue who.number) (is_none (run s.admissions queue)) may)

pub begin-is : (xs : List Admission) (queue : ℕ) (reply : WorkReply) → (it : Begun xs queue reply) →
    begin xs queue ≡ set_life xs it.number Running
begin-is xs queue reply it = ap (λ (o : Option ℕ). option_map_or (λ number. set_life xs number Running) o xs) it.first_is

Ordered-begin : (xs : List Admission) (queue : ℕ) (reply : WorkReply) → Begun xs queue reply → run xs queue ≡ None →
    Ordered xs → Ordered (begin xs queue)
Ordered-begin xs queue reply it idle ordered =
    subst Ordered (sym (begin-is xs queue reply it))
    (Ordered-set_life xs queue it.number it.taken (IsFirst-line xs queue it.number it.first_is) it.there idle ordered)

-- each entry keeps the order
pub Ordered-next : (s : State) (who : Who) (op : WorkOp) (reply : WorkReply) → work_reply s who op ≡ Some reply →
    Ordered s.admissions → Ordered (work_next s who op).admissions
Ordered-next s who op reply is ordered =
    admissions-next Ordered s who op
    (λ ys item named stays so_far. Ordered-submit ys s.marks item named
    (submission (item_of ys s.marks item) s.queues (submitter who op) named)
    (λ queue to. submission-admits (item_of ys s.marks item) s.queues (submitter who op) named queue to) so_far)
    (λ item cancels. Ordered-map (drop_one item) (kept-drop_one item) s.admissions ordered)
    (λ queue op_is.
    let begins = ap (work_reply s who) (sym op_is) ∙ is in
    Ordered-begin s.admissions queue reply (Begun-reply s who queue reply begins) (idle-begin s who queue reply begins) ordered)
    (λ queue op_is. Ordered-map (end_one queue) (kept-end_one queue) s.admissions ordered)
    ordered

Ordered-after : (s : State) (front rest : List (Entry WorkOp WorkReply)) → Replays work_machine s (front ++ rest) →
    Ordered s.admissions → Ordered (state_after work_machine s front).admissions
Ordered-after s [] rest replays ordered = ordered
Ordered-after s (e ∷ es) rest replays ordered =
    Ordered-after (work_next s e.who e.op) es rest replays.1 (Ordered-next s e.who e.op e.reply replays.0 ordered)

pub Ordered-history : (start : State) (h front rest : List (Entry WorkOp WorkReply)) → IsFreshHistory start h →
    h ≡ front ++ rest → Ordered (state_after work_machine start front).admissions
Ordered-history start h front rest fresh parts =
    Ordered-after start front rest (Replays-parts start h (front ++ rest) fresh parts)
    (subst Ordered (sym fresh.work.fresh) Ordered-nil)

-- a begin that hands out an admission of an item
pub record Handed (s : State) (item number : ℕ) : Type 0 where
  pub queue : ℕ
  pub was : Admission
  pub there : slice_get s.admissions number ≡ Some was
  pub item_is : was.item ≡ item
  pub queue_is : was.queue ≡ queue
  pub waits : is_waiting was.life ≡ true
  pub idle : run s.admissions queue ≡ None

pub same_item : (item item' number number' : ℕ) (reply : WorkReply) → reply ≡ replies.Run item number →
    reply ≡ replies.Run item' number' → (item' ≡ item) × (number' ≡ number)
same_item item item' number number' reply one other = (cc, cc)

pub Handed-begin : (s : State) (who : Who) (queue item number : ℕ) →
    work_reply s who (Begin queue) ≡ Some (replies.Run item number) → Handed s item number
Handed-begin s who queue item number is =
    let it = Begun-reply s who queue (replies.Run item number) is in
    let same = same_item item it.taken.item number it.number (replies.Run item number) refl it.replied in
    let waits = (IsFirst-line s.admissions queue it.number it.first_is).waits it.taken it.there in
    record {
      queue = queue;
      was = it.taken;
      there = ap (slice_get s.admissions) (sym same.1) ∙ it.there;
      item_is = same.0;
      queue_is = eqb-true it.taken.queue queue (first_so (eqb it.taken.queue queue) (is_waiting it.taken.life) waits);
      waits = second_so (eqb it.taken.queue queue) (is_waiting it.taken.life) waits;
      idle = idle-begin s who queue (replies.Run item number) is;
    }

pub Handed-entry : (s : State) (e : Entry WorkOp WorkReply) (item number : ℕ) → e.reply ≡ replies.Run item number →
    work_reply s e.who e.op ≡ Some e.reply → Handed s item number
Handed-entry s e item number reply is =
    let said : work_reply s e.who e.op ≡ Some (replies.Run item number) = is ∙ ap Some reply in
    let op = is_begin s e.who e.op item number said in
    Handed-begin s e.who op.0 item number (ap (work_reply s e.who) (sym op.1) ∙ said)

-- what runs keeps its item from a begin
runs-alone : (xs : List Admission) (queue number running : ℕ) (a b : Admission) → Ordered xs →
    slice_get xs running ≡ Some a → is_running a.life ≡ true → slice_get xs number ≡ Some b → is_waiting b.life ≡ true →
    a.item ≡ b.item → b.queue ≡ queue → run xs queue ≡ None → ⊥
runs-alone xs queue number running a b ordered at runs there waits same queue_is idle = by (cases_order running number) where
  by : (running ≡ number) ⊎ ((running < number) ⊎ (number < running)) → ⊥
  by (inl is) = waiting-running b.life waits
      (ap (λ (c : Admission). is_running c.life) (same_Some b a (sym there ∙ ap (slice_get xs) (sym is) ∙ at)) ∙ runs)
  by (inr (inl below)) =
      let three = ordered running number a b below at there same (open-running a.life runs) (open-waiting b.life waits) in
      let on = and_from (eqb a.queue queue) (is_running a.life) (eq-eqb a.queue queue (three.2 ∙ queue_is)) runs in
      false≢true (sym (position-none (runs_on queue) xs running a idle at) ∙ on)
  by (inr (inr above)) =
      waiting-running b.life waits (ordered number running b a above there at (sym same) (open-waiting b.life waits)
      (open-running a.life runs)).0

-- a running admission runs on, but for an end at its queue
pub still-cond : (b : Bool) (a : Admission) (life : Life) → b ≡ false → cond b (with_life life a) a ≡ a
still-cond true a life is = absurd (cc)
still-cond false a life is = refl

pub running-not : (life : Life) → is_running life ≡ true → is_waiting life ≡ false
running-not Waiting r = absurd (cc)
running-not Running r = refl
running-not Ended r = refl
running-not Dropped r = refl

still-begin : (xs : List Admission) (queue n : ℕ) (a : Admission) → is_running a.life ≡ true → slice_get xs n ≡ Some a →
    slice_get (begin xs queue) n ≡ Some a
still-begin xs queue n a runs at = by (first (line xs queue)) refl where
  apart : (m : ℕ) → first (line xs queue) ≡ Some m → m ≢ n
  apart m is same =
      let waits = (IsFirst-line xs queue m is).waits a (ap (slice_get xs) same ∙ at) in
      waiting-running a.life (second_so (eqb a.queue queue) (is_waiting a.life) waits) runs

  by : (o : Option ℕ) → first (line xs queue) ≡ o →
      slice_get (option_map_or (λ number. set_life xs number Running) o xs) n ≡ Some a
  by None is = at
  by (Some m) is = set_life-aside xs m n Running (apart m is) ∙ at

still-next : (s : State) (who : Who) (op : WorkOp) (n : ℕ) (a : Admission) → is_running a.life ≡ true →
    ends a.queue op ≡ false → slice_get s.admissions n ≡ Some a → slice_get (work_next s who op).admissions n ≡ Some a
still-next s who op n a runs goes_on at =
    admissions-next (λ ys. slice_get ys n ≡ Some a) s who op
    (λ ys item named stays there.
    still-submit ys item (submission (item_of ys s.marks item) s.queues (submitter who op) named) n a there)
    (λ item cancels. still-map (drop_one item) s.admissions n a
    (still-cond (waits_as item a) a Dropped (and_right (eqb a.item item) (is_waiting a.life) (running-not a.life runs))) at)
    (λ queue op_is. still-begin s.admissions queue n a runs at)
    (λ queue op_is. still-map (end_one queue) s.admissions n a
    (still-cond (runs_on queue a) a Ended (and_left (eqb a.queue queue) (is_running a.life) (ap (ends a.queue) (sym op_is)
    ∙ goes_on))) at)
    at

still-after : (s : State) (h : List (Entry WorkOp WorkReply)) (n : ℕ) (a : Admission) → is_running a.life ≡ true →
    list_any (λ e. ends a.queue e.op) h ≡ false → slice_get s.admissions n ≡ Some a →
    slice_get (state_after work_machine s h).admissions n ≡ Some a
still-after s [] n a runs goes_on at = at
still-after s (e ∷ es) n a runs goes_on at =
    let both = or_parts (ends a.queue e.op) (list_any (λ f. ends a.queue f.op) es) goes_on in
    still-after (work_next s e.who e.op) es n a runs both.1 (still-next s e.who e.op n a runs both.0 at)

pub runs_to_its_end : OfEach RunsToItsEnd
runs_to_its_end start h fresh front between number a parts at runs goes_on =
    ap (λ (l : List (Entry WorkOp WorkReply)). admission_after start l number) parts
    ∙ ap (λ (s : State). slice_get s.admissions number) (state_after-append work_machine start front between)
    ∙ still-after (state_after work_machine start front) between number a (ap is_running runs) goes_on at

not_false : (b : Bool) → (b ≡ false → ⊥) → b ≡ true
not_false true wrong = refl
not_false false wrong = absurd (wrong refl)

pub ends_between_begins : OfEach EndsBetweenBegins
ends_between_begins start h fresh front between rest one two queue item number next parts op reply next_reply =
    let s = state_after work_machine start front in
    let after = work_next s one.who one.op in
    let t = state_after work_machine after between in
    let replays = Replays-rest work_machine start front (one ∷ (between ++ two ∷ rest))
    (Replays-parts start h (front ++ one ∷ (between ++ two ∷ rest)) fresh parts) in
    let begun = Begun-entry s one queue op replays.0 in
    let same = same_item item begun.taken.item number begun.number one.reply reply begun.replied in
    let waits = (IsFirst-line s.admissions queue begun.number begun.first_is).waits begun.taken begun.there in
    let queue_is = eqb-true begun.taken.queue queue
    (first_so (eqb begun.taken.queue queue) (is_waiting begun.taken.life) waits) in
    let runner : Admission = with_life Running begun.taken in
    let here : slice_get after.admissions begun.number ≡ Some runner =
    ap (λ o. slice_get (work_next s one.who o).admissions begun.number) op
    ∙ ap (λ (xs : List Admission). slice_get xs begun.number) (begin-is s.admissions queue one.reply begun)
    ∙ set_life-at s.admissions begun.number Running begun.taken begun.there in
    let it = Handed-entry t two item next next_reply (Replays-rest work_machine after between (two ∷ rest) replays.1).0 in
    let order : Ordered after.admissions =
    Ordered-next s one.who one.op one.reply replays.0
    (Ordered-history start h front (one ∷ (between ++ two ∷ rest)) fresh parts) in
    let ordered : Ordered t.admissions = Ordered-after after between (two ∷ rest) replays.1 order in
    not_false (list_any (λ e. ends queue e.op) between) (λ none.
    let goes_on : list_any (λ e. ends begun.taken.queue e.op) between ≡ false =
    ap (λ q. list_any (λ (e : Entry WorkOp WorkReply). ends q e.op) between) queue_is ∙ none in
    let still = still-after after between begun.number runner refl goes_on here in
    runs-alone t.admissions it.queue next begun.number runner it.was ordered still refl it.there it.waits (same.0
    ∙ sym it.item_is) it.queue_is it.idle)
