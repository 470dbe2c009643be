-- What a submission is answered, and what it makes.
use Rattle.std.proofs.Common.{◌≡◌, ℕ, zero, suc, ◌+◌, ◌≤◌, ◌⊎◌, inl, inr, Bool, true, false, not, ◌&&◌, ◌||◌, cond, eqb, ltb, leb, get_or, Option, Some, None, is_some, option_map, List, [], ◌∷◌, ◌++◌, length, find, filter, slice_get, All, refl, sym, ap, subst, ◌∙◌, append_assoc, arith}
use Rattle.std.specs.Cmp.{first_so, second_so}
use Rattle.std.specs.List.{position, list_any}
use Rattle.std.specs.Option.{option_map_or, option_or}
use Rattle.std.proofs.lemmas.Bool.{eqb-true, false≢true, and_right}
use Rattle.std.proofs.lemmas.List.{append-nil, length-append}
use Rattle.std.proofs.lemmas.List.Elements.{All-nil, All-cons, All-head, All-tail}
use Rattle.std.proofs.lemmas.Option.{same_Some, slice_get_within, get_or_from_slice_get}
use Rattle.zk_base.specs.declared.ids.Who.{Who}
use Rattle.zk_base.specs.declared.errors.Errno.{Errno}
use Rattle.zk_base.specs.declared.errors.Errno.TheVariants as errnos
use Rattle.zk_base.specs.Legal.{state_after}
use Rattle.zk_base.proofs.Histories.{state_after-append}
use Rattle.zk_base.specs.Order.{put_by, put_all_by}
use Rattle.zk_base.proofs.Order.{All-put_by, All-by_key}
use Rattle.zk_model_work.specs.declared.parts.Life.{Life}
use Rattle.zk_model_work.specs.declared.parts.Life.TheVariants.{Waiting, Running, Ended, Dropped}
use Rattle.zk_model_work.specs.declared.parts.Admission.{Admission}
use Rattle.zk_model_work.specs.declared.parts.Fate.TheVariants.{Live}
use Rattle.zk_model_work.specs.declared.parts.Arm.{Arm}
use Rattle.zk_model_work.specs.declared.parts.Item.{Item}
use Rattle.zk_model_work.specs.declared.parts.Queue.{Queue}
use Rattle.zk_model_work.specs.declared.ops.WorkOp.{WorkOp}
use Rattle.zk_model_work.specs.declared.ops.WorkOp.TheVariants.{Submit, Cancel, CancelStart, CancelDone, FlushStart, FlushDone, Schedule, Reschedule, Remaining, Start, DrainStart, DrainDone, Unplug, Stop, Announce, Begin, End}
use Rattle.zk_model_work.specs.declared.ops.Submitted.{Submitted}
use Rattle.zk_model_work.specs.declared.ops.Submitted.TheVariants.{Already, Fresh, Rerun, Refused}
use Rattle.zk_model_work.specs.declared.ops.Expiry.{Expiry}
use Rattle.zk_model_work.specs.declared.ops.WorkReply.{WorkReply}
use Rattle.zk_model_work.specs.declared.ops.WorkReply.TheVariants as replies
use Rattle.zk_model_work.specs.Questions.{is_waiting, is_running, is_live, waits_as, runs_as, passes_at, waiting, is_cancelling, is_due, due, item_of}
use Rattle.zk_model_work.specs.State.{State}
use Rattle.zk_model_work.specs.Answers.{is_chained, target, admission, submission_to, submission_at, submission}
use Rattle.zk_model_work.specs.Machine.{submission_in, submit, submit_arms, expiries, arm, disarm, is_pending_in, schedule_reply_in, delay_reply_in, announce_reply, work_reply, work_next, work_machine}
use Rattle.zk_model_work.specs.Histories.{WorkHistory, IsFreshHistory, OfEach, submitter, is_own, queue_refuses, IsArmedFor, Named, IsSubmission, AnswerHolds, IsCause, IsBeingCancelled}
use Rattle.zk_model_work.specs.Laws.{AnsweredIsMade, AlreadyWhereItWaits, RefusedWithCause}
use Rattle.zk_model_work.proofs.Moves.{Stays, pushed, still-submit, submit_arms-keeps}
use Rattle.zk_model_work.proofs.Overlaps.{position-none}
use Rattle.zk_model_work.proofs.Delays.{one_live_arm}
use Rattle.zk_model_work.proofs.Waits.{at-any}
use Rattle.zk_model_work.proofs.Tells.{any-same}
use Rattle.zk_model_work.proofs.Cancels.{NoneWaits, life_at, During-after, During-entry}
use Rattle.zk_model_work.proofs.Entries.{entry-replied, at_each_in, fresh-front}
use Rattle.zk_model_work.proofs.Replies.{OneIsLive, live-is, position-at}
use Rattle.zk_model_work.proofs.Marks.{cancelling-is, is-cancelling}

-- why a submission is answered so

-- a queue is there, and takes the submission or not
abbrev pub IsAt : Item → List Queue → Option ℕ → ℕ → Queue → Type 0
IsAt i queues named number q = (target i named ≡ Some number) × (slice_get queues number ≡ Some q)

-- what each answer says
abbrev pub Says : Item → List Queue → Option ℕ → Option ℕ → Submitted → Type 0
Says i queues caller named (Fresh n number) = (n ≡ i.next) × (i.running ≡ false) × (i.queued ≡ false) × (q : Queue)
    × IsAt i queues named number q × (q.started ≡ true)
Says i queues caller named (Rerun n number) = (n ≡ i.next) × (i.running ≡ true) × (i.queued ≡ false) × (q : Queue)
    × IsAt i queues named number q × (q.started ≡ true)
Says i queues caller named Already = i.queued ≡ true
Says i queues caller named (Refused errnos.Busy) = (i.cancelling ≡ true)
    ⊎ ((number : ℕ) × (q : Queue) × IsAt i queues named number q × (q.started ≡ true) × (queue_refuses q caller ≡ true))
Says i queues caller named (Refused errnos.NoDev) = (i.cancelling ≡ false) × (number : ℕ) × (q : Queue)
    × IsAt i queues named number q × (q.started ≡ false)
Says i queues caller named (Refused errnos.Inval) = (i.cancelling ≡ false) × ((number : ℕ) (q : Queue) →
    IsAt i queues named number q → ⊥)
Says i queues caller named (Refused cause) = ⊥

chained-own : (q : Queue) (caller : Option ℕ) → is_chained q caller ≡ is_own q caller
chained-own q None = refl
chained-own q (Some player) = refl

says-to : (i : Item) (queues : List Queue) (caller named : Option ℕ) (number : ℕ) (q : Queue) → i.cancelling ≡ false →
    i.queued ≡ false → IsAt i queues named number q →
    Says i queues caller named (submission_to i caller number q)
says-to i queues caller named number q free empty at =
    by q.started q.draining (is_chained q caller) q.plugged refl refl refl refl where
      taken : q.started ≡ true → (b : Bool) → i.running ≡ b →
          Says i queues caller named (cond b (Rerun i.next number) (Fresh i.next number))
      taken on true runs = (refl, runs, empty, q, at, on)
      taken on false idle = (refl, idle, empty, q, at, on)

      barred : (d c p : Bool) → q.draining ≡ d → is_chained q caller ≡ c → q.plugged ≡ p →
          ((d && not c) || (p && not d)) ≡ true → queue_refuses q caller ≡ true
      barred d c p d_is c_is p_is so =
          ap (λ b. (b && not (is_own q caller)) || (q.plugged && not b)) d_is
          ∙ ap (λ b. (d && not b) || (q.plugged && not d)) (sym (chained-own q caller) ∙ c_is)
          ∙ ap (λ b. (d && not c) || (b && not d)) p_is ∙ so

      by : (s d c p : Bool) → q.started ≡ s → q.draining ≡ d → is_chained q caller ≡ c → q.plugged ≡ p →
          Says i queues caller named
          (option_map_or Refused
          (cond (not s) (Some errnos.NoDev)
          (cond (d && not c) (Some errnos.Busy) (cond (p && not d) (Some errnos.Busy) None))) (admission i number))
      by false d c p s_is d_is c_is p_is = (free, number, q, at, s_is)
      by true true false p s_is d_is c_is p_is = inr (number, q, at, s_is, barred true false p d_is c_is p_is refl)
      by true true true true s_is d_is c_is p_is = taken s_is i.running refl
      by true true true false s_is d_is c_is p_is = taken s_is i.running refl
      by true false true true s_is d_is c_is p_is = inr (number, q, at, s_is, barred false true true d_is c_is p_is refl)
      by true false false true s_is d_is c_is p_is = inr (number, q, at, s_is, barred false false true d_is c_is p_is refl)
      by true false true false s_is d_is c_is p_is = taken s_is i.running refl
      by true false false false s_is d_is c_is p_is = taken s_is i.running refl

says-at : (i : Item) (queues : List Queue) (caller named : Option ℕ) → i.cancelling ≡ false → i.queued ≡ false →
    (o : Option ℕ) → target i named ≡ o → Says i queues caller named (submission_at i queues caller o)
says-at i queues caller named free empty None none = (free, λ number q at. nothing (sym none ∙ at.0)) where
  nothing : {n : ℕ} → None ≡ Some n → ⊥
  nothing is = cc
says-at i queues caller named free empty (Some number) to = by (slice_get queues number) refl where
  by : (o : Option Queue) → slice_get queues number ≡ o →
      Says i queues caller named (option_map_or (submission_to i caller number) o (Refused errnos.Inval))
  by None none = (
    free,
    λ other q at. nothing (sym none ∙ ap (slice_get queues) (same_Some number other (sym to ∙ at.0))
        ∙ at.1),
  ) where
    nothing : {q : Queue} → None ≡ Some q → ⊥
    nothing is = cc
  by (Some q) there = says-to i queues caller named number q free empty (to, there)

pub says : (i : Item) (queues : List Queue) (caller named : Option ℕ) →
    Says i queues caller named (submission i queues caller named)
says i queues caller named = by i.cancelling i.queued refl refl where
  by : (c w : Bool) → i.cancelling ≡ c → i.queued ≡ w →
      Says i queues caller named (cond c (Refused errnos.Busy) (cond w Already (submission_at i queues caller (target i named))))
  by true w c_is w_is = inl c_is
  by false true c_is w_is = w_is
  by false false c_is w_is = says-at i queues caller named c_is w_is (target i named) refl

-- what one submission makes

pub last-push : (xs : List Admission) (a : Admission) → slice_get (xs ++ a ∷ []) (length xs) ≡ Some a
last-push [] a = refl
last-push (x ∷ xs) a = last-push xs a

abbrev pub waiting_one : ℕ → ℕ → Admission
waiting_one item queue = record { item = item; queue = queue; life = Waiting }

-- it tells the number and the queue of what it makes
abbrev pub Makes_one : Submitted → ℕ → ℕ → Admission → Type 0
Makes_one answer item n b = ((answer ≡ Fresh n b.queue) ⊎ (answer ≡ Rerun n b.queue)) × (b.item ≡ item) × (b.life ≡ Waiting)

pub made-one : (xs : List Admission) (marks : List ℕ) (queues : List Queue) (caller named : Option ℕ) (item n : ℕ)
    (b : Admission) →
    slice_get (submit xs item (submission (item_of xs marks item) queues caller named)) n ≡ Some b →
    (slice_get xs n ≡ Some b) ⊎ Makes_one (submission (item_of xs marks item) queues caller named) item n b
made-one xs marks queues caller named item n b at = by (submission i queues caller named) (says i queues caller named) at where
  i : Item
  i = item_of xs marks item

  new : (queue m : ℕ) → m ≡ length xs → (slice_get xs n ≡ Some b) ⊎ ((n ≡ length xs) × (waiting_one item queue ≡ b)) →
      (slice_get xs n ≡ Some b) ⊎ ((m ≡ n) × (waiting_one item queue ≡ b))
  new queue m long (inl old) = inl old
  new queue m long (inr it) = inr (long ∙ sym it.0, it.1)

  fresh : (queue m : ℕ) → (slice_get xs n ≡ Some b) ⊎ ((m ≡ n) × (waiting_one item queue ≡ b)) →
      (slice_get xs n ≡ Some b) ⊎ Makes_one (Fresh m queue) item n b
  fresh queue m (inl old) = inl old
  fresh queue m (inr it) = inr (
    inl (ap (λ k. Fresh k queue) it.0 ∙ ap (λ (a : Admission). Fresh n a.queue) it.1),
    ap (λ (a : Admission). a.item) (sym it.1),
    ap (λ (a : Admission). a.life) (sym it.1),
  )

  rerun : (queue m : ℕ) → (slice_get xs n ≡ Some b) ⊎ ((m ≡ n) × (waiting_one item queue ≡ b)) →
      (slice_get xs n ≡ Some b) ⊎ Makes_one (Rerun m queue) item n b
  rerun queue m (inl old) = inl old
  rerun queue m (inr it) = inr (
    inr (ap (λ k. Rerun k queue) it.0 ∙ ap (λ (a : Admission). Rerun n a.queue) it.1),
    ap (λ (a : Admission). a.item) (sym it.1),
    ap (λ (a : Admission). a.life) (sym it.1),
  )

  by : (answer : Submitted) → Says i queues caller named answer → slice_get (submit xs item answer) n ≡ Some b →
      (slice_get xs n ≡ Some b) ⊎ Makes_one answer item n b
  by Already so at = inl at
  by (Fresh m queue) so at = fresh queue m (new queue m so.0 (pushed xs (waiting_one item queue) n b at))
  by (Rerun m queue) so at = rerun queue m (new queue m so.0 (pushed xs (waiting_one item queue) n b at))
  by (Refused cause) so at = inl at

-- where the item is found as it was before the entry, what is answered is so
abbrev pub Same : Item → Item → Option ℕ → Type 0
Same i j named = (i.cancelling ≡ j.cancelling) × (i.queued ≡ j.queued) × (i.running ≡ j.running)
    × (target i named ≡ target j named)

so-one : (s u : State) (ys : List Admission) (caller named : Option ℕ) (item : ℕ) (answer : Submitted) →
    submission (item_of ys s.marks item) s.queues caller named ≡ answer →
    Same (item_of ys s.marks item) (item_of s.admissions s.marks item) named → length s.admissions ≤ length ys →
    Stays (submit ys item answer) u.admissions → AnswerHolds s u item answer
so-one s u ys caller named item answer is same long stays =
    by answer (subst (Says i s.queues caller named) is (says i s.queues caller named)) stays where
      i : Item
      i = item_of ys s.marks item

      by : (answer : Submitted) → Says i s.queues caller named answer → Stays (submit ys item answer) u.admissions →
          AnswerHolds s u item answer
      by Already so stays = sym same.1 ∙ so
      by (Fresh m queue) so stays =
          let number : m ≡ length ys = so.0 in (
            (
              omega arith,
              stays m (waiting_one item queue) (ap (slice_get (ys ++ waiting_one item queue ∷ [])) number
                  ∙ last-push ys (waiting_one item queue)),
            ),
            sym same.2 ∙ so.1,
          )
      by (Rerun m queue) so stays =
          let number : m ≡ length ys = so.0 in (
            (
              omega arith,
              stays m (waiting_one item queue) (ap (slice_get (ys ++ waiting_one item queue ∷ [])) number
                  ∙ last-push ys (waiting_one item queue)),
            ),
            sym same.2 ∙ so.1,
          )
      by (Refused cause) so stays = tt

same-refl : (i : Item) (named : Option ℕ) → Same i i named
same-refl i named = (refl, refl, refl, refl)

-- the arms that expire, one after another

-- no two of an item
abbrev Apart : List Arm → Type 0
Apart [] = Unit {0}
Apart (a ∷ rest) = All (λ (b : Arm). b.item ≡ a.item → ⊥) rest × Apart rest

Apart-either : (b : Bool) (l m : List Arm) → Apart l → Apart m → Apart (cond b l m)
Apart-either true l m left right = left
Apart-either false l m left right = right

Apart-put_by : (key : Arm → ℕ) (x : Arm) (arms : List Arm) → Apart arms → All (λ (b : Arm). b.item ≡ x.item → ⊥) arms →
    Apart (put_by key x arms)
Apart-put_by key x [] apart other = (All-nil (λ (b : Arm). b.item ≡ x.item → ⊥), tt)
Apart-put_by key x (y ∷ ys) apart other =
    Apart-either (ltb (key x) (key y)) (x ∷ y ∷ ys) (y ∷ put_by key x ys) (other, apart) (
      All-put_by (λ (b : Arm). b.item ≡ y.item →
          ⊥) key x ys (λ same. All-head (λ (b : Arm). b.item ≡ x.item → ⊥) y ys other (sym same)) apart.0,
      Apart-put_by key x ys apart.1 (All-tail (λ (b : Arm). b.item ≡ x.item → ⊥) y ys other),
    )

Apart-put_all : (key : Arm → ℕ) (sorted xs : List Arm) → Apart sorted → Apart xs →
    All (λ (x : Arm). All (λ (b : Arm). b.item ≡ x.item → ⊥) sorted) xs → Apart (put_all_by key sorted xs)
Apart-put_all key sorted [] one two other = one
Apart-put_all key sorted (x ∷ xs) one two other =
    let P : Arm → Type 0 = λ x. All (λ (b : Arm). b.item ≡ x.item → ⊥) sorted in
    let rest = All-tail P x xs other in
    Apart-put_all key (put_by key x sorted) xs (Apart-put_by key x sorted one (All-head P x xs other)) two.1
    (λ i d within. All-put_by (λ (b : Arm). b.item ≡ (get_or xs i d).item →
    ⊥) key x sorted (λ same. two.0 i d within (sym same)) (rest i d within))

from-filter : (p : Arm → Bool) (P : Arm → Type 0) (xs : List Arm) →
    ((n : ℕ) (a : Arm) → slice_get xs n ≡ Some a → p a ≡ true → P a) → All P (filter p xs)
from-filter p P [] each = All-nil P
from-filter p P (x ∷ xs) each = by (p x) refl (from-filter p P xs (λ n a at passes. each (suc n) a at passes)) where
  by : (b : Bool) → p x ≡ b → All P (filter p xs) → All P (cond b (x ∷ filter p xs) (filter p xs))
  by true is rest = All-cons P x (filter p xs) (each 0 x refl is) rest
  by false is rest = rest

abbrev OneOfEach : (Arm → Bool) → List Arm → Type 0
OneOfEach p xs = (m n : ℕ) (a b : Arm) → slice_get xs m ≡ Some a → slice_get xs n ≡ Some b → a.item ≡ b.item →
    p a ≡ true → p b ≡ true → m ≡ n

Apart-filter : (p : Arm → Bool) (xs : List Arm) → OneOfEach p xs → Apart (filter p xs)
Apart-filter p [] one = tt
Apart-filter p (x ∷ xs) one =
    by (p x) refl (Apart-filter p xs (λ m n a b at there same so too. let is = one (suc m) (suc n) a b at there same so
    too in omega arith)) where
      by : (b : Bool) → p x ≡ b → Apart (filter p xs) → Apart (cond b (x ∷ filter p xs) (filter p xs))
      by true is rest = (
        from-filter p (λ (b : Arm). b.item ≡ x.item →
            ⊥) xs (λ n a at passes same. let no = one 0 (suc n) x a refl at (sym same) is passes in absurd (omega arith)),
        rest,
      )
      by false is rest = rest

due-live : (time : ℕ) (a : Arm) → is_due time a ≡ true → a.fate ≡ Live
due-live time a is = live-is a.fate (first_so (is_live a.fate) (leb a.deadline time) is)

Apart-due : (s : State) (time : ℕ) → OneIsLive s → Apart (due time s.arms)
Apart-due s time one =
    let passing = filter (is_due time) s.arms in
    Apart-put_all (λ (a : Arm). a.deadline) [] passing tt
    (Apart-filter (is_due time) s.arms (λ m n a b at there same so too. one m n a b at there same (due-live time a so)
    (due-live time b too)))
    (λ i d within. All-nil (λ (b : Arm). b.item ≡ (get_or passing i d).item → ⊥))

-- each of them is live
abbrev IsLiveArm : State → Arm → Type 0
IsLiveArm s b = (place : ℕ) × (slice_get s.arms place ≡ Some b) × (b.fate ≡ Live)

due-there : (s : State) (time k : ℕ) (b : Arm) → slice_get (due time s.arms) k ≡ Some b → IsLiveArm s b
due-there s time k b at =
    let all = All-by_key (IsLiveArm s) (λ (a : Arm). a.deadline) (filter (is_due time) s.arms)
    (from-filter (is_due time) (IsLiveArm s) s.arms (λ n a at passes. (n, at, due-live time a passes))) in
    subst (IsLiveArm s) (get_or_from_slice_get (due time s.arms) k b b at) (all k b (slice_get_within (due time s.arms) k b at))

-- admissions that were made of other items, and wait
abbrev IsBeside : ℕ → List Admission → Type 0
IsBeside item zs = (k : ℕ) (z : Admission) → slice_get zs k ≡ Some z → (is_waiting z.life ≡ true) × (z.item ≡ item → ⊥)

some-any : (p : Admission → Bool) (xs : List Admission) → is_some (position p xs) ≡ list_any p xs
some-any p xs = by (position p xs) refl where
  none : (ys : List Admission) → ((n : ℕ) (a : Admission) → slice_get ys n ≡ Some a → p a ≡ false) → false ≡ list_any p ys
  none [] each = refl
  none (y ∷ ys) each = none ys (λ n a at. each (suc n) a at) ∙ ap (λ b. b || list_any p ys) (sym (each 0 y refl))

  by : (o : Option ℕ) → position p xs ≡ o → is_some o ≡ list_any p xs
  by None is = none xs (λ n a at. position-none p xs n a is at)
  by (Some n) is = let it = position-at p xs n is in sym (at-any p xs n it.0 it.1 it.2)

any-beside : (p : Admission → Bool) (xs zs : List Admission) →
    ((k : ℕ) (z : Admission) → slice_get zs k ≡ Some z → p z ≡ false) → list_any p (xs ++ zs) ≡ list_any p xs
any-beside p [] [] none = refl
any-beside p [] (z ∷ zs) none = ap (λ b. b || list_any p zs) (none 0 z refl) ∙ any-beside p [] zs (λ k y at. none (suc k) y at)
any-beside p (x ∷ xs) zs none = ap (λ b. p x || b) (any-beside p xs zs none)

find-beside : (p : Admission → Bool) (xs zs : List Admission) →
    ((k : ℕ) (z : Admission) → slice_get zs k ≡ Some z → p z ≡ false) → find p (xs ++ zs) ≡ find p xs
find-beside p [] [] none = refl
find-beside p [] (z ∷ zs) none = ap (λ b. cond b (Some z) (find p zs)) (none 0 z refl)
    ∙ find-beside p [] zs (λ k y at. none (suc k) y at)
find-beside p (x ∷ xs) zs none = ap (λ (o : Option Admission). cond (p x) (Some x) o) (find-beside p xs zs none)

passes-beside : (p : Admission → Bool) (xs zs : List Admission) (n : ℕ) →
    ((k : ℕ) (z : Admission) → slice_get zs k ≡ Some z → p z ≡ false) → passes_at p (xs ++ zs) n ≡ passes_at p xs n
passes-beside p [] zs n none = by (slice_get zs n) refl where
  by : (o : Option Admission) → slice_get zs n ≡ o → option_map_or p o false ≡ false
  by None at = refl
  by (Some z) at = none n z at
passes-beside p (x ∷ xs) zs zero none = refl
passes-beside p (x ∷ xs) zs (suc n) none = passes-beside p xs zs n none

waits-beside : (item : ℕ) (zs : List Admission) → IsBeside item zs → (k : ℕ) (z : Admission) → slice_get zs k ≡ Some z →
    waits_as item z ≡ false
waits-beside item zs beside k z at = by (eqb z.item item) refl where
  by : (b : Bool) → eqb z.item item ≡ b → (b && is_waiting z.life) ≡ false
  by true is = absurd ((beside k z at).1 (eqb-true z.item item is))
  by false is = refl

runs-beside : (item : ℕ) (zs : List Admission) → IsBeside item zs → (k : ℕ) (z : Admission) → slice_get zs k ≡ Some z →
    runs_as item z ≡ false
runs-beside item zs beside k z at = and_right (eqb z.item item) (is_running z.life) (by z.life (beside k z at).0) where
  by : (life : Life) → is_waiting life ≡ true → is_running life ≡ false
  by Waiting w = refl
  by Running w = absurd (cc)
  by Ended w = refl
  by Dropped w = refl

same-beside : (s : State) (item queue : ℕ) (zs : List Admission) → IsBeside item zs →
    Same (item_of (s.admissions ++ zs) s.marks item) (item_of s.admissions s.marks item) (Some queue)
same-beside s item queue zs beside =
    let xs = s.admissions in
    let runs = runs-beside item zs beside in (
      any-same (passes_at (runs_as item) (xs ++ zs)) (passes_at (runs_as item) xs)
          (λ n. passes-beside (runs_as item) xs zs n runs) s.marks,
      some-any (waits_as item) (xs ++ zs) ∙ any-beside (waits_as item) xs zs (waits-beside item zs beside)
          ∙ sym (some-any (waits_as item) xs),
      some-any (runs_as item) (xs ++ zs) ∙ any-beside (runs_as item) xs zs runs ∙ sym (some-any (runs_as item) xs),
      ap (λ (o : Option Admission). option_or (option_map (λ (a : Admission). a.queue) o) (Some queue))
          (find-beside (runs_as item) xs zs runs),
    )

-- a submission that an entry makes
pub record SubmittedAt (s u : State) (caller : Option ℕ) (item : ℕ) (named : Option ℕ) (answer : Submitted) : Type 0 where
  pub ys : List Admission
  pub is : submission (item_of ys s.marks item) s.queues caller named ≡ answer
  pub same : Same (item_of ys s.marks item) (item_of s.admissions s.marks item) named
  pub long : length s.admissions ≤ length ys
  pub stays : Stays (submit ys item answer) u.admissions

at-once : (s u : State) (caller : Option ℕ) (item : ℕ) (named : Option ℕ) (answer : Submitted) →
    submission (item_of s.admissions s.marks item) s.queues caller named ≡ answer →
    u.admissions ≡ submit s.admissions item (submission (item_of s.admissions s.marks item) s.queues caller named) →
    SubmittedAt s u caller item named answer
at-once s u caller item named answer is after = record {
  ys = s.admissions;
  is = is;
  same = same-refl (item_of s.admissions s.marks item) named;
  long = omega arith;
  stays = λ n a at. ap (λ (xs : List Admission). slice_get xs n) (after ∙ ap (submit s.admissions item) is) ∙ at;
}

pub stays-arms : (marks : List ℕ) (queues : List Queue) (caller : Option ℕ) (arms : List Arm) (ys : List Admission) →
    Stays ys (submit_arms marks queues caller arms ys)
stays-arms marks queues caller arms ys =
    submit_arms-keeps (λ zs. Stays ys zs) ys marks queues caller
    (λ zs item named stays so_far n a at. still-submit zs item (submission (item_of zs marks item) queues caller named) n
    a (so_far n a at)) arms ys (λ n a at. at) (λ n a at. at)

-- one of the arms that expire, and the answer to its item's submission
record ExpiryAt (s : State) (arms : List Arm) (final : List Admission) (k : ℕ) (x : Expiry) : Type 0 where
  pub arm : Arm
  pub zs : List Admission
  pub there : slice_get arms k ≡ Some arm
  pub item : x.item ≡ arm.item
  pub is : submission (item_of (s.admissions ++ zs) s.marks arm.item) s.queues None (Some arm.queue) ≡ x.submitted
  pub beside : IsBeside arm.item zs
  pub stays : Stays (submit (s.admissions ++ zs) arm.item x.submitted) final

abbrev AllBeside : List Arm → List Admission → Type 0
AllBeside arms zs = (m : ℕ) (b : Arm) → slice_get arms m ≡ Some b → IsBeside b.item zs

more-beside : (xs zs : List Admission) (item : ℕ) (answer : Submitted) →
    (vs : List Admission) × (submit (xs ++ zs) item answer ≡ xs ++ vs)
    × ((other : ℕ) → (item ≡ other → ⊥) → IsBeside other zs → IsBeside other vs)
more-beside xs zs item answer = by answer where
  push : (queue other : ℕ) → (item ≡ other → ⊥) → IsBeside other zs → IsBeside other (zs ++ waiting_one item queue ∷ [])
  push queue other apart beside k z at = which (pushed zs (waiting_one item queue) k z at) where
    which : (slice_get zs k ≡ Some z) ⊎ ((k ≡ length zs) × (waiting_one item queue ≡ z)) →
        (is_waiting z.life ≡ true) × (z.item ≡ other → ⊥)
    which (inl old) = beside k z old
    which (inr new) = (
      ap (λ (a : Admission). is_waiting a.life) (sym new.1),
      λ same. apart (ap (λ (a : Admission). a.item) new.1 ∙ same),
    )

  by : (answer : Submitted) → (vs : List Admission) × (submit (xs ++ zs) item answer ≡ xs ++ vs)
      × ((other : ℕ) → (item ≡ other → ⊥) → IsBeside other zs → IsBeside other vs)
  by Already = (zs, refl, λ other apart beside. beside)
  by (Fresh n queue) = (zs ++ waiting_one item queue ∷ [], append_assoc xs zs (waiting_one item queue ∷ []), push queue)
  by (Rerun n queue) = (zs ++ waiting_one item queue ∷ [], append_assoc xs zs (waiting_one item queue ∷ []), push queue)
  by (Refused cause) = (zs, refl, λ other apart beside. beside)

expiry-at : (s : State) (arms : List Arm) (zs : List Admission) → Apart arms → AllBeside arms zs → (k : ℕ) (x : Expiry) →
    slice_get (expiries s.marks s.queues arms (s.admissions ++ zs)) k ≡ Some x →
    ExpiryAt s arms (submit_arms s.marks s.queues None arms (s.admissions ++ zs)) k x
expiry-at s [] zs apart beside k x at = absurd (cc)
expiry-at s (a ∷ arms) zs apart beside zero x at =
    let ys = s.admissions ++ zs in
    let answer = submission (item_of ys s.marks a.item) s.queues None (Some a.queue) in
    let x_is = same_Some (record { item = a.item; submitted = answer }) x at in
    record {
      arm = a;
      zs = zs;
      there = refl;
      item = ap (λ (y : Expiry). y.item) (sym x_is);
      is = ap (λ (y : Expiry). y.submitted) x_is;
      beside = beside 0 a refl;
      stays = λ n b there. stays-arms s.marks s.queues None arms (submit ys a.item answer) n b
          (ap (λ (y : Expiry). slice_get (submit ys a.item y.submitted) n) x_is ∙ there);
    }
expiry-at s (a ∷ arms) zs apart beside (suc k) x at =
    let ys = s.admissions ++ zs in
    let answer = submission (item_of ys s.marks a.item) s.queues None (Some a.queue) in
    let vs = more-beside s.admissions zs a.item answer in
    let others : (m : ℕ) (b : Arm) → slice_get arms m ≡ Some b → a.item ≡ b.item → ⊥ =
    λ m b there same. subst (λ (c : Arm). c.item ≡ a.item → ⊥) (get_or_from_slice_get arms m b b there)
    (apart.0 m b (slice_get_within arms m b there)) (sym same) in
    let it = expiry-at s arms vs.0 apart.1 (λ m b there. vs.2 b.item (others m b there) (beside (suc m) b there)) k x
    (ap (λ (l : List Admission). slice_get (expiries s.marks s.queues arms l) k) (sym vs.1) ∙ at) in
    record {
      arm = it.arm;
      zs = it.zs;
      there = it.there;
      item = it.item;
      is = it.is;
      beside = it.beside;
      stays = subst (λ (l : List Admission). Stays (submit (s.admissions ++ it.zs) it.arm.item x.submitted)
          (submit_arms s.marks s.queues None arms l)) (sym vs.1) it.stays;
    }

-- each submission that an entry tells of
abbrev pub Submits : State → State → Who → WorkOp → ℕ → Submitted → Type 0
Submits s u who op item answer = (named : Option ℕ) × Named s op item named × SubmittedAt s u (submitter who op) item named answer

submits-announce : (s : State) (who : Who) (ticks : ℕ) (reply : WorkReply) (item : ℕ) (answer : Submitted) → OneIsLive s →
    work_reply s who (Announce ticks) ≡ Some reply → IsSubmission (Announce ticks) reply item answer →
    Submits s (work_next s who (Announce ticks)) who (Announce ticks) item answer
submits-announce s who ticks reply item answer one is told =
    let time = s.time + ticks in
    let arms = due time s.arms in
    let said = same_Some (announce_reply s ticks) reply is in
    let tells : IsSubmission (Announce ticks) (announce_reply s ticks) item answer =
    subst (λ (r : WorkReply). IsSubmission (Announce ticks) r item answer) (sym said) told in
    let k = tells.0 in
    let x = tells.1 in
    let none : s.admissions ++ [] ≡ s.admissions = append-nil s.admissions in
    let it = expiry-at s arms [] (Apart-due s time one) (λ m b there j z at. absurd (cc)) k x
    (ap (λ (l : List Admission). slice_get (expiries s.marks s.queues arms l) k) none ∙ tells.2) in
    let b = it.arm in
    let live = due-there s time k b it.there in
    let item_is : b.item ≡ item = sym it.item ∙ tells.3 in
    let grown : length s.admissions ≤ length (s.admissions ++ it.zs) =
    let long = length-append s.admissions it.zs in omega arith in
    let stays : Stays (submit (s.admissions ++ it.zs) item answer) (work_next s who (Announce ticks)).admissions =
    λ n a at. ap (λ (l : List Admission). slice_get (submit_arms s.marks s.queues None arms l) n) (sym none)
    ∙ it.stays n a (ap (λ i. slice_get (submit (s.admissions ++ it.zs) i x.submitted) n) item_is
    ∙ ap (λ (r : Submitted). slice_get (submit (s.admissions ++ it.zs) item r) n) tells.4 ∙ at) in (
      Some b.queue,
      (b.queue, refl, (live.0, b, live.1, item_is, live.2, refl)),
      record {
        ys = s.admissions ++ it.zs;
        is = ap (λ i. submission (item_of (s.admissions ++ it.zs) s.marks i) s.queues None (Some b.queue)) (sym item_is)
            ∙ it.is ∙ tells.4;
        same = same-beside s item b.queue it.zs (λ j z at. let o = it.beside j z at in (o.0, λ same. o.1 (same ∙ sym item_is)));
        long = grown;
        stays = stays;
      },
    )

pub submits : (s : State) (who : Who) (op : WorkOp) (reply : WorkReply) (item : ℕ) (answer : Submitted) → OneIsLive s →
    work_reply s who op ≡ Some reply → IsSubmission op reply item answer →
    Submits s (work_next s who op) who op item answer
submits s who (Submit other queue) reply item answer one is told =
    let tells : IsSubmission (Submit other queue) (replies.Sub (submission_in s (Some who.number) other queue)) item answer =
    subst (λ (r : WorkReply). IsSubmission (Submit other queue) r item answer)
    (sym (same_Some (replies.Sub (submission_in s (Some who.number) other queue)) reply is)) told in
    subst (λ i. Submits s (work_next s who (Submit other queue)) who (Submit other queue) i answer) tells.0 (
      queue,
      refl,
      at-once s (work_next s who (Submit other queue)) (Some who.number) other queue answer tells.1 refl,
    )
submits s who (Cancel other) reply item answer one is told = absurd told
submits s who (CancelStart other) reply item answer one is told = absurd told
submits s who (CancelDone place) reply item answer one is told = absurd told
submits s who (FlushStart other) reply item answer one is told = absurd told
submits s who (FlushDone place) reply item answer one is told = absurd told
submits s who (Schedule other queue delay) reply item answer one is told =
    by (is_pending_in s other) (eqb delay 0) (same_Some (schedule_reply_in s who other queue delay) reply is) where
      u : Bool → Bool → State
      u p d = cond p s (cond d
          (record s { admissions = submit s.admissions other (submission_in s (Some who.number) other (Some queue)) })
          (record s { arms = arm s.arms other queue (s.time + delay) }))

      by : (p d : Bool) → cond p (replies.Sub Already)
          (cond d (replies.Sub (submission_in s (Some who.number) other (Some queue))) replies.Armed) ≡ reply →
          Submits s (record (u p d) { entries = s.entries + 1 }) who (Schedule other queue delay) item answer
      by true d said = let tells = subst (λ (r : WorkReply). IsSubmission (Schedule other queue delay) r item answer) (sym said) told
          in absurd (tells.2 (sym tells.1))
      by false true said =
          let tells : IsSubmission (Schedule other queue delay) (replies.Sub (submission_in s (Some who.number) other (Some queue)))
          item answer = subst (λ (r : WorkReply). IsSubmission (Schedule other queue delay) r item answer) (sym said) told in
          subst (λ i. Submits s (record (u false true) { entries = s.entries + 1 }) who (Schedule other queue delay) i
          answer) tells.0 (
            Some queue,
            refl,
            at-once s (record (u false true) { entries = s.entries + 1 }) (Some who.number) other
                (Some queue) answer tells.1 refl,
          )
      by false false said = absurd (subst (λ (r : WorkReply). IsSubmission (Schedule other queue delay) r item answer) (sym said) told)
submits s who (Reschedule other queue delay) reply item answer one is told =
    by (eqb delay 0) (same_Some (delay_reply_in s who other queue delay) reply is) where
      t : State
      t = record s { arms = disarm s.arms other }

      u : Bool → State
      u d = cond d (record t {
        admissions = submit t.admissions other (submission_in t (Some who.number) other (Some queue));
      }) (record t { arms = arm t.arms other queue (t.time + delay) })

      by : (d : Bool) → cond d (replies.Sub (submission_in s (Some who.number) other (Some queue))) replies.Armed ≡ reply →
          Submits s (record (u d) { entries = s.entries + 1 }) who (Reschedule other queue delay) item answer
      by true said =
          let tells : IsSubmission (Reschedule other queue delay) (replies.Sub (submission_in s (Some who.number) other (Some queue)))
          item answer = subst (λ (r : WorkReply). IsSubmission (Reschedule other queue delay) r item answer) (sym said) told in
          subst (λ i. Submits s (record (u true) { entries = s.entries + 1 }) who (Reschedule other queue delay) i answer)
          tells.0 (
            Some queue,
            refl,
            at-once s (record (u true) { entries = s.entries + 1 }) (Some who.number) other
                (Some queue) answer tells.1 refl,
          )
      by false said = absurd (subst (λ (r : WorkReply). IsSubmission (Reschedule other queue delay) r item answer) (sym said) told)
submits s who (Remaining other) reply item answer one is told = absurd told
submits s who (Start queue) reply item answer one is told = absurd told
submits s who (DrainStart queue plug) reply item answer one is told = absurd told
submits s who (DrainDone place) reply item answer one is told = absurd told
submits s who (Unplug queue) reply item answer one is told = absurd told
submits s who (Stop queue) reply item answer one is told = absurd told
submits s who (Announce ticks) reply item answer one is told = submits-announce s who ticks reply item answer one is told
submits s who (Begin queue) reply item answer one is told = absurd told
submits s who (End queue) reply item answer one is told = absurd told

pub answered_is_made : OfEach AnsweredIsMade
answered_is_made = at_each_in OneIsLive one_live_arm _ (λ s e one is item answer told.
    let it = submits s e.who e.op e.reply item answer one is told in
    so-one s (work_next s e.who e.op) it.2.ys (submitter e.who e.op) it.0 item answer it.2.is it.2.same it.2.long it.2.stays)

-- an item that waits isn't being cancelled
abbrev NoneWaitsCancelled : State → Type 0
NoneWaitsCancelled s = (item : ℕ) → is_some (waiting s.admissions item) ≡ true → is_cancelling s.admissions s.marks item ≡ false

none-waits-cancelled : (start : State) (h : WorkHistory) → IsFreshHistory start h →
    NoneWaitsCancelled (state_after work_machine start h)
none-waits-cancelled start h fresh item waits = by (is_cancelling t.admissions t.marks item) refl where
  t : State
  t = state_after work_machine start h

  there : (n : ℕ) × (waiting t.admissions item ≡ Some n)
  there = some (waiting t.admissions item) refl waits where
    some : (o : Option ℕ) → waiting t.admissions item ≡ o → is_some o ≡ true → (n : ℕ) × (waiting t.admissions item ≡ Some n)
    some None at is = absurd (cc)
    some (Some n) at is = (n, at)

  none : is_cancelling t.admissions t.marks item ≡ true → NoneWaits item t.admissions
  none is =
      let it = cancelling-is start h item fresh is in
      let s = state_after work_machine start it.before in
      let c = work_next s it.cancel.who it.cancel.op in
      let same : t ≡ state_after work_machine c it.since =
      ap (state_after work_machine start) it.parts ∙ state_after-append work_machine start it.before (it.cancel ∷ it.since) in
      subst (λ (u : State). NoneWaits item u.admissions) (sym same)
      (During-after c it.since item it.run (ap (λ (u : State). life_at u it.run) (sym same) ∙ it.runs)
      (During-entry s it.cancel.who it.cancel.op item it.run it.cancels it.found)).none

  by : (b : Bool) → is_cancelling t.admissions t.marks item ≡ b → b ≡ false
  by false is = refl
  by true is =
      let a = position-at (waits_as item) t.admissions there.0 there.1 in
      let item_is = eqb-true a.0.item item (first_so (eqb a.0.item item) (is_waiting a.0.life) a.2) in
      absurd (false≢true (sym (none is there.0 a.0 a.1 item_is)
      ∙ second_so (eqb a.0.item item) (is_waiting a.0.life) a.2))

pub already_where_it_waits : OfEach AlreadyWhereItWaits
already_where_it_waits =
    at_each_in (λ s. OneIsLive s × NoneWaitsCancelled s)
    (λ start h fresh. (one_live_arm start h fresh, none-waits-cancelled start h fresh)) _
    (λ s e holds is item answer told waits.
    let it = submits s e.who e.op e.reply item answer holds.0 is told in
    let i = item_of it.2.ys s.marks item in
    let at = submission_at i s.queues (submitter e.who e.op) (target i it.0) in
    sym it.2.is ∙ ap (λ b. cond b (Refused errnos.Busy) (cond i.queued Already at)) (it.2.same.0 ∙ holds.1 item waits)
    ∙ ap (λ b. cond b Already at) (it.2.same.1 ∙ waits))

-- the queue that an entry names for an item is one
same-arm : (s : State) (item queue other : ℕ) → OneIsLive s → IsArmedFor s item queue → IsArmedFor s item other → queue ≡ other
same-arm s item queue other one here there =
    let place = one here.0 there.0 here.1 there.1 here.2 there.2 (here.3 ∙ sym there.3) here.4 there.4 in
    let same = same_Some here.1 there.1 (sym here.2 ∙ ap (slice_get s.arms) place ∙ there.2) in
    sym here.5 ∙ ap (λ (a : Arm). a.queue) same ∙ there.5

pub named-once : (s : State) (op : WorkOp) (item : ℕ) (named other : Option ℕ) → OneIsLive s → Named s op item named →
    Named s op item other → named ≡ other
named-once s (Submit i queue) item named other one here there = here ∙ sym there
named-once s (Cancel i) item named other one here there = absurd here
named-once s (CancelStart i) item named other one here there = absurd here
named-once s (CancelDone place) item named other one here there = absurd here
named-once s (FlushStart i) item named other one here there = here.1
    ∙ ap Some (same-arm s item here.0 there.0 one here.2 there.2) ∙ sym there.1
named-once s (FlushDone place) item named other one here there = absurd here
named-once s (Schedule i queue delay) item named other one here there = here ∙ sym there
named-once s (Reschedule i queue delay) item named other one here there = here ∙ sym there
named-once s (Remaining i) item named other one here there = absurd here
named-once s (Start queue) item named other one here there = absurd here
named-once s (DrainStart queue plug) item named other one here there = absurd here
named-once s (DrainDone place) item named other one here there = absurd here
named-once s (Unplug queue) item named other one here there = absurd here
named-once s (Stop queue) item named other one here there = absurd here
named-once s (Announce ticks) item named other one here there = here.1
    ∙ ap Some (same-arm s item here.0 there.0 one here.2 there.2) ∙ sym there.1
named-once s (Begin queue) item named other one here there = absurd here
named-once s (End queue) item named other one here there = absurd here

-- why it is refused
cause-one : (start : State) (front : WorkHistory) (ys : List Admission) (caller named : Option ℕ) (item : ℕ)
    (cause : Errno) → IsFreshHistory start front →
    let s = state_after work_machine start front in
    Same (item_of ys s.marks item) (item_of s.admissions s.marks item) named →
    Says (item_of ys s.marks item) s.queues caller named (Refused cause) → IsCause start front s caller item named cause
cause-one start front ys caller named item cause fresh same so = by cause so where
  s : State
  s = state_after work_machine start front

  free : (item_of ys s.marks item).cancelling ≡ false → IsBeingCancelled start front item → ⊥
  free is cancelled = false≢true (sym is ∙ same.0 ∙ is-cancelling start front item fresh cancelled)

  by : (cause : Errno) → Says (item_of ys s.marks item) s.queues caller named (Refused cause) →
      IsCause start front s caller item named cause
  by errnos.Busy (inl is) = inl (cancelling-is start front item fresh (sym same.0 ∙ is))
  by errnos.Busy (inr it) = inr (it.0, it.1, sym same.3 ∙ it.2.0, it.2.1, it.3, it.4)
  by errnos.NoDev so = (free so.0, (so.1, so.2, sym same.3 ∙ so.3.0, so.3.1, so.4))
  by errnos.Inval so = (free so.0, λ queue q to at. so.1 queue q (same.3 ∙ to, at))
  by cause so = absurd so

pub refused_with_cause : OfEach RefusedWithCause
refused_with_cause start h fresh front rest e item named cause parts told names =
    let s = state_after work_machine start front in
    let before = fresh-front start h front (e ∷ rest) fresh parts in
    let one = one_live_arm start front before in
    let it = submits s e.who e.op e.reply item (Refused cause) one (entry-replied start h front rest e fresh parts) told in
    let same_named = named-once s e.op item it.0 named one it.1 names in
    let caller = submitter e.who e.op in
    let so = subst (Says (item_of it.2.ys s.marks item) s.queues caller it.0) it.2.is
    (says (item_of it.2.ys s.marks item) s.queues caller it.0) in
    subst (λ (n : Option ℕ). IsCause start front s caller item n cause) same_named
    (cause-one start front it.2.ys caller it.0 item cause before it.2.same so)
