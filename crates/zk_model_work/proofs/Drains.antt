-- What a draining and a plug keep from being admitted, and where a draining ends.
use Rattle.std.proofs.Common.{◌≡◌, ℕ, zero, suc, ◌+◌, ◌<◌, ◌≢◌, ◌⊎◌, inl, inr, Bool, true, false, not, ◌&&◌, cond, eqb, Option, Some, None, is_some, option_map, option_to_list, List, [], ◌∷◌, ◌++◌, map, get_or, slice_get, All, refl, sym, ap, subst, ◌∙◌, add-zero, arith}
use Rattle.std.specs.Cmp.{first_so, second_so}
use Rattle.std.specs.List.{list_all}
use Rattle.std.specs.Option.{option_map_or}
use Rattle.std.proofs.lemmas.Bool.{eqb-true, false≢true}
use Rattle.std.proofs.lemmas.List.Elements.{All-nil, All-cons}
use Rattle.std.proofs.lemmas.List.Folds.{list_all-append}
use Rattle.std.proofs.lemmas.Option.{same_Some, slice_get_within, get_or_from_slice_get}
use Rattle.zk_base.specs.declared.ids.Who.{Who}
use Rattle.zk_base.specs.declared.ids.Entry.{Entry}
use Rattle.zk_base.specs.declared.errors.Errno.{Errno}
use Rattle.zk_base.specs.declared.errors.Errno.TheVariants.{Busy, Inval, NoDev}
use Rattle.zk_base.specs.Legal.{state_after}
use Rattle.zk_base.proofs.Histories.{state_after-append}
use Rattle.zk_model_work.specs.declared.parts.Life.{Life}
use Rattle.zk_model_work.specs.declared.parts.Life.TheVariants.{Waiting, Running, Ended, Dropped}
use Rattle.zk_model_work.specs.declared.parts.Admission.{Admission}
use Rattle.zk_model_work.specs.declared.parts.Arm.{Arm}
use Rattle.zk_model_work.specs.declared.parts.Queue.{Queue}
use Rattle.zk_model_work.specs.declared.parts.Change.{Change}
use Rattle.zk_model_work.specs.declared.parts.Change.TheVariants as changes
use Rattle.zk_model_work.specs.declared.ops.WorkOp.{WorkOp}
use Rattle.zk_model_work.specs.declared.ops.WorkOp.TheVariants.{Submit, Cancel, CancelStart, CancelDone, FlushStart, FlushDone, Schedule, Reschedule, Remaining, Start, DrainStart, DrainDone, Unplug, Stop, Announce, Begin, End}
use Rattle.zk_model_work.specs.declared.ops.Submitted.{Submitted}
use Rattle.zk_model_work.specs.declared.ops.Submitted.TheVariants.{Already, Refused}
use Rattle.zk_model_work.specs.declared.ops.WorkReply.{WorkReply}
use Rattle.zk_model_work.specs.Lists.{first}
use Rattle.zk_model_work.specs.Questions.{is_waiting, is_open, waits_as, runs_on, is_open_at, is_empty_and_idle, is_cancelling, waiting, line, live_arm, due, item_of}
use Rattle.zk_model_work.specs.State.{State, fresh_queue, fresh_queues}
use Rattle.zk_model_work.specs.Machine.{submit, submit_arms, disarm, with_life, set_life, begin, end_one, end_run, drop_one, drop_waiting, settle_one, settle_from, settle, changed_queue, change, change_where, drain, work_next, work_machine}
use Rattle.zk_model_work.specs.Answers.{is_chained, target, admission, refusal, submission_to, submission_at, submission, admitted_to, drained_of, is_plugged, closes}
use Rattle.zk_model_work.specs.declared.parts.Item.{Item}
use Rattle.zk_model_work.specs.Histories.{IsFreshHistory, OfEach, submitter, Makes, queue_after}
use Rattle.zk_model_work.specs.Laws.{DrainAdmitsItsOwn, PluggedAdmitsNone, DrainsUntilItRests, PluggedRests, StoppedRests, DrainEndsAtRest}
use Rattle.zk_model_work.proofs.Lives.{IsFirst-line}
use Rattle.zk_model_work.proofs.Moves.{Stays, submit_arms-keeps, schedule-keeps, delayed-keeps}
use Rattle.zk_model_work.proofs.Cancels.{made-next}
use Rattle.zk_model_work.proofs.Overlaps.{submission_to-admitted}

-- a queue that took a submission

-- there is such a queue, and nothing kept it from taking a submission of this caller
pub record Took (queues : List Queue) (caller : Option ℕ) (queue : ℕ) : Type 0 where
  pub taker : Queue
  pub there : slice_get queues queue ≡ Some taker
  pub free : refusal caller taker ≡ None

took_at : (i : Item) (queues : List Queue) (caller : Option ℕ) (o : Option ℕ) (queue : ℕ) →
    admitted_to (submission_at i queues caller o) ≡ Some queue → Took queues caller queue
took_at i queues caller None queue is = absurd (cc)
took_at i queues caller (Some number) queue is = by (slice_get queues number) refl is where
  by_refusal : (q : Queue) (r : Option Errno) → slice_get queues number ≡ Some q → refusal caller q ≡ r →
      admitted_to (option_map_or Refused r (admission i number)) ≡ Some queue → number ≡ queue → Took queues caller queue
  by_refusal q None there free is same = record { taker = q; there = ap (slice_get queues) (sym same) ∙ there; free = free }
  by_refusal q (Some cause) there free is same = absurd (cc)

  by : (o : Option Queue) → slice_get queues number ≡ o →
      admitted_to (option_map_or (submission_to i caller number) o (Refused Inval)) ≡ Some queue → Took queues caller queue
  by None there is = absurd (cc)
  by (Some q) there is = by_refusal q (refusal caller q) there refl is (submission_to-admitted i caller number q queue is)

took_if : (b : Bool) (x y : Submitted) (queue : ℕ) → admitted_to x ≡ None → admitted_to (cond b x y) ≡ Some queue →
    admitted_to y ≡ Some queue
took_if true x y queue none is = absurd (cc)
took_if false x y queue none is = is

took : (xs : List Admission) (marks : List ℕ) (queues : List Queue) (caller : Option ℕ) (item : ℕ) (named : Option ℕ)
    (queue : ℕ) → admitted_to (submission (item_of xs marks item) queues caller named) ≡ Some queue → Took queues caller queue
took xs marks queues caller item named queue is =
    let i = item_of xs marks item in
    let at = submission_at i queues caller (target i named) in
    let one = took_if (is_cancelling xs marks item) (Refused Busy) (cond (is_some (waiting xs item)) Already at) queue refl is in
    took_at i queues caller (target i named) queue (took_if (is_some (waiting xs item)) Already at queue refl one)

-- what took each admission that an entry makes
pub made-took : (start : State) (front : List (Entry WorkOp WorkReply)) (e : Entry WorkOp WorkReply) (number : ℕ)
    (a : Admission) →
    Makes (state_after work_machine start front) (state_after work_machine start (front ++ e ∷ [])) number a →
    Took (state_after work_machine start front).queues (submitter e.who e.op) a.queue
made-took start front e number a makes =
    let s = state_after work_machine start front in
    made-next (λ b. Took s.queues (submitter e.who e.op) b.queue) s e.who e.op
    (λ ys item named b stays item_is admits. took ys s.marks s.queues (submitter e.who e.op) item named b.queue admits)
    number a (sym (ap (λ (u : State). slice_get u.admissions number)
    (state_after-append work_machine start front (e ∷ []))) ∙ makes.1) makes.0

-- a queue that drains took it from its worker, and one that is plugged or isn't started took none
free-drains : (q : Queue) (caller : Option ℕ) → refusal caller q ≡ None → q.draining ≡ true → caller ≡ Some q.worker
free-drains q caller free drains =
    by q.started (is_chained q caller) refl
    (ap (λ d. cond (not q.started) (Some NoDev)
    (cond (d && not (is_chained q caller)) (Some Busy) (cond (q.plugged && not d) (Some Busy) None))) (sym drains)
    ∙ free) where
      chains : (o : Option ℕ) → is_chained q o ≡ true → o ≡ Some q.worker
      chains None is = absurd (cc)
      chains (Some player) is = ap Some (eqb-true player q.worker is)

      by : (started chained : Bool) → is_chained q caller ≡ chained →
          cond (not started) (Some NoDev) (cond (not chained) (Some Busy) (cond (q.plugged && false) (Some Busy) None))
          ≡ None → caller ≡ Some q.worker
      by true true is free = chains caller is
      by true false is free = absurd (cc)
      by false chained is free = absurd (cc)

free-plugged : (q : Queue) (caller : Option ℕ) → refusal caller q ≡ None → q.plugged ≡ true → q.draining ≡ false → ⊥
free-plugged q caller free plugged still =
    by q.started
    (ap (λ p. cond (not q.started) (Some NoDev)
    (cond (false && not (is_chained q caller)) (Some Busy) (cond (p && true) (Some Busy) None))) (sym plugged)
    ∙ ap (λ d. cond (not q.started) (Some NoDev)
    (cond (d && not (is_chained q caller)) (Some Busy) (cond (q.plugged && not d) (Some Busy) None))) (sym still)
    ∙ free) where
      by : (started : Bool) → cond (not started) (Some NoDev) (Some Busy) ≡ None → ⊥
      by true free = cc
      by false free = cc

free-stopped : (q : Queue) (caller : Option ℕ) → refusal caller q ≡ None → q.started ≡ false → ⊥
free-stopped q caller free off =
    refused
    (ap (λ b. cond (not b) (Some NoDev) (cond (q.draining && not (is_chained q caller)) (Some Busy)
    (cond (q.plugged && not q.draining) (Some Busy) None))) (sym off) ∙ free) where
      refused : Some NoDev ≡ None → ⊥
      refused is = cc

-- the queue that took it is the one that is there
taken_by : (start : State) (front : List (Entry WorkOp WorkReply)) (e : Entry WorkOp WorkReply) (queue number : ℕ)
    (q : Queue) (a : Admission) → queue_after start front queue ≡ Some q →
    Makes (state_after work_machine start front) (state_after work_machine start (front ++ e ∷ [])) number a → a.queue ≡ queue →
    refusal (submitter e.who e.op) q ≡ None
taken_by start front e queue number q a there makes same =
    let it = made-took start front e number a makes in
    let q_is = same_Some it.taker q (sym it.there ∙ ap (queue_after start front) same ∙ there) in
    ap (refusal (submitter e.who e.op)) (sym q_is) ∙ it.free

pub drain_admits_its_own : OfEach DrainAdmitsItsOwn
drain_admits_its_own start h fresh = record {
  each = λ front rest e parts queue number q a there drains makes same.
      free-drains q (submitter e.who e.op) (taken_by start front e queue number q a there makes same) drains;
}

pub plugged_admits_none : OfEach PluggedAdmitsNone
plugged_admits_none start h fresh = record {
  each = λ front rest e parts queue number q a there plugged still makes same.
      free-plugged q (submitter e.who e.op) (taken_by start front e queue number q a there makes same) plugged still;
}

-- the queues after a settling and after a change, one by one

pub settled-at : (idle : ℕ → Bool) (n : ℕ) (qs : List Queue) (k : ℕ) →
    slice_get (settle_from idle n qs) k ≡ option_map (settle_one idle (n + k)) (slice_get qs k)
settled-at idle n [] k = refl
settled-at idle n (q ∷ qs) zero = ap (λ m. Some (settle_one idle m q)) (sym (add-zero n))
settled-at idle n (q ∷ qs) (suc k) =
    let next : (n + 1) + k ≡ n + suc k = omega arith in
    settled-at idle (n + 1) qs k ∙ ap (λ m. option_map (settle_one idle m) (slice_get qs k)) next

-- a queue that was changed, or another one
record Changed (c : Change) (qs : List Queue) (k m : ℕ) (new : Queue) : Type 0 where
  pub old : Queue
  pub there : slice_get qs m ≡ Some old
  pub is : ((m ≡ k) × (changed_queue c old ≡ new)) ⊎ ((m ≢ k) × (old ≡ new))

changed-at : (c : Change) (qs : List Queue) (k m : ℕ) (new : Queue) → slice_get (change c qs k) m ≡ Some new →
    Changed c qs k m new
changed-at c [] k m new at = absurd (cc)
changed-at c (q ∷ qs) zero zero new at = record { old = q; there = refl; is = inl (refl, same_Some (changed_queue c q) new at) }
changed-at c (q ∷ qs) zero (suc m) new at = record { old = new; there = at; is = inr (λ same. absurd (omega arith), refl) }
changed-at c (q ∷ qs) (suc k) zero new at =
    record { old = q; there = refl; is = inr (λ same. absurd (omega arith), same_Some q new at) }
changed-at c (q ∷ qs) (suc k) (suc m) new at = by (changed-at c qs k m new at) where
  by : Changed c qs k m new → Changed c (q ∷ qs) (suc k) (suc m) new
  by it = record { old = it.old; there = it.there; is = up it.is } where
    up : ((m ≡ k) × (changed_queue c it.old ≡ new)) ⊎ ((m ≢ k) × (it.old ≡ new)) →
        ((suc m ≡ suc k) × (changed_queue c it.old ≡ new)) ⊎ ((suc m ≢ suc k) × (it.old ≡ new))
    up (inl same) = inl (ap suc same.0, same.1)
    up (inr other) = inr (λ same. other.0 (omega arith), other.1)

-- what a change of the admissions makes of a queue that is empty and idle

rests-map : (f : Admission → Admission) (xs : List Admission) (queue : ℕ) →
    ((a : Admission) → is_open_at queue (f a) ≡ true → is_open_at queue a ≡ true) →
    is_empty_and_idle xs queue ≡ true → is_empty_and_idle (map f xs) queue ≡ true
rests-map f [] queue closes rests = refl
rests-map f (x ∷ xs) queue closes rests =
    let here = first_so (not (is_open_at queue x)) (list_all (λ (a : Admission). not (is_open_at queue a)) xs) rests in
    let behind = rests-map f xs queue closes
    (second_so (not (is_open_at queue x)) (list_all (λ (a : Admission). not (is_open_at queue a)) xs) rests) in
    both (not (is_open_at queue (f x))) (list_all (λ (a : Admission). not (is_open_at queue a)) (map f xs))
    (still (is_open_at queue (f x)) (is_open_at queue x) (closes x) here) behind where
      both : (b c : Bool) → b ≡ true → c ≡ true → (b && c) ≡ true
      both true c is there = there
      both false c is there = absurd (cc)

      still : (b c : Bool) → (b ≡ true → c ≡ true) → not c ≡ true → not b ≡ true
      still true c so closed = absurd (false≢true (ap not (sym (so refl)) ∙ closed))
      still false c so closed = refl

over-cond : (b : Bool) (queue : ℕ) (a : Admission) (life : Life) → is_open life ≡ false →
    is_open_at queue (cond b (with_life life a) a) ≡ true → is_open_at queue a ≡ true
over-cond true queue a life over opens = absurd (false≢true (sym over ∙ second_so (eqb a.queue queue) (is_open life) opens))
over-cond false queue a life over opens = opens

rests-drop : (xs : List Admission) (item queue : ℕ) → is_empty_and_idle xs queue ≡ true →
    is_empty_and_idle (drop_waiting xs item) queue ≡ true
rests-drop xs item queue rests = rests-map (drop_one item) xs queue (λ a. over-cond (waits_as item a) queue a Dropped refl) rests

rests-end : (xs : List Admission) (ended queue : ℕ) → is_empty_and_idle xs queue ≡ true →
    is_empty_and_idle (end_run xs ended) queue ≡ true
rests-end xs ended queue rests = rests-map (end_one ended) xs queue (λ a. over-cond (runs_on ended a) queue a Ended refl) rests

-- a begin opens and closes nothing
rests-set_life : (xs : List Admission) (m queue : ℕ) (a : Admission) → slice_get xs m ≡ Some a → is_open a.life ≡ true →
    is_empty_and_idle (set_life xs m Running) queue ≡ is_empty_and_idle xs queue
rests-set_life [] m queue a at opens = absurd (cc)
rests-set_life (x ∷ xs) zero queue a at opens =
    let same : is_open x.life ≡ true = ap (λ (b : Admission). is_open b.life) (same_Some x a at) ∙ opens in
    ap (λ b. not (eqb x.queue queue && b) && list_all (λ (a : Admission). not (is_open_at queue a)) xs) (sym same)
rests-set_life (x ∷ xs) (suc m) queue a at opens = ap (λ b. not (is_open_at queue x) && b) (rests-set_life xs m queue a at opens)

opens-waiting : (life : Life) → is_waiting life ≡ true → is_open life ≡ true
opens-waiting Waiting w = refl
opens-waiting Running w = absurd (cc)
opens-waiting Ended w = absurd (cc)
opens-waiting Dropped w = absurd (cc)

rests-begin : (xs : List Admission) (begun queue : ℕ) → is_empty_and_idle (begin xs begun) queue ≡ is_empty_and_idle xs queue
rests-begin xs begun queue = by (first (line xs begun)) refl where
  at : (m : ℕ) (o : Option Admission) → slice_get xs m ≡ o → first (line xs begun) ≡ Some m →
      is_empty_and_idle (set_life xs m Running) queue ≡ is_empty_and_idle xs queue
  at m None there is = let it = IsFirst-line xs begun m is in let within = it.within in
      absurd (nothing (Rattle.std.proofs.lemmas.Option.slice_get-get_or xs m none within)) where
        none : Admission
        none = record { item = 0; queue = 0; life = Waiting }

        nothing : slice_get xs m ≡ Some (get_or xs m none) → ⊥
        nothing some = cc
  at m (Some a) there is =
      rests-set_life xs m queue a there
      (opens-waiting a.life (second_so (eqb a.queue begun) (is_waiting a.life) ((IsFirst-line xs begun m is).waits a there)))

  by : (o : Option ℕ) → first (line xs begun) ≡ o →
      is_empty_and_idle (option_map_or (λ number. set_life xs number Running) o xs) queue ≡ is_empty_and_idle xs queue
  by None is = refl
  by (Some m) is = at m (slice_get xs m) refl is

-- an admission more
rests-push : (xs : List Admission) (a : Admission) (queue : ℕ) →
    is_empty_and_idle (xs ++ a ∷ []) queue ≡ (is_empty_and_idle xs queue && (not (is_open_at queue a) && true))
rests-push xs a queue = list_all-append (λ (b : Admission). not (is_open_at queue b)) xs (a ∷ [])

-- what holds of each queue in every state

-- it drains only where something of it waits or runs; it is plugged without draining, or isn't started, only where nothing does
pub record Keeps (xs : List Admission) (queue : ℕ) (q : Queue) : Type 0 where
  pub until : q.draining ≡ true → is_empty_and_idle xs queue ≡ false
  pub rests : q.plugged ≡ true → q.draining ≡ false → is_empty_and_idle xs queue ≡ true
  pub stopped : q.started ≡ false → is_empty_and_idle xs queue ≡ true

abbrev pub AllKeep : State → Type 0
AllKeep s = (queue : ℕ) (q : Queue) → slice_get s.queues queue ≡ Some q → Keeps s.admissions queue q

-- after a settling
keeps-settled : (xs ys : List Admission) (queue : ℕ) (q : Queue) →
    (is_empty_and_idle xs queue ≡ true → is_empty_and_idle ys queue ≡ true) → Keeps xs queue q →
    Keeps ys queue (settle_one (is_empty_and_idle ys) queue q)
keeps-settled xs ys queue q closes keeps = by q.draining (is_empty_and_idle ys queue) refl refl where
  after : Bool → Queue
  after b = cond b (record q { draining = false; drained = q.drained + 1 }) q

  by : (d r : Bool) → q.draining ≡ d → is_empty_and_idle ys queue ≡ r →
      Keeps ys queue (cond (d && r) (record q { draining = false; drained = q.drained + 1 }) q)
  by true true drains rests = record {
    until = λ none. absurd (false≢true none);
    rests = λ plugged still. rests;
    stopped = λ off. rests;
  }
  by true false drains rests = record {
    until = λ some. rests;
    rests = λ plugged still. absurd (false≢true (sym still ∙ drains));
    stopped = λ off. closes (keeps.stopped off);
  }
  by false r drains rests = record {
    until = λ some. absurd (false≢true (sym drains ∙ some));
    rests = λ plugged still. closes (keeps.rests plugged still);
    stopped = λ off. closes (keeps.stopped off);
  }

keeps-settle : (s : State) (ys : List Admission) →
    ((queue : ℕ) → is_empty_and_idle s.admissions queue ≡ true → is_empty_and_idle ys queue ≡ true) → AllKeep s →
    (queue : ℕ) (q : Queue) → slice_get (settle ys s.queues) queue ≡ Some q → Keeps ys queue q
keeps-settle s ys closes keep queue q at =
    by (slice_get s.queues queue) refl (sym (settled-at (is_empty_and_idle ys) 0 s.queues queue) ∙ at) where
      by : (o : Option Queue) → slice_get s.queues queue ≡ o →
          option_map (settle_one (is_empty_and_idle ys) (0 + queue)) o ≡ Some q → Keeps ys queue q
      by None there is = absurd (cc)
      by (Some old) there is =
          let number : 0 + queue ≡ queue = omega arith in
          let same : settle_one (is_empty_and_idle ys) queue old ≡ q =
          ap (λ n. settle_one (is_empty_and_idle ys) n old) (sym number)
          ∙ same_Some (settle_one (is_empty_and_idle ys) (0 + queue) old) q is in
          subst (Keeps ys queue) same (keeps-settled s.admissions ys queue old (closes queue) (keep queue old there))

-- after a change that starts or unplugs a queue
calm : (c : Change) (xs : List Admission) (queue : ℕ) (q : Queue) → (changed_queue c q).draining ≡ q.draining →
    ((changed_queue c q).plugged ≡ true → q.plugged ≡ true) → ((changed_queue c q).started ≡ false → q.started ≡ false) →
    Keeps xs queue q → Keeps xs queue (changed_queue c q)
calm c xs queue q drains plugs starts keeps = record {
  until = λ some. keeps.until (sym drains ∙ some);
  rests = λ plugged still. keeps.rests (plugs plugged) (sym drains ∙ still);
  stopped = λ off. keeps.stopped (starts off);
}

keeps-change : (c : Change) (xs : List Admission) (qs : List Queue) (k : ℕ) →
    ((q : Queue) → Keeps xs k q → Keeps xs k (changed_queue c q)) →
    ((queue : ℕ) (q : Queue) → slice_get qs queue ≡ Some q → Keeps xs queue q) →
    (queue : ℕ) (q : Queue) → slice_get (change c qs k) queue ≡ Some q → Keeps xs queue q
keeps-change c xs qs k each keep queue q at = by (changed-at c qs k queue q at) where
  by : Changed c qs k queue q → Keeps xs queue q
  by it = which it.is where
    which : ((queue ≡ k) × (changed_queue c it.old ≡ q)) ⊎ ((queue ≢ k) × (it.old ≡ q)) → Keeps xs queue q
    which (inl same) =
        subst (Keeps xs queue) same.1
        (subst (λ n. Keeps xs n (changed_queue c it.old)) (sym same.0)
        (each it.old (subst (λ n. Keeps xs n it.old) same.0 (keep queue it.old it.there))))
    which (inr other) = subst (Keeps xs queue) other.1 (keep queue it.old it.there)

keeps-where : (asked : Bool) (c : Change) (xs : List Admission) (qs : List Queue) (k : ℕ) →
    (asked ≡ true → (q : Queue) → Keeps xs k q → Keeps xs k (changed_queue c q)) →
    ((queue : ℕ) (q : Queue) → slice_get qs queue ≡ Some q → Keeps xs queue q) →
    (queue : ℕ) (q : Queue) → slice_get (change_where asked c qs k) queue ≡ Some q → Keeps xs queue q
keeps-where true c xs qs k each keep queue q at = keeps-change c xs qs k (each refl) keep queue q at
keeps-where false c xs qs k each keep queue q at = keep queue q at

-- a plug leaves whether a queue is started
unplugged-at : (asked : Bool) (qs : List Queue) (k queue : ℕ) (q : Queue) →
    slice_get (change_where asked changes.Plug qs k) queue ≡ Some q →
    (old : Queue) × (slice_get qs queue ≡ Some old) × (old.started ≡ q.started)
unplugged-at true qs k queue q at = by (changed-at changes.Plug qs k queue q at) where
  by : Changed changes.Plug qs k queue q → (old : Queue) × (slice_get qs queue ≡ Some old) × (old.started ≡ q.started)
  by it = (it.old, it.there, which it.is) where
    which : ((queue ≡ k) × (changed_queue changes.Plug it.old ≡ q)) ⊎ ((queue ≢ k) × (it.old ≡ q)) →
        it.old.started ≡ q.started
    which (inl same) = ap (λ (p : Queue). p.started) same.1
    which (inr same) = ap (λ (p : Queue). p.started) same.1
unplugged-at false qs k queue q at = (q, at, refl)

-- after the start of a drain
keeps-drain : (idle plug : Bool) (xs : List Admission) (qs : List Queue) (k : ℕ) → is_empty_and_idle xs k ≡ idle →
    ((queue : ℕ) (q : Queue) → slice_get qs queue ≡ Some q → Keeps xs queue q) →
    (queue : ℕ) (q : Queue) → slice_get (drain idle plug qs k) queue ≡ Some q → Keeps xs queue q
keeps-drain true plug xs qs k idle keep queue q at =
    keeps-where plug changes.Plug xs qs k (λ asked (q : Queue) keeps. record {
      until = λ some. keeps.until some;
      rests = λ plugged still. idle;
      stopped = λ off. idle;
    }) keep queue q at
keeps-drain false plug xs qs k busy keep queue q at =
    by (changed-at changes.Drain (change_where plug changes.Plug qs k) k queue q at) where
      other : (asked : Bool) → queue ≢ k → slice_get (change_where asked changes.Plug qs k) queue ≡ Some q → Keeps xs queue q
      other true differ there = which (changed-at changes.Plug qs k queue q there) where
        which : Changed changes.Plug qs k queue q → Keeps xs queue q
        which it = here it.is where
          here : ((queue ≡ k) × (changed_queue changes.Plug it.old ≡ q)) ⊎ ((queue ≢ k) × (it.old ≡ q)) → Keeps xs queue q
          here (inl same) = absurd (differ same.0)
          here (inr same) = subst (Keeps xs queue) same.1 (keep queue it.old it.there)
      other false differ there = keep queue q there

      by : Changed changes.Drain (change_where plug changes.Plug qs k) k queue q → Keeps xs queue q
      by it = which it.is where
        which : ((queue ≡ k) × (changed_queue changes.Drain it.old ≡ q)) ⊎ ((queue ≢ k) × (it.old ≡ q)) → Keeps xs queue q
        which (inl same) =
            subst (λ n. Keeps xs n q) (sym same.0)
            (record {
              until = λ some. busy;
              rests = λ plugged still. absurd (false≢true (sym still ∙ ap (λ (q : Queue). q.draining) (sym same.1)));
              stopped = λ off. rest (unplugged-at plug qs k queue it.old it.there) off;
            }) where
              rest : (old : Queue) × (slice_get qs queue ≡ Some old) × (old.started ≡ it.old.started) → q.started ≡ false →
                  is_empty_and_idle xs k ≡ true
              rest was off = subst (λ n. is_empty_and_idle xs n ≡ true) same.0
                  ((keep queue was.0 was.1).stopped (was.2 ∙ ap (λ (q : Queue). q.started) same.1 ∙ off))
        which (inr same) = other plug same.0 (it.there ∙ ap Some same.1)

-- after a submission
abbrev KeepAll : List Queue → List Admission → Type 0
KeepAll qs xs = (queue : ℕ) (q : Queue) → slice_get qs queue ≡ Some q → Keeps xs queue q

keeps-submit : (qs : List Queue) (caller : Option ℕ) (xs : List Admission) (item : ℕ) (answer : Submitted) →
    ((queue : ℕ) → admitted_to answer ≡ Some queue → Took qs caller queue) → KeepAll qs xs → KeepAll qs (submit xs item answer)
keeps-submit qs caller xs item answer taken keep queue q at = by (admitted_to answer) refl where
  by : (o : Option ℕ) → admitted_to answer ≡ o →
      Keeps (option_map_or (λ to. xs ++ record { item = item; queue = to; life = Waiting } ∷ []) o xs) queue q
  by None is = keep queue q at
  by (Some to) is =
      let a : Admission = record { item = item; queue = to; life = Waiting } in
      let keeps = keep queue q at in
      record {
        until = λ some. rests-push xs a queue ∙ ap (λ b. b && (not (is_open_at queue a) && true)) (keeps.until some);
        rests = λ plugged still. rests-push xs a queue
            ∙ ap (λ b. b && (not (is_open_at queue a) && true)) (keeps.rests plugged still)
            ∙ elsewhere (λ free. free-plugged q caller free plugged still) (eqb to queue) refl;
        stopped = λ off. rests-push xs a queue
            ∙ ap (λ b. b && (not (is_open_at queue a) && true)) (keeps.stopped off)
            ∙ elsewhere (λ free. free-stopped q caller free off) (eqb to queue) refl;
      } where
        elsewhere : (refusal caller q ≡ None → ⊥) → (b : Bool) → eqb to queue ≡ b → (not (b && true) && true) ≡ true
        elsewhere never true same =
            let it = taken to is in
            let there : slice_get qs queue ≡ Some it.taker = ap (slice_get qs) (sym (eqb-true to queue same)) ∙ it.there in
            let q_is = same_Some it.taker q (sym there ∙ at) in
            absurd (never (ap (refusal caller) (sym q_is) ∙ it.free))
        elsewhere never false same = refl

-- after submissions, one after another
keeps-submission : (s : State) (caller : Option ℕ) (ys : List Admission) (item : ℕ) (named : Option ℕ) →
    Stays s.admissions ys → KeepAll s.queues ys →
    KeepAll s.queues (submit ys item (submission (item_of ys s.marks item) s.queues caller named))
keeps-submission s caller ys item named stays keep =
    keeps-submit s.queues caller ys item (submission (item_of ys s.marks item) s.queues caller named)
    (λ queue is. took ys s.marks s.queues caller item named queue is) keep

keeps-arms : (s : State) (caller : Option ℕ) (arms : List Arm) → KeepAll s.queues s.admissions →
    KeepAll s.queues (submit_arms s.marks s.queues caller arms s.admissions)
keeps-arms s caller arms keep = submit_arms-keeps (KeepAll s.queues) s.admissions s.marks s.queues caller
    (keeps-submission s caller) arms s.admissions (λ n a at. at) keep

-- a stop of the queue is done, where it is started
abbrev pub may_stop : State → ℕ → Bool
may_stop s k = is_plugged s.queues k && is_empty_and_idle s.admissions k

pub AllKeep-next : (s : State) (who : Who) (op : WorkOp) → AllKeep s → AllKeep (work_next s who op)
AllKeep-next s who (Submit item named) keep = keeps-submission s (Some who.number) s.admissions item named (λ n a at. at) keep
AllKeep-next s who (Cancel item) keep =
    keeps-settle s (drop_waiting s.admissions item) (λ queue rests. rests-drop s.admissions item queue rests) keep
AllKeep-next s who (CancelStart item) keep =
    keeps-settle s (drop_waiting s.admissions item) (λ queue rests. rests-drop s.admissions item queue rests) keep
AllKeep-next s who (CancelDone place) keep = λ queue q at. keep queue q at
AllKeep-next s who (FlushStart item) keep = keeps-arms s (Some who.number) (option_to_list (live_arm s.arms item)) keep
AllKeep-next s who (FlushDone place) keep = λ queue q at. keep queue q at
AllKeep-next s who (Schedule item queue delay) keep =
    schedule-keeps (λ t. KeepAll t.queues t.admissions) s who item queue delay keep
    (keeps-submission s (Some who.number) s.admissions item (Some queue) (λ n a at. at) keep) (λ free later. keep)
AllKeep-next s who (Reschedule item queue delay) keep =
    delayed-keeps (λ t. KeepAll t.queues t.admissions) (record s { arms = disarm s.arms item }) who item queue delay
    (keeps-submission s (Some who.number) s.admissions item (Some queue) (λ n a at. at) keep) (λ later. keep)
AllKeep-next s who (Remaining item) keep = λ queue q at. keep queue q at
AllKeep-next s who (Start k) keep =
    keeps-change changes.Start s.admissions s.queues k
    (λ q keeps. calm changes.Start s.admissions k q refl (λ p. p) (λ off. absurd (false≢true (sym off))) keeps) keep
AllKeep-next s who (DrainStart k plug) keep = keeps-drain (is_empty_and_idle s.admissions k) plug s.admissions s.queues k
    refl keep
AllKeep-next s who (DrainDone place) keep = λ queue q at. keep queue q at
AllKeep-next s who (Unplug k) keep =
    keeps-change changes.Unplug s.admissions s.queues k
    (λ q keeps. calm changes.Unplug s.admissions k q refl (λ p. absurd (false≢true p)) (λ off. off) keeps) keep
AllKeep-next s who (Stop k) keep =
    keeps-where (may_stop s k) changes.Stop s.admissions s.queues k
    (λ may (q : Queue) keeps. record {
      until = λ some. keeps.until some;
      rests = λ plugged still. keeps.rests plugged still;
      stopped = λ off. second_so (is_plugged s.queues k) (is_empty_and_idle s.admissions k) may;
    }) keep
AllKeep-next s who (Announce ticks) keep = keeps-arms s None (due (s.time + ticks) s.arms) keep
AllKeep-next s who (Begin k) keep = λ queue q at.
    let keeps = keep queue q at in
    record {
      until = λ some. rests-begin s.admissions k queue ∙ keeps.until some;
      rests = λ plugged still. rests-begin s.admissions k queue ∙ keeps.rests plugged still;
      stopped = λ off. rests-begin s.admissions k queue ∙ keeps.stopped off;
    }
AllKeep-next s who (End k) keep =
    keeps-settle s (end_run s.admissions k) (λ queue rests. rests-end s.admissions k queue rests) keep

pub AllKeep-after : (s : State) (h : List (Entry WorkOp WorkReply)) → AllKeep s → AllKeep (state_after work_machine s h)
AllKeep-after s [] keep = keep
AllKeep-after s (e ∷ es) keep = AllKeep-after (work_next s e.who e.op) es (AllKeep-next s e.who e.op keep)

pub AllKeep-fresh : (start : State) (h : List (Entry WorkOp WorkReply)) → IsFreshHistory start h → AllKeep start
AllKeep-fresh start h fresh queue q at =
    let P : Queue → Type 0 = λ q. (q.draining ≡ false) × (q.plugged ≡ false) in
    let both : (q.draining ≡ false) × (q.plugged ≡ false) =
    subst P (get_or_from_slice_get start.queues queue q q at)
    (fresh.undrained queue q (slice_get_within start.queues queue q at)) in
    record {
      until = λ some. absurd (false≢true (sym both.0 ∙ some));
      rests = λ plugged still. absurd (false≢true (sym both.1 ∙ plugged));
      stopped = λ off. ap (λ xs. is_empty_and_idle xs queue) fresh.work.fresh;
    }

pub drains_until_it_rests : OfEach DrainsUntilItRests
drains_until_it_rests start h fresh queue q at drains =
    (AllKeep-after start h (AllKeep-fresh start h fresh) queue q at).until drains

pub plugged_rests : OfEach PluggedRests
plugged_rests start h fresh queue q at plugged still =
    (AllKeep-after start h (AllKeep-fresh start h fresh) queue q at).rests plugged still

pub stopped_rests : OfEach StoppedRests
stopped_rests start h fresh queue q at off = (AllKeep-after start h (AllKeep-fresh start h fresh) queue q at).stopped off

-- where a draining is counted

counted-settle : (qs : List Queue) (ys : List Admission) (queue : ℕ) →
    drained_of qs queue < drained_of (settle ys qs) queue → is_empty_and_idle ys queue ≡ true
counted-settle qs ys queue more =
    by (slice_get qs queue) refl
    (subst (λ (o : Option Queue). drained_of qs queue < option_map_or (λ (q : Queue). q.drained) o 0)
    (settled-at (is_empty_and_idle ys) 0 qs queue) more) where
      one : (q : Queue) (d r : Bool) → is_empty_and_idle ys (0 + queue) ≡ r →
          q.drained < (cond (d && r) (record q { draining = false; drained = q.drained + 1 }) q).drained →
          is_empty_and_idle ys queue ≡ true
      one q d true is more = let number : 0 + queue ≡ queue = omega arith in ap (is_empty_and_idle ys) (sym number) ∙ is
      one q true false is more = absurd (omega arith)
      one q false false is more = absurd (omega arith)

      by : (o : Option Queue) → slice_get qs queue ≡ o →
          drained_of qs queue < option_map_or (λ (q : Queue). q.drained)
          (option_map (settle_one (is_empty_and_idle ys) (0 + queue)) o) 0 → is_empty_and_idle ys queue ≡ true
      by None there more = absurd (omega arith)
      by (Some q) there more =
          let old : drained_of qs queue ≡ q.drained =
          ap (λ (o : Option Queue). option_map_or (λ (q : Queue). q.drained) o 0) there in
          one q q.draining (is_empty_and_idle ys (0 + queue)) refl
          (subst (λ n. n < (settle_one (is_empty_and_idle ys) (0 + queue) q).drained) old more)

-- no other change counts one
drained-changed : (c : Change) (q : Queue) → (changed_queue c q).drained ≡ q.drained
drained-changed changes.Start q = refl
drained-changed changes.Plug q = refl
drained-changed changes.Unplug q = refl
drained-changed changes.Stop q = refl
drained-changed changes.Drain q = refl

drained-change : (c : Change) (qs : List Queue) (k queue : ℕ) → drained_of (change c qs k) queue ≡ drained_of qs queue
drained-change c [] k queue = refl
drained-change c (q ∷ qs) zero zero = drained-changed c q
drained-change c (q ∷ qs) zero (suc queue) = refl
drained-change c (q ∷ qs) (suc k) zero = refl
drained-change c (q ∷ qs) (suc k) (suc queue) = drained-change c qs k queue

drained-where : (asked : Bool) (c : Change) (qs : List Queue) (k queue : ℕ) →
    drained_of (change_where asked c qs k) queue ≡ drained_of qs queue
drained-where true c qs k queue = drained-change c qs k queue
drained-where false c qs k queue = refl

drained-drain : (idle plug : Bool) (qs : List Queue) (k queue : ℕ) → drained_of (drain idle plug qs k) queue ≡ drained_of qs queue
drained-drain idle plug qs k queue = drained-where (not idle) changes.Drain (change_where plug changes.Plug qs k) k queue
    ∙ drained-where plug changes.Plug qs k queue

counted-next : (s : State) (who : Who) (op : WorkOp) (queue : ℕ) →
    drained_of s.queues queue < drained_of (work_next s who op).queues queue →
    is_empty_and_idle (work_next s who op).admissions queue ≡ true
counted-next s who (Submit item named) queue more = absurd (omega arith)
counted-next s who (Cancel item) queue more = counted-settle s.queues (drop_waiting s.admissions item) queue more
counted-next s who (CancelStart item) queue more = counted-settle s.queues (drop_waiting s.admissions item) queue more
counted-next s who (CancelDone place) queue more = absurd (omega arith)
counted-next s who (FlushStart item) queue more = absurd (omega arith)
counted-next s who (FlushDone place) queue more = absurd (omega arith)
counted-next s who (Schedule item k delay) queue more =
    let same = schedule-keeps (λ t. drained_of t.queues queue ≡ drained_of s.queues queue) s who item k delay refl refl
    (λ free later. refl) in
    absurd (omega arith)
counted-next s who (Reschedule item k delay) queue more =
    let same = delayed-keeps (λ t. drained_of t.queues queue ≡ drained_of s.queues queue)
    (record s { arms = disarm s.arms item }) who item k delay refl (λ later. refl) in
    absurd (omega arith)
counted-next s who (Remaining item) queue more = absurd (omega arith)
counted-next s who (Start k) queue more = let same = drained-change changes.Start s.queues k queue in absurd (omega arith)
counted-next s who (DrainStart k plug) queue more = let same =
    drained-drain (is_empty_and_idle s.admissions k) plug s.queues k queue in absurd (omega arith)
counted-next s who (DrainDone place) queue more = absurd (omega arith)
counted-next s who (Unplug k) queue more = let same = drained-change changes.Unplug s.queues k queue in absurd (omega arith)
counted-next s who (Stop k) queue more =
    let same = drained-where (may_stop s k) changes.Stop s.queues k queue in absurd (omega arith)
counted-next s who (Announce ticks) queue more = absurd (omega arith)
counted-next s who (Begin k) queue more = absurd (omega arith)
counted-next s who (End k) queue more = counted-settle s.queues (end_run s.admissions k) queue more

pub drain_ends_at_rest : OfEach DrainEndsAtRest
drain_ends_at_rest start h fresh = record {
  each = λ front rest e parts queue more.
      let s = state_after work_machine start front in
      let same = state_after-append work_machine start front (e ∷ []) in
      ap (λ (t : State). is_empty_and_idle t.admissions queue) same
      ∙ counted-next s e.who e.op queue (subst (λ (t : State). drained_of s.queues queue < drained_of t.queues queue) same more);
}

-- no queue drains or is plugged at first
pub undrained-fresh : (workers : List ℕ) (started : List Bool) →
    All (λ (q : Queue). (q.draining ≡ false) × (q.plugged ≡ false)) (fresh_queues workers started)
undrained-fresh [] started = All-nil (λ (q : Queue). (q.draining ≡ false) × (q.plugged ≡ false))
undrained-fresh (w ∷ ws) [] = All-nil (λ (q : Queue). (q.draining ≡ false) × (q.plugged ≡ false))
undrained-fresh (w ∷ ws) (on ∷ started) = All-cons (λ (q : Queue). (q.draining ≡ false) × (q.plugged ≡ false))
    (fresh_queue w on) (fresh_queues ws started) (refl, refl) (undrained-fresh ws started)
