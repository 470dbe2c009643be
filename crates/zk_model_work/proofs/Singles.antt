-- One at a time: what an item has, and what a queue runs.
use Rattle.std.proofs.Common.{◌≡◌, ℕ, ◌⊎◌, inl, inr, Bool, true, false, cond, eqb, Option, Some, None, option_map, List, [], ◌∷◌, ◌++◌, length, map, slice_get, refl, sym, ap, subst, ◌∙◌}
use Rattle.std.specs.Cmp.{first_so}
use Rattle.std.proofs.lemmas.Bool.{eqb-true, eq-eqb, false≢true, and_from}
use Rattle.std.proofs.lemmas.List.{append-nil}
use Rattle.std.proofs.lemmas.Option.{slice_get-map, same_Some}
use Rattle.zk_base.specs.declared.ids.Who.{Who}
use Rattle.zk_base.specs.declared.ids.Entry.{Entry}
use Rattle.zk_base.specs.Legal.{state_after, Replays}
use Rattle.zk_model_work.specs.declared.parts.Life.{Life}
use Rattle.zk_model_work.specs.declared.parts.Life.TheVariants.{Waiting, Running, Ended, Dropped}
use Rattle.zk_model_work.specs.declared.parts.Admission.{Admission}
use Rattle.zk_model_work.specs.declared.ops.WorkOp.{WorkOp}
use Rattle.zk_model_work.specs.declared.ops.WorkOp.TheVariants.{Begin}
use Rattle.zk_model_work.specs.declared.ops.WorkReply.{WorkReply}
use Rattle.zk_model_work.specs.declared.ops.Submitted.{Submitted}
use Rattle.zk_model_work.specs.declared.ops.Submitted.TheVariants.{Already, Fresh, Rerun, Refused}
use Rattle.zk_model_work.specs.Questions.{is_waiting, is_running, waits_as, runs_on, run, item_of}
use Rattle.zk_model_work.specs.State.{State}
use Rattle.zk_model_work.specs.Machine.{work_reply, work_next, work_machine, submit, set_life, with_life, begin, end_one, drop_one}
use Rattle.zk_model_work.specs.Answers.{submission}
use Rattle.zk_model_work.specs.Histories.{OfEach, submitter}
use Rattle.zk_model_work.specs.Laws.{OneWaitsOneRuns, OneRunsOnAQueue}
use Rattle.zk_model_work.proofs.Moves.{pushed, admissions-next}
use Rattle.zk_model_work.proofs.Lives.{IsFirst-line}
use Rattle.zk_model_work.proofs.Begins.{Begun-reply}
use Rattle.zk_model_work.proofs.Overlaps.{position-none, Ordered-history, Taken, taken, begin-is, idle-begin}
use Rattle.zk_model_work.proofs.Outcomes.{waits_is}

pub runs_is : (life : Life) → is_running life ≡ true → life ≡ Running
runs_is Waiting r = absurd (cc)
runs_is Running r = refl
runs_is Ended r = absurd (cc)
runs_is Dropped r = absurd (cc)

pub one_waits_one_runs : OfEach OneWaitsOneRuns
one_waits_one_runs start h fresh lower higher a b below at there same open_a open_b =
    let three = Ordered-history start h h [] fresh (sym (append-nil h)) lower higher a b below at there same open_a open_b in
    (runs_is a.life three.0, waits_is b.life three.1, three.2)

-- of what runs no two are on one queue
abbrev Single : List Admission → Type 0
Single xs = (m n : ℕ) (a b : Admission) → slice_get xs m ≡ Some a → slice_get xs n ≡ Some b → a.queue ≡ b.queue →
    is_running a.life ≡ true → is_running b.life ≡ true → m ≡ n

Single-nil : Single []
Single-nil m n a b at there = absurd (cc)

-- no more runs
Single-fewer : (xs ys : List Admission) → ((n : ℕ) (b : Admission) → slice_get ys n ≡ Some b → is_running b.life ≡ true →
    slice_get xs n ≡ Some b) → Single xs → Single ys
Single-fewer xs ys each single m n a b at there same run_a run_b =
    single m n a b (each m a at run_a) (each n b there run_b) same run_a run_b

-- what was admitted waits
running-push : (xs : List Admission) (item queue n : ℕ) (b : Admission) → is_running b.life ≡ true →
    slice_get (xs ++ record { item = item; queue = queue; life = Waiting } ∷ []) n ≡ Some b → slice_get xs n ≡ Some b
running-push xs item queue n b runs at = by (pushed xs new n b at) where
  new : Admission
  new = record { item = item; queue = queue; life = Waiting }

  by : (slice_get xs n ≡ Some b) ⊎ ((n ≡ length xs) × (new ≡ b)) → slice_get xs n ≡ Some b
  by (inl old) = old
  by (inr is) = absurd (false≢true (ap (λ (c : Admission). is_running c.life) is.1 ∙ runs))

running-submit : (xs : List Admission) (item : ℕ) (answer : Submitted) (n : ℕ) (b : Admission) →
    slice_get (submit xs item answer) n ≡ Some b → is_running b.life ≡ true → slice_get xs n ≡ Some b
running-submit xs item Already n b at runs = at
running-submit xs item (Fresh number queue) n b at runs = running-push xs item queue n b runs at
running-submit xs item (Rerun number queue) n b at runs = running-push xs item queue n b runs at
running-submit xs item (Refused cause) n b at runs = at

-- what runs after a change ran before it
running-map : (f : Admission → Admission) → ((a : Admission) → is_running (f a).life ≡ true → f a ≡ a) →
    (xs : List Admission) (n : ℕ) (b : Admission) → slice_get (map f xs) n ≡ Some b → is_running b.life ≡ true →
    slice_get xs n ≡ Some b
running-map f same xs n b at runs = by (slice_get xs n) (sym (slice_get-map f xs n) ∙ at) where
  by : (o : Option Admission) → option_map f o ≡ Some b → o ≡ Some b
  by None is = absurd (cc)
  by (Some a) is =
      let is_b = same_Some (f a) b is in
      ap Some (sym (same a (ap (λ (c : Admission). is_running c.life) is_b ∙ runs)) ∙ is_b)

running-cond : (b : Bool) (a : Admission) (life : Life) → is_running life ≡ false →
    is_running (cond b (with_life life a) a).life ≡ true → cond b (with_life life a) a ≡ a
running-cond true a life over runs = absurd (false≢true (sym over ∙ runs))
running-cond false a life over runs = refl

-- a queue that runs nothing takes one up
Single-set_life : (xs : List Admission) (queue m : ℕ) (one : Admission) → slice_get xs m ≡ Some one → one.queue ≡ queue →
    run xs queue ≡ None → Single xs → Single (set_life xs m Running)
Single-set_life xs queue m one one_there queue_is idle single i j a b at there same run_a run_b =
    by (taken xs m i a one one_there at) (taken xs m j b one one_there there) where
      -- what ran before isn't on that queue
      other : (k n : ℕ) (c d : Admission) → Taken xs m k c → slice_get xs n ≡ Some d → c.queue ≡ d.queue →
          is_running d.life ≡ true → ⊥
      other k n c d t old queues runs =
          let was : t.was ≡ one = same_Some t.was one (sym t.there ∙ one_there) in
          let on : d.queue ≡ queue =
          sym queues ∙ ap (λ (x : Admission). x.queue) (sym t.is) ∙ ap (λ (x : Admission). x.queue) was ∙ queue_is in
          false≢true (sym (position-none (runs_on queue) xs n d idle old)
          ∙ and_from (eqb d.queue queue) (is_running d.life) (eq-eqb d.queue queue on) runs)

      by : Taken xs m i a ⊎ (slice_get xs i ≡ Some a) → Taken xs m j b ⊎ (slice_get xs j ≡ Some b) → i ≡ j
      by (inl t) (inl u) = sym t.place ∙ u.place
      by (inl t) (inr old) = absurd (other i j a b t old same run_b)
      by (inr old) (inl u) = absurd (other j i b a u old (sym same) run_a)
      by (inr old) (inr older) = single i j a b old older same run_a run_b

Single-begin : (s : State) (who : Who) (queue : ℕ) (reply : WorkReply) → work_reply s who (Begin queue) ≡ Some reply →
    Single s.admissions → Single (begin s.admissions queue)
Single-begin s who queue reply is single =
    let it = Begun-reply s who queue reply is in
    let waits = (IsFirst-line s.admissions queue it.number it.first_is).waits it.taken it.there in
    let queue_is = eqb-true it.taken.queue queue (first_so (eqb it.taken.queue queue) (is_waiting it.taken.life) waits) in
    subst Single (sym (begin-is s.admissions queue reply it))
    (Single-set_life s.admissions queue it.number it.taken it.there queue_is (idle-begin s who queue reply is) single)

Single-next : (s : State) (who : Who) (op : WorkOp) (reply : WorkReply) → work_reply s who op ≡ Some reply →
    Single s.admissions → Single (work_next s who op).admissions
Single-next s who op reply is single =
    admissions-next Single s who op
    (λ ys item named stays so_far.
    let answer = submission (item_of ys s.marks item) s.queues (submitter who op) named in
    Single-fewer ys (submit ys item answer) (running-submit ys item answer) so_far)
    (λ item cancels. Single-fewer s.admissions (map (drop_one item) s.admissions)
    (running-map (drop_one item) (λ a. running-cond (waits_as item a) a Dropped refl) s.admissions) single)
    (λ queue op_is. Single-begin s who queue reply (ap (work_reply s who) (sym op_is) ∙ is) single)
    (λ queue op_is. Single-fewer s.admissions (map (end_one queue) s.admissions)
    (running-map (end_one queue) (λ a. running-cond (runs_on queue a) a Ended refl) s.admissions) single)
    single

Single-after : (s : State) (h : List (Entry WorkOp WorkReply)) → Replays work_machine s h → Single s.admissions →
    Single (state_after work_machine s h).admissions
Single-after s [] replays single = single
Single-after s (e ∷ es) replays single =
    Single-after (work_next s e.who e.op) es replays.1 (Single-next s e.who e.op e.reply replays.0 single)

pub one_runs_on_a_queue : OfEach OneRunsOnAQueue
one_runs_on_a_queue start h fresh number other a b at there same run_a run_b =
    Single-after start h fresh.work.legal.0 (subst Single (sym fresh.work.fresh) Single-nil) number other a b at there
    same (ap is_running run_a) (ap is_running run_b)
