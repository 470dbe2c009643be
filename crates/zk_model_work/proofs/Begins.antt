-- How often an admission is begun, and in what order.
use Rattle.std.proofs.Common.{◌≡◌, ℕ, zero, suc, ◌+◌, ◌<◌, ◌≤◌, ◌≢◌, ◌⊎◌, inl, inr, Bool, true, false, cond, eqb, Option, Some, None, option_map, List, [], ◌∷◌, ◌++◌, get_or, slice_get, count_by, refl, sym, ap, subst, ◌∙◌, arith}
use Rattle.std.specs.Cmp.{first_so, second_so}
use Rattle.std.specs.Option.{option_map_or, option_and_then}
use Rattle.std.proofs.lemmas.Bool.{eqb-true, eq-eqb, false≢true}
use Rattle.std.proofs.lemmas.Bool.Decides.{eqb_tells}
use Rattle.std.proofs.lemmas.List.Sums.{sum_by-cons}
use Rattle.std.proofs.lemmas.Option.{slice_get-map, same_Some, slice_get-get_or}
use Rattle.zk_base.proofs.Lists.{and_second}
use Rattle.zk_base.specs.declared.ids.Who.{Who}
use Rattle.zk_base.specs.declared.ids.Entry.{Entry}
use Rattle.zk_base.specs.Legal.{state_after, Replays}
use Rattle.zk_base.proofs.Histories.{state_after-append, Replays-rest}
use Rattle.zk_model_work.specs.declared.parts.Life.{Life}
use Rattle.zk_model_work.specs.declared.parts.Life.TheVariants.{Waiting, Running, Ended, Dropped}
use Rattle.zk_model_work.specs.declared.parts.Admission.{Admission}
use Rattle.zk_model_work.specs.declared.ops.WorkOp.{WorkOp}
use Rattle.zk_model_work.specs.declared.ops.WorkOp.TheVariants.{Begin}
use Rattle.zk_model_work.specs.declared.ops.WorkReply.{WorkReply}
use Rattle.zk_model_work.specs.declared.ops.WorkReply.TheVariants.{Sub, Flags, Truth, WaitFor, Number, Done, Run}
use Rattle.zk_model_work.specs.declared.ops.WorkReply.TheVariants as replies
use Rattle.zk_model_work.specs.declared.ops.Submitted.{Submitted}
use Rattle.zk_model_work.specs.declared.ops.Submitted.TheVariants.{Already, Fresh, Rerun, Refused}
use Rattle.zk_model_work.specs.Lists.{first}
use Rattle.zk_model_work.specs.Questions.{is_waiting, is_running, is_open, waits_as, runs_on, line, item_of}
use Rattle.zk_model_work.specs.State.{State}
use Rattle.zk_model_work.specs.Machine.{work_next, work_reply, work_machine, submit, set_life, with_life, begin, end_one, drop_one, taken_up, may_begin}
use Rattle.zk_model_work.specs.Answers.{submission}
use Rattle.zk_model_work.specs.Histories.{IsWorkHistory, IsFreshHistory, OfEach, submitter, hands_out, begins, admission_after}
use Rattle.zk_model_work.specs.Laws.{EachBegunOnce, DroppedNeverBegun, RunOrDropped, NoneWaitsBefore, BeginsRise}
use Rattle.zk_model_work.proofs.Moves.{admissions-next, is_begin}
use Rattle.zk_model_work.proofs.Lives.{Kept, Kept-after, IsFirst, IsFirst-line, set_life-at, set_life-aside}

-- one for a life that comes after a begin
abbrev begun_by : Life → ℕ
begun_by Waiting = 0
begun_by Running = 1
begun_by Ended = 1
begun_by Dropped = 0

abbrev begun : Option Admission → ℕ
begun o = option_map_or (λ a. begun_by a.life) o 0

-- one for an entry that hands the admission out
abbrev handed : ℕ → WorkReply → ℕ
handed number reply = cond (hands_out number reply) 1 0

begun_by-most : (life : Life) → begun_by life ≤ 1
begun_by-most Waiting = omega arith
begun_by-most Running = omega arith
begun_by-most Ended = omega arith
begun_by-most Dropped = omega arith

begun-most : (o : Option Admission) → begun o ≤ 1
begun-most None = omega arith
begun-most (Some a) = begun_by-most a.life

-- a change that leaves what was begun as it was
begun-waiting : (life : Life) → is_waiting life ≡ true → begun_by life ≡ 0
begun-waiting Waiting w = refl
begun-waiting Running w = absurd (cc)
begun-waiting Ended w = absurd (cc)
begun-waiting Dropped w = absurd (cc)

begun-running : (life : Life) → is_running life ≡ true → begun_by life ≡ 1
begun-running Waiting w = absurd (cc)
begun-running Running w = refl
begun-running Ended w = absurd (cc)
begun-running Dropped w = absurd (cc)

begun-push : (xs : List Admission) (x : Admission) (n : ℕ) → begun_by x.life ≡ 0 →
    begun (slice_get (xs ++ x ∷ []) n) ≡ begun (slice_get xs n)
begun-push [] x zero none = none
begun-push [] x (suc n) none = refl
begun-push (y ∷ ys) x zero none = refl
begun-push (y ∷ ys) x (suc n) none = begun-push ys x n none

begun-cond : (b : Bool) (a : Admission) (life : Life) → (b ≡ true → begun_by a.life ≡ begun_by life) →
    begun_by (cond b (with_life life a) a).life ≡ begun_by a.life
begun-cond true a life same = sym (same refl)
begun-cond false a life same = refl

begun-map : (f : Admission → Admission) → ((a : Admission) → begun_by (f a).life ≡ begun_by a.life) →
    (o : Option Admission) → begun (option_map f o) ≡ begun o
begun-map f each None = refl
begun-map f each (Some a) = each a

begun-end_one : (queue : ℕ) (a : Admission) → begun_by (end_one queue a).life ≡ begun_by a.life
begun-end_one queue a =
    begun-cond (runs_on queue a) a Ended (λ r. begun-running a.life (second_so (eqb a.queue queue) (is_running a.life) r))

begun-drop_one : (item : ℕ) (a : Admission) → begun_by (drop_one item a).life ≡ begun_by a.life
begun-drop_one item a =
    begun-cond (waits_as item a) a Dropped (λ w. begun-waiting a.life (second_so (eqb a.item item) (is_waiting a.life) w))

begun-submit : (xs : List Admission) (item : ℕ) (answer : Submitted) (n : ℕ) →
    begun (slice_get (submit xs item answer) n) ≡ begun (slice_get xs n)
begun-submit xs item Already n = refl
begun-submit xs item (Fresh number queue) n = begun-push xs (record { item = item; queue = queue; life = Waiting }) n refl
begun-submit xs item (Rerun number queue) n = begun-push xs (record { item = item; queue = queue; life = Waiting }) n refl
begun-submit xs item (Refused cause) n = refl

-- the reply of a begin: the first in the line is there, and is handed out
pub record Begun (xs : List Admission) (queue : ℕ) (reply : WorkReply) : Type 0 where
  pub number : ℕ
  pub taken : Admission
  pub first_is : first (line xs queue) ≡ Some number
  pub there : slice_get xs number ≡ Some taken
  pub replied : reply ≡ Run taken.item number

chosen : (b : Bool) (o : Option WorkReply) (reply : WorkReply) → cond b o None ≡ Some reply → o ≡ Some reply
chosen true o reply is = is
chosen false o reply is = absurd (cc)

pub Begun-reply : (s : State) (who : Who) (queue : ℕ) (reply : WorkReply) → work_reply s who (Begin queue) ≡ Some reply →
    Begun s.admissions queue reply
Begun-reply s who queue reply is =
    at_first (first (line s.admissions queue)) refl
    (chosen (may_begin s.admissions s.queues who queue) (taken_up s.admissions queue) reply is) where
      at_there : (number : ℕ) (o : Option Admission) → first (line s.admissions queue) ≡ Some number →
          slice_get s.admissions number ≡ o → option_map (λ a. Run a.item number) o ≡ Some reply → Begun s.admissions queue reply
      at_there number None first there is = absurd (cc)
      at_there number (Some a) first there is = record {
        number = number;
        taken = a;
        first_is = first;
        there = there;
        replied = sym (same_Some _ _ is);
      }

      at_first : (o : Option ℕ) → first (line s.admissions queue) ≡ o →
          option_and_then (λ number. option_map (λ a. Run a.item number) (slice_get s.admissions number)) o ≡ Some reply →
          Begun s.admissions queue reply
      at_first None first is = absurd (cc)
      at_first (Some number) first is = at_there number (slice_get s.admissions number) first refl is

-- an entry hands the admission out just where it has been begun since
step-begun_reply : (xs : List Admission) (queue n : ℕ) (reply : WorkReply) → Begun xs queue reply →
    handed n reply + begun (slice_get xs n) ≡ begun (slice_get (begin xs queue) n)
step-begun_reply xs queue n reply it = which (eqb_tells it.number n) where
  after : begin xs queue ≡ set_life xs it.number Running
  after = ap (λ (o : Option ℕ). option_map_or (λ number. set_life xs number Running) o xs) it.first_is

  which : ((eqb it.number n ≡ true) × (it.number ≡ n)) ⊎ ((eqb it.number n ≡ false) × (it.number ≢ n)) →
      handed n reply + begun (slice_get xs n) ≡ begun (slice_get (begin xs queue) n)
  which (inl same) =
      let out : handed n reply ≡ 1 = ap (handed n) it.replied ∙ ap (λ b. cond b 1 0) same.0 in
      let waits = second_so (eqb it.taken.queue queue) (is_waiting it.taken.life)
      ((IsFirst-line xs queue it.number it.first_is).waits it.taken it.there) in
      let before : begun (slice_get xs n) ≡ 0 =
      ap (λ m. begun (slice_get xs m)) (sym same.1) ∙ ap begun it.there ∙ begun-waiting it.taken.life waits in
      let now : begun (slice_get (begin xs queue) n) ≡ 1 =
      ap (λ (ys : List Admission). begun (slice_get ys n)) after
      ∙ ap (λ m. begun (slice_get (set_life xs it.number Running) m)) (sym same.1)
      ∙ ap begun (set_life-at xs it.number Running it.taken it.there) in
      omega arith
  which (inr other) =
      let out : handed n reply ≡ 0 = ap (handed n) it.replied ∙ ap (λ b. cond b 1 0) other.0 in
      let now : begun (slice_get (begin xs queue) n) ≡ begun (slice_get xs n) =
      ap (λ (ys : List Admission). begun (slice_get ys n)) after ∙ ap begun (set_life-aside xs it.number n Running other.1) in
      omega arith

-- a reply that hands this admission out is that of a run of it
run_of : (n : ℕ) (reply : WorkReply) → hands_out n reply ≡ true → (item : ℕ) × (reply ≡ Run item n)
run_of n (Run item taken) out = (item, ap (Run item) (eqb-true taken n out))
run_of n (Sub answer) out = absurd (cc)
run_of n replies.Armed out = absurd (cc)
run_of n (Flags flags) out = absurd (cc)
run_of n (Truth b) out = absurd (cc)
run_of n replies.Wait out = absurd (cc)
run_of n (WaitFor number) out = absurd (cc)
run_of n (Number number) out = absurd (cc)
run_of n Done out = absurd (cc)
run_of n replies.Already out = absurd (cc)
run_of n replies.Busy out = absurd (cc)
run_of n (replies.Now time told) out = absurd (cc)

-- a begin counts just where it hands the admission out
step-begin : (s : State) (who : Who) (op : WorkOp) (reply : WorkReply) (n queue : ℕ) → op ≡ Begin queue →
    work_reply s who op ≡ Some reply →
    handed n reply + begun (slice_get s.admissions n) ≡ begun (slice_get (begin s.admissions queue) n)
step-begin s who op reply n queue is replied =
    step-begun_reply s.admissions queue n reply (Begun-reply s who queue reply (ap (work_reply s who) (sym is) ∙ replied))

-- each entry counts
step-begun : (s : State) (who : Who) (op : WorkOp) (reply : WorkReply) (n : ℕ) → work_reply s who op ≡ Some reply →
    handed n reply + begun (slice_get s.admissions n) ≡ begun (slice_get (work_next s who op).admissions n)
step-begun s who op reply n is = by (hands_out n reply) refl where
  old : ℕ
  old = begun (slice_get s.admissions n)

  none : hands_out n reply ≡ false → begun (slice_get (work_next s who op).admissions n) ≡ old
  none out =
      admissions-next (λ ys. begun (slice_get ys n) ≡ old) s who op
      (λ ys item named stays same.
      begun-submit ys item (submission (item_of ys s.marks item) s.queues (submitter who op) named) n ∙ same)
      (λ item cancels. ap begun (slice_get-map (drop_one item) s.admissions n)
      ∙ begun-map (drop_one item) (begun-drop_one item) (slice_get s.admissions n))
      (λ queue op_is.
      let step = step-begin s who op reply n queue op_is is in
      let nothing : handed n reply ≡ 0 = ap (λ b. cond b 1 0) out in
      omega arith)
      (λ queue op_is. ap begun (slice_get-map (end_one queue) s.admissions n)
      ∙ begun-map (end_one queue) (begun-end_one queue) (slice_get s.admissions n))
      refl

  by : (b : Bool) → hands_out n reply ≡ b → handed n reply + old ≡ begun (slice_get (work_next s who op).admissions n)
  by true out =
      let run = run_of n reply out in
      let queue = is_begin s who op run.0 n (is ∙ ap Some run.1) in
      step-begin s who op reply n queue.0 queue.1 is ∙ ap (λ o. begun (slice_get (work_next s who o).admissions n)) (sym queue.1)
  by false out =
      let nothing : handed n reply ≡ 0 = ap (λ b. cond b 1 0) out in
      let same = none out in
      omega arith

-- the begins of an admission are as many as its life says
begun-after : (s : State) (h : List (Entry WorkOp WorkReply)) (n : ℕ) → Replays work_machine s h →
    count_by (begins n) h + begun (slice_get s.admissions n) ≡ begun (slice_get (state_after work_machine s h).admissions n)
begun-after s [] n replays = omega arith
begun-after s (e ∷ es) n replays =
    let here = step-begun s e.who e.op e.reply n replays.0 in
    let rest = begun-after (work_next s e.who e.op) es n replays.1 in
    omega (arith, sum_by-cons (λ (f : Entry WorkOp WorkReply). cond (begins n f) 1 0) e es)

begun-history : (start : State) (h : List (Entry WorkOp WorkReply)) (n : ℕ) → IsWorkHistory start h →
    count_by (begins n) h ≡ begun (admission_after start h n)
begun-history start h n work =
    let none : begun (slice_get start.admissions n) ≡ 0 = ap (λ (xs : List Admission). begun (slice_get xs n)) work.fresh in
    let all = begun-after start h n work.legal.0 in
    omega arith

pub each_begun_once : OfEach EachBegunOnce
each_begun_once start h fresh n = let all = begun-history start h n fresh.work in
    let most = begun-most (admission_after start h n) in omega arith

pub alive : (o : Option Admission) (life : Life) → option_map (λ a. a.life) o ≡ Some life →
    (a : Admission) × (o ≡ Some a) × (a.life ≡ life)
alive None life is = absurd (cc)
alive (Some a) life is = (a, refl, same_Some a.life life is)

pub dropped_never_begun : OfEach DroppedNeverBegun
dropped_never_begun start h fresh front rest n parts is =
    let before = state_after work_machine start front in
    let was = alive (admission_after start front n) Dropped is in
    let kept = Kept-after before rest n was.0 was.1 in
    let over : kept.0.life ≡ Dropped = kept.2.over (ap is_open was.2) ∙ was.2 in
    let there : admission_after start h n ≡ Some kept.0 =
    ap (λ (l : List (Entry WorkOp WorkReply)). admission_after start l n) parts
    ∙ ap (λ (s : State). slice_get s.admissions n) (state_after-append work_machine start front rest) ∙ kept.1 in
    begun-history start h n fresh.work ∙ ap begun there ∙ ap begun_by over

pub run_or_dropped : OfEach RunOrDropped
run_or_dropped start h fresh n life is over =
    let was = alive (admission_after start h n) life is in
    let all : count_by (begins n) h ≡ begun_by life = begun-history start h n fresh.work ∙ ap begun was.1 ∙ ap begun_by was.2 in
    which life over all where
      which : (l : Life) → is_open l ≡ false → count_by (begins n) h ≡ begun_by l →
          ((l ≡ Ended) × (count_by (begins n) h ≡ 1)) ⊎ ((l ≡ Dropped) × (count_by (begins n) h ≡ 0))
      which Waiting over all = absurd (cc)
      which Running over all = absurd (cc)
      which Ended over all = inl (refl, all)
      which Dropped over all = inr (refl, all)

-- a history that is equal to its parts, in its parts
pub Replays-parts : (start : State) (h parts : List (Entry WorkOp WorkReply)) → IsFreshHistory start h → h ≡ parts →
    Replays work_machine start parts
Replays-parts start h parts fresh same = subst (Replays work_machine start) same fresh.work.legal.0

pub Begun-entry : (s : State) (e : Entry WorkOp WorkReply) (queue : ℕ) → e.op ≡ Begin queue →
    work_reply s e.who e.op ≡ Some e.reply → Begun s.admissions queue e.reply
Begun-entry s e queue op is = Begun-reply s e.who queue e.reply (ap (work_reply s e.who) (sym op) ∙ is)

same_run : (item item' number number' : ℕ) (reply : WorkReply) → reply ≡ Run item number → reply ≡ Run item' number' →
    number' ≡ number
same_run item item' number number' reply one other = cc

-- what stands before the first in the line, and is in the same queue, doesn't wait
not_before : (xs : List Admission) (queue number lower : ℕ) (a : Admission) → IsFirst xs queue number → lower < number →
    slice_get xs lower ≡ Some a → a.queue ≡ queue → is_waiting a.life ≡ false
not_before xs queue number lower a is below there same =
    and_second (eqb a.queue queue) (is_waiting a.life) (eq-eqb a.queue queue same) (is.none_before lower a below there)

pub none_waits_before : OfEach NoneWaitsBefore
none_waits_before start h fresh = record {
  each = λ front rest e parts queue item number lower a op reply below there same.
      let before = state_after work_machine start front in
      let it = Begun-entry before e queue op
      (Replays-rest work_machine start front (e ∷ rest) (Replays-parts start h (front ++ e ∷ rest) fresh parts)).0 in
      let number_is = same_run item it.taken.item number it.number e.reply reply it.replied in
      not_before before.admissions queue it.number lower a (IsFirst-line before.admissions queue it.number it.first_is)
      (omega arith) there same;
}

-- no admission that is first in the line later stood before the first in the line now
rises : (xs ys : List Admission) (queue number next : ℕ) → IsFirst xs queue number → IsFirst ys queue next → Kept xs ys →
    (c : Admission) → slice_get ys next ≡ Some c → next < number → ⊥
rises xs ys queue number next now later kept c there below =
    let b = get_or xs next c in
    let was : slice_get xs next ≡ Some b = slice_get-get_or xs next c (let within = now.within in omega arith) in
    let keeps = kept next b was in
    let same : keeps.0 ≡ c = same_Some keeps.0 c (sym keeps.1 ∙ there) in
    let waits = later.waits c there in
    let queue_is : b.queue ≡ queue =
    sym keeps.2.queue ∙ ap (λ (a : Admission). a.queue) same
    ∙ eqb-true c.queue queue (first_so (eqb c.queue queue) (is_waiting c.life) waits) in
    let not_now = not_before xs queue number next b now below was queue_is in
    let not_later : is_waiting c.life ≡ false = ap (λ (a : Admission). is_waiting a.life) (sym same) ∙ keeps.2.waits not_now in
    false≢true (sym not_later ∙ second_so (eqb c.queue queue) (is_waiting c.life) waits)

-- what runs isn't first in a line later
twice : (s t : State) (e two : Entry WorkOp WorkReply) (queue : ℕ) → e.op ≡ Begin queue →
    (now : Begun s.admissions queue e.reply) → (later : Begun t.admissions queue two.reply) →
    later.number ≡ now.number → Kept (work_next s e.who e.op).admissions t.admissions → ⊥
twice s t e two queue op now later same kept =
    let after : (work_next s e.who e.op).admissions ≡ set_life s.admissions now.number Running =
    ap (λ o. (work_next s e.who o).admissions) op
    ∙ ap (λ (o : Option ℕ). option_map_or (λ number. set_life s.admissions number Running) o s.admissions) now.first_is in
    let runs : slice_get (work_next s e.who e.op).admissions now.number ≡ Some (with_life Running now.taken) =
    ap (λ (xs : List Admission). slice_get xs now.number) after
    ∙ set_life-at s.admissions now.number Running now.taken now.there in
    let keeps = kept now.number (with_life Running now.taken) runs in
    let is : keeps.0 ≡ later.taken =
    same_Some keeps.0 later.taken (sym keeps.1 ∙ ap (slice_get t.admissions) (sym same) ∙ later.there) in
    let not_later : is_waiting later.taken.life ≡ false =
    ap (λ (a : Admission). is_waiting a.life) (sym is) ∙ keeps.2.waits refl in
    let waits = (IsFirst-line t.admissions queue later.number later.first_is).waits later.taken later.there in
    false≢true (sym not_later ∙ second_so (eqb later.taken.queue queue) (is_waiting later.taken.life) waits)

pub begins_rise : OfEach BeginsRise
begins_rise start h fresh front between rest one two queue item next_item number next parts op reply next_op next_reply =
    let s = state_after work_machine start front in
    let replays = Replays-rest work_machine start front (one ∷ (between ++ two ∷ rest))
    (Replays-parts start h (front ++ one ∷ (between ++ two ∷ rest)) fresh parts) in
    let after = work_next s one.who one.op in
    let t = state_after work_machine after between in
    let first_begun = Begun-entry s one queue op replays.0 in
    let second_begun = Begun-entry t two queue next_op (Replays-rest work_machine after between (two ∷ rest) replays.1).0 in
    let number_is = same_run item first_begun.taken.item number first_begun.number one.reply reply first_begun.replied in
    let next_is = same_run next_item second_begun.taken.item next second_begun.number two.reply next_reply second_begun.replied in
    let now = IsFirst-line s.admissions queue first_begun.number first_begun.first_is in
    let later = IsFirst-line t.admissions queue second_begun.number second_begun.first_is in
    let below : second_begun.number < first_begun.number → ⊥ =
    rises s.admissions t.admissions queue first_begun.number second_begun.number now later
    (Kept-after s (one ∷ between)) second_begun.taken second_begun.there in
    let same : second_begun.number ≡ first_begun.number → ⊥ =
    λ is. twice s t one two queue op first_begun second_begun is (Kept-after after between) in
    omega (arith, below, same)
