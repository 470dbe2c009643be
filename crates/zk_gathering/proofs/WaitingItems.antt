-- Whether an admission waits, by the busy flags of the items.
use Rattle.std.proofs.Common.{◌≡◌, ℕ, suc, ◌+◌, ◌*◌, ◌/◌, ◌%◌, ◌<◌, ◌≤◌, Bool, true, false, not, ◌&&◌, cond, eqb, nat_lt, eq-eqb, Option, Some, None, is_some, List, [], ◌∷◌, length, map, All, bit_and, refl, sym, ap, subst, ◌∙◌, arith}
use Rattle.std.specs.List.{slice_get, list_all}
use Rattle.std.proofs.lemmas.Bool.{and_from, lt-ltb, false≢true}
use Rattle.std.proofs.lemmas.List.Elements.{All-nil, All-head, All-tail}
use Rattle.std.proofs.lemmas.List.FromFn.{length-range_with_len}
use Rattle.std.proofs.lemmas.Nat.Bits.{and_pow}
use Rattle.zk_base.specs.declared.ids.Entry.{Entry}
use Rattle.zk_base.specs.declared.ids.Who.{Who}
use Rattle.zk_base.specs.Legal.{state_after, AreInRange}
use Rattle.zk_base.proofs.Lists.{All-at, and_second, list_all-at, none_from_is_some}
use Rattle.zk_line.specs.declared.types.Decl.{Decl}
use Rattle.zk_line.specs.Objects.{places, is_thread, is_queue, is_item}
use Rattle.zk_model_work.specs.declared.ops.WorkOp.{WorkOp}
use Rattle.zk_model_work.specs.declared.ops.WorkOp.TheVariants as ops
use Rattle.zk_model_work.specs.declared.ops.WorkReply.{WorkReply}
use Rattle.zk_model_work.specs.declared.parts.Admission.{Admission}
use Rattle.zk_model_work.specs.Machine.{work_machine, work_next, is_among, delayed, schedule, is_pending_in, submission_in, submit, arm, disarm, flags_of}
use Rattle.zk_model_work.specs.Questions.{is_waiting, waits_as, waiting, weight, busy_flags}
use Rattle.zk_model_work.specs.State.{State}
use Rattle.zk_model_work.proofs.Counts.{length-fresh_queues}
use Rattle.zk_model_work.proofs.Overlaps.{position-none}
use Rattle.zk_model_work.proofs.Replies.{position-at}
use Rattle.zk_scenario.specs.Content.{Content}
use Rattle.zk_worker.specs.Machines.{Machines, machines_of, workers, is_on, work_start_of}
use Rattle.zk_worker.specs.Shown.{Shown}
use Rattle.zk_worker.proofs.Ranges.{same-lengths}
use Rattle.zk_trace.specs.Ending.{none_waits}
use Rattle.zk_trace.proofs.WorkStates.{Admits, Arms, Keeps}
use Rattle.zk_gathering.proofs.Admitted.{IsDeclared, declared-keeps}

-- The items of the states that a history comes to.

items-delayed : (st : State) (who : Who) (item queue delay : ℕ) → (delayed st who item queue delay).items ≡ st.items
items-delayed st who item queue delay =
    elim (eqb delay 0) as (λ b. (cond b (record st { admissions = submit st.admissions item (submission_in st (Some who.number) item (Some queue)) })
    (record st { arms = arm st.arms item queue (st.time + delay) })).items ≡ st.items)
    [ true ↦ refl | false ↦ refl ]

items-scheduled : (st : State) (who : Who) (item queue delay : ℕ) → (schedule st who item queue delay).items ≡ st.items
items-scheduled st who item queue delay = by (is_pending_in st item) where
  by : (b : Bool) → (cond b st (delayed st who item queue delay)).items ≡ st.items
  by true = refl
  by false = items-delayed st who item queue delay

items-next : (st : State) (who : Who) (op : WorkOp) → (work_next st who op).items ≡ st.items
items-next st who (ops.Schedule item queue delay) = items-scheduled st who item queue delay
items-next st who (ops.Reschedule item queue delay) = items-delayed (record st { arms = disarm st.arms item }) who item queue delay
items-next st who op = refl

pub items-after : (st : State) (h : List (Entry WorkOp WorkReply)) → (state_after work_machine st h).items ≡ st.items
items-after st [] = refl
items-after st (e ∷ h) = items-after (work_next st e.who e.op) h ∙ items-next st e.who e.op

keeps-after : (decls : List Decl) (st : State) (h : List (Entry WorkOp WorkReply)) → Keeps decls st → All (IsDeclared decls) h → Keeps decls (state_after work_machine st h)
keeps-after decls st [] kept all = kept
keeps-after decls st (e ∷ h) kept all =
    keeps-after decls (work_next st e.who e.op) h (declared-keeps decls st e.who e.op kept (All-head (IsDeclared decls) e h all)) (All-tail (IsDeclared decls) e h all)

-- the admissions of a history whose ids are in range are of items that are declared
pub admits-after : (s : Content) (h : List (Entry WorkOp WorkReply)) → AreInRange work_machine (work_start_of s) h → All (Admits s.decls) (state_after work_machine (work_start_of s) h).admissions
admits-after s h in_range = (keeps-after s.decls (work_start_of s) h start all).admissions where
  long : length (work_start_of s).queues ≡ length (places is_queue s.decls)
  long = length-fresh_queues (workers s.decls) (map (is_on s.decls) (places is_queue s.decls)) (same-lengths s)
      ∙ length-range_with_len (length (places is_thread s.decls)) (length (places is_queue s.decls))

  start : Keeps s.decls (work_start_of s)
  start = record { admissions = All-nil (Admits s.decls); arms = All-nil (Arms s.decls); queues = long }

  all : All (IsDeclared s.decls) h
  all =
      let In : ℕ → Entry WorkOp WorkReply → Type 0 = λ queues e. is_among (length (places is_item s.decls)) queues e.op ≡ true in
      subst (λ (queues : ℕ). All (In queues) h) long in_range

-- The flag.

weight-one : (n : ℕ) (set : Bool) → weight n set ≡ n * weight 1 set
weight-one n true = omega arith
weight-one n false = omega arith

weight-low : (set : Bool) → weight 1 set ≤ 1
weight-low true = omega arith
weight-low false = omega arith

-- the third flag says whether an admission of the item waits
pub queued-flag : (st : State) (item : ℕ) → bit_and (flags_of st item) 4 ≡ 4 * weight 1 (is_some (waiting st.admissions item))
queued-flag st item = by _ _ (is_some (waiting st.admissions item)) _ _ where
  by : (running cancelling queued armed flushing : Bool) → bit_and (busy_flags running cancelling queued armed flushing) 4 ≡ 4 * weight 1 queued
  by running cancelling queued armed flushing =
      let word = busy_flags running cancelling queued armed flushing in
      let r = weight-low running in
      let c = weight-one 2 cancelling in
      let c' = weight-low cancelling in
      let q = weight-one 4 queued in
      let q' = weight-low queued in
      let a = weight-one 8 armed in
      let a' = weight-low armed in
      let f = weight-one 16 flushing in
      let f' = weight-low flushing in
      let bit : word / 4 % 2 ≡ weight 1 queued = omega arith in
      and_pow word 2 ∙ (omega (arith, bit))

pub set-flag : (set : Bool) → (4 * weight 1 set ≡ 0 → ⊥) → set ≡ true
set-flag true is = refl
set-flag false is = absurd (is (omega arith))

pub clear-flag : (set : Bool) → 4 * weight 1 set ≡ 0 → set ≡ false
clear-flag true is = absurd (omega arith)
clear-flag false is = refl

-- the word of an item where this history is shown
pub word-says : (s : Content) (m : Machines) (shown : Shown) (h : List (Entry WorkOp WorkReply)) (item word : ℕ) → m ≡ machines_of s → shown.work ≡ h → item < length (places is_item s.decls) →
    word ≡ cond (nat_lt item (state_after work_machine m.work_start shown.work).items) (flags_of (state_after work_machine m.work_start shown.work) item) 0 →
    bit_and word 4 ≡ 4 * weight 1 (is_some (waiting (state_after work_machine (work_start_of s) h).admissions item))
word-says s m shown h item word same history within is =
    let st = state_after work_machine (work_start_of s) h in
    let states : state_after work_machine m.work_start shown.work ≡ st =
    ap (λ (x : State). state_after work_machine x shown.work) (ap (λ (x : Machines). x.work_start) same) ∙ ap (state_after work_machine (work_start_of s)) history in
    let items : st.items ≡ length (places is_item s.decls) = items-after (work_start_of s) h in
    let there : nat_lt item st.items ≡ true = lt-ltb item st.items (omega arith) in
    ap (λ (n : ℕ). bit_and n 4)
    (is ∙ ap (λ (x : State). cond (nat_lt item x.items) (flags_of x item) 0) states ∙ ap (λ (b : Bool). cond b (flags_of st item) 0) there)
    ∙ queued-flag st item

-- No admission waits just where no item says so.

all-by-place : {A : Type 0} (test : A → Bool) (xs : List A) → ((n : ℕ) (x : A) → slice_get xs n ≡ Some x → test x ≡ true) → list_all test xs ≡ true
all-by-place test [] each = refl
all-by-place test (x ∷ xs) each = and_from (test x) (list_all test xs) (each 0 x refl) (all-by-place test xs (λ n y there. each (suc n) y there))

not-true : (b : Bool) → b ≡ false → not b ≡ true
not-true true is = absurd (cc)
not-true false is = refl

pub none-waiting : (decls : List Decl) (st : State) → All (Admits decls) st.admissions →
    ((item : ℕ) → item < length (places is_item decls) → is_some (waiting st.admissions item) ≡ false) → none_waits st ≡ true
none-waiting decls st declared none = all-by-place (λ a. not (is_waiting a.life)) st.admissions each where
  each : (n : ℕ) (a : Admission) → slice_get st.admissions n ≡ Some a → not (is_waiting a.life) ≡ true
  each n a there =
      let less = (All-at (Admits decls) st.admissions n a declared there).0 in
      let nothing = position-none (waits_as a.item) st.admissions n a (none_from_is_some (waiting st.admissions a.item) (none a.item less)) there in
      not-true (is_waiting a.life) (and_second (eqb a.item a.item) (is_waiting a.life) (eq-eqb a.item a.item refl) nothing)

second : (b c : Bool) → (b && c) ≡ true → c ≡ true
second true c is = is
second false c is = absurd (cc)

pub some-waiting : (st : State) (item : ℕ) → is_some (waiting st.admissions item) ≡ true → none_waits st ≡ false
some-waiting st item some = by (waiting st.admissions item) refl some where
  open_at : (n : ℕ) (a : Admission) → slice_get st.admissions n ≡ Some a → waits_as item a ≡ true → (b : Bool) → none_waits st ≡ b → b ≡ false
  open_at n a there waits true all =
      let closed = list_all-at (λ (x : Admission). not (is_waiting x.life)) st.admissions n a all there in
      let opened = second (eqb a.item item) (is_waiting a.life) waits in
      let both : not true ≡ true = ap (λ (b : Bool). not b) (sym opened) ∙ closed in
      absurd (false≢true both)
  open_at n a there waits false all = refl

  by : (o : Option ℕ) → waiting st.admissions item ≡ o → is_some o ≡ true → none_waits st ≡ false
  by None is some = absurd (cc)
  by (Some n) is some = let it = position-at (waits_as item) st.admissions n is in open_at n it.0 it.1 it.2 (none_waits st) refl
