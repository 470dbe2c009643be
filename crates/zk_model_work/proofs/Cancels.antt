-- What a cancel of an item keeps from being admitted, and from being begun.
use Rattle.std.proofs.Common.{◌≡◌, ℕ, zero, suc, ◌<◌, ◌≤◌, ◌⊎◌, inl, inr, Bool, true, false, cond, eqb, Option, Some, None, is_some, option_map, option_to_list, List, [], ◌∷◌, ◌++◌, length, map, get_or, slice_get, refl, sym, ap, subst, ◌∙◌, arith}
use Rattle.std.specs.Cmp.{first_so, second_so}
use Rattle.std.specs.List.{list_any}
use Rattle.std.specs.Option.{option_map_or}
use Rattle.std.proofs.lemmas.Bool.{eqb-true, eq-eqb, false≢true, cases_order, and_from, and_right, or_left, or_right}
use Rattle.std.proofs.lemmas.Option.{slice_get-map, slice_get_within, slice_get-get_or, same_Some}
use Rattle.std.proofs.lemmas.List.Folds.{list_any-append}
use Rattle.std.proofs.lemmas.List.Quantifiers.{position-Some}
use Rattle.zk_base.proofs.Lists.{and_second}
use Rattle.zk_base.specs.declared.ids.Who.{Who}
use Rattle.zk_base.specs.declared.ids.Entry.{Entry}
use Rattle.zk_base.specs.declared.errors.Errno.TheVariants.{Busy}
use Rattle.zk_base.specs.Legal.{state_after}
use Rattle.zk_base.proofs.Histories.{state_after-append, Replays-rest}
use Rattle.zk_model_work.specs.declared.parts.Life.{Life}
use Rattle.zk_model_work.specs.declared.parts.Life.TheVariants.{Waiting, Running, Dropped}
use Rattle.zk_model_work.specs.declared.parts.Admission.{Admission}
use Rattle.zk_model_work.specs.declared.ops.WorkOp.{WorkOp}
use Rattle.zk_model_work.specs.declared.ops.WorkOp.TheVariants.{Submit, Cancel, CancelStart, CancelDone, FlushStart, FlushDone, Schedule, Reschedule, Remaining, Start, DrainStart, DrainDone, Unplug, Stop, Announce, Begin, End}
use Rattle.zk_model_work.specs.declared.ops.WorkReply.{WorkReply}
use Rattle.zk_model_work.specs.declared.ops.Submitted.{Submitted}
use Rattle.zk_model_work.specs.declared.ops.Submitted.TheVariants.{Already, Refused}
use Rattle.zk_model_work.specs.Lists.{first}
use Rattle.zk_model_work.specs.Questions.{is_waiting, is_running, is_open, waits_as, runs_as, line, waiting, running, passes_at, is_cancelling, item_of}
use Rattle.zk_model_work.specs.State.{State}
use Rattle.zk_model_work.specs.Machine.{work_next, work_machine, submit, disarm, drop_one, drop_waiting, set_life, with_life, begin, end_one, end_run}
use Rattle.zk_model_work.specs.Answers.{submission, submission_at, target, admitted_to}
use Rattle.zk_model_work.specs.Histories.{OfEach, submitter, made_after, Cancels}
use Rattle.zk_model_work.specs.Laws.{NoneWaitsAfterCancel, NoneMadeDuringCancel, BegunMadeAfterCancel, BegunMadeAfterRun}
use Rattle.zk_model_work.proofs.Lives.{Keeps, Kept, Kept-next, Kept-after}
use Rattle.zk_model_work.proofs.Moves.{Stays, pushed, still-map, admissions-next, schedule-keeps, delayed-keeps}
use Rattle.zk_model_work.proofs.Begins.{alive, Replays-parts}
use Rattle.zk_model_work.proofs.Overlaps.{runs-open, running-not, still-cond, Handed-entry}

-- no admission of the item waits
abbrev pub NoneWaits : ℕ → List Admission → Type 0
NoneWaits item xs = (n : ℕ) (a : Admission) → slice_get xs n ≡ Some a → a.item ≡ item → is_waiting a.life ≡ false

-- the number is among the marks, so any test that it passes is passed by one of them
abbrev Marked : ℕ → List ℕ → Type 0
Marked number marks = (passes : ℕ → Bool) → passes number ≡ true → list_any passes marks ≡ true

Marked-more : (number : ℕ) (marks more : List ℕ) → Marked number marks → Marked number (marks ++ more)
Marked-more number marks more marked passes is = list_any-append passes marks more
    ∙ or_left (list_any passes marks) (list_any passes more) (marked passes is)

Marked-last : (number : ℕ) (marks : List ℕ) → Marked number (marks ++ number ∷ [])
Marked-last number marks passes is =
    list_any-append passes marks (number ∷ [])
    ∙ or_right (list_any passes marks) (list_any passes (number ∷ [])) (or_left (passes number) false is)

-- marks stay
Marked-next : (s : State) (who : Who) (op : WorkOp) (number : ℕ) → Marked number s.marks →
    Marked number (work_next s who op).marks
Marked-next s who (Submit item named) number marked = marked
Marked-next s who (Cancel item) number marked = Marked-more number s.marks (option_to_list (running s.admissions item)) marked
Marked-next s who (CancelStart item) number marked =
    Marked-more number s.marks (option_to_list (running s.admissions item)) marked
Marked-next s who (CancelDone place) number marked = marked
Marked-next s who (FlushStart item) number marked = marked
Marked-next s who (FlushDone place) number marked = marked
Marked-next s who (Schedule item queue delay) number marked =
    schedule-keeps (λ t. Marked number t.marks) s who item queue delay marked marked (λ free later. marked)
Marked-next s who (Reschedule item queue delay) number marked =
    delayed-keeps (λ t. Marked number t.marks) (record s { arms = disarm s.arms item }) who item queue delay marked
    (λ later. marked)
Marked-next s who (Remaining item) number marked = marked
Marked-next s who (Start queue) number marked = marked
Marked-next s who (DrainStart queue plug) number marked = marked
Marked-next s who (DrainDone place) number marked = marked
Marked-next s who (Unplug queue) number marked = marked
Marked-next s who (Stop queue) number marked = marked
Marked-next s who (Announce ticks) number marked = marked
Marked-next s who (Begin queue) number marked = marked
Marked-next s who (End queue) number marked = marked

-- what has become of an admission in a state
abbrev pub life_at : State → ℕ → Option Life
life_at s number = option_map (λ a. a.life) (slice_get s.admissions number)

-- a marked run of an item, which is being cancelled by it
pub record Cancelled (s : State) (item number : ℕ) : Type 0 where
  pub marked : Marked number s.marks
  pub run : Admission
  pub there : slice_get s.admissions number ≡ Some run
  pub item_is : run.item ≡ item
  pub runs : is_running run.life ≡ true

is_cancelling-Cancelled : (s : State) (ys : List Admission) (item number : ℕ) → Cancelled s item number →
    Stays s.admissions ys → is_cancelling ys s.marks item ≡ true
is_cancelling-Cancelled s ys item number it stays =
    let runs : runs_as item it.run ≡ true =
    and_from (eqb it.run.item item) (is_running it.run.life) (eq-eqb it.run.item item it.item_is) it.runs in
    it.marked (passes_at (runs_as item) ys) (ap (λ (o : Option Admission). option_map_or (runs_as item) o false)
    (stays number it.run it.there) ∙ runs)

-- a submission of it is refused, also when others were admitted since
refused-Cancelled : (s : State) (ys : List Admission) (caller : Option ℕ) (item number : ℕ) (named : Option ℕ) →
    Cancelled s item number → Stays s.admissions ys → submission (item_of ys s.marks item) s.queues caller named ≡ Refused Busy
refused-Cancelled s ys caller item number named it stays =
    let i = item_of ys s.marks item in
    let otherwise = cond (is_some (waiting ys item)) Already (submission_at i s.queues caller (target i named)) in
    ap (λ b. cond b (Refused Busy) otherwise) (is_cancelling-Cancelled s ys item number it stays)

NoneWaits-kept : (item : ℕ) (xs ys : List Admission) → Kept xs ys →
    ((n : ℕ) (b : Admission) → slice_get ys n ≡ Some b → length xs ≤ n → b.item ≡ item → is_waiting b.life ≡ false) →
    NoneWaits item xs → NoneWaits item ys
NoneWaits-kept item xs ys kept new none n b at item_is = by (cases_order n (length xs)) where
  old : n < length xs → is_waiting b.life ≡ false
  old within =
      let a = get_or xs n b in
      let here = kept n a (slice_get-get_or xs n b within) in
      let same : here.0 ≡ b = same_Some here.0 b (sym here.1 ∙ at) in
      let item_a : a.item ≡ item = sym here.2.item ∙ ap (λ (c : Admission). c.item) same ∙ item_is in
      ap (λ (c : Admission). is_waiting c.life) (sym same) ∙ here.2.waits (none n a (slice_get-get_or xs n b within) item_a)

  by : (n ≡ length xs) ⊎ ((n < length xs) ⊎ (length xs < n)) → is_waiting b.life ≡ false
  by (inl is) = new n b at (omega arith) item_is
  by (inr (inl within)) = old within
  by (inr (inr past)) = new n b at (omega arith) item_is

-- what is there after a submission was there before, or is of its item, and was admitted
new-submit : (xs : List Admission) (item : ℕ) (answer : Submitted) (n : ℕ) (b : Admission) →
    slice_get (submit xs item answer) n ≡ Some b →
    (slice_get xs n ≡ Some b) ⊎ ((b.item ≡ item) × (admitted_to answer ≡ Some b.queue))
new-submit xs item answer n b at = by (admitted_to answer) refl at where
  by : (o : Option ℕ) → admitted_to answer ≡ o →
      slice_get (option_map_or (λ queue. xs ++ record { item = item; queue = queue; life = Waiting } ∷ []) o xs) n ≡ Some b →
      (slice_get xs n ≡ Some b) ⊎ ((b.item ≡ item) × (admitted_to answer ≡ Some b.queue))
  by None is at = inl at
  by (Some queue) is at = here (pushed xs (record { item = item; queue = queue; life = Waiting }) n b at) where
    here : (slice_get xs n ≡ Some b) ⊎ ((n ≡ length xs) × (record { item = item; queue = queue; life = Waiting } ≡ b)) →
        (slice_get xs n ≡ Some b) ⊎ ((b.item ≡ item) × (admitted_to answer ≡ Some b.queue))
    here (inl old) = inl old
    here (inr same) = inr (sym (ap (λ (c : Admission). c.item) same.1), is ∙ ap (λ (c : Admission). Some c.queue) same.1)

length-set_life : (xs : List Admission) (n : ℕ) (life : Life) → length (set_life xs n life) ≡ length xs
length-set_life [] n life = refl
length-set_life (a ∷ rest) zero life = refl
length-set_life (a ∷ rest) (suc n) life = ap suc (length-set_life rest n life)

pub length-begin : (xs : List Admission) (queue : ℕ) → length (begin xs queue) ≡ length xs
length-begin xs queue = by (first (line xs queue)) where
  by : (o : Option ℕ) → length (option_map_or (λ number. set_life xs number Running) o xs) ≡ length xs
  by None = refl
  by (Some number) = length-set_life xs number Running

pub none-new : (xs ys : List Admission) (n : ℕ) (b : Admission) → length ys ≡ length xs → slice_get ys n ≡ Some b →
    length xs ≤ n → ⊥
none-new xs ys n b long at past = let within = slice_get_within ys n b at in omega arith

length-mapped : (f : Admission → Admission) (xs : List Admission) → length (map f xs) ≡ length xs
length-mapped f [] = refl
length-mapped f (x ∷ xs) = ap suc (length-mapped f xs)

-- what holds of each admission that an operation makes, where it holds of each that is admitted
pub made-next : (P : Admission → Type 0) (s : State) (who : Who) (op : WorkOp) →
    ((ys : List Admission) (item : ℕ) (named : Option ℕ) (b : Admission) → Stays s.admissions ys → b.item ≡ item →
    admitted_to (submission (item_of ys s.marks item) s.queues (submitter who op) named) ≡ Some b.queue → P b) →
    (n : ℕ) (b : Admission) → slice_get (work_next s who op).admissions n ≡ Some b → length s.admissions ≤ n → P b
made-next P s who op admits =
    admissions-next (λ ys. (n : ℕ) (b : Admission) → slice_get ys n ≡ Some b → length s.admissions ≤ n → P b) s who op
    (λ ys item named stays so_far n b at past.
    which ys item named stays so_far n b past
    (new-submit ys item (submission (item_of ys s.marks item) s.queues (submitter who op) named) n b at))
    (λ item cancels n b at past.
    absurd (none-new s.admissions (drop_waiting s.admissions item) n b (length-mapped (drop_one item) s.admissions) at past))
    (λ queue is n b at past.
    absurd (none-new s.admissions (begin s.admissions queue) n b (length-begin s.admissions queue) at past))
    (λ queue is n b at past.
    absurd (none-new s.admissions (end_run s.admissions queue) n b (length-mapped (end_one queue) s.admissions) at past))
    (λ n b at past. absurd (none-new s.admissions s.admissions n b refl at past)) where
      which : (ys : List Admission) (item : ℕ) (named : Option ℕ) → Stays s.admissions ys →
          ((n : ℕ) (b : Admission) → slice_get ys n ≡ Some b → length s.admissions ≤ n → P b) → (n : ℕ) (b : Admission) →
          length s.admissions ≤ n →
          (slice_get ys n ≡ Some b)
          ⊎ ((b.item ≡ item) × (admitted_to (submission (item_of ys s.marks item) s.queues (submitter who op) named)
          ≡ Some b.queue)) → P b
      which ys item named stays so_far n b past (inl old) = so_far n b old past
      which ys item named stays so_far n b past (inr new) = admits ys item named b stays new.0 new.1

nothing-admitted : (answer : Submitted) (queue : ℕ) → answer ≡ Refused Busy → admitted_to answer ≡ Some queue → ⊥
nothing-admitted answer queue refused admits = none (sym (ap admitted_to refused) ∙ admits) where
  none : None ≡ Some queue → ⊥
  none is = cc

-- while the item is being cancelled, no admission of it is made
new-next : (s : State) (who : Who) (op : WorkOp) (item number : ℕ) → Cancelled s item number → (n : ℕ) (b : Admission) →
    slice_get (work_next s who op).admissions n ≡ Some b → length s.admissions ≤ n → b.item ≡ item → ⊥
new-next s who op item number it =
    made-next (λ b. b.item ≡ item → ⊥) s who op
    (λ ys other named b stays item_is admits same.
    nothing-admitted (submission (item_of ys s.marks other) s.queues (submitter who op) named) b.queue
    (ap (λ i. submission (item_of ys s.marks i) s.queues (submitter who op) named) (sym item_is ∙ same)
    ∙ refused-Cancelled s ys (submitter who op) item number named it stays) admits)

NoneWaits-next : (s : State) (who : Who) (op : WorkOp) (item number : ℕ) → Cancelled s item number →
    NoneWaits item s.admissions → NoneWaits item (work_next s who op).admissions
NoneWaits-next s who op item number it none =
    NoneWaits-kept item s.admissions (work_next s who op).admissions (Kept-next s who op)
    (λ n b at past item_is. absurd (new-next s who op item number it n b at past item_is)) none

-- a run that goes on later goes on now
goes_on : (a b c : Admission) → is_running a.life ≡ true → Keeps a b → Keeps b c → is_running c.life ≡ true →
    is_running b.life ≡ true
goes_on a b c runs now later still = by (is_open b.life) refl where
  by : (o : Bool) → is_open b.life ≡ o → is_running b.life ≡ true
  by true opens = runs-open b.life opens (now.waits (running-not a.life runs))
  by false over = sym (ap is_running (later.over over)) ∙ still

Cancelled-next : (s : State) (who : Who) (op : WorkOp) (es : List (Entry WorkOp WorkReply)) (item number : ℕ) →
    Cancelled s item number → life_at (state_after work_machine (work_next s who op) es) number ≡ Some Running →
    Cancelled (work_next s who op) item number
Cancelled-next s who op es item number it still =
    let now = Kept-next s who op number it.run it.there in
    let later = Kept-after (work_next s who op) es number now.0 now.1 in
    let is = alive (slice_get (state_after work_machine (work_next s who op) es).admissions number) Running still in
    let same : later.0 ≡ is.0 = same_Some later.0 is.0 (sym later.1 ∙ is.1) in
    record {
      marked = Marked-next s who op number it.marked;
      run = now.0;
      there = now.1;
      item_is = now.2.item ∙ it.item_is;
      runs = goes_on it.run now.0 later.0 it.runs now.2 later.2 (ap (λ (c : Admission). is_running c.life) same
          ∙ ap is_running is.2);
    }

-- all through a run that a cancel found
pub record During (s : State) (item number : ℕ) : Type 0 where
  pub cancelled : Cancelled s item number
  pub none : NoneWaits item s.admissions

pub During-after : (s : State) (during : List (Entry WorkOp WorkReply)) (item number : ℕ) →
    life_at (state_after work_machine s during) number ≡ Some Running → During s item number →
    During (state_after work_machine s during) item number
During-after s [] item number still it = it
During-after s (e ∷ es) item number still it =
    During-after (work_next s e.who e.op) es item number still (record {
      cancelled = Cancelled-next s e.who e.op es item number it.cancelled still;
      none = NoneWaits-next s e.who e.op item number it.cancelled it.none;
    })

-- a cancel leaves none waiting, and marks the run that it finds
dropped-waits : (item : ℕ) (a : Admission) → (drop_one item a).item ≡ item → is_waiting (drop_one item a).life ≡ false
dropped-waits item a = by (waits_as item a) refl where
  by : (b : Bool) → waits_as item a ≡ b → (cond b (with_life Dropped a) a).item ≡ item →
      is_waiting (cond b (with_life Dropped a) a).life ≡ false
  by true is same = refl
  by false is same = and_second (eqb a.item item) (is_waiting a.life) (eq-eqb a.item item same) is

NoneWaits-cancel : (s : State) (who : Who) (item : ℕ) → NoneWaits item (work_next s who (Cancel item)).admissions
NoneWaits-cancel s who item n b at = by (slice_get s.admissions n) (sym (slice_get-map (drop_one item) s.admissions n) ∙ at) where
  by : (o : Option Admission) → option_map (drop_one item) o ≡ Some b → b.item ≡ item → is_waiting b.life ≡ false
  by None is item_is = absurd (cc)
  by (Some a) is item_is =
      let same = same_Some (drop_one item a) b is in
      ap (λ (c : Admission). is_waiting c.life) (sym same) ∙ dropped-waits item a (ap (λ (c : Admission). c.item) same ∙ item_is)

Cancelled-cancel : (s : State) (who : Who) (item number : ℕ) → running s.admissions item ≡ Some number →
    Cancelled (work_next s who (Cancel item)) item number
Cancelled-cancel s who item number found =
    let nothing : Admission = record { item = 0; queue = 0; life = Waiting } in
    let is = position-Some (runs_as item) s.admissions number nothing found in
    let a = get_or s.admissions number nothing in
    let runs = second_so (eqb a.item item) (is_running a.life) is.1 in
    record {
      marked = subst (λ (ms : List ℕ). Marked number ms) (sym (ap (λ (o : Option ℕ). s.marks ++ option_to_list o) found))
          (Marked-last number s.marks);
      run = a;
      there = still-map (drop_one item) s.admissions number a
          (still-cond (waits_as item a) a Dropped (and_right (eqb a.item item) (is_waiting a.life) (running-not a.life runs)))
          (slice_get-get_or s.admissions number nothing is.0);
      item_is = eqb-true a.item item (first_so (eqb a.item item) (is_running a.life) is.1);
      runs = runs;
    }

-- a sync cancel does the same
Cancelled-start : (s : State) (who : Who) (item number : ℕ) → running s.admissions item ≡ Some number →
    Cancelled (work_next s who (CancelStart item)) item number
Cancelled-start s who item number found =
    let it = Cancelled-cancel s who item number found in
    record { marked = it.marked; run = it.run; there = it.there; item_is = it.item_is; runs = it.runs }

pub NoneWaits-entry : (s : State) (who : Who) (op : WorkOp) (item : ℕ) → Cancels item op →
    NoneWaits item (work_next s who op).admissions
NoneWaits-entry s who op item (inl is) = subst (λ (o : WorkOp). NoneWaits item (work_next s who o).admissions) (sym is)
    (NoneWaits-cancel s who item)
NoneWaits-entry s who op item (inr is) = subst (λ (o : WorkOp). NoneWaits item (work_next s who o).admissions) (sym is)
    (NoneWaits-cancel s who item)

Cancelled-entry : (s : State) (who : Who) (op : WorkOp) (item number : ℕ) → Cancels item op →
    running s.admissions item ≡ Some number → Cancelled (work_next s who op) item number
Cancelled-entry s who op item number (inl is) found = subst (λ (o : WorkOp). Cancelled (work_next s who o) item number)
    (sym is) (Cancelled-cancel s who item number found)
Cancelled-entry s who op item number (inr is) found = subst (λ (o : WorkOp). Cancelled (work_next s who o) item number)
    (sym is) (Cancelled-start s who item number found)

pub During-entry : (s : State) (who : Who) (op : WorkOp) (item number : ℕ) → Cancels item op →
    running s.admissions item ≡ Some number → During (work_next s who op) item number
During-entry s who op item number is found = record {
  cancelled = Cancelled-entry s who op item number is found;
  none = NoneWaits-entry s who op item is;
}

pub none_waits_after_cancel : OfEach NoneWaitsAfterCancel
none_waits_after_cancel start h fresh = record {
  each = λ front rest e parts item number a op at item_is.
      let s = state_after work_machine start front in
      NoneWaits-entry s e.who e.op item op number a
      (sym (ap (λ (u : State). slice_get u.admissions number) (state_after-append work_machine start front (e ∷ [])))
      ∙ at) item_is;
}

pub none_made_during_cancel : OfEach NoneMadeDuringCancel
none_made_during_cancel start h fresh front during rest e next item run number a parts op found still makes item_is =
    let s = state_after work_machine start front in
    let c = work_next s e.who e.op in
    let t = state_after work_machine c during in
    let same = state_after-append work_machine start front (e ∷ during) in
    let it = During-after c during item run (sym (ap (λ (u : State). life_at u run) same)
    ∙ still) (During-entry s e.who e.op item run op found) in
    let there : slice_get (work_next t next.who next.op).admissions number ≡ Some a =
    sym (ap (λ (u : State). slice_get (work_next u next.who next.op).admissions number) same)
    ∙ sym (ap (λ (u : State). slice_get u.admissions number)
    (state_after-append work_machine start (front ++ e ∷ during) (next ∷ []))) ∙ makes.1 in
    let long : made_after start (front ++ e ∷ during) ≡ length t.admissions = ap (λ (u : State). length u.admissions) same in
    let past = makes.0 in
    new-next t next.who next.op item run it.cancelled number a there (omega arith) item_is

-- what is begun is none of those that were there and didn't wait
not_older : (xs ys : List Admission) (item number : ℕ) (was : Admission) → Kept xs ys → NoneWaits item xs →
    slice_get ys number ≡ Some was → was.item ≡ item → is_waiting was.life ≡ true → length xs ≤ number
not_older xs ys item number was kept none at item_is waits =
    let not_old : number < length xs → ⊥ = λ within.
    let a = get_or xs number was in
    let was_at = slice_get-get_or xs number was within in
    let here = kept number a was_at in
    let same : here.0 ≡ was = same_Some here.0 was (sym here.1 ∙ at) in
    let item_a : a.item ≡ item = sym here.2.item ∙ ap (λ (c : Admission). c.item) same ∙ item_is in
    false≢true (sym (ap (λ (c : Admission). is_waiting c.life) (sym same) ∙ here.2.waits (none number a was_at item_a))
    ∙ waits) in
    omega (arith, not_old)

pub begun_made_after_cancel : OfEach BegunMadeAfterCancel
begun_made_after_cancel start h fresh front between rest e later item number parts op reply =
    let s = state_after work_machine start front in
    let c = work_next s e.who e.op in
    let t = state_after work_machine c between in
    let replays = (Replays-rest work_machine c between (later ∷ rest)
    (Replays-rest work_machine start front (e ∷ (between ++ later ∷ rest))
    (Replays-parts start h (front ++ e ∷ (between ++ later ∷ rest)) fresh parts)).1).0 in
    let it = Handed-entry t later item number reply replays in
    let least = not_older c.admissions t.admissions item number it.was (Kept-after c between)
    (NoneWaits-entry s e.who e.op item op) it.there it.item_is it.waits in
    let made : made_after start (front ++ e ∷ []) ≡ length c.admissions =
    ap (λ (u : State). length u.admissions) (state_after-append work_machine start front (e ∷ [])) in
    omega arith

pub begun_made_after_run : OfEach BegunMadeAfterRun
begun_made_after_run start h fresh front during between rest e later item run number parts op found still reply =
    let s = state_after work_machine start front in
    let c = work_next s e.who e.op in
    let d = state_after work_machine c during in
    let t = state_after work_machine d between in
    let same = state_after-append work_machine start front (e ∷ during) in
    let before = Replays-rest work_machine c during (between ++ later ∷ rest)
    (Replays-rest work_machine start front (e ∷ (during ++ (between ++ later ∷ rest)))
    (Replays-parts start h (front ++ e ∷ (during ++ (between ++ later ∷ rest))) fresh parts)).1 in
    let it = Handed-entry t later item number reply (Replays-rest work_machine d between (later ∷ rest) before).0 in
    let all = During-after c during item run (sym (ap (λ (u : State). life_at u run) same)
    ∙ still) (During-entry s e.who e.op item run op found) in
    let least = not_older d.admissions t.admissions item number it.was (Kept-after d between) all.none it.there it.item_is
    it.waits in
    let made : made_after start (front ++ e ∷ during) ≡ length d.admissions = ap (λ (u : State). length u.admissions) same in
    omega arith
