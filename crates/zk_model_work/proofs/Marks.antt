-- The marks are just the runs that cancels found.
use Rattle.std.proofs.Common.{◌≡◌, ℕ, ◌⊎◌, inl, inr, Bool, true, false, ◌||◌, eqb, Option, Some, None, option_map, option_to_list, List, [], ◌∷◌, ◌++◌, slice_get, refl, sym, ap, subst, ◌∙◌, append_assoc}
use Rattle.std.specs.Cmp.{first_so, second_so}
use Rattle.std.specs.List.{list_any}
use Rattle.std.specs.Option.{option_map_or}
use Rattle.std.proofs.lemmas.Bool.{eqb-true, eq-eqb, false≢true, and_from}
use Rattle.std.proofs.lemmas.List.{append-nil}
use Rattle.std.proofs.lemmas.List.Folds.{list_any-append}
use Rattle.std.proofs.lemmas.Option.{same_Some}
use Rattle.zk_base.specs.declared.ids.Who.{Who}
use Rattle.zk_base.specs.declared.ids.Entry.{Entry}
use Rattle.zk_base.specs.Legal.{state_after}
use Rattle.zk_model_work.specs.declared.parts.Life.TheVariants.{Running}
use Rattle.zk_model_work.specs.declared.parts.Admission.{Admission}
use Rattle.zk_model_work.specs.declared.ops.WorkOp.{WorkOp}
use Rattle.zk_model_work.specs.declared.ops.WorkOp.TheVariants.{Submit, Cancel, CancelStart, CancelDone, FlushStart, FlushDone, Schedule, Reschedule, Remaining, Start, DrainStart, DrainDone, Unplug, Stop, Announce, Begin, End}
use Rattle.zk_model_work.specs.declared.ops.WorkReply.{WorkReply}
use Rattle.zk_model_work.specs.Questions.{is_running, runs_as, passes_at, running, is_cancelling}
use Rattle.zk_model_work.specs.State.{State}
use Rattle.zk_model_work.specs.Machine.{disarm, work_next, work_machine}
use Rattle.zk_model_work.specs.Histories.{WorkHistory, IsFreshHistory, Cancels, IsBeingCancelled, running_after}
use Rattle.zk_model_work.proofs.Moves.{schedule-keeps, delayed-keeps}
use Rattle.zk_model_work.proofs.Outcomes.{kept-in_whole}
use Rattle.zk_model_work.proofs.Singles.{runs_is}
use Rattle.zk_model_work.proofs.Replies.{position-at}

-- the run that an operation finds, if it is a cancel
abbrev found_by : State → WorkOp → List ℕ
found_by s (Cancel item) = option_to_list (running s.admissions item)
found_by s (CancelStart item) = option_to_list (running s.admissions item)
found_by s op = []

marks-next : (s : State) (who : Who) (op : WorkOp) → (work_next s who op).marks ≡ s.marks ++ found_by s op
marks-next s who (Submit item named) = sym (append-nil s.marks)
marks-next s who (Cancel item) = refl
marks-next s who (CancelStart item) = refl
marks-next s who (CancelDone place) = sym (append-nil s.marks)
marks-next s who (FlushStart item) = sym (append-nil s.marks)
marks-next s who (FlushDone place) = sym (append-nil s.marks)
marks-next s who (Schedule item queue delay) =
    let same = sym (append-nil s.marks) in
    schedule-keeps (λ t. t.marks ≡ s.marks ++ []) s who item queue delay same same (λ free later. same)
marks-next s who (Reschedule item queue delay) =
    let same = sym (append-nil s.marks) in
    delayed-keeps (λ t. t.marks ≡ s.marks ++ []) (record s { arms = disarm s.arms item }) who item queue delay same
    (λ later. same)
marks-next s who (Remaining item) = sym (append-nil s.marks)
marks-next s who (Start queue) = sym (append-nil s.marks)
marks-next s who (DrainStart queue plug) = sym (append-nil s.marks)
marks-next s who (DrainDone place) = sym (append-nil s.marks)
marks-next s who (Unplug queue) = sym (append-nil s.marks)
marks-next s who (Stop queue) = sym (append-nil s.marks)
marks-next s who (Announce ticks) = sym (append-nil s.marks)
marks-next s who (Begin queue) = sym (append-nil s.marks)
marks-next s who (End queue) = sym (append-nil s.marks)

-- the runs that the cancels of a history find
abbrev found_in : State → WorkHistory → List ℕ
found_in s [] = []
found_in s (e ∷ es) = found_by s e.op ++ found_in (work_next s e.who e.op) es

marks-after : (s : State) (h : WorkHistory) → (state_after work_machine s h).marks ≡ s.marks ++ found_in s h
marks-after s [] = sym (append-nil s.marks)
marks-after s (e ∷ es) =
    marks-after (work_next s e.who e.op) es
    ∙ ap (λ (ms : List ℕ). ms ++ found_in (work_next s e.who e.op) es) (marks-next s e.who e.op)
    ∙ append_assoc s.marks (found_by s e.op) (found_in (work_next s e.who e.op) es)

-- a run that a cancel of the history found
record Found (s : State) (h : WorkHistory) (n : ℕ) : Type 0 where
  pub before : WorkHistory
  pub since : WorkHistory
  pub cancel : Entry WorkOp WorkReply
  pub item : ℕ
  pub parts : h ≡ before ++ cancel ∷ since
  pub cancels : Cancels item cancel.op
  pub found : running (state_after work_machine s before).admissions item ≡ Some n

-- what stands in the list of one that is there or not
only-one : (p : ℕ → Bool) (o : Option ℕ) → list_any p (option_to_list o) ≡ true → (n : ℕ) × (o ≡ Some n) × (p n ≡ true)
only-one p None is = absurd (cc)
only-one p (Some n) is = by (p n) refl is where
  by : (b : Bool) → p n ≡ b → (b || false) ≡ true → (m : ℕ) × (Some n ≡ Some m) × (p m ≡ true)
  by true passes is = (n, refl, passes)
  by false passes is = absurd (false≢true is)

found-here : (p : ℕ → Bool) (s : State) (op : WorkOp) → list_any p (found_by s op) ≡ true →
    (item n : ℕ) × (Cancels item op) × (running s.admissions item ≡ Some n) × (p n ≡ true)
found-here p s (Submit item named) is = absurd (cc)
found-here p s (Cancel item) is = let it = only-one p (running s.admissions item) is in (item, it.0, inl refl, it.1, it.2)
found-here p s (CancelStart item) is = let it = only-one p (running s.admissions item) is in (item, it.0, inr refl, it.1, it.2)
found-here p s (CancelDone place) is = absurd (cc)
found-here p s (FlushStart item) is = absurd (cc)
found-here p s (FlushDone place) is = absurd (cc)
found-here p s (Schedule item queue delay) is = absurd (cc)
found-here p s (Reschedule item queue delay) is = absurd (cc)
found-here p s (Remaining item) is = absurd (cc)
found-here p s (Start queue) is = absurd (cc)
found-here p s (DrainStart queue plug) is = absurd (cc)
found-here p s (DrainDone place) is = absurd (cc)
found-here p s (Unplug queue) is = absurd (cc)
found-here p s (Stop queue) is = absurd (cc)
found-here p s (Announce ticks) is = absurd (cc)
found-here p s (Begin queue) is = absurd (cc)
found-here p s (End queue) is = absurd (cc)

-- each of them was found by a cancel
any-found : (p : ℕ → Bool) (s : State) (h : WorkHistory) → list_any p (found_in s h) ≡ true → (n : ℕ) × (p n ≡ true) × Found s h n
any-found p s [] is = absurd (cc)
any-found p s (e ∷ es) is =
    by (list_any p (found_by s e.op)) refl
    (sym (list_any-append p (found_by s e.op) (found_in (work_next s e.who e.op) es))
    ∙ is) (any-found p (work_next s e.who e.op) es) where
      by : (b : Bool) → list_any p (found_by s e.op) ≡ b → (b || list_any p (found_in (work_next s e.who e.op) es)) ≡ true →
          (list_any p (found_in (work_next s e.who e.op) es) ≡ true →
          (n : ℕ) × (p n ≡ true) × Found (work_next s e.who e.op) es n) → (n : ℕ) × (p n ≡ true) × Found s (e ∷ es) n
      by true here is further =
          let it = found-here p s e.op here in
          (it.1, it.4, record { before = []; since = es; cancel = e; item = it.0; parts = refl; cancels = it.2; found = it.3 })
      by false here is further =
          let it = further is in (
            it.0,
            it.1,
            record {
              before = e ∷ it.2.before;
              since = it.2.since;
              cancel = it.2.cancel;
              item = it.2.item;
              parts = ap (λ (l : WorkHistory). e ∷ l) it.2.parts;
              cancels = it.2.cancels;
              found = it.2.found;
            },
          )

-- and each that was found is one of them
found-any : (p : ℕ → Bool) (s : State) (before since : WorkHistory) (cancel : Entry WorkOp WorkReply) (item n : ℕ) →
    Cancels item cancel.op →
    running (state_after work_machine s before).admissions item ≡ Some n → p n ≡ true →
    list_any p (found_in s (before ++ cancel ∷ since)) ≡ true
found-any p s [] since cancel item n cancels found passes =
    list_any-append p (found_by s cancel.op) (found_in (work_next s cancel.who cancel.op) since)
    ∙ ap (λ b. b || list_any p (found_in (work_next s cancel.who cancel.op) since)) (here cancels) where
      one : list_any p (option_to_list (running s.admissions item)) ≡ true
      one = ap (λ (o : Option ℕ). list_any p (option_to_list o)) found ∙ ap (λ b. b || false) passes

      here : (cancel.op ≡ Cancel item) ⊎ (cancel.op ≡ CancelStart item) → list_any p (found_by s cancel.op) ≡ true
      here (inl is) = ap (λ (o : WorkOp). list_any p (found_by s o)) is ∙ one
      here (inr is) = ap (λ (o : WorkOp). list_any p (found_by s o)) is ∙ one
found-any p s (e ∷ es) since cancel item n cancels found passes =
    list_any-append p (found_by s e.op) (found_in (work_next s e.who e.op) (es ++ cancel ∷ since))
    ∙ or-true (list_any p (found_by s e.op))
    (found-any p (work_next s e.who e.op) es since cancel item n cancels found passes) where
      or-true : (b : Bool) {c : Bool} → c ≡ true → (b || c) ≡ true
      or-true true is = refl
      or-true false is = is

-- the marks after a history
marks-are : (start : State) (h : WorkHistory) → IsFreshHistory start h →
    (state_after work_machine start h).marks ≡ found_in start h
marks-are start h fresh = marks-after start h ∙ ap (λ (ms : List ℕ). ms ++ found_in start h) fresh.marks

-- the admission of a number that passes
pub passes-there : (p : Admission → Bool) (xs : List Admission) (n : ℕ) → passes_at p xs n ≡ true →
    (a : Admission) × (slice_get xs n ≡ Some a) × (p a ≡ true)
passes-there p xs n is = by (slice_get xs n) refl is where
  by : (o : Option Admission) → slice_get xs n ≡ o → option_map_or p o false ≡ true →
      (a : Admission) × (slice_get xs n ≡ Some a) × (p a ≡ true)
  by None at is = absurd (cc)
  by (Some a) at is = (a, at, is)

-- an item is being cancelled just where an earlier cancel found a run of it that goes on
pub cancelling-is : (start : State) (h : WorkHistory) (item : ℕ) → IsFreshHistory start h →
    is_cancelling (state_after work_machine start h).admissions (state_after work_machine start h).marks item ≡ true →
    IsBeingCancelled start h item
cancelling-is start h item fresh is =
    let t = state_after work_machine start h in
    let p = passes_at (runs_as item) t.admissions in
    let it = any-found p start h (ap (list_any p) (sym (marks-are start h fresh)) ∙ is) in
    let there = passes-there (runs_as item) t.admissions it.0 it.1 in
    let a = there.0 in
    let was = position-at (runs_as it.2.item) (state_after work_machine start it.2.before).admissions it.0 it.2.found in
    let kept = kept-in_whole start h it.2.before (it.2.cancel ∷ it.2.since) it.0 was.0 it.2.parts was.1 in
    let same = same_Some kept.0 a (sym kept.1 ∙ there.1) in
    let first = eqb-true was.0.item it.2.item (first_so (eqb was.0.item it.2.item) (is_running was.0.life) was.2) in
    let now = eqb-true a.item item (first_so (eqb a.item item) (is_running a.life) there.2) in
    let item_is : it.2.item ≡ item = sym first ∙ sym kept.2.item ∙ ap (λ (b : Admission). b.item) same ∙ now in
    record {
      before = it.2.before;
      since = it.2.since;
      cancel = it.2.cancel;
      run = it.0;
      parts = it.2.parts;
      cancels = subst (λ i. Cancels i it.2.cancel.op) item_is it.2.cancels;
      found = ap (running_after start it.2.before) (sym item_is) ∙ it.2.found;
      runs = ap (option_map (λ (b : Admission). b.life)) there.1
          ∙ ap Some (runs_is a.life (second_so (eqb a.item item) (is_running a.life) there.2));
    }

pub is-cancelling : (start : State) (h : WorkHistory) (item : ℕ) → IsFreshHistory start h → IsBeingCancelled start h item →
    is_cancelling (state_after work_machine start h).admissions (state_after work_machine start h).marks item ≡ true
is-cancelling start h item fresh it =
    let t = state_after work_machine start h in
    let p = passes_at (runs_as item) t.admissions in
    let was = position-at (runs_as item) (state_after work_machine start it.before).admissions it.run it.found in
    let kept = kept-in_whole start h it.before (it.cancel ∷ it.since) it.run was.0 it.parts was.1 in
    let first = eqb-true was.0.item item (first_so (eqb was.0.item item) (is_running was.0.life) was.2) in
    let life : kept.0.life ≡ Running =
    same_Some kept.0.life Running (ap (option_map (λ (b : Admission). b.life)) (sym kept.1) ∙ it.runs) in
    let runs = and_from (eqb kept.0.item item) (is_running kept.0.life) (eq-eqb kept.0.item item (kept.2.item ∙ first))
    (ap is_running life) in
    let passes : p it.run ≡ true = ap (λ (o : Option Admission). option_map_or (runs_as item) o false) kept.1 ∙ runs in
    ap (list_any p) (marks-are start h fresh) ∙ ap (λ (l : WorkHistory). list_any p (found_in start l)) it.parts
    ∙ found-any p start it.before it.since it.cancel item it.run it.cancels it.found passes
