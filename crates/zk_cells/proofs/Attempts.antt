-- From an attempt at one service to the attempt of a step.
use Rattle.std.proofs.Common.{◌≡◌, ℕ, ◌+◌, ◌<◌, ◌≤◌, Bool, true, false, Some, None, Ok, Err, Option, Result, List, [], ◌∷◌, ◌++◌, length, refl, sym, ap, subst, ◌∙◌, arith, cond, nat_lt}
use Rattle.std.specs.Option.{option_map}
use Rattle.std.proofs.lemmas.Bool.{ltb-true}
use Rattle.zk_base.specs.declared.ids.Who.{Who}
use Rattle.zk_base.specs.declared.ids.Entry.{Entry}
use Rattle.zk_base.specs.declared.errors.NoMemory.{NoMemory}
use Rattle.zk_base.specs.Legal.{Machine, state_after}
use Rattle.zk_base.specs.History.{entry}
use Rattle.zk_base.specs.Causes.{counted}
use Rattle.zk_worker.specs.declared.steps.Step.{Step}
use Rattle.zk_worker.specs.declared.steps.StepReply.{StepReply}
use Rattle.zk_worker.specs.Single.{answer_in, OthersGrew}
use Rattle.zk_worker.specs.Families.{Family, with_entry, answer_at, EachGrew}
use Rattle.zk_worker.specs.Machines.{Machines}
use Rattle.zk_worker.specs.Shown.{Shown, shown_after, AllGrew}
use Rattle.zk_worker.specs.Attempt.{reply_in, Attempted, ReadsAt, Counts, KeepsElsewhere}
use Rattle.std.specs.Result.{IsErr, OnErr}
use Rattle.std.specs.Option.{option_map_or}
use Rattle.zk_model_work.specs.declared.ops.WorkOp.{WorkOp}
use Rattle.zk_model_work.specs.declared.ops.WorkOp.TheVariants as work_ops
use Rattle.zk_model_work.specs.declared.ops.WorkReply.{WorkReply}
use Rattle.zk_model_work.specs.Machine.{work_machine, in_range, flags_of}
use Rattle.zk_model_work.specs.State.{State}
use Rattle.zk_work.specs.declared.work.Work.{Work}
use Rattle.zk_work.specs.Seen.{work_start}
use Rattle.zk_work.specs.Words.{work_word, most_items}
use Rattle.zk_work.proofs.Owed.{ranges}
use Rattle.zk_turn.specs.declared.pass.Pass.{Pass}
use Rattle.zk_turn.specs.Passes.{given_to}
use Rattle.zk_worker.specs.declared.steps.Step.TheVariants as steps
use Rattle.zk_worker.specs.declared.steps.StepReply.TheVariants as step_replies
use Rattle.zk_worker.specs.Machines.{item_of}
use Rattle.zk_worker.specs.Attempt.{IsMade, is_in_range}
use Rattle.zk_cells.specs.declared.cells.Cells.{Cells}
use Rattle.zk_cells.specs.declared.passes.Passes.{Passes}
use Rattle.zk_cells.specs.Desks.{cells_machines, desk_shown}
use Rattle.zk_visit.specs.Seats.{Visited, seen_at}
use Rattle.zk_cells.specs.Rows.{VisitedAt}
use Rattle.zk_cells.specs.Memory.{wants_none}
use Rattle.zk_cells.proofs.Desks.{grows-work}

-- an attempt at a service of which there is one: what is shown is `write` of its history
module _ {S O R : Type 0} (machine : Machine S O R) (start : S) (m : Machines) (who : Who) (number : ℕ) (op : O) (step : Step) (tell : R → ℕ → StepReply) (old : Shown) (write : List (Entry O R) → Shown) (h : List (Entry O R))
    (grows : (h' : List (Entry O R)) → OthersGrew who.number h h' → AllGrew who.number old (write h'))
    (answers : (h' : List (Entry O R)) → reply_in m (write h') who step ≡ answer_in machine start h' tell who op)
    (reads : (h' : List (Entry O R)) (r : R) (place : ℕ) → ReadsAt (write h') step (tell r place))
    (adds : (h' : List (Entry O R)) (r : R) (place : ℕ) → shown_after (write h') who number step (tell r place) ≡ write (h' ++ entry who number op r ∷ [])) where
  made-one : (h' : List (Entry O R)) (made : Option (R × ℕ)) → Visited machine start who number op h h' (Ok made) → Attempted false m who number step old (write h') (Ok (option_map (λ (made : R × ℕ). tell made.0 made.1) made))
  made-one h' None visited = (grows h' visited.0, answers h' ∙ ap (option_map (λ reply. tell reply (length h'))) visited.1)
  made-one h' (Some made) visited = record {
    found = write visited.found;
    since = grows visited.found visited.since;
    replied = answers visited.found ∙ ap (option_map (λ reply. tell reply (length visited.found))) visited.replied ∙ ap (λ (n : ℕ). Some (tell made.0 n)) (sym visited.at_place);
    read_at = reads visited.found made.0 made.1;
    shown = ap write visited.entered ∙ sym (adds visited.found made.0 made.1);
  }

  pub attempted-one : (h' : List (Entry O R)) (made : Option (R × ℕ)) (step' : Step) (told : Option StepReply) → Visited machine start who number op h h' (Ok made) →
      step' ≡ step → option_map (λ (made : R × ℕ). tell made.0 made.1) made ≡ told → Attempted false m who number step' old (write h') (Ok told)
  attempted-one h' made step' told visited asked tells =
      subst (λ (s : Step). Attempted false m who number s old (write h') (Ok told)) (sym asked)
      (subst (λ (o : Option StepReply). Attempted false m who number step old (write h') (Ok o)) tells (made-one h' made visited))

-- an attempt at one of the objects of a kind: what is shown is `write` of their histories
module _ {S O R : Type 0} (f : Family S O R) (m : Machines) (who : Who) (number object : ℕ) (op : O) (step : Step) (tell : ℕ → R → ℕ → StepReply) (old : Shown) (write : List (List (Entry O R)) → Shown) (hs : List (List (Entry O R)))
    (grows : (hs' : List (List (Entry O R))) → EachGrew who.number hs hs' → AllGrew who.number old (write hs'))
    (answers : (hs' : List (List (Entry O R))) → reply_in m (write hs') who step ≡ answer_at f hs' tell who object op)
    (reads : (hs' : List (List (Entry O R))) (r : R) (place : ℕ) → ReadsAt (write hs') step (tell object r place))
    (adds : (hs' : List (List (Entry O R))) (r : R) (place : ℕ) → shown_after (write hs') who number step (tell object r place) ≡ write (with_entry hs' object (entry who number op r))) where
  made-many : (hs' : List (List (Entry O R))) (made : Option (R × ℕ)) → VisitedAt f who number object op hs hs' (Ok made) → Attempted false m who number step old (write hs') (Ok (option_map (λ (made : R × ℕ). tell object made.0 made.1) made))
  made-many hs' None visited = (grows hs' visited.0, answers hs' ∙ visited.1 tell)
  made-many hs' (Some made) visited = record {
    found = write visited.found;
    since = grows visited.found visited.since;
    replied = answers visited.found ∙ visited.replied tell;
    read_at = reads visited.found made.0 made.1;
    shown = ap write visited.entered ∙ sym (adds visited.found made.0 made.1);
  }

  pub attempted-many : (hs' : List (List (Entry O R))) (made : Option (R × ℕ)) (step' : Step) (told : Option StepReply) → VisitedAt f who number object op hs hs' (Ok made) →
      step' ≡ step → option_map (λ (made : R × ℕ). tell object made.0 made.1) made ≡ told → Attempted false m who number step' old (write hs') (Ok told)
  attempted-many hs' made step' told visited asked tells =
      subst (λ (s : Step). Attempted false m who number s old (write hs') (Ok told)) (sym asked)
      (subst (λ (o : Option StepReply). Attempted false m who number step old (write hs') (Ok o)) tells (made-many hs' made visited))

-- want of memory leaves entries of others at most
pub when-err : (m : Machines) (who : Who) (number : ℕ) (step : Step) (old new : Shown) (result : Result (Option StepReply) NoMemory) → IsErr result → AllGrew who.number old new →
    Attempted false m who number step old new result
when-err m who number step old new (Ok reply) err grew = absurd (cc)
when-err m who number step old new (Err e) err grew = grew

-- a step that wanted memory is none of those that want none
pub none-wanted : (m : Machines) (shown : Shown) (who : Who) (step asked : Step) (result : Result (Option StepReply) NoMemory) → asked ≡ step → wants_none m shown who step ≡ false →
    OnErr result (wants_none m shown who asked ≡ false)
none-wanted m shown who step asked (Ok reply) is none = tt
none-wanted m shown who step asked (Err e) is none = ap (wants_none m shown who) is ∙ none

-- and it is told of the kernel's machines and the caller's player
pub memory-told : (m machines : Machines) (shown : Shown) (w who : Who) (step : Step) (result : Result (Option StepReply) NoMemory) → m ≡ machines → w ≡ who → wants_none m shown w step ≡ false →
    OnErr result (wants_none machines shown who step ≡ false)
memory-told m machines shown w who step (Ok reply) same is none = tt
memory-told m machines shown w who step (Err e) same is none =
    sym (ap (λ (m : Machines). wants_none m shown w step) same ∙ ap (λ (w : Who). wants_none machines shown w step) is) ∙ none

-- what it leaves elsewhere is told of the step in the code, and so is what it counts
pub kept-elsewhere : (step asked : Step) (old new : Shown) → asked ≡ step → KeepsElsewhere step old new → KeepsElsewhere asked old new
kept-elsewhere step asked old new is kept = subst (λ (s : Step). KeepsElsewhere s old new) (sym is) kept

pub counted-once : (step asked : Step) (old new : Counts) → asked ≡ step → new step ≡ counted (old step) → new asked ≡ counted (old asked)
counted-once step asked old new is once = subst (λ (s : Step). new s ≡ counted (old s)) (sym is) once

-- looks
in_range-after : (start : State) (h : List (Entry WorkOp WorkReply)) → in_range (state_after work_machine start h) ≡ in_range start
in_range-after start [] = refl
in_range-after start (e ∷ es) = in_range-after (work_machine.next start e.who e.op) es ∙ ranges start e.who e.op

-- an item that may be looked at is in range
item-in-range : (start : State) (item : ℕ) (o : Option ℕ) → o ≡ Some item → option_map_or (λ i. in_range start (work_ops.Remaining i)) o false ≡ true → in_range start (work_ops.Remaining item) ≡ true
item-in-range start item o is taken = sym (ap (λ (o : Option ℕ). option_map_or (λ i. in_range start (work_ops.Remaining i)) o false) is) ∙ taken

-- the word of an item that is in range is its flags
flags-told : (start : State) (h : List (Entry WorkOp WorkReply)) (item word : ℕ) (o : Option ℕ) → o ≡ Some item → option_map_or (λ i. in_range start (work_ops.Remaining i)) o false ≡ true →
    word ≡ work_word (state_after work_machine start h) item → option_map (flags_of (state_after work_machine start h)) o ≡ Some word
flags-told start h item word o is taken told =
    ap (option_map (flags_of (state_after work_machine start h))) is
    ∙ ap (λ (n : ℕ). Some n) (sym (told ∙ ap (λ (b : Bool). cond b (flags_of (state_after work_machine start h) item) 0) within))
  where
    within : nat_lt item (state_after work_machine start h).items ≡ true
    within = ap (λ (f : WorkOp → Bool). f (work_ops.Remaining item)) (in_range-after start h) ∙ item-in-range start item o is taken

-- and it has a word, where each item has one
pub item-has-word : (k : Cells) (object item : ℕ) → item_of (cells_machines k) object ≡ Some item → is_in_range (cells_machines k) (steps.LookItem object) ≡ true →
    (work_start (given_to k.work)).items ≤ most_items → item < most_items
item-has-word k object item is taken few =
    let start = work_start (given_to k.work) in
    let within = ltb-true item start.items (item-in-range start item (item_of (cells_machines k) object) is taken) in
    omega arith

-- a look at an item, which takes no turn
pub looked-item : (k : Cells) (p : Passes) (who : Who) (number object item word at : ℕ) (step : Step) (seat : Option (Pass Work WorkOp WorkReply State)) → OthersGrew who.number (seen_at p.work) (seen_at seat) →
    item_of (cells_machines k) object ≡ Some item → is_in_range (cells_machines k) (steps.LookItem object) ≡ true →
    word ≡ work_word (state_after work_machine (work_start (given_to k.work)) (seen_at seat)) item → at ≡ length (seen_at seat) → step ≡ steps.LookItem object →
    IsMade false (cells_machines k) who number step (step_replies.Flags word at) (desk_shown p) (desk_shown (record p { work = seat; looked = number + 1 }))
looked-item k p who number object item word at step seat grew is taken told end asked =
    subst (λ (s : Step). IsMade false (cells_machines k) who number s (step_replies.Flags word at) (desk_shown p) (desk_shown (record p { work = seat; looked = number + 1 }))) (sym asked) (record {
      found = desk_shown (record p { work = seat });
      since = grows-work who.number (desk_shown p) (seen_at seat) grew;
      replied = ap (option_map (λ flags. step_replies.Flags flags (length (seen_at seat)))) (flags-told (work_start (given_to k.work)) (seen_at seat) item word (item_of (cells_machines k) object) is taken told)
          ∙ ap (λ (n : ℕ). Some (step_replies.Flags word n)) (sym end);
      read_at = tt;
      shown = refl;
    })
