-- The engine answers what the machine does in each state that it stands for.
use Rattle.std.proofs.Common.{◌≡◌, ℕ, suc, Bool, true, false, ◌&&◌, cond, eqb, Option, Some, None, is_some, is_none, option_map, option_and_then, option_to_list, List, [], ◌∷◌, find, slice_get, refl, sym, ap, ◌∙◌, arith}
use Rattle.std.specs.Cmp.{first_so, second_so}
use Rattle.std.proofs.lemmas.Bool.{eqb-true}
use Rattle.std.proofs.lemmas.Option.{same_Some}
use Rattle.zk_base.specs.declared.ids.Who.{Who}
use Rattle.zk_model_work.specs.declared.parts.Admission.{Admission}
use Rattle.zk_model_work.specs.declared.parts.Queue.{Queue}
use Rattle.zk_model_work.specs.declared.ops.WorkReply.TheVariants.{Done, Run}
use Rattle.zk_model_work.specs.Lists.{first}
use Rattle.zk_model_work.specs.declared.parts.Item.{Item}
use Rattle.zk_model_work.specs.Questions.{is_running, runs_as, waits_for, runs_on, waiting, running, running_queue, last_queue, line, run, is_cancelling, item_of as machine_item}
use Rattle.zk_model_work.specs.Answers.{submission, is_worker}
use Rattle.zk_model_work.specs.Machine.{taken_up, may_begin, may_end}
use Rattle.zk_model_work.specs.State.{State}
use Rattle.zk_model_work.proofs.Lines.{first_of_places}
use Rattle.zk_model_work.proofs.Lives.{open-running}
use Rattle.zk_model_work.proofs.Overlaps.{position-none, found_queue}
use Rattle.zk_queue.specs.declared.ticket.Ticket.{Ticket}
use Rattle.zk_queue.specs.Open.{ItemMarks}
use Rattle.zk_queue.specs.Open as active
use Rattle.zk_work.specs.EngineState.{EngineState, last_of, IsSound, StandsFor}
use Rattle.zk_work.specs.Tickets.{tickets}
use Rattle.zk_work.specs.Engine.{item_of, answer_of}
use Rattle.zk_work.proofs.Tickets.{position-first, first_stands}
use Rattle.zk_work.proofs.Items.{found, queued, runs_now}

module _ (k : EngineState) (s : State) (st : StandsFor k s) where
  pub is_queued : (item : ℕ) → active.is_queued k.active item ≡ is_some (waiting s.admissions item)
  is_queued item = queued k.active s.admissions item st.admissions.lines

  pub runs_item : (item : ℕ) → active.is_running k.active item ≡ is_some (running s.admissions item)
  runs_item item = runs_now k.active s.admissions item st.admissions.runs

  pub cancels : (item : ℕ) → (active.marks_of k.active item).cancelling ≡ is_cancelling s.admissions s.marks item
  cancels item = ap (λ (m : ItemMarks). m.cancelling) (st.admissions.marks item)

find-none : (p : Admission → Bool) (xs : List Admission) →
    ((m : ℕ) (a : Admission) → slice_get xs m ≡ Some a → p a ≡ false) → find p xs ≡ None
find-none p [] none = refl
find-none p (x ∷ xs) none = ap (λ b. cond b (Some x) (find p xs)) (none 0 x refl) ∙ find-none p xs (λ m a at. none (suc m) a at)

-- an item that runs, runs on the queue of its last admission
pub running_queue-last : (items : ℕ) (xs : List Admission) (marks : List ℕ) (item : ℕ) → IsSound items xs marks →
    running_queue xs item ≡ cond (is_some (running xs item)) (last_queue xs item) None
running_queue-last items xs marks item sound = by (running xs item) refl where
  home : (m : ℕ) (b : Admission) → slice_get xs m ≡ Some b → runs_as item b ≡ true → last_queue xs item ≡ Some b.queue
  home m b at runs =
      ap (last_queue xs) (sym (eqb-true b.item item (first_so (eqb b.item item) (is_running b.life) runs)))
      ∙ sound.home m b at (open-running b.life (second_so (eqb b.item item) (is_running b.life) runs))

  by : (o : Option ℕ) → running xs item ≡ o → running_queue xs item ≡ cond (is_some o) (last_queue xs item) None
  by None is =
      ap (option_map (λ (a : Admission). a.queue))
      (find-none (runs_as item) xs (λ m a at. position-none (runs_as item) xs m a is at))
  by (Some n) is =
      let it = found (runs_as item) xs n is in
      let last = home it.place it.admission it.there it.passes in
      found_queue (runs_as item) xs it.admission.queue it.place it.admission
      (λ m b at runs. same_Some b.queue it.admission.queue (sym (home m b at runs) ∙ last)) it.there it.passes
      ∙ sym last

module _ (k : EngineState) (s : State) (st : StandsFor k s) where
  -- the item is asked alike
  pub item-same : (item : ℕ) → item_of k item ≡ machine_item s.admissions s.marks item
  item-same item =
      let runs = runs_item k s st item in
      let last = st.admissions.last item in
      let home : cond (active.is_running k.active item) (last_of k item) None ≡ running_queue s.admissions item =
      ap (λ b. cond b (last_of k item) None) runs ∙ ap (λ (l : Option ℕ). cond (is_some (running s.admissions item)) l None) last
      ∙ sym (running_queue-last s.items s.admissions s.marks item st.admissions.sound) in
      cc (cancels k s st item, is_queued k s st item, runs, home, last, st.admissions.made)

  -- the answer to a submission
  pub answer-same : (caller : Option ℕ) (item : ℕ) (named : Option ℕ) →
      answer_of k caller item named ≡ submission (machine_item s.admissions s.marks item) s.queues caller named
  answer-same caller item named =
      ap (λ (i : Item). submission i k.queues caller named) (item-same item)
      ∙ ap (λ (qs : List Queue). submission (machine_item s.admissions s.marks item) qs caller named) st.queues

  -- what a queue runs, and the first in its line
  run-same : (queue : ℕ) → run s.admissions queue ≡ option_map (λ (t : Ticket). t.number) (active.run k.active queue)
  run-same queue =
      position-first (runs_on queue) s.admissions
      ∙ ap (λ (ts : List Ticket). option_map (λ (t : Ticket). t.number) (first ts)) (sym (st.admissions.runs queue))
      ∙ only (active.run k.active queue) where
        only : (o : Option Ticket) →
            option_map (λ (t : Ticket). t.number) (first (option_to_list o)) ≡ option_map (λ (t : Ticket). t.number) o
        only None = refl
        only (Some t) = refl

-- what is taken up
taken-same : (queue : ℕ) (xs : List Admission) →
    option_map (λ (t : Ticket). Run t.item t.number) (first (tickets (waits_for queue) xs)) ≡ taken_up xs queue
taken-same queue xs =
    by (first (tickets (waits_for queue) xs)) refl
    ∙ ap (option_and_then (λ number. option_map (λ (a : Admission). Run a.item number) (slice_get xs number)))
    (sym first-same) where
      first-same : first (line xs queue) ≡ option_map (λ (t : Ticket). t.number) (first (tickets (waits_for queue) xs))
      first-same = sym (first_of_places (waits_for queue) xs) ∙ position-first (waits_for queue) xs

      by : (o : Option Ticket) → first (tickets (waits_for queue) xs) ≡ o →
          option_map (λ (t : Ticket). Run t.item t.number) o
          ≡ option_and_then (λ number. option_map (λ (a : Admission). Run a.item number) (slice_get xs number))
          (option_map (λ (t : Ticket). t.number) o)
      by None is = refl
      by (Some t) is =
          let st = first_stands 0 (waits_for queue) xs t is in
          let number = st.number in
          let place : st.place ≡ t.number = omega arith in
          let there : slice_get xs t.number ≡ Some st.admission = ap (slice_get xs) (sym place) ∙ st.there in
          sym (ap (option_map (λ (a : Admission). Run a.item t.number)) there ∙ ap (λ i. Some (Run i t.number)) st.item)

-- a begin
pub begin-same : (k : EngineState) (s : State) (st : StandsFor k s) (who : Who) (queue : ℕ) →
    cond (is_worker k.queues queue who.number)
    (option_map (λ (t : Ticket). Run t.item t.number) (active.next k.active queue)) None
    ≡ cond (may_begin s.admissions s.queues who queue) (taken_up s.admissions queue) None
begin-same k s st who queue =
    ap (λ (qs : List Queue). cond (is_worker qs queue who.number)
    (option_map (λ (t : Ticket). Run t.item t.number) (active.next k.active queue)) None) st.queues
    ∙ by (active.run k.active queue) (is_worker s.queues queue who.number)
    ∙ ap (λ (o : Option ℕ). cond (is_worker s.queues queue who.number && is_none o) (taken_up s.admissions queue) None)
    (sym (run-same k s st queue)) where
      lowest : option_map (λ (t : Ticket). Run t.item t.number) (first (active.line k.active queue)) ≡ taken_up s.admissions queue
      lowest = ap (λ (ts : List Ticket). option_map (λ (t : Ticket). Run t.item t.number) (first ts))
          (st.admissions.lines queue) ∙ taken-same queue s.admissions

      by : (r : Option Ticket) (b : Bool) →
          cond b (option_map (λ (t : Ticket). Run t.item t.number) (active.if_free r (first (active.line k.active queue)))) None
          ≡ cond (b && is_none (option_map (λ (t : Ticket). t.number) r)) (taken_up s.admissions queue) None
      by None true = lowest
      by None false = refl
      by (Some t) true = refl
      by (Some t) false = refl

-- an end
pub end-same : (k : EngineState) (s : State) (st : StandsFor k s) (who : Who) (queue : ℕ) →
    cond (is_worker k.queues queue who.number) (option_map (λ (t : Ticket). Done) (active.run k.active queue)) None
    ≡ cond (may_end s.admissions s.queues who queue) (Some Done) None
end-same k s st who queue =
    ap (λ (qs : List Queue). cond (is_worker qs queue who.number)
    (option_map (λ (t : Ticket). Done) (active.run k.active queue)) None) st.queues
    ∙ by (active.run k.active queue) (is_worker s.queues queue who.number)
    ∙ ap (λ (o : Option ℕ). cond (is_worker s.queues queue who.number && is_some o) (Some Done) None)
    (sym (run-same k s st queue)) where
      by : (r : Option Ticket) (b : Bool) →
          cond b (option_map (λ (t : Ticket). Done) r) None
          ≡ cond (b && is_some (option_map (λ (t : Ticket). t.number) r)) (Some Done) None
      by None true = refl
      by None false = refl
      by (Some t) true = refl
      by (Some t) false = refl
