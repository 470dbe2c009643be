-- What the open admissions say of an item: whether it waits, and whether it runs.
use Rattle.std.proofs.Common.{◌≡◌, ℕ, zero, suc, ◌+◌, ◌<◌, ◌≤◌, Bool, true, false, ◌&&◌, ◌⊎◌, inl, inr, leb, cond, eqb, Option, Some, None, is_some, option_map, option_to_list, List, [], ◌∷◌, length, get_or, find, slice_get, refl, sym, ap, ◌∙◌, arith}
use Rattle.std.specs.Cmp.{first_so, second_so}
use Rattle.std.specs.List.{position}
use Rattle.std.specs.Option.{option_or}
use Rattle.std.proofs.lemmas.Bool.{eqb-true, eq-eqb, false≢true, and_from}
use Rattle.std.proofs.lemmas.Bool.Decides.{leb_tells}
use Rattle.std.proofs.lemmas.List.{get_or_past, get_or_default}
use Rattle.std.proofs.lemmas.List.Folds.{list_any_none, list_any_at}
use Rattle.std.proofs.lemmas.List.Quantifiers.{position-Some}
use Rattle.std.proofs.lemmas.Option.{same_Some, slice_get-get_or}
use Rattle.zk_model_work.specs.declared.parts.Admission.{Admission}
use Rattle.zk_model_work.specs.declared.parts.Life.TheVariants.{Waiting}
use Rattle.zk_model_work.specs.Lists.{first}
use Rattle.zk_model_work.specs.Questions.{is_waiting, is_running, waits_as, runs_as, waits_for, runs_on, waiting, running}
use Rattle.zk_model_work.proofs.Overlaps.{position-none}
use Rattle.zk_queue.specs.declared.ticket.Ticket.{Ticket}
use Rattle.zk_queue.specs.Line.{is_of, number_in, number_among}
use Rattle.zk_queue.specs.Open.{Open, line, run, is_run_of, is_queued}
use Rattle.zk_queue.specs.Open as active
use Rattle.zk_work.specs.Tickets.{tickets_from, tickets}
use Rattle.zk_work.proofs.Tickets.{ticket, tickets-none, tickets-one, first_stands}

-- the admission that a search finds
pub record Found (p : Admission → Bool) (xs : List Admission) : Type 0 where
  pub place : ℕ
  pub admission : Admission
  pub there : slice_get xs place ≡ Some admission
  pub passes : p admission ≡ true

pub found : (p : Admission → Bool) (xs : List Admission) (n : ℕ) → position p xs ≡ Some n → Found p xs
found p xs n is =
    let none : Admission = record { item = 0; queue = 0; life = Waiting } in
    let at = position-Some p xs n none is in
    record { place = n; admission = get_or xs n none; there = slice_get-get_or xs n none at.0; passes = at.1 }

-- a number in one line is a number among the lines
among-some : (item queue : ℕ) (lines : List (List Ticket)) → is_some (number_in item (get_or lines queue [])) ≡ true →
    is_some (number_among item lines) ≡ true
among-some item queue [] is = absurd (cc)
among-some item zero (l ∷ lines) is = by (number_in item l) is where
  by : (o : Option ℕ) → is_some o ≡ true → is_some (option_or o (number_among item lines)) ≡ true
  by None is = absurd (cc)
  by (Some n) is = refl
among-some item (suc queue) (l ∷ lines) is = by (number_in item l) (among-some item queue lines is) where
  by : (o : Option ℕ) → is_some (number_among item lines) ≡ true → is_some (option_or o (number_among item lines)) ≡ true
  by None is = is
  by (Some n) is = refl

among-none : (item : ℕ) (lines : List (List Ticket)) → ((queue : ℕ) → number_in item (get_or lines queue []) ≡ None) →
    number_among item lines ≡ None
among-none item [] none = refl
among-none item (l ∷ lines) none =
    ap (λ (o : Option ℕ). option_or o (number_among item lines)) (none 0) ∙ among-none item lines (λ queue. none (suc queue))

in-cond : (item : ℕ) (b : Bool) (t : Ticket) (ts : List Ticket) →
    number_in item (cond b (t ∷ ts) ts)
    ≡ cond b (option_map (λ (t : Ticket). t.number) (cond (is_of item t) (Some t) (find (is_of item) ts))) (number_in item ts)
in-cond item true t ts = refl
in-cond item false t ts = refl

-- an admission of the item that waits has its ticket in the line of its queue
in-some : (item n : ℕ) (xs : List Admission) (m : ℕ) (a : Admission) → slice_get xs m ≡ Some a → waits_as item a ≡ true →
    is_some (number_in item (tickets_from n (waits_for a.queue) xs)) ≡ true
in-some item n [] m a at waits = absurd (cc)
in-some item n (x ∷ xs) zero a at waits =
    let same = same_Some x a at in
    let on : waits_for a.queue x ≡ true =
    ap (waits_for a.queue) same
    ∙ and_from (eqb a.queue a.queue) (is_waiting a.life) (eq-eqb a.queue a.queue refl)
    (second_so (eqb a.item item) (is_waiting a.life) waits) in
    let of : eqb x.item item ≡ true =
    ap (λ (b : Admission). eqb b.item item) same ∙ first_so (eqb a.item item) (is_waiting a.life) waits in
    ap is_some (in-cond item (waits_for a.queue x) (ticket x n) (tickets_from (n + 1) (waits_for a.queue) xs))
    ∙ here (waits_for a.queue x) (eqb x.item item) on of where
      here : (b c : Bool) → b ≡ true → c ≡ true →
          is_some (cond b (option_map (λ (t : Ticket). t.number)
          (cond c (Some (ticket x n)) (find (is_of item) (tickets_from (n + 1) (waits_for a.queue) xs))))
          (number_in item (tickets_from (n + 1) (waits_for a.queue) xs))) ≡ true
      here true true on of = refl
      here true false on of = absurd (cc)
      here false c on of = absurd (cc)
in-some item n (x ∷ xs) (suc m) a at waits =
    ap is_some (in-cond item (waits_for a.queue x) (ticket x n) (tickets_from (n + 1) (waits_for a.queue) xs))
    ∙ here (waits_for a.queue x) (eqb x.item item) (find (is_of item) (tickets_from (n + 1) (waits_for a.queue) xs))
    (in-some item (n + 1) xs m a at waits) where
      here : (b c : Bool) (o : Option Ticket) → is_some (option_map (λ (t : Ticket). t.number) o) ≡ true →
          is_some (cond b (option_map (λ (t : Ticket). t.number) (cond c (Some (ticket x n)) o))
          (option_map (λ (t : Ticket). t.number) o)) ≡ true
      here true true o is = refl
      here true false o is = is
      here false c o is = is

-- an item that doesn't wait has no ticket in any line
in-none : (item queue n : ℕ) (xs : List Admission) →
    ((m : ℕ) (a : Admission) → slice_get xs m ≡ Some a → waits_as item a ≡ false) →
    number_in item (tickets_from n (waits_for queue) xs) ≡ None
in-none item queue n [] none = refl
in-none item queue n (x ∷ xs) none =
    in-cond item (waits_for queue x) (ticket x n) (tickets_from (n + 1) (waits_for queue) xs)
    ∙ here (eqb x.queue queue) (is_waiting x.life) (eqb x.item item)
    (find (is_of item) (tickets_from (n + 1) (waits_for queue) xs)) (none 0 x refl)
    (in-none item queue (n + 1) xs (λ m a at. none (suc m) a at)) where
      here : (q w i : Bool) (o : Option Ticket) → (i && w) ≡ false → option_map (λ (t : Ticket). t.number) o ≡ None →
          cond (q && w) (option_map (λ (t : Ticket). t.number) (cond i (Some (ticket x n)) o))
          (option_map (λ (t : Ticket). t.number) o) ≡ None
      here true true true o not_here is = absurd (cc)
      here true true false o not_here is = is
      here true false i o not_here is = is
      here false w i o not_here is = is

-- the lines say whether the item waits
pub queued : (o : Open) (xs : List Admission) (item : ℕ) → ((queue : ℕ) → line o queue ≡ tickets (waits_for queue) xs) →
    is_queued o item ≡ is_some (waiting xs item)
queued o xs item lines = by (waiting xs item) refl where
  by : (place : Option ℕ) → waiting xs item ≡ place → is_queued o item ≡ is_some place
  by None is =
      ap is_some (among-none item o.lines (λ queue. ap (number_in item) (lines queue)
      ∙ in-none item queue 0 xs (λ m a at. position-none (waits_as item) xs m a is at)))
  by (Some n) is =
      let it = found (waits_as item) xs n is in
      among-some item it.admission.queue o.lines
      (ap (λ (l : List Ticket). is_some (number_in item l)) (lines it.admission.queue)
      ∙ in-some item 0 xs it.place it.admission it.there it.passes)

-- a queue that runs an admission has its ticket
pub run_of : (o : Option Ticket) (queue : ℕ) (xs : List Admission) (m : ℕ) (a : Admission) →
    option_to_list o ≡ tickets (runs_on queue) xs → slice_get xs m ≡ Some a → runs_on queue a ≡ true → o ≡ Some (ticket a m)
run_of None queue xs m a same at runs = absurd (false≢true (sym (tickets-none 0 (runs_on queue) xs m a (sym same) at) ∙ runs))
run_of (Some t) queue xs m a same at runs =
    let number : 0 + m ≡ m = omega arith in
    ap Some (tickets-one 0 (runs_on queue) xs m a t (sym same) at runs ∙ ap (ticket a) number)

run_within : (runs : List (Option Ticket)) (queue : ℕ) (t : Ticket) → get_or runs queue None ≡ Some t → queue < length runs
run_within runs queue t is = by (leb_tells (length runs) queue) where
  by : ((leb (length runs) queue ≡ true) × (length runs ≤ queue))
      ⊎ ((leb (length runs) queue ≡ false) × (queue < length runs)) → queue < length runs
  by (inl past) = absurd (none (get_or_past runs queue None past.1) is) where
    none : get_or runs queue None ≡ None → get_or runs queue None ≡ Some t → ⊥
    none one other = cc
  by (inr inside) = inside.1

-- the runs say whether the item runs
pub runs_now : (o : Open) (xs : List Admission) (item : ℕ) →
    ((queue : ℕ) → option_to_list (run o queue) ≡ tickets (runs_on queue) xs) →
    active.is_running o item ≡ is_some (running xs item)
runs_now o xs item runs = by (running xs item) refl where
  -- a queue that runs none of the item
  other : ((m : ℕ) (a : Admission) → slice_get xs m ≡ Some a → runs_as item a ≡ false) → (queue : ℕ) (r : Option Ticket) →
      option_to_list r ≡ tickets (runs_on queue) xs → is_run_of item r ≡ false
  other none queue None same = refl
  other none queue (Some t) same =
      let s = first_stands 0 (runs_on queue) xs t (ap first (sym same)) in
      not_of (eqb t.item item) refl (λ is. false≢true (sym (none s.place s.admission s.there)
      ∙ and_from (eqb s.admission.item item) (is_running s.admission.life) (eq-eqb s.admission.item item (s.item
      ∙ eqb-true t.item item is)) (second_so (eqb s.admission.queue queue) (is_running s.admission.life) s.passes))) where
        not_of : (b : Bool) → eqb t.item item ≡ b → (eqb t.item item ≡ true → ⊥) → b ≡ false
        not_of true is wrong = absurd (wrong is)
        not_of false is wrong = refl

  by : (place : Option ℕ) → running xs item ≡ place → active.is_running o item ≡ is_some place
  by None is = list_any_none (is_run_of item) o.runs (λ queue d within.
      ap (is_run_of item) (get_or_default o.runs queue d None within)
      ∙ other (λ m a at. position-none (runs_as item) xs m a is at) queue (run o queue) (runs queue))
  by (Some n) is =
      let it = found (runs_as item) xs n is in
      let a = it.admission in
      let on = and_from (eqb a.queue a.queue) (is_running a.life) (eq-eqb a.queue a.queue refl)
      (second_so (eqb a.item item) (is_running a.life) it.passes) in
      let runs_it = run_of (run o a.queue) a.queue xs it.place a (runs a.queue) it.there on in
      list_any_at (is_run_of item) o.runs a.queue None (run_within o.runs a.queue (ticket a it.place) runs_it)
      (ap (is_run_of item) runs_it ∙ first_so (eqb a.item item) (is_running a.life) it.passes)
