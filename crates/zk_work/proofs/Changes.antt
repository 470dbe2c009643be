-- What a drop, a begin and an end make of the tickets and of the counts.
use Rattle.std.proofs.Common.{◌≡◌, ℕ, zero, suc, ◌+◌, ◌≤◌, ◌≢◌, Bool, true, false, not, ◌&&◌, cond, eqb, ◌==◌, Some, List, [], ◌∷◌, length, map, slice_get, count_by, refl, sym, ap, ◌∙◌, add-zero, arith}
use Rattle.std.specs.Cmp.{first_so, second_so}
use Rattle.std.specs.List.{list_all}
use Rattle.std.proofs.lemmas.Bool.{eqb-true, eq-eqb, cond-false}
use Rattle.std.proofs.lemmas.Bool.Decides.{nat_tests}
use Rattle.std.proofs.lemmas.Option.{same_Some}
use Rattle.zk_model_work.specs.declared.parts.Life.{Life}
use Rattle.zk_model_work.specs.declared.parts.Life.TheVariants.{Waiting, Running, Ended, Dropped}
use Rattle.zk_model_work.specs.declared.parts.Admission.{Admission}
use Rattle.zk_model_work.specs.Questions.{is_waiting, is_running, is_open, waits_as, runs_as, waits_for, runs_on, is_open_at, weight}
use Rattle.zk_model_work.specs.Machine.{with_life, set_life, drop_one, end_one}
use Rattle.zk_queue.specs.declared.ticket.Ticket.{Ticket}
use Rattle.zk_queue.specs.Line.{is_of, without}
use Rattle.zk_work.specs.Tickets.{tickets_from}
use Rattle.zk_work.proofs.Tickets.{ticket, count-cons, none_behind, less_behind, none_here, count-some}

-- an admission that ends or is dropped

not_waiting_for : (queue : ℕ) (a : Admission) (life : Life) → is_waiting life ≡ false → waits_for queue (with_life life a) ≡ false
not_waiting_for queue a life is = by (eqb a.queue queue) where
  by : (b : Bool) → (b && is_waiting life) ≡ false
  by true = is
  by false = refl

-- where the item doesn't wait, its drop changes nothing
pub drop-none : (item : ℕ) (xs : List Admission) → count_by (waits_as item) xs ≡ 0 → map (drop_one item) xs ≡ xs
drop-none item [] none = refl
drop-none item (x ∷ xs) none =
    let both = none_here (waits_as item) x xs none in
    ap (λ (a : Admission). a ∷ map (drop_one item) xs) (cond-false (waits_as item x) (with_life Dropped x) x both.0)
    ∙ ap (λ (ys : List Admission). x ∷ ys) (drop-none item xs both.1)

-- the line without the item's ticket, by its first admission
without-cond : (item : ℕ) (b : Bool) (t : Ticket) (ts : List Ticket) →
    without item (cond b (t ∷ ts) ts) ≡ cond b (cond (is_of item t) ts (t ∷ without item ts)) (without item ts)
without-cond item true t ts = refl
without-cond item false t ts = refl

-- nor are there tickets of it
pub without-none : (item queue n : ℕ) (xs : List Admission) → count_by (waits_as item) xs ≡ 0 →
    without item (tickets_from n (waits_for queue) xs) ≡ tickets_from n (waits_for queue) xs
without-none item queue n [] none = refl
without-none item queue n (x ∷ xs) none =
    let both = none_here (waits_as item) x xs none in
    without-cond item (waits_for queue x) (ticket x n) (tickets_from (n + 1) (waits_for queue) xs)
    ∙ by (eqb x.queue queue) (is_waiting x.life) (eqb x.item item) (tickets_from (n + 1) (waits_for queue) xs) both.0
    (without-none item queue (n + 1) xs both.1) where
      by : (q w i : Bool) (rest : List Ticket) → (i && w) ≡ false → without item rest ≡ rest →
          cond (q && w) (cond i rest (ticket x n ∷ without item rest)) (without item rest)
          ≡ cond (q && w) (ticket x n ∷ rest) rest
      by true true true rest is same = absurd (cc)
      by true true false rest is same = ap (λ (ts : List Ticket). ticket x n ∷ ts) same
      by true false i rest is same = same
      by false w i rest is same = same

-- the line of a queue without the item's ticket is its line once the item was dropped
pub without-drop : (item queue n : ℕ) (xs : List Admission) → count_by (waits_as item) xs ≤ 1 →
    without item (tickets_from n (waits_for queue) xs) ≡ tickets_from n (waits_for queue) (map (drop_one item) xs)
without-drop item queue n [] once = refl
without-drop item queue n (x ∷ xs) once =
    without-cond item (waits_for queue x) (ticket x n) (tickets_from (n + 1) (waits_for queue) xs)
    ∙ by (waits_as item x) refl (without-drop item queue (n + 1) xs (less_behind (waits_as item) x xs 1 once)) where
      rest : List Ticket
      rest = tickets_from (n + 1) (waits_for queue) xs

      after : List Ticket
      after = tickets_from (n + 1) (waits_for queue) (map (drop_one item) xs)

      dropped : (i w q : Bool) → (i && w) ≡ true → rest ≡ after → without item rest ≡ after →
          cond (q && w) (cond i rest (ticket x n ∷ without item rest)) (without item rest) ≡ after
      dropped true true true is same without_same = same
      dropped true true false is same without_same = without_same
      dropped true false q is same without_same = absurd (cc)
      dropped false w q is same without_same = absurd (cc)

      kept : (i w q : Bool) → (i && w) ≡ false → without item rest ≡ after →
          cond (q && w) (cond i rest (ticket x n ∷ without item rest)) (without item rest)
          ≡ cond (q && w) (ticket x n ∷ after) after
      kept true true q is same = absurd (cc)
      kept true false true is same = same
      kept true false false is same = same
      kept false true true is same = ap (λ (ts : List Ticket). ticket x n ∷ ts) same
      kept false true false is same = same
      kept false false true is same = same
      kept false false false is same = same

      by : (b : Bool) → waits_as item x ≡ b → without item rest ≡ after →
          cond (waits_for queue x) (cond (is_of item (ticket x n)) rest (ticket x n ∷ without item rest)) (without item rest)
          ≡ cond (waits_for queue (cond b (with_life Dropped x) x)) (ticket (cond b (with_life Dropped x) x) n ∷ after) after
      by true is same =
          let none = none_behind (waits_as item) x xs is once in
          dropped (eqb x.item item) (is_waiting x.life) (eqb x.queue queue) is
          (ap (tickets_from (n + 1) (waits_for queue)) (sym (drop-none item xs none))) same
          ∙ sym (cond-false (waits_for queue (with_life Dropped x)) (ticket x n ∷ after) after
          (not_waiting_for queue x Dropped refl))
      by false is same = kept (eqb x.item item) (is_waiting x.life) (eqb x.queue queue) is same

-- an item's only waiting admission is taken up
pub without-begin : (item queue n : ℕ) (xs : List Admission) (m : ℕ) (a : Admission) → slice_get xs m ≡ Some a →
    waits_as item a ≡ true → count_by (waits_as item) xs ≤ 1 →
    tickets_from n (waits_for queue) (set_life xs m Running) ≡ without item (tickets_from n (waits_for queue) xs)
without-begin item queue n [] m a at waits once = absurd (cc)
without-begin item queue n (x ∷ xs) zero a at waits once =
    let is : waits_as item x ≡ true = ap (waits_as item) (same_Some x a at) ∙ waits in
    cond-false (waits_for queue (with_life Running x)) (ticket x n ∷ tickets_from (n + 1) (waits_for queue) xs)
    (tickets_from (n + 1) (waits_for queue) xs) (not_waiting_for queue x Running refl)
    ∙ sym (without-cond item (waits_for queue x) (ticket x n) (tickets_from (n + 1) (waits_for queue) xs)
    ∙ taken (eqb x.item item) (is_waiting x.life) (eqb x.queue queue) is
    (without-none item queue (n + 1) xs (none_behind (waits_as item) x xs is once))) where
      rest : List Ticket
      rest = tickets_from (n + 1) (waits_for queue) xs

      taken : (i w q : Bool) → (i && w) ≡ true → without item rest ≡ rest →
          cond (q && w) (cond i rest (ticket x n ∷ without item rest)) (without item rest) ≡ rest
      taken true true true is same = refl
      taken true true false is same = same
      taken true false q is same = absurd (cc)
      taken false w q is same = absurd (cc)
without-begin item queue n (x ∷ xs) (suc m) a at waits once =
    let behind = without-begin item queue (n + 1) xs m a at waits (less_behind (waits_as item) x xs 1 once) in
    let not_here : waits_as item x ≡ true → ⊥ =
    λ is. let none = none_behind (waits_as item) x xs is once in
    let some = count-some (waits_as item) xs m a at waits in omega arith in
    kept (eqb x.item item) (is_waiting x.life) (eqb x.queue queue) not_here behind
    ∙ sym (without-cond item (waits_for queue x) (ticket x n) (tickets_from (n + 1) (waits_for queue) xs)) where
      rest : List Ticket
      rest = tickets_from (n + 1) (waits_for queue) xs

      after : List Ticket
      after = tickets_from (n + 1) (waits_for queue) (set_life xs m Running)

      kept : (i w q : Bool) → ((i && w) ≡ true → ⊥) → after ≡ without item rest →
          cond (q && w) (ticket x n ∷ after) after ≡ cond (q && w) (cond i rest (ticket x n ∷ without item rest))
          (without item rest)
      kept true true q not_here same = absurd (not_here refl)
      kept true false true not_here same = same
      kept true false false not_here same = same
      kept false true true not_here same = ap (λ (ts : List Ticket). ticket x n ∷ ts) same
      kept false true false not_here same = same
      kept false false true not_here same = same
      kept false false false not_here same = same

-- a queue that runs nothing takes up what waits
pub runs-begin : (queue n : ℕ) (xs : List Admission) (m : ℕ) (a : Admission) → slice_get xs m ≡ Some a → a.queue ≡ queue →
    tickets_from n (runs_on queue) xs ≡ [] →
    tickets_from n (runs_on queue) (set_life xs m Running) ≡ ticket a (n + m) ∷ []
runs-begin queue n [] m a at is idle = absurd (cc)
runs-begin queue n (x ∷ xs) zero a at is idle =
    let same = same_Some x a at in
    let on : eqb x.queue queue ≡ true = eq-eqb x.queue queue (ap (λ (b : Admission). b.queue) same ∙ is) in
    ap (λ b. cond (b && true) (ticket x n ∷ tickets_from (n + 1) (runs_on queue) xs) (tickets_from (n + 1) (runs_on queue) xs)) on
    ∙ ap (λ (ts : List Ticket). ticket x n ∷ ts) (behind (runs_on queue x) idle)
    ∙ ap (λ (b : Admission). ticket b n ∷ []) same ∙ ap (λ k. ticket a k ∷ []) (sym (add-zero n)) where
      behind : (b : Bool) →
          cond b (ticket x n ∷ tickets_from (n + 1) (runs_on queue) xs) (tickets_from (n + 1) (runs_on queue) xs) ≡ [] →
          tickets_from (n + 1) (runs_on queue) xs ≡ []
      behind true none = absurd (cc)
      behind false none = none
runs-begin queue n (x ∷ xs) (suc m) a at is idle =
    by (runs_on queue x) idle (λ none. runs-begin queue (n + 1) xs m a at is none) where
      by : (b : Bool) → cond b (ticket x n ∷ tickets_from (n + 1) (runs_on queue) xs)
          (tickets_from (n + 1) (runs_on queue) xs) ≡ [] →
          (tickets_from (n + 1) (runs_on queue) xs ≡ [] →
          tickets_from (n + 1) (runs_on queue) (set_life xs m Running) ≡ ticket a ((n + 1) + m) ∷ []) →
          cond b (ticket x n ∷ tickets_from (n + 1) (runs_on queue) (set_life xs m Running))
          (tickets_from (n + 1) (runs_on queue) (set_life xs m Running)) ≡ ticket a (n + suc m) ∷ []
      by true none further = absurd (cc)
      by false none further = let next : (n + 1) + m ≡ n + suc m = omega arith in further none ∙ ap (λ k. ticket a k ∷ []) next

-- another queue runs what it ran
pub runs-begin_other : (queue n : ℕ) (xs : List Admission) (m : ℕ) (a : Admission) → slice_get xs m ≡ Some a →
    is_waiting a.life ≡ true → eqb a.queue queue ≡ false →
    tickets_from n (runs_on queue) (set_life xs m Running) ≡ tickets_from n (runs_on queue) xs
runs-begin_other queue n [] m a at waits other = absurd (cc)
runs-begin_other queue n (x ∷ xs) zero a at waits other =
    let not_on : eqb x.queue queue ≡ false = ap (λ (b : Admission). eqb b.queue queue) (same_Some x a at) ∙ other in
    ap (λ b. cond (b && true) (ticket x n ∷ tickets_from (n + 1) (runs_on queue) xs)
    (tickets_from (n + 1) (runs_on queue) xs)) not_on
    ∙ sym (ap (λ b. cond (b && is_running x.life) (ticket x n ∷ tickets_from (n + 1) (runs_on queue) xs)
    (tickets_from (n + 1) (runs_on queue) xs)) not_on)
runs-begin_other queue n (x ∷ xs) (suc m) a at waits other =
    ap (λ (ts : List Ticket). cond (runs_on queue x) (ticket x n ∷ ts) ts) (runs-begin_other queue (n + 1) xs m a at waits other)

-- what a drop and an end of one admission leave of the questions to it

kept-cond : {A B : Type 0} (f : A → B) (b : Bool) (x y : A) → (b ≡ true → f x ≡ f y) → f (cond b x y) ≡ f y
kept-cond f true x y same = same refl
kept-cond f false x y same = refl

second_same : (b c d : Bool) → c ≡ d → (b && c) ≡ (b && d)
second_same b c d same = ap (λ e. b && e) same

waiting-runs : (life : Life) → is_waiting life ≡ true → is_running life ≡ false
waiting-runs Waiting w = refl
waiting-runs Running w = absurd (cc)
waiting-runs Ended w = refl
waiting-runs Dropped w = refl

running-waits : (life : Life) → is_running life ≡ true → is_waiting life ≡ false
running-waits Waiting r = absurd (cc)
running-waits Running r = refl
running-waits Ended r = refl
running-waits Dropped r = refl

-- a drop changes nothing that runs
pub runs_on-drop : (item queue : ℕ) (a : Admission) → runs_on queue (drop_one item a) ≡ runs_on queue a
runs_on-drop item queue a = kept-cond (runs_on queue) (waits_as item a) (with_life Dropped a) a
    (λ w. second_same (eqb a.queue queue) false (is_running a.life)
    (sym (waiting-runs a.life (second_so (eqb a.item item) (is_waiting a.life) w))))

pub runs_as-drop : (item other : ℕ) (a : Admission) → runs_as other (drop_one item a) ≡ runs_as other a
runs_as-drop item other a = kept-cond (runs_as other) (waits_as item a) (with_life Dropped a) a
    (λ w. second_same (eqb a.item other) false (is_running a.life)
    (sym (waiting-runs a.life (second_so (eqb a.item item) (is_waiting a.life) w))))

pub running-drop : (item : ℕ) (a : Admission) → is_running (drop_one item a).life ≡ is_running a.life
running-drop item a = kept-cond (λ (b : Admission). is_running b.life) (waits_as item a) (with_life Dropped a) a
    (λ w. sym (waiting-runs a.life (second_so (eqb a.item item) (is_waiting a.life) w)))

pub item-drop : (item : ℕ) (a : Admission) → (drop_one item a).item ≡ a.item
item-drop item a = kept-cond (λ (b : Admission). b.item) (waits_as item a) (with_life Dropped a) a (λ w. refl)

pub queue-drop : (item : ℕ) (a : Admission) → (drop_one item a).queue ≡ a.queue
queue-drop item a = kept-cond (λ (b : Admission). b.queue) (waits_as item a) (with_life Dropped a) a (λ w. refl)

-- an end changes nothing that waits
pub waits_for-end : (queue other : ℕ) (a : Admission) → waits_for other (end_one queue a) ≡ waits_for other a
waits_for-end queue other a = kept-cond (waits_for other) (runs_on queue a) (with_life Ended a) a
    (λ r. second_same (eqb a.queue other) false (is_waiting a.life)
    (sym (running-waits a.life (second_so (eqb a.queue queue) (is_running a.life) r))))

pub item-end : (queue : ℕ) (a : Admission) → (end_one queue a).item ≡ a.item
item-end queue a = kept-cond (λ (b : Admission). b.item) (runs_on queue a) (with_life Ended a) a (λ r. refl)

pub queue-end : (queue : ℕ) (a : Admission) → (end_one queue a).queue ≡ a.queue
queue-end queue a = kept-cond (λ (b : Admission). b.queue) (runs_on queue a) (with_life Ended a) a (λ r. refl)

-- nothing runs on the queue after its end
pub runs_on-end : (queue : ℕ) (a : Admission) → runs_on queue (end_one queue a) ≡ false
runs_on-end queue a = by (runs_on queue a) refl where
  by : (b : Bool) → runs_on queue a ≡ b → runs_on queue (cond b (with_life Ended a) a) ≡ false
  by true is = over (eqb a.queue queue) where
    over : (c : Bool) → (c && false) ≡ false
    over true = refl
    over false = refl
  by false is = is

-- another queue runs what it ran
pub runs_on-end_other : (queue other : ℕ) (a : Admission) → other ≢ queue → runs_on other (end_one queue a) ≡ runs_on other a
runs_on-end_other queue other a differ = kept-cond (runs_on other) (runs_on queue a) (with_life Ended a) a
    (λ r. let at = eqb-true a.queue queue (first_so (eqb a.queue queue) (is_running a.life) r) in
    not_there (eqb a.queue other) refl at) where
      not_there : (b : Bool) → eqb a.queue other ≡ b → a.queue ≡ queue → (b && false) ≡ (b && is_running a.life)
      not_there true is at = absurd (differ (sym (eqb-true a.queue other is) ∙ at))
      not_there false is at = refl

-- how many run

-- one more, where what waited is taken up
pub running-begin : (xs : List Admission) (m : ℕ) (a : Admission) → slice_get xs m ≡ Some a → is_waiting a.life ≡ true →
    count_by (λ (a : Admission). is_running a.life) (set_life xs m Running)
    ≡ count_by (λ (a : Admission). is_running a.life) xs + 1
running-begin [] m a at waits = absurd (cc)
running-begin (x ∷ xs) zero a at waits =
    let before : weight 1 (is_running x.life) ≡ 0 =
    ap (λ (b : Admission). weight 1 (is_running b.life)) (same_Some x a at) ∙ ap (weight 1) (waiting-runs a.life waits) in
    omega (
      arith,
      count-cons (λ (a : Admission). is_running a.life) x xs,
      count-cons (λ (a : Admission). is_running a.life) (with_life Running x) xs,
    )
running-begin (x ∷ xs) (suc m) a at waits =
    let rest = running-begin xs m a at waits in
    omega (
      arith,
      count-cons (λ (a : Admission). is_running a.life) x xs,
      count-cons (λ (a : Admission). is_running a.life) x (set_life xs m Running),
    )

-- as many fewer as the queue ran
pub running-end : (queue n : ℕ) (xs : List Admission) →
    count_by (λ (a : Admission). is_running a.life) (map (end_one queue) xs) + length (tickets_from n (runs_on queue) xs)
    ≡ count_by (λ (a : Admission). is_running a.life) xs
running-end queue n [] = refl
running-end queue n (x ∷ xs) =
    let rest = running-end queue (n + 1) xs in
    let here = by (runs_on queue x) refl in
    omega (
      arith,
      count-cons (λ (a : Admission). is_running a.life) x xs,
      count-cons (λ (a : Admission). is_running a.life) (end_one queue x) (map (end_one queue) xs),
    ) where
      by : (b : Bool) → runs_on queue x ≡ b →
          weight 1 (is_running (cond b (with_life Ended x) x).life)
          + length (cond b (ticket x n ∷ tickets_from (n + 1) (runs_on queue) xs) (tickets_from (n + 1) (runs_on queue) xs))
          ≡ weight 1 (is_running x.life) + length (tickets_from (n + 1) (runs_on queue) xs)
      by true is = let one : weight 1 (is_running x.life) ≡ 1 =
          ap (weight 1) (second_so (eqb x.queue queue) (is_running x.life) is) in omega arith
      by false is = refl

-- whether there is no ticket
abbrev pub is_nil : List Ticket → Bool
is_nil [] = true
is_nil (t ∷ ts) = false

pub length-nil : (ts : List Ticket) → (length ts == 0) ≡ is_nil ts
length-nil [] = refl
length-nil (t ∷ ts) = no_zero (length ts) where
  no_zero : (n : ℕ) → (suc n == 0) ≡ false
  no_zero n = grind (arith, nat_tests)

-- a queue is empty and idle where it has no tickets
pub idle-tickets : (queue n : ℕ) (xs : List Admission) →
    list_all (λ (a : Admission). not (is_open_at queue a)) xs
    ≡ (is_nil (tickets_from n (runs_on queue) xs) && is_nil (tickets_from n (waits_for queue) xs))
idle-tickets queue n [] = refl
idle-tickets queue n (x ∷ xs) = by (eqb x.queue queue) x.life (idle-tickets queue (n + 1) xs) where
  all : Bool
  all = list_all (λ (a : Admission). not (is_open_at queue a)) xs

  runs : List Ticket
  runs = tickets_from (n + 1) (runs_on queue) xs

  waits : List Ticket
  waits = tickets_from (n + 1) (waits_for queue) xs

  none : (b : Bool) → false ≡ (b && false)
  none true = refl
  none false = refl

  by : (q : Bool) (l : Life) → all ≡ (is_nil runs && is_nil waits) →
      (not (q && is_open l) && all)
      ≡ (is_nil (cond (q && is_running l) (ticket x n ∷ runs) runs) && is_nil
      (cond (q && is_waiting l) (ticket x n ∷ waits) waits))
  by true Waiting same = none (is_nil runs)
  by true Running same = refl
  by true Ended same = same
  by true Dropped same = same
  by false l same = same
