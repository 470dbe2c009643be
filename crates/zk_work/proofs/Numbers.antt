-- What the open admissions say of a number: whether it is open, and by which number an item waits and runs.
use Rattle.std.proofs.Common.{◌≡◌, ℕ, zero, suc, ◌+◌, ◌≤◌, Bool, true, false, ◌||◌, cond, eqb, Option, Some, None, is_some, option_map, option_and_then, option_to_list, List, [], ◌∷◌, get_or, find, slice_get, count_by, refl, sym, ap, subst, ◌∙◌, arith, add-zero}
use Rattle.std.specs.Cmp.{first_so, second_so}
use Rattle.std.specs.List.{position, list_any}
use Rattle.std.specs.Option.{option_map_or, option_or}
use Rattle.std.proofs.lemmas.Bool.{eqb-true, eq-eqb, false≢true, and_from, or_right, or_left}
use Rattle.std.proofs.lemmas.List.Folds.{list_any_none}
use Rattle.std.proofs.lemmas.List.Quantifiers.{position-Some}
use Rattle.std.proofs.lemmas.Option.{same_Some, slice_get-get_or}
use Rattle.zk_model_work.specs.declared.parts.Life.{Life}
use Rattle.zk_model_work.specs.declared.parts.Life.TheVariants.{Waiting, Running, Ended, Dropped}
use Rattle.zk_model_work.specs.declared.parts.Admission.{Admission}
use Rattle.zk_model_work.specs.Lists.{first}
use Rattle.zk_model_work.specs.Questions.{is_waiting, is_running, is_open, waits_as, runs_as, waits_for, runs_on, waiting, running, last_queue, passes_at}
use Rattle.zk_model_work.proofs.Lives.{open-waiting, open-running}
use Rattle.zk_model_work.proofs.Overlaps.{position-none}
use Rattle.zk_queue.specs.declared.ticket.Ticket.{Ticket}
use Rattle.zk_queue.specs.Line.{is_of, has_number, number_in, number_among}
use Rattle.zk_queue.specs.Open as active
use Rattle.zk_queue.specs.Open.{Open, line, run, is_run_of, runs_number}
use Rattle.zk_work.specs.Tickets.{tickets_from, tickets}
use Rattle.zk_work.proofs.Tickets.{ticket, IsTicketOf, stands-behind, first_stands, count-some, none_behind, less_behind}
use Rattle.zk_work.proofs.Items.{queued, runs_now, run_of}

-- two words that agree
pub agree : (b c : Bool) → (b ≡ true → c ≡ true) → (c ≡ true → b ≡ true) → b ≡ c
agree true true there back = refl
agree true false there back = sym (there refl)
agree false true there back = back refl
agree false false there back = refl

-- the ticket that a search finds
find_stands : (q : Ticket → Bool) (n : ℕ) (p : Admission → Bool) (xs : List Admission) (t : Ticket) →
    find q (tickets_from n p xs) ≡ Some t → IsTicketOf n p xs t × (q t ≡ true)
find_stands q n p [] t is = absurd (cc)
find_stands q n p (x ∷ xs) t is = by (p x) refl is (λ there. find_stands q (n + 1) p xs t there) where
  rest : Option Ticket
  rest = find q (tickets_from (n + 1) p xs)

  here : (c : Bool) → q (ticket x n) ≡ c → p x ≡ true → cond c (Some (ticket x n)) rest ≡ Some t →
      (rest ≡ Some t → IsTicketOf (n + 1) p xs t × (q t ≡ true)) → IsTicketOf n p (x ∷ xs) t × (q t ≡ true)
  here true of passes is further =
      let same = same_Some (ticket x n) t is in (
        record {
          place = 0;
          admission = x;
          there = refl;
          number = ap (λ (t : Ticket). t.number) (sym same) ∙ sym (add-zero n);
          item = ap (λ (t : Ticket). t.item) same;
          passes = passes;
        },
        ap q (sym same) ∙ of,
      )
  here false of passes is further = let f = further is in (stands-behind n p x xs t f.0, f.1)

  by : (b : Bool) → p x ≡ b → find q (cond b (ticket x n ∷ tickets_from (n + 1) p xs) (tickets_from (n + 1) p xs))
      ≡ Some t → (rest ≡ Some t → IsTicketOf (n + 1) p xs t × (q t ≡ true)) →
      IsTicketOf n p (x ∷ xs) t × (q t ≡ true)
  by true passes is further = here (q (ticket x n)) refl passes is further
  by false passes is further = let f = further is in (stands-behind n p x xs t f.0, f.1)

-- what passes somewhere is found
any_found : (q : Ticket → Bool) (ts : List Ticket) → list_any q ts ≡ true → (t : Ticket) × (find q ts ≡ Some t)
any_found q [] is = absurd (cc)
any_found q (t ∷ ts) is = by (q t) is (any_found q ts) where
  by : (b : Bool) → (b || list_any q ts) ≡ true → (list_any q ts ≡ true → (u : Ticket) × (find q ts ≡ Some u)) →
      (u : Ticket) × (cond b (Some t) (find q ts) ≡ Some u)
  by true is further = (t, refl)
  by false is further = further is

-- what passes somewhere has a place, and what passes at a place passes somewhere
any_at : {A : Type 0} (p : A → Bool) (xs : List A) (d : A) → list_any p xs ≡ true → (i : ℕ) × (p (get_or xs i d) ≡ true)
any_at p [] d is = absurd (cc)
any_at p (x ∷ xs) d is = by (p x) refl is (any_at p xs d) where
  by : (b : Bool) → p x ≡ b → (b || list_any p xs) ≡ true →
      (list_any p xs ≡ true → (i : ℕ) × (p (get_or xs i d) ≡ true)) → (i : ℕ) × (p (get_or (x ∷ xs) i d) ≡ true)
  by true passes is behind = (0, passes)
  by false passes is behind = let further = behind is in (suc further.0, further.1)

any_from : {A : Type 0} (p : A → Bool) (xs : List A) (i : ℕ) (d : A) → p d ≡ false → p (get_or xs i d) ≡ true →
    list_any p xs ≡ true
any_from p [] i d none is = absurd (false≢true (sym none ∙ is))
any_from p (x ∷ xs) zero d none is = or_left (p x) (list_any p xs) is
any_from p (x ∷ xs) (suc i) d none is = or_right (p x) (list_any p xs) (any_from p xs i d none is)

-- an admission that passes has its ticket
ticket-any : (n : ℕ) (p : Admission → Bool) (xs : List Admission) (m : ℕ) (a : Admission) → slice_get xs m ≡ Some a →
    p a ≡ true → list_any (has_number (n + m)) (tickets_from n p xs) ≡ true
ticket-any n p [] m a at passes = absurd (cc)
ticket-any n p (x ∷ xs) zero a at passes = by (p x) (ap p (same_Some x a at) ∙ passes) where
  by : (b : Bool) → b ≡ true →
      list_any (has_number (n + 0)) (cond b (ticket x n ∷ tickets_from (n + 1) p xs) (tickets_from (n + 1) p xs)) ≡ true
  by true is = or_left (eqb n (n + 0)) (list_any (has_number (n + 0)) (tickets_from (n + 1) p xs))
      (eq-eqb n (n + 0) (sym (add-zero n)))
  by false is = absurd (cc)
ticket-any n p (x ∷ xs) (suc m) a at passes =
    let next : (n + 1) + m ≡ n + suc m = omega arith in
    by (p x) (subst (λ k. list_any (has_number k) (tickets_from (n + 1) p xs) ≡ true) next
    (ticket-any (n + 1) p xs m a at passes)) where
      by : (b : Bool) → list_any (has_number (n + suc m)) (tickets_from (n + 1) p xs) ≡ true →
          list_any (has_number (n + suc m)) (cond b (ticket x n ∷ tickets_from (n + 1) p xs) (tickets_from (n + 1) p xs)) ≡ true
      by true is = or_right (eqb n (n + suc m)) (list_any (has_number (n + suc m)) (tickets_from (n + 1) p xs)) is
      by false is = is

-- where at most one passes, it has one place
pub one-place : (p : Admission → Bool) (xs : List Admission) (n m : ℕ) (a b : Admission) → count_by p xs ≤ 1 →
    slice_get xs n ≡ Some a → slice_get xs m ≡ Some b → p a ≡ true → p b ≡ true → n ≡ m
one-place p [] n m a b once at to passes passes_too = absurd (cc)
one-place p (x ∷ xs) zero zero a b once at to passes passes_too = refl
one-place p (x ∷ xs) zero (suc m) a b once at to passes passes_too =
    let none = none_behind p x xs (ap p (same_Some x a at) ∙ passes) once in
    let some = count-some p xs m b to passes_too in
    absurd (omega arith)
one-place p (x ∷ xs) (suc n) zero a b once at to passes passes_too =
    let none = none_behind p x xs (ap p (same_Some x b to) ∙ passes_too) once in
    let some = count-some p xs n a at passes in
    absurd (omega arith)
one-place p (x ∷ xs) (suc n) (suc m) a b once at to passes passes_too =
    ap suc (one-place p xs n m a b (less_behind p x xs 1 once) at to passes passes_too)

passes-some : (p : Admission → Bool) (xs : List Admission) (n : ℕ) (a : Admission) → slice_get xs n ≡ Some a →
    passes_at p xs n ≡ p a
passes-some p xs n a at = ap (λ (o : Option Admission). option_map_or p o false) at

-- a search that finds
pub record IsAt (p : Admission → Bool) (xs : List Admission) (n : ℕ) : Type 0 where
  pub admission : Admission
  pub there : slice_get xs n ≡ Some admission
  pub passes : p admission ≡ true

pub is_at : (p : Admission → Bool) (xs : List Admission) (n : ℕ) → position p xs ≡ Some n → IsAt p xs n
is_at p xs n is =
    let none : Admission = record { item = 0; queue = 0; life = Waiting } in
    let at = position-Some p xs n none is in
    record { admission = get_or xs n none; there = slice_get-get_or xs n none at.0; passes = at.1 }

-- a number among lines is in one of them
among_at : (item : ℕ) (lines : List (List Ticket)) (m : ℕ) → number_among item lines ≡ Some m →
    (i : ℕ) × (number_in item (get_or lines i []) ≡ Some m)
among_at item [] m is = absurd (cc)
among_at item (l ∷ lines) m is = by (number_in item l) refl is (among_at item lines m) where
  by : (o : Option ℕ) → number_in item l ≡ o → option_or o (number_among item lines) ≡ Some m →
      (number_among item lines ≡ Some m → (i : ℕ) × (number_in item (get_or lines i []) ≡ Some m)) →
      (i : ℕ) × (number_in item (get_or (l ∷ lines) i []) ≡ Some m)
  by None none is behind = let further = behind is in (suc further.0, further.1)
  by (Some n) some is behind = (0, some ∙ is)

module _ (o : Open) (xs : List Admission) (lines : (queue : ℕ) → line o queue ≡ tickets (waits_for queue) xs)
    (runs : (queue : ℕ) → option_to_list (run o queue) ≡ tickets (runs_on queue) xs) where
  -- the ticket of a run
  run-stands : (queue : ℕ) (t : Ticket) → run o queue ≡ Some t → IsTicketOf 0 (runs_on queue) xs t
  run-stands queue t is = first_stands 0 (runs_on queue) xs t (ap first (sym (runs queue) ∙ ap option_to_list is))

  open-there : (number : ℕ) → active.is_open o number ≡ true → passes_at (λ a. is_open a.life) xs number ≡ true
  open-there number is = by (list_any (runs_number number) o.runs) refl is where
    stands-at : (p : Admission → Bool) (t : Ticket) → IsTicketOf 0 p xs t →
        ((a : Admission) → p a ≡ true → is_open a.life ≡ true) → eqb t.number number ≡ true →
        passes_at (λ a. is_open a.life) xs number ≡ true
    stands-at p t s opens same =
        let number_is = s.number in
        let is = eqb-true t.number number same in
        let place : s.place ≡ number = omega arith in
        passes-some (λ a. is_open a.life) xs number s.admission (ap (slice_get xs) (sym place) ∙ s.there)
        ∙ opens s.admission s.passes

    of_run : (queue : ℕ) (r : Option Ticket) → run o queue ≡ r → runs_number number r ≡ true →
        passes_at (λ a. is_open a.life) xs number ≡ true
    of_run queue None is has = absurd (cc)
    of_run queue (Some t) is has =
        stands-at (runs_on queue) t (run-stands queue t is)
        (λ a on. open-running a.life (second_so (eqb a.queue queue) (is_running a.life) on)) has

    of_line : (queue : ℕ) → list_any (has_number number) (line o queue) ≡ true → passes_at (λ a. is_open a.life) xs number ≡ true
    of_line queue has =
        let found = any_found (has_number number) (tickets (waits_for queue) xs)
        (ap (list_any (has_number number)) (sym (lines queue)) ∙ has) in
        let s = find_stands (has_number number) 0 (waits_for queue) xs found.0 found.1 in
        stands-at (waits_for queue) found.0 s.0
        (λ a on. open-waiting a.life (second_so (eqb a.queue queue) (is_waiting a.life) on)) s.1

    by : (b : Bool) → list_any (runs_number number) o.runs ≡ b →
        (b || list_any (list_any (has_number number)) o.lines) ≡ true → passes_at (λ a. is_open a.life) xs number ≡ true
    by true some is = let at = any_at (runs_number number) o.runs None some in of_run at.0 (run o at.0) refl at.1
    by false none is = let at = any_at (list_any (has_number number)) o.lines [] is in of_line at.0 at.1

  open-back : (number : ℕ) → passes_at (λ a. is_open a.life) xs number ≡ true → active.is_open o number ≡ true
  open-back number is = by (slice_get xs number) refl is where
    by_life : (a : Admission) (life : Life) → slice_get xs number ≡ Some a → a.life ≡ life → is_open life ≡ true →
        active.is_open o number ≡ true
    by_life a Waiting at is opens =
        let on = and_from (eqb a.queue a.queue) (is_waiting a.life) (eq-eqb a.queue a.queue refl) (ap is_waiting is) in
        let zero_first : 0 + number ≡ number = omega arith in
        let has = subst (λ n. list_any (has_number n) (tickets (waits_for a.queue) xs) ≡ true) zero_first
        (ticket-any 0 (waits_for a.queue) xs number a at on) in
        or_right (list_any (runs_number number) o.runs) (list_any (list_any (has_number number)) o.lines)
        (any_from (list_any (has_number number)) o.lines a.queue [] refl
        (ap (list_any (has_number number)) (lines a.queue) ∙ has))
    by_life a Running at is opens =
        let on = and_from (eqb a.queue a.queue) (is_running a.life) (eq-eqb a.queue a.queue refl) (ap is_running is) in
        let it = run_of (run o a.queue) a.queue xs number a (runs a.queue) at on in
        or_left (list_any (runs_number number) o.runs) (list_any (list_any (has_number number)) o.lines)
        (any_from (runs_number number) o.runs a.queue None refl (ap (runs_number number) it ∙ eq-eqb number number refl))
    by_life a Ended at is opens = absurd (cc)
    by_life a Dropped at is opens = absurd (cc)

    by : (u : Option Admission) → slice_get xs number ≡ u →
        option_map_or (λ (a : Admission). is_open a.life) u false ≡ true → active.is_open o number ≡ true
    by None at is = absurd (cc)
    by (Some a) at is = by_life a a.life at refl is

  -- whether a number is open
  pub open-same : (number : ℕ) → active.is_open o number ≡ passes_at (λ a. is_open a.life) xs number
  open-same number = agree (active.is_open o number) (passes_at (λ a. is_open a.life) xs number) (open-there number)
      (open-back number)

  -- the number by which an item waits
  pub waiting-same : (item : ℕ) → count_by (waits_as item) xs ≤ 1 → active.waiting o item ≡ waiting xs item
  waiting-same item once = by (waiting xs item) (active.waiting o item) refl refl (queued o xs item lines) where
    numbered : (queue m : ℕ) (f : Option Ticket) → find (is_of item) (tickets (waits_for queue) xs) ≡ f →
        option_map (λ (t : Ticket). t.number) f ≡ Some m → IsAt (waits_as item) xs m
    numbered queue m None is same = absurd (cc)
    numbered queue m (Some t) is same =
        let f = find_stands (is_of item) 0 (waits_for queue) xs t is in
        let s = f.0 in
        let number = s.number in
        let number_is = same_Some t.number m same in
        let place : s.place ≡ m = omega arith in
        let item_is = s.item ∙ eqb-true t.item item f.1 in
        record {
          admission = s.admission;
          there = ap (slice_get xs) (sym place) ∙ s.there;
          passes = and_from (eqb s.admission.item item) (is_waiting s.admission.life)
              (eq-eqb s.admission.item item item_is)
              (second_so (eqb s.admission.queue queue) (is_waiting s.admission.life) s.passes);
        }

    by : (p q : Option ℕ) → waiting xs item ≡ p → active.waiting o item ≡ q →
        is_some (active.waiting o item) ≡ is_some (waiting xs item) → active.waiting o item ≡ waiting xs item
    by None None is same some = same ∙ sym is
    by None (Some m) is same some = absurd (false≢true (sym (sym (ap is_some same) ∙ some ∙ ap is_some is)))
    by (Some n) None is same some = absurd (false≢true (sym (ap is_some same) ∙ some ∙ ap is_some is))
    by (Some n) (Some m) is same some =
        let at = among_at item o.lines m same in
        let found = numbered at.0 m (find (is_of item) (tickets (waits_for at.0) xs)) refl
        (ap (number_in item) (sym (lines at.0)) ∙ at.1) in
        let first_one = is_at (waits_as item) xs n is in
        same ∙ ap (λ (k : ℕ). Some k)
        (one-place (waits_as item) xs m n found.admission first_one.admission once found.there first_one.there
        found.passes first_one.passes) ∙ sym is

  module _ (home : (number : ℕ) (a : Admission) → slice_get xs number ≡ Some a → is_open a.life ≡ true →
      last_queue xs a.item ≡ Some a.queue) where
    -- an item has one run
    pub one-run : (item n m : ℕ) (a b : Admission) → slice_get xs n ≡ Some a → slice_get xs m ≡ Some b →
        runs_as item a ≡ true → runs_as item b ≡ true → n ≡ m
    one-run item n m a b at to passes passes_too =
        let a_item = eqb-true a.item item (first_so (eqb a.item item) (is_running a.life) passes) in
        let b_item = eqb-true b.item item (first_so (eqb b.item item) (is_running b.life) passes_too) in
        let a_runs = second_so (eqb a.item item) (is_running a.life) passes in
        let b_runs = second_so (eqb b.item item) (is_running b.life) passes_too in
        let a_home = home n a at (open-running a.life a_runs) in
        let b_home = home m b to (open-running b.life b_runs) in
        let same_item : a.item ≡ b.item = a_item ∙ sym b_item in
        let queues : a.queue ≡ b.queue = same_Some a.queue b.queue (sym a_home ∙ ap (last_queue xs) same_item ∙ b_home) in
        let a_run = run_of (run o a.queue) a.queue xs n a (runs a.queue) at
        (and_from (eqb a.queue a.queue) (is_running a.life) (eq-eqb a.queue a.queue refl) a_runs) in
        let b_run = run_of (run o b.queue) b.queue xs m b (runs b.queue) to
        (and_from (eqb b.queue b.queue) (is_running b.life) (eq-eqb b.queue b.queue refl) b_runs) in
        ap (λ (t : Ticket). t.number) (same_Some (ticket a n) (ticket b m) (sym a_run ∙ ap (run o) queues ∙ b_run))

    -- the number of an item's run
    pub running-same : (item : ℕ) → active.running o item ≡ running xs item
    running-same item = by (running xs item) (position (is_run_of item) o.runs) refl refl where
      at_run : (queue : ℕ) (r : Option Ticket) → run o queue ≡ r → is_run_of item r ≡ true →
          (m : ℕ) × (option_map (λ (t : Ticket). t.number) r ≡ Some m) × IsAt (runs_as item) xs m
      at_run queue None is of = absurd (cc)
      at_run queue (Some t) is of =
          let s = run-stands queue t is in
          let number = s.number in
          let place : s.place ≡ t.number = omega arith in
          let item_is = s.item ∙ eqb-true t.item item of in (
            t.number,
            refl,
            record {
              admission = s.admission;
              there = ap (slice_get xs) (sym place) ∙ s.there;
              passes = and_from (eqb s.admission.item item) (is_running s.admission.life)
                  (eq-eqb s.admission.item item item_is)
                  (second_so (eqb s.admission.queue queue) (is_running s.admission.life) s.passes);
            },
          )

      none-there : (is : running xs item ≡ None) (m : ℕ) → IsAt (runs_as item) xs m → ⊥
      none-there is m at = false≢true (sym (position-none (runs_as item) xs m at.admission is at.there) ∙ at.passes)

      by : (p q : Option ℕ) → running xs item ≡ p → position (is_run_of item) o.runs ≡ q →
          option_and_then (λ queue. option_map (λ (t : Ticket). t.number) (run o queue))
          (position (is_run_of item) o.runs) ≡ running xs item
      by None None is there = ap (option_and_then (λ queue. option_map (λ (t : Ticket). t.number) (run o queue))) there ∙ sym is
      by p (Some queue) is there =
          let place = position-Some (is_run_of item) o.runs queue None there in
          let it = at_run queue (run o queue) refl place.1 in
          ap (option_and_then (λ queue. option_map (λ (t : Ticket). t.number) (run o queue))) there ∙ it.1
          ∙ sym (found p is it.0 it.2) where
            found : (p : Option ℕ) → running xs item ≡ p → (m : ℕ) → IsAt (runs_as item) xs m → running xs item ≡ Some m
            found None is m at = absurd (none-there is m at)
            found (Some n) is m at =
                let first_one = is_at (runs_as item) xs n is in
                is ∙ ap (λ (k : ℕ). Some k)
                (one-run item n m first_one.admission at.admission first_one.there at.there first_one.passes at.passes)
      by (Some n) None is there =
          let some : list_any (is_run_of item) o.runs ≡ true = runs_now o xs item runs ∙ ap is_some is in
          absurd (none-any (is_run_of item) o.runs there some) where
            none-any : (p : Option Ticket → Bool) (rs : List (Option Ticket)) → position p rs ≡ None → list_any p rs ≡ true → ⊥
            none-any p rs none some =
                false≢true (sym (list_any_none p rs
                (λ k d within. position-none p rs k (get_or rs k d) none (slice_get-get_or rs k d within))) ∙ some)
