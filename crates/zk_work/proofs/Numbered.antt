-- What is open was made, and each number is of one item.
use Rattle.std.proofs.Common.{◌≡◌, ℕ, zero, suc, ◌+◌, ◌<◌, ◌⊎◌, inl, inr, Bool, true, false, eqb, All, Option, Some, None, is_some, option_to_list, List, [], ◌∷◌, ◌++◌, length, slice_get, refl, sym, ap, subst, ◌∙◌, arith}
use Rattle.std.specs.Cmp.{first_so, second_so}
use Rattle.std.specs.List.{position}
use Rattle.std.specs.Option.{option_map_or}
use Rattle.std.proofs.lemmas.Bool.{cases_eq, eqb-true, eq-eqb, and_from, false≢true}
use Rattle.std.proofs.lemmas.List.{get_or-set_same, get_or-set_other}
use Rattle.std.proofs.lemmas.List.Elements.{All-weaker, All-push}
use Rattle.std.proofs.lemmas.Option.{same_Some}
use Rattle.zk_base.specs.declared.ids.Who.{Who}
use Rattle.zk_model_work.specs.declared.parts.Admission.{Admission}
use Rattle.zk_model_work.specs.Answers.{admitted_to}
use Rattle.zk_model_work.specs.Lists.{first}
use Rattle.zk_model_work.specs.Questions.{is_waiting, is_running, waits_as, runs_as, waits_for, runs_on}
use Rattle.zk_model_work.proofs.Overlaps.{submission-admits, submission-within, position-none}
use Rattle.zk_time.specs.Timeouts.{queue_of}
use Rattle.zk_queue.specs.declared.ticket.Ticket.{Ticket}
use Rattle.zk_queue.specs.Open.{Open, line, run, running, waiting, is_queued, admit}
use Rattle.zk_work.specs.EngineState.{EngineState, IsSound, IsBy, AreNumbered, IsWhole}
use Rattle.zk_work.specs.Engine.{item_of, answer_of, admitted, submitted, disarmed, hurried}
use Rattle.zk_work.specs.Tickets.{tickets}
use Rattle.zk_work.proofs.Tickets.{IsTicketOf, first_stands, all_stand}
use Rattle.zk_work.proofs.Numbers.{is_at, one-place, one-run, waiting-same, running-same}
use Rattle.zk_work.proofs.Beside.{submitted-same}
use Rattle.zk_work.proofs.Others.{waiting-admit, waiting-admitted, waits-now}

-- the admission of a number
record IsItsOwn (xs : List Admission) (item number : ℕ) : Type 0 where
  admission : Admission
  there : slice_get xs number ≡ Some admission
  its : admission.item ≡ item

get-within : {A : Type 0} (xs : List A) (n : ℕ) (a : A) → slice_get xs n ≡ Some a → n < length xs
get-within {A} [] n a is = absurd (cc)
get-within {A} (x ∷ xs) zero a is = omega arith
get-within {A} (x ∷ xs) (suc n) a is = let rest = get-within xs n a is in omega arith

-- as the admissions are
module _ (o : Open) (xs : List Admission) (known : ℕ) (found : List ℕ)
    (lines : (queue : ℕ) → line o queue ≡ tickets (waits_for queue) xs)
    (runs : (queue : ℕ) → option_to_list (run o queue) ≡ tickets (runs_on queue) xs) (sound : IsSound known xs found) where
  own : (item number : ℕ) → IsBy o item number → IsItsOwn xs item number
  own item number (inl waits) =
      let at = is_at (waits_as item) xs number (sym (waiting-same o xs lines runs item (sound.once item)) ∙ waits) in
      record {
        admission = at.admission;
        there = at.there;
        its = eqb-true at.admission.item item (first_so (eqb at.admission.item item) (is_waiting at.admission.life) at.passes);
      }
  own item number (inr runs_it) =
      let at = is_at (runs_as item) xs number (sym (running-same o xs lines runs sound.home item) ∙ runs_it) in
      record {
        admission = at.admission;
        there = at.there;
        its = eqb-true at.admission.item item (first_so (eqb at.admission.item item) (is_running at.admission.life) at.passes);
      }

  none-there : (p : Admission → Bool) (n : ℕ) (a : Admission) → slice_get xs n ≡ Some a → p a ≡ true → position p xs ≡ None → ⊥
  none-there p n a there passes none = false≢true (sym (position-none p xs n a none there) ∙ passes)

  -- what waits and what runs is what its item waits and runs by
  once : (queue : ℕ) → All (λ (t : Ticket). waiting o t.item ≡ Some t.number) (line o queue)
  once queue = subst (All (λ (t : Ticket). waiting o t.item ≡ Some t.number)) (sym (lines queue))
      (All-weaker (IsTicketOf 0 (waits_for queue) xs) (λ (t : Ticket). waiting o t.item ≡ Some t.number) found_by
      (tickets (waits_for queue) xs) (all_stand 0 (waits_for queue) xs)) where
        found_by : (t : Ticket) → IsTicketOf 0 (waits_for queue) xs t → waiting o t.item ≡ Some t.number
        found_by t s = waiting-same o xs lines runs t.item (sound.once t.item) ∙ by (position (waits_as t.item) xs) refl where
          passes : waits_as t.item s.admission ≡ true
          passes = and_from (eqb s.admission.item t.item) (is_waiting s.admission.life) (eq-eqb s.admission.item t.item s.item)
              (second_so (eqb s.admission.queue queue) (is_waiting s.admission.life) s.passes)

          by : (p : Option ℕ) → position (waits_as t.item) xs ≡ p → position (waits_as t.item) xs ≡ Some t.number
          by None is = absurd (none-there (waits_as t.item) s.place s.admission s.there passes is)
          by (Some m) is =
              let at = is_at (waits_as t.item) xs m is in
              let number = s.number in
              let same = one-place (waits_as t.item) xs m s.place at.admission s.admission (sound.once t.item) at.there s.there
              at.passes passes in
              let here : m ≡ t.number = omega arith in
              is ∙ ap (λ (n : ℕ). Some n) here

  one : (queue : ℕ) (t : Ticket) → run o queue ≡ Some t → running o t.item ≡ Some t.number
  one queue t it = running-same o xs lines runs sound.home t.item ∙ by (position (runs_as t.item) xs) refl where
    s : IsTicketOf 0 (runs_on queue) xs t
    s = first_stands 0 (runs_on queue) xs t (ap first (sym (runs queue) ∙ ap option_to_list it))

    passes : runs_as t.item s.admission ≡ true
    passes = and_from (eqb s.admission.item t.item) (is_running s.admission.life) (eq-eqb s.admission.item t.item s.item)
        (second_so (eqb s.admission.queue queue) (is_running s.admission.life) s.passes)

    by : (p : Option ℕ) → position (runs_as t.item) xs ≡ p → position (runs_as t.item) xs ≡ Some t.number
    by None is = absurd (none-there (runs_as t.item) s.place s.admission s.there passes is)
    by (Some m) is =
        let at = is_at (runs_as t.item) xs m is in
        let number = s.number in
        let same = one-run o xs lines runs sound.home t.item m s.place at.admission s.admission at.there s.there
        at.passes passes in
        let here : m ≡ t.number = omega arith in
        is ∙ ap (λ (n : ℕ). Some n) here

  pub numbered_as : (next : ℕ) → next ≡ length xs → o.items ≡ known → AreNumbered next o
  numbered_as next made items =
      record {
        once = once;
        one = one;
        below = λ item number by.
            let it = own item number by in
            let within = get-within xs number it.admission it.there in
            omega arith;
        apart = λ i j number by also.
            let it = own i number by in
            let too = own j number also in
            sym it.its ∙ ap (λ (a : Admission). a.item) (same_Some it.admission too.admission (sym it.there ∙ too.there)) ∙ too.its;
        within = λ queue t is.
            let at = first_stands 0 (waits_for queue) xs t (ap first (sym (lines queue)) ∙ is) in
            let known = sound.known at.place at.admission at.there in
            let its = at.item in
            omega arith;
      }

first-pushed : (line : List Ticket) (t u : Ticket) → first (line ++ t ∷ []) ≡ Some u → (first line ≡ Some u) ⊎ (t ≡ u)
first-pushed [] t u is = inr (same_Some t u is)
first-pushed (x ∷ line) t u is = inl is

pub not-queued : (o : Open) (item : ℕ) → is_queued o item ≡ false → waiting o item ≡ None
not-queued o item free = by (waiting o item) free where
  by : (w : Option ℕ) → is_some w ≡ false → w ≡ None
  by None free = refl
  by (Some n) free = absurd (cc)

-- an admission
module _ (next : ℕ) (o : Open) (item queue : ℕ) (old : AreNumbered next o) (item_in : item < o.items)
    (queue_in : queue < length o.lines) (free : is_queued o item ≡ false) where
  abbrev t : Ticket
  t = record { item = item; number = next }

  came : (i number : ℕ) → IsBy (admit o item queue next) i number → IsBy o i number ⊎ ((i ≡ item) × (number ≡ next))
  came i number (inr runs) = inl (inr runs)
  came i number (inl waits) = by (cases_eq i item) where
    by : (i ≡ item) ⊎ (i ≡ item → ⊥) → IsBy o i number ⊎ ((i ≡ item) × (number ≡ next))
    by (inl same) = inr (
      same,
      waiting-admitted o item queue next number (not-queued o item free)
          (ap (waiting (admit o item queue next)) (sym same) ∙ waits),
    )
    by (inr differ) = inl (inl (sym (waiting-admit o i item queue next differ) ∙ waits))

  below : (i number : ℕ) → IsBy o i number ⊎ ((i ≡ item) × (number ≡ next)) → number < next + 1
  below i number (inl before) = let less = old.below i number before in omega arith
  below i number (inr new) = let is = new.1 in omega arith

  apart : (i j number : ℕ) → IsBy o i number ⊎ ((i ≡ item) × (number ≡ next)) →
      IsBy o j number ⊎ ((j ≡ item) × (number ≡ next)) → i ≡ j
  apart i j number (inl before) (inl also) = old.apart i j number before also
  apart i j number (inl before) (inr new) = absurd (let less = old.below i number before in let is = new.1 in omega arith)
  apart i j number (inr new) (inl before) = absurd (let less = old.below j number before in let is = new.1 in omega arith)
  apart i j number (inr new) (inr also) = new.0 ∙ sym also.0

  within : (q : ℕ) (u : Ticket) → (q ≡ queue) ⊎ (q ≡ queue → ⊥) → first (line (admit o item queue next) q) ≡ Some u →
      u.item < o.items
  within q u (inr differ) is =
      old.within q u (ap first (sym (get_or-set_other o.lines queue q (line o queue ++ t ∷ []) [] differ)) ∙ is)
  within q u (inl same) is =
      by (first-pushed (line o queue) t u
      (ap first (sym (get_or-set_same o.lines queue (line o queue ++ t ∷ []) [] queue_in))
      ∙ ap (λ q. first (line (admit o item queue next) q)) (sym same) ∙ is)) where
        by : (first (line o queue) ≡ Some u) ⊎ (t ≡ u) → u.item < o.items
        by (inl before) = old.within queue u before
        by (inr it) = subst (λ (u : Ticket). u.item < o.items) it item_in

  abbrev after : Open
  after = admit o item queue next

  -- whatever waited goes on by its number
  once-before : (q : ℕ) → All (λ (u : Ticket). waiting after u.item ≡ Some u.number) (line o q)
  once-before q = All-weaker (λ (u : Ticket). waiting o u.item ≡ Some u.number)
      (λ (u : Ticket). waiting after u.item ≡ Some u.number) keeps (line o q) (old.once q) where
        keeps : (u : Ticket) → waiting o u.item ≡ Some u.number → waiting after u.item ≡ Some u.number
        keeps u waits = by (cases_eq u.item item) where
          by : (u.item ≡ item) ⊎ (u.item ≡ item → ⊥) → waiting after u.item ≡ Some u.number
          by (inl same) = absurd (false≢true (ap is_some (sym (not-queued o item free) ∙ ap (waiting o) (sym same) ∙ waits)))
          by (inr differ) = waiting-admit o u.item item queue next differ ∙ waits

  once-after : (q : ℕ) → (q ≡ queue) ⊎ (q ≡ queue → ⊥) →
      All (λ (u : Ticket). waiting after u.item ≡ Some u.number) (line after q)
  once-after q (inr differ) = subst (All (λ (u : Ticket). waiting after u.item ≡ Some u.number))
      (sym (get_or-set_other o.lines queue q (line o queue ++ t ∷ []) [] differ)) (once-before q)
  once-after q (inl same) =
      subst (λ q. All (λ (u : Ticket). waiting after u.item ≡ Some u.number) (line after q)) (sym same)
      (subst (All (λ (u : Ticket). waiting after u.item ≡ Some u.number))
      (sym (get_or-set_same o.lines queue (line o queue ++ t ∷ []) [] queue_in))
      (All-push (λ (u : Ticket). waiting after u.item ≡ Some u.number) (line o queue) t (once-before queue)
      (waits-now o item queue next (not-queued o item free) queue_in)))

  pub numbered-admit : AreNumbered (next + 1) (admit o item queue next)
  numbered-admit =
      record {
        once = λ q. once-after q (cases_eq q queue);
        one = old.one;
        below = λ i number by. below i number (came i number by);
        apart = λ i j number by also. apart i j number (came i number by) (came j number also);
        within = λ q u is. within q u (cases_eq q queue) is;
      }

-- a submission with an answer of the engine
pub numbered-submitted : (k : EngineState) (caller : Option ℕ) (item : ℕ) (named : Option ℕ) → AreNumbered k.made k.active →
    item < k.active.items → length k.queues ≡ length k.active.lines →
    let after = submitted k item (answer_of k caller item named) in AreNumbered after.made after.active
numbered-submitted k caller item named numbered item_in queues = by (admitted_to (answer_of k caller item named)) refl where
  by : (to : Option ℕ) → admitted_to (answer_of k caller item named) ≡ to →
      let after = option_map_or (admitted k item) (admitted_to (answer_of k caller item named)) k in
      AreNumbered after.made after.active
  by None is = subst (λ (to : Option ℕ). let after = option_map_or (admitted k item) to k in
      AreNumbered after.made after.active) (sym is) numbered
  by (Some queue) is =
      let inside = submission-within (item_of k item) k.queues caller named queue is in
      let admits = submission-admits (item_of k item) k.queues caller named queue is in
      subst (λ (to : Option ℕ). let after = option_map_or (admitted k item) to k in
      AreNumbered after.made after.active) (sym is)
      (numbered-admit k.made k.active item queue numbered item_in (omega arith) admits.not_waiting)

-- a flush that ends the item's delay leaves the number of items
pub items-hurried : (k : EngineState) (who : Who) (item : ℕ) → (hurried k who item).active.items ≡ k.active.items
items-hurried k who item = by (queue_of k.timeouts item) where
  by : (q : Option ℕ) →
      (option_map_or (λ queue. submitted (disarmed k item) item (answer_of (disarmed k item) (Some who.number) item (Some queue)))
      q (disarmed k item)).active.items ≡ k.active.items
  by None = refl
  by (Some queue) = submitted-same (λ (k : EngineState). k.active.items) (disarmed k item) item
      (answer_of (disarmed k item) (Some who.number) item (Some queue)) (λ to. refl)

-- a flush has ended the item's delay
pub numbered-hurried : (k : EngineState) (who : Who) (item : ℕ) → IsWhole k → item < k.active.items →
    AreNumbered (hurried k who item).made (hurried k who item).active
numbered-hurried k who item w item_in = by (queue_of k.timeouts item) where
  d : EngineState
  d = disarmed k item

  long : length k.queues ≡ length k.active.lines
  long = w.queues ∙ sym w.shaped.lines

  by : (q : Option ℕ) →
      let after = option_map_or (λ queue. submitted d item (answer_of d (Some who.number) item (Some queue))) q d in
      AreNumbered after.made after.active
  by None = w.numbered
  by (Some queue) = numbered-submitted d (Some who.number) item (Some queue) w.numbered item_in long
