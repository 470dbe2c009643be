-- The tickets of the admissions that pass, and what a change of the admissions makes of them.
use Rattle.std.proofs.Common.{◌≡◌, ℕ, zero, suc, ◌+◌, ◌≤◌, Bool, true, false, cond, Some, option_map, List, [], ◌∷◌, ◌++◌, length, map, slice_get, count_by, All, refl, sym, ap, ◌∙◌, add-zero, arith}
use Rattle.std.specs.List.{position}
use Rattle.std.proofs.lemmas.Bool.{false≢true}
use Rattle.std.proofs.lemmas.List.Elements.{All-nil, All-cons, All-weaker}
use Rattle.std.proofs.lemmas.List.Sums.{sum_by-cons}
use Rattle.std.proofs.lemmas.Option.{same_Some}
use Rattle.zk_model_work.specs.declared.parts.Admission.{Admission}
use Rattle.zk_model_work.specs.Lists.{first, places_from}
use Rattle.zk_model_work.specs.Questions.{weight}
use Rattle.zk_model_work.proofs.Lines.{first_of_places}
use Rattle.zk_queue.specs.declared.ticket.Ticket.{Ticket}
use Rattle.zk_work.specs.Tickets.{tickets_from, tickets}

-- the ticket of an admission
abbrev pub ticket : Admission → ℕ → Ticket
ticket a n = record { item = a.item; number = n }

cond-map : {A B : Type 0} (f : A → B) (b : Bool) (x y : A) → f (cond b x y) ≡ cond b (f x) (f y)
cond-map f true x y = refl
cond-map f false x y = refl

-- the numbers of the tickets are the places of what passes
numbers : (n : ℕ) (p : Admission → Bool) (xs : List Admission) →
    map (λ (t : Ticket). t.number) (tickets_from n p xs) ≡ places_from n p xs
numbers n p [] = refl
numbers n p (x ∷ xs) =
    cond-map (map (λ (t : Ticket). t.number)) (p x) (ticket x n ∷ tickets_from (n + 1) p xs) (tickets_from (n + 1) p xs)
    ∙ ap (λ (ns : List ℕ). cond (p x) (n ∷ ns) ns) (numbers (n + 1) p xs)

first-map : {A B : Type 0} (f : A → B) (xs : List A) → first (map f xs) ≡ option_map f (first xs)
first-map f [] = refl
first-map f (x ∷ xs) = refl

-- the first that passes has the first ticket
pub position-first : (p : Admission → Bool) (xs : List Admission) →
    position p xs ≡ option_map (λ (t : Ticket). t.number) (first (tickets p xs))
position-first p xs = first_of_places p xs ∙ ap first (sym (numbers 0 p xs)) ∙ first-map (λ (t : Ticket). t.number) (tickets p xs)

-- what the first ticket stands for
pub record IsTicketOf (n : ℕ) (p : Admission → Bool) (xs : List Admission) (t : Ticket) : Type 0 where
  pub place : ℕ
  pub admission : Admission
  pub there : slice_get xs place ≡ Some admission
  pub number : t.number ≡ n + place
  pub item : admission.item ≡ t.item
  pub passes : p admission ≡ true

-- what stands behind the first stands there with it
pub stands-behind : (n : ℕ) (p : Admission → Bool) (x : Admission) (xs : List Admission) (t : Ticket) →
    IsTicketOf (n + 1) p xs t → IsTicketOf n p (x ∷ xs) t
stands-behind n p x xs t s =
    let number = s.number in
    record {
      place = suc s.place;
      admission = s.admission;
      there = s.there;
      number = omega arith;
      item = s.item;
      passes = s.passes;
    }

pub first_stands : (n : ℕ) (p : Admission → Bool) (xs : List Admission) (t : Ticket) →
    first (tickets_from n p xs) ≡ Some t → IsTicketOf n p xs t
first_stands n p [] t is = absurd (cc)
first_stands n p (x ∷ xs) t is = by (p x) refl is (λ there. first_stands (n + 1) p xs t there) where
  by : (b : Bool) → p x ≡ b → first (cond b (ticket x n ∷ tickets_from (n + 1) p xs) (tickets_from (n + 1) p xs)) ≡ Some t →
      (first (tickets_from (n + 1) p xs) ≡ Some t → IsTicketOf (n + 1) p xs t) → IsTicketOf n p (x ∷ xs) t
  by true passes is further = record {
    place = 0;
    admission = x;
    there = refl;
    number = ap (λ (t : Ticket). t.number) (sym (same_Some (ticket x n) t is)) ∙ sym (add-zero n);
    item = ap (λ (t : Ticket). t.item) (same_Some (ticket x n) t is);
    passes = passes;
  }
  by false passes is further = stands-behind n p x xs t (further is)

-- each ticket stands for an admission that passes
pub all_stand : (n : ℕ) (p : Admission → Bool) (xs : List Admission) → All (IsTicketOf n p xs) (tickets_from n p xs)
all_stand n p [] = All-nil (IsTicketOf n p [])
all_stand n p (x ∷ xs) =
    by (p x) refl (All-weaker (IsTicketOf (n + 1) p xs) (IsTicketOf n p (x ∷ xs)) (λ t s. stands-behind n p x xs t s)
    (tickets_from (n + 1) p xs) (all_stand (n + 1) p xs)) where
      by : (b : Bool) → p x ≡ b → All (IsTicketOf n p (x ∷ xs)) (tickets_from (n + 1) p xs) →
          All (IsTicketOf n p (x ∷ xs)) (cond b (ticket x n ∷ tickets_from (n + 1) p xs) (tickets_from (n + 1) p xs))
      by true passes rest = All-cons (IsTicketOf n p (x ∷ xs)) (ticket x n) (tickets_from (n + 1) p xs)
          (record { place = 0; admission = x; there = refl; number = sym (add-zero n); item = refl; passes = passes }) rest
      by false passes rest = rest

-- one more admission at the end
pub tickets-push : (n : ℕ) (p : Admission → Bool) (xs : List Admission) (a : Admission) →
    tickets_from n p (xs ++ a ∷ []) ≡ tickets_from n p xs ++ cond (p a) (ticket a (n + length xs) ∷ []) []
tickets-push n p [] a = ap (λ m. cond (p a) (ticket a m ∷ []) []) (sym (add-zero n))
tickets-push n p (x ∷ xs) a =
    let next : (n + 1) + length xs ≡ n + suc (length xs) = omega arith in
    let rest = tickets-push (n + 1) p xs a ∙ ap (λ m. tickets_from (n + 1) p xs ++ cond (p a) (ticket a m ∷ []) []) next in
    ap (λ (ts : List Ticket). cond (p x) (ticket x n ∷ ts) ts) rest
    ∙ sym (cond-map (λ (ts : List Ticket). ts ++ cond (p a) (ticket a (n + suc (length xs)) ∷ []) []) (p x)
    (ticket x n ∷ tickets_from (n + 1) p xs) (tickets_from (n + 1) p xs))

-- a change that keeps the items and the test
pub tickets-map : (n : ℕ) (p : Admission → Bool) (f : Admission → Admission) (xs : List Admission) →
    ((a : Admission) → p (f a) ≡ p a) → ((a : Admission) → (f a).item ≡ a.item) →
    tickets_from n p (map f xs) ≡ tickets_from n p xs
tickets-map n p f [] same items = refl
tickets-map n p f (x ∷ xs) same items =
    let rest = tickets-map (n + 1) p f xs same items in
    ap (λ b. cond b (ticket (f x) n ∷ tickets_from (n + 1) p (map f xs)) (tickets_from (n + 1) p (map f xs))) (same x)
    ∙ ap (λ (ts : List Ticket). cond (p x) (ticket (f x) n ∷ ts) ts) rest
    ∙ ap (λ i. cond (p x) (record { item = i; number = n } ∷ tickets_from (n + 1) p xs) (tickets_from (n + 1) p xs)) (items x)

-- a change after which none passes
pub tickets-map_none : (n : ℕ) (p : Admission → Bool) (f : Admission → Admission) (xs : List Admission) →
    ((a : Admission) → p (f a) ≡ false) → tickets_from n p (map f xs) ≡ []
tickets-map_none n p f [] none = refl
tickets-map_none n p f (x ∷ xs) none =
    ap (λ b. cond b (ticket (f x) n ∷ tickets_from (n + 1) p (map f xs)) (tickets_from (n + 1) p (map f xs))) (none x)
    ∙ tickets-map_none (n + 1) p f xs none

-- where there is no ticket, none passes
pub tickets-none : (n : ℕ) (p : Admission → Bool) (xs : List Admission) (m : ℕ) (a : Admission) →
    tickets_from n p xs ≡ [] → slice_get xs m ≡ Some a → p a ≡ false
tickets-none n p [] m a none at = absurd (cc)
tickets-none n p (x ∷ xs) m a none at = by (p x) refl none m at (λ none m at. tickets-none (n + 1) p xs m a none at) where
  by : (b : Bool) → p x ≡ b → cond b (ticket x n ∷ tickets_from (n + 1) p xs) (tickets_from (n + 1) p xs) ≡ [] → (m : ℕ) →
      slice_get (x ∷ xs) m ≡ Some a →
      (tickets_from (n + 1) p xs ≡ [] → (m : ℕ) → slice_get xs m ≡ Some a → p a ≡ false) → p a ≡ false
  by true passes none m at further = absurd (cc)
  by false passes none zero at further = ap p (sym (same_Some x a at)) ∙ passes
  by false passes none (suc m) at further = further none m at

-- where there is one ticket, it is that of each that passes
pub tickets-one : (n : ℕ) (p : Admission → Bool) (xs : List Admission) (m : ℕ) (a : Admission) (t : Ticket) →
    tickets_from n p xs ≡ t ∷ [] → slice_get xs m ≡ Some a → p a ≡ true → t ≡ ticket a (n + m)
tickets-one n p [] m a t one at passes = absurd (cc)
tickets-one n p (x ∷ xs) m a t one at passes =
    by (p x) refl one m at (λ one m at. tickets-one (n + 1) p xs m a t one at passes) where
      by : (b : Bool) → p x ≡ b → cond b (ticket x n ∷ tickets_from (n + 1) p xs) (tickets_from (n + 1) p xs) ≡ t ∷ [] →
          (m : ℕ) → slice_get (x ∷ xs) m ≡ Some a →
          (tickets_from (n + 1) p xs ≡ t ∷ [] → (m : ℕ) → slice_get xs m ≡ Some a → t ≡ ticket a ((n + 1) + m)) →
          t ≡ ticket a (n + m)
      by true is one zero at further =
          let same : t ≡ ticket x n = cc in
          let here = same_Some x a at in
          same ∙ ap (λ (b : Admission). ticket b n) here ∙ ap (ticket a) (sym (add-zero n))
      by true is one (suc m) at further =
          let none : tickets_from (n + 1) p xs ≡ [] = cc in
          absurd (false≢true (sym (tickets-none (n + 1) p xs m a none at) ∙ passes))
      by false is one zero at further = absurd (false≢true (sym is ∙ ap p (same_Some x a at) ∙ passes))
      by false is one (suc m) at further =
          let next : (n + 1) + m ≡ n + suc m = omega arith in
          further one m at ∙ ap (ticket a) next

-- counts of what passes

pub count-cons : (p : Admission → Bool) (x : Admission) (xs : List Admission) →
    count_by p (x ∷ xs) ≡ weight 1 (p x) + count_by p xs
count-cons p x xs = sum_by-cons (λ (a : Admission). cond (p a) 1 0) x xs

pub count-none : (p : Admission → Bool) (xs : List Admission) →
    ((m : ℕ) (a : Admission) → slice_get xs m ≡ Some a → p a ≡ false) → count_by p xs ≡ 0
count-none p [] none = refl
count-none p (x ∷ xs) none =
    let here : weight 1 (p x) ≡ 0 = ap (weight 1) (none 0 x refl) in
    let rest = count-none p xs (λ m a at. none (suc m) a at) in
    omega (arith, count-cons p x xs)

-- where at most one passes, and the first does, no later one does
pub none_behind : (p : Admission → Bool) (x : Admission) (xs : List Admission) → p x ≡ true → count_by p (x ∷ xs) ≤ 1 →
    count_by p xs ≡ 0
none_behind p x xs passes once =
    let here : weight 1 (p x) ≡ 1 = ap (weight 1) passes in
    omega (arith, count-cons p x xs)

pub less_behind : (p : Admission → Bool) (x : Admission) (xs : List Admission) (n : ℕ) → count_by p (x ∷ xs) ≤ n →
    count_by p xs ≤ n
less_behind p x xs n few = omega (arith, count-cons p x xs)

pub none_here : (p : Admission → Bool) (x : Admission) (xs : List Admission) → count_by p (x ∷ xs) ≡ 0 →
    (p x ≡ false) × (count_by p xs ≡ 0)
none_here p x xs none = by (p x) refl (omega (arith, count-cons p x xs)) where
  by : (b : Bool) → p x ≡ b → weight 1 (p x) + count_by p xs ≡ 0 → (p x ≡ false) × (count_by p xs ≡ 0)
  by true is none = let here : weight 1 (p x) ≡ 1 = ap (weight 1) is in absurd (omega arith)
  by false is none = let here : weight 1 (p x) ≡ 0 = ap (weight 1) is in (is, omega arith)

pub count-some : (p : Admission → Bool) (xs : List Admission) (m : ℕ) (a : Admission) → slice_get xs m ≡ Some a →
    p a ≡ true → 1 ≤ count_by p xs
count-some p [] m a at passes = absurd (cc)
count-some p (x ∷ xs) zero a at passes =
    let here : weight 1 (p x) ≡ 1 = ap (λ (b : Admission). weight 1 (p b)) (same_Some x a at) ∙ ap (weight 1) passes in
    omega (arith, count-cons p x xs)
count-some p (x ∷ xs) (suc m) a at passes = let rest = count-some p xs m a at passes in omega (arith, count-cons p x xs)

pub count-push : (p : Admission → Bool) (xs : List Admission) (a : Admission) →
    count_by p (xs ++ a ∷ []) ≡ count_by p xs + weight 1 (p a)
count-push p [] a = omega (arith, count-cons p a [])
count-push p (x ∷ xs) a = let rest = count-push p xs a in omega (arith, count-cons p x xs, count-cons p x (xs ++ a ∷ []))

pub count-map : (p : Admission → Bool) (f : Admission → Admission) (xs : List Admission) →
    ((a : Admission) → p (f a) ≡ p a) → count_by p (map f xs) ≡ count_by p xs
count-map p f [] same = refl
count-map p f (x ∷ xs) same =
    let rest = count-map p f xs same in
    let here : weight 1 (p (f x)) ≡ weight 1 (p x) = ap (weight 1) (same x) in
    omega (arith, count-cons p x xs, count-cons p (f x) (map f xs))

pub count-map_less : (p : Admission → Bool) (f : Admission → Admission) (xs : List Admission) →
    ((a : Admission) → p (f a) ≡ true → p a ≡ true) → count_by p (map f xs) ≤ count_by p xs
count-map_less p f [] less = omega arith
count-map_less p f (x ∷ xs) less =
    let rest = count-map_less p f xs less in
    let here = by (p (f x)) (p x) (less x) in
    omega (arith, count-cons p x xs, count-cons p (f x) (map f xs)) where
      by : (b c : Bool) → (b ≡ true → c ≡ true) → weight 1 b ≤ weight 1 c
      by true c less = let is : weight 1 c ≡ 1 = ap (weight 1) (less refl) in omega arith
      by false c less = omega arith
