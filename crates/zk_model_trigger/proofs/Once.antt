-- An arm fires once at most: by number it waits or has fired, and never both.
use Rattle.std.proofs.Common.{◌≡◌, ℕ, ◌+◌, ◌≤◌, Bool, true, false, not, ◌&&◌, cond, eqb, Option, Some, None, option_map, option_to_list, is_some, List, [], ◌∷◌, ◌++◌, refl, sym, ap, subst, ◌∙◌, ◌⊎◌, inl, inr, arith}
use Rattle.std.specs.List.{filter, filter_map, cons_option, count_by}
use Rattle.std.proofs.lemmas.Bool.{eq-eqb, ne_eqb, cases_eq}
use Rattle.std.proofs.lemmas.List.{append-nil, append_assoc}
use Rattle.std.proofs.lemmas.List.Elements.{filter-append}
use Rattle.std.proofs.lemmas.List.Sums.{sum_by_push, sum_by-append}
use Rattle.zk_base.proofs.Firsts.{one_if}
use Rattle.zk_base.proofs.Order.{filter-by_key}
use Rattle.zk_model_trigger.specs.declared.ops.Cause.{Cause}
use Rattle.zk_model_trigger.specs.declared.ops.TriggerOp.{TriggerOp}
use Rattle.zk_model_trigger.specs.declared.ops.TriggerOp.TheVariants as ops
use Rattle.zk_model_trigger.specs.declared.ops.TriggerReply.{TriggerReply}
use Rattle.zk_model_trigger.specs.declared.ops.TriggerReply.TheVariants as replies
use Rattle.zk_model_trigger.specs.declared.parts.Arm.{Arm}
use Rattle.zk_model_trigger.specs.declared.parts.Fire.{Fire}
use Rattle.zk_model_trigger.specs.Arms.{deadline_of, fire_of}
use Rattle.zk_model_trigger.specs.Histories.{TriggerEntry, TriggerHistory, time_after, is_armed, arms_in, cancels_item, made_by, cause_after, has_cause, if_waiting, waiting_after, firing_order, fires_by, fires_of}
use Rattle.zk_model_trigger.specs.Laws.{OfEach, FiresOnce}
use Rattle.zk_model_trigger.proofs.Lists.{count-cons, count-by_key, count-both}
use Rattle.zk_model_trigger.proofs.Waiting.{stays_by, waiting_from-snoc, fires_from-snoc}

-- an arm of this number
abbrev pub numbered : ℕ → Arm → Bool
numbered n a = eqb a.number n

-- a fire of it
abbrev pub fired_as : ℕ → Fire → Bool
fired_as n f = eqb f.arm.number n

-- as many fires as arms that have a cause
count-fires : (n : ℕ) (cause : Arm → Option Cause) (xs : List Arm) →
    count_by (fired_as n) (filter_map (λ a. option_map (λ c. fire_of c a) (cause a)) xs)
    ≡ count_by (numbered n) (filter (λ a. is_some (cause a)) xs)
count-fires n cause [] = refl
count-fires n cause (x ∷ xs) = by (cause x) (count-fires n cause xs) where
  fires : List Fire
  fires = filter_map (λ a. option_map (λ c. fire_of c a) (cause a)) xs

  kept : List Arm
  kept = filter (λ a. is_some (cause a)) xs

  by : (o : Option Cause) → count_by (fired_as n) fires ≡ count_by (numbered n) kept →
      count_by (fired_as n) (cons_option (option_map (λ c. fire_of c x) o) fires)
      ≡ count_by (numbered n) (cond (is_some o) (x ∷ kept) kept)
  by None rest = rest
  by (Some c) rest = omega (arith, count-cons (fired_as n) (fire_of c x) fires, count-cons (numbered n) x kept)

-- in whatever order they fire
count-order : (n : ℕ) (test : Arm → Bool) (op : TriggerOp) (xs : List Arm) →
    count_by (numbered n) (filter test (firing_order op xs)) ≡ count_by (numbered n) (filter test xs)
count-order n test (ops.Tick ticks) xs =
    ap (count_by (numbered n)) (filter-by_key test deadline_of xs) ∙ count-by_key (numbered n) deadline_of (filter test xs)
count-order n test (ops.Arm item queue events ticks) xs = refl
count-order n test (ops.Post event) xs = refl
count-order n test (ops.Unpost event) xs = refl
count-order n test (ops.Cancel item) xs = refl
count-order n test ops.Next xs = refl

-- fewer pass a test that another comes with
count-less : (n : ℕ) (p q : Arm → Bool) (xs : List Arm) →
    count_by (numbered n) (filter (λ a. p a && q a) xs) ≤ count_by (numbered n) (filter q xs)
count-less n p q [] = omega arith
count-less n p q (x ∷ xs) = by (p x) (q x) (count-less n p q xs) where
  both : List Arm
  both = filter (λ a. p a && q a) xs

  kept : List Arm
  kept = filter q xs

  by : (a b : Bool) → count_by (numbered n) both ≤ count_by (numbered n) kept →
      count_by (numbered n) (cond (a && b) (x ∷ both) both) ≤ count_by (numbered n) (cond b (x ∷ kept) kept)
  by true true rest = omega (arith, count-cons (numbered n) x both, count-cons (numbered n) x kept)
  by false true rest = omega (arith, count-cons (numbered n) x kept)
  by true false rest = rest
  by false false rest = rest

-- by number, what waits or has fired
abbrev pub in_all : ℕ → TriggerHistory → ℕ
in_all n h = count_by (numbered n) (waiting_after h) + count_by (fired_as n) (fires_of h)

-- the one that an entry makes waits, or fires, and not both
own-once : (n : ℕ) (h : TriggerHistory) (o : Option Arm) →
    count_by (numbered n) (if_waiting o h []) + count_by (numbered n) (filter (has_cause h) (option_to_list o))
    ≡ count_by (numbered n) (option_to_list o)
own-once n h None = refl
own-once n h (Some a) = by (has_cause h a) where
  by : (b : Bool) → count_by (numbered n) (cond (not b) (a ∷ []) []) + count_by (numbered n) (cond b (a ∷ []) [])
      ≡ count_by (numbered n) (a ∷ [])
  by true = omega arith
  by false = omega arith

-- an entry adds no more than the arm that it makes
pub more : (n : ℕ) (h : TriggerHistory) (e : TriggerEntry) →
    in_all n (h ++ e ∷ []) ≤ in_all n h + count_by (numbered n) (option_to_list (made_by h e.op e.reply))
more n h e =
    let after = h ++ e ∷ [] in
    let waits = waiting_after h in
    let own = option_to_list (made_by h e.op e.reply) in
    let stay = filter (stays_by h e) waits in
    let new = if_waiting (made_by h e.op e.reply) after [] in
    let w : count_by (numbered n) (waiting_after after) ≡ count_by (numbered n) stay + count_by (numbered n) new =
    ap (count_by (numbered n)) (waiting_from-snoc [] h e) ∙ sum_by-append (λ (a : Arm). one_if (numbered n a)) stay new in
    let f : count_by (fired_as n) (fires_of after) ≡ count_by (fired_as n) (fires_of h) + count_by (fired_as n) (fires_by h e) =
    ap (count_by (fired_as n)) (fires_from-snoc [] h e)
    ∙ sum_by-append (λ (x : Fire). one_if (fired_as n x)) (fires_of h) (fires_by h e) in
    let b : count_by (fired_as n) (fires_by h e)
    ≡ count_by (numbered n) (filter (has_cause after) waits) + count_by (numbered n) (filter (has_cause after) own) =
    count-fires n (cause_after after) (firing_order e.op (waits ++ own))
    ∙ count-order n (has_cause after) e.op (waits ++ own)
    ∙ ap (count_by (numbered n)) (filter-append (has_cause after) waits own)
    ∙ sum_by-append (λ (a : Arm). one_if (numbered n a)) (filter (has_cause after) waits) (filter (has_cause after) own) in
    let less = count-less n (λ a. not (cancels_item a.item e.op e.reply)) (λ a. not (has_cause after a)) waits in
    let both = count-both (numbered n) (has_cause after) waits in
    let once = own-once n after (made_by h e.op e.reply) in
    omega arith

-- the arm that an entry makes has the next number
pub made-number : (n : ℕ) (h : TriggerHistory) (op : TriggerOp) (reply : TriggerReply) →
    (arms_in h + one_if (is_armed reply) ≤ n → count_by (numbered n) (option_to_list (made_by h op reply)) ≡ 0)
    × ((count_by (numbered n) (option_to_list (made_by h op reply)) ≡ 0) ⊎
    ((arms_in h ≡ n) × (count_by (numbered n) (option_to_list (made_by h op reply)) ≡ 1)))
made-number n h (ops.Arm item queue events ticks) (replies.Armed number) =
    ((λ above. omega (arith, count-cons (numbered n) new [], ne above)), cases (cases_eq (arms_in h) n)) where
      new : Arm
      new = record {
        number = arms_in h;
        item = item;
        queue = queue;
        events = events;
        deadline = option_map (λ t. time_after h + t) ticks;
      }

      ne : arms_in h + 1 ≤ n → one_if (numbered n new) ≡ 0
      ne above = ap one_if (ne_eqb (arms_in h) n (λ same. omega arith))

      cases : (arms_in h ≡ n) ⊎ (arms_in h ≡ n → ⊥) → (count_by (numbered n) (new ∷ []) ≡ 0)
          ⊎ ((arms_in h ≡ n) × (count_by (numbered n) (new ∷ []) ≡ 1))
      cases (inl same) =
          let here : one_if (numbered n new) ≡ 1 = ap one_if (eq-eqb (arms_in h) n same) in
          inr (same, omega (arith, count-cons (numbered n) new []))
      cases (inr apart) =
          let here : one_if (numbered n new) ≡ 0 = ap one_if (ne_eqb (arms_in h) n apart) in
          inl (omega (arith, count-cons (numbered n) new []))
made-number n h (ops.Arm item queue events ticks) replies.Busy = ((λ above. refl), inl refl)
made-number n h (ops.Arm item queue events ticks) replies.Done = ((λ above. refl), inl refl)
made-number n h (ops.Arm item queue events ticks) replies.Inval = ((λ above. refl), inl refl)
made-number n h (ops.Arm item queue events ticks) (replies.Now time) = ((λ above. refl), inl refl)
made-number n h (ops.Arm item queue events ticks) (replies.Fire number of to cause) = ((λ above. refl), inl refl)
made-number n h (ops.Post event) reply = ((λ above. refl), inl refl)
made-number n h (ops.Unpost event) reply = ((λ above. refl), inl refl)
made-number n h (ops.Tick ticks) reply = ((λ above. refl), inl refl)
made-number n h (ops.Cancel item) reply = ((λ above. refl), inl refl)
made-number n h ops.Next reply = ((λ above. refl), inl refl)

-- of each number there is one at most, and of those that were not given yet there is none
abbrev Singles : TriggerHistory → Type 0
Singles h = (n : ℕ) → (in_all n h ≤ 1) × (arms_in h ≤ n → in_all n h ≡ 0)

singles-snoc : (h : TriggerHistory) (e : TriggerEntry) → Singles h → Singles (h ++ e ∷ [])
singles-snoc h e before n =
    let grown = more n h e in
    let counted = sum_by_push (λ (x : TriggerEntry). one_if (is_armed x.reply)) h e in
    let made = made-number n h e.op e.reply in
    (one made.1, (λ above. let none = (before n).1 (omega arith) in let new = made.0 (omega arith) in omega arith)) where
      one : (count_by (numbered n) (option_to_list (made_by h e.op e.reply)) ≡ 0)
          ⊎ ((arms_in h ≡ n) × (count_by (numbered n) (option_to_list (made_by h e.op e.reply)) ≡ 1)) →
          in_all n (h ++ e ∷ []) ≤ 1
      one (inl none) = let grown = more n h e in let most = (before n).0 in omega arith
      one (inr next) = let grown = more n h e in let none = (before n).1 (omega arith) in let new = next.1 in omega arith

singles : (h es : TriggerHistory) → Singles h → Singles (h ++ es)
singles h [] is = subst Singles (sym (append-nil h)) is
singles h (e ∷ es) is = subst Singles (append_assoc h (e ∷ []) es) (singles (h ++ e ∷ []) es (singles-snoc h e is))

pub fires_once : OfEach FiresOnce
fires_once h legal n =
    let all = (singles [] h (λ m. (omega arith, λ above. refl)) n).0 in
    omega arith
