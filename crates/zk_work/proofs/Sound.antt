-- What holds of the admissions and marks of every state is kept by each change of them.
use Rattle.std.proofs.Common.{◌≡◌, ℕ, zero, suc, ◌<◌, ◌≤◌, ◌⊎◌, inl, inr, ◌≢◌, Bool, true, false, ◌&&◌, cond, eqb, ◌==◌, Option, Some, None, is_some, option_map, List, [], ◌∷◌, ◌++◌, length, map, slice_get, count_by, All, refl, sym, ap, subst, ◌∙◌, arith}
use Rattle.std.specs.Cmp.{second_so}
use Rattle.std.specs.Option.{option_or}
use Rattle.std.proofs.lemmas.Bool.{eqb-true, eq-eqb, false≢true, and_from}
use Rattle.std.proofs.lemmas.Bool.Decides.{eqb_tells}
use Rattle.std.proofs.lemmas.Option.{slice_get-map, same_Some}
use Rattle.zk_base.proofs.Lists.{and_second, none_from_is_some}
use Rattle.zk_model_work.specs.declared.parts.Life.{Life}
use Rattle.zk_model_work.specs.declared.parts.Life.TheVariants.{Waiting, Running, Ended, Dropped}
use Rattle.zk_model_work.specs.declared.parts.Admission.{Admission}
use Rattle.zk_model_work.specs.Questions.{running_queue, is_waiting, is_running, is_open, waits_as, runs_as, runs_on, waiting, running, last_queue, weight, item_of as machine_item}
use Rattle.zk_model_work.specs.Machine.{with_life, set_life, drop_one, end_one}
use Rattle.zk_model_work.proofs.Moves.{pushed}
use Rattle.zk_model_work.proofs.Lives.{open-waiting}
use Rattle.zk_model_work.proofs.Overlaps.{Admits, position-none, runs-open, Taken, taken}
use Rattle.zk_work.specs.EngineState.{IsSound, is_past_waiting}
use Rattle.zk_work.proofs.Tickets.{count-cons, count-none, count-push, count-map_less}
use Rattle.zk_work.proofs.Changes.{item-drop, queue-drop, item-end, queue-end}
use Rattle.zk_work.proofs.LastQueues.{last-push, last-map, last-set_life}
use Rattle.zk_work.proofs.Cancelling.{remarked, marked-push, marked-drop, marked-end, marked-begin, marked-cancel}
use Rattle.zk_work.proofs.Replies.{running_queue-last}

-- before the first entry
pub IsSound-fresh : (items : ℕ) → IsSound items [] []
IsSound-fresh items = record {
  known = λ n a at. absurd (none n a at);
  once = λ item. omega arith;
  home = λ n a at opens. absurd (none n a at);
  marked = λ k d within. absurd (omega arith);
} where
  none : (n : ℕ) (a : Admission) → slice_get [] n ≡ Some a → ⊥
  none n a at = cc

-- an item that some admission runs, runs
runs-some : (xs : List Admission) (item n : ℕ) (a : Admission) → slice_get xs n ≡ Some a → runs_as item a ≡ true →
    is_some (running xs item) ≡ true
runs-some xs item n a at runs = by (running xs item) refl where
  by : (o : Option ℕ) → running xs item ≡ o → is_some o ≡ true
  by None is = absurd (false≢true (sym (position-none (runs_as item) xs n a is at) ∙ runs))
  by (Some m) is = refl

-- an admission of the item
abbrev new : ℕ → ℕ → Admission
new item queue = record { item = item; queue = queue; life = Waiting }

-- a submission
pub IsSound-push : (items : ℕ) (xs : List Admission) (marks : List ℕ) (item : ℕ) (named : Option ℕ) (queue : ℕ) →
    Admits (machine_item xs marks item) named queue → item < items → IsSound items xs marks →
    IsSound items (xs ++ record { item = item; queue = queue; life = Waiting } ∷ []) marks
IsSound-push items xs marks item named queue admits within sound = record {
  known = λ n b at. known n b (pushed xs (new item queue) n b at);
  once = λ other. once other (eqb_tells item other);
  home = λ n b at opens. home n b opens (pushed xs (new item queue) n b at);
  marked = marked-push xs marks (new item queue) sound.marked;
} where
  known : (n : ℕ) (b : Admission) → (slice_get xs n ≡ Some b) ⊎ ((n ≡ length xs) × (new item queue ≡ b)) → b.item < items
  known n b (inl old) = sound.known n b old
  known n b (inr is) = let same = ap (λ (a : Admission). a.item) is.1 in omega arith

  not_waiting : (n : ℕ) (a : Admission) → slice_get xs n ≡ Some a → waits_as item a ≡ false
  not_waiting n a at = position-none (waits_as item) xs n a (none_from_is_some (waiting xs item) admits.not_waiting) at

  once : (other : ℕ) → ((eqb item other ≡ true) × (item ≡ other)) ⊎ ((eqb item other ≡ false) × (item ≢ other)) →
      count_by (waits_as other) (xs ++ new item queue ∷ []) ≤ 1
  once other (inl same) =
      let none : count_by (waits_as other) xs ≡ 0 =
      subst (λ i. count_by (waits_as i) xs ≡ 0) same.1 (count-none (waits_as item) xs not_waiting) in
      let most = at_most (eqb item other) in
      omega (arith, count-push (waits_as other) xs (new item queue)) where
        at_most : (b : Bool) → weight 1 (b && true) ≤ 1
        at_most true = omega arith
        at_most false = omega arith
  once other (inr differ) =
      let none : weight 1 (eqb item other && true) ≡ 0 = ap (λ b. weight 1 (b && true)) differ.0 in
      let before = sound.once other in
      omega (arith, count-push (waits_as other) xs (new item queue))

  -- where the item runs, that is where it goes
  to : (b : Admission) (n : ℕ) → slice_get xs n ≡ Some b → is_open b.life ≡ true → b.item ≡ item → queue ≡ b.queue
  to b n at opens is =
      let runs = runs-open b.life opens (and_second (eqb b.item item) (is_waiting b.life) (eq-eqb b.item item is)
      (not_waiting n b at)) in
      let some = runs-some xs item n b at (and_from (eqb b.item item) (is_running b.life) (eq-eqb b.item item is) runs) in
      let runs_at : running_queue xs item ≡ Some b.queue =
      running_queue-last items xs marks item sound ∙ ap (λ c. cond c (last_queue xs item) None) some
      ∙ ap (last_queue xs) (sym is) ∙ sound.home n b at opens in
      same_Some queue b.queue (sym admits.target_is
      ∙ ap (λ (o : Option ℕ). option_or o (option_or named (last_queue xs item))) runs_at)

  old_home : (b : Admission) (n : ℕ) (c : Bool) → (item == b.item) ≡ c → slice_get xs n ≡ Some b → is_open b.life ≡ true →
      cond c (Some queue) (last_queue xs b.item) ≡ Some b.queue
  old_home b n true same at opens = ap Some (to b n at opens (sym (eqb-true item b.item same)))
  old_home b n false same at opens = sound.home n b at opens

  home : (n : ℕ) (b : Admission) → is_open b.life ≡ true →
      (slice_get xs n ≡ Some b) ⊎ ((n ≡ length xs) × (new item queue ≡ b)) →
      last_queue (xs ++ new item queue ∷ []) b.item ≡ Some b.queue
  home n b opens (inl old) = last-push b.item xs (new item queue) ∙ old_home b n (item == b.item) refl old opens
  home n b opens (inr is) =
      let item_is : item ≡ b.item = ap (λ (a : Admission). a.item) is.1 in
      last-push b.item xs (new item queue)
      ∙ ap (λ c. cond c (Some queue) (last_queue xs b.item)) (eq-eqb item b.item item_is)
      ∙ ap (λ (a : Admission). Some a.queue) is.1

-- a change of each admission's life by which none opens
pub record Closes (f : Admission → Admission) : Type 0 where
  pub items : (a : Admission) → (f a).item ≡ a.item
  pub queues : (a : Admission) → (f a).queue ≡ a.queue
  pub opens : (a : Admission) → is_open (f a).life ≡ true → is_open a.life ≡ true
  pub waits : (item : ℕ) (a : Admission) → waits_as item (f a) ≡ true → waits_as item a ≡ true

pub IsSound-map : (items : ℕ) (f : Admission → Admission) (xs : List Admission) (marks new_marks : List ℕ) → Closes f →
    All (λ m. is_past_waiting (map f xs) m ≡ true) new_marks → IsSound items xs marks → IsSound items (map f xs) new_marks
IsSound-map items f xs marks new_marks closes marked sound = record {
  known = λ n b at. known n b (was n b at);
  once = λ item. let before = sound.once item in let less = count-map_less (waits_as item) f xs (closes.waits item) in
      omega arith;
  home = λ n b at opens. home n b opens (was n b at);
  marked = marked;
} where
  mapped : (n : ℕ) (b : Admission) (o : Option Admission) → slice_get xs n ≡ o → option_map f o ≡ Some b →
      (a : Admission) × (slice_get xs n ≡ Some a) × (f a ≡ b)
  mapped n b None is at = absurd (cc)
  mapped n b (Some a) is at = (a, is, same_Some (f a) b at)

  was : (n : ℕ) (b : Admission) → slice_get (map f xs) n ≡ Some b → (a : Admission) × (slice_get xs n ≡ Some a) × (f a ≡ b)
  was n b at = mapped n b (slice_get xs n) refl (sym (slice_get-map f xs n) ∙ at)

  known : (n : ℕ) (b : Admission) → (a : Admission) × (slice_get xs n ≡ Some a) × (f a ≡ b) → b.item < items
  known n b it = let before = sound.known n it.0 it.1 in let same = sym (closes.items it.0)
      ∙ ap (λ (a : Admission). a.item) it.2 in omega arith

  home : (n : ℕ) (b : Admission) → is_open b.life ≡ true → (a : Admission) × (slice_get xs n ≡ Some a) × (f a ≡ b) →
      last_queue (map f xs) b.item ≡ Some b.queue
  home n b opens it =
      let was_open = closes.opens it.0 (ap (λ (a : Admission). is_open a.life) it.2 ∙ opens) in
      let item_is : b.item ≡ it.0.item = sym (ap (λ (a : Admission). a.item) it.2) ∙ closes.items it.0 in
      let queue_is : it.0.queue ≡ b.queue = sym (closes.queues it.0) ∙ ap (λ (a : Admission). a.queue) it.2 in
      last-map b.item f xs closes.items closes.queues ∙ ap (last_queue xs) item_is ∙ sound.home n it.0 it.1 was_open
      ∙ ap Some queue_is

open-cond : (b : Bool) (a : Admission) (life : Life) → is_open life ≡ false →
    is_open (cond b (with_life life a) a).life ≡ true → is_open a.life ≡ true
open-cond true a life over opens = absurd (false≢true (sym over ∙ opens))
open-cond false a life over opens = opens

waits-cond : (b : Bool) (item : ℕ) (a : Admission) (life : Life) → is_waiting life ≡ false →
    waits_as item (cond b (with_life life a) a) ≡ true → waits_as item a ≡ true
waits-cond true item a life over waits = absurd (false≢true (sym over ∙ second_so (eqb a.item item) (is_waiting life) waits))
waits-cond false item a life over waits = waits

-- a cancel
pub IsSound-cancel : (items : ℕ) (xs : List Admission) (marks : List ℕ) (item : ℕ) → IsSound items xs marks →
    IsSound items (map (drop_one item) xs) (remarked xs marks item)
IsSound-cancel items xs marks item sound =
    IsSound-map items (drop_one item) xs marks (remarked xs marks item)
    (record {
      items = item-drop item;
      queues = queue-drop item;
      opens = λ a. open-cond (waits_as item a) a Dropped refl;
      waits = λ other a. waits-cond (waits_as item a) other a Dropped refl;
    })
    (marked-drop xs (remarked xs marks item) item (marked-cancel xs marks item sound.marked)) sound

-- an end
pub IsSound-end : (items : ℕ) (xs : List Admission) (marks : List ℕ) (queue : ℕ) → IsSound items xs marks →
    IsSound items (map (end_one queue) xs) marks
IsSound-end items xs marks queue sound =
    IsSound-map items (end_one queue) xs marks marks
    (record {
      items = item-end queue;
      queues = queue-end queue;
      opens = λ a. open-cond (runs_on queue a) a Ended refl;
      waits = λ item a. waits-cond (runs_on queue a) item a Ended refl;
    })
    (marked-end xs marks queue sound.marked) sound

count-taken : (item : ℕ) (xs : List Admission) (m : ℕ) →
    count_by (waits_as item) (set_life xs m Running) ≤ count_by (waits_as item) xs
count-taken item [] m = omega arith
count-taken item (x ∷ xs) zero =
    let none : weight 1 (waits_as item (with_life Running x)) ≡ 0 = by (eqb x.item item) in
    omega (arith, count-cons (waits_as item) x xs, count-cons (waits_as item) (with_life Running x) xs) where
      by : (b : Bool) → weight 1 (b && false) ≡ 0
      by true = refl
      by false = refl
count-taken item (x ∷ xs) (suc m) = let rest = count-taken item xs m in
    omega (arith, count-cons (waits_as item) x xs, count-cons (waits_as item) x (set_life xs m Running))

-- a begin
pub IsSound-begin : (items : ℕ) (xs : List Admission) (marks : List ℕ) (m : ℕ) (a : Admission) → slice_get xs m ≡ Some a →
    is_waiting a.life ≡ true → IsSound items xs marks → IsSound items (set_life xs m Running) marks
IsSound-begin items xs marks m a at waits sound = record {
  known = λ n b there. known n b (taken xs m n b a at there);
  once = λ item. let before = sound.once item in let less = count-taken item xs m in omega arith;
  home = λ n b there opens. home n b opens (taken xs m n b a at there);
  marked = marked-begin xs marks m a at waits sound.marked;
} where
  known : (n : ℕ) (b : Admission) → Taken xs m n b ⊎ (slice_get xs n ≡ Some b) → b.item < items
  known n b (inl t) = let before = sound.known m t.was t.there in let same = ap (λ (c : Admission). c.item) t.is in omega arith
  known n b (inr old) = sound.known n b old

  home : (n : ℕ) (b : Admission) → is_open b.life ≡ true → Taken xs m n b ⊎ (slice_get xs n ≡ Some b) →
      last_queue (set_life xs m Running) b.item ≡ Some b.queue
  home n b opens (inl t) =
      let waited = ap (λ (c : Admission). is_waiting c.life) (same_Some t.was a (sym t.there ∙ at)) ∙ waits in
      last-set_life b.item xs m Running ∙ ap (λ (c : Admission). last_queue xs c.item) (sym t.is)
      ∙ sound.home m t.was t.there (open-waiting t.was.life waited) ∙ ap (λ (c : Admission). Some c.queue) t.is
  home n b opens (inr old) = last-set_life b.item xs m Running ∙ sound.home n b old opens
