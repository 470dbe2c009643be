-- What one entry, and then a whole history, makes of an admission.
use Rattle.std.proofs.Common.{◌≡◌, ℕ, zero, suc, ◌<◌, ◌≢◌, ◌⊎◌, inl, inr, Bool, true, false, cond, eqb, Option, Some, None, option_map, List, [], ◌∷◌, ◌++◌, length, map, slice_get, refl, sym, ap, ◌∙◌}
use Rattle.std.specs.Cmp.{second_so}
use Rattle.std.specs.List.{position}
use Rattle.std.specs.Option.{option_map_or}
use Rattle.std.proofs.lemmas.Bool.{false≢true}
use Rattle.std.proofs.lemmas.Bool.Decides.{eqb_tells}
use Rattle.std.proofs.lemmas.Option.{slice_get-map, get_or_from_slice_get}
use Rattle.std.proofs.lemmas.List.Quantifiers.{position-Some}
use Rattle.zk_base.specs.declared.ids.Who.{Who}
use Rattle.zk_base.specs.declared.ids.Entry.{Entry}
use Rattle.zk_base.specs.Legal.{state_after}
use Rattle.zk_model_work.specs.declared.parts.Life.{Life}
use Rattle.zk_model_work.specs.declared.parts.Life.TheVariants.{Waiting, Running, Ended, Dropped}
use Rattle.zk_model_work.specs.declared.parts.Admission.{Admission}
use Rattle.zk_model_work.specs.declared.ops.WorkOp.{WorkOp}
use Rattle.zk_model_work.specs.declared.ops.WorkReply.{WorkReply}
use Rattle.zk_model_work.specs.declared.ops.Submitted.{Submitted}
use Rattle.zk_model_work.specs.declared.ops.Submitted.TheVariants.{Already, Fresh, Rerun, Refused}
use Rattle.zk_model_work.specs.Lists.{first}
use Rattle.zk_model_work.specs.Questions.{is_waiting, is_running, is_open, waits_as, runs_on, waits_for, line, item_of}
use Rattle.zk_model_work.specs.State.{State}
use Rattle.zk_model_work.specs.Machine.{work_next, work_machine, submit, set_life, with_life, begin, end_one, drop_one}
use Rattle.zk_model_work.specs.Answers.{submission}
use Rattle.zk_model_work.specs.Histories.{submitter}
use Rattle.zk_model_work.proofs.Lines.{first_of_places}
use Rattle.zk_model_work.proofs.Moves.{admissions-next}

-- an admission and what has become of it: its item and its queue stay, it doesn't wait again, and what is over stays so
pub record Keeps (a b : Admission) : Type 0 where
  pub item : b.item ≡ a.item
  pub queue : b.queue ≡ a.queue
  pub waits : is_waiting a.life ≡ false → is_waiting b.life ≡ false
  pub over : is_open a.life ≡ false → b.life ≡ a.life

pub Keeps-refl : (a : Admission) → Keeps a a
Keeps-refl a = record { item = refl; queue = refl; waits = λ w. w; over = λ o. refl }

Keeps-trans : (a b c : Admission) → Keeps a b → Keeps b c → Keeps a c
Keeps-trans a b c k l = record {
  item = l.item ∙ k.item;
  queue = l.queue ∙ k.queue;
  waits = λ w. l.waits (k.waits w);
  over = λ o. l.over (ap is_open (k.over o) ∙ o) ∙ k.over o;
}

-- each admission of the first list is in its place in the second, as it was or with what has become of it
abbrev pub Kept : List Admission → List Admission → Type 0
Kept xs ys = (n : ℕ) (a : Admission) → slice_get xs n ≡ Some a → (b : Admission) × (slice_get ys n ≡ Some b) × Keeps a b

Kept-refl : (xs : List Admission) → Kept xs xs
Kept-refl xs n a at = (a, at, Keeps-refl a)

Kept-trans : (xs ys zs : List Admission) → Kept xs ys → Kept ys zs → Kept xs zs
Kept-trans xs ys zs k l n a at =
    let mid = k n a at in
    let end = l n mid.0 mid.1 in
    (end.0, end.1, Keeps-trans a mid.0 end.0 mid.2 end.2)

Kept-push : (xs : List Admission) (x : Admission) → Kept xs (xs ++ x ∷ [])
Kept-push [] x n a at = absurd (cc)
Kept-push (y ∷ ys) x zero a at = (a, at, Keeps-refl a)
Kept-push (y ∷ ys) x (suc n) a at = Kept-push ys x n a at

Kept-map : (f : Admission → Admission) → ((a : Admission) → Keeps a (f a)) → (xs : List Admission) → Kept xs (map f xs)
Kept-map f each xs n a at = (f a, slice_get-map f xs n ∙ ap (option_map f) at, each a)

-- a life that is set at one place
pub set_life-at : (xs : List Admission) (m : ℕ) (life : Life) (a : Admission) → slice_get xs m ≡ Some a →
    slice_get (set_life xs m life) m ≡ Some (with_life life a)
set_life-at [] m life a at = absurd (cc)
set_life-at (x ∷ xs) zero life a at = ap (option_map (with_life life)) at
set_life-at (x ∷ xs) (suc m) life a at = set_life-at xs m life a at

pub set_life-aside : (xs : List Admission) (m n : ℕ) (life : Life) → m ≢ n → slice_get (set_life xs m life) n ≡ slice_get xs n
set_life-aside [] m n life apart = refl
set_life-aside (x ∷ xs) zero zero life apart = absurd (apart refl)
set_life-aside (x ∷ xs) zero (suc n) life apart = refl
set_life-aside (x ∷ xs) (suc m) zero life apart = refl
set_life-aside (x ∷ xs) (suc m) (suc n) life apart = set_life-aside xs m n life (λ e. apart (ap suc e))

-- what waits is open
pub open-waiting : (life : Life) → is_waiting life ≡ true → is_open life ≡ true
open-waiting Waiting w = refl
open-waiting Running w = absurd (cc)
open-waiting Ended w = absurd (cc)
open-waiting Dropped w = absurd (cc)

pub open-running : (life : Life) → is_running life ≡ true → is_open life ≡ true
open-running Waiting w = absurd (cc)
open-running Running w = refl
open-running Ended w = absurd (cc)
open-running Dropped w = absurd (cc)

-- an open admission runs, ends or is dropped
Keeps-with_life : (a : Admission) (life : Life) → is_open a.life ≡ true → is_waiting life ≡ false → Keeps a (with_life life a)
Keeps-with_life a life was goes =
    record { item = refl; queue = refl; waits = λ w. goes; over = λ o. absurd (false≢true (sym o ∙ was)) }

Keeps-cond : (b : Bool) (a : Admission) (life : Life) → (b ≡ true → is_open a.life ≡ true) → is_waiting life ≡ false →
    Keeps a (cond b (with_life life a) a)
Keeps-cond true a life was goes = Keeps-with_life a life (was refl) goes
Keeps-cond false a life was goes = Keeps-refl a

Keeps-end_one : (queue : ℕ) (a : Admission) → Keeps a (end_one queue a)
Keeps-end_one queue a =
    Keeps-cond (runs_on queue a) a Ended (λ r. open-running a.life (second_so (eqb a.queue queue) (is_running a.life) r)) refl

Keeps-drop_one : (item : ℕ) (a : Admission) → Keeps a (drop_one item a)
Keeps-drop_one item a =
    Keeps-cond (waits_as item a) a Dropped (λ w. open-waiting a.life (second_so (eqb a.item item) (is_waiting a.life) w)) refl

Kept-submit : (xs : List Admission) (item : ℕ) (answer : Submitted) → Kept xs (submit xs item answer)
Kept-submit xs item Already = Kept-refl xs
Kept-submit xs item (Fresh number queue) = Kept-push xs _
Kept-submit xs item (Rerun number queue) = Kept-push xs _
Kept-submit xs item (Refused cause) = Kept-refl xs

-- the first in a line is there, and waits for the queue; and none before it does
pub record IsFirst (xs : List Admission) (queue m : ℕ) : Type 0 where
  pub within : m < length xs
  pub waits : (a : Admission) → slice_get xs m ≡ Some a → waits_for queue a ≡ true
  pub none_before : (n : ℕ) (a : Admission) → n < m → slice_get xs n ≡ Some a → waits_for queue a ≡ false

pub IsFirst-line : (xs : List Admission) (queue m : ℕ) → first (line xs queue) ≡ Some m → IsFirst xs queue m
IsFirst-line xs queue m is =
    let found : position (waits_for queue) xs ≡ Some m = first_of_places (waits_for queue) xs ∙ is in
    record {
      within = (position-Some (waits_for queue) xs m none found).0;
      waits = λ a at. sym (ap (waits_for queue) (get_or_from_slice_get xs m a a at))
          ∙ (position-Some (waits_for queue) xs m a found).1;
      none_before = λ n a below at. sym (ap (waits_for queue) (get_or_from_slice_get xs n a a at))
          ∙ (position-Some (waits_for queue) xs m a found).2 n below;
    } where
      none : Admission
      none = record { item = 0; queue = 0; life = Waiting }

Kept-set_life : (xs : List Admission) (queue m : ℕ) → IsFirst xs queue m → Kept xs (set_life xs m Running)
Kept-set_life xs queue m is n a at = here (eqb_tells m n) where
  here : ((eqb m n ≡ true) × (m ≡ n)) ⊎ ((eqb m n ≡ false) × (m ≢ n)) →
      (b : Admission) × (slice_get (set_life xs m Running) n ≡ Some b) × Keeps a b
  here (inl same) =
      let there : slice_get xs m ≡ Some a = ap (slice_get xs) same.1 ∙ at in
      let waits = second_so (eqb a.queue queue) (is_waiting a.life) (is.waits a there) in (
        with_life Running a,
        ap (slice_get (set_life xs m Running)) (sym same.1)
            ∙ set_life-at xs m Running a there,
        Keeps-with_life a Running (open-waiting a.life waits) refl,
      )
  here (inr other) = (a, set_life-aside xs m n Running other.1 ∙ at, Keeps-refl a)

Kept-begin : (xs : List Admission) (queue : ℕ) → Kept xs (begin xs queue)
Kept-begin xs queue = by (first (line xs queue)) refl where
  by : (o : Option ℕ) → first (line xs queue) ≡ o → Kept xs (option_map_or (λ number. set_life xs number Running) o xs)
  by None is = Kept-refl xs
  by (Some m) is = Kept-set_life xs queue m (IsFirst-line xs queue m is)

-- what one entry makes of the admissions
pub Kept-next : (s : State) (who : Who) (op : WorkOp) → Kept s.admissions (work_next s who op).admissions
Kept-next s who op =
    admissions-next (Kept s.admissions) s who op
    (λ ys item named stays kept. Kept-trans s.admissions ys _ kept
    (Kept-submit ys item (submission (item_of ys s.marks item) s.queues (submitter who op) named)))
    (λ item cancels. Kept-map (drop_one item) (Keeps-drop_one item) s.admissions)
    (λ queue is. Kept-begin s.admissions queue)
    (λ queue is. Kept-map (end_one queue) (Keeps-end_one queue) s.admissions)
    (Kept-refl s.admissions)

-- what a history makes of them
pub Kept-after : (s : State) (h : List (Entry WorkOp WorkReply)) → Kept s.admissions (state_after work_machine s h).admissions
Kept-after s [] = Kept-refl s.admissions
Kept-after s (e ∷ es) =
    Kept-trans s.admissions (work_next s e.who e.op).admissions
    (state_after work_machine (work_next s e.who e.op) es).admissions (Kept-next s e.who e.op)
    (Kept-after (work_next s e.who e.op) es)
