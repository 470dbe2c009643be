-- The queue of each item's last admission, which is that of all its admissions that wait or run.
use Rattle.std.proofs.Common.{◌≡◌, ℕ, zero, suc, Bool, true, false, cond, ◌==◌, Option, Some, None, option_map, List, [], ◌∷◌, ◌++◌, map, reverse, find, refl, sym, ap, ◌∙◌}
use Rattle.std.specs.Option.{option_or}
use Rattle.std.proofs.lemmas.List.{reverse-append}
use Rattle.std.proofs.lemmas.List.Folds.{find-append}
use Rattle.zk_model_work.specs.declared.parts.Life.{Life}
use Rattle.zk_model_work.specs.declared.parts.Admission.{Admission}
use Rattle.zk_model_work.specs.Questions.{last_queue}
use Rattle.zk_model_work.specs.Machine.{set_life}

-- the queue of the item's last admission, read from the front
abbrev pub last_from : Option ℕ → ℕ → List Admission → Option ℕ
last_from last item [] = last
last_from last item (a ∷ rest) = last_from (cond (a.item == item) (Some a.queue) last) item rest

or-map : (f : Admission → ℕ) (o p : Option Admission) → option_map f (option_or o p) ≡ option_or (option_map f o) (option_map f p)
or-map f None p = refl
or-map f (Some a) p = refl

or-or : (o p q : Option ℕ) → option_or (option_or o p) q ≡ option_or o (option_or p q)
or-or None p q = refl
or-or (Some n) p q = refl

or-cond : (b : Bool) (a : Admission) (last : Option ℕ) →
    option_or (option_map (λ (a : Admission). a.queue) (cond b (Some a) None)) last ≡ cond b (Some a.queue) last
or-cond true a last = refl
or-cond false a last = refl

reads : (item : ℕ) (xs : List Admission) (last : Option ℕ) → option_or (last_queue xs item) last ≡ last_from last item xs
reads item [] last = refl
reads item (a ∷ rest) last =
    let q : Admission → ℕ = λ a. a.queue in
    let is : Admission → Bool = λ a. a.item == item in
    ap (λ (ys : List Admission). option_or (option_map q (find is ys)) last) (reverse-append (a ∷ []) rest)
    ∙ ap (λ (o : Option Admission). option_or (option_map q o) last) (find-append is (reverse rest) (a ∷ []))
    ∙ ap (λ (o : Option ℕ). option_or o last) (or-map q (find is (reverse rest)) (find is (a ∷ [])))
    ∙ or-or (last_queue rest item) (option_map q (find is (a ∷ []))) last
    ∙ ap (option_or (last_queue rest item)) (or-cond (a.item == item) a last)
    ∙ reads item rest (cond (a.item == item) (Some a.queue) last)

or-none : (o : Option ℕ) → o ≡ option_or o None
or-none None = refl
or-none (Some n) = refl

last-from : (item : ℕ) (xs : List Admission) → last_queue xs item ≡ last_from None item xs
last-from item xs = or-none (last_queue xs item) ∙ reads item xs None

from-push : (item : ℕ) (xs : List Admission) (a : Admission) (last : Option ℕ) →
    last_from last item (xs ++ a ∷ []) ≡ cond (a.item == item) (Some a.queue) (last_from last item xs)
from-push item [] a last = refl
from-push item (x ∷ xs) a last = from-push item xs a (cond (x.item == item) (Some x.queue) last)

from-map : (item : ℕ) (f : Admission → Admission) (xs : List Admission) (last : Option ℕ) →
    ((a : Admission) → (f a).item ≡ a.item) → ((a : Admission) → (f a).queue ≡ a.queue) →
    last_from last item (map f xs) ≡ last_from last item xs
from-map item f [] last items queues = refl
from-map item f (x ∷ xs) last items queues =
    ap (λ i. last_from (cond (i == item) (Some (f x).queue) last) item (map f xs)) (items x)
    ∙ ap (λ q. last_from (cond (x.item == item) (Some q) last) item (map f xs)) (queues x)
    ∙ from-map item f xs (cond (x.item == item) (Some x.queue) last) items queues

from-set_life : (item : ℕ) (xs : List Admission) (m : ℕ) (life : Life) (last : Option ℕ) →
    last_from last item (set_life xs m life) ≡ last_from last item xs
from-set_life item [] m life last = refl
from-set_life item (x ∷ xs) zero life last = refl
from-set_life item (x ∷ xs) (suc m) life last = from-set_life item xs m life (cond (x.item == item) (Some x.queue) last)

-- one more admission is its item's last
pub last-push : (item : ℕ) (xs : List Admission) (a : Admission) →
    last_queue (xs ++ a ∷ []) item ≡ cond (a.item == item) (Some a.queue) (last_queue xs item)
last-push item xs a = last-from item (xs ++ a ∷ []) ∙ from-push item xs a None
    ∙ ap (cond (a.item == item) (Some a.queue)) (sym (last-from item xs))

-- no other change moves one
pub last-map : (item : ℕ) (f : Admission → Admission) (xs : List Admission) → ((a : Admission) → (f a).item ≡ a.item) →
    ((a : Admission) → (f a).queue ≡ a.queue) →
    last_queue (map f xs) item ≡ last_queue xs item
last-map item f xs items queues = last-from item (map f xs) ∙ from-map item f xs None items queues ∙ sym (last-from item xs)

pub last-set_life : (item : ℕ) (xs : List Admission) (m : ℕ) (life : Life) →
    last_queue (set_life xs m life) item ≡ last_queue xs item
last-set_life item xs m life = last-from item (set_life xs m life) ∙ from-set_life item xs m life None ∙ sym (last-from item xs)
