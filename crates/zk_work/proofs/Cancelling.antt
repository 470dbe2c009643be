-- Which items are being cancelled, and what is marked, after each change of the admissions.
use Rattle.std.proofs.Common.{◌≡◌, ℕ, zero, suc, ◌≢◌, Bool, true, false, not, ◌&&◌, ◌||◌, cond, eqb, ◌==◌, Option, Some, None, is_some, option_map, option_to_list, List, [], ◌∷◌, ◌++◌, map, get_or, slice_get, All, refl, sym, ap, ◌∙◌}
use Rattle.std.specs.Cmp.{first_so, second_so}
use Rattle.std.specs.List.{list_any}
use Rattle.std.specs.Option.{option_map_or}
use Rattle.std.proofs.lemmas.Bool.{eqb-true, false≢true, and_right, or_right}
use Rattle.std.proofs.lemmas.List.Elements.{All-head, All-tail, All-nil, All-cons, All-append}
use Rattle.std.proofs.lemmas.List.Folds.{list_any-append, list_any_none}
use Rattle.std.proofs.lemmas.List.Quantifiers.{position-Some}
use Rattle.std.proofs.lemmas.Option.{slice_get-map, slice_get-get_or}
use Rattle.zk_model_work.specs.declared.parts.Life.{Life}
use Rattle.zk_model_work.specs.declared.parts.Life.TheVariants.{Waiting, Running, Ended, Dropped}
use Rattle.zk_model_work.specs.declared.parts.Admission.{Admission}
use Rattle.zk_model_work.specs.Questions.{is_waiting, is_running, waits_as, runs_as, runs_on, running, passes_at, is_cancelling}
use Rattle.zk_model_work.specs.Machine.{with_life, set_life, drop_one, end_one}
use Rattle.zk_model_work.proofs.Lives.{set_life-aside}
use Rattle.zk_work.specs.EngineState.{is_past_waiting}
use Rattle.zk_work.proofs.Changes.{runs_as-drop}

-- tests of an admission by its number

passes-push : (p : Admission → Bool) (xs : List Admission) (a : Admission) (m : ℕ) → p a ≡ false →
    passes_at p (xs ++ a ∷ []) m ≡ passes_at p xs m
passes-push p [] a zero none = none
passes-push p [] a (suc m) none = refl
passes-push p (x ∷ xs) a zero none = refl
passes-push p (x ∷ xs) a (suc m) none = passes-push p xs a m none

pub still-push : (p : Admission → Bool) (xs : List Admission) (a : Admission) (m : ℕ) → passes_at p xs m ≡ true →
    passes_at p (xs ++ a ∷ []) m ≡ true
still-push p [] a m is = absurd (cc)
still-push p (x ∷ xs) a zero is = is
still-push p (x ∷ xs) a (suc m) is = still-push p xs a m is

map-or : (p : Admission → Bool) (f : Admission → Admission) (o : Option Admission) → ((a : Admission) → p (f a) ≡ p a) →
    option_map_or p (option_map f o) false ≡ option_map_or p o false
map-or p f None same = refl
map-or p f (Some a) same = same a

passes-map : (p : Admission → Bool) (f : Admission → Admission) (xs : List Admission) (m : ℕ) →
    ((a : Admission) → p (f a) ≡ p a) → passes_at p (map f xs) m ≡ passes_at p xs m
passes-map p f xs m same = ap (λ (o : Option Admission). option_map_or p o false) (slice_get-map f xs m)
    ∙ map-or p f (slice_get xs m) same

still-or : (p : Admission → Bool) (f : Admission → Admission) (o : Option Admission) →
    ((a : Admission) → p a ≡ true → p (f a) ≡ true) → option_map_or p o false ≡ true →
    option_map_or p (option_map f o) false ≡ true
still-or p f None still is = absurd (cc)
still-or p f (Some a) still is = still a is

pub still-map : (p : Admission → Bool) (f : Admission → Admission) (xs : List Admission) (m : ℕ) →
    ((a : Admission) → p a ≡ true → p (f a) ≡ true) → passes_at p xs m ≡ true → passes_at p (map f xs) m ≡ true
still-map p f xs m still is = ap (λ (o : Option Admission). option_map_or p o false) (slice_get-map f xs m)
    ∙ still-or p f (slice_get xs m) still is

at-or : (p : Admission → Bool) (xs : List Admission) (m : ℕ) (a : Admission) → slice_get xs m ≡ Some a → passes_at p xs m ≡ p a
at-or p xs m a at = ap (λ (o : Option Admission). option_map_or p o false) at

not-waiting : (b : Bool) → b ≡ true → not b ≡ true → ⊥
not-waiting true is other = false≢true other
not-waiting false is other = false≢true is

-- what was marked didn't wait, so it isn't what is taken up
apart : (xs : List Admission) (n m : ℕ) (a : Admission) → slice_get xs n ≡ Some a → is_waiting a.life ≡ true →
    is_past_waiting xs m ≡ true → n ≢ m
apart xs n m a at waits past same =
    not-waiting (is_waiting a.life) waits
    (sym (at-or (λ (a : Admission). not (is_waiting a.life)) xs m a (ap (slice_get xs) (sym same) ∙ at)) ∙ past)

pub passes-set_life : (p : Admission → Bool) (xs : List Admission) (n m : ℕ) → n ≢ m →
    passes_at p (set_life xs n Running) m ≡ passes_at p xs m
passes-set_life p xs n m differ = ap (λ (o : Option Admission). option_map_or p o false) (set_life-aside xs n m Running differ)

-- marks that pass alike
any-where : (q f g : ℕ → Bool) (ms : List ℕ) → All (λ m. q m ≡ true) ms → ((m : ℕ) → q m ≡ true → f m ≡ g m) →
    list_any f ms ≡ list_any g ms
any-where q f g [] all same = refl
any-where q f g (m ∷ ms) all same =
    let P : ℕ → Type 0 = λ m. q m ≡ true in
    ap (λ b. b || list_any f ms) (same m (All-head P m ms all))
    ∙ ap (λ b. g m || b) (any-where q f g ms (All-tail P m ms all) same)

any-same : (f g : ℕ → Bool) (ms : List ℕ) → ((m : ℕ) → f m ≡ g m) → list_any f ms ≡ list_any g ms
any-same f g [] same = refl
any-same f g (m ∷ ms) same = ap (λ b. b || list_any f ms) (same m) ∙ ap (λ b. g m || b) (any-same f g ms same)

All-map : (P Q : ℕ → Type 0) (ms : List ℕ) → ((m : ℕ) → P m → Q m) → All P ms → All Q ms
All-map P Q ms each all k d within = each (get_or ms k d) (all k d within)

-- a new admission is cancelled by no mark
pub cancelling-push : (xs : List Admission) (marks : List ℕ) (item queue other : ℕ) →
    is_cancelling (xs ++ record { item = item; queue = queue; life = Waiting } ∷ []) marks other ≡ is_cancelling xs marks other
cancelling-push xs marks item queue other =
    let a : Admission = record { item = item; queue = queue; life = Waiting } in
    any-same (passes_at (runs_as other) (xs ++ a ∷ [])) (passes_at (runs_as other) xs) marks
    (λ m. passes-push (runs_as other) xs a m (and_right (item == other) false refl))

-- what is taken up wasn't marked
pub cancelling-begin : (xs : List Admission) (marks : List ℕ) (n other : ℕ) (a : Admission) → slice_get xs n ≡ Some a →
    is_waiting a.life ≡ true → All (λ m. is_past_waiting xs m ≡ true) marks →
    is_cancelling (set_life xs n Running) marks other ≡ is_cancelling xs marks other
cancelling-begin xs marks n other a at waits marked =
    any-where (is_past_waiting xs) (passes_at (runs_as other) (set_life xs n Running)) (passes_at (runs_as other) xs) marks marked
    (λ m past. passes-set_life (runs_as other) xs n m (apart xs n m a at waits past))

-- the end of a run leaves the other items
pub cancelling-end_other : (xs : List Admission) (marks : List ℕ) (queue other : ℕ) →
    ((a : Admission) (m : ℕ) → slice_get xs m ≡ Some a → runs_on queue a ≡ true → a.item ≢ other) →
    is_cancelling (map (end_one queue) xs) marks other ≡ is_cancelling xs marks other
cancelling-end_other xs marks queue other differ =
    any-same (passes_at (runs_as other) (map (end_one queue) xs)) (passes_at (runs_as other) xs) marks
    (λ m. ap (λ (o : Option Admission). option_map_or (runs_as other) o false) (slice_get-map (end_one queue) xs m)
    ∙ at m (slice_get xs m) refl) where
      ends : (a : Admission) (b : Bool) → runs_on queue a ≡ b → (runs_on queue a ≡ true → a.item ≢ other) →
          runs_as other (cond b (with_life Ended a) a) ≡ runs_as other a
      ends a true is differ = not_there (eqb a.item other) refl where
        not_there : (b : Bool) → eqb a.item other ≡ b → (b && false) ≡ (b && is_running a.life)
        not_there true same = absurd (differ is (eqb-true a.item other same))
        not_there false same = refl
      ends a false is differ = refl

      at : (m : ℕ) (o : Option Admission) → slice_get xs m ≡ o →
          option_map_or (runs_as other) (option_map (end_one queue) o) false ≡ option_map_or (runs_as other) o false
      at m None is = refl
      at m (Some a) is = ends a (runs_on queue a) refl (differ a m is)

-- an item that doesn't run isn't being cancelled
pub cancelling-none : (xs : List Admission) (marks : List ℕ) (item : ℕ) →
    ((m : ℕ) (a : Admission) → slice_get xs m ≡ Some a → runs_as item a ≡ false) → is_cancelling xs marks item ≡ false
cancelling-none xs marks item none =
    list_any_none (passes_at (runs_as item) xs) marks
    (λ k d within. at (get_or marks k d) (slice_get xs (get_or marks k d)) refl) where
      at : (m : ℕ) (o : Option Admission) → slice_get xs m ≡ o → option_map_or (runs_as item) o false ≡ false
      at m None is = refl
      at m (Some a) is = none m a is

or-false : (b c : Bool) → c ≡ false → (b || c) ≡ b
or-false true c is = refl
or-false false c is = is

-- the marks after a cancel
abbrev pub remarked : List Admission → List ℕ → ℕ → List ℕ
remarked xs marks item = marks ++ option_to_list (running xs item)

cancelling-drop : (xs : List Admission) (marks : List ℕ) (item other : ℕ) →
    is_cancelling (map (drop_one item) xs) (remarked xs marks item) other
    ≡ (is_cancelling xs marks other || list_any (passes_at (runs_as other) xs) (option_to_list (running xs item)))
cancelling-drop xs marks item other =
    any-same (passes_at (runs_as other) (map (drop_one item) xs)) (passes_at (runs_as other) xs) (remarked xs marks item)
    (λ m. passes-map (runs_as other) (drop_one item) xs m (runs_as-drop item other))
    ∙ list_any-append (passes_at (runs_as other) xs) marks (option_to_list (running xs item))

-- it is being cancelled then
pub cancelling-cancel : (xs : List Admission) (marks : List ℕ) (item : ℕ) → is_some (running xs item) ≡ true →
    is_cancelling (map (drop_one item) xs) (remarked xs marks item) item ≡ true
cancelling-cancel xs marks item runs = cancelling-drop xs marks item item
    ∙ or_right (is_cancelling xs marks item) _ (by (running xs item) refl runs) where
      by : (o : Option ℕ) → running xs item ≡ o → is_some o ≡ true →
          list_any (passes_at (runs_as item) xs) (option_to_list o) ≡ true
      by None is runs = absurd (cc)
      by (Some n) is runs =
          let none : Admission = record { item = 0; queue = 0; life = Waiting } in
          let place = position-Some (runs_as item) xs n none is in
          let here = at-or (runs_as item) xs n (get_or xs n none) (slice_get-get_or xs n none place.0) ∙ place.1 in
          ap (λ b. b || false) here

-- where it doesn't run, and for every other item, nothing changes
pub cancelling-cancel_none : (xs : List Admission) (marks : List ℕ) (item other : ℕ) → is_some (running xs item) ≡ false →
    is_cancelling (map (drop_one item) xs) (remarked xs marks item) other ≡ is_cancelling xs marks other
cancelling-cancel_none xs marks item other none = cancelling-drop xs marks item other
    ∙ or-false (is_cancelling xs marks other) _ (by (running xs item) none) where
      by : (o : Option ℕ) → is_some o ≡ false → list_any (passes_at (runs_as other) xs) (option_to_list o) ≡ false
      by None none = refl
      by (Some n) none = absurd (cc)

pub cancelling-cancel_other : (xs : List Admission) (marks : List ℕ) (item other : ℕ) → other ≢ item →
    is_cancelling (map (drop_one item) xs) (remarked xs marks item) other ≡ is_cancelling xs marks other
cancelling-cancel_other xs marks item other differ = cancelling-drop xs marks item other
    ∙ or-false (is_cancelling xs marks other) _ (by (running xs item) refl) where
      of_other : (b : Bool) (a : Admission) → eqb a.item other ≡ b → a.item ≡ item → (b && is_running a.life) ≡ false
      of_other true a same is = absurd (differ (sym (eqb-true a.item other same) ∙ is))
      of_other false a same is = refl

      by : (o : Option ℕ) → running xs item ≡ o → list_any (passes_at (runs_as other) xs) (option_to_list o) ≡ false
      by None is = refl
      by (Some n) is =
          let none : Admission = record { item = 0; queue = 0; life = Waiting } in
          let place = position-Some (runs_as item) xs n none is in
          let a = get_or xs n none in
          let here = at-or (runs_as other) xs n a (slice_get-get_or xs n none place.0)
          ∙ of_other (eqb a.item other) a refl (eqb-true a.item item (first_so (eqb a.item item) (is_running a.life) place.1)) in
          ap (λ b. b || false) here

-- what is marked doesn't wait

abbrev AllPast : List Admission → List ℕ → Type 0
AllPast xs marks = All (λ m. is_past_waiting xs m ≡ true) marks

pub marked-push : (xs : List Admission) (marks : List ℕ) (a : Admission) → AllPast xs marks → AllPast (xs ++ a ∷ []) marks
marked-push xs marks a all = All-map (λ m. is_past_waiting xs m ≡ true) (λ m. is_past_waiting (xs ++ a ∷ []) m ≡ true)
    marks (λ m is. still-push (λ (a : Admission). not (is_waiting a.life)) xs a m is) all

over-cond : (b : Bool) (a : Admission) (life : Life) → is_waiting life ≡ false → not (is_waiting a.life) ≡ true →
    not (is_waiting (cond b (with_life life a) a).life) ≡ true
over-cond true a life over is = ap not over
over-cond false a life over is = is

pub marked-drop : (xs : List Admission) (marks : List ℕ) (item : ℕ) → AllPast xs marks → AllPast (map (drop_one item) xs) marks
marked-drop xs marks item all =
    All-map (λ m. is_past_waiting xs m ≡ true) (λ m. is_past_waiting (map (drop_one item) xs) m ≡ true) marks
    (λ m is. still-map (λ (a : Admission). not (is_waiting a.life)) (drop_one item) xs m
    (λ a still. over-cond (waits_as item a) a Dropped refl still) is) all

pub marked-end : (xs : List Admission) (marks : List ℕ) (queue : ℕ) → AllPast xs marks → AllPast (map (end_one queue) xs) marks
marked-end xs marks queue all =
    All-map (λ m. is_past_waiting xs m ≡ true) (λ m. is_past_waiting (map (end_one queue) xs) m ≡ true) marks
    (λ m is. still-map (λ (a : Admission). not (is_waiting a.life)) (end_one queue) xs m
    (λ a still. over-cond (runs_on queue a) a Ended refl still) is) all

pub marked-begin : (xs : List Admission) (marks : List ℕ) (n : ℕ) (a : Admission) → slice_get xs n ≡ Some a →
    is_waiting a.life ≡ true → AllPast xs marks → AllPast (set_life xs n Running) marks
marked-begin xs marks n a at waits all =
    All-map (λ m. is_past_waiting xs m ≡ true) (λ m. is_past_waiting (set_life xs n Running) m ≡ true) marks
    (λ m is. passes-set_life (λ (a : Admission). not (is_waiting a.life)) xs n m (apart xs n m a at waits is) ∙ is) all

-- and neither does what a cancel marks
pub marked-cancel : (xs : List Admission) (marks : List ℕ) (item : ℕ) → AllPast xs marks → AllPast xs (remarked xs marks item)
marked-cancel xs marks item all = by (running xs item) refl where
  runs-past : (life : Life) → is_running life ≡ true → not (is_waiting life) ≡ true
  runs-past Waiting r = absurd (cc)
  runs-past Running r = refl
  runs-past Ended r = refl
  runs-past Dropped r = refl

  by : (o : Option ℕ) → running xs item ≡ o → All (λ m. is_past_waiting xs m ≡ true) (marks ++ option_to_list o)
  by None is = All-append (λ m. is_past_waiting xs m ≡ true) marks [] all (All-nil (λ m. is_past_waiting xs m ≡ true))
  by (Some n) is =
      let none : Admission = record { item = 0; queue = 0; life = Waiting } in
      let place = position-Some (runs_as item) xs n none is in
      let a = get_or xs n none in
      let here = at-or (λ (a : Admission). not (is_waiting a.life)) xs n a (slice_get-get_or xs n none place.0)
      ∙ runs-past a.life (second_so (eqb a.item item) (is_running a.life) place.1) in
      All-append (λ m. is_past_waiting xs m ≡ true) marks (n ∷ []) all
      (All-cons (λ m. is_past_waiting xs m ≡ true) n [] here (All-nil (λ m. is_past_waiting xs m ≡ true)))
