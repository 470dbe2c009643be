-- Looks that are gathered from the logs, object by object.
use Rattle.std.proofs.Common.{◌≡◌, ℕ, ◌+◌, ◌<◌, ◌≤◌, Bool, true, false, Some, None, List, [], ◌∷◌, ◌++◌, length, cond, eqb, get_or, set, refl, sym, ap, ◌∙◌, arith}
use Rattle.std.specs.List.{cons_option}
use Rattle.std.proofs.lemmas.Bool.{eqb-true, eq-eqb}
use Rattle.std.proofs.lemmas.List.{ext_get_or, append-nil, append_assoc, length-set, get_or-set_other}
use Rattle.std.proofs.lemmas.List.FromFn.{get_or-map-range_with_len, length-map-range_with_len}
use Rattle.std.proofs.lemmas.Grind.{get_or-set_at}
use Rattle.zk_base.specs.declared.seen.Seen.{Seen}
use Rattle.zk_worker.specs.declared.steps.Spot.{Spot}
use Rattle.zk_worker.specs.declared.steps.Spot.TheVariants as spots
use Rattle.zk_trace.specs.declared.looks.SignalLook.{SignalLook}
use Rattle.zk_trace.specs.Looked.{signal_look_at, looks_from}
use Rattle.zk_gathering.specs.Looks.{by_number, with_look, named_look, with_found}

-- a look more at the object of a number below n
pub by_number-set : (f : ℕ → List SignalLook) (n object : ℕ) (look : SignalLook) → object < n →
    set (by_number f n) object (f object ++ look ∷ []) ≡ by_number (with_look f object look) n
by_number-set f n object look below =
    let there : object < length (by_number f n) = omega (arith, length-map-range_with_len f 0 n) in
    ext_get_or [] (set (by_number f n) object (f object ++ look ∷ [])) (by_number (with_look f object look) n)
    (length-set (by_number f n) object (f object ++ look ∷ []) ∙ length-map-range_with_len f 0 n ∙ sym (length-map-range_with_len (with_look f object look) 0 n))
    (λ i within. at i (omega (arith, length-set (by_number f n) object (f object ++ look ∷ []), length-map-range_with_len f 0 n)) there)
  where
    value : (i : ℕ) → i < n → get_or (by_number f n) i [] ≡ f i
    value i within = get_or-map-range_with_len f 0 n i i [] within (omega arith)

    other : (i : ℕ) → i < n → get_or (by_number (with_look f object look) n) i [] ≡ with_look f object look i
    other i within = get_or-map-range_with_len (with_look f object look) 0 n i i [] within (omega arith)

    by : (i : ℕ) (b : Bool) → eqb object i ≡ b → i < n → object < length (by_number f n) →
        get_or (set (by_number f n) object (f object ++ look ∷ [])) i [] ≡ f i ++ cond b (look ∷ []) []
    by i true is within there =
        let same : object ≡ i = eqb-true object i is in
        get_or-set_at (by_number f n) object i (f object ++ look ∷ []) [] (sym same) there
        ∙ ap (λ (k : ℕ). f k ++ look ∷ []) same
    by i false is within there =
        get_or-set_other (by_number f n) object i (f object ++ look ∷ []) [] (λ same. absurd (cc (is, eq-eqb object i (sym same))))
        ∙ value i within ∙ sym (append-nil (f i))

    at : (i : ℕ) → i < n → object < length (by_number f n) →
        get_or (set (by_number f n) object (f object ++ look ∷ [])) i [] ≡ get_or (by_number (with_look f object look) n) i []
    at i within there = by i (eqb object i) refl within there ∙ sym (other i within)

-- and none at the object of a number that isn't below it
pub by_number-beyond : (f : ℕ → List SignalLook) (n object : ℕ) (look : SignalLook) → n ≤ object →
    by_number f n ≡ by_number (with_look f object look) n
by_number-beyond f n object look beyond =
    ext_get_or [] (by_number f n) (by_number (with_look f object look) n)
    (length-map-range_with_len f 0 n ∙ sym (length-map-range_with_len (with_look f object look) 0 n))
    (λ i below. let within : i < n = omega (arith, length-map-range_with_len f 0 n) in
    get_or-map-range_with_len f 0 n i i [] within (omega arith) ∙ none i (eqb object i) refl within
    ∙ sym (get_or-map-range_with_len (with_look f object look) 0 n i i [] within (omega arith)))
  where
    none : (i : ℕ) (b : Bool) → eqb object i ≡ b → i < n → f i ≡ f i ++ cond b (look ∷ []) []
    none i true is within = let same : object ≡ i = eqb-true object i is in absurd (omega arith)
    none i false is within = sym (append-nil (f i))

-- a look among the first of a player's steps is one at the object that it names
pub gathered-look : (before : ℕ → List SignalLook) (object player step : ℕ) (seen : Seen) (more : List Spot) (at : ℕ) →
    with_look before object (record { player = player; step = step; seen = seen }) at ++ looks_from (signal_look_at at) player (step + 1) more
    ≡ before at ++ looks_from (signal_look_at at) player step (spots.LookSignal object seen ∷ more)
gathered-look before object player step seen more at = by (eqb object at)
  where
    look : SignalLook
    look = record { player = player; step = step; seen = seen }

    rest : List SignalLook
    rest = looks_from (signal_look_at at) player (step + 1) more

    by : (b : Bool) → (before at ++ cond b (look ∷ []) []) ++ rest ≡ before at ++ cons_option (cond b (Some look) None) rest
    by true = append_assoc (before at) (look ∷ []) rest
    by false = append_assoc (before at) [] rest

-- and other steps are none
pub gathered-step : (before : ℕ → List SignalLook) (player step : ℕ) (spot : Spot) (more : List Spot) (at : ℕ) →
    with_found before (named_look player step spot) at ++ looks_from (signal_look_at at) player (step + 1) more
    ≡ before at ++ looks_from (signal_look_at at) player step (spot ∷ more)
gathered-step before player step (spots.LookSignal object seen) more at = gathered-look before object player step seen more at
gathered-step before player step spot more at = refl

-- a look more is written at the object of its number
pub look-written : (before : ℕ → List SignalLook) (n object : ℕ) (look : SignalLook) (all : List (List SignalLook)) (new d : List SignalLook) → object < length all →
    new ≡ get_or all object d ++ look ∷ [] → all ≡ by_number before n → set all object new ≡ by_number (with_look before object look) n
look-written before n object look all new d within is same =
    let below : object < n = omega (arith, length-map-range_with_len before 0 n, ap (λ (l : List (List SignalLook)). length l) same) in
    let here : new ≡ before object ++ look ∷ [] =
    is ∙ ap (λ (l : List (List SignalLook)). get_or l object d ++ look ∷ []) same
    ∙ ap (λ (l : List SignalLook). l ++ look ∷ []) (get_or-map-range_with_len before 0 n object object d below (omega arith)) in
    ap (λ (l : List (List SignalLook)). set l object new) same ∙ ap (set (by_number before n) object) here ∙ by_number-set before n object look below
