-- What stands at a spot is found there, and an attempt that can be the step found stands there.
use Rattle.std.proofs.Common.{◌≡◌, ◌↔◌, ℕ, ◌≤◌, ◌<◌, ◌⊎◌, inl, inr, Bool, true, false, Option, Some, None, List, length, get_or, ◌+◌, refl, sym, ap, subst, ◌∙◌, arith}
use Rattle.std.specs.List.{slice_get}
use Rattle.std.proofs.lemmas.Bool.{cases_lt}
use Rattle.std.proofs.lemmas.Option.{same_Some, none-some, slice_get_within, slice_get_cases}
use Rattle.zk_worker.specs.declared.steps.Spot.{Spot}
use Rattle.zk_worker.specs.declared.steps.Spot.TheVariants as spots
use Rattle.zk_worker.specs.declared.steps.Step.{Step}
use Rattle.zk_worker.specs.declared.steps.Step.TheVariants as steps
use Rattle.zk_worker.specs.declared.steps.StepReply.TheVariants as step_replies
use Rattle.zk_worker.specs.Families.{entry_at}
use Rattle.zk_worker.specs.Follows.{StepMade, Stands, made_at}
use Rattle.zk_worker.specs.Shown.{Shown}
use Rattle.zk_failures.specs.Found.{found_at, IsFor}
use Rattle.zk_failures.proofs.LedPlayers.{told-all}

-- whether a step is a look at a signal
abbrev looks_at_signal : Step → Bool
looks_at_signal (steps.LookSignal object must) = true
looks_at_signal step = false

-- an entry is no look
abbrev IsNoLook : StepMade → Type 0
IsNoLook made = looks_at_signal made.0 ≡ false

entry-no-look : (shown : Shown) (spot : Spot) (made : StepMade) → made_at shown spot ≡ Some made → IsNoLook made
entry-no-look shown (spots.Work place) made is = told-all IsNoLook (λ e. (steps.Work e.op, step_replies.Work e.reply place)) (λ e. refl) (slice_get shown.work place) made is
entry-no-look shown (spots.Clock place) made is = told-all IsNoLook (λ e. (steps.Clock e.op, step_replies.Clock e.reply place)) (λ e. refl) (slice_get shown.clock place) made is
entry-no-look shown (spots.Table place) made is = told-all IsNoLook (λ e. (steps.Table e.op, step_replies.Table e.reply place)) (λ e. refl) (slice_get shown.table place) made is
entry-no-look shown (spots.Sem object place) made is =
    told-all IsNoLook (λ e. (steps.Sem object e.op, step_replies.Sem object e.reply place)) (λ e. refl) (entry_at shown.sems object place) made is
entry-no-look shown (spots.Msgq object place) made is =
    told-all IsNoLook (λ e. (steps.Msgq object e.op, step_replies.Msgq object e.reply place)) (λ e. refl) (entry_at shown.msgqs object place) made is
entry-no-look shown (spots.Signal object place) made is =
    told-all IsNoLook (λ e. (steps.Signal object e.op, step_replies.Signal object e.reply place)) (λ e. refl) (entry_at shown.signals object place) made is
entry-no-look shown (spots.Chan object place) made is =
    told-all IsNoLook (λ e. (steps.Chan object e.op, step_replies.Chan object e.reply place)) (λ e. refl) (entry_at shown.chans object place) made is
entry-no-look shown (spots.Obs object place) made is =
    told-all IsNoLook (λ e. (steps.Obs object e.op, step_replies.Obs object e.reply place)) (λ e. refl) (entry_at shown.observers object place) made is
entry-no-look shown (spots.LookItem object flags at) made is = absurd (none-some made is)
entry-no-look shown (spots.LookSignal object seen) made is = absurd (none-some made is)

-- a step can be itself
for-itself : (step : Step) → IsFor step step
for-itself (steps.LookSignal object must) = (must, refl, λ is. is)
for-itself step = refl

-- a step that is no look at a signal can be no other one
for-same : (attempt step : Step) → looks_at_signal step ≡ false → IsFor attempt step → attempt ≡ step
for-same attempt (steps.LookSignal object must) other is = absurd (cc)
for-same attempt step other is = is

-- where they aren't both looks at signals, only one that is the step can be it
pub for-other : (attempt step : Step) (b : Bool) → (b ≡ true) ↔ (attempt ≡ step) → ((object : ℕ) (must : Bool) → attempt ≡ steps.LookSignal object must → looks_at_signal step ≡ false) →
    (b ≡ true) ↔ IsFor attempt step
for-other attempt (steps.LookSignal object must) b same apart = (
  λ is. absurd (let looks : true ≡ false = apart object must (same.0 is) in cc),
  λ can. absurd (let looks : true ≡ false = apart object can.0 can.1 in cc),
)
for-other attempt step b same apart = same

-- a step that isn't such a look
pub no-look : (step : Step) → ((object : ℕ) (must : Bool) → step ≡ steps.LookSignal object must → ⊥) → looks_at_signal step ≡ false
no-look (steps.LookSignal object must) none = absurd (none object must refl)
no-look step none = refl

-- an entry stands as what was found and as nothing else
entry-stands : (found : StepMade) (o : Option StepMade) (attempt : Step) → IsNoLook found → o ≡ Some found → IsFor attempt found.0 → o ≡ Some (attempt, found.1)
entry-stands found o attempt other is can = is ∙ ap (λ (step : Step). let made : StepMade = (step, found.1) in Some made) (sym (for-same attempt found.0 other can))

entry-for : (found made : StepMade) (o : Option StepMade) → o ≡ Some found → o ≡ Some made → IsFor made.0 found.0
entry-for found made o is stands = subst (λ (m : StepMade). IsFor m.0 found.0) (same_Some found made (sym is ∙ stands)) (for-itself found.0)

-- an attempt that can be the step found stands there
pub found-stands : (shown : Shown) (spot : Spot) (found : StepMade) (attempt : Step) → found_at shown spot ≡ Some found → IsFor attempt found.0 → Stands shown spot (attempt, found.1)
found-stands shown (spots.LookItem object flags at) found attempt is can =
    let same = same_Some {A = StepMade} (steps.LookItem object, step_replies.Flags flags at) found is in
    let step : attempt ≡ steps.LookItem object = subst (λ (m : StepMade). IsFor attempt m.0) (sym same) can in
    ap (λ (x : Step). let made : StepMade = (x, found.1) in made) step ∙ ap (λ (m : StepMade). let made : StepMade = (steps.LookItem object, m.1) in made) (sym same)
found-stands shown (spots.LookSignal object seen) found attempt is can =
    let same = same_Some {A = StepMade} (steps.LookSignal object seen.raised, step_replies.Seen seen) found is in
    let step = subst (λ (m : StepMade). IsFor attempt m.0) (sym same) can in (
      step.0,
      ap (λ (x : Step). let made : StepMade = (x, found.1) in made) step.1 ∙ ap (λ (m : StepMade). let made : StepMade = (steps.LookSignal object step.0, m.1) in made) (sym same),
      step.2,
    )
found-stands shown spot found attempt is can = entry-stands found (made_at shown spot) attempt (entry-no-look shown spot found is) is can

-- what stands there can be the step found
pub stands-found : (shown : Shown) (spot : Spot) (found made : StepMade) → found_at shown spot ≡ Some found → Stands shown spot made → IsFor made.0 found.0
stands-found shown (spots.LookItem object flags at) found made is stands = entry-for found made (Some (steps.LookItem object, step_replies.Flags flags at)) is (ap (λ (m : StepMade). Some m) (sym stands))
stands-found shown (spots.LookSignal object seen) found made is stands =
    let same = same_Some {A = StepMade} (steps.LookSignal object seen.raised, step_replies.Seen seen) found is in
    subst (λ (m : StepMade). IsFor made.0 m.0) same (stands.0, ap (λ (m : StepMade). m.0) stands.1, stands.2)
stands-found shown spot found made is stands = entry-for found made (made_at shown spot) is stands

-- where nothing is found, nothing stands
pub none-stands : (shown : Shown) (spot : Spot) (made : StepMade) → found_at shown spot ≡ None → Stands shown spot made → ⊥
none-stands shown (spots.LookItem object flags at) made none stands = absurd (none-some {A = StepMade} (steps.LookItem object, step_replies.Flags flags at) (sym none))
none-stands shown (spots.LookSignal object seen) made none stands = absurd (none-some {A = StepMade} (steps.LookSignal object seen.raised, step_replies.Seen seen) (sym none))
none-stands shown spot made none stands = none-some made (sym none ∙ stands)

-- A search among some things from the first on.

module _ {X : Type 0} (P : X → Type 0) (xs : List X) (i : ℕ) (none : (k : ℕ) (x : X) → k < i → slice_get xs k ≡ Some x → P x → ⊥) where
  -- it goes on behind one that isn't so
  pub none-more : (y : X) → slice_get xs i ≡ Some y → (P y → ⊥) → (k : ℕ) (x : X) → k < i + 1 → slice_get xs k ≡ Some x → P x → ⊥
  none-more y here isnt k x below there is = by (cases_lt k i) where
    by : (k < i) ⊎ (i ≤ k) → ⊥
    by (inl less) = none k x less there is
    by (inr at) =
        let same : k ≡ i = omega arith in
        isnt (subst P (same_Some x y (sym there ∙ ap (slice_get xs) same ∙ here)) is)

  -- at the end none is so
  pub none-left : length xs ≤ i → (x : X) → (k : ℕ) × (slice_get xs k ≡ Some x) → P x → ⊥
  none-left end x there is = let within = slice_get_within xs there.0 x there.1 in none there.0 x (omega arith) there.1 is

  pub none-past : slice_get xs i ≡ None → (x : X) → (k : ℕ) × (slice_get xs k ≡ Some x) → P x → ⊥
  none-past past x there is = none-left (by (slice_get_cases xs i).1) x there is where
    by : ((y : X) × (i < length xs) × (slice_get xs i ≡ Some y) × (get_or xs i y ≡ y)) ⊎ ((length xs ≤ i) × (slice_get xs i ≡ None)) → length xs ≤ i
    by (inl within) = absurd (none-some within.0 (sym past ∙ within.2))
    by (inr beyond) = beyond.0
