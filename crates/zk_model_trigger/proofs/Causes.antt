-- Why an arm that had no cause fires after an operation.
use Rattle.std.proofs.Common.{◌≡◌, ℕ, Bool, true, false, not, ◌&&◌, ◌||◌, cond, eqb, Option, Some, None, List, [], ◌∷◌, ◌++◌, refl, sym, ap, ◌∙◌, arith}
use Rattle.std.specs.List.{find}
use Rattle.std.proofs.lemmas.Bool.{eqb-true, eq-eqb}
use Rattle.std.proofs.lemmas.Bool.Decides.{nat_tests}
use Rattle.std.proofs.lemmas.List.Folds.{list_any-append}
use Rattle.zk_model_trigger.specs.declared.ops.Cause.TheVariants.{Event, Time}
use Rattle.zk_model_trigger.specs.declared.parts.Arm.{Arm}
use Rattle.zk_model_trigger.specs.declared.parts.Occasion.TheVariants.{Posted, Reached}
use Rattle.zk_model_trigger.specs.Arms.{is_among, is_reached, meets, found_cause, first_cause}
use Rattle.zk_model_trigger.specs.Machine.{posted, unposted}
use Rattle.zk_model_trigger.proofs.Lists.{and_false, or_false, or_swap, find_weaker}

-- one ready event more
pub among-posted : (ready : List ℕ) (event x : ℕ) → is_among (posted ready event) x ≡ (eqb event x || is_among ready x)
among-posted ready event x = by (is_among ready event) refl where
  same : (b : Bool) → eqb event x ≡ b → is_among ready event ≡ true → is_among ready x ≡ (b || is_among ready x)
  same true is there = ap (is_among ready) (sym (eqb-true event x is)) ∙ there
  same false is there = refl

  by : (b : Bool) → is_among ready event ≡ b →
      is_among (cond b ready (ready ++ event ∷ [])) x ≡ (eqb event x || is_among ready x)
  by true is = same (eqb event x) refl is
  by false is =
      list_any-append (λ e. eqb e x) ready (event ∷ [])
      ∙ ap (λ (b : Bool). is_among ready x || b) (or_false (eqb event x)) ∙ or_swap (is_among ready x) (eqb event x)

-- without one
pub among-unposted : (ready : List ℕ) (event x : ℕ) →
    is_among (unposted ready event) x ≡ (is_among ready x && not (eqb event x))
among-unposted [] event x = refl
among-unposted (y ∷ ys) event x = by (eqb y event) (eqb y x) refl refl (among-unposted ys event x) where
  -- the first is the one that is asked for, and not the one that is taken out
  apart : (b : Bool) → eqb event x ≡ b → eqb y event ≡ false → eqb y x ≡ true → not b ≡ true
  apart true so is here = absurd (grind (arith, nat_tests))
  apart false so is here = refl

  by : (a b : Bool) → eqb y event ≡ a → eqb y x ≡ b → is_among (unposted ys event) x ≡ (is_among ys x && not (eqb event x)) →
      is_among (cond (not a) (y ∷ unposted ys event) (unposted ys event)) x
      ≡ ((b || is_among ys x) && not (eqb event x))
  by true false is here rest = rest
  by true true is here rest =
      let same : eqb event x ≡ true = grind (arith, nat_tests) in
      rest ∙ ap (λ (c : Bool). is_among ys x && not c) same ∙ and_false (is_among ys x) ∙ ap not (sym same)
  by false true is here rest =
      ap (λ (c : Bool). c || is_among (unposted ys event) x) here ∙ sym (apart (eqb event x) refl is here)
  by false false is here rest = ap (λ (c : Bool). c || is_among (unposted ys event) x) here ∙ rest

-- the first of its events that is ready, where none was and one more is
pub find-posted : (ready : List ℕ) (event : ℕ) (events : List ℕ) → find (is_among ready) events ≡ None →
    find (is_among (posted ready event)) events ≡ cond (is_among events event) (Some event) None
find-posted ready event [] none = refl
find-posted ready event (x ∷ xs) none = by (is_among ready x) refl none (find-posted ready event xs) where
  Rest : Type 0
  Rest = find (is_among ready) xs ≡ None →
      find (is_among (posted ready event)) xs ≡ cond (is_among xs event) (Some event) None

  here : (b : Bool) → eqb x event ≡ b → is_among ready x ≡ false → find (is_among ready) xs ≡ None → Rest →
      cond (is_among (posted ready event) x) (Some x) (find (is_among (posted ready event)) xs)
      ≡ cond (b || is_among xs event) (Some event) None
  here true is apart none so =
      let same : x ≡ event = eqb-true x event is in
      let ready_now : is_among (posted ready event) x ≡ true =
      among-posted ready event x ∙ ap (λ (c : Bool). c || is_among ready x) (eq-eqb event x (sym same)) in
      ap (λ (c : Bool). cond c (Some x) (find (is_among (posted ready event)) xs)) ready_now ∙ ap Some same
  here false is apart none so =
      let other : eqb event x ≡ false = grind (arith, nat_tests) in
      let not_now : is_among (posted ready event) x ≡ false =
      among-posted ready event x ∙ ap (λ (c : Bool). c || is_among ready x) other ∙ apart in
      ap (λ (c : Bool). cond c (Some x) (find (is_among (posted ready event)) xs)) not_now
      ∙ so none

  by : (b : Bool) → is_among ready x ≡ b → cond b (Some x) (find (is_among ready) xs) ≡ None → Rest →
      find (is_among (posted ready event)) (x ∷ xs) ≡ cond (is_among (x ∷ xs) event) (Some event) None
  by true is found so = absurd (cc)
  by false is found so = here (eqb x event) refl is found so

-- without a cause no event is ready and the deadline isn't reached
pub no_cause : (o : Option ℕ) (b : Bool) → found_cause o b ≡ None → (o ≡ None) × (b ≡ false)
no_cause (Some event) b none = absurd (cc)
no_cause None true none = absurd (cc)
no_cause None false none = (refl, refl)

found : (m : Bool) (event : ℕ) → found_cause (cond m (Some event) None) false ≡ cond m (Some (Event event)) None
found true event = refl
found false event = refl

module _ (ready : List ℕ) (now : ℕ) (a : Arm) (none : first_cause (is_among ready) now a ≡ None) where
  parts : (find (is_among ready) a.events ≡ None) × (is_reached now a.deadline ≡ false)
  parts = no_cause (find (is_among ready) a.events) (is_reached now a.deadline) none

  -- after a post it fires with this event, if it names it
  pub cause-posted : (event : ℕ) →
      first_cause (is_among (posted ready event)) now a ≡ cond (meets (Posted event) a) (Some (Event event)) None
  cause-posted event =
      ap (λ (b : Bool). found_cause (find (is_among (posted ready event)) a.events) b) parts.1
      ∙ ap (λ (o : Option ℕ). found_cause o false) (find-posted ready event a.events parts.0)
      ∙ found (is_among a.events event) event

  -- after an unpost it doesn't fire
  pub cause-unposted : (event : ℕ) → first_cause (is_among (unposted ready event)) now a ≡ None
  cause-unposted event =
      let less : (x : ℕ) → is_among ready x ≡ false → is_among (unposted ready event) x ≡ false =
      λ x is. among-unposted ready event x ∙ ap (λ (b : Bool). b && not (eqb event x)) is in
      ap (λ (b : Bool). found_cause (find (is_among (unposted ready event)) a.events) b) parts.1
      ∙ ap (λ (o : Option ℕ). found_cause o false)
      (find_weaker (is_among ready) (is_among (unposted ready event)) less a.events parts.0)

  -- at a later time it fires with its time, if that is out
  pub cause-reached : (time : ℕ) → first_cause (is_among ready) time a ≡ cond (meets (Reached time) a) (Some Time) None
  cause-reached time = ap (λ (o : Option ℕ). found_cause o (is_reached time a.deadline)) parts.0
