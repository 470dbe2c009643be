-- A wait that a search by its place found, or didn't.
use Rattle.std.proofs.Common.{◌≡◌, ◌≢◌, ℕ, ◌+◌, ◌<◌, Bool, true, false, eqb, None, List, [], ◌∷◌, length, get_or, drop, filter, All, refl, subst}
use Rattle.std.proofs.lemmas.Bool.{eqb-true}
use Rattle.std.proofs.lemmas.List.Elements.{All-filter, filter_passes}
use Rattle.zk_base.specs.declared.slots.Slot.{Slot}
use Rattle.zk_base.specs.declared.leaders.First.{First}
use Rattle.zk_base.specs.declared.span.Span.{Span}
use Rattle.zk_base.specs.Waits.{WaitView, decision_of}
use Rattle.zk_base.specs.Slots.{Rises, place_of, has_answer, waits_in, leads, passed_on, IsIn, IsToldIn}
use Rattle.zk_base.proofs.Risen.{nothing-at, alone-at}
use Rattle.zk_base.proofs.SlotWaits.{decision-untold}

module _ {M A : Type 0} where
  -- the waits of one view and of another that is the same
  pub seen : {v w : WaitView M A} → v ≡ w → v.waits ≡ w.waits
  seen same = λ i. (same i).waits

  -- the one wait of a place stands at this index
  pub record IsFound (ss : List (Slot M A)) (place index : ℕ) (d : Slot M A) : Type 0 where
    pub within : index < length ss
    pub at : place_of (get_or ss index d) ≡ place
    pub alone : filter (λ s. eqb (place_of s) place) ss ≡ get_or ss index d ∷ []

  pub found-at : {ss ts : List (Slot M A)} → ts ≡ ss → Rises place_of ss → {place : ℕ} (index : ℕ)
      (d : Slot M A) → index < length ts →
      place_of (get_or ts index d) ≡ place → IsFound ss place index d
  found-at {ss} {ts} same rises {place} index d within at =
      let less = subst (λ (l : List (Slot M A)). index < length l) same within in
      let its = subst (λ (l : List (Slot M A)). place_of (get_or l index d) ≡ place) same at in
      record { within = less; at = its; alone = alone-at place_of ss index d place rises less its }

  -- no wait is of the place
  pub nowhere-at : {ss ts : List (Slot M A)} → ts ≡ ss → (place : ℕ) → All (λ (s : Slot M A). place_of s ≢ place) ts →
      filter (λ s. eqb (place_of s) place) ss ≡ []
  nowhere-at {ss} {ts} same place differ =
      nothing-at place_of place ss (subst (All (λ (s : Slot M A). place_of s ≢ place)) same differ)

  pub nowhere-first : {ss ts : List (Slot M A)} → ts ≡ ss → {place first : ℕ} → place ≡ first →
      All (λ (s : Slot M A). place_of s ≢ place) ts → All (λ (s : Slot M A). place_of s ≢ first) ss
  nowhere-first {ss} same {place} here differ = subst (λ (n : ℕ). All (λ (s : Slot M A). place_of s ≢ n) ss) here
      (subst (All (λ (s : Slot M A). place_of s ≢ place)) same differ)

  -- what is passed on from the wait at an index
  pub passed-at : {ss ts : List (Slot M A)} → ts ≡ ss → {gs : List First} (fs : List First) (k : ℕ) (d : Slot M A) →
      (gs ≡ passed_on (get_or ts k d).rank (place_of (get_or ts k d)) (leads (get_or ts k d).rank (drop (k + 1) ts)) fs) →
      gs ≡ passed_on (get_or ss k d).rank (place_of (get_or ss k d)) (leads (get_or ss k d).rank (drop (k + 1) ss)) fs
  passed-at same {gs} fs k d is = subst (λ (l : List (Slot M A)). gs ≡ passed_on (get_or l k d).rank (place_of (get_or l k d))
      (leads (get_or l k d).rank (drop (k + 1) l)) fs) same is

  -- what stands elsewhere than all that is decided isn't decided
  pub decided-nowhere : (told : Span) (player place : ℕ) (ss : List (Slot M A)) → All (IsToldIn told) ss → (IsIn told place → ⊥) →
      decision_of (waits_in ss) player place ≡ None
  decided-nowhere told player place ss within out = decision-untold player place ss
      (λ i d less. by (get_or there i d) (has_answer (get_or there i d)) refl
      (eqb-true (place_of (get_or there i d)) place (filter_passes here ss i d less))
      (All-filter here (IsToldIn told) ss within i d less)) where
        here : Slot M A → Bool
        here s = eqb (place_of s) place

        there : List (Slot M A)
        there = filter here ss

        by : (s : Slot M A) (b : Bool) → has_answer s ≡ b → place_of s ≡ place → IsToldIn told s → b ≡ false
        by s true is at inside = absurd (out (subst (IsIn told) at (inside is)))
        by s false is at inside = refl
