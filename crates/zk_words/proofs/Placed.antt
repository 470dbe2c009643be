-- The words of a line in their slots.
use Rattle.std.proofs.Common.{◌≡◌, ℕ, true, List, [], ◌∷◌, map, refl, ap}
use Rattle.zk_words.specs.declared.slot.Slot.{Slot}
use Rattle.zk_words.specs.declared.slot.Rest.{Rest}
use Rattle.zk_words.specs.declared.slot.Rest.TheVariants.{Nothing, Maybe, Many, Events}
use Rattle.zk_words.specs.declared.slot.Slot.TheVariants.{Event}
use Rattle.zk_words.specs.Parts.{placed, rest_parts, parts_of, rest_fits, fits}

-- no word fills no slot
pub parts_of_none : (slots : List Slot) (rest : Rest) → parts_of slots rest [] ≡ []
parts_of_none [] Nothing = refl
parts_of_none [] (Maybe slot) = refl
parts_of_none [] (Many slot) = refl
parts_of_none [] Events = refl
parts_of_none (slot ∷ slots) rest = refl

texts-each : (slot : Slot) (words : List (List ℕ)) → map (λ p. p.text) (map (placed slot) words) ≡ words
texts-each slot [] = refl
texts-each slot (word ∷ words) = ap (λ (ws : List (List ℕ)). word ∷ ws) (texts-each slot words)

texts-rest : (rest : Rest) (words : List (List ℕ)) → rest_fits rest words ≡ true → map (λ p. p.text) (rest_parts rest words) ≡ words
texts-rest Nothing [] fit = refl
texts-rest Nothing (word ∷ words) fit = absurd (cc)
texts-rest (Maybe slot) [] fit = refl
texts-rest (Maybe slot) (word ∷ []) fit = refl
texts-rest (Maybe slot) (word ∷ more ∷ words) fit = absurd (cc)
texts-rest (Many slot) words fit = texts-each slot words
texts-rest Events words fit = texts-each Event words

-- where there are as many words as slots, the parts have just these words
pub texts-parts_of : (slots : List Slot) (rest : Rest) (words : List (List ℕ)) → fits slots rest words ≡ true → map (λ p. p.text) (parts_of slots rest words) ≡ words
texts-parts_of [] rest words fit = texts-rest rest words fit
texts-parts_of (slot ∷ slots) rest [] fit = absurd (cc)
texts-parts_of (slot ∷ slots) rest (word ∷ words) fit = ap (λ (ws : List (List ℕ)). word ∷ ws) (texts-parts_of slots rest words fit)
