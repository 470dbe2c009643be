use Rattle.std.specs.Prelude.{ℕ, Bool, true, false, List, [], ◌∷◌, map}
use Rattle.std.specs.List.{list_any}
use Rattle.zk_words.specs.declared.slot.Slot.{Slot}
use Rattle.zk_words.specs.declared.slot.Slot.TheVariants.{Event}
use Rattle.zk_words.specs.declared.slot.Rest.{Rest}
use Rattle.zk_words.specs.declared.slot.Rest.TheVariants.{Nothing, Maybe, Many, Events}
use Rattle.zk_words.specs.Events.{asks}

-- a word of a line, and the slot that it stands in
pub record Placed : Type 0 where
  pub slot : Slot
  pub text : List ℕ

-- a word in a slot
abbrev pub placed : Slot → List ℕ → Placed
placed slot text = record { slot = slot; text = text }

-- the words behind the slots, each in its slot
abbrev pub rest_parts : Rest → List (List ℕ) → List Placed
rest_parts Nothing words = []
rest_parts (Maybe slot) [] = []
rest_parts (Maybe slot) (word ∷ words) = placed slot word ∷ []
rest_parts (Many slot) words = map (placed slot) words
rest_parts Events words = map (placed Event) words

-- the words of a line, each in its slot, from the left as far as there are slots
abbrev pub parts_of : List Slot → Rest → List (List ℕ) → List Placed
parts_of [] rest words = rest_parts rest words
parts_of (slot ∷ slots) rest [] = []
parts_of (slot ∷ slots) rest (word ∷ words) = placed slot word ∷ parts_of slots rest words

-- whether such words may stand behind the slots: not more than there may be, and of events one at least that asks
abbrev pub rest_fits : Rest → List (List ℕ) → Bool
rest_fits Nothing [] = true
rest_fits Nothing (word ∷ words) = false
rest_fits (Maybe slot) [] = true
rest_fits (Maybe slot) (word ∷ []) = true
rest_fits (Maybe slot) (word ∷ more ∷ words) = false
rest_fits (Many slot) words = true
rest_fits Events words = list_any asks words

-- whether there is a word for each slot, and a slot for each word
abbrev pub fits : List Slot → Rest → List (List ℕ) → Bool
fits [] rest words = rest_fits rest words
fits (slot ∷ slots) rest [] = false
fits (slot ∷ slots) rest (word ∷ words) = fits slots rest words
