-- How words stand in their slots, word by word.
use Rattle.std.proofs.Common.{◌≡◌, ℕ, Bool, true, false, ◌&&◌, List, [], ◌∷◌, map, refl, ap}
use Rattle.std.specs.List.{list_all, list_any}
use Rattle.zk_words.specs.declared.slot.Slot.{Slot}
use Rattle.zk_words.specs.declared.slot.Slot.TheVariants.{Event}
use Rattle.zk_words.specs.declared.slot.Rest.{Rest}
use Rattle.zk_words.specs.declared.slot.Rest.TheVariants.{Events}
use Rattle.zk_words.specs.Events.{asks, is_event}
use Rattle.zk_words.specs.Parts.{placed, parts_of, fits}
use Rattle.zk_words.specs.Spelled.{is_spelled_in, part_is_spelled, are_spelled}

second_first : (fit spelled all : Bool) → (fit && (spelled && all)) ≡ (spelled && (fit && all))
second_first true spelled all = refl
second_first false true all = refl
second_first false false all = refl

-- a word that its slot takes leaves the spelling to the words behind it, and another settles it
pub spelled_next : (slot : Slot) (slots : List Slot) (rest : Rest) (word : List ℕ) (words : List (List ℕ)) → are_spelled (slot ∷ slots) rest (word ∷ words) ≡ (is_spelled_in slot word && are_spelled slots rest words)
spelled_next slot slots rest word words = second_first (fits slots rest words) (is_spelled_in slot word) (list_all part_is_spelled (parts_of slots rest words))

events_all : (words : List (List ℕ)) → list_all part_is_spelled (map (placed Event) words) ≡ list_all is_event words
events_all [] = refl
events_all (word ∷ words) = ap (λ b. is_event word && b) (events_all words)

-- the events of a poll: each is spelled by itself, and one asks for something
pub events_spelled : (words : List (List ℕ)) → are_spelled [] Events words ≡ (list_any asks words && list_all is_event words)
events_spelled words = ap (λ b. list_any asks words && b) (events_all words)
