use Rattle.std.specs.Prelude.{ℕ, Bool, true, false, ◌&&◌, ◌||◌, List, is_some, codes}
use Rattle.std.specs.List.{list_all}
use Rattle.std.specs.Str.{bytes_eq}
use Rattle.zk_base.specs.Names.{is_spelled}
use Rattle.zk_words.specs.declared.slot.Choice.{Choice}
use Rattle.zk_words.specs.declared.slot.Choice.TheVariants.{Mode, State, Drain}
use Rattle.zk_words.specs.declared.slot.Rest.{Rest}
use Rattle.zk_words.specs.declared.slot.Slot.{Slot}
use Rattle.zk_words.specs.declared.slot.Slot.TheVariants.{New, Owner, Object, Rawable, Number, Priority, Either, Hex, Wait, Event, Valid, Raw}
use Rattle.zk_words.specs.Events.{is_event}
use Rattle.zk_words.specs.Hex.{is_hex}
use Rattle.zk_words.specs.Numbers.{is_number, priority_of}
use Rattle.zk_words.specs.Parts.{Placed, parts_of, fits}
use Rattle.zk_words.specs.Timeouts.{is_wait}
use Rattle.zk_words.specs.Validators.{validator_of}

-- one of the two words of a choice: the first is true
abbrev pub choice_text : Choice → Bool → List ℕ
choice_text Mode true = codes "user"
choice_text Mode false = codes "super"
choice_text State true = codes "on"
choice_text State false = codes "off"
choice_text Drain true = codes "plug"
choice_text Drain false = codes "open"

-- whether two choices are one
abbrev pub same_choice : Choice → Choice → Bool
same_choice Mode Mode = true
same_choice State State = true
same_choice Drain Drain = true
same_choice choice other = false

-- whether a word is spelled as its slot asks
abbrev pub is_spelled_in : Slot → List ℕ → Bool
is_spelled_in New word = is_spelled word
is_spelled_in Owner word = is_spelled word
is_spelled_in (Object need) word = is_spelled word
is_spelled_in Rawable word = is_spelled word
is_spelled_in (Number least most) word = is_number word
is_spelled_in Priority word = is_some (priority_of word)
is_spelled_in (Either choice) word = bytes_eq word (choice_text choice true) || bytes_eq word (choice_text choice false)
is_spelled_in Hex word = is_hex word
is_spelled_in Wait word = is_wait word
is_spelled_in Event word = is_event word
is_spelled_in Valid word = is_some (validator_of word)
is_spelled_in Raw word = bytes_eq word (codes "raw")

-- whether the word of a part is
abbrev pub part_is_spelled : Placed → Bool
part_is_spelled part = is_spelled_in part.slot part.text

-- whether there is a word for each slot and a slot for each word, each spelled as its slot asks
abbrev pub are_spelled : List Slot → Rest → List (List ℕ) → Bool
are_spelled slots rest words = fits slots rest words && list_all part_is_spelled (parts_of slots rest words)
