use Rattle.std.specs.Prelude.{ℕ, Bool, false, not, ◌||◌, Option, Some, None, List, length, take, drop, codes, if◌then◌else◌}
use Rattle.std.specs.Option.{option_map_or}
use Rattle.std.specs.Str.{bytes_eq}
use Rattle.zk_base.specs.Names.{is_spelled}
use Rattle.zk_base.specs.declared.kinds.Need.{Need}
use Rattle.zk_base.specs.declared.kinds.Need.TheVariants as need
use Rattle.zk_words.specs.declared.event.Source.{Source}
use Rattle.zk_words.specs.declared.event.Source.TheVariants.{Sem, Msgq, Signal}

-- what an event asks for: a source of its kind, by its name
pub record Asking : Type 0 where
  pub source : Source
  pub name : List ℕ

-- what stands before the name of a source
abbrev pub source_text : Source → List ℕ
source_text Sem = codes "sem:"
source_text Msgq = codes "msgq:"
source_text Signal = codes "sig:"

-- the need that a source meets
abbrev pub need_of : Source → Need
need_of Sem = need.Sem
need_of Msgq = need.Msgq
need_of Signal = need.Signal

-- whether a word begins with a front
abbrev pub begins : List ℕ → List ℕ → Bool
begins front word = bytes_eq (take (length front) word) front

-- a word that asks for a source
abbrev pub asked : Source → List ℕ → Asking
asked source word = record { source = source; name = drop (length (source_text source)) word }

-- what a word asks for, if it is an event that does
abbrev pub event_named : List ℕ → Option Asking
event_named word =
    if begins (source_text Sem) word then Some (asked Sem word) else
    if begins (source_text Msgq) word then Some (asked Msgq word) else
    if begins (source_text Signal) word then Some (asked Signal word) else None

-- the event that asks for nothing
abbrev pub is_ignore : List ℕ → Bool
is_ignore word = bytes_eq word (codes "ignore")

-- whether a word is spelled as an event
abbrev pub is_event : List ℕ → Bool
is_event word = is_ignore word || option_map_or (λ event. is_spelled event.name) (event_named word) false

-- whether it isn't the one that asks for nothing
abbrev pub asks : List ℕ → Bool
asks word = not (is_ignore word)
