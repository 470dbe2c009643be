use Rattle.std.specs.Prelude.{ℕ, Bool, true, false, not, ◌==◌, ◌*◌, ◌/◌, nat_le, nat_lt, ◌&&◌, ◌||◌, count_by, Option, Some, None, List, [], ◌∷◌, length, is_some, option_and_then, if◌then◌else◌}
use Rattle.std.specs.List.{list_all, list_any}
use Rattle.std.specs.Str.{bytes_eq}
use Rattle.std.specs.Option.{option_flatten, option_map_or}
use Rattle.zk_base.specs.Limits.{longest_message, most_few}
use Rattle.zk_base.specs.Names.{is_name}
use Rattle.zk_base.specs.declared.kinds.Kind.TheVariants as kind
use Rattle.zk_base.specs.declared.kinds.Need.{Need}
use Rattle.zk_base.specs.declared.kinds.Need.TheVariants as need
use Rattle.zk_words.specs.declared.limits.TheConstants.{MOST_COUNT}
use Rattle.zk_words.specs.declared.slot.Slot.{Slot}
use Rattle.zk_words.specs.declared.slot.Slot.TheVariants.{New, Owner, Object, Rawable, Number, Priority, Hex, Wait, Event}
use Rattle.zk_words.specs.declared.word.Head.{Head}
use Rattle.zk_words.specs.declared.word.Head.TheVariants.{Declare}
use Rattle.zk_words.specs.Events.{event_named, is_ignore, need_of}
use Rattle.zk_words.specs.Numbers.{number_in, priority_of}
use Rattle.zk_words.specs.Parts.{Placed}
use Rattle.zk_words.specs.Timeouts.{wait_of}
use Rattle.zk_line.specs.declared.events.TheConstants.{MOST_EVENTS}
use Rattle.zk_line.specs.declared.types.Arg.{Arg}
use Rattle.zk_line.specs.declared.types.Arg.TheVariants as arg
use Rattle.zk_line.specs.declared.types.Decl.{Decl}
use Rattle.zk_line.specs.declared.types.Ref.TheVariants.{Known}
use Rattle.zk_line.specs.Args.{ref_of, arg_of}
use Rattle.zk_line.specs.Objects.{object_of, names, plays_script, can_be_raw, is_met, size_at}

-- the object that the first word behind a head names, if it names one
abbrev pub first_object : List Decl → List Placed → Option ℕ
first_object decls [] = None
first_object decls (part ∷ parts) = object_of decls part.text

-- how many bytes each message of what an argument names has, if it names something that has messages
abbrev pub size_named : List Decl → Arg → Option ℕ
size_named decls (arg.Object (Known object)) = size_at decls object
size_named decls arg = None

-- how many bytes a message has behind words that say these
abbrev pub size_said : List Decl → List Arg → Option ℕ
size_said decls [] = None
size_said decls (arg ∷ args) = size_named decls arg

-- how many bytes a message in a line has: as many as each of the object that the line's first word names
abbrev pub message_size : List Decl → List Placed → Option ℕ
message_size decls [] = None
message_size decls (part ∷ parts) = option_and_then (size_named decls) (arg_of decls part.slot part.text)

-- whether so many bytes are as many as are asked for, where any are
abbrev pub is_size : Option ℕ → ℕ → Bool
is_size None bytes = true
is_size (Some size) bytes = bytes == size

-- whether hexadecimal digits are those of a message that isn't too long, and of the size that is asked for
abbrev pub hex_in_range : Option ℕ → List ℕ → Bool
hex_in_range size word = nat_le (length word) (2 * longest_message) && is_size size (length word / 2)

-- whether a word is in the range of its slot, in a line whose messages have so many bytes
abbrev pub is_in_range : Option ℕ → Slot → List ℕ → Bool
is_in_range size (Number least most) word = is_some (number_in least most word)
is_in_range size Priority word = is_some (option_flatten (priority_of word))
is_in_range size Hex word = hex_in_range size word
is_in_range size Wait word = is_some (wait_of word)
is_in_range size slot word = true

-- whether each word of a line is
abbrev pub each_in_range : Option ℕ → List Placed → Bool
each_in_range size parts = list_all (λ part. is_in_range size part.slot part.text) parts

-- whether the count that a semaphore begins with isn't above its limit
abbrev pub is_up_to : List ℕ → List ℕ → Bool
is_up_to initial limit = option_map_or (λ most. is_some (number_in 0 most initial)) (number_in 1 MOST_COUNT limit) false

-- whether the numbers of a line go together: those of a semaphore, and a channel's size and its message
abbrev pub go_together : Head → List Placed → Bool
go_together (Declare kind.Sem) (name ∷ initial ∷ limit ∷ parts) = is_up_to initial.text limit.text
go_together (Declare kind.Chan) (name ∷ size ∷ message ∷ parts) =
    is_size (number_in 1 longest_message size.text) (length message.text / 2)
go_together head parts = true

-- whether no number of a line is out of its range, and no message of the wrong size
abbrev pub are_in_range : List Decl → Head → List Placed → Bool
are_in_range decls head parts = each_in_range (message_size decls parts) parts && go_together head parts

-- whether a word may name an object where a need is asked: one that meets it, and in a free line any, declared or not
abbrev pub is_right_object : Bool → List Decl → Need → List ℕ → Bool
is_right_object free decls need word = (if free then is_some (ref_of decls word) else names (is_met need) decls word)

-- whether a word is a name that may stand in its slot: a new one, or that of an object of the right kind
abbrev pub is_well_named : Bool → List Decl → Slot → List ℕ → Bool
is_well_named free decls New word = is_name word && not (is_some (object_of decls word))
is_well_named free decls Owner word = names plays_script decls word
is_well_named free decls (Object need) word = is_right_object free decls need word
is_well_named free decls Rawable word = names can_be_raw decls word
is_well_named free decls Event word =
    is_ignore word
    || option_map_or (λ asked. is_right_object free decls (need_of asked.source) asked.name) (event_named word) false
is_well_named free decls slot word = true

-- whether each word of a line is
abbrev pub each_well_named : Bool → List Decl → List Placed → Bool
each_well_named free decls parts = list_all (λ part. is_well_named free decls part.slot part.text) parts

-- whether a slot is that of an observer
abbrev pub is_observer_slot : Slot → Bool
is_observer_slot (Object need.Obs) = true
is_observer_slot slot = false

-- whether one of the words of a line names this observer
abbrev pub names_observer : List ℕ → List Placed → Bool
names_observer name parts = list_any (λ part. is_observer_slot part.slot && bytes_eq part.text name) parts

-- whether no observer is named twice
abbrev pub name_once : List Placed → Bool
name_once [] = true
name_once (part ∷ parts) = not (is_observer_slot part.slot && names_observer part.text parts) && name_once parts

-- whether each name of a line may stand where it does, and no observer is named twice
abbrev pub are_well_named : Bool → List Decl → List Placed → Bool
are_well_named free decls parts = each_well_named free decls parts && name_once parts

-- whether a line names more observers than a channel may have
abbrev pub has_many_observers : List Placed → Bool
has_many_observers parts = nat_lt most_few (count_by (λ part. is_observer_slot part.slot) parts)

-- whether a slot is that of an event
abbrev pub is_event_slot : Slot → Bool
is_event_slot Event = true
is_event_slot slot = false

-- whether a line has more events than a poll may have
abbrev pub has_many_events : List Placed → Bool
has_many_events parts = nat_lt MOST_EVENTS (count_by (λ part. is_event_slot part.slot) parts)
