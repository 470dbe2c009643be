use Rattle.std.specs.Prelude.{ℕ, Bool, true, false, List, [], ◌∷◌, ◌++◌, codes, Option, Some, None, option_map, option_and_then, if◌then◌else◌}
use Rattle.std.specs.Fmt.{decimal, signed_decimal}
use Rattle.std.specs.Option.{option_flatten}
use Rattle.std.specs.Str.{bytes_eq}
use Rattle.zk_base.specs.Names.{is_name}
use Rattle.zk_words.specs.declared.slot.Choice.{Choice}
use Rattle.zk_words.specs.declared.slot.Slot.{Slot}
use Rattle.zk_words.specs.declared.slot.Slot.TheVariants as slot
use Rattle.zk_words.specs.declared.event.Source.TheVariants as source
use Rattle.zk_words.specs.Events.{source_text, event_named, is_ignore}
use Rattle.zk_words.specs.Hex.{msg_of, hex_text}
use Rattle.zk_words.specs.Numbers.{number_in, priority_of}
use Rattle.zk_words.specs.Parts.{Placed}
use Rattle.zk_words.specs.Spelled.{choice_text}
use Rattle.zk_words.specs.Timeouts.{wait_of, wait_text}
use Rattle.zk_words.specs.Validators.{validator_of, validator_text}
use Rattle.zk_line.specs.declared.types.Decl.{Decl}
use Rattle.zk_line.specs.declared.types.Ref.{Ref}
use Rattle.zk_line.specs.declared.types.Ref.TheVariants.{Known, Unknown}
use Rattle.zk_line.specs.declared.types.Arg.{Arg}
use Rattle.zk_line.specs.declared.types.Arg.TheVariants.{Name, Object, Number, Priority, Truth, Bytes, Wait, Event, Valid, Raw}
use Rattle.zk_line.specs.declared.events.Event.{Event as PollEvent}
use Rattle.zk_line.specs.declared.events.Event.TheVariants as event
use Rattle.zk_line.specs.Few.{event_at}
use Rattle.zk_line.specs.Objects.{object_of, name_at}

-- which of the two words of a choice it is
abbrev pub truth_of : Choice → List ℕ → Option Bool
truth_of choice word =
    if bytes_eq word (choice_text choice true) then Some true else
    if bytes_eq word (choice_text choice false) then Some false else None

-- an object that is declared, or else a name that no object has
abbrev pub named_ref : Option ℕ → List ℕ → Option Ref
named_ref (Some object) word = Some (Known object)
named_ref None word = (if is_name word then Some (Unknown word) else None)

-- an object as a line names it
abbrev pub ref_of : List Decl → List ℕ → Option Ref
ref_of decls word = named_ref (object_of decls word) word

-- an event as a line names it
abbrev pub event_of : List Decl → List ℕ → Option PollEvent
event_of decls word =
    if is_ignore word then Some event.Ignore else
    option_and_then (λ asked. option_map (event_at asked.source) (ref_of decls asked.name)) (event_named word)

-- what a word says in its slot, where it is right by itself
abbrev pub arg_of : List Decl → Slot → List ℕ → Option Arg
arg_of decls slot.New word = (if is_name word then Some (Name word) else None)
arg_of decls slot.Owner word = option_map Object (ref_of decls word)
arg_of decls (slot.Object need) word = option_map Object (ref_of decls word)
arg_of decls slot.Rawable word = option_map Object (ref_of decls word)
arg_of decls (slot.Number least most) word = option_map Number (number_in least most word)
arg_of decls slot.Priority word = option_map Priority (option_flatten (priority_of word))
arg_of decls (slot.Either choice) word = option_map (Truth choice) (truth_of choice word)
arg_of decls slot.Hex word = option_map Bytes (msg_of word)
arg_of decls slot.Wait word = option_map Wait (wait_of word)
arg_of decls slot.Event word = option_map Event (event_of decls word)
arg_of decls slot.Valid word = option_map Valid (validator_of word)
arg_of decls slot.Raw word = (if bytes_eq word (codes "raw") then Some Raw else None)

-- what all words of a line say, where each says something
abbrev pub args_of : List Decl → List Placed → Option (List Arg)
args_of decls [] = Some []
args_of decls (part ∷ parts) =
    option_and_then (λ arg. option_map (λ args. arg ∷ args) (args_of decls parts)) (arg_of decls part.slot part.text)

-- the name of an object that a call names
abbrev pub ref_name : List Decl → Ref → List ℕ
ref_name decls (Known object) = name_at decls object
ref_name decls (Unknown name) = name

-- the one spelling of an event
abbrev pub event_text : List Decl → PollEvent → List ℕ
event_text decls event.Ignore = codes "ignore"
event_text decls (event.Sem object) = source_text source.Sem ++ ref_name decls object
event_text decls (event.Msgq object) = source_text source.Msgq ++ ref_name decls object
event_text decls (event.Sig object) = source_text source.Signal ++ ref_name decls object

-- the one spelling of what a word says
abbrev pub arg_text : List Decl → Arg → List ℕ
arg_text decls (Name name) = name
arg_text decls (Object object) = ref_name decls object
arg_text decls (Number number) = decimal number
arg_text decls (Priority prio) = signed_decimal prio
arg_text decls (Truth choice truth) = choice_text choice truth
arg_text decls (Bytes message) = hex_text message
arg_text decls (Wait wait) = wait_text wait
arg_text decls (Event event) = event_text decls event
arg_text decls (Valid valid) = validator_text valid
arg_text decls Raw = codes "raw"
