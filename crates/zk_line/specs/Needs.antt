use Rattle.std.specs.Prelude.{◌≡◌, Bool, true, false, Option, Some, None, List, [], ◌∷◌, ◌++◌, option_to_list}
use Rattle.std.specs.List.{filter_map}
use Rattle.zk_base.specs.declared.kinds.Need.{Need}
use Rattle.zk_base.specs.declared.kinds.Need.TheVariants as need
use Rattle.zk_words.specs.declared.slot.Slot.{Slot}
use Rattle.zk_words.specs.declared.slot.Slot.TheVariants as slot
use Rattle.zk_words.specs.declared.slot.Rest.{Rest}
use Rattle.zk_words.specs.declared.slot.Rest.TheVariants.{Maybe, Many, Events}
use Rattle.zk_words.specs.Table.{call_row}
use Rattle.zk_line.specs.declared.events.Event.{Event}
use Rattle.zk_line.specs.declared.events.Event.TheVariants as events
use Rattle.zk_line.specs.declared.needs.Needed.{Needed}
use Rattle.zk_line.specs.declared.types.Arg.{Arg}
use Rattle.zk_line.specs.declared.types.Arg.TheVariants as arg
use Rattle.zk_line.specs.declared.types.Call.{Call}
use Rattle.zk_line.specs.declared.types.Call.TheVariants as calls
use Rattle.zk_line.specs.declared.types.Decl.{Decl}
use Rattle.zk_line.specs.declared.types.Ref.{Ref}
use Rattle.zk_line.specs.declared.types.Ref.TheVariants.{Known, Unknown}
use Rattle.zk_line.specs.Calls.{said_of}
use Rattle.zk_line.specs.Fits.{ref_fits}
use Rattle.zk_line.specs.Objects.{is_at, is_met}

-- an object, and what it has to be
abbrev pub needed : Ref → Need → Needed
needed object need = record { object = object; need = need }

-- what an event of a poll needs
abbrev pub event_need : Event → Option Needed
event_need events.Ignore = None
event_need (events.Sem sem) = Some (needed sem need.Sem)
event_need (events.Msgq queue) = Some (needed queue need.Msgq)
event_need (events.Sig signal) = Some (needed signal need.Signal)

-- what a word of a call needs, by the slot that it stands in
abbrev pub need_in : Slot → Arg → Option Needed
need_in (slot.Object need) (arg.Object object) = Some (needed object need)
need_in slot.Rawable (arg.Object object) = Some (needed object need.Any)
need_in slot.Event (arg.Event event) = event_need event
need_in slot arg = None

-- what the words behind the slots need
abbrev pub needs_behind : Rest → List Arg → List Needed
needs_behind (Maybe slot) (arg ∷ args) = option_to_list (need_in slot arg)
needs_behind (Many slot) args = filter_map (need_in slot) args
needs_behind Events args = filter_map (need_in slot.Event) args
needs_behind rest args = []

-- what the words of a call need, in the written order
abbrev pub needs_in : List Slot → Rest → List Arg → List Needed
needs_in [] rest args = needs_behind rest args
needs_in (slot ∷ slots) rest [] = []
needs_in (slot ∷ slots) rest (arg ∷ args) = option_to_list (need_in slot arg) ++ needs_in slots rest args

-- what a call needs, in the order in which a user's objects are checked: that of a grant before the thread which gets it
abbrev pub needs_of : Call → List Needed
needs_of (calls.Grant thread object) = needed object need.Any ∷ needed thread need.Thread ∷ []
needs_of call =
    let said = said_of call in
    let form = call_row said.word in
    needs_in form.slots form.rest said.args

-- whether an object that a call names by its number is declared
abbrev pub is_there : List Decl → Ref → Bool
is_there decls (Known object) = is_at (is_met need.Any) decls object
is_there decls (Unknown name) = true

-- what is needed is declared
abbrev pub IsThere : List Decl → Needed → Type 0
IsThere decls needed = is_there decls needed.object ≡ true

-- an object is declared, and is what it has to be
abbrev pub IsMet : List Decl → Needed → Type 0
IsMet decls needed = ref_fits false decls needed.need needed.object ≡ true
