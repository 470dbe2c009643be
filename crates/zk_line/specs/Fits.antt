use Rattle.std.specs.Prelude.{◌≡◌, ℕ, Bool, true, false, not, ◌==◌, nat_le, ◌&&◌, Option, Some, List, [], ◌∷◌, length, take, slice_get, is_some, if◌then◌else◌}
use Rattle.std.specs.List.{list_all, list_any}
use Rattle.zk_base.specs.Limits.{longest_message, most_held}
use Rattle.zk_base.specs.Fews as fews
use Rattle.zk_base.specs.Messages.{is_message}
use Rattle.zk_base.specs.declared.kinds.Need.{Need}
use Rattle.zk_base.specs.declared.kinds.Need.TheVariants as need
use Rattle.zk_words.specs.declared.limits.TheConstants.{MOST_COUNT}
use Rattle.zk_words.specs.declared.slot.Slot.{Slot}
use Rattle.zk_words.specs.declared.slot.Slot.TheVariants as slot
use Rattle.zk_words.specs.declared.slot.Rest.{Rest}
use Rattle.zk_words.specs.declared.slot.Rest.TheVariants.{Maybe, Many, Events}
use Rattle.zk_words.specs.Numbers.{is_between}
use Rattle.zk_words.specs.Table.{call_row}
use Rattle.zk_words.specs.Timeouts.{wait_fits}
use Rattle.zk_line.specs.declared.types.Decl.{Decl}
use Rattle.zk_line.specs.declared.types.Decl.TheVariants.{Sem, Msgq, Sub, Chan}
use Rattle.zk_line.specs.declared.events.Event.{Event}
use Rattle.zk_line.specs.declared.events.Event.TheVariants as event
use Rattle.zk_line.specs.declared.types.Ref.{Ref}
use Rattle.zk_line.specs.declared.types.Ref.TheVariants.{Known, Unknown}
use Rattle.zk_line.specs.declared.types.Arg.{Arg}
use Rattle.zk_line.specs.declared.types.Arg.TheVariants as arg
use Rattle.zk_line.specs.declared.types.Call.{Call}
use Rattle.zk_line.specs.declared.types.Call.TheVariants as call
use Rattle.zk_line.specs.Calls.{said_of}
use Rattle.zk_line.specs.Checks.{size_said, is_size}
use Rattle.zk_line.specs.Few.{is_few}
use Rattle.zk_line.specs.Objects.{object_of, is_at, is_met, can_be_raw, is_observer, observers_of}

-- what is asked of an object in a line: in a free one nothing
abbrev pub asked_in : Bool → Need → Need
asked_in free asked = (if free then need.Any else asked)

-- whether an object may stand where a need is asked: one that is declared and meets it, and in a free line any that is
-- declared, or a name that no object has
abbrev pub ref_fits : Bool → List Decl → Need → Ref → Bool
ref_fits free decls asked (Known object) = is_at (is_met (asked_in free asked)) decls object
ref_fits free decls asked (Unknown name) = free && not (is_some (object_of decls name))

-- whether an object is declared and can be declared as not initialised
abbrev pub rawable_fits : List Decl → Ref → Bool
rawable_fits decls (Known object) = is_at can_be_raw decls object
rawable_fits decls (Unknown name) = false

-- whether an event asks for nothing, or for an object that may stand there
abbrev pub event_fits : Bool → List Decl → Event → Bool
event_fits free decls event.Ignore = true
event_fits free decls (event.Sem object) = ref_fits free decls need.Sem object
event_fits free decls (event.Msgq object) = ref_fits free decls need.Msgq object
event_fits free decls (event.Sig object) = ref_fits free decls need.Signal object

-- whether what stands in a slot fits it: an object that may stand there, a number in the range, a message of the size
abbrev pub fits_in : Bool → List Decl → Option ℕ → Slot → Arg → Bool
fits_in free decls size (slot.Object need) (arg.Object object) = ref_fits free decls need object
fits_in free decls size slot.Rawable (arg.Object object) = rawable_fits decls object
fits_in free decls size (slot.Number least most) (arg.Number number) = is_between least most number
fits_in free decls size slot.Hex (arg.Bytes message) = is_size size (length message)
fits_in free decls size slot.Wait (arg.Wait wait) = wait_fits wait
fits_in free decls size slot.Event (arg.Event event) = event_fits free decls event
fits_in free decls size slot arg = true

-- whether what stands behind the slots fits
abbrev pub rest_fit : Bool → List Decl → Option ℕ → Rest → List Arg → Bool
rest_fit free decls size (Maybe slot) (arg ∷ args) = fits_in free decls size slot arg
rest_fit free decls size (Many slot) args = list_all (fits_in free decls size slot) args
rest_fit free decls size Events args = list_all (fits_in free decls size slot.Event) args
rest_fit free decls size rest args = true

-- whether what a line says fits its slots
abbrev pub args_fit : Bool → List Decl → Option ℕ → List Slot → Rest → List Arg → Bool
args_fit free decls size [] rest args = rest_fit free decls size rest args
args_fit free decls size (slot ∷ slots) rest [] = true
args_fit free decls size (slot ∷ slots) rest (arg ∷ args) =
    fits_in free decls size slot arg && args_fit free decls size slots rest args

-- whether the events of a call are those of a poll, where it is one
abbrev pub has_few_events : Call → Bool
has_few_events (call.Poll wait events) = is_few events
has_few_events call = true

-- whether each object of a call may stand there: it is declared and of the kind that the call asks for, and in a free line
-- any may; each number is in range, a message has the size of its message queue or channel, and the events of a poll are few
abbrev pub call_fits : Bool → List Decl → Call → Bool
call_fits free decls call =
    let said = said_of call in
    let form = call_row said.word in
    has_few_events call && args_fit free decls (size_said decls said.args) form.slots form.rest said.args

-- whether numbers are different, each from all others
abbrev pub all_different : List ℕ → Bool
all_different [] = true
all_different (n ∷ ns) = not (list_any (λ m. m == n) ns) && all_different ns

-- whether what is declared is in range: a semaphore's first count and limit, a message queue's size and room, what a
-- subscriber has room for, the length of a channel's message; and a channel's observers are few and different
abbrev pub decl_fits : Decl → Bool
decl_fits (Sem name initial limit raw) = is_between 1 MOST_COUNT limit && nat_le initial limit
decl_fits (Msgq name size capacity raw) = is_between 1 longest_message size && is_between 1 most_held capacity
decl_fits (Sub name capacity) = is_between 1 most_held capacity
decl_fits (Chan name message valid observers) = is_message message && fews.is_few observers && all_different observers
decl_fits decl = true

-- whether the observers of what is declared are subscribers and listeners among these declarations
abbrev pub observers_fit : List Decl → Decl → Bool
observers_fit decls decl = list_all (is_at is_observer decls) (observers_of decl)

-- the observers of each channel are subscribers and listeners that are declared before it
abbrev pub AreObserved : List Decl → Type 0
AreObserved decls =
    (object : ℕ) (decl : Decl) → slice_get decls object ≡ Some decl → observers_fit (take object decls) decl ≡ true
