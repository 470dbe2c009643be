use Rattle.std.specs.Prelude.{ℕ, ℤ, Bool, true, false, nat_le, ◌==◌, List, [], ◌∷◌, length, Option, Some, None, option_map, option_and_then, if◌then◌else◌}
use Rattle.zk_base.specs.Fews as fews
use Rattle.zk_base.specs.declared.validator.Valid.{Valid}
use Rattle.zk_words.specs.declared.limits.TheConstants.{GREATEST_RESULT}
use Rattle.zk_words.specs.declared.slot.Choice.{Choice}
use Rattle.zk_words.specs.declared.timeout.Timeout.{Timeout}
use Rattle.zk_words.specs.Spelled.{same_choice}
use Rattle.zk_line.specs.declared.types.Ref.{Ref}
use Rattle.zk_line.specs.declared.types.Ref.TheVariants.{Known}
use Rattle.zk_line.specs.declared.events.Event.{Event as PollEvent}
use Rattle.zk_line.specs.declared.types.Arg.{Arg}
use Rattle.zk_line.specs.declared.types.Arg.TheVariants.{Name, Object, Number, Priority, Truth, Bytes, Wait, Event, Valid as ValidArg, Raw}
use Rattle.zk_line.specs.Few.{is_few}

-- the name that an argument is, if it is one
abbrev pub as_name : Arg → Option (List ℕ)
as_name (Name name) = Some name
as_name arg = None

-- the object that it is
abbrev pub as_object : Arg → Option Ref
as_object (Object object) = Some object
as_object arg = None

-- the number of the object that it is
abbrev pub as_known : Arg → Option ℕ
as_known (Object (Known object)) = Some object
as_known arg = None

-- the number that it is
abbrev pub as_number : Arg → Option ℕ
as_number (Number number) = Some number
as_number arg = None

-- the result of a signal that it is
abbrev pub as_result : Arg → Option ℕ
as_result (Number number) = (if nat_le number GREATEST_RESULT then Some number else None)
as_result arg = None

-- the priority that it is
abbrev pub as_priority : Arg → Option ℤ
as_priority (Priority prio) = Some prio
as_priority arg = None

-- which of the two words of a choice it is
abbrev pub as_truth : Choice → Arg → Option Bool
as_truth choice (Truth other truth) = (if same_choice choice other then Some truth else None)
as_truth choice arg = None

-- the message that it is
abbrev pub as_bytes : Arg → Option (List ℕ)
as_bytes (Bytes message) = Some message
as_bytes arg = None

-- how long is waited
abbrev pub as_wait : Arg → Option Timeout
as_wait (Wait wait) = Some wait
as_wait arg = None

-- the event that it is
abbrev pub as_event : Arg → Option PollEvent
as_event (Event event) = Some event
as_event arg = None

-- two parts, where each is one
abbrev pub both : {A B : Type 0} → Option A → Option B → Option (A × B)
both (Some a) (Some b) = Some (a, b)
both a b = None

-- three parts, where each is one
abbrev pub all_three : {A B C : Type 0} → Option A → Option B → Option C → Option (A × B × C)
all_three (Some a) (Some b) (Some c) = Some (a, b, c)
all_three a b c = None

-- four parts, where each is one
abbrev pub all_four : {A B C D : Type 0} → Option A → Option B → Option C → Option D → Option (A × B × C × D)
all_four (Some a) (Some b) (Some c) (Some d) = Some (a, b, c, d)
all_four a b c d = None

-- whether `raw` is what stands there; nothing may stand there too
abbrev pub raw_of : List Arg → Option Bool
raw_of [] = Some false
raw_of (Raw ∷ []) = Some true
raw_of args = None

-- what is said by no argument
abbrev pub alone : {A : Type 0} → A → List Arg → Option A
alone what [] = Some what
alone what (arg ∷ args) = None

-- one argument of such a kind
abbrev pub one : {A : Type 0} → (Arg → Option A) → List Arg → Option A
one f (a ∷ []) = f a
one f args = None

-- two arguments of such kinds
abbrev pub two : {A B : Type 0} → (Arg → Option A) → (Arg → Option B) → List Arg → Option (A × B)
two f g (a ∷ b ∷ []) = both (f a) (g b)
two f g args = None

-- three
abbrev pub three : {A B C : Type 0} → (Arg → Option A) → (Arg → Option B) → (Arg → Option C) → List Arg → Option (A × B × C)
three f g h (a ∷ b ∷ c ∷ []) = all_three (f a) (g b) (h c)
three f g h args = None

-- one, and perhaps `raw` behind it
abbrev pub one_raw : {A : Type 0} → (Arg → Option A) → List Arg → Option (A × Bool)
one_raw f (a ∷ args) = both (f a) (raw_of args)
one_raw f args = None

-- three, and perhaps `raw` behind them
abbrev pub three_raw : {A B C : Type 0} → (Arg → Option A) → (Arg → Option B) → (Arg → Option C) → List Arg
    → Option (A × B × C × Bool)
three_raw f g h (a ∷ b ∷ c ∷ args) = all_four (f a) (g b) (h c) (raw_of args)
three_raw f g h args = None

-- one, and perhaps another
abbrev pub one_or_two : {A B : Type 0} → (Arg → Option A) → (Arg → Option B) → List Arg → Option (A × Option B)
one_or_two f g (a ∷ []) = both (f a) (Some None)
one_or_two f g (a ∷ b ∷ []) = both (f a) (option_map Some (g b))
one_or_two f g args = None

-- the events that all arguments are
abbrev pub all_events : List Arg → Option (List PollEvent)
all_events [] = Some []
all_events (arg ∷ args) = option_and_then (λ event. option_map (λ events. event ∷ events) (all_events args)) (as_event arg)

-- events that are those of a poll, if they are few
abbrev pub few_events : List PollEvent → Option (List PollEvent)
few_events events = (if is_few events then Some events else None)

-- the events of a poll that all arguments are
abbrev pub events_of : List Arg → Option (List PollEvent)
events_of args = option_and_then few_events (all_events args)

-- how long is waited, and for which events
abbrev pub wait_events : List Arg → Option (Timeout × List PollEvent)
wait_events (Wait wait ∷ args) = option_map (λ events. (wait, events)) (events_of args)
wait_events args = None

-- the objects that all arguments are
abbrev pub all_objects : List Arg → Option (List ℕ)
all_objects [] = Some []
all_objects (arg ∷ args) =
    option_and_then (λ object. option_map (λ objects. object ∷ objects) (all_objects args)) (as_known arg)

-- objects that are those of a channel, if they are few
abbrev pub few_objects : List ℕ → Option (List ℕ)
few_objects objects = (if fews.is_few objects then Some objects else None)

-- the observers of a channel that all arguments are
abbrev pub objects_of : List Arg → Option (List ℕ)
objects_of args = option_and_then few_objects (all_objects args)

-- a channel's name, its first message, behind the size of that, what messages it takes, and its observers
abbrev pub channel_parts : List Arg → Option (List ℕ × List ℕ × Valid × List ℕ)
channel_parts (Name name ∷ Number size ∷ Bytes message ∷ ValidArg valid ∷ args) =
    if size == length message
    then option_map (λ observers. (name, message, valid, observers)) (objects_of args)
    else None
channel_parts args = None
