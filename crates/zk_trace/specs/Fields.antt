use Rattle.std.specs.Prelude.{◌≡◌, ℕ, ◌-◌, ◌^◌, ◌<◌, nat_le, Bool, true, false, Option, Some, None, List, [], ◌∷◌, length, drop, find, option_map, option_and_then, if◌then◌else◌}
use Rattle.std.specs.List.{AllByRecursion, range_with_len}
use Rattle.std.specs.Str.{bytes_eq}
use Rattle.zk_base.specs.declared.errors.Errno.{Errno}
use Rattle.zk_base.specs.declared.errors.Errno.TheVariants as errnos
use Rattle.zk_base.specs.declared.kinds.Need.{Need}
use Rattle.zk_base.specs.declared.kinds.Need.TheVariants as needs
use Rattle.zk_base.specs.Limits.{most_few}
use Rattle.zk_base.specs.Messages.{is_message}
use Rattle.zk_model_bus.specs.declared.table.OopsWhy.{OopsWhy}
use Rattle.zk_model_bus.specs.declared.table.OopsWhy.TheVariants as whys
use Rattle.zk_words.specs.declared.slot.Choice.TheVariants.{State, Drain}
use Rattle.zk_words.specs.Events.{begins}
use Rattle.zk_words.specs.Numbers.{exact_number_of, number_in}
use Rattle.zk_words.specs.Pieces.{words_of}
use Rattle.zk_words.specs.Spelled.{choice_text}
use Rattle.zk_line.specs.declared.events.TheConstants.{MOST_EVENTS}
use Rattle.zk_line.specs.declared.types.Decl.{Decl}
use Rattle.zk_line.specs.Objects.{places, number_of, object_of, is_at, is_thread, is_queue, is_item, is_chan, is_observer}
use Rattle.zk_trace.specs.Names.{target_name, checked_name, names_word}
use Rattle.zk_trace.specs.Words.{errno_word, need_word, why_word, oops_front, admission_front, flags_word, truth_word, wait_word, ready_front}

-- a number of 64 bits
abbrev pub wide_of : List ℕ → Option ℕ
wide_of word = exact_number_of word

-- a number of 32 bits
abbrev pub narrow_of : List ℕ → Option ℕ
narrow_of word = number_in 0 (2 ^ 32 - 1) word

-- a number of 16 bits
abbrev pub short_of : List ℕ → Option ℕ
short_of word = number_in 0 (2 ^ 16 - 1) word

-- what stands behind a front says
abbrev pub fronted : {A : Type 0} → List ℕ → (List ℕ → Option A) → List ℕ → Option A
fronted front of word = if begins front word then of (drop (length front) word) else None

-- the number of an admission
abbrev pub admission_of : List ℕ → Option ℕ
admission_of word = fronted admission_front wide_of word

-- the object of a name, where its declaration passes a test
abbrev pub object_named : (Decl → Bool) → List Decl → List ℕ → Option ℕ
object_named test decls word =
    option_and_then (λ object. if is_at test decls object then Some object else None) (object_of decls word)

-- its number among those that it counts with
abbrev pub number_named : (Decl → Bool) → List Decl → List ℕ → Option ℕ
number_named test decls word = option_map (number_of decls) (object_named test decls word)

-- an item, by its number among the items
abbrev pub item_of : List Decl → List ℕ → Option ℕ
item_of decls word = number_named is_item decls word

-- a queue, by its number among the queues
abbrev pub queue_of : List Decl → List ℕ → Option ℕ
queue_of decls word = number_named is_queue decls word

-- the queue that a submission names, or none
abbrev pub target_of : List Decl → List ℕ → Option (Option ℕ)
target_of decls word =
    if bytes_eq word (target_name decls None) then Some None else option_map Some (queue_of decls word)

-- a thread
abbrev pub thread_of : List Decl → List ℕ → Option ℕ
thread_of decls word = object_named is_thread decls word

-- a channel
abbrev pub chan_of : List Decl → List ℕ → Option ℕ
chan_of decls word = object_named is_chan decls word

-- a subscriber or a listener
abbrev pub observer_of : List Decl → List ℕ → Option ℕ
observer_of decls word = object_named is_observer decls word

-- the object that a check asks of, or none
abbrev pub checked_of : List Decl → List ℕ → Option (Option ℕ)
checked_of decls word =
    if bytes_eq word (checked_name decls None) then Some None else option_map Some (object_of decls word)

-- what a word says: the first of some things that is written so
abbrev pub named : {A : Type 0} → (A → List ℕ) → List A → List ℕ → Option A
named text all word = find (λ a. bytes_eq word (text a)) all

-- both truth values
abbrev pub both : List Bool
both = true ∷ false ∷ []

-- all refusals
abbrev pub all_errnos : List Errno
all_errnos =
    errnos.Busy ∷ errnos.Again ∷ errnos.Inval ∷ errnos.NoDev ∷ errnos.NoMsg ∷ errnos.Already ∷ errnos.Fault ∷ []

-- all needs
abbrev pub all_needs : List Need
all_needs =
    needs.Thread ∷ needs.Sem ∷ needs.Msgq ∷ needs.Signal ∷ needs.Queue
    ∷ needs.Item ∷ needs.Chan ∷ needs.Sub ∷ needs.Obs ∷ needs.Any ∷ []

-- all reasons of a check that fails
abbrev pub all_whys : List OopsWhy
all_whys = whys.NoObject ∷ whys.WrongKind ∷ whys.NotGranted ∷ whys.NotInit ∷ []

-- a refusal
abbrev pub errno_of : List ℕ → Option Errno
errno_of word = named errno_word all_errnos word

-- a need
abbrev pub need_of : List ℕ → Option Need
need_of word = named need_word all_needs word

-- why a check fails
abbrev pub why_of : List ℕ → Option OopsWhy
why_of word = named why_word all_whys word

-- that it fails, and why
abbrev pub oops_of : List ℕ → Option OopsWhy
oops_of row = fronted oops_front why_of row

-- a truth value
abbrev pub truth_of : List ℕ → Option Bool
truth_of word = named truth_word both word

-- whether a call waits
abbrev pub waits_of : List ℕ → Option Bool
waits_of word = named wait_word both word

-- whether a drain plugs its queue
abbrev pub plug_of : List ℕ → Option Bool
plug_of word = named (choice_text Drain) both word

-- whether something is on
abbrev pub state_of : List ℕ → Option Bool
state_of word = named (choice_text State) both word

-- the busy flags
abbrev pub flags_of : List ℕ → Option ℕ
flags_of word = named flags_word (range_with_len 0 32) word

-- what some words say, where each says something
abbrev pub each_of : {A : Type 0} → (List ℕ → Option A) → List (List ℕ) → Option (List A)
each_of of [] = Some []
each_of of (word ∷ words) = option_and_then (λ a. option_map (λ more. a ∷ more) (each_of of words)) (of word)

-- some things, where they are no more than so many
abbrev pub up_to : {A : Type 0} → ℕ → List A → Option (List A)
up_to most all = if nat_le (length all) most then Some all else None

-- the observers that were told, or none
abbrev pub observers_of : List Decl → List ℕ → Option (List ℕ)
observers_of decls row =
    if bytes_eq row (names_word decls []) then Some []
    else option_and_then (up_to most_few) (each_of (observer_of decls) (words_of row))

-- the words behind this one
abbrev pub behind : List ℕ → List (List ℕ) → Option (List (List ℕ))
behind first [] = None
behind first (word ∷ words) = if bytes_eq word first then Some words else None

-- what the words behind this one say
abbrev pub said_behind : {A : Type 0} → List ℕ → (List (List ℕ) → Option A) → List (List ℕ) → Option A
said_behind first of words = option_and_then of (behind first words)

-- the events of a poll that are ready, behind their word
abbrev pub ready_of : List ℕ → Option (List ℕ)
ready_of row =
    option_and_then (up_to MOST_EVENTS) (option_and_then (each_of narrow_of) (behind ready_front (words_of row)))

-- the word, where there is just one
abbrev pub one_word : List (List ℕ) → Option (List ℕ)
one_word (word ∷ []) = Some word
one_word words = None

-- the words, where there are just two
abbrev pub two_words : List (List ℕ) → Option (List ℕ × List ℕ)
two_words (first ∷ second ∷ []) = Some (first, second)
two_words words = None

-- the words, where there are just three
abbrev pub three_words : List (List ℕ) → Option (List ℕ × List ℕ × List ℕ)
three_words (first ∷ second ∷ third ∷ []) = Some (first, second, third)
three_words words = None

-- this, where there is no word
abbrev pub bare : {A : Type 0} → A → List (List ℕ) → Option A
bare made [] = Some made
bare made (word ∷ words) = None

-- what is made of one word
module _ {A D : Type 0} (make : A → D) (of : List ℕ → Option A) where
  abbrev pub one : List (List ℕ) → Option D
  one words = option_and_then (λ word. option_map make (of word)) (one_word words)

-- what is made of two words
module _ {A B D : Type 0} (make : A → B → D) (first_of : List ℕ → Option A) (second_of : List ℕ → Option B) where
  abbrev pub two : List (List ℕ) → Option D
  two words =
      option_and_then (λ w. option_and_then (λ a. option_map (make a) (second_of w.1)) (first_of w.0)) (two_words words)

-- what is made of three words
module _ {A B C D : Type 0} (make : A → B → C → D) (first_of : List ℕ → Option A) (second_of : List ℕ → Option B)
    (third_of : List ℕ → Option C) where
  abbrev pub three : List (List ℕ) → Option D
  three words =
      option_and_then (λ w.
      option_and_then (λ a. option_and_then (λ b. option_map (make a b) (third_of w.2)) (second_of w.1)) (first_of w.0))
      (three_words words)

-- an operation: its verb, and what is made of the words behind that
abbrev pub said_by : {V O : Type 0} → (V → List ℕ) → List V → (V → List (List ℕ) → Option O) → List (List ℕ) → Option O
said_by verb_word all op_behind [] = None
said_by verb_word all op_behind (word ∷ words) =
    option_and_then (λ verb. op_behind verb words) (named verb_word all word)

-- What fits.

-- an item, by its number among the items
abbrev pub IsItem : List Decl → ℕ → Type 0
IsItem decls item = item < length (places is_item decls)

-- a queue, by its number among the queues
abbrev pub IsQueue : List Decl → ℕ → Type 0
IsQueue decls queue = queue < length (places is_queue decls)

-- a queue or none
abbrev pub IsTarget : List Decl → Option ℕ → Type 0
IsTarget decls None = Unit {0}
IsTarget decls (Some queue) = IsQueue decls queue

-- an object whose declaration passes a test
abbrev pub IsOf : (Decl → Bool) → List Decl → ℕ → Type 0
IsOf test decls object = is_at test decls object ≡ true

-- an object of any kind
abbrev pub IsObject : List Decl → ℕ → Type 0
IsObject decls object = object < length decls

-- an object or none
abbrev pub IsChecked : List Decl → Option ℕ → Type 0
IsChecked decls None = Unit {0}
IsChecked decls (Some object) = IsObject decls object

-- a message, of bytes
pub record IsMessage (message : List ℕ) : Type 0 where
  pub size : is_message message ≡ true
  pub bytes : AllByRecursion (λ b. b < 2 ^ 8) message

-- the observers of a channel, no more than there may be
pub record AreObservers (decls : List Decl) (told : List ℕ) : Type 0 where
  pub few : nat_le (length told) most_few ≡ true
  pub each : AllByRecursion (IsOf is_observer decls) told

-- the numbers of events of a poll, no more than there may be
pub record ArePositions (positions : List ℕ) : Type 0 where
  pub few : nat_le (length positions) MOST_EVENTS ≡ true
  pub each : AllByRecursion (λ p. p < 2 ^ 32) positions
