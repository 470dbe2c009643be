use Rattle.std.specs.Prelude.{◌≡◌, ℕ, ◌^◌, ◌+◌, ◌<◌, Bool, true, false, if◌then◌else◌, Option, Some, None, List, [], ◌∷◌, ◌++◌, take, length, count_by, slice_get, unwrap_or, option_and_then}
use Rattle.std.specs.List.{position}
use Rattle.std.specs.Option.{option_map_or}
use Rattle.std.specs.Str.{bytes_eq}
use Rattle.zk_base.specs.declared.kinds.Kind.{Kind}
use Rattle.zk_base.specs.declared.kinds.Kind.TheVariants as kind
use Rattle.zk_base.specs.declared.kinds.Need.{Need}
use Rattle.zk_base.specs.declared.kinds.Need.TheVariants as need
use Rattle.zk_base.specs.Kinds as base
use Rattle.zk_base.specs.Names.{is_name}
use Rattle.zk_words.specs.Kinds as kinds
use Rattle.zk_line.specs.declared.kind_lists.Lists.{Lists}
use Rattle.zk_line.specs.declared.names.Names.{Names}
use Rattle.zk_line.specs.declared.types.Decl.{Decl}
use Rattle.zk_line.specs.declared.types.Decl.TheVariants.{Thread, Queue, Item, Sem, Msgq, Signal, Listener, Sub, Chan}
use Rattle.zk_line.specs.ByName.{by_name}

-- the kind of what is declared
abbrev pub kind_of : Decl → Kind
kind_of (Thread name prio user) = kind.Thread
kind_of (Queue name prio on) = kind.Queue
kind_of (Item name) = kind.Item
kind_of (Sem name initial limit raw) = kind.Sem
kind_of (Msgq name size capacity raw) = kind.Msgq
kind_of (Signal name raw) = kind.Signal
kind_of (Listener name) = kind.Listener
kind_of (Sub name capacity) = kind.Sub
kind_of (Chan name message valid observers) = kind.Chan

-- the name that a declaration gives
abbrev pub name_of : Decl → List ℕ
name_of (Thread name prio user) = name
name_of (Queue name prio on) = name
name_of (Item name) = name
name_of (Sem name initial limit raw) = name
name_of (Msgq name size capacity raw) = name
name_of (Signal name raw) = name
name_of (Listener name) = name
name_of (Sub name capacity) = name
name_of (Chan name message valid observers) = name

-- whether a declaration is of a kind
abbrev pub is_of : Kind → Decl → Bool
is_of kind decl = base.same_kind (kind_of decl) kind

-- whether a declaration is of a thread
abbrev pub is_thread : Decl → Bool
is_thread decl = is_of kind.Thread decl

-- whether a declaration is of a thread that is a user
abbrev pub is_user : Decl → Bool
is_user (Thread name prio user) = user
is_user decl = false

-- whether a declaration is of a work queue
abbrev pub is_queue : Decl → Bool
is_queue decl = is_of kind.Queue decl

-- whether a declaration is of a work item
abbrev pub is_item : Decl → Bool
is_item decl = is_of kind.Item decl

-- whether a declaration is of a semaphore
abbrev pub is_sem : Decl → Bool
is_sem decl = is_of kind.Sem decl

-- whether a declaration is of a message queue
abbrev pub is_msgq : Decl → Bool
is_msgq decl = is_of kind.Msgq decl

-- whether a declaration is of a signal
abbrev pub is_signal : Decl → Bool
is_signal decl = is_of kind.Signal decl

-- whether a declaration is of a listener
abbrev pub is_listener : Decl → Bool
is_listener decl = is_of kind.Listener decl

-- whether a declaration is of a channel
abbrev pub is_chan : Decl → Bool
is_chan decl = is_of kind.Chan decl

-- whether what is declared meets a need
abbrev pub is_met : Need → Decl → Bool
is_met need decl = base.meets need (kind_of decl)

-- whether a declaration is of an observer: a subscriber or a listener
abbrev pub is_observer : Decl → Bool
is_observer decl = is_met need.Obs decl

-- whether a declaration counts with those of a kind: it is of that kind, and subscribers and listeners count together
abbrev pub counts_with : Kind → Decl → Bool
counts_with kind.Listener decl = is_observer decl
counts_with kind.Sub decl = is_observer decl
counts_with kind decl = is_of kind decl

-- the test for declarations that count with this one
abbrev pub has_kind_of : Decl → Decl → Bool
has_kind_of decl = counts_with (kind_of decl)

-- whether what is declared can play a script
abbrev pub plays_script : Decl → Bool
plays_script decl = kinds.plays_script (kind_of decl)

-- whether what is declared can be declared as not initialised
abbrev pub can_be_raw : Decl → Bool
can_be_raw decl = kinds.can_be_raw (kind_of decl)

-- whether what is declared isn't initialised
abbrev pub is_raw : Decl → Bool
is_raw (Sem name initial limit raw) = raw
is_raw (Msgq name size capacity raw) = raw
is_raw (Signal name raw) = raw
is_raw decl = false

-- the observers of a channel, as object numbers
abbrev pub observers_of : Decl → List ℕ
observers_of (Chan name message valid observers) = observers
observers_of decl = []

-- the positions of the elements that pass a test, counted from the first one's own position
abbrev pub places_from : ℕ → (Decl → Bool) → List Decl → List ℕ
places_from n test [] = []
places_from n test (d ∷ ds) = (if test d then n ∷ places_from (n + 1) test ds else places_from (n + 1) test ds)

-- the object numbers of the declarations that pass a test, in declared order
abbrev pub places : (Decl → Bool) → List Decl → List ℕ
places test decls = places_from 0 test decls

-- how many players there are: the threads, and a worker for each queue
abbrev pub player_count : List Decl → ℕ
player_count decls = count_by is_thread decls + count_by is_queue decls

-- the number of an object among those that it counts with, from 0 in declared order
abbrev pub number_of : List Decl → ℕ → ℕ
number_of decls object = option_map_or (λ d. count_by (has_kind_of d) (take object decls)) (slice_get decls object) 0

-- the object of a name, if it is declared
abbrev pub object_of : List Decl → List ℕ → Option ℕ
object_of decls name = position (λ d. bytes_eq (name_of d) name) decls

-- the name of an object
abbrev pub name_at : List Decl → ℕ → List ℕ
name_at decls object = option_map_or name_of (slice_get decls object) []

-- each declared name is well formed, and is found as that of its own object, so it is no other's
pub record AreNames (decls : List Decl) : Type 0 where
  pub formed : (object : ℕ) (d : Decl) → slice_get decls object ≡ Some d → is_name (name_of d) ≡ true
  pub distinct : (object : ℕ) (d : Decl) → slice_get decls object ≡ Some d → object_of decls (name_of d) ≡ Some object

-- whether an object is declared, and its declaration passes a test
abbrev pub is_at : (Decl → Bool) → List Decl → ℕ → Bool
is_at test decls object = option_map_or test (slice_get decls object) false

-- whether a name is that of an object whose declaration passes a test
abbrev pub names : (Decl → Bool) → List Decl → List ℕ → Bool
names test decls name = option_map_or (is_at test decls) (object_of decls name) false

-- how many bytes each message of what is declared has, if it has messages
abbrev pub size_of : Decl → Option ℕ
size_of (Msgq name size capacity raw) = Some size
size_of (Chan name message valid observers) = Some (length message)
size_of decl = None

-- how many bytes each message of an object has, if it is declared and has messages
abbrev pub size_at : List Decl → ℕ → Option ℕ
size_at decls object = option_and_then size_of (slice_get decls object)

-- a list of objects after one more declaration, which stands in it where it passes the list's test
abbrev pub with_object : (Decl → Bool) → Decl → ℕ → List ℕ → List ℕ
with_object test d object list = (if test d then list ++ object ∷ [] else list)

-- the tables say what the declarations say
pub record IsTabled (decls : List Decl) (lists : Lists) (numbers : List ℕ) (names : Names) : Type 0 where
  pub few : length decls < 2 ^ 32
  pub each_thread : lists.threads.items ≡ places is_thread decls
  pub each_queue : lists.queues.items ≡ places is_queue decls
  pub each_item : lists.items.items ≡ places is_item decls
  pub each_sem : lists.sems.items ≡ places is_sem decls
  pub each_msgq : lists.msgqs.items ≡ places is_msgq decls
  pub each_signal : lists.signals.items ≡ places is_signal decls
  pub each_chan : lists.chans.items ≡ places is_chan decls
  pub each_observer : lists.observers.items ≡ places is_observer decls
  pub long : length numbers ≡ length decls
  pub each_number : (object : ℕ) → unwrap_or (slice_get numbers object) 0 ≡ number_of decls object
  pub each_name : (name : List ℕ) → by_name names name ≡ object_of decls name
