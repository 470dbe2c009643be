use Rattle.std.specs.Prelude.{◌≡◌, ℕ, ◌^◌, ◌<◌, ◌==◌, ◌&&◌, ◌||◌, nat_lt, nat_le, Bool, true, Option, Some, None, List, [], ◌∷◌, length, option_map, option_and_then, decimal, if◌then◌else◌}
use Rattle.std.specs.Str.{bytes_eq}
use Rattle.zk_base.specs.declared.seen.Seen.{Seen}
use Rattle.zk_words.specs.Pieces.{words_of}
use Rattle.zk_words.specs.Text.{line_text}
use Rattle.zk_line.specs.declared.types.Decl.{Decl}
use Rattle.zk_line.specs.Objects.{is_item, name_at}
use Rattle.zk_scenario.specs.Players.{players}
use Rattle.zk_trace.specs.declared.looks.ItemLook.{ItemLook}
use Rattle.zk_trace.specs.declared.looks.SignalLook.{SignalLook}
use Rattle.zk_trace.specs.Fields.{named, both, two, three, said_behind, fronted, object_named, wide_of, narrow_of, short_of, flags_of, IsOf}
use Rattle.zk_trace.specs.Looks.{spot_word, look_word, busy_word, check_word, raised_word, stamp_front, stamp_word}
use Rattle.zk_trace.specs.Sides.{sides_row, pair, kept, said_by_sides}
use Rattle.zk_trace.specs.SpotRead.{step_of}
use Rattle.zk_trace.specs.Words.{flags_word}

-- a word that says nothing but that it is there
abbrev pub same_word : List ℕ → List ℕ → Option (Unit {0})
same_word this word = if bytes_eq word this then Some tt else None

-- whether a signal was raised
abbrev pub raised_of : List ℕ → Option Bool
raised_of word = named raised_word both word

-- after how many entries or writes it was so
abbrev pub stamp_of : (List ℕ → Option ℕ) → List ℕ → Option ℕ
stamp_of number_of word = fronted stamp_front number_of word

-- what a signal can have been: one that is clear has no result
abbrev pub can_be : Bool → ℕ → Bool
can_be raised value = raised || value == 0

-- a step of a player may stand behind another look's: neither the player nor, of the same, the step is an earlier one
abbrev pub may_stand : Option (ℕ × ℕ) → ℕ × ℕ → Bool
may_stand None step = true
may_stand (Some last) step = nat_lt last.0 step.0 || last.0 == step.0 && nat_le last.1 step.1

-- Looks at items.

-- the words before the sign: whose step it is, and at which item it looks
abbrev pub item_front : List Decl → (ℕ × ℕ) × ℕ → List (List ℕ)
item_front decls front = look_word ∷ spot_word decls front.0.0 front.0.1 ∷ busy_word ∷ name_at decls front.1 ∷ []

abbrev pub step_and_item : ℕ × ℕ → Unit {0} → ℕ → (ℕ × ℕ) × ℕ
step_and_item step busy item = (step, item)

abbrev pub item_front_of : List Decl → List (List ℕ) → Option ((ℕ × ℕ) × ℕ)
item_front_of decls words =
    said_behind look_word (three step_and_item (step_of decls) (same_word busy_word) (object_named is_item decls)) words

-- the words behind it: the busy flags, and how many entries there were
abbrev pub item_answer : ℕ × ℕ → List (List ℕ)
item_answer found = flags_word found.0 ∷ stamp_word found.1 ∷ []

abbrev pub item_answer_of : List (List ℕ) → Option (ℕ × ℕ)
item_answer_of words = two pair flags_of (stamp_of wide_of) words

-- a look at an item, and its line without the feed
abbrev pub item_look : (ℕ × ℕ) × ℕ → ℕ × ℕ → ItemLook
item_look front found =
    record { player = front.0.0; step = front.0.1; item = front.1; flags = found.0; at = found.1 }

abbrev pub item_look_row : List Decl → ItemLook → List ℕ
item_look_row decls look =
    sides_row (item_front decls ((look.player, look.step), look.item)) (line_text (item_answer (look.flags, look.at)))

-- the look that a line says
abbrev pub item_look_of : List Decl → List ℕ → Option ItemLook
item_look_of decls row =
    said_by_sides item_look (item_front_of decls) (λ front answer. item_answer_of (words_of answer)) row

-- its player and its item are declared, and its numbers fit their types
pub record IsItemLook (decls : List Decl) (look : ItemLook) : Type 0 where
  pub player : look.player < length (players decls)
  pub step : look.step < 2 ^ 32
  pub item : IsOf is_item decls look.item
  pub flags : look.flags < 32
  pub at : look.at < 2 ^ 64

-- it may stand behind the look before
abbrev pub item_step : ItemLook → ℕ × ℕ
item_step look = (look.player, look.step)

abbrev pub item_may_stand : Option ItemLook → ItemLook → Bool
item_may_stand last look = may_stand (option_map item_step last) (item_step look)

-- the look that a line says behind the look before
abbrev pub says_item_look : List Decl → Option ItemLook → List ℕ → Option ItemLook
says_item_look decls last row = option_and_then (kept (item_may_stand last)) (item_look_of decls row)

abbrev pub FitsItemLook : List Decl → Option ItemLook → ItemLook → Type 0
FitsItemLook decls last look = (item_may_stand last look ≡ true) × IsItemLook decls look

-- Looks at signals.

-- the words before the sign: whose step it is
abbrev pub signal_front : List Decl → ℕ × ℕ → List (List ℕ)
signal_front decls step = look_word ∷ spot_word decls step.0 step.1 ∷ check_word ∷ []

abbrev pub step_alone : ℕ × ℕ → Unit {0} → ℕ × ℕ
step_alone step check = step

abbrev pub signal_front_of : List Decl → List (List ℕ) → Option (ℕ × ℕ)
signal_front_of decls words =
    said_behind look_word (two step_alone (step_of decls) (same_word check_word)) words

-- the words behind it: what the signal was, and how many writes there were
abbrev pub signal_answer : Seen → List (List ℕ)
signal_answer found = raised_word found.raised ∷ decimal found.result ∷ stamp_word found.stamp ∷ []

abbrev pub seen_at : Bool → ℕ → ℕ → Seen
seen_at raised value stamp = record { raised = raised; result = value; stamp = stamp }

abbrev pub can_be_seen : Seen → Bool
can_be_seen found = can_be found.raised found.result

abbrev pub signal_answer_of : List (List ℕ) → Option Seen
signal_answer_of words =
    option_and_then (kept can_be_seen) (three seen_at raised_of short_of (stamp_of narrow_of) words)

-- what was seen of a signal can have been, and its numbers fit their types
pub record IsSeen (found : Seen) : Type 0 where
  pub can_be : can_be_seen found ≡ true
  pub result : found.result < 2 ^ 16
  pub stamp : found.stamp < 2 ^ 32

-- a look at a signal, and its line without the feed
abbrev pub signal_look : ℕ × ℕ → Seen → SignalLook
signal_look step found = record { player = step.0; step = step.1; seen = found }

abbrev pub signal_look_row : List Decl → SignalLook → List ℕ
signal_look_row decls look =
    sides_row (signal_front decls (look.player, look.step)) (line_text (signal_answer look.seen))

-- the look that a line says
abbrev pub signal_look_of : List Decl → List ℕ → Option SignalLook
signal_look_of decls row =
    said_by_sides signal_look (signal_front_of decls) (λ step answer. signal_answer_of (words_of answer)) row

-- its player is declared, and its numbers fit their types
pub record IsSignalLook (decls : List Decl) (look : SignalLook) : Type 0 where
  pub player : look.player < length (players decls)
  pub step : look.step < 2 ^ 32
  pub seen : IsSeen look.seen

-- it may stand behind the look before
abbrev pub signal_step : SignalLook → ℕ × ℕ
signal_step look = (look.player, look.step)

abbrev pub signal_may_stand : Option SignalLook → SignalLook → Bool
signal_may_stand last look = may_stand (option_map signal_step last) (signal_step look)

-- the look that a line says behind the look before
abbrev pub says_signal_look : List Decl → Option SignalLook → List ℕ → Option SignalLook
says_signal_look decls last row = option_and_then (kept (signal_may_stand last)) (signal_look_of decls row)

abbrev pub FitsSignalLook : List Decl → Option SignalLook → SignalLook → Type 0
FitsSignalLook decls last look = (signal_may_stand last look ≡ true) × IsSignalLook decls look
