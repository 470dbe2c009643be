use Rattle.std.specs.Prelude.{ℕ, ◌+◌, List, [], ◌∷◌, ◌++◌, length, slice_get, codes, decimal}
use Rattle.std.specs.List.{flat_map}
use Rattle.std.specs.Option.{option_map_or}
use Rattle.zk_base.specs.declared.ids.Entry.{Entry}
use Rattle.zk_words.specs.Text.{line_text}
use Rattle.zk_line.specs.declared.types.Decl.{Decl}
use Rattle.zk_line.specs.Objects.{name_at}
use Rattle.zk_scenario.specs.Content.{Content}
use Rattle.zk_worker.specs.declared.answers.Answered.{Answered}
use Rattle.zk_worker.specs.declared.log.Log.{Log}
use Rattle.zk_worker.specs.declared.log.PlayerState.{PlayerState}
use Rattle.zk_trace.specs.declared.format.Format.{Format}
use Rattle.zk_trace.specs.declared.format.Format.TheVariants.{One, Two}
use Rattle.zk_trace.specs.declared.trace.Trace.{Trace}
use Rattle.zk_trace.specs.Looks.{spot_word, item_look_line, signal_look_line}
use Rattle.zk_trace.specs.Names.{player_name}
use Rattle.zk_trace.specs.Words.{ending_word, call_word, state_word}
use Rattle.zk_trace.specs.Parts.{part_word, answer_part}
use Rattle.zk_trace.specs.Work as work
use Rattle.zk_trace.specs.Clock as clock
use Rattle.zk_trace.specs.Table as table
use Rattle.zk_trace.specs.Sem as sem
use Rattle.zk_trace.specs.Msgq as msgq
use Rattle.zk_trace.specs.Signal as signal
use Rattle.zk_trace.specs.Chan as chan
use Rattle.zk_trace.specs.Obs as obs

-- one line: its words and a line feed
abbrev pub line : List (List ℕ) → List ℕ
line words = line_text words ++ codes "\n"

-- the head of a service's section, without and with its line feed: in format 2 it tells how many entries and looks there are
abbrev pub service_word : List ℕ
service_word = codes "service"

abbrev pub head_row : Format → List ℕ → ℕ → ℕ → List ℕ
head_row One name entries looks = line_text (service_word ∷ name ∷ [])
head_row Two name entries looks = line_text (service_word ∷ name ∷ decimal entries ∷ decimal looks ∷ [])

abbrev pub section_head : Format → List ℕ → ℕ → ℕ → List ℕ
section_head f name entries looks = head_row f name entries looks ++ codes "\n"

-- the lines of a service, whose operations and replies have these words
module _ {O R : Type 0} (op_words : List Decl → O → List (List ℕ))
    (reply_words : List Decl → R → List (List ℕ)) (decls : List Decl) where
  -- an entry: who did it as which step, what was asked, and what was answered
  abbrev pub entry_line : Entry O R → List ℕ
  entry_line e =
      line (spot_word decls e.who.number e.step ∷ op_words decls e.op
      ++ codes "=" ∷ reply_words decls e.reply)

  -- the section of a service, where it did anything
  abbrev pub service_section : Format → List ℕ → List (Entry O R) → List ℕ
  service_section f name [] = []
  service_section f name (e ∷ es) = section_head f name (length (e ∷ es)) 0 ++ flat_map entry_line (e ∷ es)

  -- the section of an object, under its name, where it did anything
  abbrev pub object_section : Format → ℕ → List (Entry O R) → List ℕ
  object_section f object h = service_section f (name_at decls object) h

  -- the sections of the objects of a kind from one number on
  abbrev pub object_sections : Format → ℕ → List (List (Entry O R)) → List ℕ
  object_sections f object [] = []
  object_sections f object (h ∷ hs) = object_section f object h ++ object_sections f (object + 1) hs

-- the looks at the object of a number
abbrev pub looks_at : {L : Type 0} → List (List L) → ℕ → List L
looks_at all object = option_map_or (λ looks. looks) (slice_get all object) []

-- the lines of a service that is looked at
module _ {O R L : Type 0} (op_words : List Decl → O → List (List ℕ)) (reply_words : List Decl → R → List (List ℕ))
    (look_line : List Decl → L → List ℕ) (decls : List Decl) where
  -- its entries, and then the looks
  abbrev pub looked_lines : List (Entry O R) → List L → List ℕ
  looked_lines h looks = flat_map (entry_line op_words reply_words decls) h ++ flat_map (look_line decls) looks

  -- its section, where it did anything or was looked at
  abbrev pub looked_section : Format → List ℕ → List (Entry O R) → List L → List ℕ
  looked_section f name [] [] = []
  looked_section f name [] (l ∷ ls) = section_head f name 0 (length (l ∷ ls)) ++ looked_lines [] (l ∷ ls)
  looked_section f name (e ∷ es) looks =
      section_head f name (length (e ∷ es)) (length looks) ++ looked_lines (e ∷ es) looks

  -- the section of an object, under its name
  abbrev pub looked_object : Format → List (List L) → ℕ → List (Entry O R) → List ℕ
  looked_object f looks object h = looked_section f (name_at decls object) h (looks_at looks object)

  -- the sections of the objects of a kind from one number on
  abbrev pub looked_sections : Format → List (List L) → ℕ → List (List (Entry O R)) → List ℕ
  looked_sections f looks object [] = []
  looked_sections f looks object (h ∷ hs) =
      looked_object f looks object h ++ looked_sections f looks (object + 1) hs

-- an answered call: the number of its last step, its word and its answer
abbrev pub answer_line : List Decl → Answered → List ℕ
answer_line decls a =
    line (decimal a.step ∷ call_word a.word ∷ codes "="
    ∷ part_word decls (answer_part a.answer) ∷ [])

-- the head of a player's section, without and with its line feed: in format 2 it tells how many answers there are
abbrev pub player_word : List ℕ
player_word = codes "player"

abbrev pub player_row : Format → List ℕ → PlayerState → ℕ → List ℕ
player_row One name state answers = line_text (player_word ∷ name ∷ state_word state ∷ [])
player_row Two name state answers = line_text (player_word ∷ name ∷ state_word state ∷ decimal answers ∷ [])

abbrev pub player_head : Format → List ℕ → PlayerState → ℕ → List ℕ
player_head f name state answers = player_row f name state answers ++ codes "\n"

-- the section of a player
abbrev pub player_section : Format → List Decl → ℕ → Log → List ℕ
player_section f decls player log =
    player_head f (player_name decls player) log.state (length log.answers) ++ flat_map (answer_line decls) log.answers

-- the sections of the players from one number on
abbrev pub player_sections : Format → List Decl → ℕ → List Log → List ℕ
player_sections f decls player [] = []
player_sections f decls player (log ∷ logs) =
    player_section f decls player log ++ player_sections f decls (player + 1) logs

-- the names of the services of which there is one
abbrev pub work_name : List ℕ
work_name = codes "work"

abbrev pub clock_name : List ℕ
clock_name = codes "clock"

abbrev pub table_name : List ℕ
table_name = codes "table"

-- the sections of the services of which there is one: of the work service, the clock and the object table
abbrev pub single_sections : Format → Content → Trace → List ℕ
single_sections f s t =
    looked_section work.op_words work.reply_words item_look_line s.decls f work_name t.work t.looks.items
    ++ service_section clock.op_words clock.reply_words s.decls f clock_name t.clock
    ++ service_section table.op_words table.reply_words s.decls f table_name t.table

-- the sections of the services: of those of which there is one, of the semaphores, the message queues, the signals, the
-- channels and the observers
abbrev pub service_sections : Format → Content → Trace → List ℕ
service_sections f s t =
    single_sections f s t
    ++ object_sections sem.op_words sem.reply_words s.decls f 0 t.sems
    ++ object_sections msgq.op_words msgq.reply_words s.decls f 0 t.msgqs
    ++ looked_sections signal.op_words signal.reply_words signal_look_line s.decls f t.looks.signals 0 t.signals
    ++ object_sections chan.op_words chan.reply_words s.decls f 0 t.chans
    ++ object_sections obs.op_words obs.reply_words s.decls f 0 t.observers

-- the first line of the trace part, without its line feed
abbrev pub first_row : Format → List ℕ
first_row One = line_text (codes "zt" ∷ codes "1" ∷ [])
first_row Two = line_text (codes "zt" ∷ codes "2" ∷ [])

-- the trace part of the output: its head, the ending, the services and the players. Its first line, the heads of services and
-- those of players differ by format, and nothing else
abbrev pub trace_text : Format → Content → Trace → List ℕ
trace_text f s t =
    (first_row f ++ codes "\n") ++ line (ending_word t.ending ∷ [])
    ++ service_sections f s t ++ player_sections f s.decls 0 t.logs
