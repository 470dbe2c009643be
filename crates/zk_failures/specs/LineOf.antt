-- Inner: no contract of a top call is made of this file.
use Rattle.std.specs.Prelude.{◌≡◌, ℕ, ◌+◌, Option, Some, List, [], ◌∷◌, ◌++◌, length, map, option_map, option_and_then, slice_get}
use Rattle.std.specs.List.{flat_map}
use Rattle.zk_base.specs.declared.ids.Entry.{Entry}
use Rattle.zk_line.specs.declared.types.Decl.{Decl}
use Rattle.zk_model_wait.specs.declared.signal.SignalOp.{SignalOp}
use Rattle.zk_model_wait.specs.declared.signal.SignalReply.{SignalReply}
use Rattle.zk_scenario.specs.Content.{Content}
use Rattle.zk_scenario.specs.Spelling.{text_of}
use Rattle.zk_trace.specs.declared.format.Format.{Format}
use Rattle.zk_trace.specs.declared.looks.SignalLook.{SignalLook}
use Rattle.zk_trace.specs.declared.trace.Trace.{Trace}
use Rattle.zk_trace.specs.AnswerRead.{answered_row}
use Rattle.zk_trace.specs.EntryKinds.{work_row, clock_row, table_row, sem_row, msgq_row, signal_row, chan_row, obs_row}
use Rattle.zk_trace.specs.Feeds.{lines_in}
use Rattle.zk_trace.specs.LookRead.{item_look_row, signal_look_row}
use Rattle.zk_trace.specs.Names.{player_name}
use Rattle.zk_trace.specs.Text.{player_row, trace_text}
use Rattle.zk_trace.specs.Words.{ending_word}
use Rattle.zk_failures.specs.declared.site.Site.{Site}
use Rattle.zk_failures.specs.declared.site.Site.TheVariants.{Ending, Row, Player, Answer}
use Rattle.zk_failures.specs.Lines.{trace_line}

-- the lines of the signals: of each the writes, and then the looks
abbrev pub signal_texts : List Decl → List (List (Entry SignalOp SignalReply)) → List (List SignalLook) → List (List ℕ)
signal_texts decls [] looks = []
signal_texts decls (h ∷ hs) [] = map (signal_row decls) h ++ signal_texts decls hs []
signal_texts decls (h ∷ hs) (l ∷ ls) = map (signal_row decls) h ++ map (signal_look_row decls) l ++ signal_texts decls hs ls

-- the lines of all entries and looks, in the order of the text, without their feeds
abbrev pub texts_of : List Decl → Trace → List (List ℕ)
texts_of decls t =
    map (work_row decls) t.work ++ map (item_look_row decls) t.looks.items
    ++ map (clock_row decls) t.clock ++ map (table_row decls) t.table
    ++ flat_map (map (sem_row decls)) t.sems ++ flat_map (map (msgq_row decls)) t.msgqs
    ++ signal_texts decls t.signals t.looks.signals
    ++ flat_map (map (chan_row decls)) t.chans ++ flat_map (map (obs_row decls)) t.observers

-- the line of what stands somewhere, if anything does, without its feed
abbrev pub text_at : Format → List Decl → Trace → Site → Option (List ℕ)
text_at f decls t Ending = Some (ending_word t.ending)
text_at f decls t (Row place) = slice_get (texts_of decls t) place
text_at f decls t (Player player) =
    option_map (λ log. player_row f (player_name decls player) log.state (length log.answers)) (slice_get t.logs player)
text_at f decls t (Answer player place) =
    option_and_then (λ log. option_map (answered_row decls) (slice_get log.answers place)) (slice_get t.logs player)

-- in the scenario's text followed by the trace's in a format, the line of this number is that of what stands there
abbrev pub IsItsLine : Format → Content → Trace → Site → Type 0
IsItsLine f s t site =
    (text : List ℕ) → text_at f s.decls t site ≡ Some text →
    slice_get (lines_in (text_of s ++ trace_text f s t)) (length (lines_in (text_of s)) + trace_line t site) ≡ Some text
