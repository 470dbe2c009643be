-- A run as one value in JSON.
use Rattle.std.specs.Prelude.{ℕ, ◌+◌, ◌-◌, ◌==◌, Option, Some, None, List, [], ◌∷◌, ◌++◌, length, take, map, get_or, codes, decimal, if◌then◌else◌}
use Rattle.zk_words.specs.Bytes.{line_feed}
use Rattle.zk_words.specs.Pieces.{pieces_between}
use Rattle.zk_line.specs.declared.types.Decl.{Decl}
use Rattle.zk_line.specs.Objects.{name_at}
use Rattle.zk_scenario.specs.Players.{players}
use Rattle.zk_worker.specs.declared.answers.Answered.{Answered}
use Rattle.zk_worker.specs.declared.log.Log.{Log}
use Rattle.zk_trace.specs.Parts.{part_word, answer_part}
use Rattle.zk_trace.specs.Words.{ending_word, truth_word, call_word}
use Rattle.zk_show_chart.specs.declared.chart.Arrow.{Arrow}
use Rattle.zk_show_chart.specs.declared.chart.ArrowKind.{ArrowKind}
use Rattle.zk_show_chart.specs.declared.chart.ArrowKind.TheVariants.{Admission, Give, Message, Visit, Completion, Note, Raise, Handover, Wake, Delay, Drop}
use Rattle.zk_show_chart.specs.declared.chart.Bar.{Bar}
use Rattle.zk_show_chart.specs.declared.chart.BarKind.{BarKind}
use Rattle.zk_show_chart.specs.declared.chart.BarKind.TheVariants.{Run, Script, Wait}
use Rattle.zk_show_chart.specs.declared.chart.Chart.{Chart}
use Rattle.zk_show_chart.specs.declared.chart.Row.{Row}
use Rattle.zk_show_chart.specs.declared.chart.Tick.{Tick}
use Rattle.zk_show_json.specs.Arrays.{array}
use Rattle.zk_show_json.specs.Escapes.{quoted}

-- a player, by the object whose name it has: a thread by its own, a worker by its queue's
abbrev pub player_value : List Decl → ℕ → List ℕ
player_value decls object = quoted (name_at decls object)

-- a step: whose it is, the how manyth of its player's, and the number of its line
unfoldable pub row_place : Row → List ℕ
row_place row =
    codes "{\"player\":" ++ decimal row.player ++ codes ",\"step\":" ++ decimal row.step ++ codes ",\"line\":" ++ decimal row.line

-- its service, and its line
unfoldable pub row_words : Row → List ℕ
row_words row = codes ",\"service\":" ++ quoted row.service.now ++ codes ",\"text\":" ++ quoted row.text.now ++ codes "}"

abbrev pub row_value : Row → List ℕ
row_value row = row_place row ++ row_words row

-- what a bar is
abbrev pub bar_word : BarKind → List ℕ
bar_word Run = codes "\"run\""
bar_word Script = codes "\"script\""
bar_word Wait = codes "\"wait\""

-- the row in which it ends, if it does
abbrev pub last_value : Option ℕ → List ℕ
last_value None = codes "null"
last_value (Some last) = decimal last

-- a bar: whose lane it lies in, what it is, in how many others it lies, and where it begins and ends
unfoldable pub bar_value : Bar → List ℕ
bar_value bar =
    codes "{\"player\":" ++ decimal bar.player ++ codes ",\"kind\":" ++ bar_word bar.kind ++ codes ",\"depth\":" ++ decimal bar.depth
    ++ codes ",\"first\":" ++ decimal bar.first ++ codes ",\"last\":" ++ last_value bar.last ++ codes "}"

-- what an arrow is
abbrev pub arrow_word : ArrowKind → List ℕ
arrow_word Admission = codes "\"admission\""
arrow_word Give = codes "\"give\""
arrow_word Message = codes "\"message\""
arrow_word Visit = codes "\"visit\""
arrow_word Completion = codes "\"completion\""
arrow_word Note = codes "\"note\""
arrow_word Raise = codes "\"raise\""
arrow_word Handover = codes "\"handover\""
arrow_word Wake = codes "\"wake\""
arrow_word Delay = codes "\"delay\""
arrow_word Drop = codes "\"drop\""

-- an arrow: what it is, and from which row to which it leads
unfoldable pub arrow_value : Arrow → List ℕ
arrow_value arrow =
    codes "{\"kind\":" ++ arrow_word arrow.kind ++ codes ",\"from\":" ++ decimal arrow.from ++ codes ",\"to\":" ++ decimal arrow.to
    ++ codes "}"

-- a step that tells the time: its row, and the time
unfoldable pub tick_value : Tick → List ℕ
tick_value tick = codes "{\"row\":" ++ decimal tick.row ++ codes ",\"time\":" ++ decimal tick.time ++ codes "}"

-- an answered call of a player
abbrev pub by_player : ℕ → Answered → ℕ × Answered
by_player player a = (player, a)

-- the answered calls of all players from one number on
abbrev pub answered : ℕ → List Log → List (ℕ × Answered)
answered player [] = []
answered player (log ∷ logs) = map (by_player player) log.answers ++ answered (player + 1) logs

-- an answered call: whose it is, the number of its last step, its word, and its answer in the words of the trace
unfoldable pub answer_value : List Decl → ℕ × Answered → List ℕ
answer_value decls a =
    codes "{\"player\":" ++ decimal a.0 ++ codes ",\"step\":" ++ decimal a.1.step ++ codes ",\"word\":" ++ quoted (call_word a.1.word)
    ++ codes ",\"answer\":" ++ quoted (part_word decls (answer_part a.1.answer)) ++ codes "}"

-- a text without the line feed at its end
abbrev pub without_feed : List ℕ → List ℕ
without_feed text = if get_or text (length text - 1) 0 == line_feed then take (length text - 1) text else text

-- its lines
abbrev pub told_lines : List ℕ → List (List ℕ)
told_lines text = pieces_between line_feed (without_feed text)

-- how the run ended, whether its rows stand in an order that agrees with all, and its players
unfoldable pub headed : List Decl → Chart → List ℕ
headed decls chart =
    codes "{\"ending\":\"" ++ ending_word chart.ending ++ codes "\",\"agrees\":" ++ truth_word chart.agrees
    ++ codes ",\"players\":" ++ array (player_value decls) (players decls)

-- its rows, bars, arrows and moments, each in order
unfoldable pub charted : Chart → List ℕ
charted chart =
    codes ",\"rows\":" ++ array row_value chart.rows.items ++ codes ",\"bars\":" ++ array bar_value chart.bars.items
    ++ codes ",\"arrows\":" ++ array arrow_value chart.arrows.items
    ++ codes ",\"ticks\":" ++ array tick_value chart.ticks.items

-- what was answered, player after player, what is told of how it ended, and the text of its scenario
unfoldable pub ended : List Decl → List Log → List ℕ → List ℕ → List ℕ
ended decls logs told source =
    codes ",\"answers\":" ++ array (answer_value decls) (answered 0 logs) ++ codes ",\"told\":" ++ array quoted (told_lines told)
    ++ codes ",\"scenario\":" ++ quoted source ++ codes "}\n"

-- the whole value, on a line of its own
unfoldable pub json_text : List Decl → List Log → Chart → List ℕ → List ℕ → List ℕ
json_text decls logs chart told source = headed decls chart ++ charted chart ++ ended decls logs told source
