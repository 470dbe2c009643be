use Rattle.std.specs.Prelude.{ℕ, ◌+◌, ◌-◌, nat_lt, ◌==◌, if◌then◌else◌, List, [], ◌∷◌, ◌++◌, length, map, take}
use Rattle.std.specs.List.{sum_by}
use Rattle.zk_scenario.specs.Content.{Content}
use Rattle.zk_scenario.specs.Spelling.{text_of}
use Rattle.zk_trace.specs.declared.trace.Trace.{Trace}
use Rattle.zk_trace.specs.Feeds.{lines_in}
use Rattle.zk_trace.specs.TraceRead.{line_number}
use Rattle.zk_failures.specs.declared.site.Site.{Site}
use Rattle.zk_failures.specs.declared.site.Site.TheVariants.{Ending, Row, Player, Answer}

-- how many rows each section of signals has: the writes and the looks
abbrev pub both_lengths : {A B : Type 0} → List (List A) → List (List B) → List ℕ
both_lengths [] looks = []
both_lengths {A} {B} (h ∷ hs) [] = length h ∷ both_lengths {B = B} hs []
both_lengths (h ∷ hs) (l ∷ ls) = (length h + length l) ∷ both_lengths hs ls

-- how many rows each section has, in the order of the text; one without rows doesn't stand there
abbrev pub section_lengths : Trace → List ℕ
section_lengths t =
    ((length t.work + length t.looks.items) ∷ length t.clock ∷ length t.table ∷ [])
    ++ map length t.sems ++ map length t.msgqs ++ both_lengths t.signals t.looks.signals
    ++ map length t.chans ++ map length t.observers

-- how many lines a section of so many rows has: a head and the rows, or none
abbrev pub lines_of_section : ℕ → ℕ
lines_of_section rows = if rows == 0 then 0 else 1 + rows

-- the place of a row, from 0, among the lines of such sections
abbrev pub row_line : List ℕ → ℕ → ℕ
row_line [] row = row
row_line (rows ∷ more) row =
    if nat_lt row rows then 1 + row else lines_of_section rows + row_line more (row - rows)

-- the place of a player's head, from 0, among the lines of a trace
abbrev pub player_line : Trace → ℕ → ℕ
player_line t player =
    2 + sum_by lines_of_section (section_lengths t) + sum_by (λ log. 1 + length log.answers) (take player t.logs)

-- the place of what stands somewhere, from 0, among the lines of a trace
abbrev pub trace_line : Trace → Site → ℕ
trace_line t Ending = 1
trace_line t (Row row) = 2 + row_line (section_lengths t) row
trace_line t (Player player) = player_line t player
trace_line t (Answer player place) = player_line t player + 1 + place

-- the number of its line, from 1, in the scenario's text followed by the trace's
abbrev pub line_at : Content → Trace → Site → ℕ
line_at s t site = line_number (1 + length (lines_in (text_of s))) (trace_line t site)
