use Rattle.std.specs.Prelude.{ℕ, ◌+◌, ◌-◌, List, [], ◌∷◌, ◌++◌, replicate, slice_set, codes, if◌then◌else◌}
use Rattle.std.specs.List.{flat_map}
use Rattle.zk_line.specs.declared.types.Decl.{Decl}
use Rattle.zk_trace.specs.Names.{player_name}
use Rattle.zk_show_chart.specs.declared.chart.Bar.{Bar}
use Rattle.zk_show_chart.specs.declared.chart.Row.{Row}
use Rattle.zk_show_text.specs.declared.layout.Layout.{Layout}
use Rattle.zk_show_text.specs.Layout.{words_place}
use Rattle.zk_show_text.specs.Line.{width, fitted, laid, line}
use Rattle.zk_show_text.specs.Marks.{open_at, marks_from}
use Rattle.zk_show_text.specs.Words.{words_of}

-- a lane of a row: its mark, and spaces
abbrev pub lane_text : ℕ → ℕ → List ℕ
lane_text size mark = mark ∷ replicate (size - 1) 32

-- the lanes of a row with these bars; without columns a star stands in that of the player
abbrev pub lane_marks : Layout → List Bar → Row → List ℕ
lane_marks l bars row =
    if l.columns then marks_from bars 0 l.lanes else slice_set (marks_from bars 0 l.lanes) row.player 42

-- a row but for what the player did: in columns with the service at its front
abbrev pub background : Layout → List Bar → Row → List ℕ
background l bars row =
    fitted width ((if l.columns then fitted l.gutter row.service.now else []) ++
    flat_map (lane_text l.width) (lane_marks l bars row))

-- what the player did, where the lanes have no columns with its name and the service
abbrev pub row_words : List Decl → Layout → Row → List ℕ
row_words decls l row =
    if l.columns then words_of row.text.now
    else player_name decls row.player ++ codes " " ++ row.service.now ++ codes ": " ++ words_of row.text.now

-- the line of a row through which these bars go
abbrev pub row_line : List Decl → Layout → List Bar → Row → List ℕ
row_line decls l bars row = line (laid (words_place l row.player) (row_words decls l row) (background l bars row))

-- the lines of rows from one on, one each
abbrev pub row_lines : List Decl → Layout → List Bar → ℕ → List Row → List ℕ
row_lines decls l bars n [] = []
row_lines decls l bars n (row ∷ rows) = row_line decls l (open_at n bars) row ++ row_lines decls l bars (n + 1) rows
