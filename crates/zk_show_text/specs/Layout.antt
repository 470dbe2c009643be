use Rattle.std.specs.Prelude.{ℕ, ◌+◌, ◌-◌, ◌*◌, ◌/◌, ◌^◌, ◌<◌, ◌≤◌, nat_le, max, min, Bool, true, false, List, [], ◌∷◌, length, if◌then◌else◌}
use Rattle.zk_line.specs.declared.types.Decl.{Decl}
use Rattle.zk_line.specs.Objects.{name_at}
use Rattle.zk_scenario.specs.Players.{players}
use Rattle.zk_show_chart.specs.declared.chart.Row.{Row}
use Rattle.zk_show_text.specs.declared.layout.Layout.{Layout}
use Rattle.zk_show_text.specs.Line.{width}
use Rattle.zk_show_text.specs.Words.{words_of}

-- the length of the longest of some texts
abbrev pub longest : {X : Type 0} → (X → List ℕ) → List X → ℕ
longest text [] = 0
longest text (x ∷ xs) = max (length (text x)) (longest text xs)

-- the length of the longest of the players' names and of what they did
abbrev pub longest_cell : List Decl → List Row → ℕ
longest_cell decls rows = max (longest (name_at decls) (players decls)) (longest (λ r. words_of r.text.now) rows)

-- the widest column that is wanted: for them, the mark and a space
abbrev pub wanted : List Decl → List Row → ℕ
wanted decls rows = min width (longest_cell decls rows) + 2

-- the place of the first column: behind the names of the services and a space
abbrev pub gutter : List Row → ℕ
gutter rows = min (width - 1) (longest (λ r. r.service.now) rows) + 1

-- the widest column that so many lanes can have behind a place
abbrev pub share : ℕ → ℕ → ℕ
share lanes front = (width - front) / max lanes 1

-- columns of one width
abbrev pub columns_of : ℕ → ℕ → ℕ → Layout
columns_of lanes front most = record { lanes = lanes; gutter = front; width = min most (share lanes front); columns = true }

-- marks alone, with a space between two where they are few
abbrev pub marks_alone : ℕ → Layout
marks_alone lanes = record { lanes = lanes; gutter = 0; width = (if nat_le lanes 20 then 2 else 1); columns = false }

-- columns, unless those are too narrow for a name
abbrev pub layout_for : ℕ → ℕ → ℕ → Layout
layout_for lanes front most = if nat_le (min most 18) (share lanes front) then columns_of lanes front most else marks_alone lanes

-- where the lanes stand
abbrev pub layout_of : List Decl → List Row → Layout
layout_of decls rows = layout_for (length (players decls)) (gutter rows) (wanted decls rows)

-- a layout has as many lanes as there may be players, and no column is wider than a line
pub record IsSmall (l : Layout) : Type 0 where
  pub few : l.lanes < 2 ^ 32
  pub front : l.gutter ≤ width
  pub narrow : l.width ≤ width

-- the place of what the player of a lane did
abbrev pub words_place : Layout → ℕ → ℕ
words_place l lane = min width (if l.columns then l.gutter + lane * l.width + 1 else l.lanes * l.width + 1)
