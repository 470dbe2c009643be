use Rattle.std.specs.Prelude.{ℕ, zero, suc, ◌+◌, ◌-◌, Bool, List, [], ◌∷◌, ◌++◌, replicate, get_or, codes, if◌then◌else◌}
use Rattle.std.specs.List.{flat_map}
use Rattle.zk_line.specs.declared.types.Decl.{Decl}
use Rattle.zk_line.specs.Objects.{name_at}
use Rattle.zk_scenario.specs.Players.{players}
use Rattle.zk_show_text.specs.declared.layout.Layout.{Layout}
use Rattle.zk_show_text.specs.Layout.{longest}
use Rattle.zk_show_text.specs.Line.{fitted, cut, line}

-- what is said where no order agrees
abbrev pub no_order : List ℕ
no_order = codes "No order agrees with each service and each player: the services stand one behind the other.\n"

-- what is said of the order
abbrev pub order_note : Bool → List ℕ
order_note agrees = if agrees then [] else no_order

-- what the marks mean
abbrev pub legend : Bool → List ℕ
legend columns =
    if columns then codes "| a run or a script, : a wait\n\n"
    else codes "* a step, | a run or a script, : a wait\n\n"

-- a name over its column
abbrev pub name_cell : ℕ → List ℕ → List ℕ
name_cell size name = 32 ∷ fitted (size - 1) name

-- the letter of a name at a place, over its lane
abbrev pub letter_cell : ℕ → ℕ → List ℕ → List ℕ
letter_cell size place name = get_or name place 32 ∷ replicate (size - 1) 32

-- the names of the players over their columns
abbrev pub names_line : List Decl → Layout → List ℕ
names_line decls l = line (replicate l.gutter 32 ++ flat_map (λ object. name_cell l.width (name_at decls object)) (players decls))

-- the letters of the names at a place, over their lanes
abbrev pub letters_line : List Decl → ℕ → ℕ → List ℕ
letters_line decls size place = line (flat_map (λ object. letter_cell size place (name_at decls object)) (players decls))

-- the lines of letters at so many places from one on
abbrev pub letters_from : List Decl → ℕ → ℕ → ℕ → List ℕ
letters_from decls size place zero = []
letters_from decls size place (suc places) = letters_line decls size place ++ letters_from decls size (place + 1) places

-- the names over the lanes: beside each other over columns, and else from the first letter down
abbrev pub names_text : List Decl → Layout → List ℕ
names_text decls l =
    if l.columns then names_line decls l else letters_from decls l.width 0 (longest (name_at decls) (players decls))

-- what stands above the rows
abbrev pub header : List Decl → Layout → Bool → List ℕ
header decls l agrees = order_note agrees ++ legend l.columns ++ names_text decls l
