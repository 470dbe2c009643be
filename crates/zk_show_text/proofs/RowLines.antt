-- How long a row is, and the lines of rows as they go on.
use Rattle.std.proofs.Common.{◌≡◌, ℕ, ◌+◌, ◌*◌, ◌<◌, ◌≤◌, suc, Some, List, [], ◌∷◌, ◌++◌, length, drop, get_or, slice_get, sym, ◌∙◌, ap, append_assoc, arith}
use Rattle.std.proofs.Math.Nat.{min-le_left}
use Rattle.std.proofs.Math.Seq.{drop-cons}
use Rattle.std.proofs.lemmas.Option.{slice_get_within, get_or_from_slice_get, slice_get-get_or}
use Rattle.std.specs.Bool.{if◌then◌else◌}
use Rattle.std.specs.List.{flat_map}
use Rattle.zk_line.specs.declared.types.Decl.{Decl}
use Rattle.zk_show_chart.specs.declared.chart.Bar.{Bar}
use Rattle.zk_show_chart.specs.declared.chart.Row.{Row}
use Rattle.zk_show_text.specs.declared.layout.Layout.{Layout}
use Rattle.zk_show_text.specs.Layout.{words_place}
use Rattle.zk_show_text.specs.Line.{width, fitted, laid}
use Rattle.zk_show_text.specs.Marks.{open_at}
use Rattle.zk_show_text.specs.Rows.{lane_text, lane_marks, background, row_words, row_line, row_lines}
use Rattle.zk_show_text.proofs.Lines.{length-fitted, length-laid, length-line}

pub length-background : (l : Layout) (bars : List Bar) (row : Row) → length (background l bars row) ≡ width
length-background l bars row =
    length-fitted width ((if l.columns then fitted l.gutter row.service.now else []) ++ flat_map (lane_text l.width) (lane_marks l bars row))

-- the lines so far and those that are left, a row further
pub lines_on : (decls : List Decl) (l : Layout) (bars through : List Bar) (number : ℕ) (rows : List Row) (row : Row) (old out new : List ℕ)
    → slice_get rows number ≡ Some row → through ≡ open_at number bars → out ≡ old ++ row_line decls l through row
    → old ++ row_lines decls l bars number (drop number rows) ≡ new
    → out ++ row_lines decls l bars (number + 1) (drop (number + 1) rows) ≡ new
lines_on decls l bars through number rows row old out new there isthrough isout before =
    let rest : List Row = drop (number + 1) rows in
    let within : number < length rows = slice_get_within rows number row there in
    let next : suc number ≡ number + 1 = omega arith in
    let left : drop number rows ≡ row ∷ rest =
    drop-cons rows number row within
    ∙ ap (λ r. r ∷ drop (suc number) rows) (get_or_from_slice_get rows number row row there)
    ∙ ap (λ n. row ∷ drop n rows) next in
    ap (λ text. text ++ row_lines decls l bars (number + 1) rest) (isout ∙ ap (λ bs. old ++ row_line decls l bs row) isthrough)
    ∙ append_assoc old (row_line decls l (open_at number bars) row) (row_lines decls l bars (number + 1) rest)
    ∙ ap (λ rs. old ++ row_lines decls l bars number rs) (sym left)
    ∙ before

-- there is a row of each number
pub row_there : (rows : List Row) (number : ℕ) → number < length rows → (row : Row) × (slice_get rows number ≡ Some row)
row_there [] number within = absurd (omega arith)
row_there (row ∷ rows) number within = (get_or (row ∷ rows) number row, slice_get-get_or (row ∷ rows) number row within)

-- no line of a row has more characters than a line has room for, beside its line feed
pub row-fits : (decls : List Decl) (l : Layout) (bars : List Bar) (row : Row) → length (row_line decls l bars row) ≤ width + 1
row-fits decls l bars row =
    let at : ℕ = words_place l row.player in
    let old : List ℕ = background l bars row in
    let size : length old ≡ width = length-background l bars row in
    let within : at ≤ width = min-le_left width (if l.columns then l.gutter + row.player * l.width + 1 else l.lanes * l.width + 1) in
    let same : length (laid at (row_words decls l row) old) ≡ length old = length-laid at (row_words decls l row) old (omega arith) in
    let few = length-line (laid at (row_words decls l row) old) in
    omega arith
