-- The lines of rows rise.
use Rattle.std.proofs.Common.{◌≡◌, ℕ, ◌+◌, ◌-◌, ◌<◌, Bool, true, false, cond, eqb, ltb, List, [], ◌∷◌, refl, arith}
use Rattle.std.proofs.lemmas.Bool.{ltb-true, ltb-false, eqb-true}
use Rattle.zk_trace.specs.declared.trace.Trace.{Trace}
use Rattle.zk_failures.specs.Lines.{lines_of_section, row_line, section_lengths}
use Rattle.zk_check.specs.Rows.{RowsRise}

-- a section with a row has its head too
with-head : (rows : ℕ) → 0 < rows → lines_of_section rows ≡ 1 + rows
with-head rows some = by (eqb rows 0) refl where
  by : (b : Bool) → eqb rows 0 ≡ b → cond b 0 (1 + rows) ≡ 1 + rows
  by true is = let none = eqb-true rows 0 is in absurd (omega (arith, some, none))
  by false is = refl

row_line-rises : (sections : List ℕ) (row later : ℕ) → row < later → row_line sections row < row_line sections later
row_line-rises [] row later before = before
row_line-rises (rows ∷ more) row later before = by (ltb row rows) (ltb later rows) refl refl (row_line-rises more) where
  line : ℕ → Bool → ℕ
  line at here = cond here (1 + at) (lines_of_section rows + row_line more (at - rows))

  by : (first second : Bool) → ltb row rows ≡ first → ltb later rows ≡ second →
      ((a b : ℕ) → a < b → row_line more a < row_line more b) → line row first < line later second
  by true true one two rises = omega (arith, before)
  by true false one two rises =
      let within = ltb-true row rows one in
      let head = with-head rows (omega (arith, within)) in
      omega (arith, within, head)
  by false true one two rises =
      let past = ltb-false row rows one in
      let within = ltb-true later rows two in
      absurd (omega (arith, past, within, before))
  by false false one two rises =
      let past = ltb-false row rows one in
      let next = rises (row - rows) (later - rows) (omega (arith, past, before)) in
      omega (arith, next)

pub rows-rise : (t : Trace) → RowsRise t
rows-rise t row later before =
    let rises = row_line-rises (section_lengths t) row later before in
    omega (arith, rises)
