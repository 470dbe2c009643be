-- What is put behind a text, part of it in a list and part of it in a row.
use Rattle.std.proofs.Common.{◌≡◌, ◌∙◌, ℕ, ◌≤◌, List, [], ◌++◌, length, take, drop, length-append, sym, ap, arith}
use Rattle.std.proofs.lemmas.List.{append_assoc, append-nil, take-append-drop, drop-append-le}
use Rattle.zk_base.specs.Fronts.{StaysInFront}

module _ (before : ℕ) (list row list2 row2 : List ℕ) where
  -- where both together stay the same, so does what stands behind the front
  pub sheet_same : before ≤ length list → StaysInFront list list2 → list2 ++ row2 ≡ list ++ row →
      drop before list2 ++ row2 ≡ drop before list ++ row
  sheet_same within front same =
      let sized = ap length front.behind ∙ length-append list front.more in
      let long : before ≤ length list2 = omega arith in
      sym (drop-append-le before list2 row2 long) ∙ ap (λ (l : List ℕ). drop before l) same ∙ drop-append-le before list row within

  -- then more is put into the row
  pub sheet_more : (more : List ℕ) → before ≤ length list → StaysInFront list list2 → list2 ++ row2 ≡ list ++ row →
      drop before list2 ++ (row2 ++ more) ≡ (drop before list ++ row) ++ more
  sheet_more more within front same =
      sym (append_assoc (drop before list2) row2 more) ∙ ap (λ (l : List ℕ). l ++ more) (sheet_same within front same)

  -- where the row is empty, the list is the front and what was put behind it
  pub sheet_whole : row2 ≡ [] → list2 ++ row2 ≡ list ++ row → list2 ≡ take before list ++ (drop before list ++ row)
  sheet_whole none same =
      sym (append-nil list2) ∙ ap (λ (l : List ℕ). list2 ++ l) (sym none) ∙ same ∙
      ap (λ (l : List ℕ). l ++ row) (sym (take-append-drop before list)) ∙ append_assoc (take before list) (drop before list) row
