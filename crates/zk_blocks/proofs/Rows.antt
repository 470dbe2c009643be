-- Rows are read exactly where no row is behind them.
use Rattle.std.proofs.Common.{◌≡◌, Option, Some, None, List, [], ◌∷◌, ◌++◌, map, length, length-append, arith, refl, ap, subst, ◌∙◌}
use Rattle.std.specs.List.{AllByRecursion}
use Rattle.std.proofs.lemmas.Option.{same_Some}
use Rattle.zk_blocks.specs.Blocks.{FirstIs, IsBlock}
use Rattle.zk_blocks.specs.Exact.{IsExact}
use Rattle.zk_blocks.specs.Rows.{put_row, rows_of, all_rows, AllFit, IsRow}
use Rattle.zk_blocks.proofs.Blocks.{pair, never_longer}

-- lines that are read exactly one by one are rows
pub any_row : {L X : Type 0} {text : X → L} {Fits : X → Type 0} {says : L → Option X} → IsExact text Fits says → IsRow text (λ last. Fits) (λ last. says)
any_row exact = record { again = λ last x fits. exact.again x fits; spelled = λ last line x is. exact.spelled line x is }

-- rows that don't hang on those before them fit where each does
pub fit_each : {X : Type 0} (Fits : X → Type 0) (last : Option X) (xs : List X) → AllFit (λ last. Fits) last xs → AllByRecursion Fits xs
fit_each Fits last [] fits = tt
fit_each Fits last (x ∷ xs) fits = (fits.0, fit_each Fits (Some x) xs fits.1)

pub each_fit : {X : Type 0} (Fits : X → Type 0) (last : Option X) (xs : List X) → AllByRecursion Fits xs → AllFit (λ last. Fits) last xs
each_fit Fits last [] fits = tt
each_fit Fits last (x ∷ xs) fits = (fits.0, each_fit Fits (Some x) xs fits.1)

-- rows of which none can stand first are none
pub no_rows : {X : Type 0} (Fits : Option X → X → Type 0) → ((x : X) → Fits None x → ⊥) → (xs : List X) → AllFit Fits None xs → xs ≡ []
no_rows Fits none [] fits = refl
no_rows Fits none (x ∷ xs) fits = absurd (none x fits.0)

module _ {L X : Type 0} {text : X → L} {Fits : Option X → X → Type 0} {says : Option X → L → Option X} (row : IsRow text Fits says) where
  rows_again : (xs : List X) (last : Option X) (more : List L) → AllFit Fits last xs → FirstIs (λ line. (last : Option X) → says last line ≡ None) more →
      rows_of says last (map text xs ++ more) ≡ (xs, more)
  rows_again [] last [] fits over = refl
  rows_again [] last (line ∷ more) fits over = ap (λ o. put_row o line more (λ x. rows_of says (Some x) more)) (over last)
  rows_again (x ∷ xs) last more fits over =
      ap (λ o. put_row o (text x) (map text xs ++ more) (λ y. rows_of says (Some y) (map text xs ++ more))) (row.again last x fits.0)
      ∙ ap (λ (r : List X × List L). (x ∷ r.0, r.1)) (rows_again xs (Some x) more fits.1 over)

  rows_spelled : (lines : List L) (last : Option X) → (lines ≡ map text (rows_of says last lines).0 ++ (rows_of says last lines).1) × AllFit Fits last (rows_of says last lines).0
  rows_spelled [] last = (refl, tt)
  rows_spelled (line ∷ lines) last = by (says last line) refl (λ x. rows_spelled lines (Some x)) where
    by : (o : Option X) → says last line ≡ o →
        ((x : X) → (lines ≡ map text (rows_of says (Some x) lines).0 ++ (rows_of says (Some x) lines).1) × AllFit Fits (Some x) (rows_of says (Some x) lines).0) →
        let r = put_row o line lines (λ x. rows_of says (Some x) lines) in (line ∷ lines ≡ map text r.0 ++ r.1) × AllFit Fits last r.0
    by None is more = (refl, tt)
    by (Some x) is more =
        let here = row.spelled last line x is in
        let there = more x in
        (ap (λ l. l ∷ lines) here.0 ∙ ap (λ ls. text x ∷ ls) there.0, (here.1, there.1))

  rows_ahead : (before : List L) (last : Option X) (more other : List L) (line : L) (xs : List X) →
      rows_of says last (before ++ line ∷ more) ≡ (xs, line ∷ more) → rows_of says last (before ++ line ∷ other) ≡ (xs, line ∷ other)
  rows_ahead [] last more other line xs is = by (says last line) is where
    by : (o : Option X) → put_row o line more (λ x. rows_of says (Some x) more) ≡ (xs, line ∷ more) →
        put_row o line other (λ x. rows_of says (Some x) other) ≡ (xs, line ∷ other)
    by None is = pair (ap (λ r. r.0) is) refl
    by (Some x) is = let r = rows_of says (Some x) more in never_longer line more (map text r.0) r.1 (rows_spelled more (Some x)).0 (ap (λ r. r.1) is)
  rows_ahead (b ∷ before) last more other line xs is = by (says last b) (λ x. rows_ahead before (Some x) more other line) is where
    by : (o : Option X) →
        ((x : X) (xs : List X) → rows_of says (Some x) (before ++ line ∷ more) ≡ (xs, line ∷ more) → rows_of says (Some x) (before ++ line ∷ other) ≡ (xs, line ∷ other)) →
        put_row o b (before ++ line ∷ more) (λ x. rows_of says (Some x) (before ++ line ∷ more)) ≡ (xs, line ∷ more) →
        put_row o b (before ++ line ∷ other) (λ x. rows_of says (Some x) (before ++ line ∷ other)) ≡ (xs, line ∷ other)
    by None again is = absurd (omega (arith, ap (λ r. length r.1) is, length-append (b ∷ before) (line ∷ more)))
    by (Some x) again is =
        let there = again x (rows_of says (Some x) (before ++ line ∷ more)).0 (pair refl (ap (λ r. r.1) is)) in
        pair (ap (λ (r : List X × List L). x ∷ r.0) there ∙ ap (λ r. r.0) is) (ap (λ r. r.1) there)

  -- rows are read exactly where no row is behind them
  pub rows : (Opens Behind : L → Type 0) → ((x : X) → Fits None x → Opens (text x)) → ((line : L) → Behind line → Opens line) →
      ((line : L) → Behind line → (last : Option X) → says last line ≡ None) → IsBlock (λ xs. map text xs) (AllFit Fits None) (all_rows says) Opens Behind
  rows Opens Behind begins behinds over = record {
    again = λ xs more fits behind. ap (λ (r : List X × List L). (Some r.0, r.1)) (rows_again xs None more fits (is_over more behind));
    spelled = λ lines more xs is.
        let there = rows_spelled lines None in
        let same = same_Some (rows_of says None lines).0 xs (ap (λ r. r.0) is) in
        subst (λ x. (lines ≡ map text x ++ more) × AllFit Fits None x) same
        (there.0 ∙ ap (λ ls. map text (rows_of says None lines).0 ++ ls) (ap (λ r. r.1) is), there.1);
    opens = first;
    left = λ lines. (map text (rows_of says None lines).0, (rows_spelled lines None).0);
    one_ahead = λ before more other line o is.
        let there = rows_ahead before None more other line (rows_of says None (before ++ line ∷ more)).0 (pair refl (ap (λ r. r.1) is)) in
        pair (ap (λ (r : List X × List L). Some r.0) there ∙ ap (λ r. r.0) is) (ap (λ r. r.1) there);
  } where
    is_over : (more : List L) → FirstIs Behind more → FirstIs (λ line. (last : Option X) → says last line ≡ None) more
    is_over [] behind = tt
    is_over (line ∷ more) behind = over line behind

    first : (xs : List X) (more : List L) → AllFit Fits None xs → FirstIs Behind more → FirstIs Opens (map text xs ++ more)
    first [] [] fits behind = tt
    first [] (line ∷ more) fits behind = behinds line behind
    first (x ∷ xs) more fits behind = begins x fits.0
