-- Sections of rows of one kind, and of two, and titles with rows are read exactly.
use Rattle.std.proofs.Common.{◌≡◌, ℕ, false, true≢false, Option, Some, None, List, [], ◌∷◌, length, map, refl, sym}
use Rattle.zk_blocks.specs.Blocks.{IsBlock}
use Rattle.zk_blocks.specs.Heads.{IsHead}
use Rattle.zk_blocks.specs.Rows.{counted_rows, IsCount, AreCounted, FitRows, IsRow}
use Rattle.zk_blocks.specs.Sections.{IsNothing, has_row, two_rows, two_lines, FitTwo, AreTwoCounted, neither, has_rows, rows_under, titled_of, titled_lines, FitsTitled, IsTitled}
use Rattle.zk_blocks.proofs.Blocks.{pair, same_fits}
use Rattle.zk_blocks.proofs.Counted.{counted}
use Rattle.zk_blocks.proofs.Joined.{both}
use Rattle.zk_blocks.proofs.Made.{made}
use Rattle.zk_blocks.proofs.Rows.{no_rows}
use Rattle.zk_blocks.proofs.Told.{told}

-- no row at all is nothing, where that there is none can be told
pub no_row : {X : Type 0} (Can : ℕ → Type 0) (Fits : Option X → X → Type 0) → Can 0 → IsNothing [] has_row (FitRows Can Fits)
no_row {X = X} Can Fits can = record { fits = (tt, can); absent = refl; only = only } where
  only : (xs : List X) → has_row xs ≡ false → xs ≡ []
  only [] is = refl
  only (x ∷ xs) is = absurd (true≢false is)

-- no row of either kind is nothing
pub no_row_of_two : {E K : Type 0} (Can : ℕ → Type 0) (First : Option E → E → Type 0) (Second : Option K → K → Type 0) → Can 0 → IsNothing neither has_rows (FitTwo Can First Second)
no_row_of_two {E = E} {K = K} Can First Second can = record { fits = ((tt, can), (tt, can)); absent = refl; only = only } where
  only : (both : List E × List K) → has_rows both ≡ false → both ≡ neither
  only ([], []) is = refl
  only ([], (k ∷ ks)) is = absurd (true≢false is)
  only ((e ∷ es), ks) is = absurd (true≢false is)

-- where no row of either kind can stand first there is none
pub no_rows_of_two : {E K : Type 0} (Can : ℕ → Type 0) (First : Option E → E → Type 0) (Second : Option K → K → Type 0) → ((e : E) → First None e → ⊥) → ((k : K) → Second None k → ⊥) →
    (both : List E × List K) → FitTwo Can First Second both → both ≡ neither
no_rows_of_two Can First Second no_first no_second both fits = pair (no_rows First no_first both.0 fits.0.0) (no_rows Second no_second both.1 fits.1.0)

module _ {L X : Type 0} {text : X → L} {Fits : Option X → X → Type 0} {says : Option X → L → Option X} (row : IsRow text Fits says)
    {Behind : L → Type 0} (over : (line : L) → Behind line → (last : Option X) → says last line ≡ None) where
  -- rows are read exactly, of whatever sort they are
  pub any_rows : (Can : ℕ → Type 0) (count : Option ℕ) → ((n : ℕ) → IsCount count n → Can n) →
      IsBlock (map text) (λ xs. FitRows Can Fits xs × AreCounted count xs) (counted_rows says count None) (λ line. Unit {0}) Behind
  any_rows Can count can =
      same_fits (counted row count (λ line. Unit {0}) Behind (λ x fits. tt) (λ line is. tt) over)
      (λ xs fits. (fits.0.0, fits.1)) (λ xs fits. ((fits.0, can (length xs) fits.1), fits.1))

  -- a title and the rows under it are read exactly
  pub titled : {S : Type 0} (title : S → ℕ → L) (Can : ℕ → Type 0) {title_of : L → Option (S × Option ℕ)} →
      IsHead (λ (all : S × List X). title all.0 (length all.1)) (FitsTitled Can Fits) title_of IsTitled →
      ((line : L) (h : S × Option ℕ) → title_of line ≡ Some h → (n : ℕ) → IsCount h.1 n → Can n) →
      (Opens : L → Type 0) → ((s : S) (n : ℕ) → Opens (title s n)) →
      IsBlock (titled_lines title text) (FitsTitled Can Fits) (titled_of title_of says) Opens Behind
  titled {S = S} title Can {title_of = title_of} heads can Opens opens = told heads under Opens (λ all fits. opens all.0 (length all.1)) where
    under : (line : L) (h : S × Option ℕ) → title_of line ≡ Some h →
        IsBlock (λ all. map text all.1) (λ all. FitsTitled Can Fits all × IsTitled h all) (rows_under says h) (λ line. Unit {0}) Behind
    under line h known = made (any_rows Can h.1 (can line h known)) (λ xs. (h.0, xs))
        (λ all fits. (all.1, ((fits.0, fits.1.1), pair (sym fits.1.0) refl), refl))
        (λ xs fits. ((fits.0, (refl, fits.1)), refl))

module _ {L E K : Type 0} {first_text : E → L} {First : Option E → E → Type 0} {first : Option E → L → Option E}
    {second_text : K → L} {Second : Option K → K → Type 0} {second : Option K → L → Option K}
    (firsts : IsRow first_text First first) (seconds : IsRow second_text Second second)
    (apart : (k : K) → Second None k → (last : Option E) → first last (second_text k) ≡ None) {Behind : L → Type 0}
    (no_first : (line : L) → Behind line → (last : Option E) → first last line ≡ None)
    (no_second : (line : L) → Behind line → (last : Option K) → second last line ≡ None) where
  -- rows of two kinds are read exactly, where what begins the second is none of the first
  pub rows_of_two : (Can : ℕ → Type 0) (counts : Option ℕ × Option ℕ) → ((n : ℕ) → IsCount counts.0 n → Can n) → ((n : ℕ) → IsCount counts.1 n → Can n) →
      IsBlock (two_lines first_text second_text) (λ all. FitTwo Can First Second all × AreTwoCounted counts all) (two_rows first second counts) (λ line. Unit {0}) Behind
  rows_of_two Can counts can_first can_second =
      same_fits
      (both (any_rows firsts (λ line is. is) Can counts.0 can_first)
      (same_fits (counted seconds counts.1 (λ line. (last : Option E) → first last line ≡ None) Behind apart no_first no_second)
      {Fits2 = λ ks. FitRows Can Second ks × AreCounted counts.1 ks}
      (λ ks fits. (fits.0.0, fits.1)) (λ ks fits. ((fits.0, can_second (length ks) fits.1), fits.1))))
      (λ all fits. ((fits.0.0, fits.1.0), (fits.0.1, fits.1.1))) (λ all fits. ((fits.0.0, fits.1.0), (fits.0.1, fits.1.1)))
