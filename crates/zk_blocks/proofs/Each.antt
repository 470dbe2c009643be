-- One thing for each of some is read exactly.
use Rattle.std.proofs.Common.{◌≡◌, ◌⊎◌, ℕ, zero, suc, Some, List, [], ◌∷◌, length, slice_get, arith, refl, subst₂, inl, inr}
use Rattle.std.proofs.lemmas.Option.{same_Some, none-some}
use Rattle.zk_blocks.specs.Blocks.{Reading, IsBlock, FitsThen, then_lines}
use Rattle.zk_blocks.specs.Each.{put_first, each_of, each_lines, EachFits, EachOpens}
use Rattle.zk_blocks.proofs.Blocks.{looser, nothing}
use Rattle.zk_blocks.proofs.Made.{made}
use Rattle.zk_blocks.proofs.Joined.{both}

module _ {L D A : Type 0} {read : D → List L → Reading L A} {lines_of : D → A → List L} {Fits : D → A → Type 0} where
  -- each of some is read exactly, where each is before the others
  pub each : (Sort : List D → L → Type 0) (Good : List D → Type 0) → ((d : D) (more : List D) → Good (d ∷ more) → Good more) →
      ((d : D) (more : List D) → Good (d ∷ more) → IsBlock (lines_of d) (Fits d) (read d) (Sort (d ∷ more)) (Sort more)) →
      (ds : List D) → Good ds → IsBlock (each_lines lines_of ds) (EachFits Fits ds) (each_of read ds) (Sort ds) (Sort [])
  each Sort Good down block [] good = made (nothing (Sort [])) (λ u. []) back (λ u fits. (tt, refl)) where
    back : (b : List A) → EachFits Fits [] b → (a : Unit {0}) × (Unit {0} × ◌≡◌ {A = List A} [] b) × ◌≡◌ {A = List L} [] []
    back [] fits = (tt, (tt, refl), refl)
    back (a ∷ more) fits = absurd fits
  each Sort Good down block (d ∷ ds) good =
      made (both (block d ds good) (each Sort Good down block ds (down d ds good))) put_first back (λ a fits. (fits, refl)) where
        back : (b : List A) → EachFits Fits (d ∷ ds) b →
            (a : A × List A) × (FitsThen (Fits d) (EachFits Fits ds) a × (put_first a ≡ b)) × (then_lines (lines_of d) (each_lines lines_of ds) a ≡ each_lines lines_of (d ∷ ds) b)
        back (a ∷ more) fits = ((a, more), (fits, refl), refl)
        back [] fits = absurd fits

  -- the same where each opens by itself, before whatever is behind it
  pub each_opens : (Opens : D → (L → Type 0) → L → Type 0) → ((d : D) (Behind : L → Type 0) → IsBlock (lines_of d) (Fits d) (read d) (Opens d Behind) Behind) →
      (Behind : L → Type 0) (ds : List D) → IsBlock (each_lines lines_of ds) (EachFits Fits ds) (each_of read ds) (EachOpens Opens Behind ds) Behind
  each_opens Opens block Behind ds = each (EachOpens Opens Behind) (λ ds. Unit {0}) (λ d more good. tt) (λ d more good. block d (EachOpens Opens Behind more)) ds tt

  -- the same where all open alike, and no line of this sort is behind them
  pub each_alike : (Opens Behind : L → Type 0) → ((d : D) → IsBlock (lines_of d) (Fits d) (read d) Opens (λ line. Opens line ⊎ Behind line)) →
      (ds : List D) → IsBlock (each_lines lines_of ds) (EachFits Fits ds) (each_of read ds) (λ line. Opens line ⊎ Behind line) Behind
  each_alike Opens Behind block ds =
      looser (each (λ ds line. Opens line ⊎ Behind line) (λ ds. Unit {0}) (λ d more good. tt) (λ d more good. looser (block d) (λ line is. inl is) (λ line is. is)) ds tt)
      (λ line is. is) (λ line is. inr is)

module _ {D A : Type 0} (Fits : D → A → Type 0) where
  -- there are as many as those that they are for
  pub each_fits-length : (ds : List D) (each : List A) → EachFits Fits ds each → length ds ≡ length each
  each_fits-length [] [] fits = refl
  each_fits-length [] (a ∷ more) fits = absurd fits
  each_fits-length (d ∷ ds) [] fits = absurd fits
  each_fits-length (d ∷ ds) (a ∷ more) fits = omega (arith, each_fits-length ds more fits.1)

  -- the one at each place fits
  pub each_fits_at : (ds : List D) (each : List A) → EachFits Fits ds each → (place : ℕ) (d : D) (a : A) →
      slice_get ds place ≡ Some d → slice_get each place ≡ Some a → Fits d a
  each_fits_at [] each fits place d a is_d is_a = absurd (none-some d is_d)
  each_fits_at (e ∷ ds) [] fits place d a is_d is_a = absurd fits
  each_fits_at (e ∷ ds) (b ∷ more) fits zero d a is_d is_a = subst₂ Fits (same_Some e d is_d) (same_Some b a is_a) fits.0
  each_fits_at (e ∷ ds) (b ∷ more) fits (suc place) d a is_d is_a = each_fits_at ds more fits.1 place d a is_d is_a

  -- each fits where there are as many, and the one at each place does
  pub each_fits_from : (ds : List D) (each : List A) → length ds ≡ length each →
      ((place : ℕ) (d : D) (a : A) → slice_get ds place ≡ Some d → slice_get each place ≡ Some a → Fits d a) → EachFits Fits ds each
  each_fits_from [] [] same fits = tt
  each_fits_from [] (a ∷ more) same fits = absurd (omega (arith, same))
  each_fits_from (d ∷ ds) [] same fits = absurd (omega (arith, same))
  each_fits_from (d ∷ ds) (a ∷ more) same fits =
      (fits zero d a refl refl, each_fits_from ds more (omega (arith, same)) (λ place d a is_d is_a. fits (suc place) d a is_d is_a))
