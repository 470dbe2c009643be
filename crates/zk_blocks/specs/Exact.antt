-- Inner: no contract of a top call is made of this file.
use Rattle.std.specs.Prelude.{◌≡◌, Option, Some}

-- what has a text is read from it again; and what is read has that text, and fits
pub record IsExact {W A : Type 0} (text : A → W) (Fits : A → Type 0) (says : W → Option A) : Type 0 where
  pub again : (a : A) → Fits a → says (text a) ≡ Some a
  pub spelled : (word : W) (a : A) → says word ≡ Some a → (word ≡ text a) × Fits a
