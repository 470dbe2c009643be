-- What is made of a part that may be missing.
use Rattle.std.proofs.Common.{◌≡◌, Option, Some, None, refl}
use Rattle.std.specs.Prelude.{option_map}
use Rattle.std.proofs.lemmas.Option.{same_Some}

-- what is made of a part tells it
pub one_part : {A B : Type 0} (f : A → B) (a : Option A) (made : B) → option_map f a ≡ Some made → (x : A) × (a ≡ Some x) × (f x ≡ made)
one_part f None made said = absurd (cc)
one_part f (Some x) made said = (x, refl, same_Some _ _ said)
