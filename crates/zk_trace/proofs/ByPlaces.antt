-- What is done to each of a list, by its places.
use Rattle.std.proofs.Common.{◌≡◌, ℕ, ◌+◌, ◌<◌, Some, List, [], ◌∷◌, ◌++◌, append_assoc, length, take, slice_get, All, sym, ap, subst, ◌∙◌}
use Rattle.std.specs.List.{flat_map}
use Rattle.std.proofs.lemmas.Grind.{flat_map-append}
use Rattle.std.proofs.lemmas.List.{take_more, append-nil}
use Rattle.std.proofs.lemmas.List.Elements.{All-nil, All-cons, All-append}
use Rattle.std.proofs.lemmas.Option.{get_or_from_slice_get}

module _ {A : Type 0} (xs : List A) (place : ℕ) (x : A) (within : place < length xs) (there : slice_get xs place ≡ Some x) where
  -- the front of a list goes on with what is at its end
  take-next : take (place + 1) xs ≡ take place xs ++ x ∷ []
  take-next = take_more xs place x within ∙ ap (λ (a : A). take place xs ++ a ∷ []) (get_or_from_slice_get xs place x x there)

  -- the texts of those at the front, and the next one
  pub text-next : (f : A → List ℕ) (before old new : List ℕ) → old ≡ before ++ flat_map f (take place xs) → new ≡ old ++ f x →
      new ≡ before ++ flat_map f (take (place + 1) xs)
  text-next f before old new was is =
      is ∙ ap (λ (t : List ℕ). t ++ f x) was ∙ append_assoc before (flat_map f (take place xs)) (f x)
      ∙ ap (λ (t : List ℕ). before ++ t)
      (sym (flat_map-append f (take place xs) (x ∷ []) ∙ ap (λ (t : List ℕ). flat_map f (take place xs) ++ t) (append-nil (f x)))
      ∙ ap (flat_map f) (sym take-next))

  -- what holds of those at the front and of the next one
  pub All-next : (P : A → Type 0) → All P (take place xs) → P x → All P (take (place + 1) xs)
  All-next P was is = subst (All P) (sym take-next) (All-append P (take place xs) (x ∷ []) was (All-cons P x [] is (All-nil P)))
