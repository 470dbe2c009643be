-- One step of the loop that decides by a test.
use Rattle.std.proofs.Common.{◌≡◌, ℕ, ◌+◌, ◌<◌, ◌≤◌, Option, Some, None, List, ◌++◌, length, set, get_or, take, drop, map, refl, sym, ap, ◌∙◌}
use Rattle.std.proofs.lemmas.List.{append-nil, get_or_default, set-get_or, take_all, drop_all}
use Rattle.std.proofs.lemmas.List.Edits.{map_over_more}
use Rattle.zk_base.specs.declared.slots.Slot.{Slot}
use Rattle.zk_base.specs.Slots.{answer_by, decided_with, decided_where}

module _ {M A : Type 0} (n : ℕ) (test : M → Option A) (xs : List (Slot M A)) where
  module _ (ys : List (Slot M A)) (i : ℕ) (def : Slot M A) (within : i < length xs) (there : i < length ys)
      (so_far : ys ≡ map (decided_where n test) (take i xs) ++ drop i xs) where
    abbrev it : Slot M A
    it = get_or ys i def

    -- the test was asked of this one
    pub tested-next : (o : Option A) → answer_by test it ≡ o →
        set ys i (decided_with n o it) ≡ map (decided_where n test) (take (i + 1) xs) ++ drop (i + 1) xs
    tested-next o is = ap (λ (o : Option A). set ys i (decided_with n o it)) (sym is)
        ∙ map_over_more (decided_where n test) xs ys i it within so_far (get_or_default ys i def it there)

    -- and had no answer
    pub tested-left : (o : Option A) → answer_by test it ≡ o → ((answer : A) → o ≡ Some answer → ⊥) →
        ys ≡ map (decided_where n test) (take (i + 1) xs) ++ drop (i + 1) xs
    tested-left None is never = sym (set-get_or ys i def) ∙ tested-next None is
    tested-left (Some answer) is never = absurd (never answer refl)

  -- it was asked of all
  pub tested-all : (ys : List (Slot M A)) (i : ℕ) → length xs ≤ i →
      ys ≡ map (decided_where n test) (take i xs) ++ drop i xs → ys ≡ map (decided_where n test) xs
  tested-all ys i past so_far = so_far
      ∙ ap (λ (l : List (Slot M A)). map (decided_where n test) (take i xs) ++ l) (drop_all i xs past)
      ∙ append-nil (map (decided_where n test) (take i xs))
      ∙ ap (map (decided_where n test)) (take_all i xs past)
