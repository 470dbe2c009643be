-- Entries that are a pass's own.
use Rattle.std.proofs.Common.{◌≡◌, Bool, true, false, cond, List, [], ◌∷◌, All, refl}
use Rattle.std.proofs.lemmas.List.Elements.{All-nil, All-cons}
use Rattle.zk_base.specs.declared.ids.Who.{Who}
use Rattle.zk_base.specs.declared.ids.Entry.{Entry}
use Rattle.zk_turn.specs.Players.{is_by, own}

module _ {O R : Type 0} (ws : List Who) where
  -- the entries of these players are of these players
  pub own-by : (h : List (Entry O R)) → All (λ e. is_by ws e ≡ true) (own ws h)
  own-by [] = let P : Entry O R → Type 0 = λ e. is_by ws e ≡ true in All-nil P
  own-by (e ∷ es) = by (is_by ws e) refl (own-by es)
    where
      by : (b : Bool) → is_by ws e ≡ b → All (λ e. is_by ws e ≡ true) (own ws es) → All (λ e. is_by ws e ≡ true) (cond b (e ∷ own ws es) (own ws es))
      by true is rest = let P : Entry O R → Type 0 = λ e. is_by ws e ≡ true in All-cons P e (own ws es) is rest
      by false is rest = rest
