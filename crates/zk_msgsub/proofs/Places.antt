-- What holds of each view after one changes, or comes behind the others.
use Rattle.std.proofs.Common.{◌≡◌, ◌≢◌, ◌⊎◌, inl, inr, ⊎_elim, ℕ, zero, suc, List, [], ◌∷◌, ◌++◌, length, set, refl, sym, ap, subst}
use mathlib.Core.Option.{some, some-injective, some-ne-none}
use lib.ListN.{get_elem?}
use Rattle.crossbeam_queue.proofs.Lists.{at_set}
use Rattle.zk_msgsub.specs.declared.views.View.{View}

abbrev pub Each : (ℕ → View → Type 0) → List View → Type 0
Each F views = (id : ℕ) (v : View) → get_elem? views id ≡ some v → F id v

pub each-set : (F : ℕ → View → Type 0) (views : List View) (id : ℕ) (w : View) → F id w →
    ((j : ℕ) (u : View) → j ≢ id → get_elem? views j ≡ some u → F j u) → Each F (set views id w)
each-set F views id w mine others j u there = ⊎_elim
    (λ (here : (j ≡ id) × (w ≡ u)). subst (λ (y : ℕ × View). F y.0 y.1) (λ i. (sym here.0 i, here.1 i)) mine)
    (λ (else : (j ≢ id) × (get_elem? views j ≡ some u)). others j u else.0 else.1)
    (at_set views id j w u there)

at-end : (l : List View) (a b : View) (j : ℕ) → get_elem? (l ++ a ∷ []) j ≡ some b → (get_elem? l j ≡ some b) ⊎
    ((j ≡ length l) × (a ≡ b))
at-end [] a b zero there = inr (refl, some-injective a b there)
at-end [] a b (suc j) there = absurd (some-ne-none b (sym there))
at-end (x ∷ xs) a b zero there = inl there
at-end (x ∷ xs) a b (suc j) there = ⊎_elim (λ old. inl old) (λ new. inr (ap suc new.0, new.1)) (at-end xs a b j there)

pub each-push : (F : ℕ → View → Type 0) (views : List View) (s : View) → Each F views → F (length views) s →
    Each F (views ++ s ∷ [])
each-push F views s all last j u there = ⊎_elim
    (λ old. all j u old)
    (λ (new : (j ≡ length views) × (s ≡ u)). subst (λ (y : ℕ × View). F y.0 y.1) (λ i. (sym new.0 i, new.1 i)) last)
    (at-end views s u j there)
