-- Views at their places, and sums over them.
use Rattle.std.proofs.Common.{◌≡◌, ◌≢◌, ◌⊎◌, inl, inr, ⊎_elim, ℕ, zero, suc, ◌+◌, ◌*◌, ◌<◌, ◌≤◌, List, [], ◌∷◌, ◌++◌, length, set, get_or, refl, sym, ap, subst, ◌∙◌, arith}
use Rattle.std.specs.List.{sum_by}
use Rattle.std.proofs.Math.Nat.{mul-add}
use Rattle.std.proofs.lemmas.List.Sums.{sum_by-cons, sum_by-set, get_or-le-sum_by}
use mathlib.Core.Option.{some, some-injective, some-ne-none}
use lib.ListN.{get_elem?}
use Rattle.atomic_table.proofs.Lists.{at_set}
use Rattle.zk_turn.specs.declared.views.View.{View}
use Rattle.zk_turn.specs.Turn.{AreApart}

module _ {A : Type 0} where
  pub at-within : (l : List A) (i : ℕ) (a : A) → get_elem? l i ≡ some a → i < length l
  at-within [] i a at = absurd (some-ne-none a (sym at))
  at-within (x ∷ xs) zero a at = omega arith
  at-within (x ∷ xs) (suc i) a at = let behind = at-within xs i a at in omega arith

  at-get_or : (l : List A) (i : ℕ) (a d : A) → get_elem? l i ≡ some a → get_or l i d ≡ a
  at-get_or [] i a d at = absurd (some-ne-none a (sym at))
  at-get_or (x ∷ xs) zero a d at = some-injective x a at
  at-get_or (x ∷ xs) (suc i) a d at = at-get_or xs i a d at

  -- what is read twice at one place is one
  pub at-same : (l : List A) (i : ℕ) (a b : A) → get_elem? l i ≡ some a → get_elem? l i ≡ some b → a ≡ b
  at-same l i a b first second = some-injective a b (sym first ∙ second)

  pub at-set_there : (l : List A) (i : ℕ) (a b : A) → get_elem? l i ≡ some a → get_elem? (set l i b) i ≡ some b
  at-set_there [] i a b at = absurd (some-ne-none a (sym at))
  at-set_there (x ∷ xs) zero a b at = refl
  at-set_there (x ∷ xs) (suc i) a b at = at-set_there xs i a b at

  pub at-push : (l : List A) (a b : A) (j : ℕ) → get_elem? (l ++ a ∷ []) j ≡ some b →
      (get_elem? l j ≡ some b) ⊎ ((j ≡ length l) × (a ≡ b))
  at-push [] a b zero at = inr (refl, some-injective a b at)
  at-push [] a b (suc j) at = absurd (some-ne-none b (sym at))
  at-push (x ∷ xs) a b zero at = inl at
  at-push (x ∷ xs) a b (suc j) at = ⊎_elim (λ t. inl t) (λ t. inr ((let place = t.0 in omega arith), t.1)) (at-push xs a b j at)

  pub sum-set : (f : A → ℕ) (l : List A) (i : ℕ) (a b : A) → get_elem? l i ≡ some a →
      sum_by f (set l i b) + f a ≡ sum_by f l + f b
  sum-set f l i a b at = let is = ap f (at-get_or l i a a at) in let moved = sum_by-set f l i b a (at-within l i a at) in
      omega arith

  -- each is at most k times the other
  pub sum-times : (k : ℕ) (f g : A → ℕ) (l : List A) → ((j : ℕ) (a : A) → get_elem? l j ≡ some a → f a ≤ k * g a) →
      sum_by f l ≤ k * sum_by g l
  sum-times k f g [] each = omega arith
  sum-times k f g (x ∷ xs) each =
      let here = each 0 x refl in
      let rest = sum-times k f g xs (λ j a at. each (suc j) a at) in
      let first = sum_by-cons f x xs in
      let second = sum_by-cons g x xs in
      let spread = mul-add k (g x) (sum_by g xs) in
      omega (arith, ap (λ n. k * n) second)

  pub sum-two : (f : A → ℕ) (l : List A) (i j : ℕ) (a b : A) → i ≢ j → get_elem? l i ≡ some a → get_elem? l j ≡ some b →
      f a + f b ≤ sum_by f l
  sum-two f [] i j a b differ first second = absurd (some-ne-none a (sym first))
  sum-two f (x ∷ xs) zero zero a b differ first second = absurd (differ refl)
  sum-two f (x ∷ xs) zero (suc j) a b differ first second =
      let same = ap f (some-injective x a first) in let one = one_of xs j b second in let all = sum_by-cons f x xs in
      omega arith where
        one_of : (l : List A) (k : ℕ) (c : A) → get_elem? l k ≡ some c → f c ≤ sum_by f l
        one_of l k c at = let is = ap f (at-get_or l k c c at) in
            let le = get_or-le-sum_by f l k c (at-within l k c at) in omega arith
  sum-two f (x ∷ xs) (suc i) zero a b differ first second =
      let same = ap f (some-injective x b second) in let one = one_of xs i a first in let all = sum_by-cons f x xs in
      omega arith where
        one_of : (l : List A) (k : ℕ) (c : A) → get_elem? l k ≡ some c → f c ≤ sum_by f l
        one_of l k c at = let is = ap f (at-get_or l k c c at) in
            let le = get_or-le-sum_by f l k c (at-within l k c at) in omega arith
  sum-two f (x ∷ xs) (suc i) (suc j) a b differ first second =
      let behind = sum-two f xs i j a b (λ same. differ (ap suc same)) first second in let all = sum_by-cons f x xs in omega arith

module _ {O R T : Type 0} where
  -- each two of the seats are apart
  abbrev pub AllApart : List (View O R T) → Type 0
  AllApart views = (i j : ℕ) (v w : View O R T) → ¬ (i ≡ j) → get_elem? views i ≡ some v → get_elem? views j ≡ some w →
      AreApart v w

  pub apart-turned : (v w : View O R T) → AreApart v w → AreApart w v
  apart-turned v w apart = record { players = λ n x y. apart.players n y x; tickets = λ t x y. apart.tickets t y x }

  pub AllApart-set : (views : List (View O R T)) (id : ℕ) (w : View O R T) → AllApart views →
      ((j : ℕ) (u : View O R T) → j ≢ id → get_elem? views j ≡ some u → AreApart w u) → AllApart (set views id w)
  AllApart-set views id w all mine i j a b differ first second =
      ⊎_elim
      (λ t. ⊎_elim (λ q. absurd (differ (t.0 ∙ sym q.0))) (λ q. subst (λ x. AreApart x b) t.1 (mine j b q.0 q.1))
      (at_set views id j w b second))
      (λ t. ⊎_elim (λ q. subst (λ x. AreApart a x) q.1 (apart-turned w a (mine i a t.0 t.1)))
      (λ q. all i j a b differ t.1 q.1) (at_set views id j w b second))
      (at_set views id i w a first)

  pub AllApart-push : (views : List (View O R T)) (w : View O R T) → AllApart views →
      ((j : ℕ) (u : View O R T) → get_elem? views j ≡ some u → AreApart u w) → AllApart (views ++ w ∷ [])
  AllApart-push views w all mine i j a b differ first second =
      ⊎_elim
      (λ t. ⊎_elim (λ q. all i j a b differ t q) (λ q. subst (λ x. AreApart a x) q.1 (mine i a t)) (at-push views w b j second))
      (λ t. ⊎_elim (λ q. subst (λ x. AreApart x b) t.1 (apart-turned b w (mine j b q)))
      (λ q. absurd (differ (t.0 ∙ sym q.0))) (at-push views w b j second))
      (at-push views w a i first)
