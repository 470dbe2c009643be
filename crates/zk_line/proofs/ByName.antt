-- A map from names after one is put in, and its clone.
use Rattle.std.proofs.Common.{◌≡◌, ℕ, Bool, true, false, cond, List, [], ◌∷◌, Option, Some, refl, sym, ap, subst, ◌∙◌, ⊎_elim}
use Rattle.std.specs.Cmp.Lexicographic.{bytes_decides, nat_list_eq_equiv}
use Rattle.std.specs.HashMap.{HashMap, get_by, IsClone, UpdatesBy}
use Rattle.std.specs.List.{AllZip}
use Rattle.std.specs.Map.{lookup, IsKeyTest, AreApart, KeepsOthers}
use Rattle.std.specs.Str.{bytes_eq}
use Rattle.std.proofs.lemmas.Bool.{cases_Bool, cond-true, cond-false}

apart : (bs cs ks : List ℕ) → bytes_eq bs cs ≡ false → bytes_eq bs ks ≡ true → bytes_eq cs ks ≡ false
apart bs cs ks n y = nat_list_eq_equiv.symm cs ks ∙ sym (nat_list_eq_equiv.congr bs ks cs y) ∙ n

others : {K X : Type 0} (eq : K → K → Bool) (test : K → Bool) (old new : List (K × X)) → KeepsOthers eq test old new → (other : K → Bool) → IsKeyTest eq other → AreApart test other → lookup other new ≡ lookup other old
unfolding KeepsOthers
others eq test old new h = h

-- what stands under each name after a number is put under one; `bytes` reads a key
pub by_name-insert : {K X S : Type 0} (bytes : K → List ℕ) (name : List ℕ) (m n : HashMap K X S) (number : X)
    → UpdatesBy (λ x y. bytes_eq (bytes x) (bytes y)) (λ k. bytes_eq name (bytes k)) m n (Some number)
    → (other : List ℕ) → get_by (λ k. bytes_eq other (bytes k)) n ≡ cond (bytes_eq name other) (Some number) (get_by (λ k. bytes_eq other (bytes k)) m)
by_name-insert {K} {X} {S} bytes name m n number h other =
    let before : List ℕ → Option X = λ q. get_by (λ k. bytes_eq q (bytes k)) m in
    let after : List ℕ → Option X = λ q. get_by (λ k. bytes_eq q (bytes k)) n in
    ⊎_elim
    (λ y. subst (λ l. after l ≡ Some number) ((bytes_decides name other).0 y) h.1 ∙ sym (cond-true (bytes_eq name other) (Some number) (before other) y))
    (λ e. others _ _ _ _ h.3 _ (λ x y. nat_list_eq_equiv.congr other (bytes x) (bytes y)) (λ k. apart name other (bytes k) e) ∙ sym (cond-false (bytes_eq name other) (Some number) (before other) e))
    (cases_Bool (bytes_eq name other))

lookup-clone : {K X : Type 0} (test : K → Bool) (C : K → K → Type 0) (D : X → X → Type 0) → ((x y : K) → C x y → test y ≡ test x) → ((v w : X) → D v w → w ≡ v)
    → (es fs : List (K × X)) → AllZip (λ p q. C p.0 q.0 × D p.1 q.1) es fs → lookup test fs ≡ lookup test es
lookup-clone test C D same equal [] [] h = refl
lookup-clone test C D same equal [] (f ∷ fs) h = absurd h
lookup-clone test C D same equal (e ∷ es) [] h = absurd h
lookup-clone test C D same equal (e ∷ es) (f ∷ fs) h =
    ap (λ b. cond b (Some f.1) (lookup test fs)) (same e.0 f.0 h.0.0)
    ∙ ap (λ v. cond (test e.0) (Some v) (lookup test fs)) (equal e.1 f.1 h.0.1)
    ∙ ap (λ o. cond (test e.0) (Some e.1) o) (lookup-clone test C D same equal es fs h.1)

-- what stands under each name of a clone; `bytes` reads a key
pub by_name-clone : {K X S : Type 0} (bytes : K → List ℕ) (C : K → K → Type 0) (D : X → X → Type 0) → ((x y : K) → C x y → bytes y ≡ bytes x) → ((v w : X) → D v w → w ≡ v)
    → (m n : HashMap K X S) → IsClone C D m n → (name : List ℕ) → get_by (λ k. bytes_eq name (bytes k)) n ≡ get_by (λ k. bytes_eq name (bytes k)) m
by_name-clone bytes C D same equal m n h name =
    lookup-clone (λ k. bytes_eq name (bytes k)) C D (λ x y c. ap (bytes_eq name) (same x y c)) equal m.entries n.entries h
