-- The players of a scenario, none of which has made a step.
use Rattle.std.proofs.Common.{◌≡◌, ◌⊎◌, ℕ, zero, suc, ◌≤◌, Option, Some, None, option_to_list, List, [], ◌∷◌, ◌++◌, length, All, inl, inr, refl, sym, ap, ◌∙◌, arith, length-append}
use Rattle.std.specs.List.{slice_get}
use Rattle.std.proofs.lemmas.List.Elements.{All-nil, All-cons, All-append}
use Rattle.zk_scenario.specs.Content.{Content}
use Rattle.zk_scenario.specs.Players.{players}
use Rattle.zk_worker.specs.Places.{PlayerPlace}
use Rattle.zk_worker.specs.Protocol.{start_at}
use Rattle.zk_worker.proofs.Starts.{start_at-some, start_at-fresh, IsFresh}
use Rattle.zk_worker.proofs.Lists.{at-end}
use Rattle.zk_services.specs.Starts.{starts}

-- what holds of each player that starts holds of all
pub starts-all : (P : PlayerPlace → Type 0) (s : Content) → ((n : ℕ) (at : PlayerPlace) → start_at s n ≡ Some at → P at) → (n : ℕ) → All P (starts s n)
starts-all P s each zero = All-nil P
starts-all P s each (suc n) = All-append P (starts s n) (option_to_list (start_at s n)) (starts-all P s each n) (one (start_at s n) refl)
  where
    one : (o : Option PlayerPlace) → start_at s n ≡ o → All P (option_to_list o)
    one None is = All-nil P
    one (Some at) is = All-cons P at [] (each n at is) (All-nil P)

-- how many they are
pub length-starts : (s : Content) (n : ℕ) → n ≤ length (players s.decls) → length (starts s n) ≡ n
length-starts s zero within = refl
length-starts s (suc n) within =
    let some = start_at-some s n (omega arith) in
    let more = length-starts s n (omega arith) in
    let one : length (option_to_list (start_at s n)) ≡ 1 = ap (λ (o : Option PlayerPlace). length (option_to_list o)) some.1 in
    omega (arith, length-append (starts s n) (option_to_list (start_at s n)))

-- each has the number of its place
pub numbers-starts : (s : Content) (n : ℕ) → n ≤ length (players s.decls) → (p : ℕ) (at : PlayerPlace) → slice_get (starts s n) p ≡ Some at → at.who.number ≡ p
numbers-starts s zero within p at is = absurd (cc)
numbers-starts s (suc n) within p at is =
    let some = start_at-some s n (omega arith) in
    let here : starts s (suc n) ≡ starts s n ++ some.0 ∷ [] = ap (λ (o : Option PlayerPlace). starts s n ++ option_to_list o) some.1 in
    by_place some.0 (start_at-fresh s n some.0 some.1) (numbers-starts s n (omega arith) p at) (at-end (starts s n) some.0 at p (ap (λ (l : List PlayerPlace). slice_get l p) (sym here) ∙ is))
  where
    by_place : (new : PlayerPlace) → IsFresh n new → (slice_get (starts s n) p ≡ Some at → at.who.number ≡ p) → (slice_get (starts s n) p ≡ Some at) ⊎ ((p ≡ length (starts s n)) × (new ≡ at)) → at.who.number ≡ p
    by_place new fresh before (inl there) = before there
    by_place new fresh before (inr both) =
        ap (λ (a : PlayerPlace). a.who.number) (sym both.1) ∙ fresh.number_is ∙ sym (both.0 ∙ length-starts s n (omega arith))

-- each is where a player of its number starts
pub starts-there : (s : Content) (n : ℕ) → n ≤ length (players s.decls) → (p : ℕ) (at : PlayerPlace) → slice_get (starts s n) p ≡ Some at → start_at s p ≡ Some at
starts-there s zero within p at is = absurd (cc)
starts-there s (suc n) within p at is =
    let some = start_at-some s n (omega arith) in
    let here : starts s (suc n) ≡ starts s n ++ some.0 ∷ [] = ap (λ (o : Option PlayerPlace). starts s n ++ option_to_list o) some.1 in
    by_place some.0 some.1 (starts-there s n (omega arith) p at) (at-end (starts s n) some.0 at p (ap (λ (l : List PlayerPlace). slice_get l p) (sym here) ∙ is))
  where
    by_place : (new : PlayerPlace) → start_at s n ≡ Some new → (slice_get (starts s n) p ≡ Some at → start_at s p ≡ Some at) → (slice_get (starts s n) p ≡ Some at) ⊎ ((p ≡ length (starts s n)) × (new ≡ at)) → start_at s p ≡ Some at
    by_place new made before (inl there) = before there
    by_place new made before (inr both) =
        ap (start_at s) (both.0 ∙ length-starts s n (omega arith)) ∙ made ∙ ap (λ (a : PlayerPlace). Some a) both.1
