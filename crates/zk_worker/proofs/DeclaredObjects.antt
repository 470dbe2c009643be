-- The objects that a kind or the players have are declared.
use Rattle.std.proofs.Common.{◌≡◌, ℕ, ◌+◌, ◌<◌, Bool, true, false, Some, List, [], ◌∷◌, length, All, subst, arith, cond}
use Rattle.std.specs.List.{slice_get}
use Rattle.std.proofs.lemmas.List.Elements.{All-nil, All-cons, All-append}
use Rattle.zk_base.proofs.Lists.{All-at}
use Rattle.zk_line.specs.declared.types.Decl.{Decl}
use Rattle.zk_line.specs.Objects.{places_from, places, is_thread, is_queue}
use Rattle.zk_scenario.specs.Players.{players}

places_from-below : (n : ℕ) (test : Decl → Bool) (decls : List Decl) → All (λ o. o < n + length decls) (places_from n test decls)
places_from-below n test [] = let P : ℕ → Type 0 = λ o. o < n + length {A = Decl} [] in All-nil P
places_from-below n test (d ∷ ds) =
    let P : ℕ → Type 0 = λ o. o < n + length (d ∷ ds) in
    let same : (n + 1) + length ds ≡ n + length (d ∷ ds) = omega arith in
    let more : All P (places_from (n + 1) test ds) =
    subst (λ (m : ℕ). All (λ o. o < m) (places_from (n + 1) test ds)) same (places_from-below (n + 1) test ds) in
    elim (test d) as (λ b. All P (cond b (n ∷ places_from (n + 1) test ds) (places_from (n + 1) test ds)))
    [ true ↦ All-cons P n (places_from (n + 1) test ds) (omega arith) more | false ↦ more ]

-- each object of a kind is declared
pub places-below : (test : Decl → Bool) (decls : List Decl) → All (λ o. o < length decls) (places test decls)
places-below test decls =
    let same : 0 + length decls ≡ length decls = omega arith in
    subst (λ (m : ℕ). All (λ o. o < m) (places test decls)) same (places_from-below 0 test decls)

-- the object of each player is declared
pub players-below : (decls : List Decl) (number object : ℕ) → slice_get (players decls) number ≡ Some object → object < length decls
players-below decls number object is =
    let P : ℕ → Type 0 = λ o. o < length decls in
    All-at P (players decls) number object
    (All-append P (places is_thread decls) (places is_queue decls) (places-below is_thread decls) (places-below is_queue decls)) is
