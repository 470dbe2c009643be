-- The script of an object, and the table of the scripts' places.
use Rattle.std.proofs.Common.{◌≡◌, ℕ, zero, suc, ◌+◌, ◌<◌, Bool, true, false, cond, eqb, Option, None, Some, List, [], ◌∷◌, ◌++◌, length, set, slice_get, get_or, is_some, refl, sym, ap, ◌∙◌, ⊎_elim, arith}
use Rattle.std.specs.List.{position_from}
use Rattle.std.specs.Option.{option_flatten}
use Rattle.std.proofs.lemmas.Bool.{cases_Bool, eqb-true, cond-true, cond-false}
use Rattle.std.proofs.lemmas.Iterator.Adapters.{position_from-zero}
use Rattle.std.proofs.lemmas.List.Quantifiers.{position-Some}
use Rattle.zk_scenario.specs.declared.types.Script.{Script}
use Rattle.zk_scenario.specs.Players.{calls_of}
use Rattle.zk_scenario.specs.Scripts.{script_of, IsByOwner}
use Rattle.zk_line.proofs.Lists.{position-push, slice_get-set}

calls_from-none : (n : ℕ) (ss : List Script) (owner : ℕ) → position_from (λ s. eqb s.owner owner) n ss ≡ None → calls_of ss owner ≡ []
calls_from-none n [] owner e = refl
calls_from-none n (s ∷ ss) owner e = step (eqb s.owner owner) e (λ rest. calls_from-none (n + 1) ss owner rest) where
  step : (b : Bool) → cond b (Some n) (position_from (λ s. eqb s.owner owner) (n + 1) ss) ≡ None → (position_from (λ s. eqb s.owner owner) (n + 1) ss ≡ None → calls_of ss owner ≡ []) → cond b s.calls (calls_of ss owner) ≡ []
  step true e rest = absurd (cc)
  step false e rest = rest e

-- what has no script has no calls
pub calls_of-none : (ss : List Script) (owner : ℕ) → script_of ss owner ≡ None → calls_of ss owner ≡ []
calls_of-none ss owner e = calls_from-none 0 ss owner (sym (position_from-zero (λ s. eqb s.owner owner) ss) ∙ e)

calls_at : (ss : List Script) (owner k : ℕ) (d : Script) → k < length ss → eqb (get_or ss k d).owner owner ≡ true → ((j : ℕ) → j < k → eqb (get_or ss j d).owner owner ≡ false) → calls_of ss owner ≡ (get_or ss k d).calls
calls_at [] owner k d h here before = absurd (omega arith)
calls_at (s ∷ ss) owner zero d h here before = cond-true (eqb s.owner owner) s.calls (calls_of ss owner) here
calls_at (s ∷ ss) owner (suc k) d h here before =
    cond-false (eqb s.owner owner) s.calls (calls_of ss owner) (before 0 (omega arith)) ∙ calls_at ss owner k d (omega arith) here (λ j below. before (suc j) (omega arith))

-- what has one has the calls of that script
pub calls_of-some : (ss : List Script) (owner k : ℕ) (d : Script) → script_of ss owner ≡ Some k → calls_of ss owner ≡ (get_or ss k d).calls
calls_of-some ss owner k d e =
    let found = position-Some (λ s. eqb s.owner owner) ss k d e in
    calls_at ss owner k d found.0 found.1 found.2

-- the script of an object, with one script more of an object that had none
pub script_of-push : (ss : List Script) (s : Script) (owner : ℕ) → script_of ss s.owner ≡ None → script_of (ss ++ s ∷ []) owner ≡ cond (eqb s.owner owner) (Some (length ss)) (script_of ss owner)
script_of-push ss s owner fresh =
    position-push (λ x. eqb x.owner owner) ss s ∙ ⊎_elim
    (λ same. let none : script_of ss owner ≡ None = ap (script_of ss) (sym (eqb-true s.owner owner same)) ∙ fresh in
    ap (λ o. cond (is_some o) o (cond (eqb s.owner owner) (Some (length ss)) None)) none ∙ ap (λ b. cond b (Some (length ss)) None) same ∙ sym (cond-true (eqb s.owner owner) (Some (length ss)) (script_of ss owner) same))
    (λ other. ap (λ b. cond (is_some (script_of ss owner)) (script_of ss owner) (cond b (Some (length ss)) None)) other ∙ kept (script_of ss owner) ∙ sym (cond-false (eqb s.owner owner) (Some (length ss)) (script_of ss owner) other))
    (cases_Bool (eqb s.owner owner)) where
      kept : (o : Option ℕ) → cond (is_some o) o None ≡ o
      kept None = refl
      kept (Some k) = refl

-- the table of the places, with one script more
pub IsByOwner-push : (ss : List Script) (s : Script) (before wide : List (Option ℕ)) → IsByOwner ss before → script_of ss s.owner ≡ None
    → s.owner < length wide → ((k : ℕ) → option_flatten (slice_get wide k) ≡ option_flatten (slice_get before k)) → IsByOwner (ss ++ s ∷ []) (set wide s.owner (Some (length ss)))
IsByOwner-push ss s before wide held fresh long same owner =
    ap option_flatten (slice_get-set wide s.owner (Some (length ss)) owner long) ∙ under (eqb s.owner owner) (slice_get wide owner)
    ∙ ap (λ o. cond (eqb s.owner owner) (Some (length ss)) o) (same owner ∙ held owner) ∙ sym (script_of-push ss s owner fresh) where
      under : (b : Bool) (o : Option (Option ℕ)) → option_flatten (cond b (Some (Some (length ss))) o) ≡ cond b (Some (length ss)) (option_flatten o)
      under true o = refl
      under false o = refl
