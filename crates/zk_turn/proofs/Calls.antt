-- Steps of a player's own entries and of the whole history.
use Rattle.std.proofs.Common.{◌≡◌, ℕ, ◌+◌, ◌<◌, ◌≤◌, Bool, true, false, ◌||◌, cond, Option, Some, None, Result, Ok, Err, List, [], ◌∷◌, ◌++◌, All, refl, sym, ap, subst, arith, eq-eqb}
use Rattle.std.proofs.lemmas.List.Elements.{All-nil, All-cons, All-head, All-tail, All-append, All-weaker, All-filter}
use Rattle.zk_base.specs.declared.ids.Who.{Who}
use Rattle.zk_base.specs.declared.ids.Entry.{Entry}
use Rattle.zk_base.specs.History.{entry, IsAbove}
use Rattle.zk_turn.specs.Calls.{entries_made}
use Rattle.zk_turn.specs.Players.{is_by, own}

-- an answer comes with one entry at most
pub entries_made-few : {A E : Type 0} (answer : Result (Option A) E) → entries_made answer ≤ 1
entries_made-few (Ok (Some made)) = omega arith
entries_made-few (Ok None) = omega arith
entries_made-few (Err e) = omega arith

module _ {O R : Type 0} where
  -- a step above those of the player's own entries is above those of its entries in the whole history
  pub IsAbove-from_own : (w : Who) (h : List (Entry O R)) (step : ℕ) → IsAbove (own (w ∷ []) h) w.number step →
      IsAbove h w.number step
  IsAbove-from_own w [] step above = above
  IsAbove-from_own w (e ∷ es) step above = by_case (is_by (w ∷ []) e) refl (IsAbove-from_own w es step) where
    P : Entry O R → Type 0
    P = λ f. f.who.number ≡ w.number → f.step < step

    by_case : (b : Bool) → is_by (w ∷ []) e ≡ b → (IsAbove (own (w ∷ []) es) w.number step → IsAbove es w.number step) →
        IsAbove (e ∷ es) w.number step
    by_case true mine behind =
        let all = subst (All P) (ap (λ b. cond b (e ∷ own (w ∷ []) es) (own (w ∷ []) es)) mine) above in
        All-cons P e es (All-head P e (own (w ∷ []) es) all) (behind (All-tail P e (own (w ∷ []) es) all))
    by_case false other behind =
        let all = subst (All P) (ap (λ b. cond b (e ∷ own (w ∷ []) es) (own (w ∷ []) es)) other) above in
        All-cons P e es (λ same. let mine = ap (λ b. b || false) (eq-eqb w.number e.who.number (sym same)) in
        absurd (cc)) (behind all)

  -- the step after an entry's is above those of the player's own entries with it
  pub IsAbove-own_push : (ws : List Who) (w : Who) (h : List (Entry O R)) (step : ℕ) (op : O) (reply : R) →
      IsAbove h w.number step → IsAbove (own ws (h ++ entry w step op reply ∷ [])) w.number (step + 1)
  IsAbove-own_push ws w h step op reply above =
      let P : Entry O R → Type 0 = λ f. f.who.number ≡ w.number → f.step < step in
      let Q : Entry O R → Type 0 = λ f. f.who.number ≡ w.number → f.step < step + 1 in
      let e = entry w step op reply in
      All-filter (is_by ws) Q (h ++ e ∷ [])
      (All-append Q h (e ∷ []) (All-weaker P Q (λ f below same. let less = below same in omega arith) h above)
      (All-cons Q e [] (λ same. omega arith) (All-nil Q)))
