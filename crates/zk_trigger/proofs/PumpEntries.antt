-- What a pump has taken, submitted and owes, through its two calls.
use Rattle.std.proofs.Common.{◌≡◌, ℕ, ◌+◌, ◌<◌, Bool, true, false, ◌||◌, cond, eqb, List, [], ◌∷◌, ◌++◌, refl, sym, ap, subst, ◌∙◌, arith}
use Rattle.std.proofs.lemmas.Bool.{eq-eqb}
use Rattle.std.proofs.lemmas.List.{append-nil}
use Rattle.std.proofs.lemmas.List.Elements.{All-weaker, filter-append}
use Rattle.zk_base.specs.declared.ids.Who.{Who}
use Rattle.zk_base.specs.declared.ids.Entry.{Entry}
use Rattle.zk_base.specs.History.{entry, IsAbove}
use Rattle.zk_base.specs.Legal.{Machine}
use Rattle.zk_base.proofs.Order.{filter_none}
use Rattle.zk_turn.specs.Calls.{IsEntered}
use Rattle.zk_turn.specs.Players.{is_by, own, GoesOn}

-- entries of others are none of one's own
pub own-others : {O R : Type 0} (players : List Who) (old new : List (Entry O R)) → GoesOn players old new →
    own players new ≡ own players old
own-others {O} {R} players old new goes =
    ap (own players) goes.longer
    ∙ filter-append (is_by players) old goes.later
    ∙ ap (λ (l : List (Entry O R)). own players old ++ l) (filter_none (is_by players) goes.later goes.others)
    ∙ append-nil (own players old)

by-itself : (number : ℕ) → (eqb number number || false) ≡ true
by-itself number = ap (λ (b : Bool). b || false) (eq-eqb number number refl)

-- an entry of one's own is one more of them
pub own-entered : {S O R : Type 0} (m : Machine S O R) (start : S) (who : Who) (step : ℕ) (op : O) (reply : R) (place : ℕ)
    (old new : List (Entry O R)) → IsEntered m start who step op reply place old new →
    own (who ∷ []) new ≡ own (who ∷ []) old ++ entry who step op reply ∷ []
own-entered {S} {O} {R} m start who step op reply place old new made =
    let e : Entry O R = entry who step op reply in
    ap (own (who ∷ [])) made.entered
    ∙ filter-append (is_by (who ∷ [])) made.found (e ∷ [])
    ∙ ap (λ (l : List (Entry O R)). l ++ own (who ∷ []) (e ∷ [])) (own-others (who ∷ []) old made.found made.since)
    ∙ ap (λ (b : Bool). own (who ∷ []) old ++ cond b (e ∷ []) []) (by-itself who.number)

-- a later step is above too
pub above-more : {O R : Type 0} (h : List (Entry O R)) (number step : ℕ) → IsAbove h number step → IsAbove h number (step + 1)
above-more {O} {R} h number step above =
    All-weaker (λ (e : Entry O R). e.who.number ≡ number → e.step < step)
    (λ (e : Entry O R). e.who.number ≡ number → e.step < step + 1)
    (λ e is same. let below = is same in omega arith) h above

-- where no entry was made the steps are as they were
pub above-same : {O R : Type 0} (who : Who) (players players' : List Who) (old new : List (Entry O R)) (step : ℕ) →
    players' ≡ players → players ≡ who ∷ [] → GoesOn (who ∷ []) old new → IsAbove (own players old) who.number step →
    IsAbove (own players' new) who.number step
above-same {O} {R} who players players' old new step same alone goes above =
    subst (λ (l : List (Entry O R)). IsAbove l who.number step)
    (ap (λ (l : List Who). own l old) alone ∙ sym (own-others (who ∷ []) old new goes)
    ∙ ap (λ (l : List Who). own l new) (sym (same ∙ alone))) above
