-- Whom a test decides: how many there are, and what holds of their decisions.
use Rattle.std.proofs.Common.{◌≡◌, ℕ, ◌+◌, not, cond, eqb, Option, Some, None, is_some, List, [], ◌∷◌, ◌++◌, length, map, All, refl, ap, arith}
use Rattle.std.specs.List.{filter, count_by}
use Rattle.std.proofs.lemmas.List.Elements.{All-nil, All-cons, All-head, All-tail}
use Rattle.std.proofs.lemmas.List.Sums.{sum_by-cons}
use Rattle.zk_base.specs.declared.waits.Waiter.{Waiter}
use Rattle.zk_base.specs.declared.waits.Decision.{Decision}
use Rattle.zk_base.specs.Waits.{says, is_left, decide, decided_by, decisions_by}
use Rattle.zk_base.proofs.Firsts.{one_if}

module _ {M A : Type 0} (test : M → Option A) where
  -- each is left or decided
  pub length-tested : (ws : List (Waiter M)) →
      length (filter (is_left test) ws) + length (decisions_by test ws) ≡ length ws
  length-tested [] = refl
  length-tested (w ∷ ws) = by (says test w) (length-tested ws) where
    by : (o : Option A) → length (filter (is_left test) ws) + length (decisions_by test ws) ≡ length ws →
        length (cond (not (is_some o)) (w ∷ filter (is_left test) ws) (filter (is_left test) ws))
        + length (decided_by o w ++ decisions_by test ws) ≡ length (w ∷ ws)
    by None rest = omega arith
    by (Some answer) rest = omega arith

  -- at its place
  pub count-tested : (place : ℕ) (ws : List (Waiter M)) →
      count_by (λ (w : Waiter M). eqb w.place place) (filter (is_left test) ws)
      + count_by (λ (d : Decision A). eqb d.place place) (decisions_by test ws)
      ≡ count_by (λ (w : Waiter M). eqb w.place place) ws
  count-tested place [] = refl
  count-tested place (w ∷ ws) = by (says test w) (count-tested place ws) where
    left : List (Waiter M)
    left = filter (is_left test) ws

    by : (o : Option A) → count_by (λ (w : Waiter M). eqb w.place place) left
        + count_by (λ (d : Decision A). eqb d.place place) (decisions_by test ws)
        ≡ count_by (λ (w : Waiter M). eqb w.place place) ws →
        count_by (λ (w : Waiter M). eqb w.place place) (cond (not (is_some o)) (w ∷ left) left)
        + count_by (λ (d : Decision A). eqb d.place place) (decided_by o w ++ decisions_by test ws)
        ≡ count_by (λ (w : Waiter M). eqb w.place place) (w ∷ ws)
    by None rest =
        omega (
          arith,
          sum_by-cons (λ (v : Waiter M). one_if (eqb v.place place)) w left,
          sum_by-cons (λ (v : Waiter M). one_if (eqb v.place place)) w ws,
        )
    by (Some answer) rest =
        omega (
          arith,
          sum_by-cons (λ (v : Waiter M). one_if (eqb v.place place)) w ws,
          sum_by-cons (λ (d : Decision A). one_if (eqb d.place place)) (decide answer w) (decisions_by test ws),
        )

  -- what holds of the decision of a waiter, if the test has an answer for it
  abbrev pub IfDecided : (Decision A → Type 0) → Waiter M → Type 0
  IfDecided P w = (answer : A) → says test w ≡ Some answer → P (decide answer w)

  -- what holds of the decision of each for whom the test has an answer holds of all decisions
  pub All-decisions : (P : Decision A → Type 0) (ws : List (Waiter M)) → All (IfDecided P) ws → All P (decisions_by test ws)
  All-decisions P [] held = All-nil P
  All-decisions P (w ∷ ws) held =
      by (says test w) refl (All-decisions P ws (All-tail (IfDecided P) w ws held)) where
        by : (o : Option A) → says test w ≡ o → All P (decisions_by test ws) → All P (decided_by o w ++ decisions_by test ws)
        by None is rest = rest
        by (Some answer) is rest =
            All-cons P (decide answer w) (decisions_by test ws) (All-head (IfDecided P) w ws held answer is) rest

-- a test with one answer for all decides all alike
pub decisions-alike : {M A : Type 0} (answer : A) (ws : List (Waiter M)) → decisions_by (λ _. Some answer) ws ≡ map (decide answer) ws
decisions-alike answer [] = refl
decisions-alike {M} {A} answer (w ∷ ws) = ap (λ (l : List (Decision A)). decide answer w ∷ l) (decisions-alike answer ws)
