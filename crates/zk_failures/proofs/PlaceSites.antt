-- The line that is told where a place is wrong.
use Rattle.std.proofs.Common.{◌≡◌, ℕ, ◌<◌, Option, List, length, sym, subst, arith}
use Rattle.std.specs.Prelude.{MatchOption}
use Rattle.zk_scenario.specs.Content.{Content}
use Rattle.zk_scenario.specs.Players.{players}
use Rattle.zk_scenario.specs.Steps.{steps_of}
use Rattle.zk_trace.specs.declared.stood.Stood.{Stood}
use Rattle.zk_trace.specs.declared.trace.Trace.{Trace}
use Rattle.zk_trace.specs.Form.{IsInForm}
use Rattle.zk_trace.specs.Stood.{stood}
use Rattle.zk_failures.specs.declared.own.Own.{Own}
use Rattle.zk_failures.specs.First.{IsFirst, HoldsNowhere}
use Rattle.zk_failures.specs.Own.{AreOwn, IsGapAt}
use Rattle.zk_failures.specs.Parts.{AreBelow, AreTogether}
use Rattle.zk_failures.specs.PlaceFailure.{IsMisplaced, IsGapped}
use Rattle.zk_failures.proofs.Gaps.{gaps-nowhere, gap-first}
use Rattle.zk_failures.proofs.PlacedLists.{each-in}
use Rattle.zk_failures.proofs.PlacedSteps.{logs-long, players-known}
use Rattle.zk_failures.proofs.Together.{together}

-- the lines of a trace in form are of its players
pub below : (s : Content) (t : Trace) → IsInForm s t → (count : ℕ) → count ≡ length (players s.decls) → AreBelow count (stood t)
below s t form count same place line there =
    let known = each-in (λ l. l.player < length t.logs) (stood t) line (players-known s t form) (place, there) in
    let long = logs-long s t form in
    omega (arith, known, long, same)

abbrev MisplacedAt : List Stood → Option ℕ → Type 0
MisplacedAt rows place = MatchOption place (HoldsNowhere (IsMisplaced rows)) (λ place. IsFirst (IsMisplaced rows) place)

-- what was found of its lines holds of the trace
pub found : (s : Content) (t : Trace) → IsInForm s t → (rows : List Stood) → rows ≡ stood t → (count : ℕ) → count ≡ length (players s.decls) → (place : Option ℕ) →
    (AreTogether rows → AreBelow count rows → MisplacedAt rows place) → MisplacedAt (stood t) place
found s t form rows same count many place finds =
    subst (λ (ls : List Stood). MisplacedAt ls place) same
    (finds (subst AreTogether (sym same) (together t)) (subst (AreBelow count) (sym same) (below s t form count many)))

-- and what was found of its players too, where no line is misplaced
module _ (s : Content) (t : Trace) (rows : List Stood) (owns lent : List Own) (most : ℕ) (same : rows ≡ stood t) (are : AreOwn rows owns) (nowhere : HoldsNowhere (IsMisplaced (stood t)))
    (count : length owns ≡ length (players s.decls)) (lent_is : lent ≡ owns) (most_is : most ≡ steps_of s) where
  all-are : AreOwn (stood t) owns
  all-are = subst (λ (ls : List Stood). AreOwn ls owns) same are

  gap-at : (player : ℕ) → IsGapAt (steps_of s) owns player → IsGapAt most lent player
  gap-at player g = subst (λ (n : ℕ). IsGapAt n lent player) (sym most_is) (subst (λ (os : List Own). IsGapAt (steps_of s) os player) (sym lent_is) g)

  gap-of : (player : ℕ) → IsGapAt most lent player → IsGapAt (steps_of s) owns player
  gap-of player g = subst (λ (os : List Own). IsGapAt (steps_of s) os player) lent_is (subst (λ (n : ℕ). IsGapAt n lent player) most_is g)

  pub first-gap : (player : ℕ) → IsFirst (IsGapAt most lent) player → IsFirst (IsGapped s t) player
  first-gap player first =
      gap-first s t owns all-are nowhere count player
      (record { fails = gap-of player first.fails; none_before = λ earlier lower g. first.none_before earlier lower (gap-at earlier g) })

  pub no-gap : HoldsNowhere (IsGapAt most lent) → HoldsNowhere (IsGapped s t)
  no-gap none = gaps-nowhere s t owns all-are nowhere count (λ player g. none player (gap-at player g))
