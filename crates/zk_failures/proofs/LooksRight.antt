-- Where no look is wrong the looks are right, and where they are right none is wrong.
use Rattle.std.proofs.Common.{◌≡◌, ℕ, Some}
use Rattle.std.specs.List.{slice_get}
use Rattle.zk_scenario.specs.Content.{Content}
use Rattle.zk_worker.specs.declared.log.Log.{Log}
use Rattle.zk_worker.specs.declared.steps.Spot.{Spot}
use Rattle.zk_trace.specs.declared.stood.Stood.{Stood}
use Rattle.zk_trace.specs.declared.trace.Trace.{Trace}
use Rattle.zk_trace.specs.Form.{IsInForm}
use Rattle.zk_trace.specs.Look.{AreRight}
use Rattle.zk_trace.specs.Place.{IsPlaced}
use Rattle.zk_trace.proofs.LinesOnce.{line_at}
use Rattle.zk_failures.specs.First.{HoldsNowhere}
use Rattle.zk_failures.specs.LookFailure.{IsRow, IsWrong}
use Rattle.zk_failures.proofs.LooksByStep.{AllFit, all-fit, fits-stable, right-all}
use Rattle.zk_failures.proofs.PlacedSteps.{are-numbered, row-by-number, step-of-row}

module _ (s : Content) (t : Trace) (form : IsInForm s t) (placed : IsPlaced s t) where
  -- a step of a log has its line
  pub row : (player step : ℕ) (log : Log) (spot : Spot) → slice_get t.logs player ≡ Some log → slice_get log.steps step ≡ Some spot → IsRow t (line_at player step spot)
  row player step log spot logged there = row-by-number s t form (are-numbered s t form placed) player log step spot logged there

  -- and a line is a step of a log
  pub stepped : (line : Stood) → IsRow t line → (log : Log) × (slice_get t.logs line.player ≡ Some log) × (slice_get log.steps line.step ≡ Some line.spot)
  stepped line is = step-of-row s t form placed is.0 line is.1

  -- where each look fits they are right
  pub fitting-right : AllFit s t → AreRight s t
  fitting-right fit = right-all s t placed row stepped fit

  -- so where none is wrong
  pub right : HoldsNowhere (IsWrong s t) → AreRight s t
  right nowhere = fitting-right (λ line at look. fits-stable s t line (λ isnt. nowhere at.0 (record { line = line; there = at.1; look = look; wrong = isnt })))

  -- and where they are right none is wrong
  pub wrong-never : AreRight s t → (place : ℕ) → IsWrong s t place → ⊥
  wrong-never right place wrong = wrong.wrong (all-fit s t placed row stepped right wrong.line (place, wrong.there))
