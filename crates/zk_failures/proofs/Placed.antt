-- A trace in form is placed where no line and no player is misplaced, and only there.
use Rattle.std.proofs.Common.{◌≡◌, ◌⊎◌, ℕ, ◌<◌, ◌≤◌, false, Some, length, ap, ◌∙◌, inl, inr, arith}
use Rattle.std.specs.List.{range_with_len, slice_get}
use Rattle.std.specs.Option.{option_and_then}
use Rattle.std.proofs.lemmas.Bool.{cases_lt}
use Rattle.std.proofs.lemmas.Option.{slice_get_within}
use Rattle.zk_scenario.specs.Content.{Content}
use Rattle.zk_scenario.specs.Players.{players}
use Rattle.zk_scenario.specs.Steps as scenario_steps
use Rattle.zk_worker.specs.declared.log.Log.{Log}
use Rattle.zk_worker.specs.declared.steps.Spot.{Spot}
use Rattle.zk_worker.specs.Shown.{shown_at, is_look}
use Rattle.zk_trace.specs.declared.trace.Trace.{Trace}
use Rattle.zk_trace.specs.Form.{IsInForm}
use Rattle.zk_trace.specs.Place.{IsPlaced}
use Rattle.zk_trace.specs.Shown.{trace_shown}
use Rattle.zk_trace.specs.Stood.{stood}
use Rattle.zk_trace.proofs.LinesOnce.{line_at}
use Rattle.zk_failures.specs.First.{HoldsNowhere}
use Rattle.zk_failures.specs.PlaceFailure.{IsMisplaced, IsNumbered, step_numbers, IsGapped}
use Rattle.zk_failures.proofs.PlacedLists.{each-in, there-is}
use Rattle.zk_failures.proofs.PlacedLooks.{item-looks-same, signal-looks-same}
use Rattle.zk_failures.proofs.PlacedNumbers.{same-or-not}
use Rattle.zk_failures.proofs.PlacedOrder.{rise-nowhere, nowhere-rise, rises-of-rows, distinct-rows, rows-of-rises}
use Rattle.zk_failures.proofs.PlacedRows.{row-of-shown, rows-shown}
use Rattle.zk_failures.proofs.PlacedSteps.{AreNumbered, logs-long, steps-long, row-by-number, step-by-number, are-numbered}

module _ (s : Content) (t : Trace) (form : IsInForm s t) where
  -- a log is a player's
  of-player : (number : ℕ) → number < length t.logs → number < length (players s.decls)
  of-player number within = let long = logs-long s t form in omega arith

  -- no player has a gap
  pub numbers-nowhere : HoldsNowhere (IsGapped s t) → AreNumbered t
  numbers-nowhere nowhere number within =
      by (same-or-not (step_numbers (stood t) number) (range_with_len 0 (length (step_numbers (stood t) number))))
    where
      by : (IsNumbered (step_numbers (stood t) number) ⊎ (IsNumbered (step_numbers (stood t) number) → ⊥)) → IsNumbered (step_numbers (stood t) number)
      by (inl is) = is
      by (inr other) = absurd (nowhere number (record { one = of-player number within; gap = inl other }))

  module _ (nowhere : HoldsNowhere (IsGapped s t)) where
    short : (number : ℕ) (log : Log) → slice_get t.logs number ≡ Some log → length log.steps ≤ scenario_steps.steps_of s
    short number log there = by (cases_lt (scenario_steps.steps_of s) (length (step_numbers (stood t) number))) (steps-long s t form number log there) where
      by : ((scenario_steps.steps_of s < length (step_numbers (stood t) number)) ⊎ (length (step_numbers (stood t) number) ≤ scenario_steps.steps_of s)) →
          length log.steps ≡ length (step_numbers (stood t) number) → length log.steps ≤ scenario_steps.steps_of s
      by (inl more) long = absurd (nowhere number (record { one = of-player number (slice_get_within t.logs number log there); gap = inr more }))
      by (inr few) long = omega arith

    stands : (number step : ℕ) (spot : Spot) (log : Log) → slice_get t.logs number ≡ Some log → slice_get log.steps step ≡ Some spot → is_look spot ≡ false →
        shown_at (trace_shown t) spot ≡ Some (number, step)
    stands number step spot log there here entry =
        each-in (λ l. is_look l.spot ≡ false → shown_at (trace_shown t) l.spot ≡ Some (l.player, l.step)) (stood t) (line_at number step spot) (rows-shown t)
        (row-by-number s t form (numbers-nowhere nowhere) number log step spot there here) entry

    each : (spot : Spot) (number step : ℕ) → shown_at (trace_shown t) spot ≡ Some (number, step) → option_and_then (λ log. slice_get log.steps step) (slice_get t.logs number) ≡ Some spot
    each spot number step is =
        let found = step-by-number s t form (numbers-nowhere nowhere) (line_at number step spot) (row-of-shown t spot number step is) in
        ap (option_and_then (λ (log : Log). slice_get log.steps step)) found.1 ∙ found.2

  -- where no line and no player is misplaced, the trace is placed
  pub placed : HoldsNowhere (IsMisplaced (stood t)) → HoldsNowhere (IsGapped s t) → IsPlaced s t
  placed none nowhere = record {
    short = short nowhere;
    stands = stands nowhere;
    each = each nowhere;
    item_looks = item-looks-same s t form (numbers-nowhere nowhere);
    signal_looks = signal-looks-same s t form (numbers-nowhere nowhere);
    rises = rises-of-rows t (rise-nowhere (stood t) none);
  }

  module _ (fits : IsPlaced s t) where
    -- in a placed trace no line is misplaced
    pub misplaced-never : HoldsNowhere (IsMisplaced (stood t))
    misplaced-never =
        let numbers = are-numbered s t form fits in
        nowhere-rise (stood t) (rows-of-rises s t form numbers fits.rises) (distinct-rows s t form numbers)

    -- and no player
    pub gapped-never : HoldsNowhere (IsGapped s t)
    gapped-never number is = by is.gap where
      by : ((IsNumbered (step_numbers (stood t) number) → ⊥) ⊎ (scenario_steps.steps_of s < length (step_numbers (stood t) number))) → ⊥
      by (inl other) = other (are-numbered s t form fits number (let long = logs-long s t form in let one = is.one in omega arith))
      by (inr more) =
          let log = there-is t.logs number (let long = logs-long s t form in let one = is.one in omega arith) in
          let few = fits.short number log.0 log.1 in
          let long = steps-long s t form number log.0 log.1 in
          omega arith
