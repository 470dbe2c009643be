use Rattle.std.proofs.Common.{length, ◌∙◌}
use Rattle.std.proofs.lemmas.Option.{MatchOption-at_some, MatchOption-at_none}
use Rattle.zk_trace.specs.Stood.{stood}
use Rattle.zk_failures.specs.First.{IsFirst, HoldsNowhere}
use Rattle.zk_failures.specs.PlaceFailure.{IsMisplaced}
use Rattle.zk_failures.proofs.PlaceSites.{found, first-gap, no-gap}
use Rattle.zk_failures.proofs.place.place_failure.Goals as goal

pub returns-in-Some : goal.returns-in-Some
returns-in-Some c = λ t form same.
    let many = c.in_ok-owns.ensures.long ∙ c.players.ensures in
    MatchOption-at_some (HoldsNowhere (IsMisplaced (stood t))) (λ place. IsFirst (IsMisplaced (stood t)) place) c.in-Some.place c.in-Some.is
    (found c.args.scenario.now t form c.args.rows.now same (length c.in_ok-owns.owns.items) many c.in_ok-place.field-0 c.in_ok-place.ensures.place)

pub returns-in-Some-gapped : goal.returns-in-Some-gapped
returns-in-Some-gapped c = λ t form same.
    let s = c.args.scenario.now in
    let rows = c.args.rows.now in
    let many = c.in_ok-owns.ensures.long ∙ c.players.ensures in
    let nowhere = MatchOption-at_none (HoldsNowhere (IsMisplaced (stood t))) (λ place. IsFirst (IsMisplaced (stood t)) place) c.in_default.is
    (found s t form rows same (length c.in_ok-owns.owns.items) many c.in_ok-place.field-0 c.in_ok-place.ensures.place) in (
      nowhere,
      first-gap s t rows c.misplaced.new.owns.items c.deref.result.now c.steps.result same (c.in_ok-place.ensures.all c.in_default.is) nowhere
          (c.in_ok-place.ensures.long ∙ many) c.deref.ensures.value c.steps.ensures.steps c.in-Some-gapped.player c.in-Some-gapped.ensures,
    )

pub returns : goal.returns
returns c = λ t form same.
    let s = c.args.scenario.now in
    let rows = c.args.rows.now in
    let many = c.in_ok-owns.ensures.long ∙ c.players.ensures in
    let nowhere = MatchOption-at_none (HoldsNowhere (IsMisplaced (stood t))) (λ place. IsFirst (IsMisplaced (stood t)) place) c.in_default.is
    (found s t form rows same (length c.in_ok-owns.owns.items) many c.in_ok-place.field-0 c.in_ok-place.ensures.place) in (
      nowhere,
      no-gap s t rows c.misplaced.new.owns.items c.deref.result.now c.steps.result same (c.in_ok-place.ensures.all c.in_default.is) nowhere
          (c.in_ok-place.ensures.long ∙ many) c.deref.ensures.value c.steps.ensures.steps c.in-None.ensures,
    )
