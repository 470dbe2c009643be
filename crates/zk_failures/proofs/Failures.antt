-- A trace with a failure isn't lawful.
use Rattle.zk_scenario.specs.Content.{Content}
use Rattle.zk_trace.specs.declared.trace.Trace.{Trace}
use Rattle.zk_trace.specs.Form.{IsInForm}
use Rattle.zk_trace.specs.Lawful.{IsLawful}
use Rattle.zk_failures.specs.declared.site.Fail.{Fail}
use Rattle.zk_failures.specs.declared.site.Fail.TheVariants as fails
use Rattle.zk_failures.specs.declared.site.Site.{Site}
use Rattle.zk_failures.specs.declared.site.Site.TheVariants.{Ending, Row, Player, Answer}
use Rattle.zk_failures.specs.Failure.{IsFailure}
use Rattle.zk_failures.specs.HistoryFailure.{IsHistoryFailure}
use Rattle.zk_failures.specs.LookFailure.{IsLookFailure}
use Rattle.zk_failures.specs.PlaceFailure.{IsPlaceFailure}
use Rattle.zk_failures.proofs.Answered.{unlike-never}
use Rattle.zk_failures.proofs.LogsLed.{log-never}
use Rattle.zk_failures.proofs.LooksRight.{wrong-never}
use Rattle.zk_failures.proofs.Placed.{misplaced-never, gapped-never}

module _ (s : Content) (t : Trace) (form : IsInForm s t) where
  place-unlawful : (site : Site) → IsPlaceFailure s t site → IsLawful s t → ⊥
  place-unlawful (Row place) first lawful = misplaced-never s t form lawful.place place first.fails
  place-unlawful (Player player) first lawful = gapped-never s t form lawful.place player first.1.fails
  place-unlawful (Answer player place) first lawful = absurd first
  place-unlawful Ending first lawful = absurd first

  history-unlawful : (site : Site) → IsHistoryFailure s t site → IsLawful s t → ⊥
  history-unlawful (Row place) first lawful = unlike-never s t form lawful.history place first.fails
  history-unlawful (Player player) first lawful = absurd first
  history-unlawful (Answer player place) first lawful = absurd first
  history-unlawful Ending first lawful = absurd first

  look-unlawful : (site : Site) → IsLookFailure s t site → IsLawful s t → ⊥
  look-unlawful (Row place) first lawful =
      wrong-never s t form lawful.place lawful.look place first.fails
  look-unlawful (Player player) first lawful = absurd first
  look-unlawful (Answer player place) first lawful = absurd first
  look-unlawful Ending first lawful = absurd first

  pub failure-unlawful : (fail : Fail) (site : Site) → IsFailure s t fail site → IsLawful s t → ⊥
  failure-unlawful fails.Place site failure lawful = place-unlawful site failure lawful
  failure-unlawful fails.History site failure lawful = history-unlawful site failure.1 lawful
  failure-unlawful fails.Log site failure lawful = log-never s t site failure.2 lawful.log
  failure-unlawful fails.Look site failure lawful = look-unlawful site failure.3 lawful
  failure-unlawful fails.Ending Ending failure lawful = failure.4 lawful.ending
  failure-unlawful fails.Ending (Row place) failure lawful = absurd failure.4
  failure-unlawful fails.Ending (Player player) failure lawful = absurd failure.4
  failure-unlawful fails.Ending (Answer player place) failure lawful = absurd failure.4
