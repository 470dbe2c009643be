use Rattle.zk_scenario.specs.Content.{Content}
use Rattle.zk_trace.specs.declared.trace.Trace.{Trace}
use Rattle.zk_trace.specs.Ending.{EndsSo}
use Rattle.zk_trace.specs.History.{AreLegal}
use Rattle.zk_trace.specs.Log.{AreLogged}
use Rattle.zk_trace.specs.Look.{AreRight}
use Rattle.zk_trace.specs.Place.{IsPlaced}
use Rattle.zk_failures.specs.declared.site.Fail.{Fail}
use Rattle.zk_failures.specs.declared.site.Fail.TheVariants as fails
use Rattle.zk_failures.specs.declared.site.Site.{Site}
use Rattle.zk_failures.specs.declared.site.Site.TheVariants.{Ending, Row, Player, Answer}
use Rattle.zk_failures.specs.PlaceFailure.{IsPlaceFailure}
use Rattle.zk_failures.specs.HistoryFailure.{IsHistoryFailure}
use Rattle.zk_failures.specs.LogFailure.{IsLogFailure}
use Rattle.zk_failures.specs.LookFailure.{IsLookFailure}

-- the ending isn't what it says
abbrev pub IsEndingFailure : Content → Trace → Site → Type 0
IsEndingFailure s t Ending = EndsSo s t → ⊥
IsEndingFailure s t (Row place) = ⊥
IsEndingFailure s t (Player player) = ⊥
IsEndingFailure s t (Answer player place) = ⊥

-- a trace isn't lawful for this reason, at this line of it: the reasons before it don't apply, and the line is the first that this one
-- names
abbrev pub IsFailure : Content → Trace → Fail → Site → Type 0
IsFailure s t fails.Place site = IsPlaceFailure s t site
IsFailure s t fails.History site = IsPlaced s t × IsHistoryFailure s t site
IsFailure s t fails.Log site = IsPlaced s t × AreLegal s t × IsLogFailure s t site
IsFailure s t fails.Look site = IsPlaced s t × AreLegal s t × AreLogged s t × IsLookFailure s t site
IsFailure s t fails.Ending site = IsPlaced s t × AreLegal s t × AreLogged s t × AreRight s t × IsEndingFailure s t site
