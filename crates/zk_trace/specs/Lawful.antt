use Rattle.zk_scenario.specs.Content.{Content}
use Rattle.zk_trace.specs.declared.trace.Trace.{Trace}
use Rattle.zk_trace.specs.Place.{IsPlaced}
use Rattle.zk_trace.specs.History.{AreLegal}
use Rattle.zk_trace.specs.Log.{AreLogged}
use Rattle.zk_trace.specs.Look.{AreRight}
use Rattle.zk_trace.specs.Ending.{EndsSo}

-- a trace is lawful for a scenario
pub record IsLawful (s : Content) (t : Trace) : Type 0 where
  -- each step stands in one entry or look
  pub place : IsPlaced s t
  -- the histories are those of the services
  pub history : AreLegal s t
  -- the logs are those of the players
  pub log : AreLogged s t
  -- what its players found when they looked is right, and none of it older than what they had seen
  pub look : AreRight s t
  -- it ends as these say, where these end
  pub ending : EndsSo s t
