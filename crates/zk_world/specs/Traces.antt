use Rattle.std.specs.Prelude.{Bool, ◌&&◌, if◌then◌else◌, List, map}
use Rattle.std.specs.List.{list_all}
use Rattle.zk_base.specs.Legal.{state_after}
use Rattle.zk_scenario.specs.Content.{Content}
use Rattle.zk_model_work.specs.Machine.{work_machine}
use Rattle.zk_worker.specs.Places.{PlayerPlace}
use Rattle.zk_worker.specs.Follows.{is_done, log_of}
use Rattle.zk_worker.specs.Machines.{work_start_of}
use Rattle.zk_trace.specs.declared.trace.Ending.{Ending}
use Rattle.zk_trace.specs.declared.trace.Ending.TheVariants.{Ended, Stuck, Spent}
use Rattle.zk_trace.specs.declared.trace.Trace.{Trace}
use Rattle.zk_trace.specs.Ending.{none_waits}
use Rattle.zk_trace.specs.History.{AreLegal}
use Rattle.zk_trace.specs.Log.{AreLogged}
use Rattle.zk_trace.specs.Look.{AreRight}
use Rattle.zk_trace.specs.Place.{IsPlaced}
use Rattle.zk_gathering.specs.Gathered.{gathered}
use Rattle.zk_world.specs.World.{World, is_spent}

-- each thread is through its script or was ended by an oops, and each worker is between two runs
abbrev pub all_done : List PlayerPlace → Bool
all_done players = list_all (λ at. is_done at.frames) players

-- how it ended that comes to this world: spent where a player has made all its steps, else ended where all are done and no
-- admission waits
abbrev pub ending_at : Content → World → Ending
ending_at s w =
    if is_spent s w then Spent else
    if all_done w.players && none_waits (state_after work_machine (work_start_of s) w.shown.work)
    then Ended else Stuck

-- the trace of what came to this world, with this ending
abbrev pub world_trace : Content → Ending → World → Trace
world_trace s ending w = gathered ending w.shown (map (log_of s) w.players)

-- a trace says what was done: it has all that a lawful one has but its ending
pub record IsFaithful (s : Content) (t : Trace) : Type 0 where
  pub place : IsPlaced s t
  pub history : AreLegal s t
  pub log : AreLogged s t
  pub look : AreRight s t
