use Rattle.std.specs.Prelude.{◌≡◌}
use Rattle.zk_scenario.specs.Content.{Content}
use Rattle.zk_worker.specs.Machines.{machines_of}
use Rattle.zk_trace.specs.declared.trace.Trace.{Trace}
use Rattle.zk_world.specs.Traces.{ending_at, world_trace}
use Rattle.zk_world.specs.World.{World}
use Rattle.zk_replay.specs.RoundRobin.{IsRun}

-- the trace of a run that came to this world
abbrev pub trace_of : Content → World → Trace
trace_of s w = world_trace s (ending_at s w) w

-- the trace of the round robin run of a scenario
abbrev pub IsReplay : Content → Trace → Type 0
IsReplay s t = (w : World) × IsRun (machines_of s) s w × (t ≡ trace_of s w)
