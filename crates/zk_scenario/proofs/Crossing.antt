-- A scenario is shared by threads.
use denote.Param.Send.{IsSync, sendable}
use Rattle.std.proofs.Crossing.{crosses}
use Rattle.zk_line.proofs.Crossing.{declared_sync, call_sync, objects_part}
use Rattle.zk_scenario.specs.contracts.scenario.Scenario as scenario
use Rattle.zk_scenario.specs.contracts.scripts.Scripts as scripts
use Rattle.zk_scenario.specs.contracts.types.Script as script

script_sync : IsSync script.the_row
script_sync = search (call_sync, sendable, crosses) depth 60 fits 20000

scripts_part : IsSync (scripts.the_field).row
scripts_part = search (script_sync, sendable, crosses) depth 60 fits 20000

pub scenario_part : IsSync (scenario.the_field).row
scenario_part = search (objects_part, scripts_part, declared_sync, sendable, crosses) depth 60 fits 20000
