-- Inner: no contract of a top call is made of this file.
use Rattle.std.specs.Prelude.{Bool, true, false, []}
use Rattle.zk_line.specs.declared.types.Call.{Call}
use Rattle.zk_worker.specs.declared.steps.Step.TheVariants as steps
use Rattle.zk_worker.specs.declared.frames.Plan.{Plan}
use Rattle.zk_worker.specs.declared.frames.Plan.TheVariants.{One}
use Rattle.zk_worker.specs.Calls.{plan_of}

-- whether a call that goes so makes one step
abbrev pub is_one : Plan → Bool
is_one (One step) = true
is_one plan = false

-- whether it makes that one at the work service
abbrev pub is_one_at_work : Plan → Bool
is_one_at_work (One (steps.Work op)) = true
is_one_at_work plan = false

-- whether it makes that one at the object table
abbrev pub is_one_at_table : Plan → Bool
is_one_at_table (One (steps.Table op)) = true
is_one_at_table plan = false

-- whether a call makes one step: what is declared decides only about the numbers in it
abbrev pub makes_one : Call → Bool
makes_one call = is_one (plan_of [] call)

-- whether it makes that one at the work service
abbrev pub makes_one_at_work : Call → Bool
makes_one_at_work call = is_one_at_work (plan_of [] call)

-- whether it makes that one at the object table
abbrev pub makes_one_at_table : Call → Bool
makes_one_at_table call = is_one_at_table (plan_of [] call)
