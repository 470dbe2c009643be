-- Inner: no contract of a top call is made of this file.
-- Which steps want no memory at the services that callers share.
use Rattle.std.specs.Prelude.{Bool, true}
use Rattle.zk_base.specs.declared.ids.Who.{Who}
use Rattle.zk_services.specs.Memory.{closes}
use Rattle.zk_worker.specs.declared.steps.Step.{Step}
use Rattle.zk_worker.specs.declared.steps.Step.TheVariants as steps
use Rattle.zk_worker.specs.Machines.{Machines}
use Rattle.zk_worker.specs.Shown.{Shown}

-- whether a step wants no memory where this is shown: none at plain services, or it writes to a signal, which takes no turn
abbrev pub wants_none : Machines → Shown → Who → Step → Bool
wants_none m shown who (steps.Signal object op) = true
wants_none m shown who step = closes m shown who step
