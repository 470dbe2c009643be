-- Inner: no contract of a top call is made of this file.
-- Which steps want no memory at plain services.
use Rattle.std.specs.Prelude.{Bool, true, false}
use Rattle.zk_base.specs.declared.ids.Who.{Who}
use Rattle.zk_model_wait.specs.Clock.{clock_closes}
use Rattle.zk_model_wait.specs.Sem.{sem_closes}
use Rattle.zk_model_wait.specs.Msgq.{msgq_closes}
use Rattle.zk_model_bus.specs.Channel.{chan_closes}
use Rattle.zk_model_bus.specs.Observer.{obs_closes}
use Rattle.zk_work.specs.EngineState.{work_closes}
use Rattle.zk_worker.specs.declared.steps.Step.{Step}
use Rattle.zk_worker.specs.declared.steps.Step.TheVariants as steps
use Rattle.zk_worker.specs.Families.{closes_at}
use Rattle.zk_worker.specs.Machines.{Machines}
use Rattle.zk_worker.specs.Shown.{Shown}

-- whether a step wants no memory where this is shown: it ends what an earlier one began, which took the room for both, or it is a
-- look
abbrev pub closes : Machines → Shown → Who → Step → Bool
closes m shown who (steps.Work op) = work_closes op
closes m shown who (steps.Clock op) = clock_closes op
closes m shown who (steps.Table op) = false
closes m shown who (steps.Sem object op) = closes_at (λ s who op. sem_closes op) m.sems shown.sems who object op
closes m shown who (steps.Msgq object op) = closes_at (λ s who op. msgq_closes op) m.msgqs shown.msgqs who object op
closes m shown who (steps.Signal object op) = false
closes m shown who (steps.Chan object op) = closes_at chan_closes m.chans shown.chans who object op
closes m shown who (steps.Obs object op) = closes_at (λ s who op. obs_closes op) m.observers shown.observers who object op
closes m shown who (steps.LookItem object) = true
closes m shown who (steps.LookSignal object must) = true
