use Rattle.std.specs.Prelude.{Option, Some, None, List, [], ◌∷◌}
use Rattle.zk_base.specs.declared.ids.Who.{Who}
use Rattle.zk_scenario.specs.Content.{Content}
use Rattle.zk_worker.specs.declared.steps.Step.{Step}
use Rattle.zk_worker.specs.declared.steps.StepReply.{StepReply}
use Rattle.zk_worker.specs.Places.{PlayerPlace}
use Rattle.zk_worker.specs.Protocol.{attempts}
use Rattle.zk_worker.specs.Machines.{Machines}
use Rattle.zk_worker.specs.Shown.{Shown}
use Rattle.zk_worker.specs.Attempt.{reply_in}

-- a step with its answer, or else what comes after it
abbrev pub or_else : Step → Option StepReply → Option (Step × StepReply) → Option (Step × StepReply)
or_else step None further = further
or_else step (Some reply) further = Some (step, reply)

-- the first of these attempts that is possible, with its answer
abbrev pub first_possible : Machines → Shown → Who → List Step → Option (Step × StepReply)
first_possible m shown who [] = None
first_possible m shown who (step ∷ more) =
    or_else step (reply_in m shown who step) (first_possible m shown who more)

-- the attempt that a player makes in a turn
abbrev pub chosen : Machines → Content → Shown → PlayerPlace → Option (Step × StepReply)
chosen m s shown at = first_possible m shown at.who (attempts s at)
