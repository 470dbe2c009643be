-- Inner: no contract of a top call is made of this file.
use Rattle.std.specs.Prelude.{◌≡◌, ℕ, Some, List, slice_get}
use Rattle.zk_base.specs.declared.ids.Who.{Who}
use Rattle.zk_worker.specs.declared.steps.Step.{Step}
use Rattle.zk_worker.specs.declared.steps.StepReply.{StepReply}
use Rattle.zk_worker.specs.Machines.{Machines}
use Rattle.zk_worker.specs.Attempt.{reply_in}
use Rattle.zk_worker.specs.Shown.{Shown}

-- a step that is made is one of these attempts, and is answered so where this is shown
pub record IsChosen (m : Machines) (shown : Shown) (who : Who) (ahead : List Step) (made : Step × StepReply)
    : Type 0 where
  pub place : ℕ
  pub is_there : slice_get ahead place ≡ Some made.0
  pub answered : reply_in m shown who made.0 ≡ Some made.1
