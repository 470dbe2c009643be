use Rattle.std.specs.Prelude.{ℕ, List}
use Rattle.zk_base.specs.declared.ids.Who.{Who}
use Rattle.zk_worker.specs.declared.steps.Spot.{Spot}
use Rattle.zk_worker.specs.declared.answers.Answered.{Answered}
use Rattle.zk_worker.specs.declared.checks.Mode.{Mode}
use Rattle.zk_worker.specs.declared.frames.Frame.{Frame}

-- where a player stands: who it is, how many steps it has room for, what it may do, how many checks it has passed in the
-- call that comes next, the open scripts and runs with the innermost first, the answers so far, and where each of its steps
-- is recorded
pub record PlayerPlace : Type 0 where
  pub who : Who
  pub most : ℕ
  pub mode : Mode
  pub passed : ℕ
  pub frames : List Frame
  pub answers : List Answered
  pub spots : List Spot
