use Rattle.std.proofs.Common.{◌≡◌, ℕ, ◌<◌, false, is_some}
use Rattle.zk_base.specs.Legal.{state_after}
use Rattle.zk_model_work.specs.Machine.{work_machine}
use Rattle.zk_model_work.specs.Questions.{waiting}
use Rattle.zk_worker.specs.Machines.{work_start_of}
use Rattle.zk_services.specs.Alone.{plain_shown}
use Rattle.zk_gathering.proofs.waiting.none_waits.Given as goal

-- no admission of an item so far waits
abbrev pub invariant-loop-item : goal.invariant-loop-item
invariant-loop-item l = (item : ℕ) → item < l.item →
    is_some (waiting (state_after work_machine (work_start_of l.scenario) (plain_shown l.services).work).admissions item) ≡ false
