use Rattle.std.specs.Prelude.{◌≡◌, ℕ, false, Some}
use Rattle.zk_scenario.specs.Content.{Content}
use Rattle.zk_model_work.specs.declared.parts.Life.{Life}
use Rattle.zk_model_work.specs.Questions.{is_open}
use Rattle.zk_model_work.specs.Histories.{life_after}
use Rattle.zk_worker.specs.Machines.{work_start_of}
use Rattle.zk_trace.specs.declared.trace.Ending.TheVariants.{Ended}
use Rattle.zk_trace.specs.declared.trace.Trace.{Trace}

-- where a trace has ended, none of its admissions waits or runs
abbrev pub IsOver : Content → Trace → Type 0
IsOver s t =
    t.ending ≡ Ended → (number : ℕ) (life : Life) →
    life_after (work_start_of s) t.work number ≡ Some life → is_open life ≡ false
