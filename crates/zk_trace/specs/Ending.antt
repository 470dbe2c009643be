use Rattle.std.specs.Prelude.{◌≡◌, ℕ, Bool, true, false, not, ◌&&◌, if◌then◌else◌, Some, None, slice_get}
use Rattle.std.specs.List.{list_any, list_all}
use Rattle.zk_base.specs.Legal.{state_after}
use Rattle.zk_scenario.specs.Content.{Content}
use Rattle.zk_model_work.specs.Questions.{is_waiting}
use Rattle.zk_model_work.specs.State.{State}
use Rattle.zk_model_work.specs.Machine.{work_machine}
use Rattle.zk_worker.specs.declared.log.PlayerState.{PlayerState}
use Rattle.zk_worker.specs.declared.log.PlayerState.TheVariants as states
use Rattle.zk_worker.specs.declared.log.Log.{Log}
use Rattle.zk_worker.specs.Choosing.{chosen}
use Rattle.zk_worker.specs.Follows.{IsFollowing, log_of}
use Rattle.zk_worker.specs.Places.{PlayerPlace}
use Rattle.zk_worker.specs.Machines.{work_start_of, machines_of}
use Rattle.zk_trace.specs.declared.trace.Ending.{Ending}
use Rattle.zk_trace.specs.declared.trace.Ending.TheVariants.{Ended, Stuck, Spent}
use Rattle.zk_trace.specs.declared.trace.Trace.{Trace}
use Rattle.zk_trace.specs.Shown.{trace_shown}

-- whether a player has made all its steps
abbrev pub is_spent_state : PlayerState → Bool
is_spent_state states.Spent = true
is_spent_state state = false

-- whether a thread is through its script or was ended by an oops, or a worker is between two runs
abbrev pub is_done_state : PlayerState → Bool
is_done_state states.Done = true
is_done_state states.Oops = true
is_done_state state = false

-- no admission waits
abbrev pub none_waits : State → Bool
none_waits state = list_all (λ a. not (is_waiting a.life)) state.admissions

-- how a trace ends: spent where a player has made all its steps, else ended where all are done and no admission waits
abbrev pub lawful_ending : Content → Trace → Ending
lawful_ending s t =
    if list_any (λ log. is_spent_state log.state) t.logs then Spent else
    if list_all (λ log. is_done_state log.state) t.logs
    && none_waits (state_after work_machine (work_start_of s) t.work)
    then Ended else Stuck

-- a trace ends where its logs and its history of work end
pub record EndsSo (s : Content) (t : Trace) : Type 0 where
  -- its ending is what they say
  pub ends : t.ending ≡ lawful_ending s t
  -- and unless a player is spent, none has a possible attempt at a place that its log leads to
  pub halts : (t.ending ≡ Spent → ⊥) → (number : ℕ) (log : Log) → slice_get t.logs number ≡ Some log →
      (end : PlayerPlace) → IsFollowing s number (trace_shown t) end → log_of s end ≡ log →
      chosen (machines_of s) s (trace_shown t) end ≡ None
