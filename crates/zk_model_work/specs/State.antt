use Rattle.zk_base.specs.Limits.{most_entries}
use Rattle.std.specs.Prelude.{ℕ, ◌-◌, ◌*◌, ◌^◌, ◌<◌, ◌≤◌, Bool, false, List, [], ◌∷◌, length, All}
use Rattle.zk_model_work.specs.declared.parts.Admission.{Admission}
use Rattle.zk_model_work.specs.declared.parts.Arm.{Arm}
use Rattle.zk_model_work.specs.declared.parts.Wait.{Wait}
use Rattle.zk_model_work.specs.declared.parts.Queue.{Queue}

-- the state of the work service: the ticks so far, the number of entries so far, how many items there are,
-- all admissions, arms and waits ever made, the numbers of the admissions that a cancel found running, and the queues
pub record State : Type 0 where
  pub time : ℕ
  pub entries : ℕ
  pub items : ℕ
  pub admissions : List Admission
  pub arms : List Arm
  pub marks : List ℕ
  pub waits : List Wait
  pub queues : List Queue

-- a queue that was never used
abbrev pub fresh_queue : ℕ → Bool → Queue
fresh_queue worker started =
    record { worker = worker; started = started; draining = false; plugged = false; drained = 0 }

-- the queues of these workers, each started or not
abbrev pub fresh_queues : List ℕ → List Bool → List Queue
fresh_queues (worker ∷ workers) (on ∷ started) = fresh_queue worker on ∷ fresh_queues workers started
fresh_queues _ _ = []

-- the state before the first entry
abbrev pub start_of : ℕ → List ℕ → List Bool → State
start_of items workers started =
    let queues = fresh_queues workers started in
    record { time = 0; entries = 0; items = items; admissions = []; arms = []; marks = []; waits = []; queues = queues }

-- no queue has drained more often than there are entries, and there are fewer than 2^32 queues
pub record IsCounted (entries : ℕ) (queues : List Queue) : Type 0 where
  pub drained : All (λ q. q.drained ≤ entries) queues
  pub entries_fit : entries ≤ most_entries
  pub few : length queues < 2 ^ 32

-- an announce adds fewer than 2^32 ticks, so the time is bounded by the number of entries
pub record IsTimed (time entries : ℕ) : Type 0 where
  pub bound : time ≤ entries * (2 ^ 32 - 1)
