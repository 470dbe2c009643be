use Rattle.std.specs.Prelude.{◌≡◌, ℕ, not, List, ◌++◌, codes, decimal, count_by}
use Rattle.zk_base.specs.declared.errors.Status.{Status}
use Rattle.zk_base.specs.declared.errors.Status.TheVariants as statuses
use Rattle.zk_worker.specs.Shown.{is_look}
use Rattle.zk_trace.specs.declared.stood.Stood.{Stood}
use Rattle.zk_trace.specs.declared.trace.Ending.{Ending}
use Rattle.zk_trace.specs.declared.trace.Ending.TheVariants as endings
use Rattle.zk_trace.specs.declared.trace.Trace.{Trace}
use Rattle.zk_trace.specs.Lawful.{IsLawful}
use Rattle.zk_trace.specs.Stood.{stood}
use Rattle.zk_trace.specs.Words.{ending_word}
use Rattle.zk_replay.specs.Replay.{IsReplay}
use Rattle.zk_soak.specs.Soak.{soak_scenario}

-- how many of these lines are entries, writes to signals among them, and how many are looks
abbrev pub entry_count : List Stood → ℕ
entry_count lines = count_by (λ line. not (is_look line.spot)) lines

abbrev pub look_count : List Stood → ℕ
look_count lines = count_by (λ line. is_look line.spot) lines

-- what is printed of a generated run: its number, how many entries and looks it has, how it ended, and that it is lawful
abbrev pub soak_line : ℕ → List Stood → Ending → List ℕ
soak_line number lines ending =
    codes "soak " ++ decimal number ++ codes " entries " ++ decimal (entry_count lines) ++ codes " looks "
    ++ decimal (look_count lines) ++ codes " " ++ ending_word ending ++ codes " lawful\n"

abbrev pub soak_text : ℕ → Trace → List ℕ
soak_text number t = soak_line number (stood t) t.ending

-- the trace is that of the round robin run of the generated scenario of this number, which ends so; it is lawful; and the
-- output says so
pub record IsSoak (ending : Ending) (number : ℕ) (output : List ℕ) : Type 0 where
  pub t : Trace
  pub run : IsReplay (soak_scenario number) t
  pub lawful : IsLawful (soak_scenario number) t
  pub ends : t.ending ≡ ending
  pub printed : output ≡ soak_text number t

-- the whole output of `soak` that goes with a status, for a number
abbrev pub IsSoakOutput : ℕ → Status → List ℕ → Type 0
IsSoakOutput number statuses.Success output = IsSoak endings.Ended number output
IsSoakOutput number statuses.Stuck output = IsSoak endings.Stuck number output
IsSoakOutput number statuses.Spent output = IsSoak endings.Spent number output
IsSoakOutput number status output = ⊥
