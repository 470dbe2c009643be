use Rattle.std.specs.Prelude.{◌≡◌, ◌≢◌, ℕ, Option, List, ◌++◌, length, option_map, All}
use Rattle.zk_base.specs.declared.ids.Who.{Who}
use Rattle.zk_base.specs.declared.ids.Entry.{Entry}
use Rattle.zk_base.specs.Legal.{Machine, state_after}
use Rattle.zk_worker.specs.declared.steps.StepReply.{StepReply}

-- whose step an entry is, and the step of which number
abbrev pub step_of : {O R : Type 0} → Entry O R → ℕ × ℕ
step_of e = (e.who.number, e.step)

-- what a machine answers to an operation after a history, if it is possible: the reply to the step, which has the
-- place of its entry
abbrev pub answer_in : {S O R : Type 0} → Machine S O R → S → List (Entry O R) →
    (R → ℕ → StepReply) → Who → O → Option StepReply
answer_in m start h step_reply who op =
    option_map (λ reply. step_reply reply (length h)) (m.reply_of (state_after m start h) who op)

-- a history grew by entries of other players than the one of this number
pub record OthersGrew {O R : Type 0} (number : ℕ) (old new : List (Entry O R)) : Type 0 where
  pub more : List (Entry O R)
  pub longer : new ≡ old ++ more
  pub others : All (λ e. e.who.number ≢ number) more
