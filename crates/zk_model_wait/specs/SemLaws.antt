use Rattle.std.specs.Prelude.{◌≡◌, ℕ, ◌+◌, ◌<◌, ◌≤◌, Bool, true, false, ◌⊎◌, if◌then◌else◌, nat_lt, count_by, Some, List, [], ◌∷◌, ◌++◌}
use Rattle.zk_base.specs.declared.ids.Who.{Who}
use Rattle.zk_base.specs.declared.ids.Entry.{Entry}
use Rattle.zk_base.specs.declared.waits.Waiter.{Waiter}
use Rattle.zk_base.specs.declared.waits.Decision.{Decision}
use Rattle.zk_base.specs.History.{IsEntry}
use Rattle.zk_base.specs.Legal.{state_after, IsLegal}
use Rattle.zk_base.specs.WaitLaws.{IsDecidedBy, KeepsWaits}
use Rattle.zk_model_wait.specs.Polls.{NotesOne}
use Rattle.zk_model_wait.specs.SemWaits.{takers, pollers}
use Rattle.zk_model_wait.specs.declared.sem.SemOp.{SemOp}
use Rattle.zk_model_wait.specs.declared.sem.SemOp.TheVariants as ops
use Rattle.zk_model_wait.specs.declared.sem.SemReply.{SemReply}
use Rattle.zk_model_wait.specs.declared.sem.SemReply.TheVariants.{Got, Busy, Wait, Again, Done, Number, Ready, NotReady, Armed, Noted}
use Rattle.zk_model_wait.specs.Sem.{Sem, new_sem, sem_reply, sem_next, sem_machine}

-- a history of a semaphore
abbrev pub SemHistory : Type 0
SemHistory = List (Entry SemOp SemReply)

-- the semaphore after a history, from a first state on
abbrev pub sem_after_all : Sem → SemHistory → Sem
sem_after_all s h = state_after sem_machine s h

-- it holds of each legal history of each semaphore, whatever its first count and its limit
abbrev pub OfEachSem : (Sem → SemHistory → Type 0) → Type 0
OfEachSem P = (initial limit : ℕ) → initial ≤ limit → (h : SemHistory) →
    IsLegal sem_machine (new_sem initial limit) h → P (new_sem initial limit) h

-- the reply tells its caller that it has taken one
abbrev pub is_got : SemReply → Bool
is_got Got = true
is_got reply = false

-- the operation gives one
abbrev pub gives_one : SemOp → Bool
gives_one ops.Give = true
gives_one _ = false

-- the entry gives one
abbrev pub is_give : Entry SemOp SemReply → Bool
is_give e = gives_one e.op

-- the entry tells its caller that it has taken one
abbrev pub takes_one : Entry SemOp SemReply → Bool
takes_one e = is_got e.reply

-- how many are decided to have taken one and haven't been told
abbrev pub held : Sem → ℕ
held s = count_by (λ d. is_got d.answer) s.takers.decided

-- what is thrown away by an operation: by a reset the count, by a give its one where nobody waits and the count is at the limit
abbrev pub wasted_at : List (Waiter Unit) → ℕ → ℕ → ℕ
wasted_at [] limit count = if nat_lt count limit then 0 else 1
wasted_at (w ∷ ws) limit count = 0

abbrev pub thrown_away : ℕ → Sem → SemOp → ℕ
thrown_away limit s ops.Reset = s.count
thrown_away limit s ops.Give = wasted_at s.takers.waiting limit s.count
thrown_away limit s op = 0

-- all that is thrown away along a history
abbrev pub all_thrown_away : ℕ → Sem → SemHistory → ℕ
all_thrown_away limit s [] = 0
all_thrown_away limit s (e ∷ es) = thrown_away limit s e.op + all_thrown_away limit (sem_next s e.who e.op) es

-- what a take is told at this count
pub record TakeIsTold (count : ℕ) (waits : Bool) (reply : SemReply) : Type 0 where
  pub got : 0 < count → reply ≡ Got
  pub wait : count ≡ 0 → waits ≡ true → reply ≡ Wait
  pub busy : count ≡ 0 → waits ≡ false → reply ≡ Busy

-- what a poll is told at this count
pub record PollIsTold (count : ℕ) (waits : Bool) (reply : SemReply) : Type 0 where
  pub ready : 0 < count → reply ≡ Ready
  pub armed : count ≡ 0 → waits ≡ true → reply ≡ Armed
  pub not_ready : count ≡ 0 → waits ≡ false → reply ≡ NotReady

-- the entry is a chance for who polls: a give where nobody waits, be it at the limit
pub record IsChance (s : Sem) (e : Entry SemOp SemReply) : Type 0 where
  pub give : e.op ≡ ops.Give
  pub nobody : s.takers.waiting ≡ []

-- the operation begins a poll, ends one, or gives one up
abbrev pub polls : SemOp → Bool
polls (ops.PollArm waits) = true
polls (ops.PollEnd place) = true
polls (ops.PollQuit place) = true
polls _ = false

-- Each of what follows is said of one history, from its first state on.

-- the count is never above the limit
abbrev pub CountWithinLimit : Sem → SemHistory → Type 0
CountWithinLimit s h = (sem_after_all s h).count ≤ s.limit

-- nobody waits while the count is above 0
abbrev pub NoneWaitsWhileCount : Sem → SemHistory → Type 0
NoneWaitsWhileCount s h = 0 < (sem_after_all s h).count → (sem_after_all s h).takers.waiting ≡ []

-- gives add up: the first count and all that was given are what was taken, what is taken and not told yet,
-- the count, and what was thrown away
abbrev pub GivesAddUp : Sem → SemHistory → Type 0
GivesAddUp s h =
    s.count + count_by is_give h
    ≡ count_by takes_one h + held (sem_after_all s h) + (sem_after_all s h).count + all_thrown_away s.limit s h

-- no more is taken than there was at first and was given
abbrev pub GotWithinGives : Sem → SemHistory → Type 0
GotWithinGives s h = count_by takes_one h ≤ s.count + count_by is_give h

-- a take is answered at once where the count is above 0. Else it waits, or is told so
abbrev pub TakeWaitsOnlyAtZero : Sem → SemHistory → Type 0
TakeWaitsOnlyAtZero s h = (front : SemHistory) (e : Entry SemOp SemReply) (waits : Bool) → IsEntry h front e →
    e.op ≡ ops.Take waits → TakeIsTold (sem_after_all s front).count waits e.reply

-- a count is told as it is
abbrev pub CountTellsTheCount : Sem → SemHistory → Type 0
CountTellsTheCount s h = (front : SemHistory) (e : Entry SemOp SemReply) → IsEntry h front e →
    e.op ≡ ops.Count → e.reply ≡ Number (sem_after_all s front).count

-- after a reset the count is 0 and nobody waits
abbrev pub ResetEndsEveryWait : Sem → SemHistory → Type 0
ResetEndsEveryWait s h = (front : SemHistory) (e : Entry SemOp SemReply) → IsEntry h front e → e.op ≡ ops.Reset →
    ((sem_after_all s (front ++ e ∷ [])).count ≡ 0) × ((sem_after_all s (front ++ e ∷ [])).takers.waiting ≡ [])

-- an entry that decides a wait is a give, and lets it have one, or a reset, which ends it without
abbrev pub DecidedByGiveOrReset : Sem → SemHistory → Type 0
DecidedByGiveOrReset s h = (front : SemHistory) (e : Entry SemOp SemReply) (d : Decision SemReply) → IsEntry h front e →
    IsDecidedBy sem_machine takers s front e d →
    ((e.op ≡ ops.Give) × (d.answer ≡ Got)) ⊎ ((e.op ≡ ops.Reset) × (d.answer ≡ Again))

-- the operation ends a wait or a poll, or gives one up
abbrev pub ends_wait : SemOp → Bool
ends_wait (ops.TakeEnd place) = true
ends_wait (ops.TakeQuit place) = true
ends_wait (ops.PollEnd place) = true
ends_wait (ops.PollQuit place) = true
ends_wait _ = false

-- a take, a give, a reset, a question for the count and a poll that begins are possible at any time
abbrev pub MayAlways : Sem → SemHistory → Type 0
MayAlways s h = (who : Who) (op : SemOp) → ends_wait op ≡ false →
    (reply : SemReply) × (sem_reply (sem_after_all s h) who op ≡ Some reply)

-- a give and a reset are told that they are done
abbrev pub GiveIsDone : Sem → SemHistory → Type 0
GiveIsDone s h = (front : SemHistory) (e : Entry SemOp SemReply) → IsEntry h front e →
    (e.op ≡ ops.Give) ⊎ (e.op ≡ ops.Reset) → e.reply ≡ Done

-- a poll is told whether the count is above 0. At 0 it is registered, or told that it isn't
abbrev pub PollArmAnswers : Sem → SemHistory → Type 0
PollArmAnswers s h = (front : SemHistory) (e : Entry SemOp SemReply) (waits : Bool) → IsEntry h front e →
    e.op ≡ ops.PollArm waits → PollIsTold (sem_after_all s front).count waits e.reply

-- an entry that decides a poll is a chance, and notifies it
abbrev pub NotedAtAChance : Sem → SemHistory → Type 0
NotedAtAChance s h = (front : SemHistory) (e : Entry SemOp SemReply) (d : Decision SemReply) → IsEntry h front e →
    IsDecidedBy sem_machine pollers s front e d → IsChance (sem_after_all s front) e × (d.answer ≡ Noted)

-- each chance notifies one poll, if there is one that isn't notified yet
abbrev pub EachChanceNotesOne : Sem → SemHistory → Type 0
EachChanceNotesOne s h = (front : SemHistory) (e : Entry SemOp SemReply) → IsEntry h front e →
    IsChance (sem_after_all s front) e →
    NotesOne (sem_after_all s front).pollers (sem_after_all s (front ++ e ∷ [])).pollers

-- polling leaves the count as it is
abbrev pub PollingTakesNothing : Sem → SemHistory → Type 0
PollingTakesNothing s h = (front : SemHistory) (e : Entry SemOp SemReply) → IsEntry h front e → polls e.op ≡ true →
    (sem_after_all s (front ++ e ∷ [])).count ≡ (sem_after_all s front).count

-- the laws of a semaphore: its count, what its calls are told, its waits, and its polls
pub record KeepsSemLaws (s : Sem) (h : SemHistory) : Type 0 where
  pub within : CountWithinLimit s h
  pub none_waits : NoneWaitsWhileCount s h
  pub add_up : GivesAddUp s h
  pub got : GotWithinGives s h
  pub takes : TakeWaitsOnlyAtZero s h
  pub told : CountTellsTheCount s h
  pub reset : ResetEndsEveryWait s h
  pub decided : DecidedByGiveOrReset s h
  pub always : MayAlways s h
  pub done : GiveIsDone s h
  pub waits : KeepsWaits sem_machine takers s h
  pub armed : PollArmAnswers s h
  pub noted : NotedAtAChance s h
  pub chances : EachChanceNotesOne s h
  pub nothing : PollingTakesNothing s h
  pub polls : KeepsWaits sem_machine pollers s h
