use Rattle.zk_base.specs.Limits.{most_entries}
use Rattle.std.specs.Prelude.{ℕ, zero, suc, ◌+◌, ◌≤◌, Bool, true, false, nat_lt, if◌then◌else◌, Option, Some, is_some, List, [], ◌∷◌}
use Rattle.zk_base.specs.declared.ids.Who.{Who}
use Rattle.zk_base.specs.declared.waits.Waiter.{Waiter}
use Rattle.zk_base.specs.Legal.{Machine}
use Rattle.zk_base.specs.Waits.{Waits, no_waits, open_waits, joined, ended, quitted, first_decided, all_decided, decision_of, quit_answer}
use Rattle.zk_model_wait.specs.declared.sem.SemOp.{SemOp}
use Rattle.zk_model_wait.specs.declared.sem.SemOp.TheVariants as ops
use Rattle.zk_model_wait.specs.declared.sem.SemReply.{SemReply}
use Rattle.zk_model_wait.specs.declared.sem.SemReply.TheVariants.{Got, Busy, Wait, Again, Done, Number, Ready, NotReady, Armed, Noted, Plain}

-- the state of a semaphore: its count, the most that it counts to, the number of entries so far, who waits to take it,
-- and who is registered to be notified when it can be taken: who is notified is decided with that
pub record Sem : Type 0 where
  pub count : ℕ
  pub limit : ℕ
  pub entries : ℕ
  pub takers : Waits Unit SemReply
  pub pollers : Waits Unit SemReply

-- what a contract sees of the semaphore that is kept: its state, and how many waits and polls it takes without memory
pub record SemView : Type 0 where
  pub sem : Sem
  pub room : ℕ

-- the state before the first entry
abbrev pub new_sem : ℕ → ℕ → Sem
new_sem initial limit = record { count = initial; limit = limit; entries = 0; takers = no_waits; pollers = no_waits }

-- the waits and the polls that haven't ended
abbrev pub open_takes : Sem → ℕ
open_takes s = open_waits s.takers + open_waits s.pollers

-- a semaphore that counts no further than its limit, and at which no more wait or poll than have called
pub record IsCounted (s : Sem) : Type 0 where
  pub within : s.count ≤ s.limit
  pub few : s.entries ≤ most_entries
  pub called : open_takes s ≤ s.entries

-- what a take answers at this count, by whether it waits
abbrev pub take_reply : ℕ → Bool → SemReply
take_reply zero false = Busy
take_reply zero true = Wait
take_reply (suc n) waits = Got

-- what a poll answers at this count, by whether it waits
abbrev pub poll_reply : ℕ → Bool → SemReply
poll_reply zero false = NotReady
poll_reply zero true = Armed
poll_reply (suc n) waits = Ready

-- the reply to each operation, where it is possible
abbrev pub sem_reply : Sem → Who → SemOp → Option SemReply
sem_reply s who (ops.Take waits) = Some (take_reply s.count waits)
sem_reply s who (ops.TakeEnd place) = decision_of s.takers who.number place
sem_reply s who (ops.TakeQuit place) = quit_answer Again s.takers who.number place
sem_reply s who ops.Give = Some Done
sem_reply s who ops.Reset = Some Done
sem_reply s who ops.Count = Some (Number s.count)
sem_reply s who (ops.PollArm waits) = Some (poll_reply s.count waits)
sem_reply s who (ops.PollEnd place) = decision_of s.pollers who.number place
sem_reply s who (ops.PollQuit place) = quit_answer Plain s.pollers who.number place

-- the wait of a taker begins
abbrev pub awaits : Sem → Who → Sem
awaits s who = record s { takers = joined s.takers (record { place = s.entries; who = who; payload = tt }) }

-- a take lowers a count above 0. At 0 its caller waits, if it is to wait
abbrev pub take_at : ℕ → Sem → Who → Bool → Sem
take_at zero s who false = s
take_at zero s who true = awaits s who
take_at (suc n) s who waits = record s { count = n }

-- a poll at 0 registers its caller, if it is to wait
abbrev pub arm_at : ℕ → Sem → Who → Bool → Waits Unit SemReply
arm_at zero s who false = s.pollers
arm_at zero s who true = joined s.pollers (record { place = s.entries; who = who; payload = tt })
arm_at (suc n) s who waits = s.pollers

-- a give raises the count up to the limit where nobody waits, and notifies a poller. Else the first who waits gets it
abbrev pub give_to : List (Waiter Unit) → Sem → Sem
give_to [] s = record s {
  count = if nat_lt s.count s.limit then s.count + 1 else s.count;
  pollers = first_decided Noted s.pollers;
}
give_to (w ∷ ws) s = record s { takers = first_decided Got s.takers }

-- what each operation changes, where it is possible
abbrev pub sem_changed : Sem → Who → SemOp → Sem
sem_changed s who (ops.Take waits) = take_at s.count s who waits
sem_changed s who (ops.TakeEnd place) = record s { takers = ended s.takers who.number place }
sem_changed s who (ops.TakeQuit place) = record s { takers = quitted s.takers who.number place }
sem_changed s who ops.Give = give_to s.takers.waiting s
sem_changed s who ops.Reset = record s { count = 0; takers = all_decided Again s.takers }
sem_changed s who ops.Count = s
sem_changed s who (ops.PollArm waits) = record s { pollers = arm_at s.count s who waits }
sem_changed s who (ops.PollEnd place) = record s { pollers = ended s.pollers who.number place }
sem_changed s who (ops.PollQuit place) = record s { pollers = quitted s.pollers who.number place }

-- the state after an entry, which is counted
abbrev pub sem_next : Sem → Who → SemOp → Sem
sem_next s who op = let after = sem_changed s who op in record after { entries = s.entries + 1 }

-- the state after an operation with this reply: nothing changes where there is none
abbrev pub sem_after : Sem → Who → SemOp → Option SemReply → Sem
sem_after s who op reply = if is_some reply then sem_next s who op else s

-- the operation may begin a wait or a poll
abbrev pub may_wait : SemOp → Bool
may_wait (ops.Take waits) = waits
may_wait (ops.PollArm waits) = waits
may_wait _ = false

-- the end of a wait or of a poll gives an entry that is owed: one for each that hasn't ended
abbrev pub sem_closes : SemOp → Bool
sem_closes (ops.TakeEnd place) = true
sem_closes (ops.TakeQuit place) = true
sem_closes (ops.PollEnd place) = true
sem_closes (ops.PollQuit place) = true
sem_closes _ = false

-- an operation names nothing that could be missing
abbrev pub sem_in_range : Sem → SemOp → Bool
sem_in_range s op = true

-- the machine of a semaphore
abbrev pub sem_machine : Machine Sem SemOp SemReply
sem_machine = record { reply_of = sem_reply; next = sem_next; in_range = sem_in_range }
