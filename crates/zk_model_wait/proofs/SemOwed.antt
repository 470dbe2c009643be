-- The laws of the entries that a semaphore owes, over all states and operations.
use Rattle.std.proofs.Common.{◌≡◌, ℕ, zero, suc, ◌+◌, ◌≤◌, Bool, true, false, is_some, List, [], ◌∷◌, refl, arith}
use Rattle.zk_base.specs.declared.ids.Who.{Who}
use Rattle.zk_base.specs.declared.waits.Waiter.{Waiter}
use Rattle.zk_base.specs.Waits.{open_waits}
use Rattle.zk_base.proofs.WaitMoves.{open-joined, open-ended, open-ended-most, open-quitted, open-quitted-most, open-first, open-all}
use Rattle.zk_model_wait.specs.declared.sem.SemOp.{SemOp}
use Rattle.zk_model_wait.specs.declared.sem.SemOp.TheVariants as ops
use Rattle.zk_model_wait.specs.declared.sem.SemReply.TheVariants.{Got, Again, Noted, Plain}
use Rattle.zk_model_wait.specs.Sem.{Sem, open_takes, sem_reply, sem_next, sem_in_range, sem_closes, take_at, arm_at, give_to}

-- each entry is counted
pub counts : (s : Sem) (who : Who) (op : SemOp) → (sem_next s who op).entries ≡ s.entries + 1
counts s who op = refl

-- what is in range stays so
pub ranges : (s : Sem) (who : Who) (op : SemOp) → sem_in_range (sem_next s who op) ≡ sem_in_range s
ranges s who op = refl

take-adds : (count : ℕ) (s : Sem) (who : Who) (waits : Bool) → open_takes (take_at count s who waits) ≤ open_takes s + 2
take-adds zero s who false = omega arith
take-adds zero s who true = let one = open-joined s.takers (record { place = s.entries; who = who; payload = tt }) in omega arith
take-adds (suc n) s who waits = omega arith

give-adds : (waiting : List (Waiter Unit)) (s : Sem) → open_takes (give_to waiting s) ≤ open_takes s + 2
give-adds [] s = let same = open-first Noted s.pollers in omega arith
give-adds (w ∷ ws) s = let same = open-first Got s.takers in omega arith

arm-adds : (count : ℕ) (s : Sem) (who : Who) (waits : Bool) → open_waits (arm_at count s who waits) ≤ open_waits s.pollers + 1
arm-adds zero s who false = omega arith
arm-adds zero s who true = let one = open-joined s.pollers (record { place = s.entries; who = who; payload = tt }) in omega arith
arm-adds (suc n) s who waits = omega arith

-- an operation adds at most two owed entries
pub adds : (s : Sem) (who : Who) (op : SemOp) → open_takes (sem_next s who op) ≤ open_takes s + 2
adds s who (ops.Take waits) = take-adds s.count s who waits
adds s who (ops.TakeEnd place) = let most = open-ended-most s.takers who.number place in omega arith
adds s who (ops.TakeQuit place) = let most = open-quitted-most s.takers who.number place in omega arith
adds s who ops.Give = give-adds s.takers.waiting s
adds s who ops.Reset = let same = open-all Again s.takers in omega arith
adds s who ops.Count = omega arith
adds s who (ops.PollArm waits) = let most = arm-adds s.count s who waits in omega arith
adds s who (ops.PollEnd place) = let most = open-ended-most s.pollers who.number place in omega arith
adds s who (ops.PollQuit place) = let most = open-quitted-most s.pollers who.number place in omega arith

-- the end of a wait or of a poll gives one
pub gives : (s : Sem) (who : Who) (op : SemOp) → sem_closes op ≡ true → is_some (sem_reply s who op) ≡ true →
    1 + open_takes (sem_next s who op) ≤ open_takes s
gives s who (ops.TakeEnd place) closes some = let one = open-ended s.takers who.number place some in omega arith
gives s who (ops.TakeQuit place) closes some = let one = open-quitted s.takers who.number place Again some in omega arith
gives s who (ops.PollEnd place) closes some = let one = open-ended s.pollers who.number place some in omega arith
gives s who (ops.PollQuit place) closes some = let one = open-quitted s.pollers who.number place Plain some in omega arith
gives s who op closes some = absurd (cc)
