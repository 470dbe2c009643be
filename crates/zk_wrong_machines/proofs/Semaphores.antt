-- Wrong semaphores. Of each a short history that it lets stand, and the law that is false of it.
use Rattle.std.proofs.Common.{◌≡◌, refl, arith}
use Rattle.std.specs.Prelude.{◌+◌, true, false, nat_lt, if◌then◌else◌, Option, Some, [], ◌∷◌}
use Rattle.zk_base.specs.declared.ids.Who.{Who}
use Rattle.zk_base.specs.History.{entry}
use Rattle.zk_base.specs.Legal.{Machine, Replays}
use Rattle.zk_model_wait.specs.declared.sem.SemOp.{SemOp}
use Rattle.zk_model_wait.specs.declared.sem.SemOp.TheVariants as ops
use Rattle.zk_model_wait.specs.declared.sem.SemReply.{SemReply}
use Rattle.zk_model_wait.specs.declared.sem.SemReply.TheVariants.{Got, Busy, Wait, Done, Number}
use Rattle.zk_model_wait.specs.Sem.{Sem, new_sem, sem_reply, sem_next, sem_machine}
use Rattle.zk_model_wait.specs.SemLaws.{SemHistory, CountTellsTheCount, TakeWaitsOnlyAtZero}
use Rattle.zk_wrong_machines.proofs.Players.{one, other}

-- a give that forgets who waits: it raises the count though somebody waits
abbrev pub next_forgetting : Sem → Who → SemOp → Sem
next_forgetting s who ops.Give =
    record s { count = if nat_lt s.count s.limit then s.count + 1 else s.count; entries = s.entries + 1 }
next_forgetting s who op = sem_next s who op

abbrev pub give_forgets_who_waits : Machine Sem SemOp SemReply
give_forgets_who_waits = record sem_machine { next = next_forgetting }

abbrev pub forgotten : SemHistory
forgotten = entry one 0 (ops.Take true) Wait ∷ entry other 0 ops.Give Done ∷ entry other 1 ops.Count (Number 1) ∷ []

pub forgotten-replays : Replays give_forgets_who_waits (new_sem 0 1) forgotten
forgotten-replays = (refl, (refl, (refl, tt)))

pub forgotten-refused : CountTellsTheCount (new_sem 0 1) forgotten → ⊥
forgotten-refused told =
    let front = entry one 0 (ops.Take true) Wait ∷ entry other 0 ops.Give Done ∷ [] in
    let is : ◌≡◌ {A = SemReply} (Number 1) (Number 0) =
    told front (entry other 1 ops.Count (Number 1)) (record { rest = []; whole = refl }) refl in
    cc is

-- a reset that leaves who waits in the list, so that the next give is theirs
abbrev pub next_leaving : Sem → Who → SemOp → Sem
next_leaving s who ops.Reset = record s { count = 0; entries = s.entries + 1 }
next_leaving s who op = sem_next s who op

abbrev pub reset_leaves_who_waits : Machine Sem SemOp SemReply
reset_leaves_who_waits = record sem_machine { next = next_leaving }

abbrev pub left : SemHistory
left =
    entry one 0 (ops.Take true) Wait
    ∷ entry other 0 ops.Reset Done
    ∷ entry other 1 ops.Give Done
    ∷ entry other 2 ops.Count (Number 0)
    ∷ []

pub left-replays : Replays reset_leaves_who_waits (new_sem 0 1) left
left-replays = (refl, (refl, (refl, (refl, tt))))

pub left-refused : CountTellsTheCount (new_sem 0 1) left → ⊥
left-refused told =
    let front = entry one 0 (ops.Take true) Wait ∷ entry other 0 ops.Reset Done ∷ entry other 1 ops.Give Done ∷ [] in
    let is : ◌≡◌ {A = SemReply} (Number 0) (Number 1) =
    told front (entry other 2 ops.Count (Number 0)) (record { rest = []; whole = refl }) refl in
    cc is

-- a take that is told busy though the count is above 0
abbrev pub reply_always_busy : Sem → Who → SemOp → Option SemReply
reply_always_busy s who (ops.Take false) = Some Busy
reply_always_busy s who op = sem_reply s who op

abbrev pub take_always_busy : Machine Sem SemOp SemReply
take_always_busy = record sem_machine { reply_of = reply_always_busy }

abbrev pub busy : SemHistory
busy = entry one 0 (ops.Take false) Busy ∷ []

pub busy-replays : Replays take_always_busy (new_sem 1 1) busy
busy-replays = (refl, tt)

pub busy-refused : TakeWaitsOnlyAtZero (new_sem 1 1) busy → ⊥
busy-refused takes =
    let told = takes [] (entry one 0 (ops.Take false) Busy) false (record { rest = []; whole = refl }) refl in
    let is : ◌≡◌ {A = SemReply} Busy Got = told.got (omega arith) in
    cc is
