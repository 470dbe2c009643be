-- Wrong message queues. Of each a short history that it lets stand, and the law that is false of it.
use Rattle.std.proofs.Common.{◌≡◌, refl}
use Rattle.std.specs.Prelude.{ℕ, ◌+◌, true, false, List, [], ◌∷◌}
use Rattle.zk_base.specs.declared.ids.Who.{Who}
use Rattle.zk_base.specs.History.{entry}
use Rattle.zk_base.specs.Legal.{Machine, Replays}
use Rattle.zk_model_wait.specs.declared.msgq.MsgqOp.{MsgqOp}
use Rattle.zk_model_wait.specs.declared.msgq.MsgqOp.TheVariants as ops
use Rattle.zk_model_wait.specs.declared.msgq.MsgqReply.{MsgqReply}
use Rattle.zk_model_wait.specs.declared.msgq.MsgqReply.TheVariants.{Wait, Done, Bytes, Number}
use Rattle.zk_model_wait.specs.Msgq.{Msgq, new_msgq, msgq_next, msgq_machine}
use Rattle.zk_model_wait.specs.MsgqLaws.{MsgqHistory, LooksTellTheRing, GetWaitsOnlyAtEmpty}
use Rattle.zk_wrong_machines.proofs.Players.{one, other}

-- the queue without its first message
abbrev pub behind_first : List (List ℕ) → List (List ℕ)
behind_first [] = []
behind_first (m ∷ ms) = ms

-- a get that leaves the put that waits outside, though there is room now
abbrev pub next_leaving_outside : Msgq → Who → MsgqOp → Msgq
next_leaving_outside q who (ops.Get waits) = record q { messages = behind_first q.messages; entries = q.entries + 1 }
next_leaving_outside q who op = msgq_next q who op

abbrev pub get_leaves_the_waiting_put_outside : Machine Msgq MsgqOp MsgqReply
get_leaves_the_waiting_put_outside = record msgq_machine { next = next_leaving_outside }

abbrev pub outside : MsgqHistory
outside =
    entry one 0 (ops.Put (1 ∷ []) false) Done
    ∷ entry other 0 (ops.Put (2 ∷ []) true) Wait
    ∷ entry one 1 (ops.Get false) (Bytes (1 ∷ []))
    ∷ entry one 2 ops.Used (Number 0)
    ∷ []

pub outside-replays : Replays get_leaves_the_waiting_put_outside (new_msgq 1) outside
outside-replays = (refl, (refl, (refl, (refl, tt))))

pub outside-refused : LooksTellTheRing (new_msgq 1) outside → ⊥
outside-refused looks =
    let front = entry one 0 (ops.Put (1 ∷ []) false) Done ∷ entry other 0 (ops.Put (2 ∷ []) true) Wait
    ∷ entry one 1 (ops.Get false) (Bytes (1 ∷ [])) ∷ [] in
    let is : ◌≡◌ {A = MsgqReply} (Number 0) (Number 1) =
    looks.used front (entry one 2 ops.Used (Number 0)) (record { rest = []; whole = refl }) refl in
    cc is

-- a put that goes in front of the messages that are there
abbrev pub next_in_front : Msgq → Who → MsgqOp → Msgq
next_in_front q who (ops.Put message waits) = record q { messages = message ∷ q.messages; entries = q.entries + 1 }
next_in_front q who op = msgq_next q who op

abbrev pub put_goes_in_front : Machine Msgq MsgqOp MsgqReply
put_goes_in_front = record msgq_machine { next = next_in_front }

abbrev pub in_front : MsgqHistory
in_front =
    entry one 0 (ops.Put (1 ∷ []) false) Done
    ∷ entry one 1 (ops.Put (2 ∷ []) false) Done
    ∷ entry other 0 (ops.Get false) (Bytes (2 ∷ []))
    ∷ []

pub in_front-replays : Replays put_goes_in_front (new_msgq 2) in_front
in_front-replays = (refl, (refl, (refl, tt)))

pub in_front-refused : GetWaitsOnlyAtEmpty (new_msgq 2) in_front → ⊥
in_front-refused gets =
    let front = entry one 0 (ops.Put (1 ∷ []) false) Done ∷ entry one 1 (ops.Put (2 ∷ []) false) Done ∷ [] in
    let last = entry other 0 (ops.Get false) (Bytes (2 ∷ [])) in
    let told = gets front last false (record { rest = []; whole = refl }) refl in
    let is : ◌≡◌ {A = MsgqReply} (Bytes (2 ∷ [])) (Bytes (1 ∷ [])) = told.got (1 ∷ []) ((2 ∷ []) ∷ []) refl in
    cc is

-- a purge that keeps the messages
abbrev pub next_keeping : Msgq → Who → MsgqOp → Msgq
next_keeping q who ops.Purge = record q { entries = q.entries + 1 }
next_keeping q who op = msgq_next q who op

abbrev pub purge_keeps_the_messages : Machine Msgq MsgqOp MsgqReply
purge_keeps_the_messages = record msgq_machine { next = next_keeping }

abbrev pub kept : MsgqHistory
kept =
    entry one 0 (ops.Put (1 ∷ []) false) Done
    ∷ entry one 1 ops.Purge Done
    ∷ entry one 2 ops.Used (Number 1)
    ∷ []

pub kept-replays : Replays purge_keeps_the_messages (new_msgq 1) kept
kept-replays = (refl, (refl, (refl, tt)))

pub kept-refused : LooksTellTheRing (new_msgq 1) kept → ⊥
kept-refused looks =
    let front = entry one 0 (ops.Put (1 ∷ []) false) Done ∷ entry one 1 ops.Purge Done ∷ [] in
    let is : ◌≡◌ {A = MsgqReply} (Number 1) (Number 0) =
    looks.used front (entry one 2 ops.Used (Number 1)) (record { rest = []; whole = refl }) refl in
    cc is

-- a put in front that goes behind the messages that are there
abbrev pub next_going_behind : Msgq → Who → MsgqOp → Msgq
next_going_behind q who (ops.PutFront message) = msgq_next q who (ops.Put message false)
next_going_behind q who op = msgq_next q who op

abbrev pub put_in_front_goes_behind : Machine Msgq MsgqOp MsgqReply
put_in_front_goes_behind = record msgq_machine { next = next_going_behind }

abbrev pub behind : MsgqHistory
behind =
    entry one 0 (ops.Put (1 ∷ []) false) Done
    ∷ entry one 1 (ops.PutFront (2 ∷ [])) Done
    ∷ entry other 0 (ops.Get false) (Bytes (1 ∷ []))
    ∷ []

pub behind-replays : Replays put_in_front_goes_behind (new_msgq 2) behind
behind-replays = (refl, (refl, (refl, tt)))

pub behind-refused : GetWaitsOnlyAtEmpty (new_msgq 2) behind → ⊥
behind-refused gets =
    let front = entry one 0 (ops.Put (1 ∷ []) false) Done ∷ entry one 1 (ops.PutFront (2 ∷ [])) Done ∷ [] in
    let last = entry other 0 (ops.Get false) (Bytes (1 ∷ [])) in
    let told = gets front last false (record { rest = []; whole = refl }) refl in
    let is : ◌≡◌ {A = MsgqReply} (Bytes (1 ∷ [])) (Bytes (2 ∷ [])) = told.got (2 ∷ []) ((1 ∷ []) ∷ []) refl in
    cc is

-- a put in front that passes by a get that waits
abbrev pub next_passing_by : Msgq → Who → MsgqOp → Msgq
next_passing_by q who (ops.PutFront message) = record q { messages = message ∷ q.messages; entries = q.entries + 1 }
next_passing_by q who op = msgq_next q who op

abbrev pub put_in_front_passes_a_get_by : Machine Msgq MsgqOp MsgqReply
put_in_front_passes_a_get_by = record msgq_machine { next = next_passing_by }

abbrev pub passed_by : MsgqHistory
passed_by =
    entry one 0 (ops.Get true) Wait
    ∷ entry other 0 (ops.PutFront (1 ∷ [])) Done
    ∷ entry other 1 ops.Used (Number 1)
    ∷ []

pub passed_by-replays : Replays put_in_front_passes_a_get_by (new_msgq 1) passed_by
passed_by-replays = (refl, (refl, (refl, tt)))

pub passed_by-refused : LooksTellTheRing (new_msgq 1) passed_by → ⊥
passed_by-refused looks =
    let front = entry one 0 (ops.Get true) Wait ∷ entry other 0 (ops.PutFront (1 ∷ [])) Done ∷ [] in
    let is : ◌≡◌ {A = MsgqReply} (Number 1) (Number 0) =
    looks.used front (entry other 1 ops.Used (Number 1)) (record { rest = []; whole = refl }) refl in
    cc is
