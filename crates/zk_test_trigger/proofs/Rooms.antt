-- A step of a pump takes room for one entry of each pass at most.
use Rattle.std.proofs.Common.{◌≡◌, ◌+◌, ◌≤◌, Option, Some, None, Result, Ok, Err, ap, inl, inr, arith}
use Rattle.zk_base.specs.declared.errors.NoMemory.{NoMemory}
use Rattle.zk_base.specs.declared.ids.Who.{Who}
use Rattle.zk_model_work.specs.declared.ops.Submitted.{Submitted}
use Rattle.zk_model_work.specs.State.{State}
use Rattle.zk_trigger.specs.declared.pump.Owed.{Owed}
use Rattle.zk_trigger.specs.declared.pump.Pump.{Pump}
use Rattle.zk_trigger.specs.Pumps.{HasNext, HasPaid, HasPumped, room_at}

-- each pass has as much room as before, or less by one
abbrev pub Takes : Pump → Pump → Type 0
Takes old new = (room_at old.triggers ≤ room_at new.triggers + 1) × (room_at old.work ≤ room_at new.work + 1)

-- what is taken takes room of the triggers' pass alone
next-room : (who : Who) (old new : Pump) (result : Result (Option Owed) NoMemory) → HasNext who old new result →
    (room_at old.triggers ≤ room_at new.triggers + 1) × (room_at new.work ≡ room_at old.work)
next-room who old new (Ok (Some owed)) (inl was) =
    let triggers = ap (λ (p : Pump). room_at p.triggers) was.same in
    let work = ap (λ (p : Pump). room_at p.work) was.same in
    (omega arith, work)
next-room who old new (Ok (Some owed)) (inr taken) =
    let room = taken.room in (omega arith, ap (λ (p : Pump). room_at p.work) taken.next)
next-room who old new (Ok None) idle = let room = idle.room in (omega arith, ap (λ (p : Pump). room_at p.work) idle.next)
next-room who old new (Err e) untaken = let room = untaken.room in (omega arith, ap (λ (p : Pump). room_at p.work) untaken.next)

-- what is submitted takes room of the work pass alone
paid-room : (who : Who) (start : State) (owed : Owed) (old new : Pump) (result : Result Submitted NoMemory) →
    HasPaid who start owed old new result →
    (room_at new.triggers ≡ room_at old.triggers) × (room_at old.work ≤ room_at new.work + 1)
paid-room who start owed old new (Ok submitted) paid =
    let room = paid.room in (ap (λ (p : Pump). room_at p.triggers) paid.next, omega arith)
paid-room who start owed old new (Err e) unpaid =
    let room = unpaid.room in (ap (λ (p : Pump). room_at p.triggers) unpaid.next, omega arith)

both-room : (who : Who) (start : State) (owed : Owed) (old mid new : Pump) (result : Result Submitted NoMemory) →
    HasNext who old mid (Ok (Some owed)) → HasPaid who start owed mid new result → Takes old new
both-room who start owed old mid new result next paid =
    let one = next-room who old mid (Ok (Some owed)) next in
    let other = paid-room who start owed mid new result paid in
    let a = one.0 in
    let b = one.1 in
    let c = other.0 in
    let d = other.1 in
    (omega arith, omega arith)

alone : (who : Who) (old new : Pump) (result : Result (Option Owed) NoMemory) → HasNext who old new result → Takes old new
alone who old new result next =
    let one = next-room who old new result next in
    let a = one.0 in
    let b = one.1 in
    (omega arith, omega arith)

pub pumped-room : (who : Who) (start : State) (old new : Pump) (result : Result (Option Submitted) NoMemory) →
    HasPumped who start old new result → Takes old new
pumped-room who start old new (Ok None) is = alone who old new (Ok None) is
pumped-room who start old new (Ok (Some submitted)) (mid, owed, next, paid) = both-room who start owed old mid new (Ok submitted) next paid
pumped-room who start old new (Err e) (inl untaken) = alone who old new (Err e) untaken
pumped-room who start old new (Err e) (inr (mid, owed, next, paid)) = both-room who start owed old mid new (Err e) next paid
