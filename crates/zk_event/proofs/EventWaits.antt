-- An event object has waits.
use Rattle.std.proofs.Common.{◌≡◌, ℕ, Bool, true, false, cond, Option, Some, None, refl, ap, subst}
use Rattle.std.proofs.lemmas.Option.{same_Some}
use Rattle.zk_base.specs.declared.ids.Who.{Who}
use Rattle.zk_base.specs.Waits.{Waits}
use Rattle.zk_base.specs.WaitLaws.{nobody, after_entry, HasWaits, IsFirst, KeepsWaits}
use Rattle.zk_base.proofs.WaitsKept.{keeps_waits}
use Rattle.zk_event.specs.declared.event.Wanted.{Wanted}
use Rattle.zk_event.specs.declared.event.EventOp.{EventOp}
use Rattle.zk_event.specs.declared.event.EventOp.TheVariants as ops
use Rattle.zk_event.specs.declared.event.EventReply.{EventReply}
use Rattle.zk_event.specs.declared.event.EventReply.TheVariants as replies
use Rattle.zk_event.specs.Event.{Event, new_event, holds, shared, told, found, wait_reply, wait_at, event_reply, event_next, event_machine}
use Rattle.zk_event.specs.EventWaits.{wait_opens, waiters}
use Rattle.zk_event.specs.EventLaws.{OfEachEvent}

-- what is told a wait, by whether it finds what it waits for
abbrev told_if : Bool → ℕ → Option EventReply
told_if holds bits = cond holds (Some (replies.Bits bits)) None

-- a wait whose caller waits opens one, and no other does
told-moves : (holds waits : Bool) (bits place mask : ℕ) (all reset : Bool) (who : Who) (ws : Waits Wanted EventReply) →
    wait_at (told_if holds bits) waits ws (record { place = place; who = who; payload = record { mask = mask; all = all } })
    ≡ after_entry ws place who nobody
    (wait_opens (ops.Wait mask all reset waits) (wait_reply (told_if holds bits) waits)) None None
told-moves true waits bits place mask all reset who ws = refl
told-moves false true bits place mask all reset who ws = refl
told-moves false false bits place mask all reset who ws = refl

wait-moves : (s : Event) (who : Who) (mask : ℕ) (all reset waits : Bool) (reply : EventReply) →
    event_reply s who (ops.Wait mask all reset waits) ≡ Some reply →
    (event_next s who (ops.Wait mask all reset waits)).waits
    ≡ after_entry s.waits s.entries who nobody (wait_opens (ops.Wait mask all reset waits) reply) None None
wait-moves s who mask all reset waits reply is =
    let wanted : Wanted = record { mask = mask; all = all } in
    let bits = found reset s.bits in
    subst (λ (r : EventReply). (event_next s who (ops.Wait mask all reset waits)).waits
    ≡ after_entry s.waits s.entries who nobody (wait_opens (ops.Wait mask all reset waits) r) None None)
    (same_Some (wait_reply (told bits wanted) waits) reply is)
    (told-moves (holds bits wanted) waits (shared bits wanted) s.entries mask all reset who s.waits)

event-moves : (s : Event) (who : Who) (op : EventOp) (reply : EventReply) → event_reply s who op ≡ Some reply →
    (event_next s who op).waits ≡ after_entry s.waits s.entries who (waiters.decides s op reply) (waiters.opens op reply)
    (waiters.ends op) (waiters.quits op)
event-moves s who (ops.Post bits) reply is = refl
event-moves s who (ops.Set bits) reply is = refl
event-moves s who (ops.Clear bits) reply is = refl
event-moves s who (ops.Wait mask all reset waits) reply is = wait-moves s who mask all reset waits reply is
event-moves s who (ops.WaitEnd place) reply is = refl
event-moves s who (ops.WaitQuit place) reply is = refl

event-ends : (s : Event) (who : Who) (op : EventOp) (place : ℕ) → waiters.ends op ≡ Some place →
    event_reply s who op ≡ event_reply s who (ops.WaitEnd place)
event-ends s who (ops.WaitEnd at) place is = ap (λ (p : ℕ). event_reply s who (ops.WaitEnd p)) (same_Some at place is)
event-ends s who op place is = absurd (cc)

event-quits : (s : Event) (who : Who) (op : EventOp) (place : ℕ) → waiters.quits op ≡ Some place →
    event_reply s who op ≡ event_reply s who (ops.WaitQuit place)
event-quits s who (ops.WaitQuit at) place is = ap (λ (p : ℕ). event_reply s who (ops.WaitQuit p)) (same_Some at place is)
event-quits s who op place is = absurd (cc)

event-opens_alone : (op : EventOp) (reply : EventReply) (payload : Wanted) → waiters.opens op reply ≡ Some payload →
    (waiters.ends op ≡ None) × (waiters.quits op ≡ None)
event-opens_alone (ops.Wait mask all reset waits) reply payload is = (refl, refl)
event-opens_alone op reply payload is = absurd (cc)

event-ends_alone : (op : EventOp) (place : ℕ) → waiters.ends op ≡ Some place → waiters.quits op ≡ None
event-ends_alone (ops.WaitEnd at) place is = refl
event-ends_alone op place is = absurd (cc)

-- an event object has waits
pub has_waiters : HasWaits event_machine waiters
has_waiters = record {
  counts = λ s who op. refl;
  moves = event-moves;
  ends = event-ends;
  quits = event-quits;
  opens_alone = event-opens_alone;
  ends_alone = event-ends_alone;
}

pub first_waiters : IsFirst waiters new_event
first_waiters = record { none = refl; new = refl }

pub waiters_hold : OfEachEvent (KeepsWaits event_machine waiters new_event)
waiters_hold h legal = keeps_waits event_machine waiters has_waiters new_event h first_waiters legal.0
