-- The laws of the entries that an event object owes, over all states and operations.
use Rattle.std.proofs.Common.{◌≡◌, ◌+◌, ◌≤◌, Bool, true, false, bit_or, Option, Some, None, is_some, refl, arith}
use Rattle.zk_base.specs.declared.ids.Who.{Who}
use Rattle.zk_base.specs.declared.waits.Waiter.{Waiter}
use Rattle.zk_base.specs.Waits.{Waits, open_waits}
use Rattle.zk_base.proofs.WaitMoves.{open-joined, open-ended, open-ended-most, open-quitted, open-quitted-most, open-each}
use Rattle.zk_event.specs.declared.event.Wanted.{Wanted}
use Rattle.zk_event.specs.declared.event.EventOp.{EventOp}
use Rattle.zk_event.specs.declared.event.EventOp.TheVariants as ops
use Rattle.zk_event.specs.declared.event.EventReply.{EventReply}
use Rattle.zk_event.specs.declared.event.EventReply.TheVariants as replies
use Rattle.zk_event.specs.Event.{Event, told, found, wait_at, event_reply, event_next, event_in_range, event_closes}

-- each entry is counted
pub counts : (s : Event) (who : Who) (op : EventOp) → (event_next s who op).entries ≡ s.entries + 1
counts s who op = refl

-- what is in range stays so
pub ranges : (s : Event) (who : Who) (op : EventOp) → event_in_range (event_next s who op) ≡ event_in_range s
ranges s who op = refl

wait-adds : (answer : Option EventReply) (waits : Bool) (ws : Waits Wanted EventReply) (w : Waiter Wanted) →
    open_waits (wait_at answer waits ws w) ≤ open_waits ws + 1
wait-adds None true ws w = let one = open-joined ws w in omega arith
wait-adds None false ws w = omega arith
wait-adds (Some reply) waits ws w = omega arith

-- an operation adds at most two owed entries
pub adds : (s : Event) (who : Who) (op : EventOp) → open_waits (event_next s who op).waits ≤ open_waits s.waits + 2
adds s who (ops.Post bits) = let same = open-each (told (bit_or s.bits bits)) s.waits in omega arith
adds s who (ops.Set bits) = let same = open-each (told bits) s.waits in omega arith
adds s who (ops.Clear bits) = omega arith
adds s who (ops.Wait mask all reset waits) =
    let wanted : Wanted = record { mask = mask; all = all } in
    let most = wait-adds (told (found reset s.bits) wanted) waits s.waits
    (record { place = s.entries; who = who; payload = wanted }) in
    omega arith
adds s who (ops.WaitEnd place) = let most = open-ended-most s.waits who.number place in omega arith
adds s who (ops.WaitQuit place) = let most = open-quitted-most s.waits who.number place in omega arith

-- the end of a wait gives one
pub gives : (s : Event) (who : Who) (op : EventOp) → event_closes op ≡ true → is_some (event_reply s who op) ≡ true →
    1 + open_waits (event_next s who op).waits ≤ open_waits s.waits
gives s who (ops.WaitEnd place) closes some = let one = open-ended s.waits who.number place some in omega arith
gives s who (ops.WaitQuit place) closes some =
    let one = open-quitted s.waits who.number place (replies.Bits 0) some in omega arith
gives s who op closes some = absurd (cc)
