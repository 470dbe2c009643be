use Rattle.std.specs.Prelude.{ℕ, zero, suc, ◌+◌, ◌-◌, ◌≤◌, Bool, true, false, not, ◌==◌, if◌then◌else◌, bit_and, bit_or, Option, Some, None, is_some}
use Rattle.zk_base.specs.declared.ids.Who.{Who}
use Rattle.zk_base.specs.declared.waits.Waiter.{Waiter}
use Rattle.zk_base.specs.Legal.{Machine}
use Rattle.zk_base.specs.Limits.{most_entries}
use Rattle.zk_base.specs.Waits.{Waits, no_waits, open_waits, joined, ended, quitted, each_decided, decision_of, quit_answer}
use Rattle.zk_event.specs.declared.event.Wanted.{Wanted}
use Rattle.zk_event.specs.declared.event.EventOp.{EventOp}
use Rattle.zk_event.specs.declared.event.EventOp.TheVariants as ops
use Rattle.zk_event.specs.declared.event.EventReply.{EventReply}
use Rattle.zk_event.specs.declared.event.EventReply.TheVariants as replies

-- the state of an event object: its bits, the number of entries so far, and who waits
pub record Event : Type 0 where
  pub bits : ℕ
  pub entries : ℕ
  pub waits : Waits Wanted EventReply

-- what a contract sees of the event object that is kept: its state, and how many waits it takes without memory
pub record EventView : Type 0 where
  pub event : Event
  pub room : ℕ

-- the state before the first entry
abbrev pub new_event : Event
new_event = record { bits = 0; entries = 0; waits = no_waits }

-- an event object at which no more wait than have called
pub record IsCounted (s : Event) : Type 0 where
  pub few : s.entries ≤ most_entries
  pub called : open_waits s.waits ≤ s.entries

-- the bits that these share with what is waited for
abbrev pub shared : ℕ → Wanted → ℕ
shared bits wanted = bit_and bits wanted.mask

-- what is waited for is there: a bit of the mask, or all of them
abbrev pub holds : ℕ → Wanted → Bool
holds bits wanted = if wanted.all then shared bits wanted == wanted.mask else not (shared bits wanted == 0)

-- what these bits answer one who waits, where what it waits for is there
abbrev pub told : ℕ → Wanted → Option EventReply
told bits wanted = if holds bits wanted then Some (replies.Bits (shared bits wanted)) else None

-- the bits that a wait finds: a reset takes all away before it
abbrev pub found : Bool → ℕ → ℕ
found reset bits = if reset then 0 else bits

-- what a wait is answered
abbrev pub wait_reply : Option EventReply → Bool → EventReply
wait_reply (Some reply) waits = reply
wait_reply None true = replies.Wait
wait_reply None false = replies.Bits 0

-- the reply to each operation, where it is possible
abbrev pub event_reply : Event → Who → EventOp → Option EventReply
event_reply s who (ops.Post bits) = Some (replies.Was s.bits)
event_reply s who (ops.Set bits) = Some (replies.Was s.bits)
event_reply s who (ops.Clear bits) = Some (replies.Was s.bits)
event_reply s who (ops.Wait mask all reset waits) =
    Some (wait_reply (told (found reset s.bits) (record { mask = mask; all = all })) waits)
event_reply s who (ops.WaitEnd place) = decision_of s.waits who.number place
event_reply s who (ops.WaitQuit place) = quit_answer (replies.Bits 0) s.waits who.number place

-- the waits after a wait that finds this: its caller waits where that isn't there, if it is to wait
abbrev pub wait_at : Option EventReply → Bool → Waits Wanted EventReply → Waiter Wanted → Waits Wanted EventReply
wait_at None true ws w = joined ws w
wait_at answer waits ws w = ws

-- these are the bits now: whoever waits for some that are there gets them
abbrev pub with_bits : Event → ℕ → Event
with_bits s bits = record s { bits = bits; waits = each_decided (told bits) s.waits }

-- what each operation changes, where it is possible
abbrev pub event_changed : Event → Who → EventOp → Event
event_changed s who (ops.Post bits) = with_bits s (bit_or s.bits bits)
event_changed s who (ops.Set bits) = with_bits s bits
event_changed s who (ops.Clear bits) = record s { bits = bit_and s.bits (65535 - bits) }
event_changed s who (ops.Wait mask all reset waits) =
    let wanted : Wanted = record { mask = mask; all = all } in
    record s {
      bits = found reset s.bits;
      waits =
          wait_at (told (found reset s.bits) wanted) waits s.waits
          (record { place = s.entries; who = who; payload = wanted });
    }
event_changed s who (ops.WaitEnd place) = record s { waits = ended s.waits who.number place }
event_changed s who (ops.WaitQuit place) = record s { waits = quitted s.waits who.number place }

-- the state after an entry, which is counted
abbrev pub event_next : Event → Who → EventOp → Event
event_next s who op = let after = event_changed s who op in record after { entries = s.entries + 1 }

-- the state after an operation with this reply: nothing changes where there is none
abbrev pub event_after : Event → Who → EventOp → Option EventReply → Event
event_after s who op reply = if is_some reply then event_next s who op else s

-- the operation may begin a wait
abbrev pub may_wait : EventOp → Bool
may_wait (ops.Wait mask all reset waits) = waits
may_wait _ = false

-- the end of a wait gives an entry that is owed: one for each that hasn't ended
abbrev pub event_closes : EventOp → Bool
event_closes (ops.WaitEnd place) = true
event_closes (ops.WaitQuit place) = true
event_closes _ = false

-- a wait names a bit at least
abbrev pub event_in_range : Event → EventOp → Bool
event_in_range s (ops.Wait mask all reset waits) = not (mask == 0)
event_in_range s op = true

-- the machine of an event object
abbrev pub event_machine : Machine Event EventOp EventReply
event_machine = record { reply_of = event_reply; next = event_next; in_range = event_in_range }

-- the word of the index 0 is the bits, and there is no other
abbrev pub event_word : Event → ℕ → ℕ
event_word s zero = s.bits
event_word s (suc index) = 0
