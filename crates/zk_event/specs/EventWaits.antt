-- Inner: no contract of a top call is made of this file.
use Rattle.std.specs.Prelude.{ℕ, Option, Some, None, bit_or}
use Rattle.zk_base.specs.WaitLaws.{Decides, nobody, each, WaitKind}
use Rattle.zk_event.specs.declared.event.Wanted.{Wanted}
use Rattle.zk_event.specs.declared.event.EventOp.{EventOp}
use Rattle.zk_event.specs.declared.event.EventOp.TheVariants as ops
use Rattle.zk_event.specs.declared.event.EventReply.{EventReply}
use Rattle.zk_event.specs.declared.event.EventReply.TheVariants as replies
use Rattle.zk_event.specs.Event.{Event, told}

-- a wait that is told to wait opens one
abbrev pub wait_opens : EventOp → EventReply → Option Wanted
wait_opens (ops.Wait mask all reset waits) replies.Wait = Some (record { mask = mask; all = all })
wait_opens op reply = None

-- the place of the wait that is ended
abbrev pub wait_ends : EventOp → Option ℕ
wait_ends (ops.WaitEnd place) = Some place
wait_ends op = None

-- and of the one that is given up
abbrev pub wait_quits : EventOp → Option ℕ
wait_quits (ops.WaitQuit place) = Some place
wait_quits op = None

-- a post or a set decides each for whom there is an answer in the bits that it leaves
abbrev pub wait_decides : Event → EventOp → EventReply → Decides EventReply Wanted
wait_decides s (ops.Post bits) reply = each (told (bit_or s.bits bits))
wait_decides s (ops.Set bits) reply = each (told bits)
wait_decides s op reply = nobody

-- who waits at an event object
abbrev pub waiters : WaitKind Event EventOp EventReply Wanted
waiters = record {
  waits = λ s. s.waits;
  entries = λ s. s.entries;
  opens = wait_opens;
  ends = wait_ends;
  quits = wait_quits;
  gives_up = replies.Bits 0;
  decides = wait_decides;
}
