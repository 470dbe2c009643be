-- Inner: no contract of a top call is made of this file.
use Rattle.std.specs.Int.{bit_at}
use Rattle.std.specs.Prelude.{◌≡◌, ℕ, ◌<◌, ◌==◌, nat_lt, if◌then◌else◌, Bool, true, false, Option, Some, None, List, [], ◌∷◌, ◌++◌, All}
use Rattle.zk_base.specs.declared.ids.Who.{Who}
use Rattle.zk_base.specs.declared.ids.Entry.{Entry}
use Rattle.zk_base.specs.declared.waits.Decision.{Decision}
use Rattle.zk_base.specs.History.{IsEntry}
use Rattle.zk_base.specs.Legal.{state_after, IsLegal}
use Rattle.zk_base.specs.WaitLaws.{WasOpened, IsDecidedBy}
use Rattle.zk_event.specs.declared.event.Wanted.{Wanted}
use Rattle.zk_event.specs.declared.event.EventOp.{EventOp}
use Rattle.zk_event.specs.declared.event.EventOp.TheVariants as ops
use Rattle.zk_event.specs.declared.event.EventReply.{EventReply}
use Rattle.zk_event.specs.declared.event.EventReply.TheVariants as replies
use Rattle.zk_event.specs.Event.{Event, new_event, holds, told, found, wait_reply, event_machine}
use Rattle.zk_event.specs.EventWaits.{waiters}

-- a history of an event object
abbrev pub EventHistory : Type 0
EventHistory = List (Entry EventOp EventReply)

-- the event object after a history, from the first state on
abbrev pub event_after_all : EventHistory → Event
event_after_all h = state_after event_machine new_event h

-- it holds of each legal history
abbrev pub OfEachEvent : (EventHistory → Type 0) → Type 0
OfEachEvent P = (h : EventHistory) → IsLegal event_machine new_event h → P h

-- what an entry is answered by the bits before it, where it isn't the end of a wait: a wait looks behind its own reset
abbrev pub answered_by : ℕ → EventOp → Option EventReply
answered_by was (ops.Post bits) = Some (replies.Was was)
answered_by was (ops.Set bits) = Some (replies.Was was)
answered_by was (ops.Clear bits) = Some (replies.Was was)
answered_by was (ops.Wait mask all reset waits) =
    Some (wait_reply (told (found reset was) (record { mask = mask; all = all })) waits)
answered_by was (ops.WaitEnd place) = None
answered_by was (ops.WaitQuit place) = None

-- a post, a set and a clear answer the bits before; a wait what it finds
abbrev pub AnswersWhatIsThere : EventHistory → Type 0
AnswersWhatIsThere h = (front : EventHistory) (e : Entry EventOp EventReply) (reply : EventReply) → IsEntry h front e →
    answered_by (event_after_all front).bits e.op ≡ Some reply → e.reply ≡ reply

-- of nobody who waits is that there for which it waits
abbrev pub NoneWaitsWhereItHolds : EventHistory → Type 0
NoneWaitsWhereItHolds h =
    All (λ w. holds (event_after_all h).bits w.payload ≡ false) (event_after_all h).waits.waiting

-- the operation puts bits there
abbrev pub puts : EventOp → Bool
puts (ops.Post bits) = true
puts (ops.Set bits) = true
puts op = false

-- what decides a wait, for which this was asked, at an entry behind this front
pub record AtItsMoment (front : EventHistory) (e : Entry EventOp EventReply) (d : Decision EventReply)
    (wanted : Wanted) : Type 0 where
  -- it is a post or a set
  pub puts_bits : puts e.op ≡ true
  -- and is answered the bits that are there just behind it
  pub answers : told (event_after_all (front ++ e ∷ [])).bits wanted ≡ Some d.answer

-- a wait is decided by a post or a set, with what is there just behind that
abbrev pub DecidedAtItsMoment : EventHistory → Type 0
DecidedAtItsMoment h = (front : EventHistory) (e : Entry EventOp EventReply) (d : Decision EventReply) → IsEntry h front e →
    IsDecidedBy event_machine waiters new_event front e d → (who : Who) (wanted : Wanted) →
    WasOpened waiters front d.place who wanted → AtItsMoment front e d wanted

-- and what it waits for was there at no moment between its opening and that
abbrev pub DecidedAtTheFirstMoment : EventHistory → Type 0
DecidedAtTheFirstMoment h = (front early later : EventHistory) (e : Entry EventOp EventReply) (d : Decision EventReply) →
    IsEntry h front e → IsDecidedBy event_machine waiters new_event front e d → front ≡ early ++ later →
    (who : Who) (wanted : Wanted) → WasOpened waiters early d.place who wanted →
    holds (event_after_all early).bits wanted ≡ false

-- what an operation leaves of a bit that was so
abbrev pub leaves : ℕ → ℕ → EventOp → ℕ
leaves bit was (ops.Post bits) = if bit_at bits bit == 1 then 1 else was
leaves bit was (ops.Set bits) = bit_at bits bit
leaves bit was (ops.Clear bits) = if bit_at bits bit == 1 then 0 else was
leaves bit was (ops.Wait mask all reset waits) = if reset then 0 else was
leaves bit was op = was

-- and what a history leaves of it
abbrev pub left_of : ℕ → ℕ → EventHistory → ℕ
left_of bit was [] = was
left_of bit was (e ∷ es) = left_of bit (leaves bit was e.op) es

-- the bits of a clear are sixteen
abbrev pub is_word : EventOp → Bool
is_word (ops.Clear bits) = nat_lt bits 65536
is_word op = true

-- each bit is as the last entry left it that touched it
abbrev pub EachBitAsLastLeft : EventHistory → Type 0
EachBitAsLastLeft h = All (λ e. is_word e.op ≡ true) h → (bit : ℕ) → bit < 16 →
    bit_at (event_after_all h).bits bit ≡ left_of bit 0 h
