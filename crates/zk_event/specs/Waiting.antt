-- Inner: no contract of a top call is made of this file.
-- What a thread does that waits for bits: its two calls, and what its pass has seen then.
use Rattle.std.specs.Prelude.{◌≡◌, ℕ, ◌+◌, ◌<◌, ◌⊎◌, Bool, true, false, Option, Some, None, Result, Ok, Err, [], ◌∷◌}
use Rattle.zk_base.specs.declared.ids.Who.{Who}
use Rattle.zk_base.specs.declared.errors.NoMemory.{NoMemory}
use Rattle.zk_base.specs.History.{IsAbove}
use Rattle.zk_turn.specs.declared.pass.Pass.{Pass}
use Rattle.zk_turn.specs.Calls.{IsEntered}
use Rattle.zk_turn.specs.Passes.{pass_seen, pass_mine, pass_room}
use Rattle.zk_turn.specs.Players.{GoesOn}
use Rattle.zk_event.specs.declared.event.EventOp.{EventOp}
use Rattle.zk_event.specs.declared.event.EventOp.TheVariants as ops
use Rattle.zk_event.specs.declared.event.EventReply.{EventReply}
use Rattle.zk_event.specs.declared.event.EventReply.TheVariants as replies
use Rattle.zk_event.specs.declared.event.Wanted.{Wanted}
use Rattle.zk_event.specs.declared.service.Event.{Event}
use Rattle.zk_event.specs.declared.waiting.Told.{Told}
use Rattle.zk_event.specs.declared.waiting.Told.TheVariants as tolds
use Rattle.zk_event.specs.Event as model

-- a pass of a cell with an event object
abbrev pub EventPass : Type 0
EventPass = Pass Event EventOp EventReply model.Event

-- a player's pass after an entry of it, at a place of the history: it goes on from what the pass had seen with entries of
-- others, and then has this one
pub record HasMade (who : Who) (step : ℕ) (op : EventOp) (reply : EventReply) (place : ℕ) (old new : EventPass) : Type 0 where
  pub entered : IsEntered model.event_machine model.new_event who step op reply place (pass_seen old) (pass_seen new)
  pub room : pass_room new + 1 ≡ pass_room old
  pub later : IsAbove (pass_mine new) who.number (step + 1)

-- and without one: others alone made entries
pub record HasMadeNone (who : Who) (step : ℕ) (old new : EventPass) : Type 0 where
  pub since : GoesOn (who ∷ []) (pass_seen old) (pass_seen new)
  pub room : pass_room new ≡ pass_room old
  pub later : IsAbove (pass_mine new) who.number step

-- the call that asks for bits, and waits where they aren't there
abbrev pub asks : Wanted → Bool → EventOp
asks wanted reset = ops.Wait wanted.mask wanted.all reset true

-- its answer: the bits that were there, some at least, or that it waits, at its place
abbrev pub HasAsked : Who → ℕ → Wanted → Bool → EventPass → EventPass → Result Told NoMemory → Type 0
HasAsked who step wanted reset old new (Ok (tolds.Bits bits)) =
    (0 < bits) × ((place : ℕ) × HasMade who step (asks wanted reset) (replies.Bits bits) place old new)
HasAsked who step wanted reset old new (Ok (tolds.Waits place)) = HasMade who step (asks wanted reset) replies.Wait place old new
HasAsked who step wanted reset old new (Err e) = HasMadeNone who step old new

-- the wait of this place has ended, with these bits, some at least
abbrev pub HasEnded : Who → ℕ → ℕ → EventPass → EventPass → ℕ → Type 0
HasEnded who step place old new bits =
    (0 < bits) × ((end : ℕ) × HasMade who step (ops.WaitEnd place) (replies.Bits bits) end old new)

-- what the answer to one says that asks, and whether it says something
abbrev pub told_by : Option (EventReply × ℕ) → Told
told_by (Some (replies.Bits bits, place)) = tolds.Bits bits
told_by (Some (replies.Wait, place)) = tolds.Waits place
told_by made = tolds.Bits 0

abbrev pub is_told : Option (EventReply × ℕ) → Bool
is_told (Some (replies.Bits bits, place)) = true
is_told (Some (replies.Wait, place)) = true
is_told made = false

-- the bits that an answer to the end of a wait says, if it could end, and whether it is such an answer
abbrev pub ended_by : Option (EventReply × ℕ) → Option ℕ
ended_by (Some (replies.Bits bits, place)) = Some bits
ended_by made = None

abbrev pub may_end : Option (EventReply × ℕ) → Bool
may_end None = true
may_end (Some (replies.Bits bits, place)) = true
may_end made = false

-- what an attempt to end it answers
abbrev pub HasTried : Who → ℕ → ℕ → EventPass → EventPass → Option ℕ → Type 0
HasTried who step place old new (Some bits) = HasEnded who step place old new bits
HasTried who step place old new None = HasMadeNone who step old new

-- the wait was decided behind its opening, and has ended by the next step
pub record HasWaited (who : Who) (step : ℕ) (wanted : Wanted) (reset : Bool) (old new : EventPass) (bits : ℕ) : Type 0 where
  pub place : ℕ
  pub asked : EventPass
  pub opened : HasMade who step (asks wanted reset) replies.Wait place old asked
  pub ended : HasEnded who (step + 1) place asked new bits

-- The answer to a thread that waits: bits that were there at once, or those of the end of its wait, never 0. Where its
-- opening wanted memory, no entry of its own.
abbrev pub HasGot : Who → ℕ → Wanted → Bool → EventPass → Result (EventPass × ℕ) EventPass → Type 0
HasGot who step wanted reset old (Ok (new, bits)) =
    HasAsked who step wanted reset old new (Ok (tolds.Bits bits)) ⊎ HasWaited who step wanted reset old new bits
HasGot who step wanted reset old (Err new) = HasMadeNone who step old new

-- the pass that comes back
abbrev pub pass_of : Result (EventPass × ℕ) EventPass → EventPass
pass_of (Ok (new, bits)) = new
pass_of (Err new) = new
