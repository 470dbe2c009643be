use Rattle.std.specs.Prelude.{ℕ, ◌+◌, ◌≤◌, Bool, true, false, not, ◌==◌, ◌&&◌, if◌then◌else◌, Option, Some, None, is_some, option_map, List, length, map, slice_get}
use Rattle.std.specs.List.{filter, list_any}
use Rattle.std.specs.Option.{option_map_or}
use Rattle.zk_base.specs.declared.ids.Who.{Who}
use Rattle.zk_base.specs.declared.waits.Waiter.{Waiter}
use Rattle.zk_base.specs.Legal.{Machine}
use Rattle.zk_base.specs.Limits.{most_entries, most_few}
use Rattle.zk_base.specs.Validators.{is_valid}
use Rattle.zk_base.specs.Waits.{Waits, no_waits, open_waits, joined, ended, quitted, first_decided, decision_of, quit_answer}
use Rattle.zk_model_bus.specs.declared.channel.ChanObserver.{ChanObserver}
use Rattle.zk_model_bus.specs.declared.channel.Holder.{Holder}
use Rattle.zk_model_bus.specs.declared.channel.Manner.{Manner}
use Rattle.zk_model_bus.specs.declared.channel.Manner.TheVariants as manners
use Rattle.zk_base.specs.declared.validator.Valid.{Valid}
use Rattle.zk_model_bus.specs.declared.channel.ChanOp.{ChanOp}
use Rattle.zk_model_bus.specs.declared.channel.ChanOp.TheVariants as ops
use Rattle.zk_model_bus.specs.declared.channel.ChanReply.{ChanReply}
use Rattle.zk_model_bus.specs.declared.channel.ChanReply.TheVariants.{Got, Busy, Wait, Again, NoMsg, Observers, Bytes, Done, Inval}

-- the state of a channel: its validator, the number of entries so far, its message, its observers in declared order,
-- who holds it, if anybody does, and who waits to hold it, each with the manner of its call
pub record Channel : Type 0 where
  pub valid : Valid
  pub entries : ℕ
  pub message : List ℕ
  pub observers : List ChanObserver
  pub holder : Option Holder
  pub waits : Waits Manner ChanReply

-- what a contract sees of the channel that is kept: its state, and how many waits it takes without memory
pub record ChanView : Type 0 where
  pub chan : Channel
  pub room : ℕ

-- an observer at first
abbrev pub unmasked : ℕ → ChanObserver
unmasked number = record { number = number; masked = false }

-- the state before the first entry
abbrev pub new_chan : List ℕ → Valid → List ℕ → Channel
new_chan message valid observers = record {
  valid = valid;
  entries = 0;
  message = message;
  observers = map unmasked observers;
  holder = None;
  waits = no_waits;
}

-- the entries that are owed: who waits ends the wait and then frees the channel, and so does who holds it; a decided wait
-- is that of the holder, and has yet to end
abbrev pub owed_entries : Channel → ℕ
owed_entries c = open_waits c.waits + length c.waits.waiting + (if is_some c.holder then 1 else 0)

-- a channel with few observers, at which no more wait than have called
pub record IsCalled (c : Channel) : Type 0 where
  pub observed : length c.observers ≤ most_few
  pub few : c.entries ≤ most_entries
  pub called : open_waits c.waits ≤ c.entries

-- the caller holds the channel
abbrev pub holds : Channel → Who → Bool
holds c who = option_map_or (λ h. h.player == who.number) c.holder false

-- it is the manner of a claim
abbrev pub is_claim : Manner → Bool
is_claim manners.Claim = true
is_claim manner = false

-- the caller holds the channel by a claim
abbrev pub has_claimed : Channel → Who → Bool
has_claimed c who = option_map_or (λ h. h.player == who.number && is_claim h.manner) c.holder false

-- the caller holds the channel by an offer or by entering
abbrev pub holds_by_entering : Channel → Who → Bool
holds_by_entering c who = option_map_or (λ h. h.player == who.number && not (is_claim h.manner)) c.holder false

-- it is the observer of this number
abbrev pub is_observer : ℕ → ChanObserver → Bool
is_observer number o = o.number == number

-- the observers that are told of a message: those that aren't masked, in declared order
abbrev pub told_of : List ChanObserver → List ℕ
told_of observers = map (λ o. o.number) (filter (λ o. not o.masked) observers)

-- the observer of this number is masked from now on, or isn't
abbrev pub mask_one : ℕ → Bool → ChanObserver → ChanObserver
mask_one number on o = if is_observer number o then record o { masked = on } else o

abbrev pub masked : ℕ → Bool → List ChanObserver → List ChanObserver
masked number on observers = map (mask_one number on) observers

-- what a call for the channel is answered: it gets it where nobody holds it
abbrev pub gain_reply : Option Holder → Bool → ChanReply
gain_reply None waits = Got
gain_reply (Some holder) true = Wait
gain_reply (Some holder) false = Busy

-- the reply to each operation, where it is possible
abbrev pub chan_reply : Channel → Who → ChanOp → Option ChanReply
chan_reply c who (ops.Offer message waits) =
    Some (if is_valid c.valid message then gain_reply c.holder waits else NoMsg)
chan_reply c who (ops.Enter waits) = Some (gain_reply c.holder waits)
chan_reply c who (ops.Claim waits) = Some (gain_reply c.holder waits)
chan_reply c who (ops.ClaimEnd place) = decision_of c.waits who.number place
chan_reply c who (ops.ClaimQuit place) = quit_answer Again c.waits who.number place
chan_reply c who (ops.Set message) = if holds c who then Some (Observers (told_of c.observers)) else None
chan_reply c who ops.List = if holds c who then Some (Observers (told_of c.observers)) else None
chan_reply c who ops.Get = if holds c who then Some (Bytes c.message) else None
chan_reply c who ops.Free = if holds_by_entering c who then Some Done else None
chan_reply c who ops.Finish = Some (if has_claimed c who then Done else Inval)
chan_reply c who (ops.Mask observer on) =
    Some (if list_any (is_observer observer) c.observers then Done else Inval)

-- a call for the channel holds it in its manner where nobody does. Else its caller waits, if it is to wait
abbrev pub gain : Option Holder → Channel → Who → Manner → Bool → Channel
gain None c who manner waits = record c { holder = Some (record { player = who.number; manner = manner }) }
gain (Some holder) c who manner true =
    record c { waits = joined c.waits (record { place = c.entries; who = who; payload = manner }) }
gain (Some holder) c who manner false = c

-- who waits holds the channel in the manner of its call
abbrev pub held_by : Waiter Manner → Holder
held_by w = record { player = w.who.number; manner = w.payload }

-- a channel that is freed goes to the first who waits, and nobody holds it where nobody waits
abbrev pub handed_on : Channel → Channel
handed_on c = record c {
  holder = option_map held_by (slice_get c.waits.waiting 0);
  waits = first_decided Got c.waits;
}

-- what each operation changes. One that isn't possible changes nothing
abbrev pub chan_changed : Channel → Who → ChanOp → Channel
chan_changed c who (ops.Offer message waits) =
    if is_valid c.valid message then gain c.holder c who manners.Offer waits else c
chan_changed c who (ops.Enter waits) = gain c.holder c who manners.Enter waits
chan_changed c who (ops.Claim waits) = gain c.holder c who manners.Claim waits
chan_changed c who (ops.ClaimEnd place) = record c { waits = ended c.waits who.number place }
chan_changed c who (ops.ClaimQuit place) = record c { waits = quitted c.waits who.number place }
chan_changed c who (ops.Set message) = if holds c who then record c { message = message } else c
chan_changed c who ops.List = c
chan_changed c who ops.Get = c
chan_changed c who ops.Free = if holds_by_entering c who then handed_on c else c
chan_changed c who ops.Finish = if has_claimed c who then handed_on c else c
chan_changed c who (ops.Mask observer on) = record c { observers = masked observer on c.observers }

-- the state after an entry, which is counted
abbrev pub chan_next : Channel → Who → ChanOp → Channel
chan_next c who op = let after = chan_changed c who op in record after { entries = c.entries + 1 }

-- the state after an operation with this reply: nothing changes where there is none
abbrev pub chan_after : Channel → Who → ChanOp → Option ChanReply → Channel
chan_after c who op reply = if is_some reply then chan_next c who op else c

-- the operation may begin a wait
abbrev pub may_wait : ChanOp → Bool
may_wait (ops.Offer message waits) = waits
may_wait (ops.Enter waits) = waits
may_wait (ops.Claim waits) = waits
may_wait _ = false

-- the end of a wait gives an entry that is owed, and so does freeing the channel:
-- a finish does where the caller has claimed it
abbrev pub chan_closes : Channel → Who → ChanOp → Bool
chan_closes c who (ops.ClaimEnd place) = true
chan_closes c who (ops.ClaimQuit place) = true
chan_closes c who ops.Free = true
chan_closes c who ops.Finish = has_claimed c who
chan_closes c who _ = false

-- any number is in range as the observer of a mask
abbrev pub chan_in_range : Channel → ChanOp → Bool
chan_in_range c op = true

-- the machine of a channel
abbrev pub chan_machine : Machine Channel ChanOp ChanReply
chan_machine = record { reply_of = chan_reply; next = chan_next; in_range = chan_in_range }
