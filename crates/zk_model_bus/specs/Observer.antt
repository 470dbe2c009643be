use Rattle.std.specs.Prelude.{ℕ, ◌+◌, ◌≤◌, Bool, true, false, nat_lt, if◌then◌else◌, Option, Some, None, is_some, IfSome, List, [], ◌∷◌, ◌++◌, length}
use Rattle.circular_buffer.specs.Buffer.{Buffer}
use Rattle.zk_base.specs.declared.ids.Who.{Who}
use Rattle.zk_base.specs.declared.waits.Waiter.{Waiter}
use Rattle.zk_base.specs.Legal.{Machine}
use Rattle.zk_base.specs.Limits.{most_entries, most_held}
use Rattle.zk_base.specs.Waits.{Waits, no_waits, open_waits, joined, ended, quitted, first_decided, decision_of, quit_answer}
use Rattle.zk_model_bus.specs.declared.observer.ObsOp.{ObsOp}
use Rattle.zk_model_bus.specs.declared.observer.ObsOp.TheVariants as ops
use Rattle.zk_model_bus.specs.declared.observer.ObsReply.{ObsReply}
use Rattle.zk_model_bus.specs.declared.observer.ObsReply.TheVariants.{Off, Run, Pushed, Full, Channel, NoMsg, Wait, Again, Done}

-- the state of an observer: the most channels that a subscriber lists, none where it is a listener, the number of entries so far,
-- whether it is enabled, the channels of a subscriber, the oldest first, and who waits to take one
pub record Observer : Type 0 where
  pub capacity : Option ℕ
  pub entries : ℕ
  pub enabled : Bool
  pub channels : List ℕ
  pub takers : Waits Unit ObsReply

-- what a contract sees of the observer that is kept: its state, and how many waits it takes without memory
pub record ObsView : Type 0 where
  pub obs : Observer
  pub room : ℕ

-- the state before the first entry
abbrev pub new_obs : Option ℕ → Observer
new_obs capacity = record { capacity = capacity; entries = 0; enabled = true; channels = []; takers = no_waits }

-- the most channels that a subscriber's ring has room for; a listener has no ring
abbrev pub most_of : Option (Buffer ℕ) → Option ℕ
most_of None = None
most_of (Some ring) = Some ring.capacity

-- the channels in a subscriber's ring; a listener has no ring
abbrev pub channels_of : Option (Buffer ℕ) → List ℕ
channels_of None = []
channels_of (Some ring) = ring.items

-- an observer that lists no more than so many, and at which no more wait than have called
pub record IsListed (o : Observer) : Type 0 where
  pub within : IfSome o.capacity (λ most. length o.channels ≤ most)
  pub bounded : IfSome o.capacity (λ most. most ≤ most_held)
  pub few : o.entries ≤ most_entries
  pub called : open_waits o.takers ≤ o.entries

-- what a visit of an enabled observer is answered: a listener runs,
-- and a subscriber is pushed where somebody waits or there is room
abbrev pub visit_reply : Option ℕ → List (Waiter Unit) → Observer → ObsReply
visit_reply None waiting o = Run
visit_reply (Some capacity) (w ∷ ws) o = Pushed
visit_reply (Some capacity) [] o = if nat_lt (length o.channels) capacity then Pushed else Full

-- what a take is answered: the oldest channel
abbrev pub take_reply : List ℕ → Bool → ObsReply
take_reply (channel ∷ channels) waits = Channel channel
take_reply [] true = Wait
take_reply [] false = NoMsg

-- the reply to each operation, where it is possible
abbrev pub obs_reply : Observer → Who → ObsOp → Option ObsReply
obs_reply o who (ops.Visit channel) = Some (if o.enabled then visit_reply o.capacity o.takers.waiting o else Off)
obs_reply o who (ops.Take waits) = if is_some o.capacity then Some (take_reply o.channels waits) else None
obs_reply o who (ops.TakeEnd place) = decision_of o.takers who.number place
obs_reply o who (ops.TakeQuit place) = quit_answer Again o.takers who.number place
obs_reply o who (ops.Enable on) = Some Done

-- a channel goes behind the others, if there is room
abbrev pub listed : ℕ → Observer → ℕ → Observer
listed capacity o channel =
    if nat_lt (length o.channels) capacity then record o { channels = o.channels ++ channel ∷ [] } else o

-- a visit hands its channel to the first who waits at a subscriber. Where nobody does it is listed
abbrev pub visited : Option ℕ → List (Waiter Unit) → Observer → ℕ → Observer
visited None waiting o channel = o
visited (Some capacity) (w ∷ ws) o channel = record o { takers = first_decided (Channel channel) o.takers }
visited (Some capacity) [] o channel = listed capacity o channel

-- a take takes the oldest channel. Where there is none it waits, if it is to wait
abbrev pub taken : List ℕ → Observer → Who → Bool → Observer
taken (channel ∷ channels) o who waits = record o { channels = channels }
taken [] o who true = record o { takers = joined o.takers (record { place = o.entries; who = who; payload = tt }) }
taken [] o who false = o

-- what each operation changes. One that isn't possible changes nothing
abbrev pub obs_changed : Observer → Who → ObsOp → Observer
obs_changed o who (ops.Visit channel) = if o.enabled then visited o.capacity o.takers.waiting o channel else o
obs_changed o who (ops.Take waits) = if is_some o.capacity then taken o.channels o who waits else o
obs_changed o who (ops.TakeEnd place) = record o { takers = ended o.takers who.number place }
obs_changed o who (ops.TakeQuit place) = record o { takers = quitted o.takers who.number place }
obs_changed o who (ops.Enable on) = record o { enabled = on }

-- the state after an entry, which is counted
abbrev pub obs_next : Observer → Who → ObsOp → Observer
obs_next o who op = let after = obs_changed o who op in record after { entries = o.entries + 1 }

-- the state after an operation with this reply: nothing changes where there is none
abbrev pub obs_after : Observer → Who → ObsOp → Option ObsReply → Observer
obs_after o who op reply = if is_some reply then obs_next o who op else o

-- the operation may begin a wait
abbrev pub may_wait : ObsOp → Bool
may_wait (ops.Take waits) = waits
may_wait _ = false

-- the end of a wait gives an entry that is owed: one for each that hasn't ended
abbrev pub obs_closes : ObsOp → Bool
obs_closes (ops.TakeEnd place) = true
obs_closes (ops.TakeQuit place) = true
obs_closes _ = false

-- any number is in range as the channel of a visit
abbrev pub obs_in_range : Observer → ObsOp → Bool
obs_in_range o op = true

-- the machine of an observer
abbrev pub obs_machine : Machine Observer ObsOp ObsReply
obs_machine = record { reply_of = obs_reply; next = obs_next; in_range = obs_in_range }
