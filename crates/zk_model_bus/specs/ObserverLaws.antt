use Rattle.std.specs.Prelude.{◌≡◌, ℕ, ◌<◌, ◌≤◌, Bool, true, false, Option, Some, None, List, [], ◌∷◌, ◌++◌, length}
use Rattle.zk_base.specs.declared.ids.Who.{Who}
use Rattle.zk_base.specs.declared.ids.Entry.{Entry}
use Rattle.zk_base.specs.declared.waits.Decision.{Decision}
use Rattle.zk_base.specs.History.{IsEntry}
use Rattle.zk_base.specs.Legal.{state_after, IsLegal}
use Rattle.zk_base.specs.WaitLaws.{handed_by, IsDecidedBy, KeepsWaits}
use Rattle.zk_model_bus.specs.declared.observer.ObsOp.{ObsOp}
use Rattle.zk_model_bus.specs.declared.observer.ObsOp.TheVariants as ops
use Rattle.zk_model_bus.specs.declared.observer.ObsReply.{ObsReply}
use Rattle.zk_model_bus.specs.declared.observer.ObsReply.TheVariants.{Off, Run, Pushed, Full, Channel, NoMsg, Wait, Done}
use Rattle.zk_model_bus.specs.Observer.{Observer, new_obs, obs_reply, obs_next, obs_machine}
use Rattle.zk_model_bus.specs.ObserverWaits.{takers}

-- a history of an observer
abbrev pub ObsHistory : Type 0
ObsHistory = List (Entry ObsOp ObsReply)

-- the observer after a history, from a first state on
abbrev pub obs_after_all : Observer → ObsHistory → Observer
obs_after_all o h = state_after obs_machine o h

-- it holds of each legal history of each listener and of each subscriber, whatever its capacity
abbrev pub OfEachObs : (Observer → ObsHistory → Type 0) → Type 0
OfEachObs P = (capacity : Option ℕ) (h : ObsHistory) → IsLegal obs_machine (new_obs capacity) h → P (new_obs capacity) h

-- the channel of a reply, if it has one
abbrev pub channel_of : ObsReply → List ℕ
channel_of (Channel channel) = channel ∷ []
channel_of reply = []

-- the channel that an entry pushes, if it does
abbrev pub pushed : ObsOp → ObsReply → List ℕ
pushed (ops.Visit channel) Pushed = channel ∷ []
pushed op reply = []

-- the channels that an entry hands out: the one that a take is answered, and those that takers are handed by a visit
abbrev pub handed_out : Observer → Observer → ObsOp → ObsReply → List ℕ
handed_out before after (ops.Take waits) reply = channel_of reply
handed_out before after (ops.Visit channel) reply = handed_by channel_of before.takers after.takers.decided
handed_out before after op reply = []

-- all that is pushed along a history, in order
abbrev pub all_pushed : ObsHistory → List ℕ
all_pushed [] = []
all_pushed (e ∷ es) = pushed e.op e.reply ++ all_pushed es

-- all that is handed out along a history, in order
abbrev pub all_handed_out : Observer → ObsHistory → List ℕ
all_handed_out o [] = []
all_handed_out o (e ∷ es) =
    handed_out o (obs_next o e.who e.op) e.op e.reply ++ all_handed_out (obs_next o e.who e.op) es

-- what the last enable of a history says, and what was so before where there is none
abbrev pub enabled_by : ObsOp → Bool → Bool
enabled_by (ops.Enable on) before = on
enabled_by op before = before

abbrev pub last_enable : Bool → ObsHistory → Bool
last_enable enabled [] = enabled
last_enable enabled (e ∷ es) = last_enable (enabled_by e.op enabled) es

-- what a visit of an enabled subscriber of this capacity is told: it is full where nobody waits and its list has no room
pub record PushIsTold (capacity : ℕ) (o : Observer) (reply : ObsReply) : Type 0 where
  pub handed : (o.takers.waiting ≡ [] → ⊥) → reply ≡ Pushed
  pub room : length o.channels < capacity → reply ≡ Pushed
  pub full : o.takers.waiting ≡ [] → capacity ≤ length o.channels → reply ≡ Full

-- what a take is told: the oldest channel
pub record TakeIsTold (o : Observer) (waits : Bool) (reply : ObsReply) : Type 0 where
  pub got : (channel : ℕ) (channels : List ℕ) → o.channels ≡ channel ∷ channels → reply ≡ Channel channel
  pub wait : o.channels ≡ [] → waits ≡ true → reply ≡ Wait
  pub none : o.channels ≡ [] → waits ≡ false → reply ≡ NoMsg

-- the operation is possible at any time
abbrev pub is_always : ObsOp → Bool
is_always (ops.Visit channel) = true
is_always (ops.Enable on) = true
is_always op = false

-- Each of what follows is said of one history, from its first state on.

-- first in, first out: what is listed and then is pushed is what is handed out and then is listed, in the same order
abbrev pub TakenInOrder : Observer → ObsHistory → Type 0
TakenInOrder o h = (front part : ObsHistory) → h ≡ front ++ part →
    (obs_after_all o front).channels ++ all_pushed part
    ≡ all_handed_out (obs_after_all o front) part ++ (obs_after_all o h).channels

-- nobody waits while a channel is listed
abbrev pub NoneWaitsWhileChannels : Observer → ObsHistory → Type 0
NoneWaitsWhileChannels o h = 0 < length (obs_after_all o h).channels → (obs_after_all o h).takers.waiting ≡ []

-- a subscriber lists no more channels than its capacity, and a listener none
pub record WithinCapacity (o : Observer) (h : ObsHistory) : Type 0 where
  pub subscriber : (capacity : ℕ) → o.capacity ≡ Some capacity → length (obs_after_all o h).channels ≤ capacity
  pub listener : o.capacity ≡ None → (obs_after_all o h).channels ≡ []

-- a visit is told off just where the last enable is off. At first an observer is on
pub record OffWhileDisabled (o : Observer) (h : ObsHistory) : Type 0 where
  pub off : (front : ObsHistory) (e : Entry ObsOp ObsReply) (channel : ℕ) → IsEntry h front e →
      e.op ≡ ops.Visit channel → last_enable true front ≡ false → e.reply ≡ Off
  pub on : (front : ObsHistory) (e : Entry ObsOp ObsReply) (channel : ℕ) → IsEntry h front e →
      e.op ≡ ops.Visit channel → last_enable true front ≡ true → e.reply ≡ Off → ⊥

-- a visit of a listener that is on runs it
abbrev pub ListenerRuns : Observer → ObsHistory → Type 0
ListenerRuns o h = (front : ObsHistory) (e : Entry ObsOp ObsReply) (channel : ℕ) → IsEntry h front e →
    e.op ≡ ops.Visit channel → last_enable true front ≡ true → o.capacity ≡ None → e.reply ≡ Run

-- a visit of a subscriber that is on pushes its channel, unless nobody waits and the list has its capacity
abbrev pub FullOnlyAtCapacity : Observer → ObsHistory → Type 0
FullOnlyAtCapacity o h = (front : ObsHistory) (e : Entry ObsOp ObsReply) (channel capacity : ℕ) → IsEntry h front e →
    e.op ≡ ops.Visit channel → last_enable true front ≡ true → o.capacity ≡ Some capacity →
    PushIsTold capacity (obs_after_all o front) e.reply

-- a take is answered the oldest channel, be the subscriber on or off. Where there is none it waits, or is told so
abbrev pub TakeWaitsOnlyAtNone : Observer → ObsHistory → Type 0
TakeWaitsOnlyAtNone o h = (front : ObsHistory) (e : Entry ObsOp ObsReply) (waits : Bool) → IsEntry h front e →
    e.op ≡ ops.Take waits → TakeIsTold (obs_after_all o front) waits e.reply

-- an entry that decides a wait is a visit that pushes, and the taker is answered its channel
abbrev pub TakerDecidedByAPush : Observer → ObsHistory → Type 0
TakerDecidedByAPush o h = (front : ObsHistory) (e : Entry ObsOp ObsReply) (d : Decision ObsReply) → IsEntry h front e →
    IsDecidedBy obs_machine takers o front e d →
    (channel : ℕ) × (e.op ≡ ops.Visit channel) × (e.reply ≡ Pushed) × (d.answer ≡ Channel channel)

-- a take is possible at a subscriber at any time, and at a listener at none
pub record ListenerTakesNothing (o : Observer) (h : ObsHistory) : Type 0 where
  pub subscriber : (who : Who) (capacity : ℕ) (waits : Bool) → o.capacity ≡ Some capacity →
      (reply : ObsReply) × (obs_reply (obs_after_all o h) who (ops.Take waits) ≡ Some reply)
  pub listener : (who : Who) (waits : Bool) → o.capacity ≡ None →
      obs_reply (obs_after_all o h) who (ops.Take waits) ≡ None

-- a visit and an enable are possible at any time
abbrev pub MayAlways : Observer → ObsHistory → Type 0
MayAlways o h = (who : Who) (op : ObsOp) → is_always op ≡ true →
    (reply : ObsReply) × (obs_reply (obs_after_all o h) who op ≡ Some reply)

-- an enable is told that it is done
abbrev pub EnableIsDone : Observer → ObsHistory → Type 0
EnableIsDone o h = (front : ObsHistory) (e : Entry ObsOp ObsReply) (on : Bool) → IsEntry h front e →
    e.op ≡ ops.Enable on → e.reply ≡ Done

-- the laws of an observer: its list, whether it is on, what its calls are told, and its waits
pub record KeepsObserverLaws (o : Observer) (h : ObsHistory) : Type 0 where
  pub in_order : TakenInOrder o h
  pub none_waits : NoneWaitsWhileChannels o h
  pub within : WithinCapacity o h
  pub off : OffWhileDisabled o h
  pub listener : ListenerRuns o h
  pub full : FullOnlyAtCapacity o h
  pub take : TakeWaitsOnlyAtNone o h
  pub decided : TakerDecidedByAPush o h
  pub nothing : ListenerTakesNothing o h
  pub always : MayAlways o h
  pub done : EnableIsDone o h
  pub waits : KeepsWaits obs_machine takers o h
