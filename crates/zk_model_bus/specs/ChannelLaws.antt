use Rattle.std.specs.Prelude.{◌≡◌, ℕ, ◌<◌, Bool, true, false, not, ◌==◌, ◌&&◌, ◌⊎◌, if◌then◌else◌, Option, Some, None, List, [], ◌∷◌, ◌++◌, map}
use Rattle.std.specs.List.{filter, list_any}
use Rattle.zk_base.specs.declared.ids.Who.{Who}
use Rattle.zk_base.specs.declared.ids.Entry.{Entry}
use Rattle.zk_base.specs.declared.waits.Decision.{Decision}
use Rattle.zk_base.specs.History.{IsEntry}
use Rattle.zk_base.specs.Legal.{state_after, IsLegal}
use Rattle.zk_base.specs.WaitLaws.{WasOpened, IsDecidedBy, KeepsWaits}
use Rattle.zk_model_bus.specs.declared.channel.Holder.{Holder}
use Rattle.zk_model_bus.specs.declared.channel.Manner.{Manner}
use Rattle.zk_model_bus.specs.declared.channel.Manner.TheVariants as manners
use Rattle.zk_base.specs.declared.validator.Valid.{Valid}
use Rattle.zk_base.specs.declared.validator.Valid.TheVariants as valids
use Rattle.zk_model_bus.specs.declared.channel.ChanOp.{ChanOp}
use Rattle.zk_model_bus.specs.declared.channel.ChanOp.TheVariants as ops
use Rattle.zk_model_bus.specs.declared.channel.ChanReply.{ChanReply}
use Rattle.zk_model_bus.specs.declared.channel.ChanReply.TheVariants.{Got, Busy, Wait, NoMsg, Observers, Bytes, Done, Inval}
use Rattle.zk_model_bus.specs.Channel.{Channel, new_chan, chan_reply, chan_machine}
use Rattle.zk_model_bus.specs.ChannelWaits.{callers}

-- a history of a channel
abbrev pub ChanHistory : Type 0
ChanHistory = List (Entry ChanOp ChanReply)

-- the channel after a history, from a first state on
abbrev pub chan_after_all : Channel → ChanHistory → Channel
chan_after_all c h = state_after chan_machine c h

-- it holds of each legal history of each channel, whatever its first message, its validator and its observers
abbrev pub OfEachChan : (Channel → ChanHistory → Type 0) → Type 0
OfEachChan P = (message : List ℕ) (valid : Valid) (observers : List ℕ) (h : ChanHistory) →
    IsLegal chan_machine (new_chan message valid observers) h → P (new_chan message valid observers) h

-- the player holds the channel in this manner
abbrev pub IsHolder : Channel → ℕ → Manner → Type 0
IsHolder c player manner = c.holder ≡ Some (record { player = player; manner = manner })

-- the manner in which a call would hold the channel
abbrev pub manner_of : ChanOp → Option Manner
manner_of (ops.Offer message waits) = Some manners.Offer
manner_of (ops.Enter waits) = Some manners.Enter
manner_of (ops.Claim waits) = Some manners.Claim
manner_of op = None

-- whether a call for the channel is to wait
abbrev pub waits_of : ChanOp → Option Bool
waits_of (ops.Offer message waits) = Some waits
waits_of (ops.Enter waits) = Some waits
waits_of (ops.Claim waits) = Some waits
waits_of op = None

-- the operation uses the channel
abbrev pub uses : ChanOp → Bool
uses (ops.Set message) = true
uses ops.List = true
uses ops.Get = true
uses op = false

-- the operation asks for the observers
abbrev pub asks_observers : ChanOp → Bool
asks_observers (ops.Set message) = true
asks_observers ops.List = true
asks_observers op = false

-- the operation is possible at any time
abbrev pub is_always : ChanOp → Bool
is_always (ops.Offer message waits) = true
is_always (ops.Enter waits) = true
is_always (ops.Claim waits) = true
is_always ops.Finish = true
is_always (ops.Mask observer on) = true
is_always op = false

-- such an operation and reply free the channel
abbrev pub frees : ChanOp → ChanReply → Bool
frees ops.Free Done = true
frees ops.Finish Done = true
frees op reply = false

-- the entry frees the channel
abbrev pub is_freed : Entry ChanOp ChanReply → Bool
is_freed e = frees e.op e.reply

-- the entry is this player's, and frees the channel
abbrev pub is_freed_by : ℕ → Entry ChanOp ChanReply → Bool
is_freed_by player e = is_freed e && e.who.number == player

-- the call of the entry got the channel, for its player and in its manner
pub record GotIt (e : Entry ChanOp ChanReply) (holder : Holder) : Type 0 where
  pub got : e.reply ≡ Got
  pub own : e.who.number ≡ holder.player
  pub manner : manner_of e.op ≡ Some holder.manner

-- the entry decides the wait that the player opened in this manner
pub record HandedIt (c : Channel) (front : ChanHistory) (e : Entry ChanOp ChanReply) (holder : Holder) : Type 0 where
  pub d : Decision ChanReply
  pub decided : IsDecidedBy chan_machine callers c front e d
  pub who : Who
  pub own : who.number ≡ holder.player
  pub opened : WasOpened callers front d.place who holder.manner

-- the entry behind this front gains the channel for a holder
abbrev pub Gains : Channel → ChanHistory → Entry ChanOp ChanReply → Holder → Type 0
Gains c front e holder = GotIt e holder ⊎ HandedIt c front e holder

-- it gains it for somebody, or frees it
abbrev pub Moves : Channel → ChanHistory → Entry ChanOp ChanReply → Type 0
Moves c front e = (is_freed e ≡ true) ⊎ ((holder : Holder) × Gains c front e holder)

-- no entry of the rest behind this front does
abbrev pub Unmoved : Channel → ChanHistory → ChanHistory → Type 0
Unmoved c front rest = (part : ChanHistory) (e : Entry ChanOp ChanReply) → IsEntry rest part e →
    Moves c (front ++ part) e → ⊥

-- the first byte of the message is above the bound of the validator
abbrev pub IsAboveBound : Valid → List ℕ → Type 0
IsAboveBound valids.Any message = ⊥
IsAboveBound (valids.Max bound) [] = ⊥
IsAboveBound (valids.Max bound) (byte ∷ bytes) = bound < byte

-- an offer of such a message
abbrev pub IsRefused : Valid → ChanOp → Type 0
IsRefused valid op = (message : List ℕ) × (waits : Bool) × (op ≡ ops.Offer message waits) × IsAboveBound valid message

-- what a call for the channel is told by who holds it
pub record CallIsTold (holder : Option Holder) (waits : Bool) (reply : ChanReply) : Type 0 where
  pub got : holder ≡ None → reply ≡ Got
  pub wait : (h : Holder) → holder ≡ Some h → waits ≡ true → reply ≡ Wait
  pub busy : (h : Holder) → holder ≡ Some h → waits ≡ false → reply ≡ Busy

-- what the last set of a history puts in, and what was there before where there is none
abbrev pub set_by : ChanOp → List ℕ → List ℕ
set_by (ops.Set message) before = message
set_by op before = before

abbrev pub last_set : List ℕ → ChanHistory → List ℕ
last_set message [] = message
last_set message (e ∷ es) = last_set (set_by e.op message) es

-- what the last mask of a history says of an observer, and what was so before where there is none
abbrev pub masked_by : ℕ → ChanOp → Bool → Bool
masked_by number (ops.Mask observer on) before = if number == observer then on else before
masked_by number op before = before

abbrev pub last_mask : ℕ → Bool → ChanHistory → Bool
last_mask number masked [] = masked
last_mask number masked (e ∷ es) = last_mask number (masked_by number e.op masked) es

-- the numbers of a channel's observers, in declared order
abbrev pub numbers : Channel → List ℕ
numbers c = map (λ o. o.number) c.observers

-- Each of what follows is said of one history, from its first state on.

-- who holds the channel is whom the last entry that gains or frees it gains it for: nobody, where it gains it for nobody,
-- and where there is no such entry
pub record HolderGainedItLast (c : Channel) (h : ChanHistory) : Type 0 where
  pub gained : (front : ChanHistory) (e : Entry ChanOp ChanReply) (holder : Holder) (at : IsEntry h front e) →
      Gains c front e holder → Unmoved c (front ++ e ∷ []) at.rest → (chan_after_all c h).holder ≡ Some holder
  pub freed : (front : ChanHistory) (e : Entry ChanOp ChanReply) (at : IsEntry h front e) →
      is_freed e ≡ true → ((holder : Holder) → Gains c front e holder → ⊥) →
      Unmoved c (front ++ e ∷ []) at.rest → (chan_after_all c h).holder ≡ None
  pub never : Unmoved c [] h → (chan_after_all c h).holder ≡ None

-- an entry gains the channel where nobody holds it or where it frees it, and for one at most
pub record GainedOnlyWhereFree (c : Channel) (h : ChanHistory) : Type 0 where
  pub free : (front : ChanHistory) (e : Entry ChanOp ChanReply) (holder : Holder) → IsEntry h front e →
      Gains c front e holder → ((chan_after_all c front).holder ≡ None) ⊎ (is_freed e ≡ true)
  pub one : (front : ChanHistory) (e : Entry ChanOp ChanReply) (holder other : Holder) → IsEntry h front e →
      Gains c front e holder → Gains c front e other → holder ≡ other

-- an entry decides one wait at most
abbrev pub DecidesOneWait : Channel → ChanHistory → Type 0
DecidesOneWait c h = (front : ChanHistory) (e : Entry ChanOp ChanReply) (d other : Decision ChanReply) → IsEntry h front e →
    IsDecidedBy chan_machine callers c front e d → IsDecidedBy chan_machine callers c front e other → d ≡ other

-- nobody waits where nobody holds the channel
abbrev pub HandedOnAtOnce : Channel → ChanHistory → Type 0
HandedOnAtOnce c h = (chan_after_all c h).holder ≡ None → (chan_after_all c h).waits.waiting ≡ []

-- an entry that decides a wait frees the channel, and tells who waits that it is got
abbrev pub HandedOnByAFree : Channel → ChanHistory → Type 0
HandedOnByAFree c h = (front : ChanHistory) (e : Entry ChanOp ChanReply) (d : Decision ChanReply) → IsEntry h front e →
    IsDecidedBy chan_machine callers c front e d → (is_freed e ≡ true) × (d.answer ≡ Got)

-- only the holder sets and reads the message and lists the observers
abbrev pub OnlyTheHolderUses : Channel → ChanHistory → Type 0
OnlyTheHolderUses c h = (front : ChanHistory) (e : Entry ChanOp ChanReply) → IsEntry h front e → uses e.op ≡ true →
    (manner : Manner) × IsHolder (chan_after_all c front) e.who.number manner

-- a free is by the holder, who offered or entered. A finish is done where the caller claimed the channel
pub record FreedInItsManner (c : Channel) (h : ChanHistory) : Type 0 where
  pub free : (front : ChanHistory) (e : Entry ChanOp ChanReply) → IsEntry h front e → e.op ≡ ops.Free →
      (IsHolder (chan_after_all c front) e.who.number manners.Offer
      ⊎ IsHolder (chan_after_all c front) e.who.number manners.Enter) × (e.reply ≡ Done)
  pub finish : (front : ChanHistory) (e : Entry ChanOp ChanReply) → IsEntry h front e → e.op ≡ ops.Finish →
      IsHolder (chan_after_all c front) e.who.number manners.Claim → e.reply ≡ Done
  pub not_claimed : (front : ChanHistory) (e : Entry ChanOp ChanReply) → IsEntry h front e → e.op ≡ ops.Finish →
      (IsHolder (chan_after_all c front) e.who.number manners.Claim → ⊥) → e.reply ≡ Inval

-- of the calls for the channel just an offer that the validator refuses is told so, be the channel held or not
pub record RefusedByItsValidator (c : Channel) (h : ChanHistory) : Type 0 where
  pub refused : (front : ChanHistory) (e : Entry ChanOp ChanReply) → IsEntry h front e → IsRefused c.valid e.op →
      e.reply ≡ NoMsg
  pub alone : (front : ChanHistory) (e : Entry ChanOp ChanReply) (waits : Bool) → IsEntry h front e →
      waits_of e.op ≡ Some waits → e.reply ≡ NoMsg → IsRefused c.valid e.op

-- any other call for the channel gets it where nobody holds it. Else it waits, or is told so
abbrev pub CallWaitsOnlyWhereHeld : Channel → ChanHistory → Type 0
CallWaitsOnlyWhereHeld c h = (front : ChanHistory) (e : Entry ChanOp ChanReply) (waits : Bool) → IsEntry h front e →
    waits_of e.op ≡ Some waits → (IsRefused c.valid e.op → ⊥) →
    CallIsTold (chan_after_all c front).holder waits e.reply

-- a get is answered the message of the last set, and the first message where there is none
abbrev pub GetTellsTheLastSet : Channel → ChanHistory → Type 0
GetTellsTheLastSet c h = (front : ChanHistory) (e : Entry ChanOp ChanReply) → IsEntry h front e → e.op ≡ ops.Get →
    e.reply ≡ Bytes (last_set c.message front)

-- a set and a list are answered, in declared order, the observers whose last mask isn't on
abbrev pub ListTellsTheUnmasked : Channel → ChanHistory → Type 0
ListTellsTheUnmasked c h = (front : ChanHistory) (e : Entry ChanOp ChanReply) → IsEntry h front e →
    asks_observers e.op ≡ true →
    e.reply ≡ Observers (filter (λ number. not (last_mask number false front)) (numbers c))

-- a mask is done just where the observer is one of the channel's
pub record MaskKnowsItsObservers (c : Channel) (h : ChanHistory) : Type 0 where
  pub known : (front : ChanHistory) (e : Entry ChanOp ChanReply) (observer : ℕ) (on : Bool) → IsEntry h front e →
      e.op ≡ ops.Mask observer on → list_any (λ number. number == observer) (numbers c) ≡ true → e.reply ≡ Done
  pub unknown : (front : ChanHistory) (e : Entry ChanOp ChanReply) (observer : ℕ) (on : Bool) → IsEntry h front e →
      e.op ≡ ops.Mask observer on → list_any (λ number. number == observer) (numbers c) ≡ false → e.reply ≡ Inval

-- the holder may use the channel, and free it where it offered or entered
pub record HolderMayUse (c : Channel) (h : ChanHistory) : Type 0 where
  pub used : (who : Who) (manner : Manner) (op : ChanOp) → IsHolder (chan_after_all c h) who.number manner →
      uses op ≡ true → (reply : ChanReply) × (chan_reply (chan_after_all c h) who op ≡ Some reply)
  pub free : (who : Who) → IsHolder (chan_after_all c h) who.number manners.Offer
      ⊎ IsHolder (chan_after_all c h) who.number manners.Enter →
      chan_reply (chan_after_all c h) who ops.Free ≡ Some Done

-- a call for the channel, a finish and a mask are possible at any time
abbrev pub MayAlways : Channel → ChanHistory → Type 0
MayAlways c h = (who : Who) (op : ChanOp) → is_always op ≡ true →
    (reply : ChanReply) × (chan_reply (chan_after_all c h) who op ≡ Some reply)

-- between two who use the channel the first frees it
abbrev pub OneUsesAtATime : Channel → ChanHistory → Type 0
OneUsesAtATime c h = (front middle rest : ChanHistory) (e f : Entry ChanOp ChanReply) →
    h ≡ (front ++ e ∷ middle) ++ f ∷ rest → uses e.op ≡ true → uses f.op ≡ true →
    (e.who.number ≡ f.who.number → ⊥) → list_any (is_freed_by e.who.number) middle ≡ true

-- the laws of a channel: who holds it, what is in it, what its calls are told, and its waits
pub record KeepsChannelLaws (c : Channel) (h : ChanHistory) : Type 0 where
  pub holder : HolderGainedItLast c h
  pub gained : GainedOnlyWhereFree c h
  pub one_wait : DecidesOneWait c h
  pub at_once : HandedOnAtOnce c h
  pub by_free : HandedOnByAFree c h
  pub only : OnlyTheHolderUses c h
  pub freed : FreedInItsManner c h
  pub may_use : HolderMayUse c h
  pub one : OneUsesAtATime c h
  pub get : GetTellsTheLastSet c h
  pub list : ListTellsTheUnmasked c h
  pub mask : MaskKnowsItsObservers c h
  pub refused : RefusedByItsValidator c h
  pub calls : CallWaitsOnlyWhereHeld c h
  pub always : MayAlways c h
  pub waits : KeepsWaits chan_machine callers c h
