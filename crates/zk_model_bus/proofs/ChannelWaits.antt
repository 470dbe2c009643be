-- A channel has waits: those who call for it.
use Rattle.std.proofs.Common.{◌≡◌, ℕ, Bool, true, false, cond, Option, Some, None, List, refl, sym, ap, subst}
use Rattle.std.proofs.lemmas.Option.{same_Some}
use Rattle.zk_base.specs.declared.ids.Who.{Who}
use Rattle.zk_base.specs.Waits.{first_decided}
use Rattle.zk_base.specs.WaitLaws.{nobody, after_decision, after_entry, HasWaits, IsFirst, KeepsWaits}
use Rattle.zk_base.proofs.WaitsKept.{keeps_waits}
use Rattle.zk_model_bus.specs.declared.channel.Holder.{Holder}
use Rattle.zk_model_bus.specs.declared.channel.Manner.{Manner}
use Rattle.zk_model_bus.specs.declared.channel.Manner.TheVariants as manners
use Rattle.zk_base.specs.declared.validator.Valid.{Valid}
use Rattle.zk_model_bus.specs.declared.channel.ChanOp.{ChanOp}
use Rattle.zk_model_bus.specs.declared.channel.ChanOp.TheVariants as ops
use Rattle.zk_model_bus.specs.declared.channel.ChanReply.{ChanReply}
use Rattle.zk_model_bus.specs.declared.channel.ChanReply.TheVariants.{Got, Busy, Wait, NoMsg, Done, Inval}
use Rattle.zk_model_bus.specs.Channel.{Channel, new_chan, holds, has_claimed, holds_by_entering, gain_reply, gain, handed_on, chan_reply, chan_next, chan_machine}
use Rattle.zk_base.specs.Validators.{is_valid}
use Rattle.zk_model_bus.specs.ChannelWaits.{call_opens, call_decides, callers}
use Rattle.zk_model_bus.specs.ChannelLaws.{OfEachChan}

-- a call for the channel opens a wait where it is told to wait
gain-moves : (o : Option Holder) (c : Channel) (who : Who) (manner : Manner) (waits : Bool) (op : ChanOp) →
    call_opens op Got ≡ None → call_opens op Busy ≡ None → call_opens op Wait ≡ Some manner →
    (gain o c who manner waits).waits ≡ after_entry c.waits c.entries who nobody (call_opens op (gain_reply o waits)) None None
gain-moves None c who manner waits op got busy wait =
    ap (λ (x : Option Manner). after_entry c.waits c.entries who nobody x None None) (sym got)
gain-moves (Some h) c who manner true op got busy wait =
    ap (λ (x : Option Manner). after_entry c.waits c.entries who nobody x None None) (sym wait)
gain-moves (Some h) c who manner false op got busy wait =
    ap (λ (x : Option Manner). after_entry c.waits c.entries who nobody x None None) (sym busy)

offer-moves : (c : Channel) (who : Who) (message : List ℕ) (waits valid : Bool) →
    (cond valid (gain c.holder c who manners.Offer waits) c).waits
    ≡ after_entry c.waits c.entries who nobody
    (call_opens (ops.Offer message waits) (cond valid (gain_reply c.holder waits) NoMsg)) None None
offer-moves c who message waits true = gain-moves c.holder c who manners.Offer waits (ops.Offer message waits) refl refl refl
offer-moves c who message waits false = refl

free-moves : (c : Channel) (b : Bool) (reply : ChanReply) → cond b (Some Done) None ≡ Some reply →
    (cond b (handed_on c) c).waits ≡ after_decision (call_decides c ops.Free reply) c.waits
free-moves c true reply is =
    subst (λ (r : ChanReply). first_decided Got c.waits ≡ after_decision (call_decides c ops.Free r) c.waits)
    (same_Some Done reply is) refl
free-moves c false reply is = absurd (cc)

finish-moves : (c : Channel) (b : Bool) →
    (cond b (handed_on c) c).waits ≡ after_decision (call_decides c ops.Finish (cond b Done Inval)) c.waits
finish-moves c true = refl
finish-moves c false = refl

call-moves : (c : Channel) (who : Who) (op : ChanOp) (reply : ChanReply) → chan_reply c who op ≡ Some reply →
    (chan_next c who op).waits ≡ after_entry c.waits c.entries who (callers.decides c op reply) (callers.opens op reply)
    (callers.ends op) (callers.quits op)
call-moves c who (ops.Offer message waits) reply is =
    subst (λ (r : ChanReply). (chan_next c who (ops.Offer message waits)).waits ≡ after_entry c.waits c.entries who nobody
    (call_opens (ops.Offer message waits) r) None None)
    (same_Some (cond (is_valid c.valid message) (gain_reply c.holder waits) NoMsg) reply is)
    (offer-moves c who message waits (is_valid c.valid message))
call-moves c who (ops.Enter waits) reply is =
    subst (λ (r : ChanReply). (chan_next c who (ops.Enter waits)).waits ≡ after_entry c.waits c.entries who nobody
    (call_opens (ops.Enter waits) r) None None)
    (same_Some (gain_reply c.holder waits) reply is)
    (gain-moves c.holder c who manners.Enter waits (ops.Enter waits) refl refl refl)
call-moves c who (ops.Claim waits) reply is =
    subst (λ (r : ChanReply). (chan_next c who (ops.Claim waits)).waits ≡ after_entry c.waits c.entries who nobody
    (call_opens (ops.Claim waits) r) None None)
    (same_Some (gain_reply c.holder waits) reply is)
    (gain-moves c.holder c who manners.Claim waits (ops.Claim waits) refl refl refl)
call-moves c who (ops.ClaimEnd place) reply is = refl
call-moves c who (ops.ClaimQuit place) reply is = refl
call-moves c who (ops.Set message) reply is = set-moves (holds c who) where
  set-moves : (b : Bool) → (cond b (record c { message = message }) c).waits ≡ c.waits
  set-moves true = refl
  set-moves false = refl
call-moves c who ops.List reply is = refl
call-moves c who ops.Get reply is = refl
call-moves c who ops.Free reply is = free-moves c (holds_by_entering c who) reply is
call-moves c who ops.Finish reply is =
    subst (λ (r : ChanReply). (chan_next c who ops.Finish).waits ≡ after_decision (call_decides c ops.Finish r) c.waits)
    (same_Some (cond (has_claimed c who) Done Inval) reply is) (finish-moves c (has_claimed c who))
call-moves c who (ops.Mask observer on) reply is = refl

call-ends : (c : Channel) (who : Who) (op : ChanOp) (place : ℕ) → callers.ends op ≡ Some place →
    chan_reply c who op ≡ chan_reply c who (ops.ClaimEnd place)
call-ends c who (ops.ClaimEnd at) place is = ap (λ (p : ℕ). chan_reply c who (ops.ClaimEnd p)) (same_Some at place is)
call-ends c who op place is = absurd (cc)

call-quits : (c : Channel) (who : Who) (op : ChanOp) (place : ℕ) → callers.quits op ≡ Some place →
    chan_reply c who op ≡ chan_reply c who (ops.ClaimQuit place)
call-quits c who (ops.ClaimQuit at) place is = ap (λ (p : ℕ). chan_reply c who (ops.ClaimQuit p)) (same_Some at place is)
call-quits c who op place is = absurd (cc)

call-opens_alone : (op : ChanOp) (reply : ChanReply) (manner : Manner) → callers.opens op reply ≡ Some manner →
    (callers.ends op ≡ None) × (callers.quits op ≡ None)
call-opens_alone (ops.Offer message waits) reply manner is = (refl, refl)
call-opens_alone (ops.Enter waits) reply manner is = (refl, refl)
call-opens_alone (ops.Claim waits) reply manner is = (refl, refl)
call-opens_alone op reply manner is = absurd (cc)

call-ends_alone : (op : ChanOp) (place : ℕ) → callers.ends op ≡ Some place → callers.quits op ≡ None
call-ends_alone (ops.ClaimEnd at) place is = refl
call-ends_alone op place is = absurd (cc)

-- a channel has waits: those who call for it
pub has_callers : HasWaits chan_machine callers
has_callers = record {
  counts = λ c who op. refl;
  moves = call-moves;
  ends = call-ends;
  quits = call-quits;
  opens_alone = call-opens_alone;
  ends_alone = call-ends_alone;
}

pub first_callers : (message : List ℕ) (valid : Valid) (observers : List ℕ) → IsFirst callers (new_chan message valid observers)
first_callers message valid observers = record { none = refl; new = refl }

pub callers_hold : OfEachChan (KeepsWaits chan_machine callers)
callers_hold message valid observers h legal =
    keeps_waits chan_machine callers has_callers (new_chan message valid observers) h
    (first_callers message valid observers) legal.0
