-- A channel tells only observers that it had at first.
use Rattle.std.proofs.Common.{◌≡◌, ℕ, All, Bool, true, false, not, cond, Option, Some, None, option_map, List, [], ◌∷◌, map, refl, sym, subst}
use Rattle.std.specs.List.{find, filter, list_any}
use Rattle.std.proofs.lemmas.List.Elements.{All-nil, All-cons, All-head, All-tail, All-append}
use Rattle.std.proofs.lemmas.Option.{same_Some}
use Rattle.zk_base.specs.declared.ids.Who.{Who}
use Rattle.zk_base.specs.declared.waits.Waiter.{Waiter}
use Rattle.zk_base.specs.declared.waits.Decision.{Decision}
use Rattle.zk_base.specs.Legal.{state_after}
use Rattle.zk_base.specs.Waits.{Waits, is_decision, decide, decision_of, goes_on, ended, quitted, decides_first, given_up}
use Rattle.zk_base.proofs.Firsts.{All-found}
use Rattle.zk_base.proofs.WaitsHold.{All-without}
use Rattle.zk_model_bus.specs.declared.channel.ChanObserver.{ChanObserver}
use Rattle.zk_model_bus.specs.declared.channel.Holder.{Holder}
use Rattle.zk_model_bus.specs.declared.channel.Manner.{Manner}
use Rattle.zk_model_bus.specs.declared.channel.Manner.TheVariants as manners
use Rattle.zk_base.specs.declared.validator.Valid.{Valid}
use Rattle.zk_model_bus.specs.declared.channel.ChanOp.{ChanOp}
use Rattle.zk_model_bus.specs.declared.channel.ChanOp.TheVariants as ops
use Rattle.zk_model_bus.specs.declared.channel.ChanReply.{ChanReply}
use Rattle.zk_model_bus.specs.declared.channel.ChanReply.TheVariants.{Got, Again, NoMsg, Observers, Bytes, Done, Inval}
use Rattle.zk_model_bus.specs.Channel.{Channel, unmasked, new_chan, holds, has_claimed, holds_by_entering, is_observer, told_of, mask_one, masked, gain_reply, gain, handed_on, chan_changed, chan_reply, chan_next, chan_machine}
use Rattle.zk_base.specs.Validators.{is_valid}
use Rattle.zk_model_bus.specs.ChannelLaws.{ChanHistory}

-- What holds of the observers that a channel had at first holds of those that it tells, in every history.
module _ (P : ℕ → Type 0) where
  -- it holds of the observers that a reply tells, if it tells any
  abbrev pub TellsOnly : ChanReply → Type 0
  TellsOnly (Observers told) = All P told
  TellsOnly reply = Unit {0}

  abbrev Has : ChanObserver → Type 0
  Has o = P o.number

  abbrev TellsGot : Decision ChanReply → Type 0
  TellsGot d = TellsOnly d.answer

  -- it holds of a channel's observers, and its decisions tell only such
  record Keeps (c : Channel) : Type 0 where
    each : All Has c.observers
    decided : All TellsGot c.waits.decided

  cond-keeps : (b : Bool) (x y : Channel) → Keeps x → Keeps y → Keeps (cond b x y)
  cond-keeps true x y first second = first
  cond-keeps false x y first second = second

  gain-keeps : (o : Option Holder) (c : Channel) (who : Who) (manner : Manner) (waits : Bool) → Keeps c →
      Keeps (gain o c who manner waits)
  gain-keeps None c who manner waits keeps = record { each = keeps.each; decided = keeps.decided }
  gain-keeps (Some h) c who manner true keeps = record { each = keeps.each; decided = keeps.decided }
  gain-keeps (Some h) c who manner false keeps = keeps

  first-keeps : (waiting : List (Waiter Manner)) (decided : List (Decision ChanReply)) → All TellsGot decided →
      All TellsGot (decides_first Got waiting decided).decided
  first-keeps [] decided all = all
  first-keeps (w ∷ ws) decided all =
      All-append TellsGot decided (decide Got w ∷ []) all (All-cons TellsGot (decide Got w) [] tt (All-nil TellsGot))

  handed-keeps : (c : Channel) → Keeps c → Keeps (handed_on c)
  handed-keeps c keeps = record { each = keeps.each; decided = first-keeps c.waits.waiting c.waits.decided keeps.decided }

  without-keeps : (c : Channel) (waits : Waits Manner ChanReply) (player place : ℕ) → Keeps c →
      waits.decided ≡ (ended c.waits player place).decided → Keeps (record c { waits = waits })
  without-keeps c waits player place keeps same = record {
    each = keeps.each;
    decided = subst (All TellsGot) (sym same) (All-without TellsGot (is_decision player place) c.waits.decided keeps.decided);
  }

  mask-keeps : (observer : ℕ) (on : Bool) (os : List ChanObserver) → All Has os → All Has (masked observer on os)
  mask-keeps observer on [] all = All-nil Has
  mask-keeps observer on (o ∷ os) all = All-cons Has (mask_one observer on o) (masked observer on os)
      (one (is_observer observer o)) (mask-keeps observer on os (All-tail Has o os all))
    where
      one : (b : Bool) → Has (cond b (record o { masked = on }) o)
      one true = All-head Has o os all
      one false = All-head Has o os all

  -- an operation keeps it, possible or not
  changed-keeps : (c : Channel) (who : Who) (op : ChanOp) → Keeps c → Keeps (chan_changed c who op)
  changed-keeps c who (ops.Offer message waits) keeps =
      cond-keeps (is_valid c.valid message) (gain c.holder c who manners.Offer waits) c
      (gain-keeps c.holder c who manners.Offer waits keeps) keeps
  changed-keeps c who (ops.Enter waits) keeps = gain-keeps c.holder c who manners.Enter waits keeps
  changed-keeps c who (ops.Claim waits) keeps = gain-keeps c.holder c who manners.Claim waits keeps
  changed-keeps c who (ops.ClaimEnd place) keeps = without-keeps c (ended c.waits who.number place) who.number place keeps refl
  changed-keeps c who (ops.ClaimQuit place) keeps = without-keeps c (quitted c.waits who.number place) who.number place keeps refl
  changed-keeps c who (ops.Set message) keeps =
      cond-keeps (holds c who) (record c { message = message }) c (record { each = keeps.each; decided = keeps.decided }) keeps
  changed-keeps c who ops.List keeps = keeps
  changed-keeps c who ops.Get keeps = keeps
  changed-keeps c who ops.Free keeps = cond-keeps (holds_by_entering c who) (handed_on c) c (handed-keeps c keeps) keeps
  changed-keeps c who ops.Finish keeps = cond-keeps (has_claimed c who) (handed_on c) c (handed-keeps c keeps) keeps
  changed-keeps c who (ops.Mask observer on) keeps =
      record { each = mask-keeps observer on c.observers keeps.each; decided = keeps.decided }

  next-keeps : (c : Channel) (who : Who) (op : ChanOp) → Keeps c → Keeps (chan_next c who op)
  next-keeps c who op keeps = let after = changed-keeps c who op keeps in record { each = after.each; decided = after.decided }

  after-keeps : (c : Channel) (h : ChanHistory) → Keeps c → Keeps (state_after chan_machine c h)
  after-keeps c [] keeps = keeps
  after-keeps c (e ∷ es) keeps = after-keeps (chan_next c e.who e.op) es (next-keeps c e.who e.op keeps)

  unmasked-has : (numbers : List ℕ) → All P numbers → All Has (map unmasked numbers)
  unmasked-has [] all = All-nil Has
  unmasked-has (n ∷ ns) all = All-cons Has (unmasked n) (map unmasked ns) (All-head P n ns all)
      (unmasked-has ns (All-tail P n ns all))

  -- those that are told are among its observers
  told-has : (os : List ChanObserver) → All Has os → All P (told_of os)
  told-has [] all = All-nil P
  told-has (o ∷ os) all = one (not o.masked) (told-has os (All-tail Has o os all))
    where
      one : (b : Bool) → All P (told_of os) →
          All P (map (λ (o : ChanObserver). o.number)
          (cond b (o ∷ filter (λ (o : ChanObserver). not o.masked) os) (filter (λ (o : ChanObserver). not o.masked) os)))
      one true more = All-cons P o.number (told_of os) (All-head Has o os all) more
      one false more = more

  told-only : (x reply : ChanReply) → Some x ≡ Some reply → TellsOnly x → TellsOnly reply
  told-only x reply is only = subst TellsOnly (same_Some x reply is) only

  given-only : (b : Bool) (x reply : ChanReply) → cond b (Some x) None ≡ Some reply → TellsOnly x → TellsOnly reply
  given-only true x reply is only = told-only x reply is only
  given-only false x reply is only = absurd (cc)

  either-only : (b : Bool) (x y : ChanReply) → TellsOnly x → TellsOnly y → TellsOnly (cond b x y)
  either-only true x y first second = first
  either-only false x y first second = second

  gain-only : (o : Option Holder) (waits : Bool) → TellsOnly (gain_reply o waits)
  gain-only None waits = tt
  gain-only (Some h) true = tt
  gain-only (Some h) false = tt

  decision-only : (c : Channel) (player place : ℕ) (reply : ChanReply) → Keeps c →
      decision_of c.waits player place ≡ Some reply → TellsOnly reply
  decision-only c player place reply keeps is = by (find (is_decision player place) c.waits.decided) refl is
    where
      by : (o : Option (Decision ChanReply)) → find (is_decision player place) c.waits.decided ≡ o →
          option_map (λ (d : Decision ChanReply). d.answer) o ≡ Some reply → TellsOnly reply
      by None found is = absurd (cc)
      by (Some d) found is =
          told-only d.answer reply is (All-found TellsGot (is_decision player place) c.waits.decided d keeps.decided found)

  quit-only : (c : Channel) (player place : ℕ) (reply : ChanReply) → Keeps c →
      given_up Again (goes_on c.waits player place) (decision_of c.waits player place) ≡ Some reply → TellsOnly reply
  quit-only c player place reply keeps is = by (goes_on c.waits player place) (decision_of c.waits player place) refl is
    where
      by : (waits : Bool) (o : Option ChanReply) → decision_of c.waits player place ≡ o →
          given_up Again waits o ≡ Some reply → TellsOnly reply
      by waits (Some answer) decided is = told-only answer reply is (decision-only c player place answer keeps decided)
      by true None decided is = told-only Again reply is tt
      by false None decided is = absurd (cc)

  reply-only : (c : Channel) (who : Who) (op : ChanOp) (reply : ChanReply) → Keeps c → chan_reply c who op ≡ Some reply →
      TellsOnly reply
  reply-only c who (ops.Offer message waits) reply keeps is =
      told-only (cond (is_valid c.valid message) (gain_reply c.holder waits) NoMsg) reply is
      (either-only (is_valid c.valid message) (gain_reply c.holder waits) NoMsg (gain-only c.holder waits) tt)
  reply-only c who (ops.Enter waits) reply keeps is = told-only (gain_reply c.holder waits) reply is (gain-only c.holder waits)
  reply-only c who (ops.Claim waits) reply keeps is = told-only (gain_reply c.holder waits) reply is (gain-only c.holder waits)
  reply-only c who (ops.ClaimEnd place) reply keeps is = decision-only c who.number place reply keeps is
  reply-only c who (ops.ClaimQuit place) reply keeps is = quit-only c who.number place reply keeps is
  reply-only c who (ops.Set message) reply keeps is = given-only (holds c who) (Observers (told_of c.observers)) reply is
      (told-has c.observers keeps.each)
  reply-only c who ops.List reply keeps is = given-only (holds c who) (Observers (told_of c.observers)) reply is
      (told-has c.observers keeps.each)
  reply-only c who ops.Get reply keeps is = given-only (holds c who) (Bytes c.message) reply is tt
  reply-only c who ops.Free reply keeps is = given-only (holds_by_entering c who) Done reply is tt
  reply-only c who ops.Finish reply keeps is =
      told-only (cond (has_claimed c who) Done Inval) reply is (either-only (has_claimed c who) Done Inval tt tt)
  reply-only c who (ops.Mask observer on) reply keeps is =
      told-only (cond (list_any (is_observer observer) c.observers) Done Inval) reply is
      (either-only (list_any (is_observer observer) c.observers) Done Inval tt tt)

  -- so it is of each reply of a channel
  pub channel-tells : (message : List ℕ) (valid : Valid) (observers : List ℕ) (h : ChanHistory) (who : Who) (op : ChanOp)
      (reply : ChanReply) →
      All P observers → chan_reply (state_after chan_machine (new_chan message valid observers) h) who op ≡ Some reply →
      TellsOnly reply
  channel-tells message valid observers h who op reply all is =
      let new = new_chan message valid observers in
      reply-only (state_after chan_machine new h) who op reply
      (after-keeps new h (record { each = unmasked-has observers all; decided = All-nil TellsGot })) is
