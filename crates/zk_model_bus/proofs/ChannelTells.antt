-- What the calls at a channel are told, along a history.
use Rattle.std.proofs.Common.{◌≡◌, ℕ, Bool, true, false, not, eqb, cond, ◌||◌, Option, Some, None, List, [], ◌∷◌, map, refl, sym, ap, subst, ◌∙◌}
use Rattle.std.specs.List.{filter, list_any}
use Rattle.std.proofs.lemmas.Bool.{leb-false, lt-leb}
use Rattle.std.proofs.lemmas.Option.{same_Some}
use Rattle.zk_base.specs.declared.ids.Who.{Who}
use Rattle.zk_base.specs.declared.ids.Entry.{Entry}
use Rattle.zk_base.specs.Legal.{Replays}
use Rattle.zk_base.proofs.Histories.{Replays-front}
use Rattle.zk_model_bus.specs.declared.channel.ChanObserver.{ChanObserver}
use Rattle.zk_model_bus.specs.declared.channel.Holder.{Holder}
use Rattle.zk_model_bus.specs.declared.channel.Manner.{Manner}
use Rattle.zk_model_bus.specs.declared.channel.Manner.TheVariants as manners
use Rattle.zk_base.specs.declared.validator.Valid.{Valid}
use Rattle.zk_base.specs.declared.validator.Valid.TheVariants as valids
use Rattle.zk_model_bus.specs.declared.channel.ChanOp.{ChanOp}
use Rattle.zk_model_bus.specs.declared.channel.ChanOp.TheVariants as ops
use Rattle.zk_model_bus.specs.declared.channel.ChanReply.{ChanReply}
use Rattle.zk_model_bus.specs.declared.channel.ChanReply.TheVariants.{NoMsg, Observers, Bytes, Done, Inval}
use Rattle.zk_model_bus.specs.Channel.{Channel, unmasked, new_chan, holds, has_claimed, holds_by_entering, is_observer, told_of, masked, gain_reply, gain, handed_on, chan_reply, chan_next, chan_machine}
use Rattle.zk_base.specs.Validators.{is_valid}
use Rattle.zk_model_bus.specs.ChannelLaws.{ChanHistory, OfEachChan, chan_after_all, waits_of, asks_observers, IsAboveBound, IsRefused, CallIsTold, set_by, last_set, masked_by, last_mask, numbers, RefusedByItsValidator, CallWaitsOnlyWhereHeld, GetTellsTheLastSet, ListTellsTheUnmasked, MaskKnowsItsObservers, MayAlways}
use Rattle.zk_model_bus.proofs.ChannelHolds.{replied, replied-as, was-given}

-- the same in both arms
arms : {A : Type 0} (P : Channel → A) (z : A) (b : Bool) (x y : Channel) → P x ≡ z → P y ≡ z → P (cond b x y) ≡ z
arms P z true x y first second = first
arms P z false x y first second = second

-- The message.

gain-message : (o : Option Holder) (c : Channel) (who : Who) (manner : Manner) (waits : Bool) →
    (gain o c who manner waits).message ≡ c.message
gain-message None c who manner waits = refl
gain-message (Some h) c who manner true = refl
gain-message (Some h) c who manner false = refl

set-message : (c : Channel) (message : List ℕ) (reply : ChanReply) (b : Bool) →
    cond b (Some (Observers (told_of c.observers))) None ≡ Some reply →
    (cond b (record c { message = message }) c).message ≡ message
set-message c message reply true is = refl
set-message c message reply false is = absurd (cc)

next-message : (c : Channel) (who : Who) (op : ChanOp) (reply : ChanReply) → chan_reply c who op ≡ Some reply →
    (chan_next c who op).message ≡ set_by op c.message
next-message c who (ops.Offer message waits) reply told =
    arms (λ (d : Channel). d.message) c.message (is_valid c.valid message) (gain c.holder c who manners.Offer waits) c
    (gain-message c.holder c who manners.Offer waits) refl
next-message c who (ops.Enter waits) reply told = gain-message c.holder c who manners.Enter waits
next-message c who (ops.Claim waits) reply told = gain-message c.holder c who manners.Claim waits
next-message c who (ops.ClaimEnd place) reply told = refl
next-message c who (ops.ClaimQuit place) reply told = refl
next-message c who (ops.Set message) reply told = set-message c message reply (holds c who) told
next-message c who ops.List reply told = refl
next-message c who ops.Get reply told = refl
next-message c who ops.Free reply told = arms (λ (d : Channel). d.message) c.message (holds_by_entering c who) (handed_on c) c refl refl
next-message c who ops.Finish reply told = arms (λ (d : Channel). d.message) c.message (has_claimed c who) (handed_on c) c
    refl refl
next-message c who (ops.Mask observer on) reply told = refl

message-after : (c : Channel) (h : ChanHistory) → Replays chan_machine c h → (chan_after_all c h).message ≡ last_set c.message h
message-after c [] replays = refl
message-after c (e ∷ es) replays =
    message-after (chan_next c e.who e.op) es replays.1
    ∙ ap (λ (m : List ℕ). last_set m es) (next-message c e.who e.op e.reply replays.0)

pub get_tells_the_last_set : OfEachChan GetTellsTheLastSet
get_tells_the_last_set message valid observers h legal front e at op =
    let new = new_chan message valid observers in
    let c = chan_after_all new front in
    let replays = Replays-front chan_machine new front (e ∷ at.rest) (subst (Replays chan_machine new) at.whole legal.0) in
    sym (was-given (holds c e.who) (Bytes c.message) e.reply (replied-as new h front e ops.Get legal.0 at op)).1
    ∙ ap Bytes (message-after new front replays)

-- The observers.

-- an observer that is masked as a test says
abbrev masked_as : (ℕ → Bool) → ℕ → ChanObserver
masked_as f number = record { number = number; masked = f number }

mask-head : (observer number : ℕ) (on was b : Bool) →
    cond b (record (masked_as (λ n. was) number) { masked = on }) (masked_as (λ n. was) number)
    ≡ masked_as (λ n. cond b on was) number
mask-head observer number on was true = refl
mask-head observer number on was false = refl

mask-all : (observer : ℕ) (on : Bool) (f : ℕ → Bool) (ns : List ℕ) →
    masked observer on (map (masked_as f) ns) ≡ map (masked_as (λ n. cond (eqb n observer) on (f n))) ns
mask-all observer on f [] = refl
mask-all observer on f (n ∷ ns) =
    ap (λ (o : ChanObserver). o ∷ masked observer on (map (masked_as f) ns)) (mask-head observer n on (f n) (eqb n observer))
    ∙ ap (λ (os : List ChanObserver). masked_as (λ k. cond (eqb k observer) on (f k)) n ∷ os) (mask-all observer on f ns)

gain-observers : (o : Option Holder) (c : Channel) (who : Who) (manner : Manner) (waits : Bool) →
    (gain o c who manner waits).observers ≡ c.observers
gain-observers None c who manner waits = refl
gain-observers (Some h) c who manner true = refl
gain-observers (Some h) c who manner false = refl

next-observers : (c : Channel) (who : Who) (op : ChanOp) (f : ℕ → Bool) (ns : List ℕ) →
    c.observers ≡ map (masked_as f) ns → (chan_next c who op).observers ≡ map (masked_as (λ n. masked_by n op (f n))) ns
next-observers c who (ops.Offer message waits) f ns is =
    arms (λ (d : Channel). d.observers) c.observers (is_valid c.valid message) (gain c.holder c who manners.Offer waits) c
    (gain-observers c.holder c who manners.Offer waits) refl ∙ is
next-observers c who (ops.Enter waits) f ns is = gain-observers c.holder c who manners.Enter waits ∙ is
next-observers c who (ops.Claim waits) f ns is = gain-observers c.holder c who manners.Claim waits ∙ is
next-observers c who (ops.ClaimEnd place) f ns is = is
next-observers c who (ops.ClaimQuit place) f ns is = is
next-observers c who (ops.Set message) f ns is = arms (λ (d : Channel). d.observers) c.observers (holds c who)
    (record c { message = message }) c refl refl ∙ is
next-observers c who ops.List f ns is = is
next-observers c who ops.Get f ns is = is
next-observers c who ops.Free f ns is = arms (λ (d : Channel). d.observers) c.observers (holds_by_entering c who)
    (handed_on c) c refl refl ∙ is
next-observers c who ops.Finish f ns is = arms (λ (d : Channel). d.observers) c.observers (has_claimed c who)
    (handed_on c) c refl refl ∙ is
next-observers c who (ops.Mask observer on) f ns is = ap (masked observer on) is ∙ mask-all observer on f ns

observers-after : (c : Channel) (h : ChanHistory) (f : ℕ → Bool) (ns : List ℕ) → c.observers ≡ map (masked_as f) ns →
    (chan_after_all c h).observers ≡ map (masked_as (λ n. last_mask n (f n) h)) ns
observers-after c [] f ns is = is
observers-after c (e ∷ es) f ns is = observers-after (chan_next c e.who e.op) es (λ n. masked_by n e.op (f n)) ns
    (next-observers c e.who e.op f ns is)

told-head : (f : ℕ → Bool) (n : ℕ) (os : List ChanObserver) (b : Bool) →
    map (λ (o : ChanObserver). o.number) (cond b (masked_as f n ∷ os) os)
    ≡ cond b (n ∷ map (λ (o : ChanObserver). o.number) os) (map (λ (o : ChanObserver). o.number) os)
told-head f n os true = refl
told-head f n os false = refl

told-as : (f : ℕ → Bool) (ns : List ℕ) → told_of (map (masked_as f) ns) ≡ filter (λ n. not (f n)) ns
told-as f [] = refl
told-as f (n ∷ ns) =
    told-head f n (filter (λ (o : ChanObserver). not o.masked) (map (masked_as f) ns)) (not (f n))
    ∙ ap (λ (l : List ℕ). cond (not (f n)) (n ∷ l) l) (told-as f ns)

numbers-new : (ns : List ℕ) → map (λ (o : ChanObserver). o.number) (map unmasked ns) ≡ ns
numbers-new [] = refl
numbers-new (n ∷ ns) = ap (λ (l : List ℕ). n ∷ l) (numbers-new ns)

any-as : (observer : ℕ) (f : ℕ → Bool) (ns : List ℕ) →
    list_any (is_observer observer) (map (masked_as f) ns) ≡ list_any (λ n. eqb n observer) ns
any-as observer f [] = refl
any-as observer f (n ∷ ns) = ap (λ (b : Bool). eqb n observer || b) (any-as observer f ns)

asks-so : (c : Channel) (who : Who) (op : ChanOp) (reply : ChanReply) → chan_reply c who op ≡ Some reply →
    asks_observers op ≡ true → reply ≡ Observers (told_of c.observers)
asks-so c who (ops.Set message) reply told is = sym (was-given (holds c who) (Observers (told_of c.observers)) reply told).1
asks-so c who ops.List reply told is = sym (was-given (holds c who) (Observers (told_of c.observers)) reply told).1
asks-so c who op reply told is = absurd (cc)

pub list_tells_the_unmasked : OfEachChan ListTellsTheUnmasked
list_tells_the_unmasked message valid observers h legal front e at is =
    let new = new_chan message valid observers in
    let c = chan_after_all new front in
    let f : ℕ → Bool = λ n. last_mask n false front in
    asks-so c e.who e.op e.reply (replied new h front e legal.0 at) is
    ∙ ap Observers (ap told_of (observers-after new front (λ n. false) observers refl) ∙ told-as f observers
    ∙ ap (filter (λ n. not (f n))) (sym (numbers-new observers)))

pub mask_knows_its_observers : OfEachChan MaskKnowsItsObservers
mask_knows_its_observers message valid observers h legal = record {
  known = λ front e observer on at op is.
      told front e observer on (replied-as new h front e (ops.Mask observer on) legal.0 at op)
      ∙ ap (λ (b : Bool). cond b Done Inval) is;
  unknown = λ front e observer on at op is.
      told front e observer on (replied-as new h front e (ops.Mask observer on) legal.0 at op)
      ∙ ap (λ (b : Bool). cond b Done Inval) is;
} where
  new : Channel
  new = new_chan message valid observers

  told : (front : ChanHistory) (e : Entry ChanOp ChanReply) (observer : ℕ) (on : Bool) →
      chan_reply (chan_after_all new front) e.who (ops.Mask observer on) ≡ Some e.reply →
      e.reply ≡ cond (list_any (λ n. eqb n observer) (numbers new)) Done Inval
  told front e observer on is =
      let c = chan_after_all new front in
      let any = ap (list_any (is_observer observer)) (observers-after new front (λ n. false) observers refl)
      ∙ any-as observer (λ n. last_mask n false front) observers
      ∙ ap (list_any (λ n. eqb n observer)) (sym (numbers-new observers)) in
      sym (same_Some (cond (list_any (is_observer observer) c.observers) Done Inval) e.reply is)
      ∙ ap (λ (b : Bool). cond b Done Inval) any

-- The validator.

gain-valid : (o : Option Holder) (c : Channel) (who : Who) (manner : Manner) (waits : Bool) →
    (gain o c who manner waits).valid ≡ c.valid
gain-valid None c who manner waits = refl
gain-valid (Some h) c who manner true = refl
gain-valid (Some h) c who manner false = refl

next-valid : (c : Channel) (who : Who) (op : ChanOp) → (chan_next c who op).valid ≡ c.valid
next-valid c who (ops.Offer message waits) =
    arms (λ (d : Channel). d.valid) c.valid (is_valid c.valid message) (gain c.holder c who manners.Offer waits) c
    (gain-valid c.holder c who manners.Offer waits) refl
next-valid c who (ops.Enter waits) = gain-valid c.holder c who manners.Enter waits
next-valid c who (ops.Claim waits) = gain-valid c.holder c who manners.Claim waits
next-valid c who (ops.ClaimEnd place) = refl
next-valid c who (ops.ClaimQuit place) = refl
next-valid c who (ops.Set message) =
    arms (λ (d : Channel). d.valid) c.valid (holds c who) (record c { message = message }) c refl refl
next-valid c who ops.List = refl
next-valid c who ops.Get = refl
next-valid c who ops.Free = arms (λ (d : Channel). d.valid) c.valid (holds_by_entering c who) (handed_on c) c refl refl
next-valid c who ops.Finish = arms (λ (d : Channel). d.valid) c.valid (has_claimed c who) (handed_on c) c refl refl
next-valid c who (ops.Mask observer on) = refl

valid-after : (c : Channel) (h : ChanHistory) → (chan_after_all c h).valid ≡ c.valid
valid-after c [] = refl
valid-after c (e ∷ es) = valid-after (chan_next c e.who e.op) es ∙ next-valid c e.who e.op

refuses-above : (valid : Valid) (message : List ℕ) → IsAboveBound valid message → is_valid valid message ≡ false
refuses-above valids.Any message above = absurd above
refuses-above (valids.Max bound) [] above = absurd above
refuses-above (valids.Max bound) (byte ∷ bytes) above = lt-leb byte bound above

above-refused : (valid : Valid) (message : List ℕ) → is_valid valid message ≡ false → IsAboveBound valid message
above-refused valids.Any message is = absurd (cc)
above-refused (valids.Max bound) [] is = absurd (cc)
above-refused (valids.Max bound) (byte ∷ bytes) is = leb-false byte bound is

-- a call that isn't refused isn't told so
gain-apart : (o : Option Holder) (waits : Bool) → gain_reply o waits ≡ NoMsg → ⊥
gain-apart None waits is = cc
gain-apart (Some h) true is = cc
gain-apart (Some h) false is = cc

call-told : (o : Option Holder) (waits : Bool) → CallIsTold o waits (gain_reply o waits)
call-told None waits = record { got = λ none. refl; wait = λ h is asked. absurd (cc); busy = λ h is asked. absurd (cc) }
call-told (Some h) true = record { got = λ none. absurd (cc); wait = λ g is asked. refl; busy = λ g is asked. absurd (cc) }
call-told (Some h) false = record { got = λ none. absurd (cc); wait = λ g is asked. absurd (cc); busy = λ g is asked. refl }

alone-refused : (valid : Valid) (c : Channel) (who : Who) (op : ChanOp) (waits : Bool) → c.valid ≡ valid →
    chan_reply c who op ≡ Some NoMsg → waits_of op ≡ Some waits → IsRefused valid op
alone-refused valid c who (ops.Offer message asked) waits same told is =
    by (is_valid c.valid message) refl
    (same_Some (cond (is_valid c.valid message) (gain_reply c.holder asked) NoMsg) NoMsg told) where
      by : (b : Bool) → is_valid c.valid message ≡ b → cond b (gain_reply c.holder asked) NoMsg ≡ NoMsg →
          IsRefused valid (ops.Offer message asked)
      by true takes is = absurd (gain-apart c.holder asked is)
      by false refuses is =
          (message, asked, refl, above-refused valid message (ap (λ (v : Valid). is_valid v message) (sym same) ∙ refuses))
alone-refused valid c who (ops.Enter asked) waits same told is =
    absurd (gain-apart c.holder asked (same_Some (gain_reply c.holder asked) NoMsg told))
alone-refused valid c who (ops.Claim asked) waits same told is =
    absurd (gain-apart c.holder asked (same_Some (gain_reply c.holder asked) NoMsg told))
alone-refused valid c who op waits same told is = absurd (cc)

pub refused_by_its_validator : OfEachChan RefusedByItsValidator
refused_by_its_validator message valid observers h legal = record {
  refused = λ front e at is.
      let c = chan_after_all new front in
      let refuses = ap (λ (v : Valid). is_valid v is.0) (valid-after new front) ∙ refuses-above valid is.0 is.3 in
      sym (same_Some (cond (is_valid c.valid is.0) (gain_reply c.holder is.1) NoMsg) e.reply
      (replied-as new h front e (ops.Offer is.0 is.1) legal.0 at is.2))
      ∙ ap (λ (b : Bool). cond b (gain_reply c.holder is.1) NoMsg) refuses;
  alone = λ front e waits at is told.
      alone-refused valid (chan_after_all new front) e.who e.op waits (valid-after new front)
      (replied new h front e legal.0 at ∙ ap Some told) is;
} where
  new : Channel
  new = new_chan message valid observers

told-call : (valid : Valid) (c : Channel) (who : Who) (op : ChanOp) (waits : Bool) (reply : ChanReply) → c.valid ≡ valid →
    chan_reply c who op ≡ Some reply → waits_of op ≡ Some waits →
    (IsRefused valid op → ⊥) → CallIsTold c.holder waits reply
told-call valid c who (ops.Offer message asked) waits reply same told is taken =
    by (is_valid c.valid message) refl
    (same_Some (cond (is_valid c.valid message) (gain_reply c.holder asked) NoMsg) reply told) where
      by : (b : Bool) → is_valid c.valid message ≡ b → cond b (gain_reply c.holder asked) NoMsg ≡ reply →
          CallIsTold c.holder waits reply
      by true takes so = subst (CallIsTold c.holder waits) (ap (gain_reply c.holder) (sym (same_Some asked waits is))
          ∙ so) (call-told c.holder waits)
      by false refuses so =
          absurd (taken (
            message,
            asked,
            refl,
            above-refused valid message (ap (λ (v : Valid). is_valid v message) (sym same)
                ∙ refuses),
          ))
told-call valid c who (ops.Enter asked) waits reply same told is taken =
    subst (CallIsTold c.holder waits) (ap (gain_reply c.holder) (sym (same_Some asked waits is))
    ∙ same_Some (gain_reply c.holder asked) reply told) (call-told c.holder waits)
told-call valid c who (ops.Claim asked) waits reply same told is taken =
    subst (CallIsTold c.holder waits) (ap (gain_reply c.holder) (sym (same_Some asked waits is))
    ∙ same_Some (gain_reply c.holder asked) reply told) (call-told c.holder waits)
told-call valid c who op waits reply same told is taken = absurd (cc)

pub call_waits_only_where_held : OfEachChan CallWaitsOnlyWhereHeld
call_waits_only_where_held message valid observers h legal front e waits at is taken =
    let new = new_chan message valid observers in
    told-call valid (chan_after_all new front) e.who e.op waits e.reply (valid-after new front)
    (replied new h front e legal.0 at) is taken

pub may_always : (c : Channel) (h : ChanHistory) → MayAlways c h
may_always c h who (ops.Offer message waits) is = (_, refl)
may_always c h who (ops.Enter waits) is = (_, refl)
may_always c h who (ops.Claim waits) is = (_, refl)
may_always c h who ops.Finish is = (_, refl)
may_always c h who (ops.Mask observer on) is = (_, refl)
may_always c h who op is = absurd (cc)
