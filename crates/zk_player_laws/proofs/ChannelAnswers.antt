-- What a channel can answer: a wait that is decided is given the channel, and a call for it is given it, waits, or is refused.
use Rattle.std.proofs.Common.{◌≡◌, ℕ, Bool, true, false, cond, Option, Some, None, option_map, List, [], ◌∷◌, All, refl, sym, ap, ◌∙◌}
use Rattle.std.specs.List.{find}
use Rattle.std.proofs.lemmas.List.Elements.{All-nil, All-cons, All-append, All-head, All-tail}
use Rattle.std.proofs.lemmas.Option.{same_Some}
use Rattle.zk_base.specs.declared.ids.Who.{Who}
use Rattle.zk_base.specs.declared.waits.Waiter.{Waiter}
use Rattle.zk_base.specs.declared.waits.Decision.{Decision}
use Rattle.zk_base.specs.Legal.{state_after}
use Rattle.zk_base.specs.Waits.{is_decision, decide, decision_of, decides_first, goes_on, given_up}
use Rattle.zk_base.proofs.Lists.{cond_chosen}
use Rattle.zk_model_bus.specs.declared.channel.ChanOp.{ChanOp}
use Rattle.zk_model_bus.specs.declared.channel.ChanOp.TheVariants as ops
use Rattle.zk_model_bus.specs.declared.channel.ChanReply.{ChanReply}
use Rattle.zk_model_bus.specs.declared.channel.ChanReply.TheVariants as replies
use Rattle.zk_model_bus.specs.declared.channel.Holder.{Holder}
use Rattle.zk_model_bus.specs.declared.channel.Manner.{Manner}
use Rattle.zk_model_bus.specs.declared.channel.Manner.TheVariants as manners
use Rattle.zk_model_bus.specs.Channel.{Channel, has_claimed, holds_by_entering, holds, told_of, gain_reply, gain, handed_on, chan_reply, chan_next, chan_machine}
use Rattle.zk_base.specs.Validators.{is_valid}
use Rattle.zk_model_bus.specs.ChannelLaws.{ChanHistory}
use Rattle.zk_model_bus.proofs.ChannelKept.{All-without}

-- the decision gives the channel
abbrev pub IsGiven : Decision ChanReply → Type 0
IsGiven d = d.answer ≡ replies.Got

abbrev pub AreGiven : List (Decision ChanReply) → Type 0
AreGiven decided = All IsGiven decided

gain-given : (c : Channel) (o : Option Holder) (who : Who) (manner : Manner) (waits : Bool) → AreGiven c.waits.decided → AreGiven (gain o c who manner waits).waits.decided
gain-given c None who manner waits was = was
gain-given c (Some h) who manner true was = was
gain-given c (Some h) who manner false was = was

handed-given : (waiting : List (Waiter Manner)) (decided : List (Decision ChanReply)) → AreGiven decided → AreGiven (decides_first replies.Got waiting decided).decided
handed-given [] decided was = was
handed-given (w ∷ ws) decided was = All-append IsGiven decided (decide replies.Got w ∷ []) was (All-cons IsGiven (decide replies.Got w) [] refl (All-nil IsGiven))

cond-given : (c d : Channel) (b : Bool) → AreGiven d.waits.decided → AreGiven c.waits.decided → AreGiven (cond b d c).waits.decided
cond-given c d true then_ else_ = then_
cond-given c d false then_ else_ = else_

given-next : (c : Channel) (who : Who) (op : ChanOp) → AreGiven c.waits.decided → AreGiven (chan_next c who op).waits.decided
given-next c who (ops.Offer message waits) was = cond-given c (gain c.holder c who manners.Offer waits) (is_valid c.valid message) (gain-given c c.holder who manners.Offer waits was) was
given-next c who (ops.Enter waits) was = gain-given c c.holder who manners.Enter waits was
given-next c who (ops.Claim waits) was = gain-given c c.holder who manners.Claim waits was
given-next c who (ops.ClaimEnd p) was = All-without IsGiven (is_decision who.number p) c.waits.decided was
given-next c who (ops.ClaimQuit p) was = All-without IsGiven (is_decision who.number p) c.waits.decided was
given-next c who (ops.Set message) was = cond-given c (record c { message = message }) (holds c who) was was
given-next c who ops.List was = was
given-next c who ops.Get was = was
given-next c who ops.Free was = cond-given c (handed_on c) (holds_by_entering c who) (handed-given c.waits.waiting c.waits.decided was) was
given-next c who ops.Finish was = cond-given c (handed_on c) (has_claimed c who) (handed-given c.waits.waiting c.waits.decided was) was
given-next c who (ops.Mask observer on) was = was

-- so it is after any history
pub given-after : (c : Channel) (h : ChanHistory) → AreGiven c.waits.decided → AreGiven (state_after chan_machine c h).waits.decided
given-after c [] was = was
given-after c (e ∷ es) was = given-after (chan_next c e.who e.op) es (given-next c e.who e.op was)

found-given : (test : Decision ChanReply → Bool) (list : List (Decision ChanReply)) (r : ChanReply) → AreGiven list → option_map (λ (d : Decision ChanReply). d.answer) (find test list) ≡ Some r →
    r ≡ replies.Got
found-given test [] r all is = absurd (cc)
found-given test (d ∷ ds) r all is = by_test (test d) refl (λ skip. found-given test ds r (All-tail IsGiven d ds all) (ap (option_map (λ (d : Decision ChanReply). d.answer)) (sym skip) ∙ is))
  where
    by_test : (b : Bool) → test d ≡ b → (find test (d ∷ ds) ≡ find test ds → r ≡ replies.Got) → r ≡ replies.Got
    by_test true passes rest =
        let here : find test (d ∷ ds) ≡ Some d = ap (λ (b : Bool). cond b (Some d) (find test ds)) passes in
        let same = same_Some d.answer r (sym (ap (option_map (λ (d : Decision ChanReply). d.answer)) here) ∙ is) in
        sym same ∙ All-head IsGiven d ds all
    by_test false fails rest = rest (ap (λ (b : Bool). cond b (Some d) (find test ds)) fails)

-- the end of a wait gives the channel
pub ended-gives : (c : Channel) (who : Who) (place : ℕ) (r : ChanReply) → AreGiven c.waits.decided → chan_reply c who (ops.ClaimEnd place) ≡ Some r → r ≡ replies.Got
ended-gives c who place r all is = found-given (is_decision who.number place) c.waits.decided r all is

-- a wait that is given up gives it, or answers again
abbrev pub is_quit_reply : ChanReply → Bool
is_quit_reply replies.Got = true
is_quit_reply replies.Again = true
is_quit_reply reply = false

pub quit-gives : (c : Channel) (who : Who) (place : ℕ) (r : ChanReply) → AreGiven c.waits.decided → chan_reply c who (ops.ClaimQuit place) ≡ Some r → is_quit_reply r ≡ true
quit-gives c who place r all is = by_decision (goes_on c.waits who.number place) (decision_of c.waits who.number place) refl is
  where
    by_decision : (waits : Bool) (decision : Option ChanReply) → decision_of c.waits who.number place ≡ decision → given_up replies.Again waits decision ≡ Some r → is_quit_reply r ≡ true
    by_decision waits (Some answer) found is =
        let got = found-given (is_decision who.number place) c.waits.decided answer all found in
        ap is_quit_reply (sym (same_Some answer r is) ∙ got)
    by_decision true None found is = ap is_quit_reply (sym (same_Some replies.Again r is))
    by_decision false None found is = absurd (cc)

-- what a call for the channel can be answered
abbrev pub is_call_reply : ChanReply → Bool
is_call_reply replies.Got = true
is_call_reply replies.Busy = true
is_call_reply replies.Wait = true
is_call_reply replies.NoMsg = true
is_call_reply reply = false

gain-replies : (o : Option Holder) (waits : Bool) → is_call_reply (gain_reply o waits) ≡ true
gain-replies None waits = refl
gain-replies (Some h) true = refl
gain-replies (Some h) false = refl

pub enter-replies : (c : Channel) (who : Who) (waits : Bool) (r : ChanReply) → chan_reply c who (ops.Enter waits) ≡ Some r → is_call_reply r ≡ true
enter-replies c who waits r is = ap is_call_reply (sym (same_Some (gain_reply c.holder waits) r is)) ∙ gain-replies c.holder waits

pub offer-replies : (c : Channel) (who : Who) (message : List ℕ) (waits : Bool) (r : ChanReply) → chan_reply c who (ops.Offer message waits) ≡ Some r → is_call_reply r ≡ true
offer-replies c who message waits r is =
    ap is_call_reply (sym (same_Some (cond (is_valid c.valid message) (gain_reply c.holder waits) replies.NoMsg) r is)) ∙ by_valid (is_valid c.valid message)
  where
    by_valid : (b : Bool) → is_call_reply (cond b (gain_reply c.holder waits) replies.NoMsg) ≡ true
    by_valid true = gain-replies c.holder waits
    by_valid false = refl

-- a set and a list tell observers, a get the message
pub set-tells : (c : Channel) (who : Who) (message : List ℕ) (r : ChanReply) → chan_reply c who (ops.Set message) ≡ Some r → replies.Observers (told_of c.observers) ≡ r
set-tells c who message r is = same_Some (replies.Observers (told_of c.observers)) r (cond_chosen (holds c who) (Some (replies.Observers (told_of c.observers))) r is).1

pub list-tells : (c : Channel) (who : Who) (r : ChanReply) → chan_reply c who ops.List ≡ Some r → replies.Observers (told_of c.observers) ≡ r
list-tells c who r is = same_Some (replies.Observers (told_of c.observers)) r (cond_chosen (holds c who) (Some (replies.Observers (told_of c.observers))) r is).1

pub get-tells : (c : Channel) (who : Who) (r : ChanReply) → chan_reply c who ops.Get ≡ Some r → replies.Bytes c.message ≡ r
get-tells c who r is = same_Some (replies.Bytes c.message) r (cond_chosen (holds c who) (Some (replies.Bytes c.message)) r is).1
