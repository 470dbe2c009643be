-- Who holds a channel, along a history.
use Rattle.std.proofs.Common.{◌≡◌, ℕ, ◌⊎◌, inl, inr, All, Bool, true, false, not, eqb, cond, ◌&&◌, ◌||◌, Option, Some, None, option_map, List, [], ◌∷◌, ◌++◌, slice_get, refl, sym, ap, subst, ◌∙◌, append_assoc, append-nil, arith}
use Rattle.std.specs.Cmp.{first_so, second_so}
use Rattle.std.specs.List.{Contains, list_any}
use Rattle.std.specs.Option.{option_map_or}
use Rattle.std.proofs.lemmas.Bool.{eqb-true}
use Rattle.std.proofs.lemmas.List.Elements.{All-nil, All-cons, All-head, All-append, All-weaker, All-contains, All-contains_itself, Contains-append_right}
use Rattle.std.proofs.lemmas.Option.{same_Some}
use Rattle.zk_base.specs.declared.ids.Who.{Who}
use Rattle.zk_base.specs.declared.ids.Entry.{Entry}
use Rattle.zk_base.specs.declared.waits.Waiter.{Waiter}
use Rattle.zk_base.specs.declared.waits.Decision.{Decision}
use Rattle.zk_base.specs.History.{IsEntry}
use Rattle.zk_base.specs.Legal.{Replays, state_after}
use Rattle.zk_base.specs.Lists.{without_first}
use Rattle.zk_base.specs.Waits.{Waits, is_waiter, decide, decides_first, first_decided}
use Rattle.zk_base.specs.WaitLaws.{IsFirst, WasOpened, decided_at, IsDecidedBy}
use Rattle.zk_base.proofs.Histories.{state_after-snoc, Replays-front, Replays-rest}
use Rattle.zk_base.proofs.Lists.{All-at}
use Rattle.zk_base.proofs.WaitDecisions.{said, decided-some, waits-apart, decides-said}
use Rattle.zk_base.proofs.WaitsHold.{opened-same, each_wait_has_its_opening}
use Rattle.zk_base.proofs.WaitsOnce.{eqb-same}
use Rattle.zk_model_bus.specs.declared.channel.Holder.{Holder}
use Rattle.zk_model_bus.specs.declared.channel.Manner.{Manner}
use Rattle.zk_model_bus.specs.declared.channel.Manner.TheVariants as manners
use Rattle.zk_model_bus.specs.declared.channel.ChanOp.{ChanOp}
use Rattle.zk_model_bus.specs.declared.channel.ChanOp.TheVariants as ops
use Rattle.zk_model_bus.specs.declared.channel.ChanReply.{ChanReply}
use Rattle.zk_model_bus.specs.declared.channel.ChanReply.TheVariants.{Got, NoMsg, Observers, Bytes, Done, Inval}
use Rattle.zk_model_bus.specs.Channel.{Channel, new_chan, holds, is_claim, has_claimed, holds_by_entering, told_of, gain_reply, gain, held_by, handed_on, chan_reply, chan_changed, chan_next, chan_machine}
use Rattle.zk_base.specs.Validators.{is_valid}
use Rattle.zk_model_bus.specs.ChannelWaits.{call_decides, callers}
use Rattle.zk_model_bus.specs.ChannelLaws.{ChanHistory, OfEachChan, chan_after_all, IsHolder, manner_of, uses, frees, is_freed, is_freed_by, GotIt, HandedIt, Gains, Moves, Unmoved, HolderGainedItLast, GainedOnlyWhereFree, DecidesOneWait, HandedOnAtOnce, HandedOnByAFree, OnlyTheHolderUses, FreedInItsManner, HolderMayUse, OneUsesAtATime}
use Rattle.zk_model_bus.proofs.ChannelWaits.{has_callers, first_callers}

-- what an entry of a history is answered
pub replied : (c : Channel) (h front : ChanHistory) (e : Entry ChanOp ChanReply) → Replays chan_machine c h → IsEntry h front e →
    chan_reply (chan_after_all c front) e.who e.op ≡ Some e.reply
replied c h front e replays at =
    (Replays-rest chan_machine c front (e ∷ at.rest) (subst (Replays chan_machine c) at.whole replays)).0

-- and what the operation is answered that it is
pub replied-as : (c : Channel) (h front : ChanHistory) (e : Entry ChanOp ChanReply) (op : ChanOp) →
    Replays chan_machine c h → IsEntry h front e → e.op ≡ op →
    chan_reply (chan_after_all c front) e.who op ≡ Some e.reply
replied-as c h front e op replays at same =
    subst (λ (o : ChanOp). chan_reply (chan_after_all c front) e.who o ≡ Some e.reply) same (replied c h front e replays at)

-- a holder
abbrev held : ℕ → Manner → Holder
held player manner = record { player = player; manner = manner }

same-holder : (p q : ℕ) (m n : Manner) → p ≡ q → m ≡ n → held p m ≡ held q n
same-holder p q m n player manner = ap (λ (x : ℕ). held x m) player ∙ ap (held q) manner

-- A call that gets the channel.

gain-holds : (o : Option Holder) (c : Channel) (who : Who) (manner : Manner) (waits : Bool) → gain_reply o waits ≡ Got →
    (o ≡ None) × ((gain o c who manner waits).holder ≡ Some (held who.number manner))
gain-holds None c who manner waits is = (refl, refl)
gain-holds (Some h) c who manner true is = absurd (cc)
gain-holds (Some h) c who manner false is = absurd (cc)

offer-holds : (c : Channel) (who : Who) (waits valid : Bool) → cond valid (gain_reply c.holder waits) NoMsg ≡ Got →
    (c.holder ≡ None) × ((cond valid (gain c.holder c who manners.Offer waits) c).holder ≡ Some (held who.number manners.Offer))
offer-holds c who waits true is = gain-holds c.holder c who manners.Offer waits is
offer-holds c who waits false is = absurd (cc)

pub own-holds : (c : Channel) (who : Who) (op : ChanOp) (manner : Manner) → chan_reply c who op ≡ Some Got →
    manner_of op ≡ Some manner →
    (c.holder ≡ None) × ((chan_next c who op).holder ≡ Some (held who.number manner))
own-holds c who (ops.Offer message waits) manner told is =
    let got = offer-holds c who waits (is_valid c.valid message)
    (same_Some (cond (is_valid c.valid message) (gain_reply c.holder waits) NoMsg) Got told) in
    (got.0, got.1 ∙ ap (λ (m : Manner). Some (held who.number m)) (same_Some manners.Offer manner is))
own-holds c who (ops.Enter waits) manner told is =
    let got = gain-holds c.holder c who manners.Enter waits (same_Some (gain_reply c.holder waits) Got told) in
    (got.0, got.1 ∙ ap (λ (m : Manner). Some (held who.number m)) (same_Some manners.Enter manner is))
own-holds c who (ops.Claim waits) manner told is =
    let got = gain-holds c.holder c who manners.Claim waits (same_Some (gain_reply c.holder waits) Got told) in
    (got.0, got.1 ∙ ap (λ (m : Manner). Some (held who.number m)) (same_Some manners.Claim manner is))
own-holds c who op manner told is = absurd (cc)

got-holds : (c : Channel) (e : Entry ChanOp ChanReply) (holder : Holder) → chan_reply c e.who e.op ≡ Some e.reply →
    GotIt e holder →
    (c.holder ≡ None) × ((chan_next c e.who e.op).holder ≡ Some holder)
got-holds c e holder told got =
    let own = own-holds c e.who e.op holder.manner (told ∙ ap Some got.got) got.manner in
    (own.0, own.1 ∙ ap (λ (p : ℕ). Some (held p holder.manner)) got.own)

-- An entry that frees hands the channel on.

free-hands : (c : Channel) (b : Bool) → cond b (Some Done) None ≡ Some Done → cond b (handed_on c) c ≡ handed_on c
free-hands c true is = refl
free-hands c false is = absurd (cc)

finish-hands : (c : Channel) (b : Bool) → Some (cond b Done Inval) ≡ Some Done → cond b (handed_on c) c ≡ handed_on c
finish-hands c true is = refl
finish-hands c false is = absurd (let same = same_Some Inval Done is in cc)

freed-hands : (c : Channel) (who : Who) (op : ChanOp) (reply : ChanReply) → chan_reply c who op ≡ Some reply →
    frees op reply ≡ true → chan_changed c who op ≡ handed_on c
freed-hands c who ops.Free Done told is = free-hands c (holds_by_entering c who) told
freed-hands c who ops.Finish Done told is = finish-hands c (has_claimed c who) told
freed-hands c who op reply told is = absurd (cc)

-- an entry that decides frees
decides-frees : (c : Channel) (op : ChanOp) (reply answer : ChanReply) (for : Manner) → said (call_decides c op reply) for ≡ Some answer →
    (frees op reply ≡ true) × (answer ≡ Got)
decides-frees c ops.Free Done answer for is = (refl, sym (same_Some Got answer is))
decides-frees c ops.Finish Done answer for is = (refl, sym (same_Some Got answer is))
decides-frees c op reply answer for is = absurd (cc)

-- a decision that is new is of the first who waits
new-first : (before : Waits Manner ChanReply) (waiting : List (Waiter Manner)) (d : Decision ChanReply) →
    decided_at d.place before ≡ 0 →
    Contains (decides_first Got waiting before.decided).decided d → (w : Waiter Manner) × (slice_get waiting 0 ≡ Some w)
    × (decide Got w ≡ d)
new-first before [] d none is = absurd (let some = decided-some before d is in omega arith)
new-first before (w ∷ ws) d none is = by (All-contains P (before.decided ++ decide Got w ∷ []) d all is) where
  P : Decision ChanReply → Type 0
  P c = Contains before.decided c ⊎ (decide Got w ≡ c)

  all : All P (before.decided ++ decide Got w ∷ [])
  all = All-append P before.decided (decide Got w ∷ [])
      (All-weaker (Contains before.decided) P (λ c was. inl was) before.decided (All-contains_itself before.decided))
      (All-cons P (decide Got w) [] (inr refl) (All-nil P))

  by : P d → (v : Waiter Manner) × (slice_get (w ∷ ws) 0 ≡ Some v) × (decide Got v ≡ d)
  by (inl was) = absurd (let some = decided-some before d was in omega arith)
  by (inr same) = (w, refl, same)

module _ (first : Channel) (start : IsFirst callers first) where
  -- the first who waits has opened the wait
  first-opened : (front : ChanHistory) (w : Waiter Manner) → Replays chan_machine first front →
      slice_get (chan_after_all first front).waits.waiting 0 ≡ Some w →
      WasOpened callers front w.place w.who w.payload
  first-opened front w replays at =
      All-at (λ (v : Waiter Manner). WasOpened callers front v.place v.who v.payload)
      (chan_after_all first front).waits.waiting 0 w
      (each_wait_has_its_opening chan_machine callers has_callers first front start replays).0 at

  -- the channel after an entry that frees
  freed-after : (front : ChanHistory) (e : Entry ChanOp ChanReply) →
      chan_reply (chan_after_all first front) e.who e.op ≡ Some e.reply → is_freed e ≡ true →
      (chan_after_all first (front ++ e ∷ [])).waits ≡ first_decided Got (chan_after_all first front).waits
  freed-after front e told is =
      let c = chan_after_all first front in
      ap (λ (d : Channel). d.waits) (state_after-snoc chan_machine first front e)
      ∙ ap (λ (d : Channel). d.waits) (freed-hands c e.who e.op e.reply told is)

  -- the wait that it decides is that of the first who waits
  freed-decides : (front : ChanHistory) (e : Entry ChanOp ChanReply) (d : Decision ChanReply) →
      chan_reply (chan_after_all first front) e.who e.op ≡ Some e.reply → is_freed e ≡ true →
      IsDecidedBy chan_machine callers first front e d →
      (w : Waiter Manner) × (slice_get (chan_after_all first front).waits.waiting 0 ≡ Some w) × (decide Got w ≡ d)
  freed-decides front e d told is decides =
      let c = chan_after_all first front in
      new-first c.waits c.waits.waiting d decides.before
      (subst (λ (ws : Waits Manner ChanReply). Contains ws.decided d) (freed-after front e told is) decides.after)

  handed-holds : (front : ChanHistory) (e : Entry ChanOp ChanReply) (holder : Holder) → Replays chan_machine first front →
      chan_reply (chan_after_all first front) e.who e.op ≡ Some e.reply → is_freed e ≡ true → HandedIt first front e holder →
      (chan_next (chan_after_all first front) e.who e.op).holder ≡ Some holder
  handed-holds front e holder replays told is handed =
      let c = chan_after_all first front in
      let found = freed-decides front e handed.d told is handed.decided in
      let w = found.0 in
      let own = subst (λ (p : ℕ). WasOpened callers front p w.who w.payload)
      (ap (λ (d : Decision ChanReply). d.place) found.2) (first-opened front w replays found.1) in
      let same = opened-same chan_machine callers has_callers front handed.d.place w.who handed.who w.payload holder.manner
      own handed.opened in
      ap (λ (d : Channel). d.holder) (freed-hands c e.who e.op e.reply told is) ∙ ap (option_map held_by) found.1
      ∙ ap Some (same-holder w.who.number holder.player w.payload holder.manner (ap (λ (v : Who). v.number) same.0
      ∙ handed.own) same.1)

  -- what gains the channel by a decision frees it
  handed-frees : (h front : ChanHistory) (e : Entry ChanOp ChanReply) (d : Decision ChanReply) →
      Replays chan_machine first h → IsEntry h front e →
      IsDecidedBy chan_machine callers first front e d → (is_freed e ≡ true) × (d.answer ≡ Got)
  handed-frees h front e d replays at decides =
      let whose = decides-said chan_machine callers has_callers first h replays front e d at decides in
      decides-frees (chan_after_all first front) e.op e.reply d.answer whose.0.payload whose.3

  replays-front : (h front : ChanHistory) (e : Entry ChanOp ChanReply) → Replays chan_machine first h →
      IsEntry h front e → Replays chan_machine first front
  replays-front h front e replays at =
      Replays-front chan_machine first front (e ∷ at.rest) (subst (Replays chan_machine first) at.whole replays)

  -- whom an entry gains the channel for holds it after
  gains-holds : (h front : ChanHistory) (e : Entry ChanOp ChanReply) (holder : Holder) → Replays chan_machine first h →
      IsEntry h front e → Gains first front e holder →
      (chan_next (chan_after_all first front) e.who e.op).holder ≡ Some holder
  gains-holds h front e holder replays at (inl got) =
      (got-holds (chan_after_all first front) e holder (replied first h front e replays at) got).1
  gains-holds h front e holder replays at (inr handed) =
      handed-holds front e holder (replays-front h front e replays at) (replied first h front e replays at)
      (handed-frees h front e handed.d replays at handed.decided).0 handed

  gains-free : (h front : ChanHistory) (e : Entry ChanOp ChanReply) (holder : Holder) → Replays chan_machine first h →
      IsEntry h front e → Gains first front e holder →
      ((chan_after_all first front).holder ≡ None) ⊎ (is_freed e ≡ true)
  gains-free h front e holder replays at (inl got) =
      inl (got-holds (chan_after_all first front) e holder (replied first h front e replays at) got).0
  gains-free h front e holder replays at (inr handed) = inr (handed-frees h front e handed.d replays at handed.decided).0

  -- an entry that frees hands the channel to the first who waits
  waiting-gains : (front : ChanHistory) (e : Entry ChanOp ChanReply) (waiting : List (Waiter Manner)) →
      Replays chan_machine first front →
      chan_reply (chan_after_all first front) e.who e.op ≡ Some e.reply → is_freed e ≡ true →
      (chan_after_all first front).waits.waiting ≡ waiting →
      ((holder : Holder) → Gains first front e holder → ⊥) → option_map held_by (slice_get waiting 0) ≡ None
  waiting-gains front e [] replays told is none nobody = refl
  waiting-gains front e (w ∷ ws) replays told is some nobody = absurd (nobody (held_by w) (inr (record {
    d = decide Got w;
    decided = record { before = All-head P w ws (subst (All P) some apart); after = after };
    who = w.who;
    own = refl;
    opened = first-opened front w replays (ap (λ (l : List (Waiter Manner)). slice_get l 0) some);
  }))) where
    c : Channel
    c = chan_after_all first front

    P : Waiter Manner → Type 0
    P v = decided_at v.place (chan_after_all first front).waits ≡ 0

    apart : All P (chan_after_all first front).waits.waiting
    apart = waits-apart chan_machine callers has_callers first front start replays

    last : Contains (decides_first Got (w ∷ ws) (chan_after_all first front).waits.decided).decided (decide Got w)
    last =
        let ds = (chan_after_all first front).waits.decided in
        Contains-append_right ds (decide Got w ∷ []) (decide Got w)
        (All-head (Contains (decide Got w ∷ [])) (decide Got w) [] (All-contains_itself (decide Got w ∷ [])))

    after : Contains (chan_after_all first (front ++ e ∷ [])).waits.decided (decide Got w)
    after =
        subst (λ (ws : Waits Manner ChanReply). Contains ws.decided (decide Got w)) (sym (freed-after front e told is))
        (subst (λ (l : List (Waiter Manner)).
        Contains (decides_first Got l (chan_after_all first front).waits.decided).decided (decide Got w)) (sym some) last)

  freed-holds : (h front : ChanHistory) (e : Entry ChanOp ChanReply) → Replays chan_machine first h → IsEntry h front e →
      is_freed e ≡ true →
      ((holder : Holder) → Gains first front e holder → ⊥) → (chan_next (chan_after_all first front) e.who e.op).holder ≡ None
  freed-holds h front e replays at is nobody =
      let c = chan_after_all first front in
      let told = replied first h front e replays at in
      ap (λ (d : Channel). d.holder) (freed-hands c e.who e.op e.reply told is)
      ∙ waiting-gains front e c.waits.waiting (replays-front h front e replays at) told is refl nobody

-- An entry that neither gains nor frees leaves the holder.

gain-stays : (o : Option Holder) (c : Channel) (who : Who) (manner : Manner) (waits : Bool) →
    (gain_reply o waits ≡ Got → ⊥) → c.holder ≡ o → (gain o c who manner waits).holder ≡ c.holder
gain-stays None c who manner waits not_got is = absurd (not_got refl)
gain-stays (Some h) c who manner true not_got is = refl
gain-stays (Some h) c who manner false not_got is = refl

offer-stays : (c : Channel) (who : Who) (waits valid : Bool) → (cond valid (gain_reply c.holder waits) NoMsg ≡ Got → ⊥) →
    (cond valid (gain c.holder c who manners.Offer waits) c).holder ≡ c.holder
offer-stays c who waits true not_got = gain-stays c.holder c who manners.Offer waits not_got refl
offer-stays c who waits false not_got = refl

set-stays : (c : Channel) (message : List ℕ) (b : Bool) → (cond b (record c { message = message }) c).holder ≡ c.holder
set-stays c message true = refl
set-stays c message false = refl

free-stays : (c : Channel) (b : Bool) (reply : ChanReply) → cond b (Some Done) None ≡ Some reply →
    (frees ops.Free reply ≡ true → ⊥) → (cond b (handed_on c) c).holder ≡ c.holder
free-stays c true reply is kept = absurd (kept (ap (frees ops.Free) (sym (same_Some Done reply is))))
free-stays c false reply is kept = absurd (cc)

finish-stays : (c : Channel) (b : Bool) → (frees ops.Finish (cond b Done Inval) ≡ true → ⊥) →
    (cond b (handed_on c) c).holder ≡ c.holder
finish-stays c true kept = absurd (kept refl)
finish-stays c false kept = refl

stays : (c : Channel) (who : Who) (op : ChanOp) (reply : ChanReply) → chan_reply c who op ≡ Some reply →
    (frees op reply ≡ true → ⊥) →
    ((manner : Manner) → reply ≡ Got → manner_of op ≡ Some manner → ⊥) → (chan_next c who op).holder ≡ c.holder
stays c who (ops.Offer message waits) reply told kept alone =
    let is = same_Some (cond (is_valid c.valid message) (gain_reply c.holder waits) NoMsg) reply told in
    offer-stays c who waits (is_valid c.valid message) (λ got. alone manners.Offer (sym is ∙ got) refl)
stays c who (ops.Enter waits) reply told kept alone =
    let is = same_Some (gain_reply c.holder waits) reply told in
    gain-stays c.holder c who manners.Enter waits (λ got. alone manners.Enter (sym is ∙ got) refl) refl
stays c who (ops.Claim waits) reply told kept alone =
    let is = same_Some (gain_reply c.holder waits) reply told in
    gain-stays c.holder c who manners.Claim waits (λ got. alone manners.Claim (sym is ∙ got) refl) refl
stays c who (ops.ClaimEnd place) reply told kept alone = refl
stays c who (ops.ClaimQuit place) reply told kept alone = refl
stays c who (ops.Set message) reply told kept alone = set-stays c message (holds c who)
stays c who ops.List reply told kept alone = refl
stays c who ops.Get reply told kept alone = refl
stays c who ops.Free reply told kept alone = free-stays c (holds_by_entering c who) reply told kept
stays c who ops.Finish reply told kept alone =
    let is = same_Some (cond (has_claimed c who) Done Inval) reply told in
    finish-stays c (has_claimed c who) (λ done. kept (ap (frees ops.Finish) (sym is) ∙ done))
stays c who (ops.Mask observer on) reply told kept alone = refl

unmoved-holds : (first : Channel) (front rest : ChanHistory) → Replays chan_machine first (front ++ rest) →
    Unmoved first front rest →
    (chan_after_all first (front ++ rest)).holder ≡ (chan_after_all first front).holder
unmoved-holds first front [] replays unmoved = ap (λ (l : ChanHistory). (chan_after_all first l).holder) (append-nil front)
unmoved-holds first front (e ∷ es) replays unmoved =
    let c = chan_after_all first front in
    let told = (Replays-rest chan_machine first front (e ∷ es) replays).0 in
    let not_here = unmoved [] e (record { rest = es; whole = refl }) in
    let here = stays c e.who e.op e.reply told (λ is. not_here (inl is))
    (λ manner got is. not_here (inr (held e.who.number manner, inl (record { got = got; own = refl; manner = is })))) in
    let same = append_assoc front (e ∷ []) es in
    let later : Unmoved first (front ++ e ∷ []) es = λ part f at moves.
    unmoved (e ∷ part) f (record { rest = at.rest; whole = ap (λ (l : ChanHistory). e ∷ l) at.whole })
    (subst (λ (l : ChanHistory). Moves first l f) (append_assoc front (e ∷ []) part) moves) in
    let rest = unmoved-holds first (front ++ e ∷ []) es (subst (Replays chan_machine first) (sym same) replays) later in
    ap (λ (l : ChanHistory). (chan_after_all first l).holder) (sym same) ∙ rest
    ∙ ap (λ (d : Channel). d.holder) (state_after-snoc chan_machine first front e) ∙ here

-- after the last entry that moves the channel, its holder stays
last-holds : (first : Channel) (h front : ChanHistory) (e : Entry ChanOp ChanReply) (at : IsEntry h front e) →
    Replays chan_machine first h → Unmoved first (front ++ e ∷ []) at.rest →
    (chan_after_all first h).holder ≡ (chan_next (chan_after_all first front) e.who e.op).holder
last-holds first h front e at replays unmoved =
    let whole = at.whole ∙ sym (append_assoc front (e ∷ []) at.rest) in
    ap (λ (l : ChanHistory). (chan_after_all first l).holder) whole
    ∙ unmoved-holds first (front ++ e ∷ []) at.rest (subst (Replays chan_machine first) whole replays) unmoved
    ∙ ap (λ (d : Channel). d.holder) (state_after-snoc chan_machine first front e)

pub holder_gained_it_last : OfEachChan HolderGainedItLast
holder_gained_it_last message valid observers h legal = record {
  gained = λ front e holder at gains unmoved. last-holds new h front e at legal.0 unmoved
      ∙ gains-holds new start h front e holder legal.0 at gains;
  freed = λ front e at is nobody unmoved. last-holds new h front e at legal.0 unmoved
      ∙ freed-holds new start h front e legal.0 at is nobody;
  never = λ unmoved. unmoved-holds new [] h legal.0 unmoved;
} where
  new : Channel
  new = new_chan message valid observers

  start : IsFirst callers new
  start = first_callers message valid observers

pub gained_only_where_free : OfEachChan GainedOnlyWhereFree
gained_only_where_free message valid observers h legal = record {
  free = λ front e holder at gains. gains-free new start h front e holder legal.0 at gains;
  one = λ front e holder other at gains also.
      same_Some holder other (sym (gains-holds new start h front e holder legal.0 at gains)
      ∙ gains-holds new start h front e other legal.0 at also);
} where
  new : Channel
  new = new_chan message valid observers

  start : IsFirst callers new
  start = first_callers message valid observers

pub decides_one_wait : OfEachChan DecidesOneWait
decides_one_wait message valid observers h legal front e d other at decides also =
    let new = new_chan message valid observers in
    let start = first_callers message valid observers in
    let told = replied new h front e legal.0 at in
    let freed = (handed-frees new start h front e d legal.0 at decides).0 in
    let one = freed-decides new start front e d told freed decides in
    let two = freed-decides new start front e other told freed also in
    sym one.2 ∙ ap (decide Got) (same_Some one.0 two.0 (sym one.1 ∙ two.1)) ∙ two.2

pub handed_on_by_a_free : OfEachChan HandedOnByAFree
handed_on_by_a_free message valid observers h legal front e d at decides =
    handed-frees (new_chan message valid observers) (first_callers message valid observers) h front e d legal.0 at decides

-- Nobody waits where nobody holds the channel.

gain-served : (o : Option Holder) (c : Channel) (who : Who) (manner : Manner) (waits : Bool) → c.holder ≡ o →
    (c.holder ≡ None → c.waits.waiting ≡ []) →
    (gain o c who manner waits).holder ≡ None → (gain o c who manner waits).waits.waiting ≡ []
gain-served None c who manner waits is served none = absurd (cc)
gain-served (Some h) c who manner true is served none = absurd (let both = sym is ∙ none in cc)
gain-served (Some h) c who manner false is served none = served none

handed-served : (waiting : List (Waiter Manner)) (ds : List (Decision ChanReply)) →
    option_map held_by (slice_get waiting 0) ≡ None → (decides_first Got waiting ds).waiting ≡ []
handed-served [] ds none = refl
handed-served (w ∷ ws) ds none = absurd (cc)

if-served : (b : Bool) (x y : Channel) → (x.holder ≡ None → x.waits.waiting ≡ []) →
    (y.holder ≡ None → y.waits.waiting ≡ []) → (cond b x y).holder ≡ None → (cond b x y).waits.waiting ≡ []
if-served true x y first second = first
if-served false x y first second = second

next-served : (c : Channel) (who : Who) (op : ChanOp) → (c.holder ≡ None → c.waits.waiting ≡ []) →
    (chan_next c who op).holder ≡ None → (chan_next c who op).waits.waiting ≡ []
next-served c who (ops.Offer message waits) served none =
    if-served (is_valid c.valid message) (gain c.holder c who manners.Offer waits) c
    (gain-served c.holder c who manners.Offer waits refl served) served none
next-served c who (ops.Enter waits) served none = gain-served c.holder c who manners.Enter waits refl served none
next-served c who (ops.Claim waits) served none = gain-served c.holder c who manners.Claim waits refl served none
next-served c who (ops.ClaimEnd place) served none = served none
next-served c who (ops.ClaimQuit place) served none = ap (without_first (is_waiter who.number place)) (served none)
next-served c who (ops.Set message) served none = if-served (holds c who) (record c { message = message }) c served served none
next-served c who ops.List served none = served none
next-served c who ops.Get served none = served none
next-served c who ops.Free served none =
    if-served (holds_by_entering c who) (handed_on c) c (handed-served c.waits.waiting c.waits.decided) served none
next-served c who ops.Finish served none =
    if-served (has_claimed c who) (handed_on c) c (handed-served c.waits.waiting c.waits.decided) served none
next-served c who (ops.Mask observer on) served none = served none

served-all : (c : Channel) (h : ChanHistory) → (c.holder ≡ None → c.waits.waiting ≡ []) →
    (chan_after_all c h).holder ≡ None → (chan_after_all c h).waits.waiting ≡ []
served-all c [] served = served
served-all c (e ∷ es) served = served-all (chan_next c e.who e.op) es (next-served c e.who e.op served)

pub handed_on_at_once : OfEachChan HandedOnAtOnce
handed_on_at_once message valid observers h legal = served-all (new_chan message valid observers) h (λ none. refl)

-- What the tests of the holder say.

is-so : (m : Manner) → is_claim m ≡ true → m ≡ manners.Claim
is-so manners.Claim is = refl
is-so manners.Offer is = absurd (cc)
is-so manners.Enter is = absurd (cc)

isnt-so : (m : Manner) → not (is_claim m) ≡ true → (m ≡ manners.Offer) ⊎ (m ≡ manners.Enter)
isnt-so manners.Claim is = absurd (cc)
isnt-so manners.Offer is = inl refl
isnt-so manners.Enter is = inr refl

holds-so : (o : Option Holder) (player : ℕ) → option_map_or (λ (h : Holder). eqb h.player player) o false ≡ true →
    (m : Manner) × (o ≡ Some (held player m))
holds-so None player is = absurd (cc)
holds-so (Some h) player is = (h.manner, ap (λ (p : ℕ). Some (held p h.manner)) (eqb-true h.player player is))

claimed-so : (o : Option Holder) (player : ℕ) →
    option_map_or (λ (h : Holder). eqb h.player player && is_claim h.manner) o false ≡ true → o ≡ Some (held player manners.Claim)
claimed-so None player is = absurd (cc)
claimed-so (Some h) player is =
    let own = eqb-true h.player player (first_so (eqb h.player player) (is_claim h.manner) is) in
    ap Some (same-holder h.player player h.manner manners.Claim own
    (is-so h.manner (second_so (eqb h.player player) (is_claim h.manner) is)))

entered-so : (o : Option Holder) (player : ℕ) →
    option_map_or (λ (h : Holder). eqb h.player player && not (is_claim h.manner)) o false ≡ true →
    (o ≡ Some (held player manners.Offer)) ⊎ (o ≡ Some (held player manners.Enter))
entered-so None player is = absurd (cc)
entered-so (Some h) player is = by (isnt-so h.manner (second_so (eqb h.player player) (not (is_claim h.manner)) is)) where
  own : h.player ≡ player
  own = eqb-true h.player player (first_so (eqb h.player player) (not (is_claim h.manner)) is)

  by : (h.manner ≡ manners.Offer) ⊎ (h.manner ≡ manners.Enter) →
      (Some h ≡ Some (held player manners.Offer)) ⊎ (Some h ≡ Some (held player manners.Enter))
  by (inl offered) = inl (ap Some (same-holder h.player player h.manner manners.Offer own offered))
  by (inr entered) = inr (ap Some (same-holder h.player player h.manner manners.Enter own entered))

so-holds : (c : Channel) (who : Who) (m : Manner) → IsHolder c who.number m → holds c who ≡ true
so-holds c who m is = ap (λ (o : Option Holder). option_map_or (λ (h : Holder). eqb h.player who.number) o false) is
    ∙ eqb-same who.number

so-claimed : (c : Channel) (who : Who) → IsHolder c who.number manners.Claim → has_claimed c who ≡ true
so-claimed c who is =
    ap (λ (o : Option Holder). option_map_or (λ (h : Holder). eqb h.player who.number && is_claim h.manner) o false) is
    ∙ ap (λ (b : Bool). b && true) (eqb-same who.number)

so-entered : (c : Channel) (who : Who) → IsHolder c who.number manners.Offer ⊎ IsHolder c who.number manners.Enter →
    holds_by_entering c who ≡ true
so-entered c who (inl is) =
    ap (λ (o : Option Holder). option_map_or (λ (h : Holder). eqb h.player who.number && not (is_claim h.manner)) o false) is
    ∙ ap (λ (b : Bool). b && true) (eqb-same who.number)
so-entered c who (inr is) =
    ap (λ (o : Option Holder). option_map_or (λ (h : Holder). eqb h.player who.number && not (is_claim h.manner)) o false) is
    ∙ ap (λ (b : Bool). b && true) (eqb-same who.number)

-- what is given only where a test holds
pub was-given : (b : Bool) (given reply : ChanReply) → cond b (Some given) None ≡ Some reply → (b ≡ true) × (given ≡ reply)
was-given true given reply is = (refl, same_Some given reply is)
was-given false given reply is = absurd (cc)

-- Who uses the channel holds it.

uses-holds : (c : Channel) (who : Who) (op : ChanOp) (reply : ChanReply) → chan_reply c who op ≡ Some reply →
    uses op ≡ true → (m : Manner) × IsHolder c who.number m
uses-holds c who (ops.Set message) reply told is =
    holds-so c.holder who.number (was-given (holds c who) (Observers (told_of c.observers)) reply told).0
uses-holds c who ops.List reply told is =
    holds-so c.holder who.number (was-given (holds c who) (Observers (told_of c.observers)) reply told).0
uses-holds c who ops.Get reply told is = holds-so c.holder who.number (was-given (holds c who) (Bytes c.message) reply told).0
uses-holds c who op reply told is = absurd (cc)

pub only_the_holder_uses : OfEachChan OnlyTheHolderUses
only_the_holder_uses message valid observers h legal front e at is =
    let new = new_chan message valid observers in
    uses-holds (chan_after_all new front) e.who e.op e.reply (replied new h front e legal.0 at) is

finish-so : (b : Bool) (reply : ChanReply) → Some (cond b Done Inval) ≡ Some reply → cond b Done Inval ≡ reply
finish-so b reply is = same_Some (cond b Done Inval) reply is

unclaimed : (c : Channel) (who : Who) (b : Bool) → has_claimed c who ≡ b → (IsHolder c who.number manners.Claim → ⊥) →
    cond b Done Inval ≡ Inval
unclaimed c who true is not_held = absurd (not_held (claimed-so c.holder who.number is))
unclaimed c who false is not_held = refl

pub freed_in_its_manner : OfEachChan FreedInItsManner
freed_in_its_manner message valid observers h legal = record {
  free = λ front e at op.
      let c = chan_after_all new front in
      let given = was-given (holds_by_entering c e.who) Done e.reply (replied-as new h front e ops.Free legal.0 at op) in
      (entered-so c.holder e.who.number given.0, sym given.1);
  finish = λ front e at op is.
      let c = chan_after_all new front in
      sym (finish-so (has_claimed c e.who) e.reply (replied-as new h front e ops.Finish legal.0 at op))
      ∙ ap (λ (b : Bool). cond b Done Inval) (so-claimed c e.who is);
  not_claimed = λ front e at op isnt.
      let c = chan_after_all new front in
      sym (finish-so (has_claimed c e.who) e.reply (replied-as new h front e ops.Finish legal.0 at op))
      ∙ unclaimed c e.who (has_claimed c e.who) refl isnt;
} where
  new : Channel
  new = new_chan message valid observers

may-use : (c : Channel) (who : Who) (op : ChanOp) → holds c who ≡ true → uses op ≡ true →
    (reply : ChanReply) × (chan_reply c who op ≡ Some reply)
may-use c who (ops.Set message) is used =
    (Observers (told_of c.observers), ap (λ (b : Bool). cond b (Some (Observers (told_of c.observers))) None) is)
may-use c who ops.List is used =
    (Observers (told_of c.observers), ap (λ (b : Bool). cond b (Some (Observers (told_of c.observers))) None) is)
may-use c who ops.Get is used = (Bytes c.message, ap (λ (b : Bool). cond b (Some (Bytes c.message)) None) is)
may-use c who op is used = absurd (cc)

pub holder_may_use : (c : Channel) (h : ChanHistory) → HolderMayUse c h
holder_may_use c h = record {
  used = λ who manner op is used. may-use (chan_after_all c h) who op (so-holds (chan_after_all c h) who manner is) used;
  free = λ who is. ap (λ (b : Bool). cond b (Some Done) None) (so-entered (chan_after_all c h) who is);
}

-- The holder holds the channel until it frees it.

freed-so : (c : Channel) (who : Who) (op : ChanOp) (reply : ChanReply) → chan_reply c who op ≡ Some reply →
    frees op reply ≡ true → (m : Manner) × IsHolder c who.number m
freed-so c who ops.Free Done told is = by (entered-so c.holder who.number (was-given (holds_by_entering c who) Done Done told).0) where
  by : (c.holder ≡ Some (held who.number manners.Offer)) ⊎ (c.holder ≡ Some (held who.number manners.Enter)) →
      (m : Manner) × IsHolder c who.number m
  by (inl held) = (manners.Offer, held)
  by (inr held) = (manners.Enter, held)
freed-so c who ops.Finish Done told is =
    by (has_claimed c who) refl (same_Some (cond (has_claimed c who) Done Inval) Done told) where
      by : (b : Bool) → has_claimed c who ≡ b → cond b Done Inval ≡ Done → (m : Manner) × IsHolder c who.number m
      by true is done = (manners.Claim, claimed-so c.holder who.number is)
      by false is done = absurd (cc)
freed-so c who op reply told is = absurd (cc)

held-next : (c : Channel) (player : ℕ) (m : Manner) (e : Entry ChanOp ChanReply) →
    chan_reply c e.who e.op ≡ Some e.reply → IsHolder c player m → is_freed_by player e ≡ false →
    (chan_next c e.who e.op).holder ≡ c.holder
held-next c player m e told is kept = stays c e.who e.op e.reply told not_freed not_got where
  not_freed : frees e.op e.reply ≡ true → ⊥
  not_freed frees =
      let own = freed-so c e.who e.op e.reply told frees in
      let same = same_Some (held e.who.number own.0) (held player m) (sym own.1 ∙ is) in
      let by_it : is_freed_by player e ≡ true =
      ap (λ (b : Bool). b && eqb e.who.number player) frees
      ∙ ap (λ (n : ℕ). eqb n player) (ap (λ (h : Holder). h.player) same) ∙ eqb-same player in
      let both = sym by_it ∙ kept in
      cc

  not_got : (manner : Manner) → e.reply ≡ Got → manner_of e.op ≡ Some manner → ⊥
  not_got manner got call =
      let none = (own-holds c e.who e.op manner (told ∙ ap Some got) call).0 in
      let both = sym is ∙ none in
      cc

held-on : (c : Channel) (player : ℕ) (m : Manner) (es : ChanHistory) → Replays chan_machine c es → IsHolder c player m →
    list_any (is_freed_by player) es ≡ false → IsHolder (state_after chan_machine c es) player m
held-on c player m [] replays is kept = is
held-on c player m (e ∷ es) replays is kept =
    let parts = neither (is_freed_by player e) (list_any (is_freed_by player) es) kept in
    held-on (chan_next c e.who e.op) player m es replays.1 (held-next c player m e replays.0 is parts.0 ∙ is) parts.1
  where
    neither : (a b : Bool) → (a || b) ≡ false → (a ≡ false) × (b ≡ false)
    neither true b is = absurd (cc)
    neither false b is = (refl, is)

uses-keeps : (op : ChanOp) (reply : ChanReply) (player number : ℕ) → uses op ≡ true →
    (frees op reply && eqb number player) ≡ false
uses-keeps (ops.Set message) reply player number is = refl
uses-keeps ops.List reply player number is = refl
uses-keeps ops.Get reply player number is = refl
uses-keeps op reply player number is = absurd (cc)

pub one_uses_at_a_time : OfEachChan OneUsesAtATime
one_uses_at_a_time message valid observers h legal front middle rest e f whole first second apart =
    by (list_any (is_freed_by e.who.number) middle) refl where
      new : Channel
      new = new_chan message valid observers

      c : Channel
      c = chan_after_all new front

      replays : Replays chan_machine c (e ∷ middle ++ f ∷ rest)
      replays = Replays-rest chan_machine new front (e ∷ middle ++ f ∷ rest) (subst (Replays chan_machine new) (whole
          ∙ append_assoc front (e ∷ middle) (f ∷ rest)) legal.0)

      by : (b : Bool) → list_any (is_freed_by e.who.number) middle ≡ b → b ≡ true
      by true is = refl
      by false is =
          let holder = uses-holds c e.who e.op e.reply replays.0 first in
          let kept : list_any (is_freed_by e.who.number) (e ∷ middle) ≡ false =
          ap (λ (b : Bool). b || list_any (is_freed_by e.who.number) middle)
          (uses-keeps e.op e.reply e.who.number e.who.number first) ∙ is in
          let still = held-on c e.who.number holder.0 (e ∷ middle)
          (Replays-front chan_machine c (e ∷ middle) (f ∷ rest) replays) holder.1 kept in
          let told = (Replays-rest chan_machine c (e ∷ middle) (f ∷ rest) replays).0 in
          let other = uses-holds (state_after chan_machine c (e ∷ middle)) f.who f.op f.reply told second in
          let same = same_Some (held e.who.number holder.0) (held f.who.number other.0) (sym still ∙ other.1) in
          absurd (apart (ap (λ (h : Holder). h.player) same))
