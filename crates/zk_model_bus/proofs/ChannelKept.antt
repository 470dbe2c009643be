-- Who holds a channel and who waits for it, while others make their entries, in any history.
use Rattle.std.proofs.Common.{◌≡◌, ◌≢◌, ℕ, ◌+◌, ◌<◌, Bool, true, false, not, eqb, cond, ◌&&◌, Option, Some, None, option_map, List, [], ◌∷◌, All, length, slice_get, refl, sym, ap, subst, ◌∙◌, arith}
use Rattle.std.specs.List.{find}
use Rattle.std.specs.Option.{option_map_or}
use Rattle.std.proofs.lemmas.Bool.Decides.{nat_tests}
use Rattle.std.proofs.lemmas.List.Elements.{All-nil, All-cons, All-append, All-head, All-tail, All-weaker}
use Rattle.std.proofs.lemmas.Option.{same_Some}
use Rattle.zk_base.specs.declared.ids.Who.{Who}
use Rattle.zk_base.specs.declared.ids.Entry.{Entry}
use Rattle.zk_base.specs.declared.waits.Waiter.{Waiter}
use Rattle.zk_base.specs.declared.waits.Decision.{Decision}
use Rattle.zk_base.specs.Legal.{state_after}
use Rattle.zk_base.specs.Lists.{without_first, put_before}
use Rattle.zk_base.specs.Waits.{Waits, is_served_after, is_waiter, is_decision, decide, decision_of, goes_on, decides_first, given_up}
use Rattle.zk_model_bus.specs.declared.channel.Holder.{Holder}
use Rattle.zk_model_bus.specs.declared.channel.Manner.{Manner}
use Rattle.zk_model_bus.specs.declared.channel.Manner.TheVariants as manners
use Rattle.zk_model_bus.specs.declared.channel.ChanOp.{ChanOp}
use Rattle.zk_model_bus.specs.declared.channel.ChanOp.TheVariants as ops
use Rattle.zk_model_bus.specs.declared.channel.ChanReply.{ChanReply}
use Rattle.zk_model_bus.specs.declared.channel.ChanReply.TheVariants.{Got, Wait, Again, NoMsg}
use Rattle.zk_model_bus.specs.Channel.{Channel, is_claim, has_claimed, holds_by_entering, holds, gain_reply, gain, held_by, handed_on, chan_reply, chan_next, chan_machine}
use Rattle.zk_base.specs.Validators.{is_valid}
use Rattle.zk_model_bus.specs.ChannelLaws.{ChanHistory, manner_of}
use Rattle.zk_model_bus.proofs.ChannelHolds.{own-holds}

-- a player holds the channel in this manner
abbrev pub IsHeldAs : Channel → ℕ → Manner → Type 0
IsHeldAs c player manner = c.holder ≡ Some (record { player = player; manner = manner })

-- a holder
abbrev held : ℕ → Manner → Holder
held player manner = record { player = player; manner = manner }

-- an entry of another player
abbrev pub IsOther : ℕ → Entry ChanOp ChanReply → Type 0
IsOther player e = e.who.number ≢ player

other-not : (a b : ℕ) (c : Bool) → b ≢ a → (eqb a b && c) ≡ false
other-not a b c apart = grind (arith, nat_tests)

-- nobody else has what a player holds, in whatever manner
not-so : (o : Option Holder) (player other : ℕ) (manner : Manner) (test : Manner → Bool) →
    o ≡ Some (record { player = player; manner = manner }) → other ≢ player →
    option_map_or (λ (h : Holder). eqb h.player other && test h.manner) o false ≡ false
not-so o player other manner test is apart =
    subst (λ (o : Option Holder). option_map_or (λ (h : Holder). eqb h.player other && test h.manner) o false ≡ false)
    (sym is) (other-not player other (test manner) apart)

-- what doesn't come is what was
kept : (c d : Channel) (b : Bool) → b ≡ false → cond b d c ≡ c
kept c d b is = subst (λ (b : Bool). cond b d c ≡ c) (sym is) refl

gain-held : (c : Channel) (o : Option Holder) (who : Who) (manner : Manner) (waits : Bool) (h : Holder) → o ≡ Some h →
    (gain o c who manner waits).holder ≡ c.holder
gain-held c None who manner waits h is = absurd (cc)
gain-held c (Some g) who manner true h is = refl
gain-held c (Some g) who manner false h is = refl

cond-holder : (c d : Channel) (b : Bool) → d.holder ≡ c.holder → (cond b d c).holder ≡ c.holder
cond-holder c d true same = same
cond-holder c d false same = refl

-- what a player holds it holds still after an entry of another
held-other : (c : Channel) (who : Who) (op : ChanOp) (player : ℕ) (manner : Manner) → IsHeldAs c player manner →
    who.number ≢ player → IsHeldAs (chan_next c who op) player manner
held-other c who (ops.Offer message waits) player manner is apart =
    cond-holder c (gain c.holder c who manners.Offer waits) (is_valid c.valid message)
    (gain-held c c.holder who manners.Offer waits _ is) ∙ is
held-other c who (ops.Enter waits) player manner is apart = gain-held c c.holder who manners.Enter waits _ is ∙ is
held-other c who (ops.Claim waits) player manner is apart = gain-held c c.holder who manners.Claim waits _ is ∙ is
held-other c who (ops.ClaimEnd place) player manner is apart = is
held-other c who (ops.ClaimQuit place) player manner is apart = is
held-other c who (ops.Set message) player manner is apart = cond-holder c (record c { message = message }) (holds c who) refl ∙ is
held-other c who ops.List player manner is apart = is
held-other c who ops.Get player manner is apart = is
held-other c who ops.Free player manner is apart =
    ap (λ (x : Channel). x.holder)
    (kept c (handed_on c) (holds_by_entering c who)
    (not-so c.holder player who.number manner (λ m. not (is_claim m)) is apart)) ∙ is
held-other c who ops.Finish player manner is apart =
    ap (λ (x : Channel). x.holder)
    (kept c (handed_on c) (has_claimed c who) (not-so c.holder player who.number manner is_claim is apart)) ∙ is
held-other c who (ops.Mask observer on) player manner is apart = is

-- and after any entries of others
pub held-others : (c : Channel) (more : ChanHistory) (player : ℕ) (manner : Manner) → IsHeldAs c player manner →
    All (IsOther player) more →
    IsHeldAs (state_after chan_machine c more) player manner
held-others c [] player manner is others = is
held-others c (e ∷ es) player manner is others =
    held-others (chan_next c e.who e.op) es player manner
    (held-other c e.who e.op player manner is (All-head (IsOther player) e es others)) (All-tail (IsOther player) e es others)

-- and after each entry of its own but a free, where it holds it by an offer or by entering
pub held-own : (c : Channel) (who : Who) (op : ChanOp) (manner : Manner) → IsHeldAs c who.number manner →
    is_claim manner ≡ false → op ≢ ops.Free →
    IsHeldAs (chan_next c who op) who.number manner
held-own c who (ops.Offer message waits) manner is entered not_free =
    cond-holder c (gain c.holder c who manners.Offer waits) (is_valid c.valid message)
    (gain-held c c.holder who manners.Offer waits _ is) ∙ is
held-own c who (ops.Enter waits) manner is entered not_free = gain-held c c.holder who manners.Enter waits _ is ∙ is
held-own c who (ops.Claim waits) manner is entered not_free = gain-held c c.holder who manners.Claim waits _ is ∙ is
held-own c who (ops.ClaimEnd place) manner is entered not_free = is
held-own c who (ops.ClaimQuit place) manner is entered not_free = is
held-own c who (ops.Set message) manner is entered not_free =
    cond-holder c (record c { message = message }) (holds c who) refl ∙ is
held-own c who ops.List manner is entered not_free = is
held-own c who ops.Get manner is entered not_free = is
held-own c who ops.Free manner is entered not_free = absurd (not_free refl)
held-own c who ops.Finish manner is entered not_free =
    ap (λ (x : Channel). x.holder) (kept c (handed_on c) (has_claimed c who) no_claim) ∙ is
  where
    never : (b : Bool) → (b && false) ≡ false
    never true = refl
    never false = refl

    no_claim : has_claimed c who ≡ false
    no_claim =
        subst (λ (o : Option Holder). option_map_or (λ (h : Holder). eqb h.player who.number && is_claim h.manner) o false
        ≡ false) (sym is)
        (ap (λ (b : Bool). eqb who.number who.number && b) entered ∙ never (eqb who.number who.number))
held-own c who (ops.Mask observer on) manner is entered not_free = is

-- Lists of waits and of decisions.

module _ {A : Type 0} (P : A → Type 0) (test : A → Bool) where
  pub All-without : (xs : List A) → All P xs → All P (without_first test xs)
  All-without [] all = all
  All-without (x ∷ xs) all =
      elim (test x) as (λ b. All P (cond b xs (x ∷ without_first test xs))) [
        | true ↦ All-tail P x xs all
        | false ↦ All-cons P x (without_first test xs) (All-head P x xs all)
            (All-without xs (All-tail P x xs all))
      ]

  pub All-put_before : (x : A) (xs : List A) → P x → All P xs → All P (put_before test x xs)
  All-put_before x [] here all = All-cons P x [] here all
  All-put_before x (y ∷ ys) here all =
      elim (test y) as (λ b. All P (cond b (x ∷ y ∷ ys) (y ∷ put_before test x ys))) [
        | true ↦ All-cons P x (y ∷ ys) here all
        | false ↦ All-cons P y (put_before test x ys) (All-head P y ys all)
            (All-put_before x ys here (All-tail P y ys all))
      ]

-- The wait of a player since a place.

-- it is in this manner, and where it is decided the player holds the channel so
pub record IsAwaitedAs (c : Channel) (player place : ℕ) (manner : Manner) : Type 0 where
  pub waiting : All (λ w. is_waiter player place w ≡ true → w.payload ≡ manner) c.waits.waiting
  pub decided : All (λ d. is_decision player place d ≡ true → IsHeldAs c player manner) c.waits.decided

-- it isn't decided
abbrev pub IsUndecided : Channel → ℕ → ℕ → Type 0
IsUndecided c player place = All (λ d. is_decision player place d ≡ false) c.waits.decided

gain-decided : (c : Channel) (o : Option Holder) (who : Who) (manner : Manner) (waits : Bool) →
    (gain o c who manner waits).waits.decided ≡ c.waits.decided
gain-decided c None who manner waits = refl
gain-decided c (Some g) who manner true = refl
gain-decided c (Some g) who manner false = refl

cond-decided : (c d : Channel) (b : Bool) → d.waits.decided ≡ c.waits.decided → (cond b d c).waits.decided ≡ c.waits.decided
cond-decided c d true same = same
cond-decided c d false same = refl

same-decided : (c d : Channel) (player place : ℕ) → d.waits.decided ≡ c.waits.decided → IsUndecided c player place →
    IsUndecided d player place
same-decided c d player place same none = subst (All (λ e. is_decision player place e ≡ false)) (sym same) none

-- a wait of a player for what it holds isn't decided by an entry of another
undecided-other : (c : Channel) (who : Who) (op : ChanOp) (player place : ℕ) (manner : Manner) →
    IsHeldAs c player manner → who.number ≢ player → IsUndecided c player place →
    IsUndecided (chan_next c who op) player place
undecided-other c who (ops.Offer message waits) player place manner is apart none =
    same-decided c (cond (is_valid c.valid message) (gain c.holder c who manners.Offer waits) c) player place
    (cond-decided c (gain c.holder c who manners.Offer waits) (is_valid c.valid message)
    (gain-decided c c.holder who manners.Offer waits)) none
undecided-other c who (ops.Enter waits) player place manner is apart none =
    same-decided c (gain c.holder c who manners.Enter waits) player place (gain-decided c c.holder who manners.Enter waits) none
undecided-other c who (ops.Claim waits) player place manner is apart none =
    same-decided c (gain c.holder c who manners.Claim waits) player place (gain-decided c c.holder who manners.Claim waits) none
undecided-other c who (ops.ClaimEnd p) player place manner is apart none =
    All-without (λ d. is_decision player place d ≡ false) (is_decision who.number p) c.waits.decided none
undecided-other c who (ops.ClaimQuit p) player place manner is apart none =
    All-without (λ d. is_decision player place d ≡ false) (is_decision who.number p) c.waits.decided none
undecided-other c who (ops.Set message) player place manner is apart none =
    same-decided c (cond (holds c who) (record c { message = message }) c) player place
    (cond-decided c (record c { message = message }) (holds c who) refl) none
undecided-other c who ops.List player place manner is apart none = none
undecided-other c who ops.Get player place manner is apart none = none
undecided-other c who ops.Free player place manner is apart none =
    same-decided c (cond (holds_by_entering c who) (handed_on c) c) player place
    (ap (λ (x : Channel). x.waits.decided)
    (kept c (handed_on c) (holds_by_entering c who)
    (not-so c.holder player who.number manner (λ m. not (is_claim m)) is apart))) none
undecided-other c who ops.Finish player place manner is apart none =
    same-decided c (cond (has_claimed c who) (handed_on c) c) player place
    (ap (λ (x : Channel). x.waits.decided)
    (kept c (handed_on c) (has_claimed c who) (not-so c.holder player who.number manner is_claim is apart))) none
undecided-other c who (ops.Mask observer on) player place manner is apart none = none

-- and so by no entries of others: what a player holds it isn't given once more
pub undecided-others : (c : Channel) (more : ChanHistory) (player place : ℕ) (manner : Manner) →
    IsHeldAs c player manner → All (IsOther player) more → IsUndecided c player place →
    IsUndecided (state_after chan_machine c more) player place
undecided-others c [] player place manner is others none = none
undecided-others c (e ∷ es) player place manner is others none =
    let apart = All-head (IsOther player) e es others in
    undecided-others (chan_next c e.who e.op) es player place manner (held-other c e.who e.op player manner is apart)
    (All-tail (IsOther player) e es others)
    (undecided-other c e.who e.op player place manner is apart none)

-- A wait of this player is kept by the entries of others.

awaited-same : (c d : Channel) (player place : ℕ) (manner : Manner) → d.waits ≡ c.waits → d.holder ≡ c.holder →
    IsAwaitedAs c player place manner → IsAwaitedAs d player place manner
awaited-same c d player place manner waits holder was = record {
  waiting = subst (λ (ws : Waits Manner ChanReply). All (λ w. is_waiter player place w ≡ true →
      w.payload ≡ manner) ws.waiting) (sym waits) was.waiting;
  decided = subst (λ (ws : Waits Manner ChanReply). All (λ e. is_decision player place e ≡ true →
      IsHeldAs d player manner) ws.decided) (sym waits)
      (All-weaker (λ e. is_decision player place e ≡ true →
      IsHeldAs c player manner) (λ e. is_decision player place e ≡ true → IsHeldAs d player manner)
      (λ e so mine. holder ∙ so mine) c.waits.decided was.decided);
}

-- the wait of another isn't this player's
other-wait : (player place : ℕ) (w : Waiter Manner) → w.who.number ≢ player → is_waiter player place w ≡ true → ⊥
other-wait player place w apart mine =
    let same : w.who.number ≡ player = grind (arith, nat_tests) in
    apart same

-- a call of another for the channel leaves the wait as it is: where nobody holds the channel no wait of this player is decided
gain-awaited : (c : Channel) (o : Option Holder) (who : Who) (manner mine : Manner) (waits : Bool) (player place : ℕ) →
    c.holder ≡ o → IsAwaitedAs c player place mine →
    who.number ≢ player → IsAwaitedAs (gain o c who manner waits) player place mine
gain-awaited c None who manner mine waits player place is was apart = record {
  waiting = was.waiting;
  decided = All-weaker (λ d. is_decision player place d ≡ true → IsHeldAs c player mine)
      (λ d. is_decision player place d ≡ true → IsHeldAs (gain None c who manner waits) player mine)
      (λ d so own. absurd (let held = so own in cc)) c.waits.decided was.decided;
}
gain-awaited c (Some h) who manner mine true player place is was apart =
    let P : Waiter Manner → Type 0 = λ w. is_waiter player place w ≡ true → w.payload ≡ mine in
    let new : Waiter Manner = record { place = c.entries; who = who; payload = manner } in
    record {
      waiting = All-put_before P (is_served_after new) new c.waits.waiting
          (λ own. absurd (other-wait player place new apart own)) was.waiting;
      decided = was.decided;
    }
gain-awaited c (Some h) who manner mine false player place is was apart = was

cond-awaited : (c d : Channel) (b : Bool) (player place : ℕ) (manner : Manner) → IsAwaitedAs d player place manner →
    IsAwaitedAs c player place manner →
    IsAwaitedAs (cond b d c) player place manner
cond-awaited c d true player place manner then_ else_ = then_
cond-awaited c d false player place manner then_ else_ = else_

-- where no wait of this player is decided, a channel that is handed on is given to it in the manner of its wait, or not at all
handed-awaited : (c : Channel) (waiting : List (Waiter Manner)) (player place : ℕ) (manner : Manner) →
    c.waits.waiting ≡ waiting → IsAwaitedAs c player place manner →
    IsUndecided c player place →
    All (λ w. is_waiter player place w ≡ true → w.payload ≡ manner) (decides_first Got waiting c.waits.decided).waiting
    × All (λ d. is_decision player place d ≡ true →
    option_map held_by (slice_get waiting 0) ≡ Some (record { player = player; manner = manner }))
    (decides_first Got waiting c.waits.decided).decided
handed-awaited c [] player place manner is was none = (
  All-nil (λ (w : Waiter Manner). is_waiter player place w ≡ true → w.payload ≡ manner),
  All-weaker (λ d. is_decision player place d ≡ false)
      (λ d. is_decision player place d ≡ true → None ≡ Some (held player manner))
      (λ d isnt mine. absurd (cc)) c.waits.decided none,
)
handed-awaited c (w ∷ ws) player place manner is was none =
    let P : Waiter Manner → Type 0 = λ v. is_waiter player place v ≡ true → v.payload ≡ manner in
    let Q : Decision ChanReply → Type 0 =
    λ d. is_decision player place d ≡ true → Some (held_by w) ≡ Some (record { player = player; manner = manner }) in
    let all = subst (All P) is was.waiting in
    let mine = All-head P w ws all in (
      All-tail P w ws all,
      All-append Q c.waits.decided (decide Got w ∷ [])
          (All-weaker (λ d. is_decision player place d ≡ false) Q (λ d isnt own. absurd (cc)) c.waits.decided none)
          (All-cons Q (decide Got w) [] (λ own. given w (mine own) own) (All-nil Q)),
    )
  where
    given : (w : Waiter Manner) → w.payload ≡ manner → is_waiter player place w ≡ true →
        ◌≡◌ {A = Option Holder} (Some (held_by w)) (Some (record { player = player; manner = manner }))
    given w so own =
        let same : w.who.number ≡ player = grind (arith, nat_tests) in
        cc

-- another frees the channel only where it holds it, so where no wait of this player is decided
freed-awaited : (c : Channel) (may : Bool) (player place : ℕ) (manner : Manner) → IsAwaitedAs c player place manner →
    (IsHeldAs c player manner → may ≡ false) → IsAwaitedAs (cond may (handed_on c) c) player place manner
freed-awaited c false player place manner was apart = was
freed-awaited c true player place manner was apart =
    let none : IsUndecided c player place =
    All-weaker (λ d. is_decision player place d ≡ true → IsHeldAs c player manner) (λ d. is_decision player place d ≡ false)
    (λ d so. isnt (is_decision player place d) so) c.waits.decided was.decided in
    let handed = handed-awaited c c.waits.waiting player place manner refl was none in
    record { waiting = handed.0; decided = handed.1 }
  where
    isnt : (b : Bool) → (b ≡ true → IsHeldAs c player manner) → b ≡ false
    isnt true so = absurd (let never = apart (so refl) in cc)
    isnt false so = refl

-- an entry of another leaves a player's wait as it is, or gives it the channel in the manner of its call
awaited-other : (c : Channel) (who : Who) (op : ChanOp) (player place : ℕ) (manner : Manner) →
    IsAwaitedAs c player place manner → who.number ≢ player →
    IsAwaitedAs (chan_next c who op) player place manner
awaited-other c who (ops.Offer message waits) player place manner was apart =
    let after = cond (is_valid c.valid message) (gain c.holder c who manners.Offer waits) c in
    awaited-same after (record after { entries = c.entries + 1 }) player place manner refl refl
    (cond-awaited c (gain c.holder c who manners.Offer waits) (is_valid c.valid message) player place manner
    (gain-awaited c c.holder who manners.Offer manner waits player place refl was apart) was)
awaited-other c who (ops.Enter waits) player place manner was apart =
    let after = gain c.holder c who manners.Enter waits in
    awaited-same after (record after { entries = c.entries + 1 }) player place manner refl refl
    (gain-awaited c c.holder who manners.Enter manner waits player place refl was apart)
awaited-other c who (ops.Claim waits) player place manner was apart =
    let after = gain c.holder c who manners.Claim waits in
    awaited-same after (record after { entries = c.entries + 1 }) player place manner refl refl
    (gain-awaited c c.holder who manners.Claim manner waits player place refl was apart)
awaited-other c who (ops.ClaimEnd p) player place manner was apart = record {
  waiting = was.waiting;
  decided = All-without (λ d. is_decision player place d ≡ true →
      IsHeldAs c player manner) (is_decision who.number p) c.waits.decided was.decided;
}
awaited-other c who (ops.ClaimQuit p) player place manner was apart = record {
  waiting = All-without (λ w. is_waiter player place w ≡ true →
      w.payload ≡ manner) (is_waiter who.number p) c.waits.waiting was.waiting;
  decided = All-without (λ d. is_decision player place d ≡ true →
      IsHeldAs c player manner) (is_decision who.number p) c.waits.decided was.decided;
}
awaited-other c who (ops.Set message) player place manner was apart =
    let after = cond (holds c who) (record c { message = message }) c in
    awaited-same after (record after { entries = c.entries + 1 }) player place manner refl refl
    (cond-awaited c (record c { message = message }) (holds c who) player place manner
    (awaited-same c (record c { message = message }) player place manner refl refl was) was)
awaited-other c who ops.List player place manner was apart =
    awaited-same c (record c { entries = c.entries + 1 }) player place manner refl refl was
awaited-other c who ops.Get player place manner was apart =
    awaited-same c (record c { entries = c.entries + 1 }) player place manner refl refl was
awaited-other c who ops.Free player place manner was apart =
    let after = cond (holds_by_entering c who) (handed_on c) c in
    awaited-same after (record after { entries = c.entries + 1 }) player place manner refl refl
    (freed-awaited c (holds_by_entering c who) player place manner was
    (λ is. not-so c.holder player who.number manner (λ m. not (is_claim m)) is apart))
awaited-other c who ops.Finish player place manner was apart =
    let after = cond (has_claimed c who) (handed_on c) c in
    awaited-same after (record after { entries = c.entries + 1 }) player place manner refl refl
    (freed-awaited c (has_claimed c who) player place manner was
    (λ is. not-so c.holder player who.number manner is_claim is apart))
awaited-other c who (ops.Mask observer on) player place manner was apart =
    awaited-same c (chan_next c who (ops.Mask observer on)) player place manner refl refl was

-- and so any entries of others
pub awaited-others : (c : Channel) (more : ChanHistory) (player place : ℕ) (manner : Manner) →
    IsAwaitedAs c player place manner → All (IsOther player) more →
    IsAwaitedAs (state_after chan_machine c more) player place manner
awaited-others c [] player place manner was others = was
awaited-others c (e ∷ es) player place manner was others =
    awaited-others (chan_next c e.who e.op) es player place manner
    (awaited-other c e.who e.op player place manner was (All-head (IsOther player) e es others))
    (All-tail (IsOther player) e es others)

-- A player gets the channel.

-- by its call nobody held it before, and it holds it in the call's manner
pub got-called : (c : Channel) (who : Who) (op : ChanOp) (manner : Manner) → chan_reply c who op ≡ Some Got →
    manner_of op ≡ Some manner →
    (c.holder ≡ None) × IsHeldAs (chan_next c who op) who.number manner
got-called c who op manner told is = own-holds c who op manner told is

decided-there : (c : Channel) (player place : ℕ) (answer : ChanReply) → decision_of c.waits player place ≡ Some answer →
    IsUndecided c player place → ⊥
decided-there c player place answer is none = never c.waits.decided none is
  where
    never : (list : List (Decision ChanReply)) → All (λ d. is_decision player place d ≡ false) list →
        option_map (λ (d : Decision ChanReply). d.answer) (find (is_decision player place) list) ≡ Some answer → ⊥
    never [] none is = cc
    never (d ∷ ds) none is =
        let P : Decision ChanReply → Type 0 = λ d. is_decision player place d ≡ false in
        let skip : find (is_decision player place) (d ∷ ds) ≡ find (is_decision player place) ds =
        ap (λ (b : Bool). cond b (Some d) (find (is_decision player place) ds)) (All-head P d ds none) in
        never ds (All-tail P d ds none) (ap (option_map (λ (d : Decision ChanReply). d.answer)) (sym skip) ∙ is)

found-so : (player place : ℕ) (answer : ChanReply) (Q : Type 0) (list : List (Decision ChanReply)) →
    All (λ d. is_decision player place d ≡ true → Q) list →
    option_map (λ (d : Decision ChanReply). d.answer) (find (is_decision player place) list) ≡ Some answer → Q
found-so player place answer Q [] all is = absurd (cc)
found-so player place answer Q (d ∷ ds) all is =
    by_test (is_decision player place d) refl
    (λ skip. found-so player place answer Q ds (All-tail (λ d. is_decision player place d ≡ true → Q) d ds all)
    (ap (option_map (λ (d : Decision ChanReply). d.answer)) (sym skip) ∙ is))
  where
    by_test : (b : Bool) → is_decision player place d ≡ b →
        (find (is_decision player place) (d ∷ ds) ≡ find (is_decision player place) ds → Q) → Q
    by_test true mine other = All-head (λ d. is_decision player place d ≡ true → Q) d ds all mine
    by_test false isnt other = other (ap (λ (b : Bool). cond b (Some d) (find (is_decision player place) ds)) isnt)

decided-held : (c : Channel) (player place : ℕ) (manner : Manner) (answer : ChanReply) →
    IsAwaitedAs c player place manner → decision_of c.waits player place ≡ Some answer →
    IsHeldAs c player manner
decided-held c player place manner answer was is =
    found-so player place answer (IsHeldAs c player manner) c.waits.decided was.decided is

-- by the end of its wait: it was decided, and it holds the channel in the call's manner
pub got-ended : (c : Channel) (who : Who) (place : ℕ) (manner : Manner) → IsAwaitedAs c who.number place manner →
    chan_reply c who (ops.ClaimEnd place) ≡ Some Got →
    (IsUndecided c who.number place → ⊥) × IsHeldAs (chan_next c who (ops.ClaimEnd place)) who.number manner
got-ended c who place manner was is = (decided-there c who.number place Got is, decided-held c who.number place manner Got was is)

-- or by giving it up
pub got-quit : (c : Channel) (who : Who) (place : ℕ) (manner : Manner) → IsAwaitedAs c who.number place manner →
    chan_reply c who (ops.ClaimQuit place) ≡ Some Got →
    (IsUndecided c who.number place → ⊥) × IsHeldAs (chan_next c who (ops.ClaimQuit place)) who.number manner
got-quit c who place manner was is =
    let decided = decided-quit (goes_on c.waits who.number place) (decision_of c.waits who.number place) is in
    (decided-there c who.number place Got decided, decided-held c who.number place manner Got was decided)
  where
    decided-quit : (waits : Bool) (decision : Option ChanReply) → given_up Again waits decision ≡ Some Got → decision ≡ Some Got
    decided-quit waits (Some answer) is = is
    decided-quit true None is = absurd (cc)
    decided-quit false None is = absurd (cc)

-- A player begins to wait.

-- each wait has the place of an entry that stands
pub record ArePlaced (c : Channel) : Type 0 where
  pub waiting : All (λ w. w.place < c.entries) c.waits.waiting
  pub decided : All (λ d. d.place < c.entries) c.waits.decided

-- the same with so many entries
ArePlacedBelow : ℕ → Waits Manner ChanReply → Type 0
ArePlacedBelow n ws = All (λ w. w.place < n) ws.waiting × All (λ d. d.place < n) ws.decided

later : (n : ℕ) (ws : Waits Manner ChanReply) → All (λ w. w.place < n) ws.waiting → All (λ d. d.place < n) ws.decided →
    ArePlacedBelow (n + 1) ws
unfolding ArePlacedBelow
later n ws waiting decided = (
  All-weaker (λ w. w.place < n) (λ w. w.place < n + 1) (λ w below. omega arith) ws.waiting waiting,
  All-weaker (λ d. d.place < n) (λ d. d.place < n + 1) (λ d below. omega arith) ws.decided decided,
)

gain-placed : (c : Channel) (o : Option Holder) (who : Who) (manner : Manner) (waits : Bool) →
    ArePlacedBelow (c.entries + 1) c.waits →
    ArePlacedBelow (c.entries + 1) (gain o c who manner waits).waits
unfolding ArePlacedBelow
gain-placed c None who manner waits was = was
gain-placed c (Some h) who manner true was =
    let new : Waiter Manner = record { place = c.entries; who = who; payload = manner } in
    (All-put_before (λ w. w.place < c.entries + 1) (is_served_after new) new c.waits.waiting (omega arith) was.0, was.1)
gain-placed c (Some h) who manner false was = was

handed-placed : (n : ℕ) (waiting : List (Waiter Manner)) (decided : List (Decision ChanReply)) →
    All (λ w. w.place < n) waiting → All (λ d. d.place < n) decided →
    ArePlacedBelow n (decides_first Got waiting decided)
unfolding ArePlacedBelow
handed-placed n [] decided waits were = (waits, were)
handed-placed n (w ∷ ws) decided waits were =
    let P : Waiter Manner → Type 0 = λ w. w.place < n in
    let Q : Decision ChanReply → Type 0 = λ d. d.place < n in (
      All-tail P w ws waits,
      All-append Q decided (decide Got w ∷ []) were (All-cons Q (decide Got w) [] (All-head P w ws waits) (All-nil Q)),
    )

cond-placed : (n : ℕ) (c d : Channel) (b : Bool) → ArePlacedBelow n d.waits → ArePlacedBelow n c.waits →
    ArePlacedBelow n (cond b d c).waits
cond-placed n c d true then_ else_ = then_
cond-placed n c d false then_ else_ = else_

next-placed : (c : Channel) (who : Who) (op : ChanOp) → ArePlacedBelow (c.entries + 1) c.waits →
    ArePlacedBelow (c.entries + 1) (chan_next c who op).waits
unfolding ArePlacedBelow
next-placed c who (ops.Offer message waits) was =
    cond-placed (c.entries + 1) c (gain c.holder c who manners.Offer waits) (is_valid c.valid message)
    (gain-placed c c.holder who manners.Offer waits was) was
next-placed c who (ops.Enter waits) was = gain-placed c c.holder who manners.Enter waits was
next-placed c who (ops.Claim waits) was = gain-placed c c.holder who manners.Claim waits was
next-placed c who (ops.ClaimEnd p) was =
    (was.0, All-without (λ d. d.place < c.entries + 1) (is_decision who.number p) c.waits.decided was.1)
next-placed c who (ops.ClaimQuit p) was = (
  All-without (λ w. w.place < c.entries + 1) (is_waiter who.number p) c.waits.waiting was.0,
  All-without (λ d. d.place < c.entries + 1) (is_decision who.number p) c.waits.decided was.1,
)
next-placed c who (ops.Set message) was = cond-placed (c.entries + 1) c (record c { message = message }) (holds c who) was was
next-placed c who ops.List was = was
next-placed c who ops.Get was = was
next-placed c who ops.Free was = cond-placed (c.entries + 1) c (handed_on c) (holds_by_entering c who)
    (handed-placed (c.entries + 1) c.waits.waiting c.waits.decided was.0 was.1) was
next-placed c who ops.Finish was = cond-placed (c.entries + 1) c (handed_on c) (has_claimed c who)
    (handed-placed (c.entries + 1) c.waits.waiting c.waits.decided was.0 was.1) was
next-placed c who (ops.Mask observer on) was = was

-- so it is after any history
pub placed-after : (c : Channel) (h : ChanHistory) → ArePlaced c → ArePlaced (state_after chan_machine c h)
unfolding ArePlacedBelow
placed-after c [] was = was
placed-after c (e ∷ es) was =
    let placed = next-placed c e.who e.op (later c.entries c.waits was.waiting was.decided) in
    placed-after (chan_next c e.who e.op) es (record { waiting = placed.0; decided = placed.1 })

-- each entry is counted
pub counted-after : (c : Channel) (h : ChanHistory) → (state_after chan_machine c h).entries ≡ c.entries + length h
counted-after c [] = omega arith
counted-after c (e ∷ es) = omega (arith, counted-after (chan_next c e.who e.op) es)

none-waits-at : (player : ℕ) (n : ℕ) (w : Waiter Manner) → w.place < n → is_waiter player n w ≡ false
none-waits-at player n w below = grind (arith, nat_tests)

none-decided-at : (player : ℕ) (n : ℕ) (d : Decision ChanReply) → d.place < n → is_decision player n d ≡ false
none-decided-at player n d below = grind (arith, nat_tests)

-- a wait that begins isn't decided, and is given the channel in its manner
gain-waits : (c : Channel) (o : Option Holder) (who : Who) (manner : Manner) (waits : Bool) → ArePlaced c →
    gain_reply o waits ≡ Wait →
    All (λ w. is_waiter who.number c.entries w ≡ true → w.payload ≡ manner) (gain o c who manner waits).waits.waiting
    × All (λ d. is_decision who.number c.entries d ≡ false) (gain o c who manner waits).waits.decided
gain-waits c None who manner waits was is = absurd (cc)
gain-waits c (Some h) who manner false was is = absurd (cc)
gain-waits c (Some h) who manner true was is =
    let P : Waiter Manner → Type 0 = λ w. is_waiter who.number c.entries w ≡ true → w.payload ≡ manner in
    let new : Waiter Manner = record { place = c.entries; who = who; payload = manner } in (
      All-put_before P (is_served_after new) new c.waits.waiting (λ own. refl)
          (All-weaker (λ w. w.place < c.entries) P
          (λ w below own. absurd (let isnt = none-waits-at who.number c.entries w below in cc)) c.waits.waiting was.waiting),
      All-weaker (λ d. d.place < c.entries) (λ d. is_decision who.number c.entries d ≡ false)
          (λ d below. none-decided-at who.number c.entries d below) c.waits.decided was.decided,
    )

offer-waits : (c : Channel) (who : Who) (waits valid : Bool) → ArePlaced c → cond valid (gain_reply c.holder waits) NoMsg ≡ Wait →
    All (λ w. is_waiter who.number c.entries w ≡ true →
    w.payload ≡ manners.Offer) (cond valid (gain c.holder c who manners.Offer waits) c).waits.waiting
    × All (λ d. is_decision who.number c.entries d ≡ false) (cond valid (gain c.holder c who manners.Offer waits) c).waits.decided
offer-waits c who waits true was is = gain-waits c c.holder who manners.Offer waits was is
offer-waits c who waits false was is = absurd (cc)

-- whoever waits by its call is given the channel in the call's manner, and hasn't been yet
pub waits-called : (c : Channel) (who : Who) (op : ChanOp) (manner : Manner) → ArePlaced c →
    chan_reply c who op ≡ Some Wait → manner_of op ≡ Some manner →
    IsAwaitedAs (chan_next c who op) who.number c.entries manner × IsUndecided (chan_next c who op) who.number c.entries
waits-called c who op manner was told is = by_op op manner told is
  where
    awaits : (d : Channel) (mine : Manner) → All (λ w. is_waiter who.number c.entries w ≡ true → w.payload ≡ mine) d.waits.waiting
        × All (λ e. is_decision who.number c.entries e ≡ false) d.waits.decided →
        IsAwaitedAs d who.number c.entries mine × IsUndecided d who.number c.entries
    awaits d mine both = (
      record {
        waiting = both.0;
        decided = All-weaker (λ e. is_decision who.number c.entries e ≡ false) (λ e. is_decision who.number c.entries e
            ≡ true → IsHeldAs d who.number mine)
            (λ e isnt own. absurd (cc)) d.waits.decided both.1;
      },
      both.1,
    )

    by_op : (op : ChanOp) (mine : Manner) → chan_reply c who op ≡ Some Wait → manner_of op ≡ Some mine →
        IsAwaitedAs (chan_next c who op) who.number c.entries mine × IsUndecided (chan_next c who op) who.number c.entries
    by_op (ops.Offer message waits) mine told is =
        let same = same_Some manners.Offer mine is in
        subst (λ (m : Manner). IsAwaitedAs (chan_next c who (ops.Offer message waits)) who.number c.entries m
        × IsUndecided (chan_next c who (ops.Offer message waits)) who.number c.entries) same
        (awaits (chan_next c who (ops.Offer message waits)) manners.Offer
        (offer-waits c who waits (is_valid c.valid message) was
        (same_Some (cond (is_valid c.valid message) (gain_reply c.holder waits) NoMsg) Wait told)))
    by_op (ops.Enter waits) mine told is =
        let same = same_Some manners.Enter mine is in
        subst (λ (m : Manner). IsAwaitedAs (chan_next c who (ops.Enter waits)) who.number c.entries m
        × IsUndecided (chan_next c who (ops.Enter waits)) who.number c.entries) same
        (awaits (chan_next c who (ops.Enter waits)) manners.Enter
        (gain-waits c c.holder who manners.Enter waits was (same_Some (gain_reply c.holder waits) Wait told)))
    by_op (ops.Claim waits) mine told is =
        let same = same_Some manners.Claim mine is in
        subst (λ (m : Manner). IsAwaitedAs (chan_next c who (ops.Claim waits)) who.number c.entries m
        × IsUndecided (chan_next c who (ops.Claim waits)) who.number c.entries) same
        (awaits (chan_next c who (ops.Claim waits)) manners.Claim
        (gain-waits c c.holder who manners.Claim waits was (same_Some (gain_reply c.holder waits) Wait told)))
    by_op op mine told is = absurd (cc)
