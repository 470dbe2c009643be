-- At a channel only what frees it makes something possible to another player.
use Rattle.zk_replay.proofs.WaitsMoved.{IsMoved, end-still, quit-still}
use Rattle.std.proofs.Common.{inl, inr, ◌≡◌, ◌≢◌, Bool, true, false, not, cond, ◌&&◌, eqb, Option, Some, None, refl, ap}
use Rattle.std.specs.Option.{option_map_or}
use Rattle.std.proofs.lemmas.Bool.{ne_eqb}
use Rattle.zk_base.specs.declared.ids.Who.{Who}
use Rattle.zk_base.specs.Validators.{is_valid}
use Rattle.zk_model_bus.specs.declared.channel.Holder.{Holder}
use Rattle.zk_model_bus.specs.declared.channel.Manner.{Manner}
use Rattle.zk_model_bus.specs.declared.channel.Manner.TheVariants as manners
use Rattle.zk_model_bus.specs.declared.channel.ChanOp.{ChanOp}
use Rattle.zk_model_bus.specs.declared.channel.ChanOp.TheVariants as ops
use Rattle.zk_model_bus.specs.declared.channel.ChanReply.{ChanReply}
use Rattle.zk_model_bus.specs.declared.channel.ChanReply.TheVariants.{Again}
use Rattle.zk_model_bus.specs.Channel.{Channel, holds, holds_by_entering, is_claim, gain, chan_changed, chan_next, chan_reply}
use Rattle.zk_services.specs.Counted.{frees}

module _ (c : Channel) (by who : Who) (apart : by.number ≢ who.number) where
  -- what is said of who holds the channel, which isn't true of the other
  module _ (t : Holder → Bool) (other : (manner : Manner) → t (record { player = by.number; manner = manner }) ≡ false) where
    gain-not : (manner : Manner) (waits : Bool) (o : Option Holder) → c.holder ≡ o → option_map_or t c.holder false ≡ false →
        option_map_or t (gain o c by manner waits).holder false ≡ false
    gain-not manner waits None is was = other manner
    gain-not manner true (Some holder) is was = was
    gain-not manner false (Some holder) is was = was

    if-not : (b : Bool) (x y : Channel) → option_map_or t x.holder false ≡ false → option_map_or t y.holder false ≡ false →
        option_map_or t (cond b x y).holder false ≡ false
    if-not true x y first second = first
    if-not false x y first second = second

    changed-not : (op : ChanOp) → frees op ≡ false → option_map_or t c.holder false ≡ false →
        option_map_or t (chan_changed c by op).holder false ≡ false
    changed-not (ops.Offer message waits) stays was =
        if-not (is_valid c.valid message) (gain c.holder c by manners.Offer waits) c (gain-not manners.Offer waits c.holder refl was) was
    changed-not (ops.Enter waits) stays was = gain-not manners.Enter waits c.holder refl was
    changed-not (ops.Claim waits) stays was = gain-not manners.Claim waits c.holder refl was
    changed-not (ops.ClaimEnd place) stays was = was
    changed-not (ops.ClaimQuit place) stays was = was
    changed-not (ops.Set message) stays was = if-not (holds c by) (record c { message = message }) c was was
    changed-not ops.List stays was = was
    changed-not ops.Get stays was = was
    changed-not ops.Free stays was = absurd (cc)
    changed-not ops.Finish stays was = absurd (cc)
    changed-not (ops.Mask observer on) stays was = was

  -- who waits for it is moved by the operation
  gain-moved : (manner : Manner) (waits : Bool) (o : Option Holder) → IsMoved c.waits by (gain o c by manner waits).waits
  gain-moved manner waits None = inl refl
  gain-moved manner true (Some holder) = inr (inl (record { place = c.entries; who = by; payload = manner }, refl, refl))
  gain-moved manner false (Some holder) = inl refl

  if-moved : (b : Bool) (x y : Channel) → IsMoved c.waits by x.waits → IsMoved c.waits by y.waits → IsMoved c.waits by (cond b x y).waits
  if-moved true x y first second = first
  if-moved false x y first second = second

  changed-moved : (op : ChanOp) → frees op ≡ false → IsMoved c.waits by (chan_changed c by op).waits
  changed-moved (ops.Offer message waits) stays =
      if-moved (is_valid c.valid message) (gain c.holder c by manners.Offer waits) c (gain-moved manners.Offer waits c.holder) (inl refl)
  changed-moved (ops.Enter waits) stays = gain-moved manners.Enter waits c.holder
  changed-moved (ops.Claim waits) stays = gain-moved manners.Claim waits c.holder
  changed-moved (ops.ClaimEnd place) stays = inr (inr (inl (place, refl)))
  changed-moved (ops.ClaimQuit place) stays = inr (inr (inr (place, refl)))
  changed-moved (ops.Set message) stays = if-moved (holds c by) (record c { message = message }) c (inl refl) (inl refl)
  changed-moved ops.List stays = inl refl
  changed-moved ops.Get stays = inl refl
  changed-moved ops.Free stays = absurd (cc)
  changed-moved ops.Finish stays = absurd (cc)
  changed-moved (ops.Mask observer on) stays = inl refl

  if-none : {A : Type 0} (b : Bool) (x : A) → cond b (Some x) None ≡ None → b ≡ false
  if-none true x none = absurd (cc)
  if-none false x none = refl

  none-if : (b : Bool) (o : Option ChanReply) → b ≡ false → cond b o None ≡ None
  none-if true o isnt = absurd (cc)
  none-if false o isnt = refl

  abbrev is-player : Holder → Bool
  is-player h = eqb h.player who.number

  abbrev enters : Holder → Bool
  enters h = eqb h.player who.number && not (is_claim h.manner)

  not-player : (manner : Manner) → is-player (record { player = by.number; manner = manner }) ≡ false
  not-player manner = ne_eqb by.number who.number apart

  not-entered : (manner : Manner) → enters (record { player = by.number; manner = manner }) ≡ false
  not-entered manner = ap (λ b. b && not (is_claim manner)) (ne_eqb by.number who.number apart)

  -- what isn't possible isn't behind an operation of another player that doesn't free the channel
  pub unfreed : (op x : ChanOp) → frees op ≡ false → chan_reply c who x ≡ None → chan_reply (chan_next c by op) who x ≡ None
  unfreed op (ops.Offer message waits) stays none = absurd (cc)
  unfreed op (ops.Enter waits) stays none = absurd (cc)
  unfreed op (ops.Claim waits) stays none = absurd (cc)
  unfreed op (ops.ClaimEnd place) stays none = end-still c.waits by who apart (chan_changed c by op).waits place (changed-moved op stays) none
  unfreed op (ops.ClaimQuit place) stays none =
      quit-still c.waits by who apart Again (chan_changed c by op).waits place (changed-moved op stays) none
  unfreed op (ops.Set message) stays none =
      none-if (holds (chan_next c by op) who) _ (changed-not is-player not-player op stays (if-none (holds c who) _ none))
  unfreed op ops.List stays none =
      none-if (holds (chan_next c by op) who) _ (changed-not is-player not-player op stays (if-none (holds c who) _ none))
  unfreed op ops.Get stays none =
      none-if (holds (chan_next c by op) who) _ (changed-not is-player not-player op stays (if-none (holds c who) _ none))
  unfreed op ops.Free stays none =
      none-if (holds_by_entering (chan_next c by op) who) _ (changed-not enters not-entered op stays (if-none (holds_by_entering c who) _ none))
  unfreed op ops.Finish stays none = absurd (cc)
  unfreed op (ops.Mask observer on) stays none = absurd (cc)
