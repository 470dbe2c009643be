-- The laws of the entries that a channel owes, over all states and operations.
use Rattle.std.proofs.Common.{◌≡◌, ℕ, ◌+◌, ◌≤◌, Bool, true, false, cond, ◌&&◌, ◌==◌, not, Option, Some, None, is_some, List, [], ◌∷◌, length, refl, sym, subst, arith}
use Rattle.std.specs.List.{slice_get}
use Rattle.std.specs.Option.{option_map, option_map_or}
use Rattle.std.proofs.lemmas.List.{length-append}
use Rattle.zk_base.specs.declared.ids.Who.{Who}
use Rattle.zk_base.specs.declared.waits.Waiter.{Waiter}
use Rattle.zk_base.specs.declared.waits.Decision.{Decision}
use Rattle.zk_base.specs.Waits.{is_served_after, is_waiter, decide, decides_first}
use Rattle.zk_base.proofs.Firsts.{length-less}
use Rattle.zk_base.proofs.WaitMoves.{length-put_before, open-joined, open-ended, open-ended-most, open-quitted, open-quitted-most}
use Rattle.zk_model_bus.specs.declared.channel.Holder.{Holder}
use Rattle.zk_model_bus.specs.declared.channel.Manner.{Manner}
use Rattle.zk_model_bus.specs.declared.channel.Manner.TheVariants as manners
use Rattle.zk_model_bus.specs.declared.channel.ChanOp.{ChanOp}
use Rattle.zk_model_bus.specs.declared.channel.ChanOp.TheVariants as ops
use Rattle.zk_model_bus.specs.declared.channel.ChanReply.{ChanReply}
use Rattle.zk_model_bus.specs.declared.channel.ChanReply.TheVariants.{Got, Again, Done}
use Rattle.zk_model_bus.specs.Channel.{Channel, owed_entries, chan_reply, chan_next, chan_in_range, chan_closes, is_claim, holds, has_claimed, holds_by_entering, gain, held_by, handed_on}
use Rattle.zk_base.specs.Validators.{is_valid}

-- each entry is counted
pub counts : (c : Channel) (who : Who) (op : ChanOp) → (chan_next c who op).entries ≡ c.entries + 1
counts c who op = refl

-- what is in range stays so
pub ranges : (c : Channel) (who : Who) (op : ChanOp) → chan_in_range (chan_next c who op) ≡ chan_in_range c
ranges c who op = refl

-- one who waits more owes the end of the wait, and then the freeing
gain-adds : (holder : Option Holder) (c : Channel) (who : Who) (manner : Manner) (waits : Bool) → c.holder ≡ holder →
    owed_entries (gain holder c who manner waits) ≤ owed_entries c + 2
gain-adds None c who manner waits is = omega arith
gain-adds (Some holder) c who manner true is =
    let w : Waiter Manner = record { place = c.entries; who = who; payload = manner } in
    let one = open-joined c.waits w in
    let long = length-put_before (is_served_after w) w c.waits.waiting in
    omega arith
gain-adds (Some holder) c who manner false is = omega arith

offer-adds : (valid : Bool) (c : Channel) (who : Who) (waits : Bool) →
    owed_entries (cond valid (gain c.holder c who manners.Offer waits) c) ≤ owed_entries c + 2
offer-adds true c who waits = gain-adds c.holder c who manners.Offer waits refl
offer-adds false c who waits = omega arith

-- how many entries are owed behind these waits and this holder
abbrev owed_at : ℕ → ℕ → Bool → ℕ
owed_at waiting decided held = waiting + decided + waiting + cond held 1 0

-- a channel that is handed on owes one less: the freeing is done, and the first who waits has only to end its wait and to free
handed-less : (waiting : List (Waiter Manner)) (decided : List (Decision ChanReply)) →
    1 + owed_at (length (decides_first Got waiting decided).waiting) (length (decides_first Got waiting decided).decided)
    (is_some (option_map held_by (slice_get waiting 0)))
    ≤ owed_at (length waiting) (length decided) true
handed-less [] decided = omega arith
handed-less (w ∷ ws) decided = let more = length-append decided (decide Got w ∷ []) in omega arith

-- and never more than two more, whoever held it
handed-most : (waiting : List (Waiter Manner)) (decided : List (Decision ChanReply)) (held : Bool) →
    owed_at (length (decides_first Got waiting decided).waiting) (length (decides_first Got waiting decided).decided)
    (is_some (option_map held_by (slice_get waiting 0)))
    ≤ owed_at (length waiting) (length decided) held + 2
handed-most [] decided held = omega arith
handed-most (w ∷ ws) decided held = let more = length-append decided (decide Got w ∷ []) in omega arith

freed-adds : (may : Bool) (c : Channel) → owed_entries (cond may (handed_on c) c) ≤ owed_entries c + 2
freed-adds true c = handed-most c.waits.waiting c.waits.decided (is_some c.holder)
freed-adds false c = omega arith

-- where somebody holds the channel in such a manner, somebody holds it
held-so : (p : Holder → Bool) (holder : Option Holder) → option_map_or p holder false ≡ true → is_some holder ≡ true
held-so p None so = absurd (cc)
held-so p (Some holder) so = refl

freed-gives : (may : Bool) (c : Channel) → may ≡ true → is_some c.holder ≡ true →
    1 + owed_entries (cond may (handed_on c) c) ≤ owed_entries c
freed-gives true c is held =
    let less = handed-less c.waits.waiting c.waits.decided in
    subst (λ b. 1 + owed_entries (handed_on c) ≤ owed_at (length c.waits.waiting) (length c.waits.decided) b) (sym held) less
freed-gives false c is held = absurd (cc)

-- who sets or masks owes no more
set-adds : (may : Bool) (c : Channel) (message : List ℕ) →
    owed_entries (cond may (record c { message = message }) c) ≤ owed_entries c + 2
set-adds true c message = omega arith
set-adds false c message = omega arith

-- an operation adds at most two owed entries
pub adds : (c : Channel) (who : Who) (op : ChanOp) → owed_entries (chan_next c who op) ≤ owed_entries c + 2
adds c who (ops.Offer message waits) = offer-adds (is_valid c.valid message) c who waits
adds c who (ops.Enter waits) = gain-adds c.holder c who manners.Enter waits refl
adds c who (ops.Claim waits) = gain-adds c.holder c who manners.Claim waits refl
adds c who (ops.ClaimEnd place) = let most = open-ended-most c.waits who.number place in omega arith
adds c who (ops.ClaimQuit place) =
    let most = open-quitted-most c.waits who.number place in
    let fewer = length-less (is_waiter {M = Manner} who.number place) c.waits.waiting in
    omega arith
adds c who (ops.Set message) = set-adds (holds c who) c message
adds c who ops.List = omega arith
adds c who ops.Get = omega arith
adds c who ops.Free = freed-adds (holds_by_entering c who) c
adds c who ops.Finish = freed-adds (has_claimed c who) c
adds c who (ops.Mask observer on) = omega arith

-- a free is possible where the caller holds the channel so
entered-where : (may : Bool) → is_some (cond may (Some Done) None) ≡ true → may ≡ true
entered-where true some = refl
entered-where false some = absurd (cc)

-- the end of a wait gives one, and so does freeing the channel
pub gives : (c : Channel) (who : Who) (op : ChanOp) → chan_closes c who op ≡ true →
    is_some (chan_reply c who op) ≡ true →
    1 + owed_entries (chan_next c who op) ≤ owed_entries c
gives c who (ops.ClaimEnd place) closes some = let one = open-ended c.waits who.number place some in omega arith
gives c who (ops.ClaimQuit place) closes some =
    let one = open-quitted c.waits who.number place Again some in
    let fewer = length-less (is_waiter {M = Manner} who.number place) c.waits.waiting in
    omega arith
gives c who ops.Free closes some =
    let may = entered-where (holds_by_entering c who) some in
    freed-gives (holds_by_entering c who) c may (held-so (λ h. h.player == who.number && not (is_claim h.manner)) c.holder may)
gives c who ops.Finish closes some =
    freed-gives (has_claimed c who) c closes (held-so (λ h. h.player == who.number && is_claim h.manner) c.holder closes)
gives c who op closes some = absurd (cc)
