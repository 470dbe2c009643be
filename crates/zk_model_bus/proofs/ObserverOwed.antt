-- The laws of the entries that an observer owes, over all states and operations.
use Rattle.std.proofs.Common.{◌≡◌, ℕ, ◌+◌, ◌≤◌, Bool, true, false, cond, nat_lt, Option, Some, None, is_some, List, [], ◌∷◌, ◌++◌, length, refl, arith}
use Rattle.zk_base.specs.declared.ids.Who.{Who}
use Rattle.zk_base.specs.declared.waits.Waiter.{Waiter}
use Rattle.zk_base.specs.Waits.{open_waits}
use Rattle.zk_base.proofs.WaitMoves.{open-joined, open-ended, open-ended-most, open-quitted, open-quitted-most, open-first}
use Rattle.zk_model_bus.specs.declared.observer.ObsOp.{ObsOp}
use Rattle.zk_model_bus.specs.declared.observer.ObsOp.TheVariants as ops
use Rattle.zk_model_bus.specs.declared.observer.ObsReply.TheVariants.{Channel, Again}
use Rattle.zk_model_bus.specs.Observer.{Observer, obs_reply, obs_next, obs_in_range, obs_closes, visited, taken}

-- each entry is counted
pub counts : (o : Observer) (who : Who) (op : ObsOp) → (obs_next o who op).entries ≡ o.entries + 1
counts o who op = refl

-- what is in range stays so
pub ranges : (o : Observer) (who : Who) (op : ObsOp) → obs_in_range (obs_next o who op) ≡ obs_in_range o
ranges o who op = refl

listed-adds : (room : Bool) (o : Observer) (channel : ℕ) →
    open_waits (cond room (record o { channels = o.channels ++ channel ∷ [] }) o).takers ≤ open_waits o.takers
listed-adds true o channel = omega arith
listed-adds false o channel = omega arith

visit-adds : (capacity : Option ℕ) (waiting : List (Waiter Unit)) (o : Observer) (channel : ℕ) →
    open_waits (visited capacity waiting o channel).takers ≤ open_waits o.takers
visit-adds None waiting o channel = omega arith
visit-adds (Some capacity) (w ∷ ws) o channel = let same = open-first (Channel channel) o.takers in omega arith
visit-adds (Some capacity) [] o channel = listed-adds (nat_lt (length o.channels) capacity) o channel

visited-adds : (enabled : Bool) (o : Observer) (channel : ℕ) →
    open_waits (cond enabled (visited o.capacity o.takers.waiting o channel) o).takers ≤ open_waits o.takers
visited-adds true o channel = visit-adds o.capacity o.takers.waiting o channel
visited-adds false o channel = omega arith

take-adds : (channels : List ℕ) (o : Observer) (who : Who) (waits : Bool) →
    open_waits (taken channels o who waits).takers ≤ open_waits o.takers + 2
take-adds (channel ∷ channels) o who waits = omega arith
take-adds [] o who true = let one = open-joined o.takers (record { place = o.entries; who = who; payload = tt }) in omega arith
take-adds [] o who false = omega arith

taken-adds : (subscribes : Bool) (o : Observer) (who : Who) (waits : Bool) →
    open_waits (cond subscribes (taken o.channels o who waits) o).takers ≤ open_waits o.takers + 2
taken-adds true o who waits = take-adds o.channels o who waits
taken-adds false o who waits = omega arith

-- an operation adds at most two owed entries
pub adds : (o : Observer) (who : Who) (op : ObsOp) → open_waits (obs_next o who op).takers ≤ open_waits o.takers + 2
adds o who (ops.Visit channel) = let most = visited-adds o.enabled o channel in omega arith
adds o who (ops.Take waits) = taken-adds (is_some o.capacity) o who waits
adds o who (ops.TakeEnd place) = let most = open-ended-most o.takers who.number place in omega arith
adds o who (ops.TakeQuit place) = let most = open-quitted-most o.takers who.number place in omega arith
adds o who (ops.Enable on) = omega arith

-- the end of a wait gives one
pub gives : (o : Observer) (who : Who) (op : ObsOp) → obs_closes op ≡ true → is_some (obs_reply o who op) ≡ true →
    1 + open_waits (obs_next o who op).takers ≤ open_waits o.takers
gives o who (ops.TakeEnd place) closes some = let one = open-ended o.takers who.number place some in omega arith
gives o who (ops.TakeQuit place) closes some = let one = open-quitted o.takers who.number place Again some in omega arith
gives o who op closes some = absurd (cc)
