-- An observer has waits: those who take.
use Rattle.std.proofs.Common.{◌≡◌, ℕ, Bool, true, false, ltb, cond, Option, Some, None, is_some, List, [], ◌∷◌, ◌++◌, length, refl, sym, ap, subst}
use Rattle.std.proofs.lemmas.Option.{same_Some}
use Rattle.zk_base.specs.declared.ids.Who.{Who}
use Rattle.zk_base.specs.declared.waits.Waiter.{Waiter}
use Rattle.zk_base.specs.Waits.{Waits, decides_first}
use Rattle.zk_base.specs.WaitLaws.{nobody, after_decision, after_entry, HasWaits, IsFirst, KeepsWaits}
use Rattle.zk_base.proofs.WaitsKept.{keeps_waits}
use Rattle.zk_model_bus.specs.declared.observer.ObsOp.{ObsOp}
use Rattle.zk_model_bus.specs.declared.observer.ObsOp.TheVariants as ops
use Rattle.zk_model_bus.specs.declared.observer.ObsReply.{ObsReply}
use Rattle.zk_model_bus.specs.declared.observer.ObsReply.TheVariants.{Off, Pushed, Full, Channel}
use Rattle.zk_model_bus.specs.Observer.{Observer, new_obs, visit_reply, take_reply, obs_reply, visited, taken, obs_next, obs_machine}
use Rattle.zk_model_bus.specs.ObserverWaits.{take_opens, take_decides, takers}
use Rattle.zk_model_bus.specs.ObserverLaws.{OfEachObs}

-- where nobody waits, the first is nobody
first-none : (answer : ObsReply) (ws : Waits Unit ObsReply) → ws.waiting ≡ [] → ws ≡ decides_first answer ws.waiting ws.decided
first-none answer ws none =
    let P : List (Waiter Unit) → Type 0 =
    λ l. ◌≡◌ {A = Waits Unit ObsReply} (record { waiting = l; decided = ws.decided }) (decides_first answer l ws.decided) in
    subst P (sym none) refl

list-moves : (o : Observer) (channel : ℕ) (room : Bool) → o.takers.waiting ≡ [] →
    (cond room (record o { channels = o.channels ++ channel ∷ [] }) o).takers
    ≡ after_decision (take_decides o (ops.Visit channel) (cond room Pushed Full)) o.takers
list-moves o channel true none = first-none (Channel channel) o.takers none
list-moves o channel false none = refl

tell-moves : (capacity : Option ℕ) (waiting : List (Waiter Unit)) (o : Observer) (channel : ℕ) → o.takers.waiting ≡ waiting →
    (visited capacity waiting o channel).takers
    ≡ after_decision (take_decides o (ops.Visit channel) (visit_reply capacity waiting o)) o.takers
tell-moves None waiting o channel is = refl
tell-moves (Some capacity) (w ∷ ws) o channel is = refl
tell-moves (Some capacity) [] o channel is = list-moves o channel (ltb (length o.channels) capacity) is

visit-moves : (o : Observer) (channel : ℕ) (on : Bool) →
    (cond on (visited o.capacity o.takers.waiting o channel) o).takers
    ≡ after_decision (take_decides o (ops.Visit channel) (cond on (visit_reply o.capacity o.takers.waiting o) Off)) o.takers
visit-moves o channel true = tell-moves o.capacity o.takers.waiting o channel refl
visit-moves o channel false = refl

none-moves : (channels : List ℕ) (o : Observer) (who : Who) (waits : Bool) →
    (taken channels o who waits).takers ≡ after_entry o.takers o.entries who nobody
    (take_opens (ops.Take waits) (take_reply channels waits)) None None
none-moves (channel ∷ channels) o who waits = refl
none-moves [] o who true = refl
none-moves [] o who false = refl

take-moves : (o : Observer) (who : Who) (waits : Bool) (reply : ObsReply) (b : Bool) →
    cond b (Some (take_reply o.channels waits)) None ≡ Some reply →
    (cond b (taken o.channels o who waits) o).takers ≡ after_entry o.takers o.entries who nobody
    (take_opens (ops.Take waits) reply) None None
take-moves o who waits reply true is =
    subst (λ (r : ObsReply). (taken o.channels o who waits).takers ≡ after_entry o.takers o.entries who nobody
    (take_opens (ops.Take waits) r) None None)
    (same_Some (take_reply o.channels waits) reply is) (none-moves o.channels o who waits)
take-moves o who waits reply false is = absurd (cc)

obs-moves : (o : Observer) (who : Who) (op : ObsOp) (reply : ObsReply) → obs_reply o who op ≡ Some reply →
    (obs_next o who op).takers ≡ after_entry o.takers o.entries who (takers.decides o op reply) (takers.opens op reply)
    (takers.ends op) (takers.quits op)
obs-moves o who (ops.Visit channel) reply is =
    subst (λ (r : ObsReply). (obs_next o who (ops.Visit channel)).takers
    ≡ after_decision (take_decides o (ops.Visit channel) r) o.takers)
    (same_Some (cond o.enabled (visit_reply o.capacity o.takers.waiting o) Off) reply is) (visit-moves o channel o.enabled)
obs-moves o who (ops.Take waits) reply is = take-moves o who waits reply (is_some o.capacity) is
obs-moves o who (ops.TakeEnd place) reply is = refl
obs-moves o who (ops.TakeQuit place) reply is = refl
obs-moves o who (ops.Enable on) reply is = refl

take-ends : (o : Observer) (who : Who) (op : ObsOp) (place : ℕ) → takers.ends op ≡ Some place →
    obs_reply o who op ≡ obs_reply o who (ops.TakeEnd place)
take-ends o who (ops.TakeEnd at) place is = ap (λ (p : ℕ). obs_reply o who (ops.TakeEnd p)) (same_Some at place is)
take-ends o who op place is = absurd (cc)

take-quits : (o : Observer) (who : Who) (op : ObsOp) (place : ℕ) → takers.quits op ≡ Some place →
    obs_reply o who op ≡ obs_reply o who (ops.TakeQuit place)
take-quits o who (ops.TakeQuit at) place is = ap (λ (p : ℕ). obs_reply o who (ops.TakeQuit p)) (same_Some at place is)
take-quits o who op place is = absurd (cc)

take-opens_alone : (op : ObsOp) (reply : ObsReply) (payload : Unit) → takers.opens op reply ≡ Some payload →
    (takers.ends op ≡ None) × (takers.quits op ≡ None)
take-opens_alone (ops.Take waits) reply payload is = (refl, refl)
take-opens_alone op reply payload is = absurd (cc)

take-ends_alone : (op : ObsOp) (place : ℕ) → takers.ends op ≡ Some place → takers.quits op ≡ None
take-ends_alone (ops.TakeEnd at) place is = refl
take-ends_alone op place is = absurd (cc)

-- an observer has waits: those who take
pub has_takers : HasWaits obs_machine takers
has_takers = record {
  counts = λ o who op. refl;
  moves = obs-moves;
  ends = take-ends;
  quits = take-quits;
  opens_alone = take-opens_alone;
  ends_alone = take-ends_alone;
}

pub first_takers : (capacity : Option ℕ) → IsFirst takers (new_obs capacity)
first_takers capacity = record { none = refl; new = refl }

pub takers_hold : OfEachObs (KeepsWaits obs_machine takers)
takers_hold capacity h legal = keeps_waits obs_machine takers has_takers (new_obs capacity) h (first_takers capacity) legal.0
