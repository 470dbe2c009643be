-- What goes through a subscriber's list, along a history.
use Rattle.std.proofs.Common.{◌≡◌, ℕ, suc, ◌<◌, ◌≤◌, All, Bool, true, false, ltb, cond, Option, Some, None, is_some, List, [], ◌∷◌, ◌++◌, length, refl, sym, ap, subst, ◌∙◌, append_assoc, append-nil, arith}
use Rattle.std.proofs.lemmas.Bool.{ltb-true}
use Rattle.std.proofs.lemmas.List.{length-append}
use Rattle.std.proofs.lemmas.List.Elements.{All-head}
use Rattle.std.proofs.lemmas.Option.{same_Some}
use Rattle.zk_base.specs.declared.ids.Who.{Who}
use Rattle.zk_base.specs.declared.waits.Waiter.{Waiter}
use Rattle.zk_base.specs.Legal.{Replays}
use Rattle.zk_base.specs.Lists.{without_first}
use Rattle.zk_base.specs.Waits.{is_waiter, decides_first}
use Rattle.zk_base.specs.WaitLaws.{decided_at, handed_by}
use Rattle.zk_base.proofs.Handed.{some-waits, nothing-there, handed-none, handed-first}
use Rattle.zk_base.proofs.Histories.{state_after-append, Replays-front, Replays-rest}
use Rattle.zk_base.proofs.WaitDecisions.{waits-apart}
use Rattle.zk_model_bus.specs.declared.observer.ObsOp.{ObsOp}
use Rattle.zk_model_bus.specs.declared.observer.ObsOp.TheVariants as ops
use Rattle.zk_model_bus.specs.declared.observer.ObsReply.{ObsReply}
use Rattle.zk_model_bus.specs.declared.observer.ObsReply.TheVariants.{Off, Pushed, Full, Channel}
use Rattle.zk_model_bus.specs.Observer.{Observer, new_obs, visit_reply, take_reply, obs_reply, visited, taken, obs_next, obs_machine}
use Rattle.zk_model_bus.specs.ObserverWaits.{takers}
use Rattle.zk_model_bus.specs.ObserverLaws.{ObsHistory, OfEachObs, obs_after_all, channel_of, pushed, handed_out, all_pushed, all_handed_out, TakenInOrder, NoneWaitsWhileChannels, WithinCapacity}
use Rattle.zk_model_bus.proofs.ObserverWaits.{has_takers, first_takers}

-- what each operation keeps: the capacity, nobody who waits beside a channel, no more channels than the capacity, and
-- none at a listener
pub record IsServed (capacity : Option ℕ) (o : Observer) : Type 0 where
  pub same : o.capacity ≡ capacity
  pub none : 0 < length o.channels → o.takers.waiting ≡ []
  pub within : (most : ℕ) → capacity ≡ Some most → length o.channels ≤ most
  pub listener : capacity ≡ None → o.channels ≡ []

list-served : (capacity : Option ℕ) (most : ℕ) (o : Observer) (channel : ℕ) (room : Bool) → capacity ≡ Some most →
    ltb (length o.channels) most ≡ room → o.takers.waiting ≡ [] → IsServed capacity o →
    IsServed capacity (cond room (record o { channels = o.channels ++ channel ∷ [] }) o)
list-served capacity most o channel true has below nobody is =
    let less = ltb-true (length o.channels) most below in
    let long = length-append o.channels (channel ∷ []) in
    record {
      same = is.same;
      none = λ above. nobody;
      within = λ other also. let equal = same_Some most other (sym has ∙ also) in omega arith;
      listener = λ listens. absurd (let both = sym has ∙ listens in cc);
    }
list-served capacity most o channel false has full nobody is = is

tell-served : (capacity own : Option ℕ) (waiting : List (Waiter Unit)) (o : Observer) (channel : ℕ) → o.capacity ≡ own →
    o.takers.waiting ≡ waiting → IsServed capacity o →
    IsServed capacity (visited own waiting o channel)
tell-served capacity None waiting o channel has waits is = is
tell-served capacity (Some most) (w ∷ ws) o channel has some is = record {
  same = is.same;
  none = λ above. absurd (some-waits w ws o.takers.waiting some (is.none above));
  within = is.within;
  listener = is.listener;
}
tell-served capacity (Some most) [] o channel has nobody is =
    list-served capacity most o channel (ltb (length o.channels) most) (sym is.same ∙ has) refl nobody is

take-served : (capacity : Option ℕ) (channels : List ℕ) (o : Observer) (who : Who) (waits : Bool) →
    o.channels ≡ channels → IsServed capacity o → IsServed capacity (taken channels o who waits)
take-served capacity (channel ∷ channels) o who waits has is =
    let long : length o.channels ≡ suc (length channels) = ap length has in
    record {
      same = is.same;
      none = λ above. is.none (omega arith);
      within = λ most own. let within = is.within most own in omega arith;
      listener = λ listens. absurd (let both = sym has ∙ is.listener listens in cc);
    }
take-served capacity [] o who true none is =
    let long : length o.channels ≡ 0 = ap length none in
    record { same = is.same; none = λ above. absurd (omega arith); within = is.within; listener = is.listener }
take-served capacity [] o who false none is = is

if-served : (capacity : Option ℕ) (b : Bool) (x y : Observer) → IsServed capacity x → IsServed capacity y →
    IsServed capacity (cond b x y)
if-served capacity true x y first second = first
if-served capacity false x y first second = second

next-served : (capacity : Option ℕ) (o : Observer) (who : Who) (op : ObsOp) → IsServed capacity o →
    IsServed capacity (obs_next o who op)
next-served capacity o who (ops.Visit channel) is =
    let after = if-served capacity o.enabled (visited o.capacity o.takers.waiting o channel) o
    (tell-served capacity o.capacity o.takers.waiting o channel refl refl is) is in
    record { same = after.same; none = after.none; within = after.within; listener = after.listener }
next-served capacity o who (ops.Take waits) is =
    let after = if-served capacity (is_some o.capacity) (taken o.channels o who waits) o
    (take-served capacity o.channels o who waits refl is) is in
    record { same = after.same; none = after.none; within = after.within; listener = after.listener }
next-served capacity o who (ops.TakeEnd place) is =
    record { same = is.same; none = is.none; within = is.within; listener = is.listener }
next-served capacity o who (ops.TakeQuit place) is = record {
  same = is.same;
  none = λ above. ap (without_first (is_waiter who.number place)) (is.none above);
  within = is.within;
  listener = is.listener;
}
next-served capacity o who (ops.Enable on) is =
    record { same = is.same; none = is.none; within = is.within; listener = is.listener }

served-all : (capacity : Option ℕ) (o : Observer) (h : ObsHistory) → IsServed capacity o → IsServed capacity (obs_after_all o h)
served-all capacity o [] is = is
served-all capacity o (e ∷ es) is = served-all capacity (obs_next o e.who e.op) es (next-served capacity o e.who e.op is)

-- what a history keeps
pub served-after : (capacity : Option ℕ) (h : ObsHistory) → IsServed capacity (obs_after_all (new_obs capacity) h)
served-after capacity h =
    served-all capacity (new_obs capacity) h
    (record { same = refl; none = λ above. refl; within = λ most own. omega arith; listener = λ listens. refl })

pub none_waits_while_channels : OfEachObs NoneWaitsWhileChannels
none_waits_while_channels capacity h legal above = (served-after capacity h).none above

pub within_capacity : OfEachObs WithinCapacity
within_capacity capacity h legal =
    record { subscriber = (served-after capacity h).within; listener = (served-after capacity h).listener }

-- An entry puts behind what it pushes, and takes off the front what it hands out.

-- an entry that hands out and pushes nothing
nothing-passes : (o : Observer) → o.channels ++ [] ≡ handed_by channel_of o.takers o.takers.decided ++ o.channels
nothing-passes o = append-nil o.channels ∙ sym (ap (λ (l : List ℕ). l ++ o.channels) (handed-none channel_of o.takers))

tell-passes : (own : Option ℕ) (waiting : List (Waiter Unit)) (o : Observer) (channel : ℕ) → o.takers.waiting ≡ waiting →
    (0 < length o.channels → o.takers.waiting ≡ []) →
    All (λ (w : Waiter Unit). decided_at w.place o.takers ≡ 0) o.takers.waiting →
    o.channels ++ pushed (ops.Visit channel) (visit_reply own waiting o) ≡ handed_by channel_of o.takers
    (visited own waiting o channel).takers.decided ++ (visited own waiting o channel).channels
tell-passes None waiting o channel is none apart = nothing-passes o
tell-passes (Some most) (w ∷ ws) o channel some none apart =
    let empty = nothing-there o.channels w ws o.takers.waiting some none in
    let P : Waiter Unit → Type 0 = λ (v : Waiter Unit). decided_at v.place o.takers ≡ 0 in
    let first_apart = All-head P w ws (subst (All P) some apart) in
    let L : List (Waiter Unit) → Type 0 =
    λ l. handed_by channel_of o.takers (decides_first (Channel channel) l o.takers.decided).decided ≡ channel ∷ [] in
    let first : L o.takers.waiting = subst L (sym some) (handed-first channel_of o.takers w (Channel channel) first_apart) in
    ap (λ (l : List ℕ). l ++ channel ∷ []) empty
    ∙ sym (ap (λ (l : List ℕ). l ++ o.channels) first ∙ ap (λ (l : List ℕ). channel ∷ l) empty)
tell-passes (Some most) [] o channel nobody none apart = by (ltb (length o.channels) most) where
  by : (room : Bool) → o.channels ++ pushed (ops.Visit channel) (cond room Pushed Full)
      ≡ handed_by channel_of o.takers (cond room (record o { channels = o.channels ++ channel ∷ [] }) o).takers.decided
      ++ (cond room (record o { channels = o.channels ++ channel ∷ [] }) o).channels
  by true = sym (ap (λ (l : List ℕ). l ++ (o.channels ++ channel ∷ [])) (handed-none channel_of o.takers))
  by false = nothing-passes o

visit-passes : (o : Observer) (channel : ℕ) (on : Bool) → (0 < length o.channels → o.takers.waiting ≡ []) →
    All (λ (w : Waiter Unit). decided_at w.place o.takers ≡ 0) o.takers.waiting →
    o.channels ++ pushed (ops.Visit channel) (cond on (visit_reply o.capacity o.takers.waiting o) Off)
    ≡ handed_by channel_of o.takers (cond on (visited o.capacity o.takers.waiting o channel) o).takers.decided
    ++ (cond on (visited o.capacity o.takers.waiting o channel) o).channels
visit-passes o channel true none apart = tell-passes o.capacity o.takers.waiting o channel refl none apart
visit-passes o channel false none apart = nothing-passes o

none-passes : (channels : List ℕ) (o : Observer) (who : Who) (waits : Bool) → o.channels ≡ channels →
    channels ++ [] ≡ channel_of (take_reply channels waits) ++ (taken channels o who waits).channels
none-passes (channel ∷ channels) o who waits has = append-nil (channel ∷ channels)
none-passes [] o who true none = sym none
none-passes [] o who false none = sym none

take-passes : (o : Observer) (who : Who) (waits : Bool) (reply : ObsReply) (b : Bool) →
    cond b (Some (take_reply o.channels waits)) None ≡ Some reply →
    o.channels ++ [] ≡ channel_of reply ++ (cond b (taken o.channels o who waits) o).channels
take-passes o who waits reply true is =
    subst (λ (r : ObsReply). o.channels ++ [] ≡ channel_of r ++ (taken o.channels o who waits).channels)
    (same_Some (take_reply o.channels waits) reply is) (none-passes o.channels o who waits refl)
take-passes o who waits reply false is = absurd (cc)

next-passes : (o : Observer) (who : Who) (op : ObsOp) (reply : ObsReply) →
    (0 < length o.channels → o.takers.waiting ≡ []) →
    All (λ (w : Waiter Unit). decided_at w.place o.takers ≡ 0) o.takers.waiting →
    obs_reply o who op ≡ Some reply →
    o.channels ++ pushed op reply ≡ handed_out o (obs_next o who op) op reply ++ (obs_next o who op).channels
next-passes o who (ops.Visit channel) reply none apart told =
    subst (λ (r : ObsReply). o.channels ++ pushed (ops.Visit channel) r ≡ handed_by channel_of o.takers
    (obs_next o who (ops.Visit channel)).takers.decided ++ (obs_next o who (ops.Visit channel)).channels)
    (same_Some (cond o.enabled (visit_reply o.capacity o.takers.waiting o) Off) reply told)
    (visit-passes o channel o.enabled none apart)
next-passes o who (ops.Take waits) reply none apart told = take-passes o who waits reply (is_some o.capacity) told
next-passes o who op reply none apart told = append-nil o.channels

passes-all : (capacity : Option ℕ) (o : Observer) (h : ObsHistory) → IsServed capacity o →
    ((front rest : ObsHistory) → h ≡ front ++ rest →
    All (λ (w : Waiter Unit). decided_at w.place (obs_after_all o front).takers ≡ 0)
    (obs_after_all o front).takers.waiting) → Replays obs_machine o h →
    o.channels ++ all_pushed h ≡ all_handed_out o h ++ (obs_after_all o h).channels
passes-all capacity o [] is apart replays = append-nil o.channels
passes-all capacity o (e ∷ es) is apart replays =
    let next = obs_next o e.who e.op in
    let here = next-passes o e.who e.op e.reply is.none (apart [] (e ∷ es) refl) replays.0 in
    let rest = passes-all capacity next es (next-served capacity o e.who e.op is)
    (λ front back parts. apart (e ∷ front) back (ap (λ (l : ObsHistory). e ∷ l) parts)) replays.1 in
    let added = pushed e.op e.reply in
    let gone = handed_out o next e.op e.reply in
    sym (append_assoc o.channels added (all_pushed es)) ∙ ap (λ (l : List ℕ). l ++ all_pushed es) here
    ∙ append_assoc gone next.channels (all_pushed es) ∙ ap (λ (l : List ℕ). gone ++ l) rest
    ∙ sym (append_assoc gone (all_handed_out next es) (obs_after_all next es).channels)

pub taken_in_order : OfEachObs TakenInOrder
taken_in_order capacity h legal front part parts =
    let new = new_obs capacity in
    let o = obs_after_all new front in
    let both = subst (Replays obs_machine new) parts legal.0 in
    let whole = ap (obs_after_all new) parts ∙ state_after-append obs_machine new front part in
    let P : Observer → Type 0 = λ o. All (λ (w : Waiter Unit). decided_at w.place o.takers ≡ 0) o.takers.waiting in
    let apart : (f r : ObsHistory) → part ≡ f ++ r → P (obs_after_all o f) = λ f r split.
    let all = subst (Replays obs_machine new) (ap (λ (l : ObsHistory). front ++ l) split ∙ sym (append_assoc front f r)) both in
    subst P (state_after-append obs_machine new front f)
    (waits-apart obs_machine takers has_takers new (front ++ f) (first_takers capacity)
    (Replays-front obs_machine new (front ++ f) r all)) in
    passes-all capacity o part (served-after capacity front) apart (Replays-rest obs_machine new front part both)
    ∙ ap (λ (p : Observer). all_handed_out o part ++ p.channels) (sym whole)
