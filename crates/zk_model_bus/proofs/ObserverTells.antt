-- What the calls at an observer are told, along a history.
use Rattle.std.proofs.Common.{◌≡◌, ℕ, ◌<◌, Bool, true, false, ltb, cond, Option, Some, None, is_some, List, [], ◌∷◌, ◌++◌, length, refl, sym, ap, subst, ◌∙◌, arith}
use Rattle.std.proofs.lemmas.Bool.{ltb-true, ltb-false}
use Rattle.std.proofs.lemmas.Option.{same_Some}
use Rattle.zk_base.specs.declared.ids.Who.{Who}
use Rattle.zk_base.specs.declared.ids.Entry.{Entry}
use Rattle.zk_base.specs.declared.waits.Waiter.{Waiter}
use Rattle.zk_base.specs.History.{IsEntry}
use Rattle.zk_base.specs.Legal.{Replays}
use Rattle.zk_base.proofs.Histories.{Replays-rest}
use Rattle.zk_base.proofs.WaitDecisions.{said, decides-said}
use Rattle.zk_model_bus.specs.declared.observer.ObsOp.{ObsOp}
use Rattle.zk_model_bus.specs.declared.observer.ObsOp.TheVariants as ops
use Rattle.zk_model_bus.specs.declared.observer.ObsReply.{ObsReply}
use Rattle.zk_model_bus.specs.declared.observer.ObsReply.TheVariants.{Off, Pushed, Full, Channel, Done}
use Rattle.zk_model_bus.specs.Observer.{Observer, new_obs, visit_reply, take_reply, obs_reply, visited, taken, obs_next, obs_machine}
use Rattle.zk_model_bus.specs.ObserverWaits.{take_decides, takers}
use Rattle.zk_model_bus.specs.ObserverLaws.{ObsHistory, OfEachObs, obs_after_all, enabled_by, last_enable, PushIsTold, TakeIsTold, OffWhileDisabled, ListenerRuns, FullOnlyAtCapacity, TakeWaitsOnlyAtNone, TakerDecidedByAPush, ListenerTakesNothing, MayAlways, EnableIsDone}
use Rattle.zk_model_bus.proofs.ObserverOrder.{served-after}
use Rattle.zk_model_bus.proofs.ObserverWaits.{has_takers}

-- what an entry of a history is answered
replied : (o : Observer) (h front : ObsHistory) (e : Entry ObsOp ObsReply) (op : ObsOp) → Replays obs_machine o h →
    IsEntry h front e → e.op ≡ op → obs_reply (obs_after_all o front) e.who op ≡ Some e.reply
replied o h front e op replays at same =
    subst (λ (p : ObsOp). obs_reply (obs_after_all o front) e.who p ≡ Some e.reply) same
    ((Replays-rest obs_machine o front (e ∷ at.rest) (subst (Replays obs_machine o) at.whole replays)).0)

-- Whether it is on.

list-enabled : (o : Observer) (channel : ℕ) (room : Bool) →
    (cond room (record o { channels = o.channels ++ channel ∷ [] }) o).enabled ≡ o.enabled
list-enabled o channel true = refl
list-enabled o channel false = refl

tell-enabled : (own : Option ℕ) (waiting : List (Waiter Unit)) (o : Observer) (channel : ℕ) →
    (visited own waiting o channel).enabled ≡ o.enabled
tell-enabled None waiting o channel = refl
tell-enabled (Some most) (w ∷ ws) o channel = refl
tell-enabled (Some most) [] o channel = list-enabled o channel (ltb (length o.channels) most)

take-enabled : (channels : List ℕ) (o : Observer) (who : Who) (waits : Bool) → (taken channels o who waits).enabled ≡ o.enabled
take-enabled (channel ∷ channels) o who waits = refl
take-enabled [] o who true = refl
take-enabled [] o who false = refl

if-enabled : (on b : Bool) (x y : Observer) → x.enabled ≡ on → y.enabled ≡ on → (cond b x y).enabled ≡ on
if-enabled on true x y first second = first
if-enabled on false x y first second = second

next-enabled : (o : Observer) (who : Who) (op : ObsOp) → (obs_next o who op).enabled ≡ enabled_by op o.enabled
next-enabled o who (ops.Visit channel) = if-enabled o.enabled o.enabled (visited o.capacity o.takers.waiting o channel) o
    (tell-enabled o.capacity o.takers.waiting o channel) refl
next-enabled o who (ops.Take waits) = if-enabled o.enabled (is_some o.capacity) (taken o.channels o who waits) o
    (take-enabled o.channels o who waits) refl
next-enabled o who (ops.TakeEnd place) = refl
next-enabled o who (ops.TakeQuit place) = refl
next-enabled o who (ops.Enable on) = refl

enabled-after : (o : Observer) (h : ObsHistory) → (obs_after_all o h).enabled ≡ last_enable o.enabled h
enabled-after o [] = refl
enabled-after o (e ∷ es) = enabled-after (obs_next o e.who e.op) es
    ∙ ap (λ (on : Bool). last_enable on es) (next-enabled o e.who e.op)

-- What a visit is told.

visit-told : (capacity : Option ℕ) (h front : ObsHistory) (e : Entry ObsOp ObsReply) (channel : ℕ) (on : Bool) →
    Replays obs_machine (new_obs capacity) h → IsEntry h front e →
    e.op ≡ ops.Visit channel → last_enable true front ≡ on →
    e.reply ≡ cond on (visit_reply capacity (obs_after_all (new_obs capacity) front).takers.waiting
    (obs_after_all (new_obs capacity) front)) Off
visit-told capacity h front e channel on replays at op is =
    let o = obs_after_all (new_obs capacity) front in
    sym (same_Some (cond o.enabled (visit_reply o.capacity o.takers.waiting o) Off) e.reply
    (replied (new_obs capacity) h front e (ops.Visit channel) replays at op))
    ∙ ap (λ (b : Bool). cond b (visit_reply o.capacity o.takers.waiting o) Off) (enabled-after (new_obs capacity) front ∙ is)
    ∙ ap (λ (own : Option ℕ). cond on (visit_reply own o.takers.waiting o) Off) (served-after capacity front).same

never-off : (capacity : Option ℕ) (waiting : List (Waiter Unit)) (o : Observer) → visit_reply capacity waiting o ≡ Off → ⊥
never-off None waiting o is = cc
never-off (Some most) (w ∷ ws) o is = cc
never-off (Some most) [] o is = by (ltb (length o.channels) most) is where
  by : (room : Bool) → cond room Pushed Full ≡ Off → ⊥
  by true is = cc
  by false is = cc

pub off_while_disabled : OfEachObs OffWhileDisabled
off_while_disabled capacity h legal = record {
  off = λ front e channel at op is. visit-told capacity h front e channel false legal.0 at op is;
  on = λ front e channel at op is told.
      let o = obs_after_all (new_obs capacity) front in
      never-off capacity o.takers.waiting o (sym (visit-told capacity h front e channel true legal.0 at op is) ∙ told);
}

pub listener_runs : OfEachObs ListenerRuns
listener_runs capacity h legal front e channel at op is listens =
    let o = obs_after_all (new_obs capacity) front in
    visit-told capacity h front e channel true legal.0 at op is
    ∙ ap (λ (own : Option ℕ). visit_reply own o.takers.waiting o) listens

push-told : (most : ℕ) (waiting : List (Waiter Unit)) (o : Observer) → o.takers.waiting ≡ waiting →
    (0 < length o.channels → o.takers.waiting ≡ []) → PushIsTold most o (visit_reply (Some most) waiting o)
push-told most (w ∷ ws) o some none =
    record { handed = λ waits. refl; room = λ below. refl; full = λ nobody full. absurd (let both = sym some ∙ nobody in cc) }
push-told most [] o nobody none = by (ltb (length o.channels) most) refl where
  by : (room : Bool) → ltb (length o.channels) most ≡ room → PushIsTold most o (cond room Pushed Full)
  by true below =
      let less = ltb-true (length o.channels) most below in
      record { handed = λ waits. refl; room = λ is. refl; full = λ none full. absurd (omega arith) }
  by false above =
      let more = ltb-false (length o.channels) most above in
      record { handed = λ waits. absurd (waits nobody); room = λ is. absurd (omega arith); full = λ none full. refl }

pub full_only_at_capacity : OfEachObs FullOnlyAtCapacity
full_only_at_capacity capacity h legal front e channel most at op is has =
    let o = obs_after_all (new_obs capacity) front in
    let told = visit-told capacity h front e channel true legal.0 at op is
    ∙ ap (λ (own : Option ℕ). visit_reply own o.takers.waiting o) has in
    subst (PushIsTold most o) (sym told) (push-told most o.takers.waiting o refl (served-after capacity front).none)

-- What a take is told.

take-told : (channels : List ℕ) (o : Observer) (waits : Bool) → o.channels ≡ channels →
    TakeIsTold o waits (take_reply channels waits)
take-told (c ∷ cs) o waits has = record {
  got = λ d ds is. ap Channel (heads c d cs ds (sym has ∙ is));
  wait = λ none is. absurd (let both = sym has ∙ none in cc);
  none = λ none is. absurd (let both = sym has ∙ none in cc);
} where
  heads : (x y : ℕ) (xs ys : List ℕ) → x ∷ xs ≡ y ∷ ys → x ≡ y
  heads x y xs ys same = cc
take-told [] o true none = record {
  got = λ d ds is. absurd (let both = sym none ∙ is in cc);
  wait = λ empty is. refl;
  none = λ empty is. absurd (cc);
}
take-told [] o false none = record {
  got = λ d ds is. absurd (let both = sym none ∙ is in cc);
  wait = λ empty is. absurd (cc);
  none = λ empty is. refl;
}

given-so : (b : Bool) (given reply : ObsReply) → cond b (Some given) None ≡ Some reply → given ≡ reply
given-so true given reply is = same_Some given reply is
given-so false given reply is = absurd (cc)

pub take_waits_only_at_none : OfEachObs TakeWaitsOnlyAtNone
take_waits_only_at_none capacity h legal front e waits at op =
    let o = obs_after_all (new_obs capacity) front in
    subst (TakeIsTold o waits) (given-so (is_some o.capacity) (take_reply o.channels waits) e.reply
    (replied (new_obs capacity) h front e (ops.Take waits) legal.0 at op)) (take-told o.channels o waits refl)

-- What decides a wait.

decided-so : (o : Observer) (op own : ObsOp) (reply said_so answer : ObsReply) (for : Unit {0}) → op ≡ own → reply ≡ said_so →
    said (take_decides o own said_so) for ≡ Some answer →
    (channel : ℕ) × (op ≡ ops.Visit channel) × (reply ≡ Pushed) × (answer ≡ Channel channel)
decided-so o op (ops.Visit channel) reply Pushed answer for same told is =
    (channel, same, told, sym (same_Some (Channel channel) answer is))
decided-so o op own reply said_so answer for same told is = absurd (cc)

pub taker_decided_by_a_push : OfEachObs TakerDecidedByAPush
taker_decided_by_a_push capacity h legal front e d at decides =
    let new = new_obs capacity in
    let whose = decides-said obs_machine takers has_takers new h legal.0 front e d at decides in
    decided-so (obs_after_all new front) e.op e.op e.reply e.reply d.answer whose.0.payload refl refl whose.3

-- What is possible.

pub listener_takes_nothing : OfEachObs ListenerTakesNothing
listener_takes_nothing capacity h legal = record {
  subscriber = λ who most waits has.
      let reply = take_reply (obs_after_all (new_obs capacity) h).channels waits in
      (reply, ap (λ (own : Option ℕ). cond (is_some own) (Some reply) None) ((served-after capacity h).same ∙ has));
  listener = λ who waits listens.
      let reply = take_reply (obs_after_all (new_obs capacity) h).channels waits in
      ap (λ (own : Option ℕ). cond (is_some own) (Some reply) None) ((served-after capacity h).same ∙ listens);
}

pub may_always : (o : Observer) (h : ObsHistory) → MayAlways o h
may_always o h who (ops.Visit channel) is = (_, refl)
may_always o h who (ops.Enable on) is = (_, refl)
may_always o h who op is = absurd (cc)

pub enable_is_done : OfEachObs EnableIsDone
enable_is_done capacity h legal front e on at op =
    sym (same_Some Done e.reply (replied (new_obs capacity) h front e (ops.Enable on) legal.0 at op))
