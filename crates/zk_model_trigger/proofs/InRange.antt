-- The items and queues of fires are in range.
use Rattle.std.proofs.Common.{◌≡◌, ℕ, ◌+◌, ◌<◌, All, Bool, true, false, ◌&&◌, cond, ltb, Option, Some, None, option_map, List, [], ◌∷◌, length, map, slice_get, subst}
use Rattle.std.specs.List.{filter, list_all}
use Rattle.std.proofs.lemmas.Bool.{and_parts, ltb-true}
use Rattle.std.proofs.lemmas.List.Elements.{All-nil, All-cons, All-head, All-tail, All-append, All-map, All-filter}
use Rattle.zk_base.specs.declared.ids.Who.{Who}
use Rattle.zk_base.specs.Legal.{state_after}
use Rattle.zk_base.proofs.Order.{All-by_key}
use Rattle.zk_model_trigger.specs.declared.ops.Cause.{Cause}
use Rattle.zk_model_trigger.specs.declared.ops.TriggerOp.{TriggerOp}
use Rattle.zk_model_trigger.specs.declared.ops.TriggerOp.TheVariants as ops
use Rattle.zk_model_trigger.specs.declared.ops.TriggerReply.TheVariants as replies
use Rattle.zk_model_trigger.specs.declared.parts.Arm.{Arm}
use Rattle.zk_model_trigger.specs.declared.parts.Armed.{Armed}
use Rattle.zk_model_trigger.specs.declared.parts.Fire.{Fire}
use Rattle.zk_model_trigger.specs.declared.parts.Occasion.{Occasion}
use Rattle.zk_model_trigger.specs.declared.parts.Occasion.TheVariants.{Posted, Reached}
use Rattle.zk_model_trigger.specs.declared.parts.Change.{Change}
use Rattle.zk_model_trigger.specs.declared.parts.Change.TheVariants as changes
use Rattle.zk_model_trigger.specs.Arms.{is_waiting, is_among, meets, in_order, deadline_of, waiting, chosen, cause_by, fire_of, told_fire, first_cause, has_live, change_one, change_all, born, fires_with}
use Rattle.zk_model_trigger.specs.Machine.{Triggers, new_triggers, posted, asked, armed_with, fired, taken, names_in_range, trigger_reply, trigger_next, trigger_machine}
use Rattle.zk_model_trigger.specs.Histories.{TriggerEntry, TriggerHistory, IsTriggerHistory, triggers_after}

-- the item and the queue of an arm are in range
abbrev IsNamed : Arm → Type 0
IsNamed a = (a.item < 256) × (a.queue < 8)

abbrev OfArm : Armed → Type 0
OfArm a = IsNamed a.arm

abbrev OfFire : Fire → Type 0
OfFire f = IsNamed f.arm

record AreNamed (s : Triggers) : Type 0 where
  arms : All OfArm s.arms
  fires : All OfFire s.fires

named-change : (change : Change) (arms : List Armed) → All OfArm arms → All OfArm (change_all change arms)
named-change change arms named = All-map OfArm (change_one change) arms named

named-waiting : (arms : List Armed) → All OfArm arms → All IsNamed (waiting arms)
named-waiting arms named =
    All-map IsNamed (λ (a : Armed). a.arm) (filter (λ (a : Armed). is_waiting a.life) arms)
    (All-filter (λ (a : Armed). is_waiting a.life) OfArm arms named)

named-order : (o : Occasion) (xs : List Arm) → All IsNamed xs → All IsNamed (in_order o xs)
named-order (Posted event) xs named = named
named-order (Reached time) xs named = All-by_key IsNamed deadline_of xs named

named-fired : (s : Triggers) (o : Occasion) → AreNamed s → AreNamed (fired s o)
named-fired s o named = record {
  arms = named-change (changes.Fire o) s.arms named.arms;
  fires = All-append OfFire s.fires (map (fire_of (cause_by o)) (chosen o s.arms)) named.fires
      (All-map OfFire (fire_of (cause_by o)) (chosen o s.arms)
      (named-order o (filter (meets o) (waiting s.arms))
      (All-filter (meets o) IsNamed (waiting s.arms) (named-waiting s.arms named.arms))));
}

named-with : (a : Arm) (c : Option Cause) → IsNamed a → All OfFire (fires_with a c)
named-with a None named = All-nil OfFire
named-with a (Some cause) named = All-cons OfFire (fire_of cause a) [] named (All-nil OfFire)

named-armed : (s : Triggers) (a : Arm) (c : Option Cause) → IsNamed a → AreNamed s → AreNamed (armed_with s a c)
named-armed s a c here named =
    let made : Armed = record { arm = a; life = born c } in
    record {
      arms = All-append OfArm s.arms (made ∷ []) named.arms (All-cons OfArm made [] here (All-nil OfArm));
      fires = All-append OfFire s.fires (fires_with a c) named.fires (named-with a c here);
    }

named-taken : (s : Triggers) (fires : List Fire) → All OfFire fires → AreNamed s → AreNamed (taken s fires)
named-taken s [] all named = named
named-taken s (f ∷ rest) all named = record {
  arms = named-change (changes.Take f.arm.item) s.arms named.arms;
  fires = All-tail OfFire f rest all;
}

either : (b : Bool) (s t : Triggers) → AreNamed s → AreNamed t → AreNamed (cond b s t)
either true s t left right = left
either false s t left right = right

named-changed : (s : Triggers) (who : Who) (op : TriggerOp) → names_in_range op ≡ true → AreNamed s →
    AreNamed (trigger_next s who op)
named-changed s who (ops.Arm item queue events ticks) range named =
    let first = and_parts (ltb item 256) (ltb queue 8 && (ltb 0 (length events) && list_all (λ e. ltb e 64) events)) range in
    let second = and_parts (ltb queue 8) (ltb 0 (length events) && list_all (λ e. ltb e 64) events) first.1 in
    let a = asked s item queue events ticks in
    let c = first_cause (is_among s.ready) s.now a in
    let all = either (has_live s.arms item) s (armed_with s a c) named
    (named-armed s a c (ltb-true item 256 first.0, ltb-true queue 8 second.0) named) in
    record { arms = all.arms; fires = all.fires }
named-changed s who (ops.Post event) range named =
    let all = named-fired (record s { ready = posted s.ready event }) (Posted event)
    (record { arms = named.arms; fires = named.fires }) in
    record { arms = all.arms; fires = all.fires }
named-changed s who (ops.Unpost event) range named = record { arms = named.arms; fires = named.fires }
named-changed s who (ops.Tick ticks) range named =
    let all = named-fired (record s { now = s.now + ticks }) (Reached (s.now + ticks))
    (record { arms = named.arms; fires = named.fires }) in
    record { arms = all.arms; fires = all.fires }
named-changed s who (ops.Cancel item) range named =
    record { arms = named-change (changes.Cancel item) s.arms named.arms; fires = named.fires }
named-changed s who ops.Next range named =
    let all = named-taken s s.fires named.fires named in record { arms = all.arms; fires = all.fires }

named-state : (s : Triggers) (h : TriggerHistory) → All (λ e. names_in_range e.op ≡ true) h → AreNamed s →
    AreNamed (state_after trigger_machine s h)
named-state s [] range named = named
named-state s (e ∷ es) range named =
    let P : TriggerEntry → Type 0 = λ x. names_in_range x.op ≡ true in
    named-state (trigger_next s e.who e.op) es (All-tail P e es range)
    (named-changed s e.who e.op (All-head P e es range) named)

first-named : (fires : List Fire) (number item queue : ℕ) (cause : Cause) → All OfFire fires →
    option_map told_fire (slice_get fires 0) ≡ Some (replies.Fire number item queue cause) → (item < 256) × (queue < 8)
first-named [] number item queue cause named told = absurd (cc)
first-named (f ∷ rest) number item queue cause named told =
    let here = All-head OfFire f rest named in
    let same : f.arm.item ≡ item = cc in
    let to : f.arm.queue ≡ queue = cc in
    (subst (λ n. n < 256) same here.0, subst (λ n. n < 8) to here.1)

-- what is taken after a legal history names an item and a queue in range
pub next-in_range : (h : TriggerHistory) (who : Who) (number item queue : ℕ) (cause : Cause) → IsTriggerHistory h →
    trigger_reply (triggers_after h) who ops.Next ≡ Some (replies.Fire number item queue cause) →
    (item < 256) × (queue < 8)
next-in_range h who number item queue cause legal told =
    let start : AreNamed new_triggers = record { arms = All-nil OfArm; fires = All-nil OfFire } in
    first-named (triggers_after h).fires number item queue cause (named-state new_triggers h legal.2 start).fires told
