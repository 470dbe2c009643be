-- Arms and fires of the machine, as they are kept.
use Rattle.std.proofs.Common.{◌≡◌, ℕ, ◌<◌, All, Bool, true, false, not, ◌||◌, cond, eqb, ◌==◌, Option, Some, None, List, [], ◌∷◌, map, drop, slice_get, option_map, refl, sym, ap, ◌∙◌, arith}
use Rattle.std.specs.List.{filter, find, list_any}
use Rattle.std.proofs.lemmas.List.Elements.{All-head, All-tail, filter_agree}
use Rattle.zk_base.proofs.Firsts.{counted-any}
use Rattle.zk_base.proofs.Order.{map-by_key}
use Rattle.zk_model_trigger.specs.declared.ops.Cause.{Cause}
use Rattle.zk_model_trigger.specs.declared.parts.Arm.{Arm}
use Rattle.zk_model_trigger.specs.declared.parts.Fire.{Fire}
use Rattle.zk_model_trigger.specs.declared.parts.Occasion.{Occasion}
use Rattle.zk_model_trigger.specs.declared.parts.Occasion.TheVariants.{Posted, Reached}
use Rattle.zk_model_trigger.specs.Arms.{is_waiting, meets, in_order, waiting, fire_of, told_fire, has_live, born}
use Rattle.zk_model_trigger.specs.Arms as model
use Rattle.zk_model_trigger.specs.Steady.{live_of, of_item, IsSound}
use Rattle.zk_model_trigger.specs.Machine.{Triggers}
use Rattle.zk_model_trigger.proofs.Lists.{filter-map, none_counted}
use Rattle.zk_model_trigger.proofs.Changing.{count-live, count-waiting}
use Rattle.zk_trigger.specs.declared.live.LiveFire.{LiveFire}
use Rattle.zk_trigger.specs.Live.{meets_sought, deadline_time, sought_order, all_sought, fire_live, is_arm_of, is_fire_of, has_item, waits_with, fires_with, told_live, kept, kept_fire, sought_by}
use Rattle.zk_trigger.proofs.Bits.{meets-kept}

-- those that aren't sought
pub others-kept : (o : Occasion) (arms : List Arm) →
    filter (λ a. not (meets_sought (sought_by o) a)) (map kept arms) ≡ map kept (filter (λ a. not (meets o a)) arms)
others-kept o arms =
    filter-map (λ a. not (meets_sought (sought_by o) a)) kept arms
    ∙ ap (map kept) (filter_agree (λ a. not (meets_sought (sought_by o) (kept a))) (λ a. not (meets o a))
    (λ a. ap not (meets-kept o a)) arms)

-- in the same order
order-kept : (o : Occasion) (arms : List Arm) → sought_order (sought_by o) (map kept arms) ≡ map kept (in_order o arms)
order-kept (Posted event) arms = refl
order-kept (Reached time) arms = sym (map-by_key kept deadline_time arms)

pub found-kept : (o : Occasion) (arms : List Arm) →
    all_sought (sought_by o) (map kept arms) ≡ map kept (in_order o (filter (meets o) arms))
found-kept o arms =
    ap (sought_order (sought_by o)) (filter-map (meets_sought (sought_by o)) kept arms
    ∙ ap (map kept) (filter_agree (λ a. meets_sought (sought_by o) (kept a)) (meets o) (meets-kept o) arms))
    ∙ order-kept o (filter (meets o) arms)

pub fires-kept : (cause : Cause) (arms : List Arm) →
    map (fire_live cause) (map kept arms) ≡ map kept_fire (map (fire_of cause) arms)
fires-kept cause [] = refl
fires-kept cause (x ∷ xs) = ap (λ (l : List LiveFire). fire_live cause (kept x) ∷ l) (fires-kept cause xs)

-- without the item's
pub other_items-kept : (item : ℕ) (arms : List Arm) →
    filter (λ a. not (is_arm_of item a)) (map kept arms) ≡ map kept (filter (λ a. not (of_item item a)) arms)
other_items-kept item arms = filter-map (λ a. not (is_arm_of item a)) kept arms

-- one of the item waits
pub any-kept : (item : ℕ) (arms : List Arm) → list_any (is_arm_of item) (map kept arms) ≡ list_any (of_item item) arms
any-kept item [] = refl
any-kept item (x ∷ xs) = ap (λ (b : Bool). eqb x.item item || b) (any-kept item xs)

any-fire : (item : ℕ) (fires : List Fire) →
    list_any (is_fire_of item) (map kept_fire fires) ≡ list_any (λ f. f.arm.item == item) fires
any-fire item [] = refl
any-fire item (x ∷ xs) = ap (λ (b : Bool). eqb x.arm.item item || b) (any-fire item xs)

-- the item has a live arm where one of it waits or a fire of it isn't taken
pub has-kept : (s : Triggers) (item : ℕ) → IsSound s →
    has_item (map kept (waiting s.arms)) (map kept_fire s.fires) item ≡ has_live s.arms item
has-kept s item sound =
    ap (λ (b : Bool). b || list_any (is_fire_of item) (map kept_fire s.fires)) (any-kept item (waiting s.arms))
    ∙ ap (λ (b : Bool). list_any (of_item item) (waiting s.arms) || b) (any-fire item s.fires)
    ∙ by (list_any (of_item item) (waiting s.arms)) (list_any own s.fires) (has_live s.arms item) refl refl refl where
      own : Fire → Bool
      own = λ f. f.arm.item == item

      by : (w f l : Bool) → list_any (of_item item) (waiting s.arms) ≡ w → list_any own s.fires ≡ f →
          has_live s.arms item ≡ l → (w || f) ≡ l
      by true f true some fire live = refl
      by false true true some fire live = refl
      by false false false some fire live = refl
      by true f false some fire live = absurd (
          let there = counted-any (of_item item) (waiting s.arms) some in
          let none = none_counted (live_of item) s.arms live in
          let parts = count-live item s.arms in
          let waits = count-waiting item s.arms in
          omega arith)
      by false true false some fire live = absurd (
          let there = counted-any own s.fires fire in
          let none = none_counted (live_of item) s.arms live in
          let parts = count-live item s.arms in
          let fires = sound.fired item in
          omega arith)
      by false false true some fire live = absurd (
          let there = counted-any (live_of item) s.arms live in
          let parts = count-live item s.arms in
          let waits = count-waiting item s.arms in
          let fires = sound.fired item in
          let none = none_counted (of_item item) (waiting s.arms) some in
          let never = none_counted own s.fires fire in
          omega arith)

-- an arm that is made, by whether it has a cause
pub waits-kept : (a : Arm) (c : Option Cause) → waits_with (kept a) c ≡ map kept (cond (is_waiting (born c)) (a ∷ []) [])
waits-kept a None = refl
waits-kept a (Some cause) = refl

pub made-kept : (a : Arm) (c : Option Cause) → fires_with (kept a) c ≡ map kept_fire (model.fires_with a c)
made-kept a None = refl
made-kept a (Some cause) = refl

-- the first fire is told alike
pub told-kept : (fires : List Fire) →
    option_map told_live (slice_get (map kept_fire fires) 0) ≡ option_map told_fire (slice_get fires 0)
told-kept [] = refl
told-kept (x ∷ xs) = refl

pub rest-kept : (fires : List Fire) → drop 1 (map kept_fire fires) ≡ map kept_fire (drop 1 fires)
rest-kept [] = refl
rest-kept (x ∷ xs) = refl

-- a search by a test that agrees on these
pub find-below : (p q : ℕ → Bool) (bound : ℕ) → ((x : ℕ) → x < bound → p x ≡ q x) → (xs : List ℕ) →
    All (λ x. x < bound) xs → find p xs ≡ find q xs
find-below p q bound agree [] below = refl
find-below p q bound agree (x ∷ xs) below =
    ap (λ (b : Bool). cond b (Some x) (find p xs)) (agree x (All-head (λ y. y < bound) x xs below))
    ∙ ap (λ (o : Option ℕ). cond (q x) (Some x) o) (find-below p q bound agree xs (All-tail (λ y. y < bound) x xs below))
