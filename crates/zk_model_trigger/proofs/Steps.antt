-- What each operation of the machine leaves, told in the words of histories.
use Rattle.std.proofs.Common.{◌≡◌, ℕ, add-zero, ◌+◌, ◌≤◌, All, Bool, true, false, not, ◌&&◌, ◌||◌, cond, eqb, ◌==◌, Option, Some, None, option_map, option_to_list, is_some, List, [], ◌∷◌, ◌++◌, length, map, drop, slice_get, refl, sym, ap, subst, ◌∙◌, ◌⊎◌, inl, inr, arith}
use Rattle.std.specs.List.{filter, filter_map, cons_option, list_any, count_by}
use Rattle.std.proofs.lemmas.Bool.{cases_eq, eq-eqb, ne_eqb, or_parts, and_parts}
use Rattle.std.proofs.lemmas.List.{append-nil, length-append, length-map}
use Rattle.std.proofs.lemmas.List.Elements.{All-nil, All-cons, All-append, All-weaker, filter_passes, filter_map-append}
use Rattle.std.proofs.lemmas.List.Folds.{list_any-append}
use Rattle.std.proofs.lemmas.List.Sums.{sum_by_push, sum_by-append}
use Rattle.std.proofs.lemmas.Option.{same_Some}
use Rattle.zk_base.specs.declared.ids.Who.{Who}
use Rattle.zk_base.specs.Order.{by_key}
use Rattle.zk_base.proofs.Firsts.{one_if, counted-any}
use Rattle.zk_base.proofs.Order.{All-by_key, filter-by_key, filter_all}
use Rattle.zk_model_trigger.specs.declared.ops.Cause.{Cause}
use Rattle.zk_model_trigger.specs.declared.ops.Cause.TheVariants.{Event, Time}
use Rattle.zk_model_trigger.specs.declared.ops.TriggerOp.{TriggerOp}
use Rattle.zk_model_trigger.specs.declared.ops.TriggerOp.TheVariants as ops
use Rattle.zk_model_trigger.specs.declared.ops.TriggerReply.{TriggerReply}
use Rattle.zk_model_trigger.specs.declared.ops.TriggerReply.TheVariants as replies
use Rattle.zk_model_trigger.specs.declared.parts.Arm.{Arm}
use Rattle.zk_model_trigger.specs.declared.parts.Armed.{Armed}
use Rattle.zk_model_trigger.specs.declared.parts.Fire.{Fire}
use Rattle.zk_model_trigger.specs.declared.parts.Occasion.{Occasion}
use Rattle.zk_model_trigger.specs.declared.parts.Occasion.TheVariants.{Posted, Reached}
use Rattle.zk_model_trigger.specs.declared.parts.Change.TheVariants as changes
use Rattle.zk_model_trigger.specs.Arms.{is_waiting, is_fired, is_live, is_among, meets, waiting, chosen, cause_by, fire_of, told_fire, first_cause, change_one, change_all, has_live, has_waiting, born, fires_with, deadline_of, in_order}
use Rattle.zk_model_trigger.specs.Machine.{Triggers, new_triggers, posted, unposted, asked, armed_with, fired, taken, trigger_reply, trigger_next}
use Rattle.zk_model_trigger.specs.Histories.{posts, unposts, ticks_of, is_armed, arms_item, cancels_item, takes_item, firing_order, is_next}
use Rattle.zk_model_trigger.specs.Steady.{waits_of, fired_of, live_of, of_item, IsSound, cause_in, IsQuiet, IsSteady}
use Rattle.zk_model_trigger.proofs.Lists.{filter_true, and_true, none_if_not, filter_agree_on, filter_map-as, filter_map-none, count-cons, count-map, same_any, none_any, none_counted}
use Rattle.zk_model_trigger.proofs.Causes.{among-posted, among-unposted, cause-posted, cause-unposted, cause-reached}
use Rattle.zk_model_trigger.proofs.Putting.{waiting-snoc}
use Rattle.zk_model_trigger.proofs.Changing.{waiting-fire, waiting-cancel, waiting-take, count-live, live-cancel, live-take, fired-take, other-cancel, other-take, fired-cancel, live-fire, fired-fire, any-waiting}

-- the arm that an operation makes, so answered
abbrev pub made_in : Triggers → TriggerOp → TriggerReply → Option Arm
made_in s (ops.Arm item queue events ticks) (replies.Armed number) = Some (asked s item queue events ticks)
made_in s _ _ = None

-- it goes on waiting
abbrev pub goes_on : TriggerOp → TriggerReply → (Arm → Option Cause) → Arm → Bool
goes_on op reply cause a = not (cancels_item a.item op reply) && not (is_some (cause a))

-- the arm that is made, if it has no cause
abbrev pub if_quiet : (Arm → Option Cause) → Option Arm → List Arm
if_quiet cause None = []
if_quiet cause (Some a) = cond (not (is_some (cause a))) (a ∷ []) []

-- the fire of an arm that has a cause
abbrev pub fire_by : (Arm → Option Cause) → Arm → Option Fire
fire_by cause a = option_map (λ c. fire_of c a) (cause a)

-- what an operation, so answered, leaves of a state
pub record IsStep (s s' : Triggers) (op : TriggerOp) (reply : TriggerReply) : Type 0 where
  pub now : s'.now ≡ s.now + ticks_of op
  pub ready : (event : ℕ) → is_among s'.ready event ≡ (posts event op || (is_among s.ready event && not (unposts event op)))
  pub made : length s'.arms ≡ length s.arms + one_if (is_armed reply)
  pub busy : (item : ℕ) → has_live s'.arms item
      ≡ (arms_item item op reply || (has_live s.arms item && not (cancels_item item op reply || takes_item item op reply)))
  pub waits : waiting s'.arms
      ≡ filter (goes_on op reply (cause_in s')) (waiting s.arms) ++ if_quiet (cause_in s') (made_in s op reply)
  pub enough : one_if (is_next op) ≤ length s.fires
  pub fires : s'.fires ≡ drop (one_if (is_next op)) s.fires
      ++ filter_map (fire_by (cause_in s')) (firing_order op (waiting s.arms ++ option_to_list (made_in s op reply)))
  pub sound : IsSound s'

-- with a list that is nothing behind it
or_nothing : (b : Bool) → (b && not (false || false)) ≡ b
or_nothing true = refl
or_nothing false = refl

-- Where nothing fires, those that wait go on and make no fire.

module _ (cause : Arm → Option Cause) (arms : List Arm) (quiet : All (λ a. cause a ≡ None) arms) where
  pub all-go_on : (op : TriggerOp) (reply : TriggerReply) → ((item : ℕ) → cancels_item item op reply ≡ false) →
      filter (goes_on op reply cause) arms ≡ arms
  all-go_on op reply never =
      filter_all (goes_on op reply cause) arms
      (All-weaker (λ a. cause a ≡ None) (λ a. goes_on op reply cause a ≡ true)
      (λ a none. ap (λ (b : Bool). not b && not (is_some (cause a))) (never a.item)
      ∙ ap (λ (o : Option Cause). not (is_some o)) none) arms quiet)

  pub none-fire : filter_map (fire_by cause) arms ≡ []
  none-fire = filter_map-none (fire_by cause) arms
      (All-weaker (λ a. cause a ≡ None) (λ a. fire_by cause a ≡ None)
      (λ a none. ap (option_map (λ (c : Cause). fire_of c a)) none) arms quiet)

-- An arm that is made.

waits-born : (c : Option Cause) → is_waiting (born c) ≡ not (is_some c)
waits-born None = refl
waits-born (Some cause) = refl

live-born : (c : Option Cause) → is_live (born c) ≡ true
live-born None = refl
live-born (Some cause) = refl

fires-born : (a : Arm) (c : Option Cause) → fires_with a c ≡ option_to_list (option_map (λ d. fire_of d a) c)
fires-born a None = refl
fires-born a (Some cause) = refl

one-more : (e b : Bool) → (b || ((e && true) || false)) ≡ (e || (b && not (false || false)))
one-more true true = refl
one-more true false = refl
one-more false true = refl
one-more false false = refl

count-born : (i item : ℕ) (a : Arm) (c : Option Cause) → a.item ≡ item →
    one_if (eqb item i && is_fired (born c)) ≡ count_by (λ (f : Fire). f.arm.item == i) (fires_with a c)
count-born i item a None is = by (eqb item i) where
  by : (b : Bool) → one_if (b && false) ≡ 0
  by true = refl
  by false = refl
count-born i item a (Some cause) is =
    let p : Fire → Bool = λ f. f.arm.item == i in
    let counted = count-cons p (fire_of cause a) [] in
    let same : one_if (eqb item i && true) ≡ one_if (eqb a.item i) =
    ap one_if (and_true (eqb item i)) ∙ ap (λ (n : ℕ). one_if (eqb n i)) (sym is) in
    omega arith

pub armed-step : (s : Triggers) (item queue : ℕ) (events : List ℕ) (ticks : Option ℕ) (c : Option Cause) →
    cause_in s (asked s item queue events ticks) ≡ c → has_live s.arms item ≡ false → IsSound s → IsQuiet s →
    IsStep s (record (armed_with s (asked s item queue events ticks) c) { entries = s.entries + 1 })
    (ops.Arm item queue events ticks) (replies.Armed (length s.arms))
armed-step s item queue events ticks c is free sound quiet = record {
  now = omega arith;
  ready = λ event. sym (and_true (is_among s.ready event));
  made = length-append s.arms (made ∷ []);
  busy = λ i. list_any-append (live_of i) s.arms (made ∷ [])
      ∙ ap (λ (b : Bool). has_live s.arms i || ((eqb item i && b) || false)) (live-born c)
      ∙ one-more (eqb item i) (has_live s.arms i);
  waits = waiting-snoc s.arms made
      ∙ ap (λ (l : List Arm). l ++ cond (is_waiting (born c)) (new ∷ []) []) (sym (all-go_on (cause_in s) (waiting s.arms) quiet
      (ops.Arm item queue events ticks) (replies.Armed (length s.arms)) (λ i. refl)))
      ∙ ap (λ (b : Bool). filter (goes_on (ops.Arm item queue events ticks) (replies.Armed (length s.arms)) (cause_in s))
      (waiting s.arms) ++ cond b (new ∷ []) []) (waits-born c ∙ ap (λ (o : Option Cause). not (is_some o)) (sym is));
  enough = omega arith;
  fires = ap (λ (l : List Fire). s.fires ++ l) (sym (filter_map-append (fire_by (cause_in s)) (waiting s.arms) (new ∷ [])
      ∙ ap (λ (l : List Fire). l ++ filter_map (fire_by (cause_in s)) (new ∷ [])) (none-fire (cause_in s) (waiting s.arms) quiet)
      ∙ own));
  sound = record { one = one; fired = count };
} where
  new : Arm
  new = asked s item queue events ticks

  made : Armed
  made = record { arm = new; life = born c }

  single : (o : Option Cause) → cons_option (option_map (λ d. fire_of d new) o) [] ≡ fires_with new o
  single None = refl
  single (Some cause) = refl

  own : filter_map (fire_by (cause_in s)) (new ∷ []) ≡ fires_with new c
  own = single (cause_in s new) ∙ ap (fires_with new) is

  one : (i : ℕ) → count_by (live_of i) (s.arms ++ made ∷ []) ≤ 1
  one i = by (cases_eq item i) where
    more : count_by (live_of i) (s.arms ++ made ∷ []) ≡ count_by (live_of i) s.arms + one_if (live_of i made)
    more = sum_by_push (λ (a : Armed). one_if (live_of i a)) s.arms made

    at_most : (b : Bool) → one_if b ≤ 1
    at_most true = omega arith
    at_most false = omega arith

    by : (item ≡ i) ⊎ (item ≡ i → ⊥) → count_by (live_of i) (s.arms ++ made ∷ []) ≤ 1
    by (inl same) =
        let none : count_by (live_of i) s.arms ≡ 0 =
        subst (λ n. count_by (live_of n) s.arms ≡ 0) same (none_counted (live_of item) s.arms free) in
        let few = at_most (live_of i made) in
        let all = more in
        omega arith
    by (inr apart) =
        let none : one_if (live_of i made) ≡ 0 = ap (λ (b : Bool). one_if (b && is_live (born c))) (ne_eqb item i apart) in
        let before = sound.one i in
        let all = more in
        omega arith

  count : (i : ℕ) → count_by (fired_of i) (s.arms ++ made ∷ []) ≡ count_by (λ (f : Fire). f.arm.item == i) (s.fires ++ fires_with new c)
  count i =
      let arms = sum_by_push (λ (a : Armed). one_if (fired_of i a)) s.arms made in
      let fires = sum_by-append (λ (f : Fire). one_if (f.arm.item == i)) s.fires (fires_with new c) in
      let before = sound.fired i in
      let born_is = count-born i item new c refl in
      omega arith

-- An arm that is refused, and an event that is unposted: nothing fires.

pub busy-step : (s : Triggers) (item queue : ℕ) (events : List ℕ) (ticks : Option ℕ) → IsSound s → IsQuiet s →
    IsStep s (record s { entries = s.entries + 1 }) (ops.Arm item queue events ticks) replies.Busy
busy-step s item queue events ticks sound quiet = record {
  now = omega arith;
  ready = λ event. sym (and_true (is_among s.ready event));
  made = omega arith;
  busy = λ i. sym (or_nothing (has_live s.arms i));
  waits = sym (append-nil (filter (goes_on op replies.Busy (cause_in s)) (waiting s.arms))
      ∙ all-go_on (cause_in s) (waiting s.arms) quiet op replies.Busy (λ i. refl));
  enough = omega arith;
  fires = sym (ap (λ (l : List Arm). s.fires ++ filter_map (fire_by (cause_in s)) l) (append-nil (waiting s.arms))
      ∙ ap (λ (l : List Fire). s.fires ++ l) (none-fire (cause_in s) (waiting s.arms) quiet) ∙ append-nil s.fires);
  sound = record { one = sound.one; fired = sound.fired };
} where
  op : TriggerOp
  op = ops.Arm item queue events ticks

pub unpost-step : (s : Triggers) (event : ℕ) → IsSound s → IsQuiet s →
    IsStep s (record s { ready = unposted s.ready event; entries = s.entries + 1 }) (ops.Unpost event) replies.Done
unpost-step s event sound quiet = record {
  now = omega arith;
  ready = λ x. among-unposted s.ready event x;
  made = omega arith;
  busy = λ i. sym (or_nothing (has_live s.arms i));
  waits = sym (append-nil (filter (goes_on (ops.Unpost event) replies.Done later) (waiting s.arms))
      ∙ all-go_on later (waiting s.arms) still (ops.Unpost event) replies.Done (λ i. refl));
  enough = omega arith;
  fires = sym (ap (λ (l : List Arm). s.fires ++ filter_map (fire_by later) l) (append-nil (waiting s.arms))
      ∙ ap (λ (l : List Fire). s.fires ++ l) (none-fire later (waiting s.arms) still) ∙ append-nil s.fires);
  sound = record { one = sound.one; fired = sound.fired };
} where
  later : Arm → Option Cause
  later = λ a. first_cause (is_among (unposted s.ready event)) s.now a

  still : All (λ a. later a ≡ None) (waiting s.arms)
  still = All-weaker (λ a. cause_in s a ≡ None) (λ a. later a ≡ None)
      (λ a none. cause-unposted s.ready s.now a none event) (waiting s.arms) quiet

-- What waits for an occasion fires.

module _ (s : Triggers) (o : Occasion) (cause : Arm → Option Cause)
    (said : All (λ a. cause a ≡ cond (meets o a) (Some (cause_by o)) None) (waiting s.arms)) where
  after : List Armed
  after = change_all (changes.Fire o) s.arms

  stays : (m : Bool) → not m ≡ not (is_some (cond m (Some (cause_by o)) None))
  stays true = refl
  stays false = refl

  pub fire-waits : waiting (change_all (changes.Fire o) s.arms) ≡ filter (λ a. not (is_some (cause a))) (waiting s.arms)
  fire-waits =
      waiting-fire o s.arms
      ∙ filter_agree_on (λ a. not (meets o a)) (λ a. not (is_some (cause a))) (waiting s.arms)
      (All-weaker (λ a. cause a ≡ cond (meets o a) (Some (cause_by o)) None)
      (λ a. not (meets o a) ≡ not (is_some (cause a)))
      (λ a is. stays (meets o a) ∙ ap (λ (c : Option Cause). not (is_some c)) (sym is)) (waiting s.arms) said)

  made-of : (a : Arm) (m : Bool) →
      option_map (λ c. fire_of c a) (cond m (Some (cause_by o)) None) ≡ cond m (Some (fire_of (cause_by o) a)) None
  made-of a true = refl
  made-of a false = refl

  fired-as : (xs : List Arm) → All (λ a. cause a ≡ cond (meets o a) (Some (cause_by o)) None) xs →
      filter_map (fire_by cause) xs ≡ map (fire_of (cause_by o)) (filter (meets o) xs)
  fired-as xs so =
      filter_map-as (fire_by cause) (meets o) (fire_of (cause_by o)) xs
      (All-weaker (λ a. cause a ≡ cond (meets o a) (Some (cause_by o)) None)
      (λ a. fire_by cause a ≡ cond (meets o a) (Some (fire_of (cause_by o) a)) None)
      (λ a is. ap (option_map (λ (c : Cause). fire_of c a)) is ∙ made-of a (meets o a)) xs so)

  pub fire-sound : IsSound s → (now n : ℕ) (ready : List ℕ) → IsSound (record {
    now = now;
    entries = n;
    ready = ready;
    arms = change_all (changes.Fire o) s.arms;
    fires = s.fires ++ map (fire_of (cause_by o)) (chosen o s.arms);
  })
  fire-sound sound now n ready = record {
    one = λ i. let before = sound.one i in let same = live-fire o i s.arms in omega arith;
    fired = λ i.
        let before = sound.fired i in
        let more = fired-fire o i s.arms in
        let fires = sum_by-append (λ (f : Fire). one_if (f.arm.item == i)) s.fires
        (map (fire_of (cause_by o)) (chosen o s.arms)) in
        let counted = count-map (λ (f : Fire). f.arm.item == i) (fire_of (cause_by o)) (chosen o s.arms) in
        omega arith;
  }

  pub fire-busy : (i : ℕ) → has_live (change_all (changes.Fire o) s.arms) i ≡ has_live s.arms i
  fire-busy i =
      let same = live-fire o i s.arms in
      same_any (live_of i) (live_of i) (change_all (changes.Fire o) s.arms) s.arms (λ some. omega arith) (λ some. omega arith)

-- in the order of the occasion
fire-fires : (s : Triggers) (o : Occasion) (cause : Arm → Option Cause) →
    All (λ a. cause a ≡ cond (meets o a) (Some (cause_by o)) None) (waiting s.arms) →
    filter_map (fire_by cause) (in_order o (waiting s.arms)) ≡ map (fire_of (cause_by o)) (chosen o s.arms)
fire-fires s (Posted event) cause said = fired-as s (Posted event) cause said (waiting s.arms) said
fire-fires s (Reached time) cause said =
    fired-as s (Reached time) cause said (by_key deadline_of (waiting s.arms))
    (All-by_key (λ a. cause a ≡ cond (meets (Reached time) a) (Some Time) None) deadline_of (waiting s.arms) said)
    ∙ ap (map (fire_of Time)) (filter-by_key (meets (Reached time)) deadline_of (waiting s.arms))

pub post-step : (s : Triggers) (event : ℕ) → IsSound s → IsQuiet s →
    IsStep s (record (fired (record s { ready = posted s.ready event }) (Posted event)) { entries = s.entries + 1 })
    (ops.Post event) replies.Done
post-step s event sound quiet = record {
  now = omega arith;
  ready = λ x. among-posted s.ready event x ∙ ap (λ (b : Bool). eqb event x || b) (sym (and_true (is_among s.ready x)));
  made = length-map s.arms (change_one (changes.Fire (Posted event))) ∙ sym (add-zero (length s.arms));
  busy = λ i. fire-busy s (Posted event) later said i ∙ sym (or_nothing (has_live s.arms i));
  waits = fire-waits s (Posted event) later said
      ∙ sym (append-nil (filter (goes_on (ops.Post event) replies.Done later) (waiting s.arms)));
  enough = omega arith;
  fires = ap (λ (l : List Fire). s.fires ++ l) (sym (
      ap (filter_map (fire_by later)) (append-nil (waiting s.arms)) ∙ fire-fires s (Posted event) later said));
  sound = fire-sound s (Posted event) later said sound s.now (s.entries + 1) (posted s.ready event);
} where
  later : Arm → Option Cause
  later = λ a. first_cause (is_among (posted s.ready event)) s.now a

  said : All (λ a. later a ≡ cond (meets (Posted event) a) (Some (Event event)) None) (waiting s.arms)
  said = All-weaker (λ a. cause_in s a ≡ None) (λ a. later a ≡ cond (meets (Posted event) a) (Some (Event event)) None)
      (λ a none. cause-posted s.ready s.now a none event) (waiting s.arms) quiet

pub tick-step : (s : Triggers) (ticks : ℕ) → IsSound s → IsQuiet s →
    IsStep s (record (fired (record s { now = s.now + ticks }) (Reached (s.now + ticks))) { entries = s.entries + 1 })
    (ops.Tick ticks) (replies.Now (s.now + ticks))
tick-step s ticks sound quiet = record {
  now = refl;
  ready = λ x. sym (and_true (is_among s.ready x));
  made = length-map s.arms (change_one (changes.Fire (Reached time))) ∙ sym (add-zero (length s.arms));
  busy = λ i. fire-busy s (Reached time) later said i ∙ sym (or_nothing (has_live s.arms i));
  waits = fire-waits s (Reached time) later said
      ∙ sym (append-nil (filter (goes_on (ops.Tick ticks) (replies.Now time) later) (waiting s.arms)));
  enough = omega arith;
  fires = ap (λ (l : List Fire). s.fires ++ l) (sym (
      ap (λ (l : List Arm). filter_map (fire_by later) (by_key deadline_of l)) (append-nil (waiting s.arms))
      ∙ fire-fires s (Reached time) later said));
  sound = fire-sound s (Reached time) later said sound time (s.entries + 1) s.ready;
} where
  time : ℕ
  time = s.now + ticks

  later : Arm → Option Cause
  later = λ a. first_cause (is_among s.ready) time a

  said : All (λ a. later a ≡ cond (meets (Reached time) a) (Some Time) None) (waiting s.arms)
  said = All-weaker (λ a. cause_in s a ≡ None) (λ a. later a ≡ cond (meets (Reached time) a) (Some Time) None)
      (λ a none. cause-reached s.ready s.now a none time) (waiting s.arms) quiet

-- An item's arm is given up.

none-is : {A : Type 0} (p : A → Bool) (xs : List A) → list_any p xs ≡ false → All (λ x. not (p x) ≡ true) xs
none-is {A} p [] none = All-nil (λ x. not (p x) ≡ true)
none-is {A} p (x ∷ xs) none =
    let parts = or_parts (p x) (list_any p xs) none in
    All-cons (λ y. not (p y) ≡ true) x xs (ap not parts.0) (none-is p xs parts.1)

module _ (s : Triggers) (item : ℕ) (sound : IsSound s) (quiet : IsQuiet s) where
  left : List Armed
  left = change_all (changes.Cancel item) s.arms

  cancel-sound : IsSound (record s { arms = change_all (changes.Cancel item) s.arms; entries = s.entries + 1 })
  cancel-sound = record {
    one = λ i. by i (cases_eq i item);
    fired = λ i. fired-cancel i item s.arms ∙ sound.fired i;
  } where
    by : (i : ℕ) → (i ≡ item) ⊎ (i ≡ item → ⊥) → count_by (live_of i) (change_all (changes.Cancel item) s.arms) ≤ 1
    by i (inl same) =
        subst (λ n. count_by (live_of n) (change_all (changes.Cancel item) s.arms) ≤ 1) (sym same)
        (let all = live-cancel item s.arms in let before = sound.one item in omega arith)
    by i (inr apart) = let same = other-cancel is_live i item s.arms apart in let before = sound.one i in omega arith

  cancel-fires : s.fires ≡ s.fires ++ filter_map (fire_by (cause_in s)) (waiting s.arms ++ [])
  cancel-fires = sym (ap (λ (l : List Arm). s.fires ++ filter_map (fire_by (cause_in s)) l) (append-nil (waiting s.arms))
      ∙ ap (λ (l : List Fire). s.fires ++ l) (none-fire (cause_in s) (waiting s.arms) quiet) ∙ append-nil s.fires)

  cancel-other : (i : ℕ) → (i ≡ item → ⊥) → has_live (change_all (changes.Cancel item) s.arms) i ≡ has_live s.arms i
  cancel-other i apart =
      let same = other-cancel is_live i item s.arms apart in
      same_any (live_of i) (live_of i) (change_all (changes.Cancel item) s.arms) s.arms (λ some. omega arith) (λ some. omega arith)

  freed : (b : Bool) → false ≡ (b && not (true || false))
  freed true = refl
  freed false = refl

  done : has_waiting s.arms item ≡ true → (i : ℕ) → has_live (change_all (changes.Cancel item) s.arms) i
      ≡ (has_live s.arms i && not (eqb i item || false))
  done waits i = by (cases_eq i item) where
    by : (i ≡ item) ⊎ (i ≡ item → ⊥) →
        has_live (change_all (changes.Cancel item) s.arms) i ≡ (has_live s.arms i && not (eqb i item || false))
    by (inl same) =
        let some = counted-any (waits_of item) s.arms waits in
        let all = live-cancel item s.arms in
        let before = sound.one item in
        let none : count_by (live_of item) (change_all (changes.Cancel item) s.arms) ≡ 0 = omega arith in
        let free : has_live (change_all (changes.Cancel item) s.arms) i ≡ false =
        subst (λ n. has_live (change_all (changes.Cancel item) s.arms) n ≡ false) (sym same)
        (none_any (live_of item) (change_all (changes.Cancel item) s.arms) none) in
        free ∙ freed (has_live s.arms i) ∙ ap (λ (b : Bool). has_live s.arms i && not (b || false)) (sym (eq-eqb i item same))
    by (inr apart) =
        cancel-other i apart ∙ sym (or_nothing (has_live s.arms i))
        ∙ ap (λ (b : Bool). has_live s.arms i && not (b || false)) (sym (ne_eqb i item apart))

  pub cancel-step : has_waiting s.arms item ≡ true →
      IsStep s (record s { arms = change_all (changes.Cancel item) s.arms; entries = s.entries + 1 })
      (ops.Cancel item) replies.Done
  cancel-step waits = record {
    now = omega arith;
    ready = λ x. sym (and_true (is_among s.ready x));
    made = length-map s.arms (change_one (changes.Cancel item)) ∙ sym (add-zero (length s.arms));
    busy = done waits;
    waits = waiting-cancel item s.arms
        ∙ filter_agree_on (λ a. not (of_item item a)) (goes_on (ops.Cancel item) replies.Done (cause_in s)) (waiting s.arms)
        (All-weaker (λ a. cause_in s a ≡ None)
        (λ a. not (of_item item a) ≡ goes_on (ops.Cancel item) replies.Done (cause_in s) a)
        (λ a none. sym (and_true (not (of_item item a)))
        ∙ ap (λ (o : Option Cause). not (of_item item a) && not (is_some o)) (sym none)) (waiting s.arms) quiet)
        ∙ sym (append-nil (filter (goes_on (ops.Cancel item) replies.Done (cause_in s)) (waiting s.arms)));
    enough = omega arith;
    fires = cancel-fires;
    sound = cancel-sound;
  }

  pub inval-step : has_waiting s.arms item ≡ false →
      IsStep s (record s { arms = change_all (changes.Cancel item) s.arms; entries = s.entries + 1 })
      (ops.Cancel item) replies.Inval
  inval-step none = record {
    now = omega arith;
    ready = λ x. sym (and_true (is_among s.ready x));
    made = length-map s.arms (change_one (changes.Cancel item)) ∙ sym (add-zero (length s.arms));
    busy = λ i. by i (cases_eq i item) ∙ sym (or_nothing (has_live s.arms i));
    waits = waiting-cancel item s.arms
        ∙ filter_all (λ a. not (of_item item a)) (waiting s.arms)
        (none-is (of_item item) (waiting s.arms) (sym (any-waiting item s.arms) ∙ none))
        ∙ sym (append-nil (filter (goes_on (ops.Cancel item) replies.Inval (cause_in s)) (waiting s.arms))
        ∙ all-go_on (cause_in s) (waiting s.arms) quiet (ops.Cancel item) replies.Inval (λ i. refl));
    enough = omega arith;
    fires = cancel-fires;
    sound = cancel-sound;
  } where
    by : (i : ℕ) → (i ≡ item) ⊎ (i ≡ item → ⊥) → has_live (change_all (changes.Cancel item) s.arms) i ≡ has_live s.arms i
    by i (inl same) =
        subst (λ n. has_live (change_all (changes.Cancel item) s.arms) n ≡ has_live s.arms n) (sym same)
        (let all = live-cancel item s.arms in
        let zero_waits = none_counted (waits_of item) s.arms none in
        same_any (live_of item) (live_of item) (change_all (changes.Cancel item) s.arms) s.arms
        (λ some. omega arith) (λ some. omega arith))
    by i (inr apart) = cancel-other i apart

-- The first fire is taken.

pub next-step : (s : Triggers) (f : Fire) (rest : List Fire) → s.fires ≡ f ∷ rest → IsSound s → IsQuiet s →
    IsStep s (record (taken s (f ∷ rest)) { entries = s.entries + 1 }) ops.Next (told_fire f)
next-step s f rest is sound quiet = record {
  now = omega arith;
  ready = λ x. sym (and_true (is_among s.ready x));
  made = length-map s.arms (change_one (changes.Take item)) ∙ sym (add-zero (length s.arms));
  busy = λ i. live i (cases_eq i item);
  waits = waiting-take item s.arms ∙ filter_true (waiting s.arms)
      ∙ sym (append-nil (filter (goes_on ops.Next (told_fire f) (cause_in s)) (waiting s.arms))
      ∙ all-go_on (cause_in s) (waiting s.arms) quiet ops.Next (told_fire f) (λ i. refl));
  enough = let long = ap length is in omega arith;
  fires = ap (drop 1) (sym is) ∙ sym (
      ap (λ (l : List Arm). drop 1 s.fires ++ filter_map (fire_by (cause_in s)) l) (append-nil (waiting s.arms))
      ∙ ap (λ (l : List Fire). drop 1 s.fires ++ l) (none-fire (cause_in s) (waiting s.arms) quiet)
      ∙ append-nil (drop 1 s.fires));
  sound = record { one = λ i. at_most i (cases_eq i item); fired = λ i. count i (cases_eq i item) };
} where
  item : ℕ
  item = f.arm.item

  mine : ℕ → Fire → Bool
  mine i = λ g. g.arm.item == i

  left : List Armed
  left = change_all (changes.Take item) s.arms

  counted : (i : ℕ) → count_by (fired_of i) s.arms ≡ one_if (eqb item i) + count_by (mine i) rest
  counted i = sound.fired i ∙ ap (count_by (mine i)) is ∙ count-cons (mine i) f rest

  own : count_by (fired_of item) s.arms ≡ 1 + count_by (mine item) rest
  own = counted item ∙ ap (λ (b : Bool). one_if b + count_by (mine item) rest) (eq-eqb item item refl)

  other : (i : ℕ) → (i ≡ item → ⊥) → count_by (fired_of i) s.arms ≡ count_by (mine i) rest
  other i apart =
      let none : one_if (eqb item i) ≡ 0 = ap one_if (ne_eqb item i (λ same. apart (sym same))) in
      let all = counted i in
      omega arith

  at_most : (i : ℕ) → (i ≡ item) ⊎ (i ≡ item → ⊥) → count_by (live_of i) left ≤ 1
  at_most i (inl same) = subst (λ n. count_by (live_of n) left ≤ 1) (sym same)
      (let parts = live-take item s.arms in let before = sound.one item in omega arith)
  at_most i (inr apart) = let same = other-take is_live i item s.arms apart in let before = sound.one i in omega arith

  count : (i : ℕ) → (i ≡ item) ⊎ (i ≡ item → ⊥) → count_by (fired_of i) left ≡ count_by (mine i) rest
  count i (inl same) = subst (λ n. count_by (fired_of n) left ≡ count_by (mine n) rest) (sym same)
      (let none = fired-take item s.arms in
      let before = sound.one item in
      let parts = count-live item s.arms in
      let mine_is = own in
      omega arith)
  count i (inr apart) = other-take is_fired i item s.arms apart ∙ other i apart

  freed : (b : Bool) → false ≡ (b && not (false || true))
  freed true = refl
  freed false = refl

  live : (i : ℕ) → (i ≡ item) ⊎ (i ≡ item → ⊥) → has_live left i ≡ (has_live s.arms i && not (false || eqb item i))
  live i (inl same) =
      let parts = live-take item s.arms in
      let before = sound.one item in
      let mine_is = own in
      let none : count_by (live_of item) left ≡ 0 = omega arith in
      let free : has_live left i ≡ false =
      subst (λ n. has_live left n ≡ false) (sym same) (none_any (live_of item) left none) in
      free ∙ freed (has_live s.arms i) ∙ ap (λ (b : Bool). has_live s.arms i && not (false || b)) (sym (eq-eqb item i (sym same)))
  live i (inr apart) =
      let kept = other-take is_live i item s.arms apart in
      same_any (live_of i) (live_of i) left s.arms (λ some. omega arith) (λ some. omega arith)
      ∙ sym (or_nothing (has_live s.arms i))
      ∙ ap (λ (b : Bool). has_live s.arms i && not (false || b)) (sym (ne_eqb item i (λ is. apart (sym is))))

-- Each operation that is possible.

module _ (s : Triggers) (who : Who) (sound : IsSound s) (quiet : IsQuiet s) where
  by-arm : (item queue : ℕ) (events : List ℕ) (ticks : Option ℕ) (b : Bool) → has_live s.arms item ≡ b →
      let a = asked s item queue events ticks in
      let next = cond b s (armed_with s a (cause_in s a)) in
      IsStep s (record next { entries = s.entries + 1 }) (ops.Arm item queue events ticks)
      (cond b replies.Busy (replies.Armed (length s.arms)))
  by-arm item queue events ticks true is = busy-step s item queue events ticks sound quiet
  by-arm item queue events ticks false is =
      armed-step s item queue events ticks (cause_in s (asked s item queue events ticks)) refl is sound quiet

  by-cancel : (item : ℕ) (b : Bool) → has_waiting s.arms item ≡ b →
      IsStep s (record s { arms = change_all (changes.Cancel item) s.arms; entries = s.entries + 1 })
      (ops.Cancel item) (cond b replies.Done replies.Inval)
  by-cancel item true is = cancel-step s item sound quiet is
  by-cancel item false is = inval-step s item sound quiet is

  by-next : (reply : TriggerReply) (fires : List Fire) → s.fires ≡ fires →
      option_map told_fire (slice_get fires 0) ≡ Some reply →
      IsStep s (record (taken s fires) { entries = s.entries + 1 }) ops.Next reply
  by-next reply [] is told = absurd (cc)
  by-next reply (f ∷ rest) is told =
      subst (IsStep s (record (taken s (f ∷ rest)) { entries = s.entries + 1 }) ops.Next)
      (same_Some (told_fire f) reply told) (next-step s f rest is sound quiet)

  pub step : (op : TriggerOp) (reply : TriggerReply) → trigger_reply s who op ≡ Some reply →
      IsStep s (trigger_next s who op) op reply
  step (ops.Arm item queue events ticks) reply is =
      subst (IsStep s (trigger_next s who (ops.Arm item queue events ticks)) (ops.Arm item queue events ticks))
      (same_Some (cond (has_live s.arms item) replies.Busy (replies.Armed (length s.arms))) reply is)
      (by-arm item queue events ticks (has_live s.arms item) refl)
  step (ops.Post event) reply is =
      subst (IsStep s (trigger_next s who (ops.Post event)) (ops.Post event)) (same_Some replies.Done reply is)
      (post-step s event sound quiet)
  step (ops.Unpost event) reply is =
      subst (IsStep s (trigger_next s who (ops.Unpost event)) (ops.Unpost event)) (same_Some replies.Done reply is)
      (unpost-step s event sound quiet)
  step (ops.Tick ticks) reply is =
      subst (IsStep s (trigger_next s who (ops.Tick ticks)) (ops.Tick ticks)) (same_Some (replies.Now (s.now + ticks)) reply is)
      (tick-step s ticks sound quiet)
  step (ops.Cancel item) reply is =
      subst (IsStep s (trigger_next s who (ops.Cancel item)) (ops.Cancel item))
      (same_Some (cond (has_waiting s.arms item) replies.Done replies.Inval) reply is)
      (by-cancel item (has_waiting s.arms item) refl)
  step ops.Next reply is = by-next reply s.fires refl is

-- after it no arm that waits has a cause
pub quiet-after : (s s' : Triggers) (op : TriggerOp) (reply : TriggerReply) → IsStep s s' op reply → IsQuiet s'
quiet-after s s' op reply made =
    subst (All (λ a. cause_in s' a ≡ None)) (sym made.waits)
    (All-append (λ a. cause_in s' a ≡ None) (filter on (waiting s.arms)) (if_quiet (cause_in s') (made_in s op reply))
    (All-weaker (λ a. on a ≡ true) (λ a. cause_in s' a ≡ None)
    (λ a is. none_if_not (cause_in s' a)
    ((and_parts (not (cancels_item a.item op reply)) (not (is_some (cause_in s' a))) is).1))
    (filter on (waiting s.arms)) (filter_passes on (waiting s.arms)))
    (none (made_in s op reply))) where
      on : Arm → Bool
      on = goes_on op reply (cause_in s')

      none : (o : Option Arm) → All (λ a. cause_in s' a ≡ None) (if_quiet (cause_in s') o)
      none None = All-nil (λ a. cause_in s' a ≡ None)
      none (Some a) = by (not (is_some (cause_in s' a))) refl where
        by : (b : Bool) → not (is_some (cause_in s' a)) ≡ b → All (λ x. cause_in s' x ≡ None) (cond b (a ∷ []) [])
        by true is =
            All-cons (λ x. cause_in s' x ≡ None) a [] (none_if_not (cause_in s' a) is) (All-nil (λ x. cause_in s' x ≡ None))
        by false is = All-nil (λ x. cause_in s' x ≡ None)

-- it holds of the first state
pub steady-start : IsSteady new_triggers
steady-start = record {
  sound = record { one = λ item. omega arith; fired = λ item. refl };
  quiet = All-nil (λ a. cause_in new_triggers a ≡ None);
}

-- what holds of a state holds after each operation that is possible
pub steady-after : (s : Triggers) (who : Who) (op : TriggerOp) (reply : TriggerReply) → IsSteady s →
    trigger_reply s who op ≡ Some reply → IsSteady (trigger_next s who op)
steady-after s who op reply held is =
    let made = step s who held.sound held.quiet op reply is in
    record { sound = made.sound; quiet = quiet-after s (trigger_next s who op) op reply made }
